-- What is invisible changes no register: whatever the registers of the devices are, each capture is the same with the
-- fault as without, so no scan can tell them apart.
use Rattle.std.specs.Prelude.{⊤, ◌≡◌, List, [], ◌∷◌}
use Rattle.jt_tap.specs.declared.Column.{Column}
use Rattle.board_plan.specs.Planned as planned
use Rattle.board_plan.specs.Planned.{Wiring}
use Rattle.board_model.specs.Cells.{Member}
use Rattle.board_model.specs.Nets.{told}
use Rattle.board_model.specs.Whole.{capture_all}
use Rattle.board_faults.specs.declared.kinds.Way.{Way}
use Rattle.board_faults.specs.Faults.{with_way}
use Rattle.board_faults.specs.Sight.{IsInvisible}

-- these devices of a plan, in whatever registers and with whatever core bits
abbrev pub AreOf : List planned.Member → List Member → Type 0
AreOf [] [] = ⊤
AreOf (p ∷ ps) (m ∷ ms) = (m.device ≡ p.device) × (m.follows ≡ p.follows) × AreOf ps ms
AreOf _ _ = ⊥

-- the law: every capture is the same
abbrev pub InvisibleFaultsAreNotCaptured : Type 0
InvisibleFaultsAreNotCaptured = (w : Wiring) (way : Way) → IsInvisible w way → (ms : List Member) → AreOf w.members ms
    → (column : Column)
    → capture_all column (told w.nets ms) 0 ms ≡ capture_all column (told (with_way way w.nets) ms) 0 ms
