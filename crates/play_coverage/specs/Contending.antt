-- Nets whose strong drivers disagree while a program plays: on real parts that is current, and the program is at fault.
use Rattle.std.specs.Prelude.{Bool, false, not, ◌&&◌, ◌||◌, ℕ, suc, List, [], ◌∷◌, ◌++◌, map, length, replicate}
use Rattle.std.specs.Prelude.{if◌then◌else◌}
use Rattle.svf_programs.specs.Steps.{Numbered, Program}
use Rattle.board_model.specs.Chain.{BoardState}
use Rattle.board_model.specs.Nets.{is_opposed}
use Rattle.board_model.specs.Whole.{AtRest}
use Rattle.play_model.specs.DirectPlay.{opened_state}
use Rattle.play_model.specs.Meaning.{after_step}
use Rattle.play_coverage.specs.declared.contending.Contention.{Contention}

-- of each net whether strong drivers of 0 and of 1 are on it
abbrev pub opposed : AtRest → List Bool
opposed m = map (is_opposed m.nets m.members) m.nets

-- the numbers, from k on, of those that are marked now and were not before
abbrev pub newly : (k : ℕ) → (before now : List Bool) → List ℕ
newly k [] now = []
newly k (b ∷ before) [] = []
newly k (b ∷ before) (n ∷ now) = (if n && not b then k ∷ [] else []) ++ newly (suc k) before now

-- what is marked before or now
abbrev pub either : (before now : List Bool) → List Bool
either [] now = []
either (b ∷ before) [] = b ∷ before
either (b ∷ before) (n ∷ now) = (b || n) ∷ either before now

abbrev pub contention : (command net : ℕ) → Contention
contention command net = record { command = command; net = net }

-- Steps, one after another: behind each the nets on which drivers disagree then and on which none did before.
abbrev pub contending : List Numbered → AtRest → (before : List Bool) → List Contention
contending [] m before = []
contending (s ∷ ss) m before =
    let after = after_step s.what m in
    map (contention s.number) (newly 0 before (opposed after)) ++ contending ss after (either before (opposed after))

-- those of a program on a board: each net once, at the first statement after which its drivers disagree
abbrev pub contentions : Program → BoardState → List Contention
contentions program before =
    let opened = opened_state before in
    contending program.steps opened (replicate (length opened.nets) false)
