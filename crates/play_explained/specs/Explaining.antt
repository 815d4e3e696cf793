-- Why wanted bits of a program do not come out on a board: each with what was wanted, and what held the bit that came
-- once the registers of its scan had captured.
use Rattle.std.specs.Prelude.{ℕ, List, [], ◌∷◌, ◌++◌, map, take}
use Rattle.jt_tap.specs.declared.Column.{Column}
use Rattle.scan_vectors.specs.declared.failures.Mismatch.{Mismatch}
use Rattle.scan_vectors.specs.Failures.{differing}
use Rattle.scan_vectors.specs.Vector.{VectorBit, tdis}
use Rattle.svf_programs.specs.Steps.{Step, Scan, Numbered, Program}
use Rattle.pin_nets.specs.Wired.{Net}
use Rattle.board_model.specs.Cells.{Member}
use Rattle.board_model.specs.Chain.{BoardState}
use Rattle.board_model.specs.Whole.{AtRest, capture, out, settle}
use Rattle.play_model.specs.DirectPlay.{opened_state}
use Rattle.play_model.specs.Meaning.{after_step}
use Rattle.play_model.specs.Streams.{most_kept}
use Rattle.play_model.specs.declared.kind.Kind.{Kind}
use Rattle.board_reasons.specs.Reasons.{reason}
use Rattle.play_explained.specs.declared.explaining.Explained.{Explained}

-- a failing bit of a vector on devices that have captured
abbrev pub explained_of : List Net → List Member → Column → List VectorBit → Mismatch → Explained
explained_of nets ms column v f = record { failure = f; reason = reason nets ms column v f }

-- the failing bits of a scan from rest
abbrev pub scan_explained : (command : ℕ) → Column → List VectorBit → AtRest → List Explained
scan_explained command column v m =
    let captured = capture column (settle m) in
    map (explained_of captured.nets captured.members column v) (differing command v (out column (tdis v) captured))

abbrev pub step_explained : Numbered → AtRest → List Explained
step_explained s m = of s.what
  where
    of : Step → List Explained
    of (Scan column v end) = scan_explained s.number column v m
    of _ = []

-- those of steps, one after another
abbrev pub explained : List Numbered → AtRest → List Explained
explained [] m = []
explained (s ∷ ss) m = step_explained s m ++ explained ss (after_step s.what m)

-- those of a program on a board, as many as a play of this kind lists
abbrev pub explained_on : Kind → Program → BoardState → List Explained
explained_on kind program before = take (most_kept kind) (explained program.steps (opened_state before))
