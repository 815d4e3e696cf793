-- Worked: what stays of the captures of two bare devices. Each captures 0 in BYPASS, and 01 as an instruction: a 1
-- nearest TDO.
use Rattle.std.specs.Prelude.{◌≡◌, true, false, ℕ, List, [], ◌∷◌, replicate, None}
use Rattle.jt_tap.specs.declared.Column.TheVariants.{Dr, Ir}
use Rattle.jt_tap.specs.declared.State.TheVariants.{Reset, Idle, DrSelect, DrCapture, DrExit1, DrPause, IrPause}
use Rattle.scan_vectors.specs.declared.part.Part.TheVariants.{Data}
use Rattle.scan_vectors.specs.Vector.{VectorBit}
use Rattle.svf_programs.specs.Steps.{Scan, Go, Path, Run}
use Rattle.board_model.specs.Bare.{bare_from}
use Rattle.board_model.specs.Whole.{AtRest}
use Rattle.board_faults.specs.Staying.{staying}

-- at RESET, after the opening of a play
abbrev pub two : AtRest
two = record { place = Reset; trst = false; nets = []; members = bare_from 1 2 }

-- a vector of so many bits
abbrev pub bits : ℕ → List VectorBit
bits n = replicate n (record { tdi = true; wanted = None; part = Data; place = 0 })

pub record StayingRows : Type 0 where
  -- a scan as long as the chain leaves nothing, in whichever state that is not the other column's pause it ends
  pub whole : staying (Scan Dr (bits 2) Idle) two ≡ []
  pub in_its_pause : staying (Scan Ir (bits 4) IrPause) two ≡ []
  -- of a shorter one the bits nearest TDI stay
  pub short : staying (Scan Dr (bits 1) Idle) two ≡ false ∷ []
  pub half : staying (Scan Ir (bits 1) Idle) two ≡ false ∷ true ∷ false ∷ []
  -- in the other column's pause its registers have captured
  pub other_pause : staying (Scan Dr (bits 2) IrPause) two ≡ true ∷ false ∷ true ∷ false ∷ []
  pub on_arriving : staying (Go DrPause) two ≡ false ∷ false ∷ []
  pub at_rest : staying (Run Idle 5 Idle) two ≡ []
  pub along_a_path : staying (Path (Idle ∷ DrSelect ∷ DrCapture ∷ DrExit1 ∷ DrPause ∷ [])) two ≡ false ∷ false ∷ []
