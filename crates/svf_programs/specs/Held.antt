-- What the code keeps stands for: it names the fields of the statements in which they are written.
use Rattle.std.specs.Prelude.{ℕ, Bool, List, [], Option, Some, None, option_map, option_and_then, slice_get, unwrap_or}
use Rattle.svf_parse.specs.Judging.{Said}
use Rattle.svf_parse.specs.Judging as said
use Rattle.jt_tap.specs.declared.State.{State}
use Rattle.scan_vectors.specs.Fields.{Fields, no_fields, vector_of}
use Rattle.svf_programs.specs.Steps.{Step, Scan, Go, Path, Run, Trst, Numbered}
use Rattle.svf_programs.specs.declared.kept.KeptPart.{KeptPart}
use Rattle.svf_programs.specs.declared.kept.Kept.{Kept}
use Rattle.svf_programs.specs.declared.kept.Kept.TheVariants as kept
use Rattle.svf_programs.specs.declared.kept.KeptStep.{KeptStep}

-- the fields that a statement gives
abbrev pub tdi_of : Said → Option (List Bool)
tdi_of (said.scan which n tdi tdo mask smask) = tdi
tdi_of _ = None

abbrev pub tdo_of : Said → Option (List Bool)
tdo_of (said.scan which n tdi tdo mask smask) = tdo
tdo_of _ = None

abbrev pub mask_of : Said → Option (List Bool)
mask_of (said.scan which n tdi tdo mask smask) = mask
mask_of _ = None

abbrev pub states_of : Said → List State
states_of (said.states path) = path
states_of _ = []

-- the length of a scan
abbrev pub len_in : Option Said → ℕ
len_in (Some (said.scan which n tdi tdo mask smask)) = n
len_in _ = 0

-- a field, by the statement in which it is written
abbrev pub field_at : (Said → Option (List Bool)) → List Said → ℕ → Option (List Bool)
field_at pick all i = option_and_then pick (slice_get all i)

-- The length and what is wanted out are those of the part's own statement.
abbrev pub part_in : List Said → KeptPart → Fields
part_in all p = record {
  len = len_in (slice_get all p.at);
  tdi = field_at tdi_of all p.tdi;
  tdo = field_at tdo_of all p.at;
  mask = field_at mask_of all p.mask;
}

-- a header or trailer, if there is one
abbrev pub parts_in : List Said → Option KeptPart → Option Fields
parts_in all p = option_map (part_in all) p

abbrev pub path_of : Option Said → List State
path_of None = []
path_of (Some s) = states_of s

abbrev pub step_in : List Said → Kept → Step
step_in all (kept.Scan column h b t end) =
    let whole = vector_of (unwrap_or (parts_in all h) no_fields) (part_in all b)
    (unwrap_or (parts_in all t) no_fields) in
    Scan column whole end
step_in all (kept.Go s) = Go s
step_in all (kept.Path i) = Path (path_of (slice_get all i))
step_in all (kept.Run run n end) = Run run n end
step_in all (kept.Trst w) = Trst w

abbrev pub numbered_in : List Said → KeptStep → Numbered
numbered_in all k = record { number = k.number; what = step_in all k.what }
