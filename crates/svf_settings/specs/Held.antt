-- What the settings that the code keeps stand for: it names the statements in which their fields are written.
use Rattle.std.specs.Prelude.{◌≡◌, ℕ, ◌==◌, Bool, true, false, not, ◌&&◌, if◌then◌else◌, List, [], ◌∷◌, Option}
use Rattle.std.specs.Prelude.{Some, None, is_none, slice_get}
use Rattle.svf_parse.specs.Judging.{Said}
use Rattle.svf_parse.specs.Judging as said
use Rattle.svf_parse.specs.declared.statement.Statement.{Statement}
use Rattle.scan_vectors.specs.Fields.{Fields}
use Rattle.svf_programs.specs.Held.{parts_in}
use Rattle.svf_settings.specs.LookBack.{Settings, last_of_command}
use Rattle.svf_settings.specs.declared.running.Running.{Running}

abbrev pub settings_in : List Said → Running → Settings
settings_in all s = record {
  dr_end = s.dr_end;
  ir_end = s.ir_end;
  run_state = s.run_state;
  run_end = s.run_end;
  period = s.period;
  trst = s.trst;
  hdr = parts_in all s.hdr;
  hir = parts_in all s.hir;
  tdr = parts_in all s.tdr;
  tir = parts_in all s.tir;
  sdr = parts_in all s.sdr;
  sir = parts_in all s.sir;
}

-- the settings mean the same by two lists of statements
abbrev pub IsAlike : (one other : List Said) → Running → Type 0
IsAlike one other s = settings_in one s ≡ settings_in other s

-- these fields, if there are some, are as long and want nothing out
abbrev pub is_like : ℕ → Option Fields → Bool
is_like n None = false
is_like n (Some f) = f.len == n && is_none f.tdo

-- A scan that gives no TDI, TDO or MASK is the same as the last one of its command, if that is as long and wants
-- nothing out.
abbrev pub takes_over : ℕ → (tdi tdo mask : Option (List Bool)) → Option Fields → Bool
takes_over n tdi tdo mask previous = is_none tdi && is_none tdo && is_none mask && is_like n previous

-- Whether settings and steps may name a statement: a scan for its fields, unless it is the same as the last one of its
-- command, and a path of several states.
abbrev pub is_named : Settings → Said → Bool
is_named st (said.scan which n tdi tdo mask smask) = not (takes_over n tdi tdo mask (last_of_command which st))
is_named st (said.states (s ∷ t ∷ path)) = true
is_named st _ = false

-- a statement stands there, if it may be named
abbrev pub StandsIfNamed : List Said → Settings → ℕ → Said → Type 0
StandsIfNamed all st index s = is_named st s ≡ true → slice_get all index ≡ Some s

-- a statement, if it may be named
abbrev pub if_named : Bool → Statement → List Statement
if_named named s = if named then s ∷ [] else []
