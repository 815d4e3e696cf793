-- The settings behind one statement more, for a reader that goes from the first statement to the last.
use Rattle.std.specs.Prelude.{◌≡◌, Some, unwrap_or, List, ◌∷◌}
use Rattle.svf_words.specs.declared.keywords.Which.{Which}
use Rattle.svf_words.specs.declared.keywords.Which.TheVariants.{Hdr, Hir, Tdr, Tir, Sdr, Sir}
use Rattle.svf_parse.specs.Judging.{Said}
use Rattle.svf_parse.specs.Judging as said
use Rattle.scan_vectors.specs.Fields.{Fields}
use Rattle.svf_settings.specs.LookBack.{Settings, settings, default_period, in_force, last_of_command, runs_in, ends_in}

abbrev pub with_scan : Which → Fields → Settings → Settings
with_scan Hdr f st = record st { hdr = Some f }
with_scan Hir f st = record st { hir = Some f }
with_scan Tdr f st = record st { tdr = Some f }
with_scan Tir f st = record st { tir = Some f }
with_scan Sdr f st = record st { sdr = Some f }
with_scan Sir f st = record st { sir = Some f }

abbrev pub next : Settings → Said → Settings
next st (said.end_dr s) = record st { dr_end = s }
next st (said.end_ir s) = record st { ir_end = s }
next st (said.frequency p) = record st { period = unwrap_or p default_period }
next st (said.scan which n tdi tdo mask smask) = with_scan which (in_force n tdi tdo mask (last_of_command which st)) st
next st (said.run_test run count min max end) =
    record st { run_state = runs_in run st.run_state; run_end = ends_in run end st.run_end }
next st (said.states path) = st
next st (said.trst w) = record st { trst = Some w }

-- The running settings are those that one finds by looking back.
abbrev pub RunningIsLookingBack : Type 0
RunningIsLookingBack = (before : List Said) (s : Said) → settings (s ∷ before) ≡ next (settings before) s
