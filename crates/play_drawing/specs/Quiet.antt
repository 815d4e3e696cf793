-- Messages that leave what every pin drives, and every instruction: a level of a net and an instruction change only
-- where a device updates or resets on a falling edge, and where the line TRST is told (IEEE Std 1149.1-2001, clauses
-- 6.1, 7, 8).
use Rattle.std.specs.Prelude.{Bool, true, false, List}
use Rattle.std.specs.List.{list_all}
use Rattle.jt_tap.specs.declared.Work.{Work}
use Rattle.jt_tap.specs.declared.Work.TheVariants.{Resets, Updates}
use Rattle.jt_tap.specs.Controller.{work}
use Rattle.bitbang_protocol.specs.declared.Message.{Message}
use Rattle.bitbang_protocol.specs.declared.Message.TheVariants.{Write}
use Rattle.board_model.specs.Chain.{ChipState}

-- what a falling edge does in a state of this work
abbrev pub keeps_drives : Work → Bool
keeps_drives (Updates column) = false
keeps_drives Resets = false
keeps_drives _ = true

abbrev pub keeps_levels : Message → List ChipState → Bool
keeps_levels (Write true tms tdi) cs = true
keeps_levels (Write false tms tdi) cs = list_all (λ c. keeps_drives (work c.state)) cs
keeps_levels _ cs = false
