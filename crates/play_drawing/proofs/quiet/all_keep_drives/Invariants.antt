use Rattle.std.proofs.Common.{◌≡◌, drop}
use Rattle.std.specs.List.{list_all}
use Rattle.jt_tap.specs.Controller.{work}
use Rattle.board_model.specs.Chain.{ChipState}
use Rattle.play_drawing.specs.Quiet.{keeps_drives}
use Rattle.play_drawing.proofs.quiet.all_keep_drives.Given as goal

-- no device does if none from the place on does
abbrev pub invariant-loop-i : goal.invariant-loop-i
invariant-loop-i l =
    list_all (λ (x : ChipState). keeps_drives (work x.state)) l.chain.chips
    ≡ list_all (λ (x : ChipState). keeps_drives (work x.state)) (drop l.i l.chain.chips)
