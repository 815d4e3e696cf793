use Rattle.std.proofs.lemmas.Result.{err_from_is_err_and}
use Rattle.board_file.specs.Wiring.{makes, targets_in}
use Rattle.board_parts.specs.LibraryView.{files_of}
use Rattle.jt_board.specs.FromText.{said_device}
use Rattle.jt_board.proofs.TextLaws.{ready_plan, told_board, told_no_memory}
use Rattle.jt_board.proofs.board.Board.from_text.Goals as goal

pub powered_up-requires : goal.powered_up-requires
powered_up-requires c =
    let made = c.in_ok-plan.ensures in
    (ready_plan c.in_ok-plan.plan made.fits made.said made.loops made.ordered).powers_up

pub returns-in_err-powered_up-clause-told : goal.returns-in_err-powered_up-clause-told
returns-in_err-powered_up-clause-told c = λ t reads.
    let stop = err_from_is_err_and c.from_residual-in_err-powered_up.result c.from_residual-in_err-powered_up.ensures.1 in
    rw (stop.1, stop.2) (told_no_memory (makes said_device (files_of c.args.files.now) t) (targets_in t))

pub returns-clause-told : goal.returns-clause-told
returns-clause-told c = λ t reads.
    told_board c.in_ok-plan.plan c.in_ok-powered_up.field-0 (makes said_device (files_of c.args.files.now) t) (targets_in t) (c.in_ok-plan.ensures.told t reads) c.in_ok-powered_up.ensures
