use Rattle.std.proofs.Common.{Err, sym, subst}
use Rattle.toml.specs.View.{table_view}
use Rattle.board_parts.specs.LibraryView.{files_of}
use Rattle.board_file.specs.View.{TellsBoard}
use Rattle.board_file.specs.Wiring.{makes, targets_in}
use Rattle.board_file.proofs.RefusedLaws.{unplaced_told}
use Rattle.board_file.proofs.board.plan_of_read.Goals as goal

pub returns-in-Err-clause-told : goal.returns-in-Err-clause-told
returns-in-Err-clause-told g c =
    let says = g.R.Describe.says in
    let refuses = g.R.Describe.refuses in
    let files = files_of c.args.files.now in
    let t = table_view c.args.table.now in
    subst (λ f. TellsBoard refuses (Err f) (makes says files t) (targets_in t)) (sym c.unplaced.ensures.fault)
    (unplaced_told says refuses files t c.in-Err.fault (makes says files t) (targets_in t) c.in-Err.ensures.told)
