use Rattle.std.proofs.Common.{◌≡◌, ◌∙◌, List, ap, subst}
use Rattle.board_model.specs.Cells.{Member}
use Rattle.board_model.specs.Chain.{BoardState}
use Rattle.board_model.specs.Resting.{IsAtRest}
use Rattle.board_model.specs.Whole as whole
use Rattle.board_model.specs.Whole.{AtRest, out_of_members}
use Rattle.scan_vectors.specs.Failures.{differing, found, with_found}
use Rattle.scan_vectors.specs.Held.{bits}
use Rattle.scan_vectors.specs.Vector.{tdis}
use Rattle.jt_board.specs.contracts.board.Board.{the_view}
use Rattle.jt_board.proofs.RestLaws.{rests_members}
use Rattle.jt_board.proofs.board.Board.note.Goals as goal

pub returns : goal.returns
returns c =
    let v = bits c.args.vector.now in
    let column = c.args.column in
    let command = c.args.command in
    let old = found c.args.failures.now in
    subst (λ (b : BoardState). (m : AtRest) → IsAtRest b m
    → found c.note.new.failures ≡ with_found (differing command v (whole.out column (tdis v) m)) old) c.self.view_is
    (λ m is. c.note.ensures
    ∙ ap (λ (ms : List Member). with_found (differing command v (out_of_members column (tdis v) ms)) old) (rests_members (the_view c.self.inside) m is))
