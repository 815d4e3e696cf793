use Rattle.std.proofs.Common.{◌&&◌, Bool, not, false, get_or, sym, ap, ◌∙◌}
use Rattle.board_model.specs.Chain.{members}
use Rattle.board_model.specs.Nets.{is_opposed}
use Rattle.play_coverage.proofs.Marks.{at_net}
use Rattle.play_coverage.proofs.contending.is_fresh.Goals as goal

pub returns : goal.returns
returns c =
    let chain = c.args.chain.now in
    c.is_new.ensures
    ∙ ap (λ (b : Bool). b && not (get_or c.args.marks.now c.args.net false))
    (sym (at_net (is_opposed chain.nets (members chain.chips)) chain.nets c.args.net c.is_opposed.result c.requires.nets c.is_opposed.ensures))
