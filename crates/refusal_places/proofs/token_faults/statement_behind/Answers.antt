use Rattle.std.proofs.Common.{ap, arith, false}
use Rattle.svf_lex.specs.Cutting.{items_of}
use Rattle.refusal_places.specs.TokenFaults.{bytes_in, statement_behind}
use Rattle.refusal_places.proofs.TokenBytes.{bytes_from}
use Rattle.refusal_places.proofs.token_faults.statement_behind.Goals as goal

pub loop-token-init : goal.loop-token-init
loop-token-init c =
    let text = c.args.text.now in
    record {
      can = tt;
      finite = tt;
      same = ap (statement_behind false c.args.others) c.new-rest.ensures;
      few = omega (arith, ap bytes_in c.new-rest.ensures, bytes_from text 0 (items_of text) (omega arith) (c.tokens_are_slices_in_order.ensures.in_order text));
    }
