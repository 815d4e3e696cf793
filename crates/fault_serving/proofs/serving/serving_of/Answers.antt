use Rattle.std.proofs.Common.{sym, ◌∙◌}
use Rattle.fault_serving.proofs.Plain.{plain_if}
use Rattle.fault_serving.proofs.serving.serving_of.Goals as goal

pub by_one_play-requires-clause-serves : goal.by_one_play-requires-clause-serves
by_one_play-requires-clause-serves c = record {
  plain = plain_if c.args.plan.now c.deref.result.now c.have_strings.result c.deref.ensures.value c.have_strings.ensures c.if-have_strings.false;
  passes = sym c.in_ok-ending_on.ensures ∙ c.in-Pass.is;
}
