use Rattle.std.proofs.Common.{sym, ◌∙◌}
use Rattle.std.proofs.lemmas.Bool.{eqb-true}
use Rattle.bitbang.specs.Left.{left}
use Rattle.player.proofs.BytesGivenOut.{held}
use Rattle.player.proofs.giving.is_held.Goals as goal

pub returns-then-is_full-clause-held : goal.returns-then-is_full-clause-held
returns-then-is_full-clause-held c = λ is. held (left c.args.bytes.now) c.args.owed (eqb-true c.args.owed 256 (sym c.is_full.ensures ∙ c.if-is_full.true)) (c.asks_next.ensures.some is)
