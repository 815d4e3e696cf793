use Rattle.std.proofs.Common.{[], ◌∷◌, ap}
use Rattle.svf_parse.specs.Ahead.{groups_ahead}
use Rattle.svf_parse.proofs.run_test.lexer_behind.Goals as goal

pub returns-in-One : goal.returns-in-One
returns-in-One c = (c.in-One.field-0.now ∷ [], ap groups_ahead c.in-One.is)

pub returns-in-Two : goal.returns-in-Two
returns-in-Two c = (c.in-Two.field-0.now ∷ c.in-Two.field-1.now ∷ [], ap groups_ahead c.in-Two.is)
