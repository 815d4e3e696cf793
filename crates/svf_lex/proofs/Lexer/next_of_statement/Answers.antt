use Rattle.std.proofs.Common.{◌≡◌, ℕ, length, Option, Some, None, sym, ap, ◌∙◌, subst, arith}
use Rattle.svf_lex.specs.Cutting.{ending, items}
use Rattle.svf_lex.specs.Left.{left}
use Rattle.svf_lex.specs.Statements.{IsOver}
use Rattle.svf_lex.proofs.Steps.{at_end}
use Rattle.svf_lex.proofs.Lexer.next_of_statement.Goals as goal

over_at_end : (begun : Option ℕ) → IsOver (ending begun)
over_at_end None = tt
over_at_end (Some first) = tt

pub returns-in-None : goal.returns-in-None
returns-in-None c =
    let source = c.args.self.now.source.now in
    let begun = c.args.self.now.begun in
    let nothing : left c.args.self.now ≡ ending begun = ap (items begun) c.in-None.ensures.cuts in
    (ap (items begun) (at_end source (length source) (omega arith)) ∙ sym nothing, subst IsOver (sym nothing) (over_at_end begun))
