use Rattle.std.proofs.Common.{◌<◌, List, length, sym, ap, ◌∙◌, arith}
use Rattle.std.specs.Prelude.{◌==◌}
use Rattle.bsdl_text.specs.Cutting.{Cut, tokens}
use Rattle.bsdl_text.proofs.AloneLaws.{over_at_end, token_stands}
use Rattle.bsdl_text.proofs.tokens.scan.is_over.Goals as goal

pub returns-then-at-source : goal.returns-then-at-source
returns-then-at-source c =
    over_at_end c.args.quoted c.args.source.now c.gaps_end-at.result (omega arith)
    ∙ ap (λ (cuts : List Cut). length (tokens cuts) == 0) (sym c.gaps_end-at.ensures.cuts)

pub returns-then-begins_any : goal.returns-then-begins_any
returns-then-begins_any c =
    let at = c.gaps_end-at.result in
    let lt : at < length c.args.source.now = omega (arith, c.gaps_end-at.ensures.within) in
    token_stands c.args.quoted c.args.source.now at lt (sym c.begins_any.ensures ∙ c.if-begins_any.true) (c.gaps_end-at.ensures.ends lt)
    ∙ ap (λ (cuts : List Cut). length (tokens cuts) == 0) (sym c.gaps_end-at.ensures.cuts)
