use Rattle.std.proofs.Common.{◌≡◌, ◌<◌, length, get_or, ap, ◌∙◌, arith}
use Rattle.std.proofs.lemmas.List.{take_rest}
use Rattle.bsdl_text.specs.Scanning.{gap}
use Rattle.bsdl_text.specs.declared.tokens.scan.Front.TheVariants.{Bad}
use Rattle.bsdl_text.specs.Cutting.{front}
use Rattle.bsdl_text.proofs.AloneLaws.{bad_front}
use Rattle.bsdl_text.proofs.AsciiLaws.{ascii_token}
use Rattle.bsdl_text.proofs.Steps.{at_end, at_token, at_bad}
use Rattle.token_runs.proofs.CutSteps.{rest_of}
use Rattle.bsdl_text.proofs.tokens.scan.first_token.Goals as goal

pub returns-then-at-source-clause-cuts : goal.returns-then-at-source-clause-cuts
returns-then-at-source-clause-cuts c = c.gaps_end-at.ensures.cuts ∙ at_end c.args.quoted c.args.source.now c.gaps_end-at.result (omega arith)

pub front_of-requires : goal.front_of-requires
front_of-requires c =
    let source = c.args.source.now in
    let lt : c.gaps_end-at.result < length source = omega (arith, c.gaps_end-at.ensures.within) in
    ap (gap c.args.quoted (get_or source c.gaps_end-at.result 0)) (take_rest source _) ∙ c.gaps_end-at.ensures.ends lt

pub returns-in-Token-clause-cuts : goal.returns-in-Token-clause-cuts
returns-in-Token-clause-cuts c =
    let lt : c.gaps_end-at.result < length c.args.source.now = omega (arith, c.gaps_end-at.ensures.within) in
    c.gaps_end-at.ensures.cuts ∙ at_token c.args.quoted c.args.source.now c.gaps_end-at.result c.in-Token.kind c.in-Token.more lt c.in-Token.ensures.within c.in-Token.ensures.value

pub returns-in_default : goal.returns-in_default
returns-in_default c =
    let q = c.args.quoted in
    let source = c.args.source.now in
    let at = c.gaps_end-at.result in
    let lt : at < length source = omega (arith, c.gaps_end-at.ensures.within) in
    let is : Bad ≡ front q (get_or source at 0) (rest_of source at) =
    bad_front q (get_or source at 0) (rest_of source at) (ap (gap q (get_or source at 0)) (take_rest source _) ∙ c.gaps_end-at.ensures.ends lt)
    (λ k n token. c.in_default.not-Token k n (c.front_of.ensures.value ∙ token)) in
    record { cuts = c.gaps_end-at.ensures.cuts ∙ at_bad q source at lt is; within = tt; on = tt }

pub invariant_of-result : goal.invariant_of-result
invariant_of-result c =
    let lt : c.gaps_end-at.result < length c.args.source.now = omega (arith, c.gaps_end-at.ensures.within) in
    record { ascii = ascii_token c.args.quoted c.args.source.now c.gaps_end-at.result c.in-Token.kind c.in-Token.more lt c.in-Token.ensures.value }
