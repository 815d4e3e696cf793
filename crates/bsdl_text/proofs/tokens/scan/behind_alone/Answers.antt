use Rattle.std.proofs.Common.{◌<◌, List, drop, length, sym, ap, ◌∙◌, arith}
use Rattle.bsdl_text.specs.Alone.{stands_alone}
use Rattle.bsdl_text.specs.Cutting.{Cut, tokens}
use Rattle.bsdl_text.proofs.AloneLaws.{byte_alone, other_byte, at_end_alone}
use Rattle.bsdl_text.proofs.tokens.scan.behind_alone.Goals as goal
use Rattle.bsdl_text.proofs.tokens.scan.behind_alone.Goals.{then-at-source-via-then-at-source, then-at-source-via-else-at-source+then-source-at}

pub returns-then-at-source-clause-alone : goal.returns-then-at-source-clause-alone
returns-then-at-source-clause-alone c =
    let q = c.args.quoted in
    let source = c.args.source.now in
    let at = c.gaps_end-at.result in
    let behind = ap (λ (cuts : List Cut). stands_alone c.args.byte (tokens cuts)) (sym c.gaps_end-at.ensures.cuts) in
    elim c.then-at-source.branch [
      | then-at-source-via-then-at-source w ↦ at_end_alone q source at c.args.byte (omega arith) ∙ behind
      | then-at-source-via-else-at-source+then-source-at w ↦
          let lt : at < length source = omega (arith, c.gaps_end-at.ensures.within) in
          other_byte q source at c.args.byte lt (λ e. w.if-source-at.true e) (c.gaps_end-at.ensures.ends lt) ∙ behind
    ]

pub returns-then-is_mark-clause-alone : goal.returns-then-is_mark-clause-alone
returns-then-is_mark-clause-alone c =
    let at = c.gaps_end-at.result in
    let lt : at < length c.args.source.now = omega (arith, c.gaps_end-at.ensures.within) in
    let behind = ap (λ (cuts : List Cut). stands_alone c.args.byte (tokens cuts)) (sym c.gaps_end-at.ensures.cuts) in
    let it = byte_alone c.args.quoted c.args.source.now at c.args.byte lt c.if-source-at.false (sym c.is_mark.ensures ∙ c.if-is_mark.true) (c.gaps_end-at.ensures.ends lt) in
    it.0 ∙ behind

pub returns-then-is_mark-clause-behind : goal.returns-then-is_mark-clause-behind
returns-then-is_mark-clause-behind c =
    let at = c.gaps_end-at.result in
    let lt : at < length c.args.source.now = omega (arith, c.gaps_end-at.ensures.within) in
    let behind = ap (λ (cuts : List Cut). drop 1 (tokens cuts)) (sym c.gaps_end-at.ensures.cuts) in
    let it = byte_alone c.args.quoted c.args.source.now at c.args.byte lt c.if-source-at.false (sym c.is_mark.ensures ∙ c.if-is_mark.true) (c.gaps_end-at.ensures.ends lt) in
    it.1 ∙ behind
