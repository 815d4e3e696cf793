use Rattle.std.proofs.Common.{◌≡◌, ◌<◌, true, false, sym, ◌∙◌, ⊎_elim, arith}
use Rattle.scan_vectors.specs.Fields.{part_of}
use Rattle.scan_vectors.specs.Held.{bits, fields}
use Rattle.board_reasons.specs.Reasons.{is_same_part}
use Rattle.board_reasons.proofs.PartStarts.{found_here, none_here, none_past, nowhere}
use Rattle.board_reasons.proofs.vectors.place_in.Goals as goal

pub loop-end-init : goal.loop-end-init
loop-end-init c = record {
  inside = omega (arith, c.len-end.ensures);
  none = none_past (bits c.args.vector.now) c.len-end.result c.args.part c.args.bit (omega (arith, c.len-end.ensures));
}

pub returns-then-bit-place : goal.returns-then-bit-place
returns-then-bit-place c =
    let v = c.args.vector.now in
    sym (found_here (part_of (fields v.header)) (part_of (fields v.body)) (part_of (fields v.trailer)) c.loop-end.end c.last_before-last.result c.loop-end-test.true
    c.args.part c.args.bit c.last_before-last.ensures.part (sym c.is_same_part.ensures ∙ c.if-is_same_part.true) c.if-bit-place.true)

pub loop-end-preserved : goal.loop-end-preserved
loop-end-preserved c =
    let v = c.args.vector.now in
    let last = c.last_before-last.result in
    let apart : is_same_part last.0 c.args.part ≡ true → last.1 < c.args.bit = λ same.
    ⊎_elim (λ both. both.1) (λ other. let clash : true ≡ false = sym same ∙ sym c.is_same_part.ensures ∙ other in absurd cc) c.else-is_same_part.either in
    record {
      inside = omega (arith, c.loop-end.invariant.inside);
      none = none_here (part_of (fields v.header)) (part_of (fields v.body)) (part_of (fields v.trailer)) c.loop-end.end last c.loop-end-test.true
          c.args.part c.args.bit c.last_before-last.ensures.part c.loop-end.invariant.none apart;
    }

pub returns : goal.returns
returns c =
    let vs = bits c.args.vector.now in
    c.len.ensures ∙ sym (nowhere c.args.part c.args.bit vs (λ k v from at. c.loop-end.invariant.none k v (omega (arith, c.loop-end-test.false)) at))
