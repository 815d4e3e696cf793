use Rattle.std.proofs.Common.{◌≢◌, ◌+◌, ◌*◌, false, get_or, sym, ap₂, ◌∙◌, arith}
use Rattle.std.specs.Ordering.{bool_cmp}
use Rattle.std.proofs.lemmas.Option.{get_or_from_slice_get}
use Rattle.jt_bits.proofs.OrderLaws.{differ_there, order_at, order_of_same, same_more, same_to, within}
use Rattle.jt_bits.proofs.order.by_words.Goals as goal

pub get-requires : goal.get-requires
get-requires c =
    let one = c.args.one.now in
    let other = c.args.other.now in
    let first = c.in-Some.ensures in
    within one other (64 * c.loop-k.k + c.in-Some.j) c.requires
    (differ_there one other c.loop-k.k c.word.result c.word-in-loop-k.result c.in-Some.j c.word.ensures c.word-in-loop-k.ensures first.0 first.1)

pub get-requires-in-Some : goal.get-requires-in-Some
get-requires-in-Some c =
    let one = c.args.one.now in
    let other = c.args.other.now in
    let first = c.in-Some.ensures in
    omega (
      arith,
      c.requires,
      within one other (64 * c.loop-k.k + c.in-Some.j) c.requires
          (differ_there one other c.loop-k.k c.word.result c.word-in-loop-k.result c.in-Some.j c.word.ensures c.word-in-loop-k.ensures first.0 first.1),
    )

pub returns-in-Some : goal.returns-in-Some
returns-in-Some c =
    let one = c.args.one.now in
    let other = c.args.other.now in
    let k = c.loop-k.k in
    let i = 64 * k + c.in-Some.j in
    let first = c.in-Some.ensures in
    let apart : get_or one i false ≢ get_or other i false = differ_there one other k c.word.result c.word-in-loop-k.result c.in-Some.j c.word.ensures c.word-in-loop-k.ensures first.0 first.1 in
    c.cmp.ensures
    ∙ ap₂ bool_cmp (sym (get_or_from_slice_get one i c.get.result false c.get.ensures)) (sym (get_or_from_slice_get other i c.get-in-Some.result false c.get-in-Some.ensures))
    ∙ order_at one other i c.requires (within one other i c.requires apart)
    (same_to one other k c.word.result c.word-in-loop-k.result c.in-Some.j c.word.ensures c.word-in-loop-k.ensures first.0 first.2 c.loop-k.invariant)
    apart

pub loop-k-preserved : goal.loop-k-preserved
loop-k-preserved c =
    same_more c.args.one.now c.args.other.now c.loop-k.k c.word.result c.word-in-loop-k.result c.word.ensures c.word-in-loop-k.ensures c.in_default.ensures c.loop-k.invariant

pub returns : goal.returns
returns c =
    order_of_same c.args.one.now c.args.other.now c.requires
    (λ i h. c.loop-k.invariant i (omega (arith, h, c.loop-k-test.false, c.len.ensures, c.div_ceil-k-end.ensures)))
