use Rattle.std.proofs.Common.{◌≡◌, ◌+◌, ◌-◌, ◌/◌, ◌%◌, [], ◌∷◌, ◌++◌, map, drop, sym, refl, ap, ◌∙◌, arith}
use Rattle.std.specs.Int.Digits.{digits_of}
use Rattle.std.proofs.lemmas.List.{append-nil, append_assoc, map-append, length-set, drop-set}
use Rattle.std.proofs.lemmas.Int.Digits.{digits_of_step, length-digits_of_step, length-digits_of-le}
use Rattle.wave_files.specs.Codes.{digit_byte}
use Rattle.wave_files.proofs.binary.binary_digits.Goals as goal

pub loop-left-init : goal.loop-left-init
loop-left-init c =
    record { split = append-nil _; room = length-digits_of-le 2 64 c.args.value (omega arith) (omega arith); most = omega arith; whole = refl }

pub overflow_sub-start : goal.overflow_sub-start
overflow_sub-start c =
    omega (arith, length-digits_of_step 2 c.loop-left.left (omega arith) c.loop-left-test.true, c.loop-left.invariant.room)

pub loop-left-preserved : goal.loop-left-preserved
loop-left-preserved c =
    let l = c.loop-left in
    let i = l.invariant in
    let shorter = length-digits_of_step 2 l.left (omega arith) c.loop-left-test.true in
    let front = map digit_byte (digits_of 2 (l.left / 2)) in
    let step = ap (map digit_byte) (digits_of_step 2 l.left (omega arith) c.loop-left-test.true) ∙ map-append digit_byte (digits_of 2 (l.left / 2)) _ in
    let back : l.start - 1 + 1 ≡ l.start = omega (arith, shorter, i.room) in
    record {
      split =
          ap (λ t. front ++ t) (drop-set l.digits (l.start - 1) _ (omega (arith, shorter, i.room, i.most, i.whole)) ∙ ap (λ k. digit_byte (l.left % 2) ∷ drop k l.digits) back)
          ∙ sym (append_assoc front (digit_byte (l.left % 2) ∷ []) _)
          ∙ ap (λ t. t ++ drop l.start l.digits) (sym step)
          ∙ i.split;
      room = omega (arith, shorter, i.room);
      most = omega (arith, i.most);
      whole = length-set l.digits _ _ ∙ i.whole;
    }

pub returns-clause-digits : goal.returns-clause-digits
returns-clause-digits c =
    let l = c.loop-left in
    let none : l.left ≡ 0 = omega (arith, c.loop-left-test.false) in
    ap (λ k. map digit_byte (digits_of 2 k) ++ drop l.start l.digits) (sym none) ∙ l.invariant.split
