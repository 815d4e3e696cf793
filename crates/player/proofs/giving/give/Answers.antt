use Rattle.std.proofs.Common.{◌≡◌, ◌≤◌, ◌+◌, ◌-◌, ◌++◌, ℕ, List, take, drop, length, sym, ap, subst, ◌∙◌, arith, length-drop}
use Rattle.std.proofs.lemmas.List.{drop-drop}
use Rattle.bitbang.specs.Left.{left}
use Rattle.bitbang.proofs.BufferFills.{filled-part}
use Rattle.player.specs.PlaceInPlay.{IsSpaced, reads, up_to_reads}
use Rattle.player.proofs.BytesGivenOut.{all-given, few-reads, past, reach}
use Rattle.player.proofs.Pieced.{reads-append}
use Rattle.player.proofs.Spaced.{spaced-behind}
use Rattle.player.proofs.giving.give.Goals as goal

pub returns-then-is_held-clause-count : goal.returns-then-is_held-clause-count
returns-then-is_held-clause-count c =
    let i = c.loop-count.invariant in
    all-given c.loop-count.count (length c.args.buffer.now) (up_to_reads (left c.args.bytes.now) (256 - c.args.owed)) i.room i.through
    (i.ahead ∙ c.is_held.ensures.held c.if-is_held.true)

pub loop-count-preserved : goal.loop-count-preserved
loop-count-preserved c =
    let i = c.loop-count.invariant in
    let e = c.give_some-more.ensures in
    let all = left c.args.bytes.now in
    let now = left c.loop-count.bytes in
    let n = c.loop-count.count in
    let m = c.give_some-more.result.0 in
    let w = n + c.min-most.result - n in
    let wide : w ≡ c.min-most.result = omega arith in
    let free = 256 - c.loop-count.owed in
    let through = up_to_reads all (256 - c.args.owed) in
    let short : m ≤ w = omega (arith, wide, e.count) in
    let spaced : IsSpaced now = subst IsSpaced (sym i.rest) (spaced-behind n all c.requires.spaced) in
    let few = few-reads m c.loop-count.owed now i.allowed (omega (arith, short, wide, c.min-most.ensures, c.most_at_once.ensures.most)) spaced
    (c.is_held.ensures.free c.if-is_held.false) in
    let fits : m ≤ length now = omega (arith, e.count) in
    let reaches = reach m now free fits few in
    let later : free - reads (take m now) ≡ 256 - c.give_some-more.result.1 = omega (arith, e.owed) in
    let piece = e.filled ∙ ap (λ (l : List ℕ). take m l ++ drop m (take w (drop n c.loop-count.buffer))) i.rest in
    record {
      room = omega (arith, short, wide, c.min-most.ensures, c.loop-count.auto.buffer, c.loop-count-test.true);
      some = omega (arith, fits, ap length i.rest, length-drop n all, i.some);
      through = omega (arith, reaches, ap length i.ahead, length-drop n through, i.through);
      ahead = sym (drop-drop m n through) ∙ ap (drop m) i.ahead ∙ past m now free few ∙ (λ j. up_to_reads (sym e.left j) (later j));
      filled = filled-part n m w all c.loop-count.buffer c.args.buffer.now c.give_some-more.new.buffer i.some short i.filled piece;
      rest = e.left ∙ ap (drop m) i.rest ∙ drop-drop m n all;
      whole = e.whole ∙ i.whole;
      owed = omega (arith, e.owed, i.owed, reads-append m n all, ap (λ (l : List ℕ). reads (take m l)) i.rest);
      allowed = omega (arith, e.owed, few, i.allowed);
    }
