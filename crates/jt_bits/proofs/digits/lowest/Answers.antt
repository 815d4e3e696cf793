use Rattle.std.proofs.Common.{◌≡◌, ℕ, List, [], ◌∷◌, ◌++◌, length, map, refl, ◌+◌, sym, ap, ◌∙◌, arith}
use Rattle.std.specs.List.{range_with_len}
use Rattle.std.proofs.lemmas.List.FromFn.{length-map-range_with_len, map-range_with_len_more}
use Rattle.jt_bits.specs.Hex.{binary}
use Rattle.jt_bits.specs.Words.{word_of}
use Rattle.jt_bits.proofs.Lists.{words_listed}
use Rattle.jt_bits.proofs.Pieces.{piece_word, piece_rest}
use Rattle.jt_bits.proofs.digits.lowest.Goals as goal

pub loop-k-preserved : goal.loop-k-preserved
loop-k-preserved c =
    let text = c.args.digits.now in
    let k = c.loop-k._k in
    let last = c.last_word-last in
    let word = piece_word c.loop-k.rest.now text last.result.value k last.ensures.value c.loop-k.invariant.rest in
    record {
      words =
          c.in_ok-push.ensures.items ∙ ap (λ (ws : List ℕ). ws ++ last.result.value ∷ []) c.loop-k.invariant.words
          ∙ ap (λ (w : ℕ). map (word_of (binary text)) (range_with_len 0 k) ++ w ∷ []) word
          ∙ sym (map-range_with_len_more (word_of (binary text)) 0 k k (omega arith));
      rest = piece_rest last.result.rest.now c.loop-k.rest.now text k (k + 1) last.ensures.rest c.loop-k.invariant.rest refl;
      clean = last.ensures.good;
      solid = last.ensures.solid;
    }

pub invariant_of-result : goal.invariant_of-result
invariant_of-result c =
    let at : c.loop-k._k ≡ c.words_for-count.result = omega (arith, c.loop-k-test.false, c.loop-k.auto._k-end) in
    let many : length c.loop-k.words.items ≡ c.words_for-count.result =
    ap length c.loop-k.invariant.words ∙ length-map-range_with_len (word_of (binary c.args.digits.now)) 0 c.loop-k._k ∙ at in
    record {
      enough = omega (arith, many, c.words_for-count.ensures.enough);
      no_more = omega (arith, many, c.words_for-count.ensures.no_more);
      start = λ some. omega (arith, many, c.words_for-count.ensures.enough, some);
      fits = omega (arith, many, c.words_for-count.ensures.no_more, c.ranges.n.fits);
    }

pub returns : goal.returns
returns c =
    let at : c.loop-k._k ≡ c.words_for-count.result = omega (arith, c.loop-k-test.false, c.loop-k.auto._k-end) in
    words_listed (binary c.args.digits.now) c.loop-k.words.items c.loop-k._k c.args.n c.loop-k.invariant.words (omega (arith, at, c.words_for-count.ensures.enough))
