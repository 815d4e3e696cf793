-- Words that were cut ahead, and what is left behind them.
use Rattle.std.proofs.Common.{◌≡◌, Bool, true, false, cond, [], ◌∷◌, codes, None, refl}
use Rattle.svf_words.specs.Words.{Word, Groups, reads}
use Rattle.svf_parse.specs.Ahead.{GoesOn}
use Rattle.svf_parse.specs.RunTests.{take_maximum, take_time, maximum_or}
use Rattle.svf_parse.proofs.NextWords.{goes_both}

-- all parts, one after another
pub goes_far : (from state count time maximum end rest : Groups) → GoesOn from state → GoesOn state count → GoesOn count time → GoesOn time maximum → GoesOn maximum end → GoesOn end rest → GoesOn from rest
goes_far from state count time maximum end rest a b c d e f =
    goes_both from state rest a (goes_both state count rest b (goes_both count time rest c (goes_both time maximum rest d (goes_both maximum end rest e f))))

-- one word is no maximum
pub no_maximum : (k : Word) → take_maximum (k ∷ []) ≡ (None, k ∷ [])
unfolding take_maximum take_time
no_maximum k = by (reads k (codes "MAXIMUM"))
  where
    by : (b : Bool) → cond b (maximum_or None [] (k ∷ [])) (None, k ∷ []) ≡ (None, k ∷ [])
    by true = refl
    by false = refl
