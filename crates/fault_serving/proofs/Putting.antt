-- Notes, put into words.
use Rattle.std.proofs.Common.{◌≡◌, ◌<◌, ◌⊎◌, ⊎_elim, ℕ, zero, suc, List, [], ◌∷◌, ◌++◌, length, map, get_or, slice_get, Some, sym, subst, arith}
use Rattle.std.proofs.Math.ListN.{get_or-append}
use Rattle.std.proofs.Math.Seq.{get_or-append_seam}
use Rattle.std.proofs.lemmas.List.{length-append, length-map}
use Rattle.std.proofs.lemmas.Bool.{cases_lt}
use Rattle.std.proofs.lemmas.Option.{same_Some, slice_get_within}
use Rattle.fault_serving.specs.declared.planing.NoteWords.{NoteWords}
use Rattle.fault_events.specs.declared.nets.NetCapture.{NetCapture}
use Rattle.fault_events.specs.Captures.{Noted}
use Rattle.fault_events.specs.Marks.{nothing_noted}
use Rattle.fault_events.specs.Nets.{seen}
use Rattle.fault_serving.specs.Planes.{AreNetWords, AreWordsOf, IsNoteAt, no_words}
use Rattle.board_faults.proofs.WordBits.{no_bit}

pub nothing_at : (k : ℕ) → IsNoteAt k nothing_noted no_words
nothing_at k = record {
  made = λ i. record { zero = no_bit k i; one = no_bit k i; weak = no_bit k i };
  wanted = no_bit k;
  stays = no_bit k;
}

pub seen_there : (cs : List NetCapture) (k : ℕ) (n : Noted) (d : NetCapture) → k < length cs → slice_get (map seen cs) k ≡ Some n → n ≡ seen (get_or cs k d)
seen_there [] k n d inside is = absurd (omega (arith, inside))
seen_there (c ∷ cs) zero n d inside is = sym (same_Some (seen c) n is)
seen_there (c ∷ cs) (suc k) n d inside is = seen_there cs k n d (omega (arith, inside)) is

pub among_seen : (cs : List NetCapture) (k : ℕ) (n : Noted) → slice_get (map seen cs) k ≡ Some n → k < length cs
among_seen cs k n is = omega (arith, slice_get_within (map seen cs) k n is, length-map cs seen)

pub more_words : (ns : List Noted) (ws : List NoteWords) (w : NoteWords) → AreNetWords ns ws → AreWordsOf (length ws) ns w → AreNetWords ns (ws ++ w ∷ [])
more_words ns ws w are its net inside = ⊎_elim
    (λ before. subst (AreWordsOf net ns) (sym (get_or-append ws (w ∷ []) no_words net before)) (are net before))
    (λ past.
    let here : length ws ≡ net = omega (arith, past, inside, length-append ws (w ∷ [])) in
    subst (λ (k : ℕ). AreWordsOf k ns (get_or (ws ++ w ∷ []) k no_words)) here
    (subst (AreWordsOf (length ws) ns) (sym (get_or-append_seam ws w [] no_words)) its))
    (cases_lt net (length ws))
