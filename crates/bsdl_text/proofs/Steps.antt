-- One step of cutting a text.
use Rattle.std.proofs.Common.{◌≡◌, ℕ, Bool, suc, ◌+◌, ◌<◌, ◌≤◌, List, [], ◌∷◌, ◌++◌, length, drop, get_or, refl}
use Rattle.bsdl_text.specs.declared.tokens.Kind.{Kind}
use Rattle.bsdl_text.specs.declared.tokens.scan.Front.{Front}
use Rattle.bsdl_text.specs.declared.tokens.scan.Front.TheVariants.{Gap, Token, Bad}
use Rattle.bsdl_text.specs.Cutting.{Cut, piece, bad, cut, front, behind, with_front}
use Rattle.token_runs.proofs.CutSteps.{CutsBy, rest_of, part_of}
use Rattle.token_runs.proofs.CutSteps as steps

cuts : (q : Bool) → CutsBy Front Cut (front q) behind with_front (cut q)
unfolding cut
cuts q = record { ends = λ skip at. refl; skips = λ k at c cs. refl; begins = λ at c cs. refl }

abbrev made : Kind → ℕ → List ℕ → Cut
made k at text = piece (record { kind = k; text = text; start = at })

pub cut-nil : (q : Bool) (skip at : ℕ) → cut q skip at [] ≡ []
cut-nil q skip at = (cuts q).ends skip at

pub cut-cons : (q : Bool) (at c : ℕ) (cs : List ℕ) (f : Front) → front q c cs ≡ f → cut q 0 at (c ∷ cs) ≡ with_front f at c cs (cut q 0 (at + 1 + behind f) (drop (behind f) cs))
cut-cons q at c cs f is = steps.cut-cons (cuts q) at c cs f is

pub at_end : (q : Bool) (source : List ℕ) (at : ℕ) → length source ≤ at → cut q 0 at (drop at source) ≡ []
at_end q source at past = steps.at_end (cuts q) source at past

pub at_gap : (q : Bool) (source : List ℕ) (at n : ℕ) → at < length source → Gap n ≡ front q (get_or source at 0) (rest_of source at)
    → cut q 0 at (drop at source) ≡ cut q 0 (at + (1 + n)) (drop (at + (1 + n)) source)
at_gap q source at n lt is = steps.at_gap (cuts q) (Gap n) (λ at c cs more. refl) source at lt is

pub cut_at : (q : Bool) (source : List ℕ) (at : ℕ) (f : Front) → at < length source → f ≡ front q (get_or source at 0) (rest_of source at)
    → cut q 0 at (drop at source) ≡ with_front f at (get_or source at 0) (drop (at + 1) source) (cut q 0 (at + 1 + behind f) (drop (at + 1 + behind f) source))
cut_at q source at f lt is = steps.cut_at (cuts q) source at f lt is

pub at_bad : (q : Bool) (source : List ℕ) (at : ℕ) → at < length source → Bad ≡ front q (get_or source at 0) (rest_of source at) → cut q 0 at (drop at source) ≡ bad at ∷ []
at_bad q source at lt is = cut_at q source at Bad lt is

pub at_token : (q : Bool) (source : List ℕ) (at : ℕ) (k : Kind) (n : ℕ) → at < length source → n ≤ length (rest_of source at) → Token k n ≡ front q (get_or source at 0) (rest_of source at)
    → cut q 0 at (drop at source) ≡ made k at (part_of source at n) ∷ cut q 0 (at + length (part_of source at n)) (drop (at + length (part_of source at n)) source)
at_token q source at k n lt fits is = steps.at_token (cuts q) (Token k n) (made k) (λ at c cs more. refl) source at lt fits is

pub gap_cut : (q : Bool) (at c : ℕ) (body after : List ℕ) → front q c (body ++ after) ≡ Gap (length body) → cut q 0 at (c ∷ (body ++ after)) ≡ cut q 0 (at + suc (length body)) after
gap_cut q at c body after stands = steps.gap_cut (cuts q) (Gap (length body)) (λ at c cs more. refl) at c body after refl stands

pub token_cut : (q : Bool) (k : Kind) (at c : ℕ) (body after : List ℕ) → front q c (body ++ after) ≡ Token k (length body)
    → cut q 0 at (c ∷ (body ++ after)) ≡ made k at (c ∷ body) ∷ cut q 0 (at + suc (length body)) after
token_cut q k at c body after stands = steps.token_cut (cuts q) (Token k (length body)) (made k) (λ at c cs more. refl) at c body after refl stands
