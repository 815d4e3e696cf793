-- One step of cutting a text.
use Rattle.std.proofs.Common.{◌≡◌, ℕ, suc, ◌+◌, ◌<◌, ◌≤◌, List, [], ◌∷◌, ◌++◌, length, drop, get_or, refl}
use Rattle.svf_lex.specs.declared.Kind.{Kind}
use Rattle.svf_lex.specs.declared.scan.Front.{Front}
use Rattle.svf_lex.specs.declared.scan.Front.TheVariants.{Gap, Token, Bad}
use Rattle.svf_lex.specs.Cutting.{Cut, piece, bad, cut, front, behind, with_front}
use Rattle.token_runs.proofs.CutSteps.{CutsBy, rest_of, part_of}
use Rattle.token_runs.proofs.CutSteps as steps

cuts : CutsBy Front Cut front behind with_front cut
unfolding cut
cuts = record { ends = λ skip at. refl; skips = λ k at c cs. refl; begins = λ at c cs. refl }

abbrev made : Kind → ℕ → List ℕ → Cut
made k at text = piece (record { kind = k; text = text; start = at })

pub cut-nil : (skip at : ℕ) → cut skip at [] ≡ []
cut-nil skip at = cuts.ends skip at

pub cut-cons : (at c : ℕ) (cs : List ℕ) (f : Front) → front c cs ≡ f → cut 0 at (c ∷ cs) ≡ with_front f at c cs (cut 0 (at + 1 + behind f) (drop (behind f) cs))
cut-cons at c cs f is = steps.cut-cons cuts at c cs f is

pub at_end : (source : List ℕ) (at : ℕ) → length source ≤ at → cut 0 at (drop at source) ≡ []
at_end source at past = steps.at_end cuts source at past

pub at_gap : (source : List ℕ) (at n : ℕ) → at < length source → Gap n ≡ front (get_or source at 0) (rest_of source at)
    → cut 0 at (drop at source) ≡ cut 0 (at + (1 + n)) (drop (at + (1 + n)) source)
at_gap source at n lt is = steps.at_gap cuts (Gap n) (λ at c cs more. refl) source at lt is

pub at_bad : (source : List ℕ) (at : ℕ) → at < length source → Bad ≡ front (get_or source at 0) (rest_of source at) → cut 0 at (drop at source) ≡ bad at ∷ []
at_bad source at lt is = steps.cut_at cuts source at Bad lt is

pub at_token : (source : List ℕ) (at : ℕ) (k : Kind) (n : ℕ) → at < length source → n ≤ length (rest_of source at) → Token k n ≡ front (get_or source at 0) (rest_of source at)
    → cut 0 at (drop at source) ≡ made k at (part_of source at n) ∷ cut 0 (at + length (part_of source at n)) (drop (at + length (part_of source at n)) source)
at_token source at k n lt fits is = steps.at_token cuts (Token k n) (made k) (λ at c cs more. refl) source at lt fits is

pub gap_cut : (at c : ℕ) (body after : List ℕ) → front c (body ++ after) ≡ Gap (length body) → cut 0 at (c ∷ (body ++ after)) ≡ cut 0 (at + suc (length body)) after
gap_cut at c body after stands = steps.gap_cut cuts (Gap (length body)) (λ at c cs more. refl) at c body after refl stands

pub token_cut : (k : Kind) (at c : ℕ) (body after : List ℕ) → front c (body ++ after) ≡ Token k (length body)
    → cut 0 at (c ∷ (body ++ after)) ≡ made k at (c ∷ body) ∷ cut 0 (at + suc (length body)) after
token_cut k at c body after stands = steps.token_cut cuts (Token k (length body)) (made k) (λ at c cs more. refl) at c body after refl stands
