-- The tokens of a text weigh no more than the text.
use Rattle.std.proofs.Common.{◌≤◌, ℕ, zero, suc, ◌+◌, ◌-◌, Bool, List, [], ◌∷◌, length, take, arith}
use Rattle.bsdl_text.specs.declared.tokens.scan.Front.{Front}
use Rattle.bsdl_text.specs.declared.tokens.scan.Front.TheVariants.{Gap, Token, Bad}
use Rattle.bsdl_text.specs.Cutting.{Cut, Lexeme, behind, cut, cuts_of, front, tokens, with_front}

-- the length of a list, and 1 of an empty one
abbrev pub heft : {A : Type 0} → List A → ℕ
heft xs = 1 + (length xs - 1)

abbrev pub size : List Lexeme → ℕ
size [] = 0
size (t ∷ ts) = heft t.text + size ts

front_weighs : (f : Front) (at c : ℕ) (cs : List ℕ) (cuts : List Cut) → size (tokens cuts) + length (take (behind f) cs) ≤ length cs → size (tokens (with_front f at c cs cuts)) ≤ suc (length cs)
front_weighs (Gap k) at c cs cuts few = omega (arith, few)
front_weighs (Token kind k) at c cs cuts few = omega (arith, few)
front_weighs Bad at c cs cuts few = omega arith

cut_weighs : (q : Bool) (skip at : ℕ) (text : List ℕ) → size (tokens (cut q skip at text)) + length (take skip text) ≤ length text
unfolding cut
cut_weighs q zero at [] = omega arith
cut_weighs q (suc k) at [] = omega arith
cut_weighs q zero at (c ∷ cs) =
    let rest = front_weighs (front q c cs) at c cs (cut q (behind (front q c cs)) (at + 1) cs) (cut_weighs q (behind (front q c cs)) (at + 1) cs) in
    omega (arith, rest)
cut_weighs q (suc k) at (c ∷ cs) = omega (arith, cut_weighs q k (at + 1) cs)

pub tokens_weigh : (q : Bool) (text : List ℕ) → size (tokens (cuts_of q text)) ≤ length text
tokens_weigh q text = omega (arith, cut_weighs q 0 0 text)
