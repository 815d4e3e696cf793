-- A text has no more tokens than bytes.
use Rattle.std.proofs.Common.{ℕ, zero, suc, ◌+◌, ◌≤◌, Bool, List, [], ◌∷◌, length, drop, arith}
use Rattle.std.proofs.lemmas.List.{length-drop}
use Rattle.bsdl_text.specs.declared.tokens.Lexer.{Lexer}
use Rattle.bsdl_text.specs.declared.tokens.scan.Front.{Front}
use Rattle.bsdl_text.specs.declared.tokens.scan.Front.TheVariants.{Gap, Token, Bad}
use Rattle.bsdl_text.specs.Cutting.{Cut, cut, front, behind, with_front, tokens}
use Rattle.bsdl_text.specs.Left.{left}

one_front : (f : Front) (at c : ℕ) (cs : List ℕ) (cuts : List Cut) (n : ℕ) → length (tokens cuts) ≤ n → length (tokens (with_front f at c cs cuts)) ≤ suc n
one_front (Gap k) at c cs cuts n few = omega arith
one_front (Token kind k) at c cs cuts n few = omega arith
one_front Bad at c cs cuts n few = omega arith

tokens_few : (q : Bool) (skip at : ℕ) (text : List ℕ) → length (tokens (cut q skip at text)) ≤ length text
unfolding cut
tokens_few q skip at [] = omega arith
tokens_few q zero at (c ∷ cs) =
    one_front (front q c cs) at c cs (cut q (behind (front q c cs)) (at + 1) cs) (length cs) (tokens_few q (behind (front q c cs)) (at + 1) cs)
tokens_few q (suc k) at (c ∷ cs) = omega (arith, tokens_few q k (at + 1) cs)

pub few : (l : Lexer) → length (left l) ≤ length l.source.now
unfolding left
few l = omega (arith, tokens_few l.quoted 0 l.at (drop l.at l.source.now), length-drop l.at l.source.now)
