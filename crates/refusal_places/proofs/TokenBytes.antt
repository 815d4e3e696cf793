-- The tokens of a text have no more bytes than the text.
use Rattle.std.proofs.Common.{◌≡◌, ◌∙◌, ap, ℕ, ◌+◌, ◌≤◌, List, [], ◌∷◌, length, arith, Result, Ok, Err}
use Rattle.svf_lex.specs.declared.Kind.{Kind}
use Rattle.svf_lex.specs.declared.Kind.TheVariants as kind
use Rattle.svf_lex.specs.declared.LexFault.{LexFault}
use Rattle.svf_lex.specs.Cutting.{Lexeme}
use Rattle.svf_lex.specs.Lexed.{InOrder}
use Rattle.refusal_places.specs.TokenFaults.{bytes_in, digits_ahead, with_run}

pub bytes_from : (text : List ℕ) (low : ℕ) (items : List (Result Lexeme LexFault)) → low ≤ length text → InOrder text low items
    → low + bytes_in items ≤ length text
bytes_from text low [] within order = omega (arith, within)
bytes_from text low (Err e ∷ items) within order = omega (arith, within)
bytes_from text low (Ok t ∷ items) within order =
    omega (arith, order.0, bytes_from text (t.start + length t.text) items order.2.within order.3)

run_few : (k : Kind) (n more all : ℕ) → more ≤ all → with_run k n more ≤ n + all
run_few kind.Run n more all le = omega (arith, le)
run_few kind.Open n more all le = omega arith
run_few kind.Close n more all le = omega arith
run_few kind.Semi n more all le = omega arith

pub digits_few : (items : List (Result Lexeme LexFault)) → digits_ahead items ≤ bytes_in items
digits_few [] = omega arith
digits_few (Err e ∷ items) = omega arith
digits_few (Ok t ∷ items) = run_few t.kind (length t.text) (digits_ahead items) (bytes_in items) (digits_few items)

-- a run and the digits before it are no more than all bytes
pub run_within : (old rest all : List (Result Lexeme LexFault)) (t : Lexeme) (n : ℕ) → old ≡ Ok t ∷ rest → t.kind ≡ kind.Run
    → n + digits_ahead old ≡ digits_ahead all → n + length t.text ≤ bytes_in all
run_within old rest all t n split is sum =
    let here : digits_ahead old ≡ length t.text + digits_ahead rest = ap digits_ahead split ∙ ap (λ k. with_run k (length t.text) (digits_ahead rest)) is in
    omega (arith, here, sum, digits_few all)
