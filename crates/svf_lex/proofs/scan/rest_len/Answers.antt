use Rattle.std.proofs.Common.{◌≡◌, ◌≤◌, ℕ, List, length, take, drop, ap, ◌∙◌, arith, inl, inr}
use Rattle.std.specs.List.{prefix_len}
use Rattle.std.proofs.lemmas.Bool.{cases_lt}
use Rattle.std.proofs.lemmas.List.{take_all}
use Rattle.svf_lex.specs.Bytes.{is_run}
use Rattle.token_runs.proofs.RunsAtOnce.{ends_here, goes_on}
use Rattle.svf_lex.proofs.scan.rest_len.Goals as goal

pub returns-then-len-lt-SHORT-clause-value : goal.returns-then-len-lt-SHORT-clause-value
returns-then-len-lt-SHORT-clause-value c =
    let text = c.args.text.now in
    let n = c.min.result in
    let front : c.run_by_bytes-len.result ≡ prefix_len is_run (take n text) = c.run_by_bytes-len.ensures.value ∙ ap (λ (l : List ℕ). prefix_len is_run l) c.split_at.ensures.front in
    elim (cases_lt (length text) 8) [
      | inl short ↦ front ∙ ap (λ (l : List ℕ). prefix_len is_run l) (take_all n text (omega (arith, c.min.ensures, short)))
      | inr long ↦ omega (arith, front, ends_here is_run n text (omega (arith, c.min.ensures, long)) (omega (arith, front, c.min.ensures, long, c.if-len-lt-SHORT.true)))
    ]

pub returns-else-len-lt-SHORT-clause-value : goal.returns-else-len-lt-SHORT-clause-value
returns-else-len-lt-SHORT-clause-value c =
    let text = c.args.text.now in
    let n = c.min.result in
    let front : c.run_by_bytes-len.result ≡ prefix_len is_run (take n text) = c.run_by_bytes-len.ensures.value ∙ ap (λ (l : List ℕ). prefix_len is_run l) c.split_at.ensures.front in
    let rest : c.run_len.result ≡ prefix_len is_run (drop n text) = c.run_len.ensures.value ∙ ap (λ (l : List ℕ). prefix_len is_run l) c.split_at.ensures.back in
    let within : n ≤ length text = omega (arith, c.min.ensures) in
    let small : n ≤ 8 = omega (arith, c.min.ensures) in
    let most : c.run_by_bytes-len.result ≤ n = omega (arith, c.run_by_bytes-len.ensures.within, c.split_at.ensures.front_len) in
    omega (arith, front, rest, goes_on is_run n text within (omega (arith, front, most, small, c.if-len-lt-SHORT.false)))
