use Rattle.std.proofs.Common.{rules, sym, subst, List, ℕ, ◌∙◌, ap, map}
use Rattle.std.proofs.lemmas.List.Sorted.{IsNonDecreasingBy-from_sort_by_key}
use Rattle.board_loops.specs.Jobs.{place_of}
use Rattle.board_loops.specs.Loops.{IsInOrder}
use Rattle.board_loops.specs.declared.net_loops.order.Job.{Job}
use Rattle.board_loops.proofs.OrderLaws.{in_order}
use Rattle.board_loops.proofs.net_loops.order.order_by.Goals as goal

pub returns : goal.returns
returns c =
    let sorted = c.sort_by_key.new.self.items in
    let rising = IsNonDecreasingBy-from_sort_by_key (λ (job : Job). job.number) sorted c.in_ok-sort_by_key.ensures.sorted (λ a r q k. search rules) in
    subst (λ (order : List ℕ). IsInOrder c.args.strings.now order) (sym (c.in_ok-order.ensures ∙ ap (map place_of) c.deref.ensures.value))
    (in_order c.args.strings.now c.args.numbers.now c.in_ok-jobs.jobs.items sorted c.requires.lowered c.in_ok-jobs.ensures.places c.in_ok-jobs.ensures.jobs c.in_ok-sort_by_key.ensures.permutation rising)
