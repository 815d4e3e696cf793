use Rattle.std.proofs.Common.{◌≡◌, All, Bool, List, ℕ, false, replicate, sym, ap, subst, ◌∙◌, rules}
use Rattle.board_loops.specs.Loops.{IsWithin}
use Rattle.board_loops.specs.Marks.{is_marked}
use Rattle.board_loops.proofs.MarkLaws.{none_marked}
use Rattle.board_loops.proofs.net_loops.marks.dependents.Goals as goal

pub mark_dependents-requires-clause-within : goal.mark_dependents-requires-clause-within
mark_dependents-requires-clause-within c =
    subst (λ (n : ℕ). All (IsWithin n) c.args.strings.now) (sym (c.deref_mut.ensures.len ∙ c.in_ok-marks.ensures.len)) c.requires.within

pub mark_dependents-requires-clause-none : goal.mark_dependents-requires-clause-none
mark_dependents-requires-clause-none c = λ n.
    let none : c.deref_mut.result.now ≡ replicate c.args.nets false = c.deref_mut.ensures.value ∙ c.in_ok-marks.ensures.items_if_clones_equal (λ y h. search rules) in
    ap (λ (marks : List Bool). is_marked marks n) none ∙ none_marked c.args.nets n
