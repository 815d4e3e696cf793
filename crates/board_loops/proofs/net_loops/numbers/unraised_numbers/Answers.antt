use Rattle.std.proofs.Common.{All, ℕ, length, sym, ap, subst, ◌∙◌, rules}
use Rattle.board_loops.specs.Loops.{IsWithin}
use Rattle.board_loops.proofs.NumberLaws.{same_unraised}
use Rattle.board_loops.proofs.net_loops.numbers.unraised_numbers.Goals as goal

pub none_is_raised-requires : goal.none_is_raised-requires
none_is_raised-requires c = subst (λ (n : ℕ). All (IsWithin n) c.args.strings.now) (sym (ap length c.deref.ensures.value ∙ c.requires.numbered)) c.requires.within

pub returns-clause-unraised : goal.returns-clause-unraised
returns-clause-unraised c = same_unraised c.args.strings.now c.args.nets c.in_ok-same.same.items (c.in_ok-same.ensures.items_if_clones_equal (λ y h. search rules))
