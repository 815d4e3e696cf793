use Rattle.std.proofs.Common.{All, ℕ, true, set, refl, sym, subst, ◌∙◌, length-set}
use Rattle.board_loops.specs.Loops.{IsWithin}
use Rattle.board_loops.proofs.MarkLaws.{exactly_dependents}
use Rattle.board_loops.proofs.net_loops.marks.mark_dependents.Goals as goal

pub spread-requires : goal.spread-requires
spread-requires c = subst (λ (n : ℕ). All (IsWithin n) c.args.strings.now) (sym (length-set c.args.marks.now c.args.net true)) c.requires.within

pub close-requires : goal.close-requires
close-requires c =
    subst (λ (n : ℕ). All (IsWithin n) c.args.strings.now) (sym (c.spread.auto.marks ∙ length-set c.args.marks.now c.args.net true)) c.requires.within

pub returns : goal.returns
returns c =
    exactly_dependents c.args.strings.now c.args.net c.args.marks.now (set c.args.marks.now c.args.net true) c.spread.new.marks c.close.new.marks c.requires.inside c.requires.none refl
    c.in_ok-spread.ensures c.close.ensures.grown c.close.ensures.closed
