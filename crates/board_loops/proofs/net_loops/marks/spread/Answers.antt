use Rattle.std.proofs.Common.{All, ℕ, refl, sym, subst, ◌∙◌}
use Rattle.board_loops.specs.Loops.{IsWithin}
use Rattle.board_loops.proofs.MarkLaws.{grown_more, grown_none}
use Rattle.board_loops.proofs.net_loops.marks.spread.Goals as goal

pub along-init : goal.along-init
along-init c = record { long = refl; grown = grown_none c.args.strings.now c.args.marks.now }

pub go_along-requires : goal.go_along-requires
go_along-requires c = subst (λ (n : ℕ). All (IsWithin n) c.args.strings.now) (sym c.along.invariant.long) c.requires

pub along-preserved : goal.along-preserved
along-preserved c = record {
  long = c.go_along.auto.marks ∙ c.along.invariant.long;
  grown = grown_more c.args.strings.now c.args.marks.now c.along.marks c.go_along.new.marks c.along.invariant.grown c.in_ok-go_along.ensures;
}
