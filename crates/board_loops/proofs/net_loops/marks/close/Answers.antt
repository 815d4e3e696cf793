use Rattle.std.proofs.Common.{All, ℕ, true, set, refl, sym, subst, ◌∙◌, length-set}
use Rattle.board_loops.specs.Loops.{IsWithin}
use Rattle.board_loops.proofs.MarkLaws.{grown_along, grown_more, grown_none, one_fewer, open_target}
use Rattle.board_loops.proofs.net_loops.marks.close.Goals as goal

pub rounds-init : goal.rounds-init
rounds-init c = record { long = refl; grown = grown_none c.args.strings.now c.args.marks.now }

pub first_open-requires : goal.first_open-requires
first_open-requires c = subst (λ (n : ℕ). All (IsWithin n) c.args.strings.now) (sym c.rounds.invariant.long) c.requires

pub rounds-preserved : goal.rounds-preserved
rounds-preserved c =
    let marks = c.rounds.marks in
    let string = c.in-Some.string in
    let new = set marks string.target true in
    record {
      long = length-set marks string.target true ∙ c.rounds.invariant.long;
      grown = grown_more c.args.strings.now c.args.marks.now marks new c.rounds.invariant.grown
          (grown_along c.args.strings.now string marks new c.in-Some.ensures.there c.in-Some.ensures.alone refl);
    }

pub rounds-smaller : goal.rounds-smaller
rounds-smaller c =
    let marks = c.rounds.marks in
    let string = c.in-Some.string in
    one_fewer marks (set marks string.target true) string.target c.in-Some.ensures.inside.target (open_target marks string c.in-Some.ensures.alone) refl
