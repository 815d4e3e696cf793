use Rattle.std.proofs.Common.{◌≡◌, true, get_or, set, refl, arith}
use Rattle.board_loops.specs.Marks.{is_open}
use Rattle.board_loops.specs.declared.net_loops.Dependency.{Dependency}
use Rattle.board_loops.proofs.LoopLaws.{string_there}
use Rattle.board_loops.proofs.MarkLaws.{grown_along}
use Rattle.board_loops.proofs.net_loops.marks.go_along.Goals as goal

pub returns : goal.returns
returns c =
    let strings = c.args.strings.now in
    let marks = c.args.marks.now in
    let nothing : Dependency = record { target = 0; source = 0 } in
    let string : Dependency = get_or strings c.args.place nothing in
    let alone : is_open marks string ≡ true = grind (arith, c.is_open.ensures, c.if-not-is_open.false) in
    grown_along strings string marks (set marks string.target true) (string_there strings c.args.place nothing (omega arith)) alone refl
