use Rattle.std.proofs.Common.{◌≡◌, ℕ, List, map, sym, ap, ◌∙◌, arith}
use Rattle.std.specs.Char.{to_ascii_uppercase}
use Rattle.std.specs.Cmp.Lexicographic.{slice_cmp}
use Rattle.std.specs.Ordering.{nat_cmp}
use Rattle.std.proofs.lemmas.Cmp.{nat_list_cmp_total, tied_itself}
use Rattle.std.proofs.lemmas.Slice.Eq.{bytes_eq-Decides}
use Rattle.name_keys.proofs.CompareLaws.{order_behind, order_ends}
use Rattle.name_keys.proofs.compare.Goals as goal

pub returns-then-eq : goal.returns-then-eq
returns-then-eq c =
    let upper = map to_ascii_uppercase c.args.one.now in
    let same : c.args.one.now ≡ c.args.other.now = (bytes_eq-Decides c.args.one.now c.args.other.now).0 (sym c.eq.ensures ∙ c.if-eq.true) in
    sym (ap (λ (q : List ℕ). slice_cmp nat_cmp upper (map to_ascii_uppercase q)) (sym same) ∙ tied_itself nat_list_cmp_total upper)

pub returns : goal.returns
returns c = c.cmp.ensures ∙ order_ends c.args.one.now c.args.other.now c.loop-i.i (omega arith) ∙ c.loop-i.invariant

pub loop-i-init : goal.loop-i-init
loop-i-init c = order_behind c.args.one.now c.args.other.now c.alike-i.result c.alike-i.ensures.within.0 c.alike-i.ensures.within.1 c.alike-i.ensures.alike
