use Rattle.std.proofs.Common.{◌≡◌, ◌<◌, ◌∙◌, arith, length}
use Rattle.std.proofs.lemmas.Bool.Decides.{nat_tests}
use Rattle.bsdl_text.proofs.SpellingLaws.{longer_is_larger, same_length_cmp}
use Rattle.bsdl_text.proofs.digits.compare.Goals as goal

pub returns-in-Less : goal.returns-in-Less
returns-in-Less c =
    let shorter : length c.args.one.now < length c.args.other.now = grind (arith, nat_tests, c.in-Less.is, c.cmp.ensures) in
    let less = longer_is_larger c.args.one.now c.args.other.now c.requires.one c.requires.other c.requires.other_starts shorter in
    grind (arith, nat_tests, less)

pub returns-in-Greater : goal.returns-in-Greater
returns-in-Greater c =
    let shorter : length c.args.other.now < length c.args.one.now = grind (arith, nat_tests, c.in-Greater.is, c.cmp.ensures) in
    let less = longer_is_larger c.args.other.now c.args.one.now c.requires.other c.requires.one c.requires.one_starts shorter in
    grind (arith, nat_tests, less)

pub returns-in-Equal : goal.returns-in-Equal
returns-in-Equal c =
    let as_long : length c.args.one.now ≡ length c.args.other.now = grind (arith, nat_tests, c.in-Equal.is, c.cmp.ensures) in
    let same = same_length_cmp 0 c.args.one.now c.args.other.now as_long c.requires.one c.requires.other in
    c.cmp-in-Equal.ensures ∙ same
