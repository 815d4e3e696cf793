use Rattle.std.proofs.Common.{◌+◌, [], vec_len, arith}
use Rattle.svf_lex.specs.Left.{left}
use Rattle.svf_words.specs.Words.{groups_of}
use Rattle.svf_parse.specs.Reading.{groups_say}
use Rattle.svf_parse.proofs.Grouping.{told_over, told_broken, told_empty, told_said, open_behind}
use Rattle.svf_parse.proofs.text.statements.Goals as goal

pub returns-in-Over : goal.returns-in-Over
returns-in-Over c =
    told_over c.loop-all.all.items (vec_len c.loop-all.all + 1) (groups_of (left c.loop-all.lexer)) (groups_say 1 (groups_of (left c.args.text))) c.loop-all.invariant.0 [] c.in-Over.ensures

pub returns-in-Broken : goal.returns-in-Broken
returns-in-Broken c =
    rw (told_broken c.loop-all.all.items (vec_len c.loop-all.all + 1) (groups_of (left c.loop-all.lexer)) (groups_say 1 (groups_of (left c.args.text))) c.loop-all.invariant.0 [] c.in-Broken.fault c.in-Broken.ensures)
    (rw c.len.ensures at c.broken.ensures)

pub loop-all-preserved-in-Empty : goal.loop-all-preserved-in-Empty
loop-all-preserved-in-Empty c =
    (told_empty c.loop-all.all.items (vec_len c.loop-all.all + 1) (groups_of (left c.loop-all.lexer)) (groups_say 1 (groups_of (left c.args.text))) c.loop-all.invariant.0 (groups_of (left c.in-Empty.after)) c.in-Empty.ensures, c.loop-all.invariant.1)

pub loop-all-preserved : goal.loop-all-preserved
loop-all-preserved c =
    let takes = c.in-Ok.ensures.takes in
    let count = c.in-Ok.ensures.count in
    (rw (takes.3, count.0) (told_said c.loop-all.all.items (vec_len c.loop-all.all + 1) (groups_of (left c.loop-all.lexer)) (groups_say 1 (groups_of (left c.args.text))) c.loop-all.invariant.0 c.in-Word.word.now (groups_of (left c.in-Word.rest)) c.in-Word.ensures takes.0 (groups_of (left c.in-Ok.after)) takes.1 takes.2 (rw c.len-in-Word.ensures at takes.4)), omega (arith, count.0, count.1, c.len-in-Word.ensures))

pub add-requires : goal.add-requires
add-requires c = open_behind c.loop-all.lexer c.in-Word.rest c.in-Word.word.now c.in-Word.ensures
