use Rattle.std.proofs.Common.{◌+◌, ℕ, sym, ap, ◌∙◌, arith, Err}
use Rattle.svf_lex.specs.Left.{left}
use Rattle.svf_words.specs.Words.{groups_of}
use Rattle.svf_words.specs.declared.fault.SvfFault.{SvfFault}
use Rattle.svf_parse.specs.View.{said_of}
use Rattle.svf_parse.proofs.NextStatements.{fewer_behind}
use Rattle.svf_settings.specs.Held.{is_named}
use Rattle.svf_settings.specs.LookBack.{settings}
use Rattle.svf_settings.proofs.KeptTexts.{begins_reading, few_read, held_read, periods_read, program_read, reads_more, refused_there, sound_read}
use Rattle.svf_settings.proofs.texts.read_text.Goals as goal

pub loop-keeper-init : goal.loop-keeper-init
loop-keeper-init c =
    begins_reading (groups_of (left c.args.text)) c.first-keeper.result.statements.items c.first-keeper.result.reader c.first-keeper.result.made.steps.items c.first-keeper.result.made.periods.items
    c.first-keeper.ensures.none c.first-keeper.ensures.after

pub of_kept-requires-clause-sound : goal.of_kept-requires-clause-sound
of_kept-requires-clause-sound c =
    let reads = c.loop-keeper.invariant in
    let next = rw c.in_default.is at c.in_ok-after.ensures.next in
    rw next.1 (sound_read (groups_of (left c.args.text)) (groups_of (left c.loop-keeper.lexer)) c.loop-keeper.keeper.statements.items c.loop-keeper.keeper.reader c.loop-keeper.keeper.made.steps.items c.loop-keeper.keeper.made.periods.items c.loop-keeper.count reads)

pub of_kept-requires-clause-few : goal.of_kept-requires-clause-few
of_kept-requires-clause-few c =
    let reads = c.loop-keeper.invariant in
    let few = few_read (groups_of (left c.args.text)) (groups_of (left c.loop-keeper.lexer)) c.loop-keeper.keeper.statements.items c.loop-keeper.keeper.reader c.loop-keeper.keeper.made.steps.items c.loop-keeper.keeper.made.periods.items c.loop-keeper.count reads in
    omega (arith, few)

pub returns-in_default-clause-answers : goal.returns-in_default-clause-answers
returns-in_default-clause-answers c =
    let reads = c.loop-keeper.invariant in
    let next = rw c.in_default.is at c.in_ok-after.ensures.next in
    rw (c.of_kept.ensures, next.1) (program_read (groups_of (left c.args.text)) (groups_of (left c.loop-keeper.lexer)) c.loop-keeper.keeper.statements.items c.loop-keeper.keeper.reader c.loop-keeper.keeper.made.steps.items c.loop-keeper.keeper.made.periods.items c.loop-keeper.count reads next.0)

pub returns-in_default-clause-held : goal.returns-in_default-clause-held
returns-in_default-clause-held c = λ all says.
    let reads = c.loop-keeper.invariant in
    let next = rw c.in_default.is at c.in_ok-after.ensures.next in
    rw (c.of_kept.ensures, next.1) (held_read (groups_of (left c.args.text)) (groups_of (left c.loop-keeper.lexer)) c.loop-keeper.keeper.statements.items c.loop-keeper.keeper.reader c.loop-keeper.keeper.made.steps.items c.loop-keeper.keeper.made.periods.items c.loop-keeper.count reads next.0 all says)

pub returns-in_default-clause-periods : goal.returns-in_default-clause-periods
returns-in_default-clause-periods c =
    let reads = c.loop-keeper.invariant in
    let next = rw c.in_default.is at c.in_ok-after.ensures.next in
    rw c.of_kept.ensures (periods_read (groups_of (left c.args.text)) (groups_of (left c.loop-keeper.lexer)) c.loop-keeper.keeper.statements.items c.loop-keeper.keeper.reader c.loop-keeper.keeper.made.steps.items c.loop-keeper.keeper.made.periods.items c.loop-keeper.count reads next.0)

pub loop-keeper-smaller : goal.loop-keeper-smaller
loop-keeper-smaller c =
    let next = rw c.in-Some.is at c.in_ok-after.ensures.next in
    fewer_behind (groups_of (left c.loop-keeper.lexer)) next.0 next.1 (groups_of (left c.in-Some.after)) next.3

pub loop-keeper-preserved : goal.loop-keeper-preserved
loop-keeper-preserved c =
    let reads = c.loop-keeper.invariant in
    let next = rw c.in-Some.is at c.in_ok-after.ensures.next in
    let few = rw c.in-Some.is at c.in_ok-after.ensures.count in
    let taken =
    (rw c.in-Ok-None.field-0-is at c.in-Ok-None.ensures) c.loop-keeper.keeper.statements.items next.2 reads.past next.4
    (ap (λ (m : ℕ). m + 1) (sym reads.counted)) reads.after in
    rw taken.1
    (reads_more (groups_of (left c.args.text)) (groups_of (left c.loop-keeper.lexer)) c.loop-keeper.keeper.statements.items c.loop-keeper.keeper.reader c.loop-keeper.keeper.made.steps.items c.loop-keeper.keeper.made.periods.items c.loop-keeper.count reads
    next.0 next.1 (groups_of (left c.in-Some.after)) next.2 next.3 next.5 (is_named (settings reads.past) (said_of next.2)) c.take.new.self.reader c.take.new.self.made.steps.items c.take.new.self.made.periods.items few (rw taken.1 at taken.0))

pub returns-in-Ok-Some-clause-answers : goal.returns-in-Ok-Some-clause-answers
returns-in-Ok-Some-clause-answers c = λ other.
    let reads = c.loop-keeper.invariant in
    let next = rw c.in-Some.is at c.in_ok-after.ensures.next in
    let refused =
    (rw c.in-Ok-Some.field-0-is at c.in-Ok-Some.ensures) c.loop-keeper.keeper.statements.items next.2 reads.past next.4
    (ap (λ (m : ℕ). m + 1) (sym reads.counted)) reads.after in
    refused_there (groups_of (left c.args.text)) (groups_of (left c.loop-keeper.lexer)) c.loop-keeper.keeper.statements.items c.loop-keeper.keeper.reader c.loop-keeper.keeper.made.steps.items c.loop-keeper.keeper.made.periods.items c.loop-keeper.count reads
    next.0 next.1 (groups_of (left c.in-Some.after)) next.2 next.3 next.5 c.in-Ok-Some.code refused
    ∙ ap (λ (f : SvfFault). Err f) (sym (c.first_fault.ensures other))
