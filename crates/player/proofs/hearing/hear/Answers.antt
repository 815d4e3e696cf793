use Rattle.std.proofs.Common.{◌≡◌, ◌-◌, ℕ, List, drop, length, length-drop, take, sym, ap, subst, ◌∙◌, arith}
use Rattle.scan_vectors.specs.Held.{bits}
use Rattle.svf_programs.specs.Seen.{numbered}
use Rattle.svf_programs.specs.Sizes.{program_of}
use Rattle.play_model.specs.Streams.{hear_bytes}
use Rattle.player.specs.Findings.{keeping}
use Rattle.player.specs.Progress.{state_of}
use Rattle.player.specs.Taking.{TakesFirst}
use Rattle.player.proofs.AnswersTaken.{asks-nothing, bad-owes, is-none, owed-so, takes-nothing}
use Rattle.player.proofs.Each.{each-unowed}
use Rattle.player.proofs.Taking.{ends-empty, ends-unowed, take-whole, takes-both, takes-zero}
use Rattle.player.proofs.hearing.hear.Goals as goal

pub returns-then-p-eq0-clause-count : goal.returns-then-p-eq0-clause-count
returns-then-p-eq0-clause-count c =
    sym (ap length (takes-nothing (program_of c.args.program.now) c.args.p c.args.bytes.now c.requires.stands
    (is-none c.args.p.bad (sym c.is_some.ensures ∙ c.if-is_some.false)) c.if-p-eq0.true))

pub returns-then-p-eq0-clause-state : goal.returns-then-p-eq0-clause-state
returns-then-p-eq0-clause-state c =
    let s = keeping c.args.kept.now (state_of (program_of c.args.program.now) c.args.p) in
    sym (ap (λ (l : List ℕ). hear_bytes l s) (takes-nothing (program_of c.args.program.now) c.args.p c.args.bytes.now c.requires.stands
    (is-none c.args.p.bad (sym c.is_some.ensures ∙ c.if-is_some.false)) c.if-p-eq0.true))

pub returns-in_default-clause-count : goal.returns-in_default-clause-count
returns-in_default-clause-count c =
    absurd (asks-nothing (program_of c.args.program.now) c.args.p (numbered c.step-step.result) c.requires.stands c.step-step.ensures c.in_default.ensures
    (omega (arith, c.if-p-eq0.false)))

pub returns-in_default-clause-state : goal.returns-in_default-clause-state
returns-in_default-clause-state c =
    absurd (asks-nothing (program_of c.args.program.now) c.args.p (numbered c.step-step.result) c.requires.stands c.step-step.ensures c.in_default.ensures
    (omega (arith, c.if-p-eq0.false)))

pub returns-then-is_some-clause-each : goal.returns-then-is_some-clause-each
returns-then-is_some-clause-each c =
    let s = state_of (program_of c.args.program.now) c.args.p in
    each-unowed s c.args.kept.now c.requires.keeps c.args.bytes.now (bad-owes s (sym c.is_some.ensures ∙ c.if-is_some.true))

pub returns-then-p-eq0-clause-each : goal.returns-then-p-eq0-clause-each
returns-then-p-eq0-clause-each c =
    let program = program_of c.args.program.now in
    each-unowed (state_of program c.args.p) c.args.kept.now c.requires.keeps c.args.bytes.now
    (owed-so program c.args.p c.requires.stands (is-none c.args.p.bad (sym c.is_some.ensures ∙ c.if-is_some.false)) ∙ c.if-p-eq0.true)

pub returns-in_default-clause-each : goal.returns-in_default-clause-each
returns-in_default-clause-each c =
    absurd (asks-nothing (program_of c.args.program.now) c.args.p (numbered c.step-step.result) c.requires.stands c.step-step.ensures c.in_default.ensures
    (omega (arith, c.if-p-eq0.false)))

pub returns-then-is_some-2 : goal.returns-then-is_some-2
returns-then-is_some-2 c =
    let i = c.loop-count.invariant in
    let program = program_of c.args.program.now in
    let e = ends-unowed program c.args.p c.loop-count.p c.args.kept.now c.loop-count.kept c.args.bytes.now c.loop-count.count i.takes
    (bad-owes (state_of program c.loop-count.p) (sym c.is_some-in-loop-count.ensures ∙ c.if-is_some-2.true)) in
    record { stands = i.takes.stands; keeps = i.takes.keeps; count = e.count; state = e.state; each = e.each }

pub returns-then-p-eq0-2 : goal.returns-then-p-eq0-2
returns-then-p-eq0-2 c =
    let i = c.loop-count.invariant in
    let program = program_of c.args.program.now in
    let good = is-none c.loop-count.p.bad (sym c.is_some-in-loop-count.ensures ∙ c.if-is_some-2.false) in
    let e = ends-unowed program c.args.p c.loop-count.p c.args.kept.now c.loop-count.kept c.args.bytes.now c.loop-count.count i.takes
    (owed-so program c.loop-count.p i.takes.stands good ∙ c.if-p-eq0-2.true) in
    record { stands = i.takes.stands; keeps = i.takes.keeps; count = e.count; state = e.state; each = e.each }

pub returns : goal.returns
returns c =
    let i = c.loop-count.invariant in
    let e = ends-empty (program_of c.args.program.now) c.args.p c.loop-count.p c.args.kept.now c.loop-count.kept c.args.bytes.now c.loop-count.count i.takes
    (omega (arith, c.loop-count-test.false)) in
    record { stands = i.takes.stands; keeps = i.takes.keeps; count = e.count; state = e.state; each = e.each }

pub loop-count-init : goal.loop-count-init
loop-count-init c = record {
  ahead = c.nothing-ahead.ensures (bits c.in-Some.vector);
  takes = takes-zero (program_of c.args.program.now) c.args.p c.args.kept.now c.args.bytes.now c.requires.stands c.requires.keeps;
}

pub loop-count-preserved : goal.loop-count-preserved
loop-count-preserved c =
    let i = c.loop-count.invariant in
    let program = program_of c.args.program.now in
    let rest = drop c.loop-count.count c.args.bytes.now in
    let next = c.hear_some-more.result in
    let whole : take (length c.args.bytes.now - c.loop-count.count) rest ≡ rest = take-whole _ rest (omega (arith, length-drop c.loop-count.count c.args.bytes.now)) in
    let takes = subst (λ (l : List ℕ). TakesFirst program c.loop-count.p c.loop-count.kept l next.0 c.hear_some-more.new.kept next.1) whole c.hear_some-more.ensures.takes in
    record {
      ahead = c.hear_some-more.ensures.ahead;
      takes = takes-both program c.args.p c.loop-count.p next.0 c.args.kept.now c.loop-count.kept c.hear_some-more.new.kept c.args.bytes.now c.loop-count.count next.1
          i.takes takes;
    }
