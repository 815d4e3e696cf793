use Rattle.std.proofs.Common.{◌≡◌, ◌+◌, ℕ, List, ◌∷◌, suc, drop, slice_index_or, sym, ap, subst, ◌∙◌, arith, Option}
use Rattle.std.specs.Prelude.{IfSome}
use Rattle.scan_vectors.specs.Held.{bits}
use Rattle.svf_programs.specs.Seen.{numbered}
use Rattle.svf_programs.specs.Sizes.{program_of}
use Rattle.player.specs.declared.progress.Progress.{Progress}
use Rattle.player.specs.Taking.{TakesFirst, behind_answers}
use Rattle.player.specs.WordAhead.{IsExpectedBy}
use Rattle.player.proofs.Pieced.{drop-index}
use Rattle.player.proofs.Taking.{behind-both, behind-none, takes-both, takes-expected, takes-zero, wanted-below}
use Rattle.player.proofs.hearing.hear_expected.Goals as goal

pub returns-then-is_over-clause-takes : goal.returns-then-is_over-clause-takes
returns-then-is_over-clause-takes c = takes-zero (program_of c.args.program.now) c.args.p c.args.kept.now c.args.bytes.now c.requires.stands c.requires.keeps

pub loop-count-init : goal.loop-count-init
loop-count-init c = record {
  ahead = c.requires.ahead;
  some = omega arith;
  takes = subst (λ (q : Progress). TakesFirst (program_of c.args.program.now) c.args.p c.args.kept.now c.args.bytes.now q c.args.kept.now 0)
      (sym (behind-none c.args.p))
      (takes-zero (program_of c.args.program.now) c.args.p c.args.kept.now c.args.bytes.now c.requires.stands c.requires.keeps);
}

pub loop-count-preserved : goal.loop-count-preserved
loop-count-preserved c =
    let i = c.loop-count.invariant in
    let program = program_of c.args.program.now in
    let p = c.args.p in
    let k = c.args.kept.now in
    let bytes = c.args.bytes.now in
    let n = c.loop-count.count in
    let byte = slice_index_or bytes n 0 in
    let now = behind_answers p c.loop-count.judged n in
    let v = bits c.args.vector.now in
    let e = subst (λ (o : Option ℕ). IfSome o (λ i. IsExpectedBy v c.loop-count.judged byte i)) c.in-Some.is c.expected_by.ensures.expected in
    let next : suc n ≡ n + 1 = omega arith in
    let cut : drop n bytes ≡ byte ∷ drop (n + 1) bytes =
    drop-index n bytes (omega (arith, c.loop-count-test.true, c.min-most.ensures)) ∙ ap (λ m. byte ∷ drop m bytes) next in
    let one = takes-expected program now i.takes.stands c.requires.good (omega (arith, c.loop-count-test.true, c.min-most.ensures)) (numbered c.args.step.now) c.requires.first
    v c.requires.scans k i.takes.keeps (sym c.stops-is_over.ensures.value ∙ c.if-is_over.false) c.stops-is_over.ensures.calm byte c.in-Some.i (drop (n + 1) bytes) e in
    let there = subst (λ (l : List ℕ). TakesFirst program now k l (behind_answers p (c.in-Some.i + 1) (n + 1)) k 1) (sym cut)
    (subst (λ (q : Progress). TakesFirst program now k (byte ∷ drop (n + 1) bytes) q k 1) (behind-both p c.loop-count.judged n (c.in-Some.i + 1) 1) one) in
    record {
      ahead = c.expected_by.ensures.known;
      some = omega (arith, c.loop-count-test.true, c.min-most.ensures);
      takes = takes-both program p now (behind_answers p (c.in-Some.i + 1) (n + 1)) k k k bytes n 1 i.takes there;
    }

pub behind_answers-requires-clause-fits : goal.behind_answers-requires-clause-fits
behind_answers-requires-clause-fits c =
    let below = wanted-below (program_of c.args.program.now) c.args.p c.requires.stands c.requires.good c.requires.owed (numbered c.args.step.now) c.requires.first
    (bits c.args.vector.now) c.requires.scans c.args.kept.now c.requires.keeps (sym c.stops-is_over.ensures.value ∙ c.if-is_over.false) c.stops-is_over.ensures.calm in
    omega (arith, below, c.len-2.ensures, c.loop-count.invariant.some)

pub behind_answers-requires-2-clause-fits : goal.behind_answers-requires-2-clause-fits
behind_answers-requires-2-clause-fits c =
    let below = wanted-below (program_of c.args.program.now) c.args.p c.requires.stands c.requires.good c.requires.owed (numbered c.args.step.now) c.requires.first
    (bits c.args.vector.now) c.requires.scans c.args.kept.now c.requires.keeps (sym c.stops-is_over.ensures.value ∙ c.if-is_over.false) c.stops-is_over.ensures.calm in
    omega (arith, below, c.len-2.ensures, c.loop-count.invariant.some)
