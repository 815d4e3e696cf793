use Rattle.std.proofs.Common.{◌+◌, ℕ, map, length, refl, sym, ap, ◌∙◌, arith}
use Rattle.std.specs.Prelude.{Some}
use Rattle.svf_words.specs.declared.fault.SvfFault.{SvfFault}
use Rattle.std.proofs.lemmas.List.{length-map}
use Rattle.svf_parse.specs.View.{said_of}
use Rattle.svf_programs.specs.Held.{numbered_in}
use Rattle.svf_settings.proofs.KeptPrograms.{few_before}
use Rattle.svf_settings.proofs.OneStatementMore.{after_more, before_more, length_before, said_at}
use Rattle.svf_settings.proofs.FirstRefusals.{before, refused_at}
use Rattle.svf_settings.proofs.reading.read_all.Goals as goal

pub loop-index-init : goal.loop-index-init
loop-index-init c = (
  record {
    behind = c.first-reader.ensures (map said_of c.args.statements.now);
    fine = refl;
    steps_are = rw c.new-makings.ensures.steps refl;
    periods_are = c.new-makings.ensures.periods;
  },
  omega arith,
)

pub take-requires : goal.take-requires
take-requires c =
    let here = (rw c.in-Some.is at c.place_of.ensures.found).0 in
    rw here (said_at c.args.statements.now c.loop-index.index c.index-statements-index.result c.loop-index-test.true c.index-statements-index.is)

pub returns-in-Err-clause-keeps : goal.returns-in-Err-clause-keeps
returns-in-Err-clause-keeps c = λ _.
    let all = map said_of c.args.statements.now in
    let k = c.loop-index.index in
    let s = said_of c.index-statements-index.result in
    let at = said_at c.args.statements.now k c.index-statements-index.result c.loop-index-test.true c.index-statements-index.is in
    let l = length_before all k s at in
    let here = (rw c.in-Some.is at c.place_of.ensures.found).0 in
    let behind = c.loop-index.invariant.0.behind in
    let taken = c.take.ensures all (before k all) behind behind (λ _. rw here at) in
    refused_at all (before k all) k (k + 1) s c.in-Err.code (before_more all k s at) c.loop-index.invariant.0.fine (rw c.in-Err.is at taken) (ap (λ (m : ℕ). m + 1) (sym l))
    ∙ ap (λ (f : SvfFault). Some f) (sym c.fault_at.ensures)

pub loop-index-preserved : goal.loop-index-preserved
loop-index-preserved c =
    let all = map said_of c.args.statements.now in
    let k = c.loop-index.index in
    let s = said_of c.index-statements-index.result in
    let at = said_at c.args.statements.now k c.index-statements-index.result c.loop-index-test.true c.index-statements-index.is in
    let here = (rw c.in-Some.is at c.place_of.ensures.found).0 in
    let behind = c.loop-index.invariant.0.behind in
    let taken = c.take.ensures all (before k all) behind behind (λ _. rw here at) in (
      rw (c.in-Ok-push.ensures.steps, c.in-Ok-push.ensures.periods, here)
          (after_more all k s c.loop-index.reader c.take.new.self c.in-Ok.made c.loop-index.makings.steps.items c.loop-index.makings.periods.items at c.loop-index.invariant.0 (rw c.in-Ok.is at taken)),
      omega (arith, (rw c.in-Some.is at c.place_of.ensures.found).1, here),
    )

pub returns-clause-few : goal.returns-clause-few
returns-clause-few c =
    let all = map said_of c.args.statements.now in
    let kept = c.loop-index.makings.steps.items in
    omega (arith, c.loop-index.invariant.1, few_before all c.loop-index.index, ap length c.loop-index.invariant.0.steps_are, length-map kept (numbered_in all))
