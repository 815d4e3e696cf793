use Rattle.std.proofs.Common.{◌≡◌, ◌<◌, List, length, ⊎_elim, Some, slice_get, refl, sym, ap, subst, ◌∙◌, arith}
use Rattle.std.proofs.lemmas.Bool.{cases_lt}
use Rattle.std.proofs.lemmas.Option.{slice_get_read, slice_get_within, get_or_from_slice_get}
use Rattle.bsdl_device.specs.Device.{Access}
use Rattle.chip_instructions.specs.Fitting.{AccessFits}
use Rattle.chip_instructions.proofs.formed.accesses_fit.Goals as goal

pub loop-access-preserved : goal.loop-access-preserved
loop-access-preserved c = λ k a h is.
    ⊎_elim
    (λ (less : k < c.loop-access.access-index). c.loop-access.invariant k a less is)
    (λ here.
    let same : k ≡ c.loop-access.access-index = omega arith in
    let item : c.access-item.result ≡ a =
    c.access-item.is ∙ get_or_from_slice_get c.accesses-access-items.result.now c.loop-access.access-index a c.access-item.result (ap (slice_get c.accesses-access-items.result.now) (sym same) ∙ ap (λ (l : List Access). slice_get l k) c.accesses-access-items.ensures ∙ is) in
    subst (λ (x : Access). AccessFits c.args.device.now x) item (c.if-not-access_fits.ensures.fits refl))
    (cases_lt k c.loop-access.access-index)

pub returns-clause-fits : goal.returns-clause-fits
returns-clause-fits c = λ t k a is.
    let at : slice_get c.accesses-access-items.result.now k ≡ Some a = ap (λ (l : List Access). slice_get l k) c.accesses-access-items.ensures ∙ is in
    c.loop-access.invariant k a (omega (arith, slice_get_within c.accesses-access-items.result.now k a at, c.loop-access-test.false)) is

pub returns-then-not-access_fits-clause-needed : goal.returns-then-not-access_fits-clause-needed
returns-then-not-access_fits-clause-needed c = λ all.
    let xs = c.accesses-access-items.result.now in
    let k = c.loop-access.access-index in
    let at : slice_get xs k ≡ Some c.access-item.result = slice_get_read xs (length xs) k c.access-item.result refl c.loop-access-test.true c.access-item.is in
    c.if-not-access_fits.ensures.needed (all k c.access-item.result (ap (λ (l : List Access). slice_get l k) (sym c.accesses-access-items.ensures) ∙ at))
