use Rattle.std.proofs.Common.{◌≡◌, ◌≢◌, ◌<◌, ◌+◌, ℕ, List, Some, length, map, get_or, set, slice_get, sym, ap, subst, ◌∙◌, arith, ⊎_elim}
use Rattle.std.proofs.lemmas.Bool.{cases_eq}
use Rattle.std.proofs.lemmas.List.{length-map}
use Rattle.std.proofs.lemmas.Option.{same_Some, slice_get-get_or, slice_get_within}
use Rattle.pin_nets.specs.Wired.{Net}
use Rattle.pin_nets.specs.declared.Drive.{Drive}
use Rattle.board_plan.specs.Planned.{all_pins}
use Rattle.board_chips.specs.WiringValues.{WiringValue}
use Rattle.board_chips.specs.Driving.{entry_drives}
use Rattle.board_chips.specs.WiredChips.{held_of}
use Rattle.board_chips.specs.Tables.{Settled, Settles, targets}
use Rattle.board_chips.specs.declared.driving.DrivingPin.{DrivingPin}
use Rattle.board_chips.proofs.SettleLaws.{put_settled, settles_both, settles_put, target_within, targets_long}
use Rattle.board_chips.proofs.refreshing.refresh_rest.Goals as goal

abbrev none : DrivingPin
none = record { device = 0; cell = 0; pin = 0 }

pub put_one-requires-clause-device : goal.put_one-requires-clause-device
put_one-requires-clause-device c =
    let chips = c.args.chips.now in
    let rest = c.args.rest.now in
    let i = c.loop-it.it-index in
    let r = c.requires.rest i (get_or rest i none) (slice_get-get_or rest i none c.loop-it-test.true) in
    omega (arith, r.device, length-map chips held_of)

pub put_one-requires-clause-pin : goal.put_one-requires-clause-pin
put_one-requires-clause-pin c =
    let chips = c.args.chips.now in
    let nets = c.args.wiring.now.nets in
    let rest = c.args.rest.now in
    let i = c.loop-it.it-index in
    let e = get_or rest i none in
    let r = c.requires.rest i e (slice_get-get_or rest i none c.loop-it-test.true) in
    subst (λ (ns : List Net). e.pin < length (all_pins ns)) (sym c.loop-it.invariant.nets) (target_within chips nets e.pin (entry_drives (map held_of chips) e) r.pin)

done_more : (target ds es : List Drive) (rest : List DrivingPin) (i : ℕ) (e : DrivingPin) → slice_get rest i ≡ Some e → Settles target ds es → Settled target es e.pin
    → ((k : ℕ) (x : DrivingPin) → k < i → slice_get rest k ≡ Some x → Settled target ds x.pin)
    → (k : ℕ) (x : DrivingPin) → k < i + 1 → slice_get rest k ≡ Some x → Settled target es x.pin
done_more target ds es rest i e at settles own done k x below there = ⊎_elim
    (λ (same : k ≡ i).
    let is : e ≡ x = same_Some e x (sym at ∙ sym (ap (slice_get rest) same) ∙ there) in
    subst (λ (y : DrivingPin). Settled target es y.pin) is own)
    (λ (apart : k ≢ i). settles.each x.pin (done k x (omega arith) there))
    (cases_eq k i)

pub loop-it-preserved : goal.loop-it-preserved
loop-it-preserved c =
    let chips = c.args.chips.now in
    let nets = c.args.wiring.now.nets in
    let target = targets chips nets in
    let rest = c.args.rest.now in
    let i = c.loop-it.it-index in
    let e = get_or rest i none in
    let at : slice_get rest i ≡ Some e = slice_get-get_or rest i none c.loop-it-test.true in
    let r = c.requires.rest i e at in
    let d = entry_drives (map held_of chips) e in
    let ds = c.loop-it.wiring.drives in
    let es = c.put_one.new.wiring.drives in
    let so_far = c.loop-it.invariant in
    let long : length ds ≡ length target = so_far.settles.long ∙ c.requires.full ∙ sym (targets_long chips nets) in
    let put : es ≡ set ds e.pin d = ap (λ (v : WiringValue). v.drives) c.put_one.ensures in
    let settles : Settles target ds es = settles_put target ds es e.pin d put r.pin in
    record {
      nets = ap (λ (v : WiringValue). v.nets) c.put_one.ensures ∙ so_far.nets;
      settles = settles_both target c.args.wiring.now.drives ds es so_far.settles settles;
      done = done_more target ds es rest i e at settles (put_settled target ds es e.pin d put r.pin long) so_far.done;
    }

pub returns-clause-settled : goal.returns-clause-settled
returns-clause-settled c = λ k e at.
    let inside : k < length c.args.rest.now = slice_get_within c.args.rest.now k e at in
    c.loop-it.invariant.done k e (omega (arith, inside, c.loop-it-test.false)) at
