use Rattle.std.proofs.Common.{◌≡◌, ◌<◌, ◌++◌, [], ◌∷◌, ℕ, List, length, get_or, map, take, slice_index, sym, ap, subst, ◌∙◌, arith}
use Rattle.std.proofs.lemmas.List.{take_more, length-map}
use Rattle.pin_nets.specs.Levels.{NetValue}
use Rattle.pin_nets.specs.Building.{net_value}
use Rattle.pin_nets.specs.Places.{HasNetOfEach, AreShort}
use Rattle.pin_nets.proofs.Counting.{nobody}
use Rattle.pin_nets.proofs.Building.{named_at, named_inside, marked_named, short_push}
use Rattle.pin_nets.proofs.build.named_nets.Goals as goal

pub join-requires : goal.join-requires
join-requires c = λ i h.
    let inside = named_inside c.args.specs.now c.loop-spec.spec-index c.spec-item.result (length c.args.net_of.now) c.loop-spec-test.true c.spec-item.is c.requires.below i (omega (arith, h, ap length c.deref.ensures.value)) in
    omega (arith, inside, ap (λ (ps : List ℕ). slice_index ps i) c.deref.ensures.value, c.loop-spec.invariant.long)

pub loop-spec-preserved : goal.loop-spec-preserved
loop-spec-preserved c =
    let specs = c.args.specs.now in
    let whole = map net_value specs in
    let k = c.loop-spec.spec-index in
    let spec = c.spec-item.result in
    let x = net_value spec in
    let nets = c.loop-spec.nets.items in
    let h : k < length whole = omega (arith, c.loop-spec-test.true, length-map specs net_value) in
    let at : get_or whole k nobody ≡ x = named_at specs k spec c.loop-spec-test.true c.spec-item.is in
    let pins : c.in_ok-to_vec.field-0.items ≡ spec.pins.items = c.in_ok-to_vec.ensures.items_if_clones_equal (λ a b e. e) ∙ c.deref-in-loop-spec.ensures.value in
    let pushed : c.push.new.self.items ≡ nets ++ x ∷ [] = c.in_ok-push.ensures.items ∙ ap (λ (ps : List ℕ). nets ++ record { pull = spec.pull; rule = spec.rule; pins = ps } ∷ []) pins in
    let marked : HasNetOfEach c.join.new.net_of (nets ++ x ∷ []) =
    marked_named whole nets k x c.loop-spec.net_of c.join.new.net_of c.len.result c.deref.result.now c.loop-spec.invariant.nets h at c.requires.once c.loop-spec.invariant.marked c.join.ensures
    (omega (arith, c.len.ensures, c.loop-spec.nets.ok.0)) c.deref.ensures.value in
    record {
      nets = pushed ∙ ap (λ (l : List NetValue). l ++ x ∷ []) c.loop-spec.invariant.nets ∙ ap (λ (y : NetValue). take k whole ++ y ∷ []) (sym at) ∙ sym (take_more whole k nobody h);
      long = c.join.ensures.long ∙ c.loop-spec.invariant.long;
      marked = subst (λ (l : List NetValue). HasNetOfEach c.join.new.net_of l) (sym pushed) marked;
      short = subst AreShort (sym pushed) (short_push nets x c.loop-spec.invariant.short (omega (arith, c.deref.type_inv, ap length c.deref.ensures.value)));
    }
