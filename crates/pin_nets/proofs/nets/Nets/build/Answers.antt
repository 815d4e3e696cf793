use Rattle.std.proofs.Common.{◌≡◌, ℕ, List, [], ◌∷◌, Option, length, map, replicate, sym, ap, subst, ◌∙◌, arith, rules}
use Rattle.std.specs.List.{list_all}
use Rattle.std.specs.Vec.{with_items}
use Rattle.std.proofs.lemmas.List.{with_items_is, length-replicate}
use Rattle.pin_nets.specs.declared.Drive.{Drive}
use Rattle.pin_nets.specs.declared.Drive.TheVariants.{Nothing}
use Rattle.pin_nets.specs.Levels.{NetValue, four, counts_of, is_counted, level, net_counts, pull_drive, reads, shown}
use Rattle.pin_nets.specs.Places.{Placed}
use Rattle.pin_nets.proofs.Building.{placed, idle_nets, idle_seen}
use Rattle.pin_nets.proofs.nets.Nets.build.Goals as goal

pub invariant_of-result : goal.invariant_of-result
invariant_of-result c =
    let v = c.in_ok-net_of.net_of in
    let named = c.named_nets.new.net_of in
    let entered = c.add_lone.new.net_of in
    let long_named : length named ≡ length v.items = c.named_nets.auto.net_of ∙ ap length c.deref_mut.ensures.value in
    let first = with_items_is v named (long_named ∙ sym v.ok.0) in
    let long_entered : length entered ≡ length (with_items v named).items = c.add_lone.auto.net_of ∙ ap length c.deref_mut-2.ensures.value in
    let second = with_items_is (with_items v named) entered (long_entered ∙ sym (with_items v named).ok.0) in
    let lone = c.in_ok-add_lone.ensures in
    let pins : length entered ≡ c.args.pins = long_entered ∙ ap length first ∙ long_named ∙ omega (arith, v.ok.0, c.in_ok-net_of.ensures.len) in
    let start : NetValue → List ℕ = λ x. four (counts_of (pull_drive x.pull ∷ [])) in
    let drives : c.in_ok-drives.drives.items ≡ replicate c.args.pins Nothing = search rules in
    record {
      long = ap length second ∙ pins ∙ sym (ap length drives ∙ length-replicate c.args.pins Nothing);
      placed = subst (λ (l : List (Option ℕ)). Placed l c.add_lone.new.nets.items) (sym second) (placed entered c.add_lone.new.nets.items lone.once lone.marked);
      short = lone.short;
      counts =
          c.in_ok-counts.ensures ∙ ap (map start) c.deref.ensures.value ∙ idle_nets c.args.pins c.add_lone.new.nets.items
          ∙ ap (λ (ds : List Drive). map (λ x. four (net_counts ds x)) c.add_lone.new.nets.items) (sym drives);
      seen =
          c.in_ok-seen.ensures ∙ ap (map (λ x. reads (shown x.rule (pull_drive x.pull) []))) c.deref-2.ensures.value ∙ idle_seen c.args.pins c.add_lone.new.nets.items
          ∙ ap (λ (ds : List Drive). map (λ x. reads (level ds x)) c.add_lone.new.nets.items) (sym drives);
      rules = c.are_counted-all_counted.ensures ∙ ap (list_all (λ (x : NetValue). is_counted x.rule)) c.deref-3.ensures.value;
    }
