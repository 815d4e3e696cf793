use Rattle.std.proofs.Common.{◌≡◌, ◌<◌, ℕ, Bool, List, length, get_or, set, sym, ap, ◌∙◌, arith}
use Rattle.std.proofs.lemmas.List.{get_or_default, length-map, length-set}
use Rattle.pin_nets.specs.declared.Drive.{Drive}
use Rattle.pin_nets.specs.declared.Counts.{Counts}
use Rattle.pin_nets.specs.Levels.{NetsValue, NetValue, four, net_counts, drive_at, level, level_by, reads}
use Rattle.pin_nets.specs.Rows.{numbers}
use Rattle.pin_nets.proofs.Counting.{OnNet, nobody, on_some, pin_at, old_is, row_is, named_is, is_row, has_before, few_before, moved_as, counted, counted_there, kept, kept_off, kept_on, seen_off, seen_on}
use Rattle.pin_nets.proofs.nets.Nets.place.Goals as goal
use Rattle.pin_nets.proofs.nets.Nets.place.Goals.{then-self, else-self}

pub exchange-counted-requires-clause-row : goal.exchange-counted-requires-clause-row
exchange-counted-requires-clause-row c =
    let ds = c.self.inside.drives.items in
    let nets = c.self.inside.nets.items in
    let pin = c.args.pin in
    let in_ : pin < length ds = omega (arith, c.requires, ap (λ (v : NetsValue). length v.drives) c.self.view_is) in
    let at = pin_at c.self.inside.net_of.items nets pin c.index.result.now _ c.self.invariant.placed (omega (arith, in_, c.self.invariant.long)) c.index.ensures c.in-Some.is in
    let on : OnNet pin nets c.in-Some.net = on_some pin nets c.in-Some.net c.self.invariant.placed.once at in
    is_row c.index_mut-in-Some.result.now _ (row_is ds nets c.self.inside.counts.items c.in-Some.net c.index_mut-in-Some.result.now c.self.invariant.counts on.inside c.index_mut-in-Some.ensures.value)

pub exchange-counted-requires-clause-there : goal.exchange-counted-requires-clause-there
exchange-counted-requires-clause-there c =
    let ds = c.self.inside.drives.items in
    let nets = c.self.inside.nets.items in
    let pin = c.args.pin in
    let in_ : pin < length ds = omega (arith, c.requires, ap (λ (v : NetsValue). length v.drives) c.self.view_is) in
    let at = pin_at c.self.inside.net_of.items nets pin c.index.result.now _ c.self.invariant.placed (omega (arith, in_, c.self.invariant.long)) c.index.ensures c.in-Some.is in
    let on : OnNet pin nets c.in-Some.net = on_some pin nets c.in-Some.net c.self.invariant.placed.once at in
    let x = get_or nets c.in-Some.net nobody in
    let row = c.index_mut-in-Some.result.now in
    let before : numbers row ≡ net_counts ds x = named_is row _ (row_is ds nets c.self.inside.counts.items c.in-Some.net row c.self.invariant.counts on.inside c.index_mut-in-Some.ensures.value) in
    let old : c.index-old.result.now ≡ drive_at ds pin = old_is ds pin c.index-old.result.now in_ c.index-old.ensures in
    has_before ds pin x c.index-old.result.now (numbers row) in_ on.once old before

pub exchange-counted-requires-clause-few : goal.exchange-counted-requires-clause-few
exchange-counted-requires-clause-few c =
    let ds = c.self.inside.drives.items in
    let nets = c.self.inside.nets.items in
    let pin = c.args.pin in
    let in_ : pin < length ds = omega (arith, c.requires, ap (λ (v : NetsValue). length v.drives) c.self.view_is) in
    let at = pin_at c.self.inside.net_of.items nets pin c.index.result.now _ c.self.invariant.placed (omega (arith, in_, c.self.invariant.long)) c.index.ensures c.in-Some.is in
    let on : OnNet pin nets c.in-Some.net = on_some pin nets c.in-Some.net c.self.invariant.placed.once at in
    let x = get_or nets c.in-Some.net nobody in
    let row = c.index_mut-in-Some.result.now in
    let before : numbers row ≡ net_counts ds x = named_is row _ (row_is ds nets c.self.inside.counts.items c.in-Some.net row c.self.invariant.counts on.inside c.index_mut-in-Some.ensures.value) in
    few_before ds nets c.in-Some.net (numbers row) c.self.invariant.short on.inside before

pub invariant_of-self-in_default : goal.invariant_of-self-in_default
invariant_of-self-in_default c =
    let ds = c.self.inside.drives.items in
    let nets = c.self.inside.nets.items in
    let pin = c.args.pin in
    let in_ : pin < length ds = omega (arith, c.requires, ap (λ (v : NetsValue). length v.drives) c.self.view_is) in
    let at = pin_at c.self.inside.net_of.items nets pin c.index.result.now _ c.self.invariant.placed (omega (arith, in_, c.self.invariant.long)) c.index.ensures c.in_default.is in
    record {
      long = c.self.invariant.long ∙ sym (length-set ds pin c.args.drive);
      placed = c.self.invariant.placed;
      short = c.self.invariant.short;
      counts = c.self.invariant.counts ∙ kept_off ds pin c.args.drive nets in_ at;
      seen = c.self.invariant.seen ∙ seen_off ds pin c.args.drive nets in_ at;
      rules = c.self.invariant.rules;
    }

pub sees-requires : goal.sees-requires
sees-requires c =
    let ds = c.self.inside.drives.items in
    let nets = c.self.inside.nets.items in
    let pin = c.args.pin in
    let in_ : pin < length ds = omega (arith, c.requires, ap (λ (v : NetsValue). length v.drives) c.self.view_is) in
    let at = pin_at c.self.inside.net_of.items nets pin c.index.result.now _ c.self.invariant.placed (omega (arith, in_, c.self.invariant.long)) c.index.ensures c.in-Some.is in
    let on : OnNet pin nets c.in-Some.net = on_some pin nets c.in-Some.net c.self.invariant.placed.once at in
    let x = get_or nets c.in-Some.net nobody in
    let row = c.index_mut-in-Some.result.now in
    let new = c.exchange-counted.new.row in
    let before : numbers row ≡ net_counts ds x = named_is row _ (row_is ds nets c.self.inside.counts.items c.in-Some.net row c.self.invariant.counts on.inside c.index_mut-in-Some.ensures.value) in
    let old : c.index-old.result.now ≡ drive_at ds pin = old_is ds pin c.index-old.result.now in_ c.index-old.ensures in
    let move = moved_as (numbers row) (numbers new) (net_counts ds x) c.index-old.result.now (drive_at ds pin) c.args.drive before old c.exchange-counted.ensures.row.moved in
    let counts =
    ap (λ (cs : List (List ℕ)). set cs c.in-Some.net new) c.self.invariant.counts ∙ ap (set (kept ds nets) c.in-Some.net) c.exchange-counted.ensures.row.four.four
    ∙ kept_on ds pin c.args.drive nets c.in-Some.net in_ on (numbers new) move in
    let ds2 = set ds pin c.args.drive in
    let net_is : c.index-else-self.result.now ≡ x = c.index-else-self.ensures ∙ get_or_default nets c.in-Some.net c.index-else-self.result.now nobody on.inside in
    row_is ds2 nets (set c.self.inside.counts.items c.in-Some.net new) c.in-Some.net c.index-else-self-2.result.now counts on.inside c.index-else-self-2.ensures
    ∙ ap (λ (y : NetValue). four (net_counts ds2 y)) (sym net_is)
    ∙ ap (λ (l : List Drive). four (net_counts l c.index-else-self.result.now)) (sym c.deref.ensures.value)

pub index-requires-else-self-2 : goal.index-requires-else-self-2
index-requires-else-self-2 c =
    let ds = c.self.inside.drives.items in
    let nets = c.self.inside.nets.items in
    let pin = c.args.pin in
    let in_ : pin < length ds = omega (arith, c.requires, ap (λ (v : NetsValue). length v.drives) c.self.view_is) in
    let at = pin_at c.self.inside.net_of.items nets pin c.index.result.now _ c.self.invariant.placed (omega (arith, in_, c.self.invariant.long)) c.index.ensures c.in-Some.is in
    let on : OnNet pin nets c.in-Some.net = on_some pin nets c.in-Some.net c.self.invariant.placed.once at in
    omega (arith, on.inside, ap length c.self.invariant.counts, length-map nets (λ y. four (net_counts ds y)), c.self.inside.counts.ok.0)

pub index_mut-requires-in-Some-2 : goal.index_mut-requires-in-Some-2
index_mut-requires-in-Some-2 c =
    let ds = c.self.inside.drives.items in
    let nets = c.self.inside.nets.items in
    let pin = c.args.pin in
    let in_ : pin < length ds = omega (arith, c.requires, ap (λ (v : NetsValue). length v.drives) c.self.view_is) in
    let at = pin_at c.self.inside.net_of.items nets pin c.index.result.now _ c.self.invariant.placed (omega (arith, in_, c.self.invariant.long)) c.index.ensures c.in-Some.is in
    let on : OnNet pin nets c.in-Some.net = on_some pin nets c.in-Some.net c.self.invariant.placed.once at in
    omega (arith, on.inside, ap length c.self.invariant.seen, length-map nets (λ y. reads (level ds y)), c.self.inside.seen.ok.0)

pub invariant_of-self : goal.invariant_of-self
invariant_of-self c =
    let ds = c.self.inside.drives.items in
    let nets = c.self.inside.nets.items in
    let pin = c.args.pin in
    let in_ : pin < length ds = omega (arith, c.requires, ap (λ (v : NetsValue). length v.drives) c.self.view_is) in
    let at = pin_at c.self.inside.net_of.items nets pin c.index.result.now _ c.self.invariant.placed (omega (arith, in_, c.self.invariant.long)) c.index.ensures c.in-Some.is in
    let on : OnNet pin nets c.in-Some.net = on_some pin nets c.in-Some.net c.self.invariant.placed.once at in
    let x = get_or nets c.in-Some.net nobody in
    let row = c.index_mut-in-Some.result.now in
    let new = c.exchange-counted.new.row in
    let before : numbers row ≡ net_counts ds x = named_is row _ (row_is ds nets c.self.inside.counts.items c.in-Some.net row c.self.invariant.counts on.inside c.index_mut-in-Some.ensures.value) in
    let old : c.index-old.result.now ≡ drive_at ds pin = old_is ds pin c.index-old.result.now in_ c.index-old.ensures in
    let move = moved_as (numbers row) (numbers new) (net_counts ds x) c.index-old.result.now (drive_at ds pin) c.args.drive before old c.exchange-counted.ensures.row.moved in
    let counts =
    ap (λ (cs : List (List ℕ)). set cs c.in-Some.net new) c.self.invariant.counts ∙ ap (set (kept ds nets) c.in-Some.net) c.exchange-counted.ensures.row.four.four
    ∙ kept_on ds pin c.args.drive nets c.in-Some.net in_ on (numbers new) move in
    let ds2 = set ds pin c.args.drive in
    let sight : c.if-self.value ≡ reads (level ds2 x) =
    elim c.if-self.branch [
      | then-self w ↦
          w.value-is ∙ c.exchange-counted.ensures.seen ∙ ap (λ (n : Counts). reads (level_by n)) (counted ds pin c.args.drive nets c.in-Some.net in_ on (numbers new) move)
          ∙ ap reads (counted_there ds2 nets c.in-Some.net (sym c.self.invariant.rules ∙ w.if-self.true) on.inside)
      | else-self w ↦
          w.value-is ∙ w.sees.ensures ∙ ap (λ (l : List Drive). reads (level l w.index-else-self.result.now)) w.deref.ensures.value
          ∙ ap (λ (y : NetValue). reads (level ds2 y)) (w.index-else-self.ensures ∙ get_or_default nets c.in-Some.net w.index-else-self.result.now nobody on.inside)
    ] in
    record {
      long = c.self.invariant.long ∙ sym (length-set ds pin c.args.drive);
      placed = c.self.invariant.placed;
      short = c.self.invariant.short;
      counts = counts;
      seen =
          ap (λ (bs : List Bool). set bs c.in-Some.net c.if-self.value) c.self.invariant.seen
          ∙ seen_on ds pin c.args.drive nets c.in-Some.net in_ on c.if-self.value sight;
      rules = c.self.invariant.rules;
    }
