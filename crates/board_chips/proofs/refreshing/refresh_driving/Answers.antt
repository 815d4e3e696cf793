use Rattle.std.proofs.Common.{◌≡◌, ◌*◌, ℕ, List, Some, length, map, slice_get, sym, ap, subst, ◌∙◌}
use Rattle.std.proofs.lemmas.List.{with_items_is}
use Rattle.std.specs.Vec.{with_items}
use Rattle.boundary.specs.declared.DrivenCells.{DrivenCells}
use Rattle.pin_nets.specs.Wired.{Net}
use Rattle.pin_nets.specs.declared.Drive.{Drive}
use Rattle.board_plan.specs.Planned.{all_pins}
use Rattle.board_chips.specs.Driving.{cells_of, driving_from}
use Rattle.board_chips.specs.DrivingTable.{DrivingTable}
use Rattle.board_chips.specs.WiredChips.{held_of}
use Rattle.board_chips.specs.Tables.{AreTargeted, IsDriving, IsRefreshed, IsTable, IsTargeted, Settled, Settles, WerePut, targets}
use Rattle.board_chips.specs.declared.driving.Block.{Block}
use Rattle.board_chips.specs.declared.driving.DrivingPin.{DrivingPin}
use Rattle.board_chips.specs.contracts.driving.DrivingPins.{the_view}
use Rattle.board_chips.proofs.RefreshLaws.{all_after, put_after, rest_targeted, table_targeted}
use Rattle.board_chips.proofs.SettleLaws.{settles_both}
use Rattle.board_chips.proofs.refreshing.refresh_driving.Goals as goal

pub refresh_blocks-requires-clause-slots : goal.refresh_blocks-requires-clause-slots
refresh_blocks-requires-clause-slots c = λ i b at.
    let chips = c.args.chips.now in
    let nets = c.args.wiring.now.nets in
    let given : IsDriving (map cells_of chips) c.args.wiring.now (the_view c.driving.inside) =
    subst (IsDriving (map cells_of chips) c.args.wiring.now) (sym c.driving.view_is) c.requires in
    let here = sym (ap (λ (l : List Block). slice_get l i) c.deref.ensures.value) ∙ at in
    subst (λ (l : List ℕ). AreTargeted (map held_of chips) (targets chips nets) l (64 * i) b) (sym c.deref-2.ensures.value)
    (table_targeted chips nets (the_view c.driving.inside) given.table i b here)

pub refresh_rest-requires-clause-rest : goal.refresh_rest-requires-clause-rest
refresh_rest-requires-clause-rest c = λ k e at.
    let chips = c.args.chips.now in
    let given : IsDriving (map cells_of chips) c.args.wiring.now (the_view c.driving.inside) =
    subst (IsDriving (map cells_of chips) c.args.wiring.now) (sym c.driving.view_is) c.requires in
    let here = sym (ap (λ (l : List DrivingPin). slice_get l k) c.deref-3.ensures.value) ∙ at in
    subst (λ (ns : List Net). IsTargeted (map held_of chips) (targets chips ns) e) (sym c.refresh_blocks.ensures.nets)
    (rest_targeted chips c.args.wiring.now.nets (the_view c.driving.inside) given.table k e here)

pub returns-clause-driving : goal.returns-clause-driving
returns-clause-driving c =
    let chips = c.args.chips.now in
    let nets = c.args.wiring.now.nets in
    let target = targets chips nets in
    let d = c.driving.inside in
    let given : IsDriving (map cells_of chips) c.args.wiring.now (the_view c.driving.inside) =
    subst (IsDriving (map cells_of chips) c.args.wiring.now) (sym c.driving.view_is) c.requires in
    let t = given.table in
    let cells = map cells_of chips in
    let first = c.args.wiring.now.drives in
    let drives = c.refresh_blocks.new.wiring.drives in
    let after = c.refresh_rest.new.wiring.drives in
    let put = c.refresh_blocks.new.put in
    let blocks-are : (i : ℕ) (b : Block) → slice_get d.blocks.items i ≡ Some b → IsRefreshed (map cells_of chips) (map held_of chips) target drives d.pins.items put i b =
    λ i b at.
    subst (λ (l : List ℕ). IsRefreshed (map cells_of chips) (map held_of chips) target drives l put i b) c.deref-2.ensures.value
    (c.refresh_blocks.ensures.blocks i b (ap (λ (l : List Block). slice_get l i) c.deref.ensures.value ∙ at)) in
    let settles : Settles target drives after =
    subst (λ (ns : List Net). Settles (targets chips ns) drives after) c.refresh_blocks.ensures.nets c.refresh_rest.ensures.settles in
    let rest : (k : ℕ) (e : DrivingPin) → slice_get d.rest.items k ≡ Some e → Settled target after e.pin =
    λ k e at.
    subst (λ (ns : List Net). Settled (targets chips ns) after e.pin) c.refresh_blocks.ensures.nets
    (c.refresh_rest.ensures.settled k e (ap (λ (l : List DrivingPin). slice_get l k) c.deref-3.ensures.value ∙ at)) in
    let long : length put ≡ length d.put.items = c.refresh_blocks.ensures.long ∙ ap length c.deref_mut.ensures.value in
    let is : (with_items d.put put).items ≡ put = with_items_is d.put put (long ∙ sym d.put.ok.0) in
    let nets-are : c.refresh_rest.new.wiring.nets ≡ nets = c.refresh_rest.ensures.nets ∙ c.refresh_blocks.ensures.nets in
    let new : DrivingTable = the_view (record d { put = with_items d.put put }) in
    let table : IsTable (driving_from cells 0 (all_pins nets)) (length cells) new = record { close = t.close; slots = t.slots; parts = t.parts } in
    record {
      table = subst (λ (ns : List Net). IsTable (driving_from cells 0 (all_pins ns)) (length cells) new) (sym nets-are) table;
      put =
          subst (λ (l : List DrivenCells). WerePut cells d.blocks.items d.pins.items l after) (sym is)
          (put_after chips nets (the_view d) t drives after put blocks-are settles rest (long ∙ given.put.long));
      full =
          settles.long ∙ c.refresh_blocks.ensures.settles.long ∙ given.full
          ∙ sym (ap (λ (ns : List Net). length (all_pins ns)) nets-are);
    }

pub returns-clause-drives : goal.returns-clause-drives
returns-clause-drives c = λ before same was.
    let chips = c.args.chips.now in
    let nets = c.args.wiring.now.nets in
    let target = targets chips nets in
    let d = c.driving.inside in
    let given : IsDriving (map cells_of chips) c.args.wiring.now (the_view c.driving.inside) =
    subst (IsDriving (map cells_of chips) c.args.wiring.now) (sym c.driving.view_is) c.requires in
    let first = c.args.wiring.now.drives in
    let drives = c.refresh_blocks.new.wiring.drives in
    let after = c.refresh_rest.new.wiring.drives in
    let put = c.refresh_blocks.new.put in
    let blocks-are : (i : ℕ) (b : Block) → slice_get d.blocks.items i ≡ Some b → IsRefreshed (map cells_of chips) (map held_of chips) target drives d.pins.items put i b =
    λ i b at.
    subst (λ (l : List ℕ). IsRefreshed (map cells_of chips) (map held_of chips) target drives l put i b) c.deref-2.ensures.value
    (c.refresh_blocks.ensures.blocks i b (ap (λ (l : List Block). slice_get l i) c.deref.ensures.value ∙ at)) in
    let settles : Settles target drives after =
    subst (λ (ns : List Net). Settles (targets chips ns) drives after) c.refresh_blocks.ensures.nets c.refresh_rest.ensures.settles in
    let rest : (k : ℕ) (e : DrivingPin) → slice_get d.rest.items k ≡ Some e → Settled target after e.pin =
    λ k e at.
    subst (λ (ns : List Net). Settled (targets chips ns) after e.pin) c.refresh_blocks.ensures.nets
    (c.refresh_rest.ensures.settled k e (ap (λ (l : List DrivingPin). slice_get l k) c.deref-3.ensures.value ∙ at)) in
    let nets-are : c.refresh_rest.new.wiring.nets ≡ nets = c.refresh_rest.ensures.nets ∙ c.refresh_blocks.ensures.nets in
    let whole : Settles target first after = settles_both target first drives after c.refresh_blocks.ensures.settles settles in
    let done : after ≡ target =
    all_after chips nets (the_view d) given.table drives after put blocks-are settles rest before same (subst (λ (l : List Drive). Settles target l after) was whole) in
    λ j. record { nets = nets-are j; drives = done j }
