-- What is kept of what pins can drive and of which are read says which ways show.
use Rattle.std.proofs.Common.{◌≡◌, ◌<◌, ℕ, zero, suc, Bool, true, false, not, ◌||◌, List, [], ◌∷◌, length, map, take, drop, get_or, IsTrue, ◌↔◌, refl, sym, ap, ap₂, subst, ◌∙◌, inl, inr, arith}
use Rattle.std.specs.List.{AllByRecursion, range_with_len, remove}
use Rattle.std.proofs.lemmas.Bool.{false≢true}
use Rattle.std.proofs.lemmas.List.{get_or-map}
use Rattle.std.proofs.lemmas.List.FromFn.{get_or-range_with_len, length-range_with_len}
use Rattle.std.proofs.lemmas.Option.{get_or_from_slice_get, slice_get_within}
use Rattle.pin_nets.specs.declared.Pin.{Pin}
use Rattle.pin_nets.specs.declared.Rule.TheVariants.{Counted}
use Rattle.pin_nets.specs.Wired.{Net}
use Rattle.board_plan.specs.Planned.{IsPinOf, Member, Wiring, all_pins}
use Rattle.board_model.specs.Following.{IsAmong}
use Rattle.board_chain.proofs.NetLaws.{are_found}
use Rattle.board_faults.specs.declared.kinds.Way.{Way}
use Rattle.board_faults.specs.declared.kinds.Way.TheVariants as way
use Rattle.board_faults.specs.declared.sight.NetSight.{NetSight}
use Rattle.board_faults.specs.declared.sight.PortSight.{PortSight}
use Rattle.board_faults.specs.declared.sight.Sights.{Sights}
use Rattle.board_faults.specs.declared.together.Driven.{Driven}
use Rattle.board_faults.specs.Faults.{IsWayOf, nowhere}
use Rattle.board_faults.specs.Sight.{IsInvisible, MayHaveFaults}
use Rattle.board_faults.specs.Sights.{AreSights, all_sights, any_read_in, net_sight, net_unseen, shows_by, shows_in, shows_of, sight_in, sights_of}
use Rattle.board_faults.specs.Together.{all_can, any_read, at_driven, can_make, first_of, no_sight, open_differs, port_sight, pull_differs, second_of, short_differs, shows, shows_at, sight_at, sight_of_pin, some_pair, some_single, stuck_differs}
use Rattle.board_faults.proofs.Apart.{faulty_found}
use Rattle.board_faults.proofs.Choosing.{among_all, once}
use Rattle.board_faults.proofs.Invisible.{Stands, shown_ways}
use Rattle.board_faults.proofs.Wires.{removed_back}

all-among : {X : Type 0} (P : X → Type 0) (xs : List X) → AllByRecursion P xs → (x : X) → IsAmong x xs → P x
all-among P [] all x among = absurd among
all-among P (y ∷ ys) all x (inl e) = subst P e all.0
all-among P (y ∷ ys) all x (inr later) = all-among P ys all.1 x later

-- ---- a pin that is a port bit is found where it is kept

in-table : (ms : List Member) (pin : Pin) → IsPinOf ms pin → sight_in (all_sights ms) pin ≡ sight_of_pin ms pin
in-table ms pin its =
    let m = its.0 in
    let device : pin.device < length ms = slice_get_within ms pin.device m its.1 in
    let table : get_or (all_sights ms) pin.device [] ≡ sights_of m =
    get_or-map sights_of ms pin.device m [] device ∙ ap sights_of (get_or_from_slice_get ms pin.device m m its.1) in
    let ports = range_with_len 0 (length m.device.ports) in
    let inside : pin.port < length ports = omega (arith, its.2, length-range_with_len 0 (length m.device.ports)) in
    let port : get_or ports pin.port 0 ≡ pin.port = get_or-range_with_len 0 (length m.device.ports) pin.port 0 its.2 ∙ omega arith in
    ap (λ (t : List PortSight). get_or t pin.port no_sight) table ∙ get_or-map (port_sight m) ports pin.port 0 no_sight inside
    ∙ ap (port_sight m) port ∙ sym (ap (sight_at pin.port) its.1)

module _ (ms : List Member) where
  abbrev tables : List (List PortSight)
  tables = all_sights ms

  abbrev Pins : List Pin → Type 0
  Pins ps = (q : Pin) → IsAmong q ps → IsPinOf ms q

  can-in : (ps : List Pin) → Pins ps → map (λ p. (sight_in tables p).can) ps ≡ all_can ms ps
  can-in [] all = refl
  can-in (p ∷ ps) all =
      ap₂ (λ (d : Driven) (ds : List Driven). d ∷ ds) (ap (λ (s : PortSight). s.can) (in-table ms p (all p (inl refl)))) (can-in ps (λ q among. all q (inr among)))

  read-in : (ps : List Pin) → Pins ps → any_read_in tables ps ≡ any_read ms ps
  read-in [] all = refl
  read-in (p ∷ ps) all =
      ap₂ (λ (a b : Bool). a || b) (ap (λ (s : PortSight). s.read) (in-table ms p (all p (inl refl)))) (read-in ps (λ q among. all q (inr among)))

  taken : (ps : List Pin) (k : ℕ) (q : Pin) → IsAmong q (take 1 (drop k ps)) → IsAmong q ps
  taken [] zero q among = among
  taken [] (suc k) q among = among
  taken (p ∷ ps) zero q (inl e) = inl e
  taken (p ∷ ps) zero q (inr more) = absurd more
  taken (p ∷ ps) (suc k) q among = inr (taken ps k q among)

  kept-at : (n o : Net) → Pins n.pins → Pins o.pins → (its_way : Way) → shows_of tables n o its_way ≡ shows_at ms n o its_way
  kept-at n o one other (way.Pull net) =
      ap₂ (λ (cs : List Driven) (r : Bool). some_single (can_make cs) (pull_differs n.pull r)) (can-in n.pins one) (read-in n.pins one)
  kept-at n o one other (way.Stuck net bit) =
      ap₂ (λ (cs : List Driven) (r : Bool). some_single (can_make cs) (stuck_differs n.pull bit r)) (can-in n.pins one) (read-in n.pins one)
  kept-at n o one other (way.Open net pin bit) =
      let alone = take 1 (drop pin n.pins) in
      let rest = remove n.pins pin in
      let first : Pins alone = λ q among. one q (taken n.pins pin q among) in
      let second : Pins rest = λ q among. one q (removed_back n.pins pin q among) in
      ap₂ (λ (cs : List Driven) (r : Bool). some_pair (can_make cs) (can_make (map (λ p. (sight_in tables p).can) rest)) (open_differs n.pull bit r (any_read_in tables rest)))
      (can-in alone first) (read-in alone first)
      ∙ ap₂ (λ (cs : List Driven) (r : Bool). some_pair (can_make (all_can ms alone)) (can_make cs) (open_differs n.pull bit (any_read ms alone) r))
      (can-in rest second) (read-in rest second)
  kept-at n o one other (way.Short first second winner) =
      ap₂ (λ (cs : List Driven) (r : Bool). some_pair (can_make cs) (can_make (map (λ p. (sight_in tables p).can) o.pins)) (short_differs winner n.pull o.pull r (any_read_in tables o.pins)))
      (can-in n.pins one) (read-in n.pins one)
      ∙ ap₂ (λ (cs : List Driven) (r : Bool). some_pair (can_make (all_can ms n.pins)) (can_make cs) (short_differs winner n.pull o.pull (any_read ms n.pins) r))
      (can-in o.pins other) (read-in o.pins other)

-- ---- the whole

pub kept_shows : (ms : List Member) (nets : List Net) (its_way : Way) → MayHaveFaults (record { members = ms; nets = nets })
    → shows_in (all_sights ms) nets its_way ≡ shows (record { members = ms; nets = nets }) its_way
kept_shows ms nets its_way may =
    let pins : (k : ℕ) (q : Pin) → IsAmong q (get_or nets k nowhere).pins → IsPinOf ms q =
    λ k q among. all-among (IsPinOf ms) (all_pins nets) may.pins q (among_all nets k q among) in
    kept-at ms (get_or nets (first_of its_way) nowhere) (get_or nets (second_of its_way) nowhere) (pins (first_of its_way)) (pins (second_of its_way)) its_way

-- ---- by what is kept of nets

module _ (ms : List Member) (nets : List Net) (s : Sights) (are : AreSights ms nets s) where
  net-at : (k : ℕ) → k < length nets → get_or s.nets.items k net_unseen ≡ net_sight (all_sights ms) (get_or nets k nowhere)
  net-at k inside = ap (λ (l : List NetSight). get_or l k net_unseen) are.nets ∙ get_or-map (net_sight (all_sights ms)) nets k nowhere net_unseen inside

  pub kept_by : (its_way : Way) → IsWayOf nets its_way → shows_by s nets its_way ≡ shows_in (all_sights ms) nets its_way
  kept_by (way.Pull net) its =
      ap (λ (x : NetSight). some_single (at_driven x.can) (pull_differs (get_or nets net nowhere).pull x.read)) (net-at net its)
  kept_by (way.Stuck net bit) its =
      ap (λ (x : NetSight). some_single (at_driven x.can) (stuck_differs (get_or nets net nowhere).pull bit x.read)) (net-at net its)
  kept_by (way.Open net pin bit) its =
      let n = get_or nets net nowhere in ap (λ (ts : List (List PortSight)). shows_of ts n n (way.Open net pin bit)) are.ports
  kept_by (way.Short first second winner) its =
      ap₂ (λ (x y : NetSight). some_pair (at_driven x.can) (at_driven y.can) (short_differs winner (get_or nets first nowhere).pull (get_or nets second nowhere).pull x.read y.read))
      (net-at first (omega (arith, its.0, its.1))) (net-at second its.1)

stands : (w : Wiring) (its_way : Way) → MayHaveFaults w → IsWayOf w.nets its_way → Stands w its_way
stands w its_way may its = record {
  counted = all-among (λ (n : Net). n.rule ≡ Counted) w.nets may.counted;
  found = are_found w.nets may.apart;
  faulty = faulty_found w.nets its_way its (once (all_pins w.nets) may.apart);
  once = once (all_pins w.nets) may.apart;
}

-- what is not shown is invisible, and nothing else
pub not_shown : (w : Wiring) (its_way : Way) (b : Bool) → MayHaveFaults w → IsWayOf w.nets its_way → b ≡ shows w its_way
    → IsTrue (not b) ↔ IsInvisible w its_way
not_shown w its_way b may its is =
    let tells = shown_ways w its_way (stands w its_way may its) its in
    by b tells.quiet tells.loud is
  where
    by : (b : Bool) → (shows w its_way ≡ false → IsInvisible w its_way) → (shows w its_way ≡ true → IsInvisible w its_way → ⊥) → b ≡ shows w its_way
        → IsTrue (not b) ↔ IsInvisible w its_way
    by true quiet loud e = (λ t. absurd (false≢true t), λ unseen. absurd (loud (sym e) unseen))
    by false quiet loud e = (λ t. quiet (sym e), λ unseen. refl)
