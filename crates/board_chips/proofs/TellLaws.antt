-- What the cells of a device are told is what their ports see.
use Rattle.std.proofs.Common.{◌≡◌, ℕ, suc, ◌+◌, Bool, true, false, List, [], ◌∷◌, map, slice_get, Option, Some, None, option_map, unwrap_or, refl, sym, ap, ◌∙◌, arith}
use Rattle.std.specs.List.{find}
use Rattle.std.proofs.lemmas.Option.{none-some}
use Rattle.bsdl_device.specs.declared.Cell.{Cell}
use Rattle.pin_nets.specs.declared.Drive.{Drive}
use Rattle.pin_nets.specs.declared.Drive.TheVariants.{Nothing}
use Rattle.pin_nets.specs.declared.Level.{Level}
use Rattle.pin_nets.specs.declared.Pin.{Pin}
use Rattle.pin_nets.specs.Levels.{level_of, pull_drive, reads, shown as shown_by}
use Rattle.pin_nets.specs.Wired.{Net, joins}
use Rattle.boundary.specs.Masks.{SeesSighted, is_sighted}
use Rattle.board_model.specs.Cells.{Member, drive}
use Rattle.board_model.specs.Nets.{level_under, lone_net, pin_drive, sees_under}
use Rattle.board_plan.specs.CellNets.{first_net}
use Rattle.board_chips.specs.WiringValues.{WiringValue}

-- ---- the first net is the one that is found

module _ (place port : ℕ) where
  abbrev found : List Net → Option Net
  found nets = find (joins place port) nets

  none-found : (n : ℕ) (nets : List Net) → first_net place port n nets ≡ None → found nets ≡ None
  none-found n [] e = refl
  none-found n (x ∷ xs) e = by (none-found (suc n) xs) (joins place port x) refl
    where
      by : (first_net place port (suc n) xs ≡ None → found xs ≡ None) → (b : Bool) → joins place port x ≡ b → found (x ∷ xs) ≡ None
      by next true is = absurd (none-some n (sym e ∙ rw is refl))
      by next false is = rw is (next (rw is at e))

  -- the one found stands at this place
  record FoundAt (n m : ℕ) (nets : List Net) : Type 0 where
    at : ℕ
    is : m ≡ n + at
    there : found nets ≡ slice_get nets at

  first-found : (n m : ℕ) (nets : List Net) → first_net place port n nets ≡ Some m → FoundAt n m nets
  first-found n m [] e = absurd (none-some _ e)
  first-found n m (x ∷ xs) e = by (first-found (suc n) m xs) (joins place port x) refl
    where
      number : {a b : ℕ} → Some a ≡ Some b → a ≡ b
      number e = ap (λ (o : Option ℕ). unwrap_or o 0) e

      by : (first_net place port (suc n) xs ≡ Some m → FoundAt (suc n) m xs) → (b : Bool) → joins place port x ≡ b → FoundAt n m (x ∷ xs)
      by next true is =
          let here : n ≡ m = number (rw is at e) in
          record { at = 0; is = omega (arith, here); there = rw is refl }
      by next false is =
          let r = next (rw is at e) in
          record { at = suc r.at; is = omega (arith, r.is); there = rw is r.there }

-- ---- what one port sees

abbrev shown : (Pin → Drive) → Net → Level
shown f n = shown_by n.rule (pull_drive n.pull) (map f n.pins)

pub seen_on_net : (w : WiringValue) (place port net : ℕ) (ms : List Member) (b : Bool)
    → option_map (λ n. reads (shown (pin_drive ms) n)) (slice_get w.nets net) ≡ Some b → first_net place port 0 w.nets ≡ Some net → b ≡ sees_under w.nets ms place port
seen_on_net w place port net ms b is first =
    let r = first-found place port 0 net w.nets first in
    let there : found place port w.nets ≡ slice_get w.nets net = let same : r.at ≡ net = omega (arith, r.is) in r.there ∙ ap (slice_get w.nets) same in
    by (slice_get w.nets net) refl there
  where
    by : (o : Option Net) → slice_get w.nets net ≡ o → found place port w.nets ≡ slice_get w.nets net → b ≡ sees_under w.nets ms place port
    by None at there = absurd (none-some _ (sym (ap (option_map (λ n. reads (shown (pin_drive ms) n))) at) ∙ is))
    by (Some x) at there =
        let seen-is : reads (level_under ms x) ≡ b = ap (λ (o : Option Bool). unwrap_or o b) (sym (ap (option_map (λ n. reads (shown (pin_drive ms) n))) at) ∙ is) in
        sym seen-is ∙ sym (ap (λ (o : Option Net). reads (level_under ms (unwrap_or o (lone_net place port)))) (there ∙ at))

pub seen_alone : (w : WiringValue) (place port : ℕ) (ms : List Member) (m : Member) (d : Drive)
    → slice_get ms place ≡ Some m → d ≡ drive m port → first_net place port 0 w.nets ≡ None → reads (level_of (Nothing ∷ d ∷ [])) ≡ sees_under w.nets ms place port
seen_alone w place port ms m d at is first =
    let own : pin_drive ms (record { device = place; port = port }) ≡ d =
    ap (λ (o : Option Member). unwrap_or (option_map (λ (x : Member). drive x port) o) Nothing) at ∙ sym is in
    sym (ap (λ (x : Drive). reads (level_of (Nothing ∷ x ∷ []))) own)
    ∙ sym (ap (λ (o : Option Net). reads (level_under ms (unwrap_or o (lone_net place port)))) (none-found place port 0 w.nets first))

-- ---- all cells

pub told_all : (sees : ℕ → Bool) (cells : List Cell) (seen : List Bool)
    → ((k : ℕ) (c : Cell) → slice_get cells k ≡ Some c → is_sighted c.port c.function ≡ true → (p : ℕ) → c.port ≡ Some p → slice_get seen k ≡ Some (sees p)) → SeesSighted sees cells seen
told_all sees [] seen each = tt
told_all sees (c ∷ cs) [] each = tt
told_all sees (c ∷ cs) (s ∷ seen) each =
    ((λ yes p port. ap (λ (o : Option Bool). unwrap_or o s) (each 0 c refl yes p port)), told_all sees cs seen (λ k x at yes p port. each (suc k) x at yes p port))
