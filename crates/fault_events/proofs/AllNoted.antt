-- All pins marked are all pins noted.
use Rattle.std.proofs.Common.{◌≡◌, ℕ, suc, Bool, ◌&&◌, List, [], ◌∷◌, length, drop, map, Option, Some, if◌then◌else◌, refl, ap, ap₂, ◌∙◌}
use Rattle.std.specs.Prelude.{is_some}
use Rattle.std.specs.List.{list_any}
use Rattle.scan_vectors.specs.Vector.{VectorBit}
use Rattle.pin_nets.specs.declared.Pin.{Pin}
use Rattle.board_model.specs.Cells.{Member}
use Rattle.board_faults.specs.Together.{driven}
use Rattle.fault_events.specs.declared.notes.Spot.{Spot}
use Rattle.fault_events.specs.Drives.{started, wire_of}
use Rattle.fault_events.specs.Parts.{planned_parts}
use Rattle.fault_events.specs.Marks.{marked, spot_at}
use Rattle.fault_events.specs.Notes.{first_from, note_in, noted}
use Rattle.fault_events.specs.Numbers.{number_of, numbers}
use Rattle.fault_events.specs.Sources.{Source, is_from, sources}
use Rattle.fault_events.specs.Tables.{AreApart, ArePorts, tables_of}
use Rattle.fault_events.proofs.Entering.{numbered}
use Rattle.fault_events.proofs.Marking.{comes_to, least, marked_pins}
use Rattle.fault_events.proofs.PinDrives.{pin_drives}

least-first : (is : Source → Bool) (k : ℕ) (v : List VectorBit) (ss : List Source) → least is k v ss ≡ first_from is k v ss
least-first is k [] ss = refl
least-first is k (b ∷ vs) [] = refl
least-first is k (b ∷ vs) (s ∷ ss) = ap (λ (o : Option Spot). if is_some b.wanted && is s then Some (spot_at k b) else o) (least-first is (suc k) vs ss)

map-same : {X Y : Type 0} (f g : X → Y) (xs : List X) → ((x : X) → f x ≡ g x) → map f xs ≡ map g xs
map-same f g [] same = refl
map-same {X} {Y} f g (x ∷ xs) same = ap₂ (λ (y : Y) (l : List Y). y ∷ l) (same x) (map-same f g xs same)

map-twice : {X Y Z : Type 0} (f : X → Y) (g : Y → Z) (xs : List X) → map g (map f xs) ≡ map (λ x. g (f x)) xs
map-twice f g [] = refl
map-twice {X} {Y} {Z} f g (x ∷ xs) = ap (λ (l : List Z). g (f x) ∷ l) (map-twice f g xs)

pub all_noted : (pins : List Pin) (ms : List Member) → AreApart pins → ArePorts (planned_parts ms) pins → (v : List VectorBit)
    → marked v 0 (numbers (tables_of pins (planned_parts ms)) ms) (map (started ms) (map (wire_of (planned_parts ms)) pins)) ≡ noted pins ms v
all_noted pins ms apart ports v =
    let ps = planned_parts ms in
    let tables = tables_of pins ps in
    let ss = sources ms in
    ap (marked v 0 (numbers tables ms)) (map-twice (wire_of ps) (started ms) pins)
    ∙ marked_pins (number_of tables) (λ (p : Pin) (s : Source). is_from (p ∷ []) s) pins (λ (p : Pin). started ms (wire_of ps p)) (numbered pins ps apart ports) v ss
    ∙ map-same (λ (p : Pin). comes_to (is_from (p ∷ [])) 0 v ss (started ms (wire_of ps p))) (λ (p : Pin). note_in ms v (p ∷ [])) pins
    (λ p i. record {
      made = driven (pin_drives ms p i ∷ []);
      first = least-first (is_from (p ∷ [])) 0 v ss i;
      stays = list_any (is_from (p ∷ [])) (drop (length v) ss);
    })
