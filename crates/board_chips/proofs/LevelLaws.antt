-- Levels of numbered nets are those of the nets.
use Rattle.std.proofs.Common.{◌≡◌, ◌<◌, ℕ, zero, suc, ◌+◌, Bool, List, [], ◌∷◌, ◌++◌, length, map, drop, get_or, slice_get, slice_set, Option, Some, None, option_map, refl, sym, ap, ◌∙◌, arith}
use Rattle.std.specs.List.{range_with_len}
use Rattle.std.proofs.Math.Seq.{drop-cons}
use Rattle.std.proofs.lemmas.List.{get_or-drop, length-drop, length-append, length-map, map-append}
use Rattle.std.proofs.lemmas.Option.{unwrap_or-slice_get}
use Rattle.pin_nets.specs.declared.Drive.{Drive}
use Rattle.pin_nets.specs.declared.Drive.TheVariants.{Nothing}
use Rattle.pin_nets.specs.declared.Level.{Level}
use Rattle.pin_nets.specs.declared.Pin.{Pin}
use Rattle.pin_nets.specs.declared.Rule.{Rule}
use Rattle.pin_nets.specs.Levels.{drive_at, is_opposed, level, net_counts, opposed_by, pull_drive, reads, shown as shown_by}
use Rattle.pin_nets.specs.Wired.{Net}
use Rattle.board_plan.specs.Planned.{all_pins}
use Rattle.board_plan.specs.PinNumbers.{with_pin_numbers}
use Rattle.board_chips.specs.WiringValues.{all_nets}

pub length-numbered : (k : ℕ) (ns : List Net) → length (with_pin_numbers k ns) ≡ length ns
length-numbered k [] = refl
length-numbered k (n ∷ ns) = let rest = length-numbered (k + length n.pins) ns in omega (arith, rest)

-- so many drives from place k on
ranged : (drives : List Drive) (k : ℕ) (xs rest : List Drive) → drop k drives ≡ xs ++ rest → map (drive_at drives) (range_with_len k (length xs)) ≡ xs
ranged drives k [] rest e = refl
ranged drives k (x ∷ xs) rest e =
    let long : 0 < length (drop k drives) = omega (arith, ap length e) in
    let below : k < length drives = omega (arith, long, length-drop k drives) in
    let here : get_or drives k Nothing ≡ x =
    let same : k + 0 ≡ k = omega arith in
    sym (ap (λ (i : ℕ). get_or drives i Nothing) same) ∙ sym (get_or-drop k drives 0 Nothing) ∙ ap (λ (l : List Drive). get_or l 0 Nothing) e in
    let on : drop (k + 1) drives ≡ xs ++ rest =
    let next : k + 1 ≡ suc k = omega arith in
    ap (λ (i : ℕ). drop i drives) next ∙ sym (ap (drop 1) (drop-cons drives k Nothing below)) ∙ ap (drop 1) e in
    λ i. (unwrap_or-slice_get drives k Nothing ∙ here) i ∷ ranged drives (k + 1) xs rest on i

abbrev shown : (f : Pin → Drive) → Net → Level
shown f n = shown_by n.rule (pull_drive n.pull) (map f n.pins)

-- what is made of a net's rule, its pull and what its pins drive, of numbered nets
numbered-made : {X : Type 0} (g : Rule → Drive → List Drive → X) (f : Pin → Drive) (drives : List Drive) (k : ℕ) (ns : List Net) (net : ℕ) → drop k drives ≡ map f (all_pins ns)
    → option_map (λ x. g x.rule (pull_drive x.pull) (map (drive_at drives) x.pins)) (slice_get (with_pin_numbers k ns) net)
    ≡ option_map (λ n. g n.rule (pull_drive n.pull) (map f n.pins)) (slice_get ns net)
numbered-made g f drives k [] net e = refl
numbered-made g f drives k (n ∷ ns) zero e =
    let long : length (map f n.pins) ≡ length n.pins = length-map n.pins f in
    let pins : map (drive_at drives) (range_with_len k (length n.pins)) ≡ map f n.pins =
    sym (ap (λ (m : ℕ). map (drive_at drives) (range_with_len k m)) long)
    ∙ ranged drives k (map f n.pins) (map f (all_pins ns)) (e ∙ map-append f n.pins (all_pins ns)) in
    ap (λ (ds : List Drive). Some (g n.rule (pull_drive n.pull) ds)) pins
numbered-made g f drives k (n ∷ ns) (suc net) e = numbered-made g f drives (k + length n.pins) ns net (past (map f n.pins) (map f (all_pins ns)) k (length-map n.pins f) (e ∙ map-append f n.pins (all_pins ns)))
  where
    past : (xs rest : List Drive) (k : ℕ) {m : ℕ} → length xs ≡ m → drop k drives ≡ xs ++ rest → drop (k + m) drives ≡ rest
    past [] rest k is e = let same : k + 0 ≡ k = omega arith in ap (λ (j : ℕ). drop (k + j) drives) (sym is) ∙ ap (λ (j : ℕ). drop j drives) same ∙ e
    past (x ∷ xs) rest k is e =
        let long : 0 < length (drop k drives) = omega (arith, ap length e) in
        let below : k < length drives = omega (arith, long, length-drop k drives) in
        let on : drop (suc k) drives ≡ xs ++ rest = sym (ap (drop 1) (drop-cons drives k Nothing below)) ∙ ap (drop 1) e in
        let same : suc k + length xs ≡ k + suc (length xs) = omega arith in
        ap (λ (j : ℕ). drop (k + j) drives) (sym is) ∙ sym (ap (λ (j : ℕ). drop j drives) same) ∙ past xs rest (suc k) refl on

left-part : {A : Type 0} (xs ys : List A) (i : ℕ) → i < length xs → slice_get (xs ++ ys) i ≡ slice_get xs i
left-part [] ys i h = absurd (omega arith)
left-part (x ∷ xs) ys zero h = refl
left-part (x ∷ xs) ys (suc i) h = left-part xs ys i (omega arith)

pub net_there : (ns : List Net) (net : ℕ) → net < length ns → net < length (all_nets ns)
net_there ns net h = omega (arith, length-numbered 0 ns, length-append (with_pin_numbers 0 ns) (Rattle.pin_nets.specs.Places.lone_nets (with_pin_numbers 0 ns) (length (all_pins ns))), h)

pub net_put : (drives : List Drive) (ns : List Net) (net : ℕ) (l : Level) → net < length ns → option_map (level drives) (slice_get (all_nets ns) net) ≡ Some l
    → option_map (level drives) (slice_get (with_pin_numbers 0 ns) net) ≡ Some l
net_put drives ns net l h is =
    let below : net < length (with_pin_numbers 0 ns) = omega (arith, length-numbered 0 ns, h) in
    sym (ap (option_map (level drives)) (left-part (with_pin_numbers 0 ns) _ net below)) ∙ is

pub net_level : (f : Pin → Drive) (drives : List Drive) (ns : List Net) (net : ℕ) (l : Level) → net < length ns → drives ≡ map f (all_pins ns)
    → option_map (level drives) (slice_get (all_nets ns) net) ≡ Some l → option_map (shown f) (slice_get ns net) ≡ Some l
net_level f drives ns net l h e is = sym (numbered-made shown_by f drives 0 ns net e) ∙ net_put drives ns net l h is

-- what is seen of a level
read-of : {A : Type 0} (g : A → Level) (o : Option A) → option_map reads (option_map g o) ≡ option_map (λ x. reads (g x)) o
read-of g None = refl
read-of g (Some x) = refl

-- the level that is seen so
record ReadAt (o : Option Level) (b : Bool) : Type 0 where
  l : Level
  there : o ≡ Some l
  is : Some (reads l) ≡ Some b

read-at : (o : Option Level) (b : Bool) → option_map reads o ≡ Some b → ReadAt o b
read-at None b e = absurd (cc)
read-at (Some l) b e = record { l = l; there = refl; is = e }

pub seen_put : (drives : List Drive) (ns : List Net) (net : ℕ) (b : Bool) → net < length ns → option_map (λ n. reads (level drives n)) (slice_get (all_nets ns) net) ≡ Some b
    → option_map (λ n. reads (level drives n)) (slice_get (with_pin_numbers 0 ns) net) ≡ Some b
seen_put drives ns net b h is =
    let r = read-at (option_map (level drives) (slice_get (all_nets ns) net)) b (read-of (level drives) (slice_get (all_nets ns) net) ∙ is) in
    sym (read-of (level drives) (slice_get (with_pin_numbers 0 ns) net)) ∙ ap (option_map reads) (net_put drives ns net r.l h r.there) ∙ r.is

pub seen_driven : (f : Pin → Drive) (drives : List Drive) (ns : List Net) (net : ℕ) (b : Bool) → net < length ns → drives ≡ map f (all_pins ns)
    → option_map (λ n. reads (level drives n)) (slice_get (all_nets ns) net) ≡ Some b
    → option_map (λ n. reads (shown_by n.rule (pull_drive n.pull) (map f n.pins))) (slice_get ns net) ≡ Some b
seen_driven f drives ns net b h e is =
    let r = read-at (option_map (level drives) (slice_get (all_nets ns) net)) b (read-of (level drives) (slice_get (all_nets ns) net) ∙ is) in
    sym (read-of (shown f) (slice_get ns net)) ∙ ap (option_map reads) (net_level f drives ns net r.l h e r.there) ∙ r.is

pub opposed_driven : (f : Pin → Drive) (drives : List Drive) (ns : List Net) (net : ℕ) (b : Bool) → net < length ns → drives ≡ map f (all_pins ns)
    → option_map (λ n. is_opposed (net_counts drives n)) (slice_get (all_nets ns) net) ≡ Some b
    → option_map (λ n. opposed_by (pull_drive n.pull) (map f n.pins)) (slice_get ns net) ≡ Some b
opposed_driven f drives ns net b h e is =
    let below : net < length (with_pin_numbers 0 ns) = omega (arith, length-numbered 0 ns, h) in
    sym (numbered-made (λ rule pull ds. opposed_by pull ds) f drives 0 ns net e)
    ∙ sym (ap (option_map (λ n. is_opposed (net_counts drives n))) (left-part (with_pin_numbers 0 ns) _ net below)) ∙ is

-- what is there, put there again, changes nothing
pub set-same : {A : Type 0} (xs : List A) (i : ℕ) (x : A) → slice_get xs i ≡ Some x → slice_set xs i x ≡ xs
set-same [] i x e = absurd (cc)
set-same (y ∷ ys) zero x e = ap (λ z. z ∷ ys) (sym (cc))
set-same (y ∷ ys) (suc i) x e = ap (λ zs. y ∷ zs) (set-same ys i x e)
