-- Pins that stand twice, by a table of those before.
use Rattle.std.proofs.Common.{◌≡◌, ◌<◌, ℕ, zero, suc, ◌+◌, ◌*◌, ◌/◌, ◌%◌, Bool, true, false, ◌&&◌, ◌||◌, ◌==◌, List, [], ◌∷◌, ◌++◌, length, length-set, set, replicate, take, drop, get_or, map, append_assoc, refl, ap, sym, subst, ◌∙◌, arith}
use Rattle.std.proofs.lemmas.Bool.{false≢true, and_parts, eqb-true}
use Rattle.std.proofs.lemmas.Bool.Decides.{nat_tests}
use Rattle.std.proofs.Math.Nat.{mul_comm}
use Rattle.std.proofs.lemmas.Nat.{mul-add-lt, div-mul-add, mod-mul-add}
use Rattle.std.proofs.lemmas.List.{append-nil, take_more, drop_more, flat_map_more, get_or-set_other, get_or-replicate, length-replicate}
use Rattle.std.proofs.lemmas.List.Folds.{list_any-append}
use Rattle.std.proofs.lemmas.Grind.{get_or-set_at}
use Rattle.std.specs.List.{list_any, flat_map, AllByRecursion}
use Rattle.pin_nets.specs.declared.Pin.{Pin}
use Rattle.board_parts.specs.Pins.{same_pin}
use Rattle.board_plan.specs.Planned.{all_pins}
use Rattle.board_plan.specs.View.{net}
use Rattle.board_plan.specs.declared.plan.PlannedNet.{PlannedNet}
use Rattle.board_parts.specs.Twice.{IsAmong, IsWithin, Marks, place_of, is_some_twice}

last_there : (b c : Bool) → c ≡ true → true ≡ b || (c || false)
last_there true c e = refl
last_there false c e = rw e refl

not_last : (b c : Bool) → c ≡ false → b ≡ b || (c || false)
not_last true c e = refl
not_last false c e = rw e refl

itself : (n : ℕ) → (n == n) ≡ true
itself n = by (n == n) refl
  where
    by : (b : Bool) → (n == n) ≡ b → b ≡ true
    by true e = refl
    by false e = grind (arith, nat_tests)

same_place : (w : ℕ) (p x : Pin) → same_pin p x ≡ true → place_of w p ≡ place_of w x
same_place w p x h =
    let parts = and_parts (p.device == x.device) (p.port == x.port) h in
    let device : p.device ≡ x.device = eqb-true p.device x.device parts.0 in
    let port : p.port ≡ x.port = eqb-true p.port x.port parts.1 in
    ap (λ n. n * w + p.port) device ∙ ap (λ n. x.device * w + n) port

same_pins : (p x : Pin) → p.device ≡ x.device → p.port ≡ x.port → same_pin p x ≡ true
same_pins p x device port =
    ap (λ n. (n == x.device) && (p.port == x.port)) device ∙ ap (λ n. (x.device == x.device) && (n == x.port)) port
    ∙ ap (λ b. b && (x.port == x.port)) (itself x.device) ∙ itself x.port

-- pins at one place of a table are the same
at_one_place : (w : ℕ) (p x : Pin) → p.port < w → x.port < w → place_of w p ≡ place_of w x → same_pin p x ≡ true
at_one_place w p x below above e =
    same_pins p x
    (sym (div-mul-add p.device w p.port below) ∙ ap (λ n. n / w) e ∙ div-mul-add x.device w x.port above)
    (sym (mod-mul-add p.device w p.port below) ∙ ap (λ n. n % w) e ∙ mod-mul-add x.device w x.port above)

-- a table after one more pin
pub one_more : (w : ℕ) (before : List Pin) (table : List Bool) (x : Pin) → IsWithin w (length table) x → Marks w before table → Marks w (before ++ x ∷ []) (set table (place_of w x) true)
one_more w before table x inside marks p within =
    by (same_pin p x) refl ∙ sym (list_any-append (same_pin p) before (x ∷ []))
  where
    room : length (set table (place_of w x) true) ≡ length table
    room = length-set table (place_of w x) true

    by : (b : Bool) → same_pin p x ≡ b → get_or (set table (place_of w x) true) (place_of w p) false ≡ list_any (same_pin p) before || (same_pin p x || false)
    by true e =
        get_or-set_at table (place_of w x) (place_of w p) true false (same_place w p x e) inside.place
        ∙ last_there (list_any (same_pin p) before) (same_pin p x) e
    by false e =
        get_or-set_other table (place_of w x) (place_of w p) true false (λ same. false≢true (sym e ∙ at_one_place w p x within.port inside.port same))
        ∙ marks p (record { port = within.port; place = subst (λ n. place_of w p < n) room within.place })
        ∙ not_last (list_any (same_pin p) before) (same_pin p x) e

-- an empty table
pub none_marked : (w n : ℕ) → Marks w [] (replicate n false)
none_marked w n p within = get_or-replicate n (place_of w p) false false (subst (λ m. place_of w p < m) (length-replicate n false) within.place)

pub each_at : {A : Type 0} (P : A → Type 0) (xs : List A) (i : ℕ) (d : A) → i < length xs → AllByRecursion P xs → P (get_or xs i d)
each_at P [] i d h all = absurd (omega arith)
each_at P (x ∷ xs) zero d h all = all.0
each_at P (x ∷ xs) (suc i) d h all = each_at P xs i d (omega arith) all.1

pub halves : {A : Type 0} (P : A → Type 0) (xs ys : List A) → AllByRecursion P (xs ++ ys) → AllByRecursion P xs × AllByRecursion P ys
halves P [] ys all = (tt, all)
halves P (x ∷ xs) ys all = let more = halves P xs ys all.1 in ((all.0, more.0), more.1)

pub within : (devices ports room : ℕ) → room ≡ devices * ports → (pins : List Pin) → AllByRecursion (IsAmong devices ports) pins → AllByRecursion (IsWithin ports room) pins
within devices ports room is [] all = tt
within devices ports room is (p ∷ ps) all = (
  record { port = all.0.port; place = subst (λ n. place_of ports p < n) (mul_comm ports devices ∙ sym is) (mul-add-lt p.device ports p.port devices all.0.device all.0.port) },
  within devices ports room is ps all.1,
)

-- more pins are judged one after another
pub twice_append : (before xs ys : List Pin) → is_some_twice before (xs ++ ys) ≡ is_some_twice before xs || is_some_twice (before ++ xs) ys
twice_append before [] ys = ap (λ b. is_some_twice b ys) (sym (append-nil before))
twice_append before (x ∷ xs) ys =
    by (list_any (same_pin x) before) _ _ _ (twice_append (before ++ x ∷ []) xs ys ∙ ap (λ b. is_some_twice (before ++ x ∷ []) xs || is_some_twice b ys) (append_assoc before (x ∷ []) xs))
  where
    by : (b c d e : Bool) → c ≡ d || e → b || c ≡ (b || d) || e
    by true c d e h = refl
    by false c d e h = h

-- ---- one more pin of a list

module _ (before pins : List Pin) (i : ℕ) (d : Pin) (h : i < length pins) where
  pub found : list_any (same_pin (get_or pins i d)) before ≡ true → is_some_twice before (drop i pins) ≡ true
  found there = ap (is_some_twice before) (drop_more pins i d h) ∙ rw there refl

  pub passed : list_any (same_pin (get_or pins i d)) before ≡ false → is_some_twice (before ++ get_or pins i d ∷ []) (drop (i + 1) pins) ≡ is_some_twice before (drop i pins)
  passed new = sym (ap (is_some_twice before) (drop_more pins i d h) ∙ rw new refl)

pub with_more : (before pins : List Pin) (i : ℕ) (d : Pin) → i < length pins → (before ++ take i pins) ++ get_or pins i d ∷ [] ≡ before ++ take (i + 1) pins
with_more before pins i d h = append_assoc before (take i pins) (get_or pins i d ∷ []) ∙ ap (λ ps. before ++ ps) (sym (take_more pins i d h))

-- ---- one more net

abbrev pins_in : List PlannedNet → List Pin
pins_in nets = all_pins (map net nets)

flat : (nets : List PlannedNet) → pins_in nets ≡ flat_map (λ n. n.pins.items) nets
flat [] = refl
flat (n ∷ ns) = ap (λ ps. n.pins.items ++ ps) (flat ns)

module _ (nets : List PlannedNet) (i : ℕ) (x : PlannedNet) (h : i < length nets) (is : x ≡ get_or nets i x) where
  pub more_pins : all_pins (map net (take (i + 1) nets)) ≡ all_pins (map net (take i nets)) ++ x.pins.items
  more_pins =
      flat (take (i + 1) nets) ∙ ap (flat_map (λ n. n.pins.items)) (take_more nets i x h)
      ∙ sym (flat_map_more (λ (n : PlannedNet). n.pins.items) [] (take i nets) (get_or nets i x))
      ∙ ap (λ (n : PlannedNet). flat_map (λ n. n.pins.items) (take i nets) ++ n.pins.items) (sym is)
      ∙ ap (λ ps. ps ++ x.pins.items) (sym (flat (take i nets)))

  pub rest : all_pins (map net (drop i nets)) ≡ x.pins.items ++ all_pins (map net (drop (i + 1) nets))
  rest = ap pins_in (drop_more nets i x h) ∙ ap (λ (n : PlannedNet). n.pins.items ++ pins_in (drop (i + 1) nets)) (sym is)

  both : is_some_twice (pins_in (take i nets)) (pins_in (drop i nets))
      ≡ is_some_twice (pins_in (take i nets)) x.pins.items || is_some_twice (pins_in (take i nets) ++ x.pins.items) (pins_in (drop (i + 1) nets))
  both = ap (is_some_twice (pins_in (take i nets))) rest ∙ twice_append (pins_in (take i nets)) x.pins.items (pins_in (drop (i + 1) nets))

  pub net_found : is_some_twice (all_pins (map net (take i nets))) x.pins.items ≡ true → is_some_twice (all_pins (map net (take i nets))) (all_pins (map net (drop i nets))) ≡ true
  net_found there = both ∙ ap (λ b. b || is_some_twice (pins_in (take i nets) ++ x.pins.items) (pins_in (drop (i + 1) nets))) there

  pub net_passed : is_some_twice (all_pins (map net (take i nets))) x.pins.items ≡ false
      → is_some_twice (all_pins (map net (take (i + 1) nets))) (all_pins (map net (drop (i + 1) nets))) ≡ is_some_twice (all_pins (map net (take i nets))) (all_pins (map net (drop i nets)))
  net_passed none =
      ap (λ b. is_some_twice b (pins_in (drop (i + 1) nets))) more_pins
      ∙ sym (both ∙ ap (λ b. b || is_some_twice (pins_in (take i nets) ++ x.pins.items) (pins_in (drop (i + 1) nets))) none)

-- ---- tables

pub mark_more : (w : ℕ) (before pins : List Pin) (i : ℕ) (d : Pin) (table : List Bool) → i < length pins → IsWithin w (length table) (get_or pins i d) → Marks w (before ++ take i pins) table
    → Marks w (before ++ take (i + 1) pins) (set table (place_of w (get_or pins i d)) true)
mark_more w before pins i d table h inside marks =
    subst (λ b. Marks w b (set table (place_of w (get_or pins i d)) true)) (with_more before pins i d h) (one_more w (before ++ take i pins) table (get_or pins i d) inside marks)

module _ (w room : ℕ) (nets : List PlannedNet) (i : ℕ) (x : PlannedNet) (h : i < length nets) (is : x ≡ get_or nets i x) (inside : AllByRecursion (IsWithin w room) (all_pins (map net (drop i nets)))) where
  parts : AllByRecursion (IsWithin w room) x.pins.items × AllByRecursion (IsWithin w room) (all_pins (map net (drop (i + 1) nets)))
  parts = halves (IsWithin w room) x.pins.items (all_pins (map net (drop (i + 1) nets))) (subst (AllByRecursion (IsWithin w room)) (rest nets i x h is) inside)

  pub inside_net : (n : ℕ) (pins : List Pin) → n ≡ room → pins ≡ x.pins.items → AllByRecursion (IsWithin w n) pins
  inside_net n pins long same = subst (λ m. AllByRecursion (IsWithin w m) pins) (sym long) (subst (AllByRecursion (IsWithin w room)) (sym same) parts.0)

  pub inside_rest : AllByRecursion (IsWithin w room) (all_pins (map net (drop (i + 1) nets)))
  inside_rest = parts.1
