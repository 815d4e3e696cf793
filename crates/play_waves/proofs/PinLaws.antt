-- The pins of nets, one net after another, and the scopes of their variables.
use Rattle.std.proofs.Common.{◌≡◌, ◌<◌, ◌≤◌, ◌+◌, ℕ, zero, suc, List, [], ◌∷◌, ◌++◌, length, take, drop, Option, Some, option_map, Ok, refl, sym, ap, subst, ◌∙◌, arith, append_assoc}
use Rattle.std.specs.Prelude.{codes, slice_get}
use Rattle.std.specs.Io.KnownBytes.{Appends}
use Rattle.std.proofs.KnownBytes.{Appends-trans}
use Rattle.std.proofs.Math.Seq.{take-append_seam}
use Rattle.std.proofs.lemmas.List.{append-nil, length-append, length-take, take_all}
use Rattle.byte_streams.specs.Counts.{CountedView}
use Rattle.byte_streams.specs.Writes.{WritesAll}
use Rattle.byte_streams.proofs.Fronts.{WritesAll-done}
use Rattle.pin_nets.specs.Wired.{Net}
use Rattle.board_plan.specs.Planned.{all_pins}
use Rattle.board_model.specs.Chain.{ChipState}
use Rattle.wave_files.specs.Heading.{drive_variable, net_scope, net_scopes, scope}
use Rattle.wave_files.specs.Values.{by_numbers}
use Rattle.wave_files.proofs.Numbers.{same_some}

-- how many pins the nets before a place have
abbrev pub pins_before : List Net → ℕ → ℕ
pins_before nets k = length (all_pins (take k nets))

-- ---- a part of a list

dropped-there : {X : Type 0} (xs : List X) (p i : ℕ) → slice_get (drop p xs) i ≡ slice_get xs (p + i)
dropped-there xs zero i = let same : i ≡ zero + i = omega arith in ap (slice_get xs) same
dropped-there [] (suc p) i = refl
dropped-there (x ∷ xs) (suc p) i =
    let next : suc p + i ≡ suc (p + i) = omega arith in
    dropped-there xs p i ∙ sym (ap (slice_get (x ∷ xs)) next)

taken-there : {X : Type 0} (xs : List X) (n i : ℕ) → i < n → slice_get (take n xs) i ≡ slice_get xs i
taken-there xs zero i less = absurd (omega (arith, less))
taken-there [] (suc n) i less = refl
taken-there (x ∷ xs) (suc n) zero less = refl
taken-there (x ∷ xs) (suc n) (suc i) less = taken-there xs n i (omega (arith, less))

-- what stands there, of so many from a place on
pub part_there : {X : Type 0} (xs : List X) (p n i : ℕ) (x : X) → i < n → slice_get xs (p + i) ≡ Some x → slice_get (take n (drop p xs)) i ≡ Some x
part_there xs p n i x less at = taken-there (drop p xs) n i less ∙ dropped-there xs p i ∙ at

pub part_ends : {X : Type 0} (xs : List X) (p n i : ℕ) → n ≤ i → length (take n (drop p xs)) ≤ i
part_ends xs p n i over = omega (arith, length-take n (drop p xs), over)

-- ---- the pins of a net

dropped-both : {X : Type 0} (xs ys : List X) (n : ℕ) → drop (length xs + n) (xs ++ ys) ≡ drop n ys
dropped-both [] ys n = let same : zero + n ≡ n = omega arith in ap (λ (k : ℕ). drop k ys) same
dropped-both (x ∷ xs) ys n =
    let next : suc (length xs) + n ≡ suc (length xs + n) = omega arith in
    ap (λ (k : ℕ). drop k (x ∷ (xs ++ ys))) next ∙ dropped-both xs ys n

-- stand behind those of the nets before it
pub pins_of : (nets : List Net) (k : ℕ) (net : Net) → slice_get nets k ≡ Some net
    → take (length net.pins) (drop (pins_before nets k) (all_pins nets)) ≡ net.pins
pins_of [] zero net at = absurd cc
pins_of [] (suc k) net at = absurd cc
pins_of (m ∷ nets) zero net at =
    let same : m ≡ net = same_some m net at in
    subst (λ (x : Net). take (length x.pins) (m.pins ++ all_pins nets) ≡ x.pins) same (take-append_seam m.pins (all_pins nets))
pins_of (m ∷ nets) (suc k) net at =
    ap (λ (n : ℕ). take (length net.pins) (drop n (m.pins ++ all_pins nets))) (length-append m.pins (all_pins (take k nets)))
    ∙ ap (take (length net.pins)) (dropped-both m.pins (all_pins nets) (pins_before nets k))
    ∙ pins_of nets k net at

-- and are among those of all
pub pins_inside : (nets : List Net) (k : ℕ) (net : Net) → slice_get nets k ≡ Some net → pins_before nets k + length net.pins ≤ length (all_pins nets)
pins_inside [] zero net at = absurd cc
pins_inside [] (suc k) net at = absurd cc
pins_inside (m ∷ nets) zero net at =
    let long : length m.pins ≡ length net.pins = ap (λ (x : Net). length x.pins) (same_some m net at) in
    omega (arith, long, length-append m.pins (all_pins nets))
pins_inside (m ∷ nets) (suc k) net at =
    omega (arith, pins_inside nets k net at, length-append m.pins (all_pins (take k nets)), length-append m.pins (all_pins nets))

-- the next net begins behind them
pub pins_next : (nets : List Net) (k : ℕ) (net : Net) → slice_get nets k ≡ Some net → pins_before nets (k + 1) ≡ pins_before nets k + length net.pins
pins_next nets k net at =
    let next : k + 1 ≡ suc k = omega arith in
    ap (pins_before nets) next ∙ by nets k at
  where
    by : (ns : List Net) (j : ℕ) → slice_get ns j ≡ Some net → pins_before ns (suc j) ≡ pins_before ns j + length net.pins
    by [] zero e = absurd cc
    by [] (suc j) e = absurd cc
    by (m ∷ ns) zero e =
        let long : length m.pins ≡ length net.pins = ap (λ (x : Net). length x.pins) (same_some m net e) in
        omega (arith, long, length-append m.pins [])
    by (m ∷ ns) (suc j) e =
        omega (arith, by ns j e, length-append m.pins (all_pins (take (suc j) ns)), length-append m.pins (all_pins (take j ns)))

-- ---- scopes, one net after another

module _ (cs : List ChipState) where
  one_more : (nets : List Net) (k n : ℕ) (net : Net) → slice_get nets k ≡ Some net
      → net_scopes cs n (take k nets) ++ net_scope cs (n + pins_before nets k) net ≡ net_scopes cs n (take (suc k) nets)
  one_more [] zero n net at = absurd cc
  one_more [] (suc k) n net at = absurd cc
  one_more (m ∷ nets) zero n net at =
      let none : n + 0 ≡ n = omega arith in
      ap (λ (i : ℕ). net_scope cs i net) none
      ∙ ap (net_scope cs n) (sym (same_some m net at))
      ∙ sym (append-nil (net_scope cs n m))
  one_more (m ∷ nets) (suc k) n net at =
      let long = length-append m.pins (all_pins (take k nets)) in
      let far : n + length (m.pins ++ all_pins (take k nets)) ≡ n + length m.pins + pins_before nets k = omega (arith, long) in
      append_assoc (net_scope cs n m) (net_scopes cs (n + length m.pins) (take k nets)) (net_scope cs (n + length (m.pins ++ all_pins (take k nets))) net)
      ∙ ap (λ (i : ℕ). net_scope cs n m ++ (net_scopes cs (n + length m.pins) (take k nets) ++ net_scope cs i net)) far
      ∙ ap (λ (l : List ℕ). net_scope cs n m ++ l) (one_more nets k (n + length m.pins) net at)

  cut : (nets : List Net) (k n : ℕ) → net_scopes cs n nets ≡ net_scopes cs n (take k nets) ++ net_scopes cs (n + pins_before nets k) (drop k nets)
  cut nets zero n =
      let none : n ≡ n + 0 = omega arith in
      ap (λ (i : ℕ). net_scopes cs i nets) none
  cut [] (suc k) n = refl
  cut (m ∷ nets) (suc k) n =
      let long = length-append m.pins (all_pins (take k nets)) in
      let far : n + length m.pins + pins_before nets k ≡ n + length (m.pins ++ all_pins (take k nets)) = omega (arith, long) in
      ap (λ (l : List ℕ). net_scope cs n m ++ l) (cut nets k (n + length m.pins))
      ∙ ap (λ (i : ℕ). net_scope cs n m ++ (net_scopes cs (n + length m.pins) (take k nets) ++ net_scopes cs i (drop k nets))) far
      ∙ sym (append_assoc (net_scope cs n m) (net_scopes cs (n + length m.pins) (take k nets))
      (net_scopes cs (n + length (m.pins ++ all_pins (take k nets))) (drop k nets)))

  pub scope_added : (nets : List Net) (k n : ℕ) (net : Net) → slice_get nets k ≡ Some net
      → net_scopes cs n (take k nets) ++ net_scope cs (n + pins_before nets k) net ≡ net_scopes cs n (take (k + 1) nets)
  scope_added nets k n net at =
      let next : suc k ≡ k + 1 = omega arith in
      one_more nets k n net at ∙ ap (λ (i : ℕ). net_scopes cs n (take i nets)) next

  pub scopes_left : (nets : List Net) (k n : ℕ) (net : Net) → slice_get nets k ≡ Some net
      → net_scopes cs n nets
      ≡ (net_scopes cs n (take k nets) ++ net_scope cs (n + pins_before nets k) net) ++ net_scopes cs (n + pins_before nets (k + 1)) (drop (k + 1) nets)
  scopes_left nets k n net at =
      cut nets (k + 1) n
      ∙ ap (λ (l : List ℕ). l ++ net_scopes cs (n + pins_before nets (k + 1)) (drop (k + 1) nets)) (sym (scope_added nets k n net at))

  -- one more is written
  pub scope_sent : (a b c : Option (List ℕ)) (nets : List Net) (k n : ℕ) (net : Net) → slice_get nets k ≡ Some net
      → Appends a b (net_scopes cs n (take k nets)) → Appends b c (net_scope cs (n + pins_before nets k) net)
      → Appends a c (net_scopes cs n (take (k + 1) nets))
  scope_sent a b c nets k n net at before one = subst (λ (l : List ℕ). Appends a c l) (scope_added nets k n net at) (Appends-trans a b c _ _ before one)

  -- all are written
  pub scopes_done : {W A E : Type 0} {contents : W → Option (List ℕ)} {a b : CountedView W} (value : A) (nets : List Net) (k n : ℕ) → length nets ≤ k
      → b.failures ≡ 0 → Appends (contents a.inner) (contents b.inner) (net_scopes cs n (take k nets))
      → WritesAll {A = A} {E = E} contents a b (net_scopes cs n nets) (Ok value)
  scopes_done {contents = contents} {a = a} {b = b} value nets k n over none before =
      WritesAll-done value none
      (subst (λ (l : List Net). Appends (contents a.inner) (contents b.inner) (net_scopes cs n l)) (take_all k nets over) before)

  -- ---- one scope, by what is said of its net

  said : {X Y : Type 0} (f : X → Y) (o : Option X) (x : X) (y : Y) → o ≡ Some x → option_map f o ≡ Some y → f x ≡ y
  said f o x y at e = same_some (f x) y (ap (option_map f) (sym at) ∙ e)

  pub scope_text : (nets : List Net) (k n pin count : ℕ) (name : List ℕ) (net : Net) → slice_get nets k ≡ Some net
      → option_map (λ (x : Net). x.name) (slice_get nets k) ≡ Some name → option_map (λ (x : Net). length x.pins) (slice_get nets k) ≡ Some count
      → pin ≡ pins_before nets k
      → scope name ++ (by_numbers (drive_variable cs name) 1 n (take count (drop pin (all_pins nets))) ++ codes "$upscope $end\n") ≡ net_scope cs n net
  scope_text nets k n pin count name net at called long place =
      let same : net.name ≡ name = said (λ (x : Net). x.name) (slice_get nets k) net name at called in
      let many : length net.pins ≡ count = said (λ (x : Net). length x.pins) (slice_get nets k) net count at long in
      let pins : take count (drop pin (all_pins nets)) ≡ net.pins =
      (λ i. take (sym many i) (drop (place i) (all_pins nets))) ∙ pins_of nets k net at in
      λ i. scope (sym same i) ++ (by_numbers (drive_variable cs (sym same i)) 1 n (pins i) ++ codes "$upscope $end\n")
