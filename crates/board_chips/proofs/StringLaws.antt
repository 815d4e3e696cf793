-- One core bit set: which pins drive another level then, and what stays.
use Rattle.std.proofs.Common.{◌≡◌, ◌≢◌, ◌<◌, ◌≤◌, ◌||◌, ℕ, zero, suc, ◌+◌, Bool, true, false, true≢false, not, get_or, take, List, [], ◌∷◌, ◌++◌, Option, Some, None, option_map, unwrap_or, length, map, set, slice_get, refl, sym, ap, ap₂, ◌∙◌, subst, arith, ⊎_elim, if◌then◌else◌, suc-ne-zero, length-set}
use Rattle.std.proofs.lemmas.Bool.{cases_eq, eq-eqb}
use Rattle.std.specs.List.{list_any}
use Rattle.std.proofs.lemmas.List.{length-map, take_more}
use Rattle.std.proofs.lemmas.Option.{none-some, same_Some, slice_get-map, slice_get_within}
use Rattle.bsdl_device.specs.declared.Cell.{Cell}
use Rattle.pin_nets.specs.declared.Drive.{Drive}
use Rattle.pin_nets.specs.declared.Drive.TheVariants.{Nothing}
use Rattle.pin_nets.specs.declared.Pin.{Pin}
use Rattle.pin_nets.specs.Wired.{Net, joins}
use Rattle.chip_instructions.specs.Instruction.{meaning}
use Rattle.board_plan.specs.CellNets.{cell_net, first_net}
use Rattle.board_plan.specs.Planned.{all_pins}
use Rattle.board_chips.specs.WiringValues.{WiringValue}
use Rattle.board_model.specs.Cells.{Member, drive}
use Rattle.board_model.specs.Following.{Placed, after_string, after_strings, takes_from, with_core_bit}
use Rattle.board_model.specs.Nets.{pin_drive, sees_under}
use Rattle.board_model.proofs.Following.{drive-same}
use Rattle.board_model.proofs.InOrder.{bit-kept}
use Rattle.board_chips.specs.Driving.{cells_of}
use Rattle.board_chips.specs.WiredChips.{WiredChipValue, held_of}
use Rattle.board_chips.specs.Sighted.{IsBelow}
use Rattle.board_chips.specs.Strings.{IsStrung, less_core, placed_of, puts, with_core}
use Rattle.board_chips.specs.Telling.{IsAt}
use Rattle.board_chips.specs.Wires.{ArePinsBelow, AreWired, IsWired}
use Rattle.board_chips.specs.declared.strings.WiredString.{WiredString}
use Rattle.board_chips.proofs.ListLaws.{set_there}

-- ---- what does not hang on the core bits that are held

through : {X : Type 0} (f : WiredChipValue → X) → ((s : WiredChipValue) → f (less_core s) ≡ f s) → (l : List WiredChipValue) → map f (map less_core l) ≡ map f l
through f same [] = refl
through f same (s ∷ l) = ap₂ (λ x xs. x ∷ xs) (same s) (through f same l)

pub by_less : {X : Type 0} (f : WiredChipValue → X) → ((s : WiredChipValue) → f (less_core s) ≡ f s) → (new old : List WiredChipValue)
    → map less_core new ≡ map less_core old → map f new ≡ map f old
by_less f same new old e = sym (through f same new) ∙ ap (map f) e ∙ through f same old

-- ---- one bit

-- what a port bit drives does not hang on a core bit that it does not take
pub drive_kept : (m : Member) (cell p : ℕ) (b : Bool) → (takes_from p cell 0 m.device.cells ≡ true → ⊥)
    → drive (record m { core = set m.core cell b }) p ≡ drive m p
drive_kept m cell p b free =
    drive-same (meaning m.device m.registers.latch).mode m.device.cells m.registers.update (set m.core cell b) m.core p
    (λ j takes. bit-kept m.core cell j b (λ e. free (subst (λ (i : ℕ). takes_from p i 0 m.device.cells ≡ true) e takes)))

-- the devices as held, one of them with another core bit
pub core_put : (chips : List WiredChipValue) (d cell : ℕ) (b : Bool) (s : WiredChipValue) → slice_get chips d ≡ Some s
    → map held_of (set chips d (with_core s cell b)) ≡ with_core_bit d cell b (map held_of chips)
core_put [] d cell b s here = absurd (none-some s here)
core_put (t ∷ chips) zero cell b s here = ap (λ (o : WiredChipValue). held_of (with_core o cell b) ∷ map held_of chips) (sym (same_Some _ _ here))
core_put (t ∷ chips) (suc d) cell b s here = ap (λ (ms : List Member). held_of t ∷ ms) (core_put chips d cell b s here)

-- nothing else changes
pub less_put : (chips : List WiredChipValue) (d cell : ℕ) (b : Bool) (s : WiredChipValue) → slice_get chips d ≡ Some s
    → map less_core (set chips d (with_core s cell b)) ≡ map less_core chips
less_put [] d cell b s here = absurd (none-some s here)
less_put (t ∷ chips) zero cell b s here = ap (λ (o : WiredChipValue). less_core o ∷ map less_core chips) (sym (same_Some _ _ here))
less_put (t ∷ chips) (suc d) cell b s here = ap (λ (r : List WiredChipValue). less_core t ∷ r) (less_put chips d cell b s here)

pub wired_put : (nets : List Net) (place : ℕ) (chips : List WiredChipValue) (d cell : ℕ) (b : Bool) (s : WiredChipValue) → slice_get chips d ≡ Some s
    → AreWired nets place chips → AreWired nets place (set chips d (with_core s cell b))
wired_put nets place [] d cell b s here wired = absurd (none-some s here)
wired_put nets place (t ∷ chips) zero cell b s here wired =
    (subst (λ (o : WiredChipValue). o.nets ≡ map (cell_net nets place) o.chip.device.cells) (same_Some _ _ here) wired.0, wired.1)
wired_put nets place (t ∷ chips) (suc d) cell b s here wired = (wired.0, wired_put nets (suc place) chips d cell b s here wired.1)

-- which device stands elsewhere, and which here
elsewhere : (chips : List WiredChipValue) (d i : ℕ) (x : WiredChipValue) → (i ≡ d → ⊥) → slice_get (set chips d x) i ≡ slice_get chips i
elsewhere [] d i x apart = refl
elsewhere (t ∷ chips) zero zero x apart = absurd (apart refl)
elsewhere (t ∷ chips) zero (suc i) x apart = refl
elsewhere (t ∷ chips) (suc d) zero x apart = refl
elsewhere (t ∷ chips) (suc d) (suc i) x apart = elsewhere chips d i x (λ e. apart (ap suc e))

here_put : (chips : List WiredChipValue) (d : ℕ) (s x : WiredChipValue) → slice_get chips d ≡ Some s → slice_get (set chips d x) d ≡ Some x
here_put [] d s x here = absurd (none-some s here)
here_put (t ∷ chips) zero s x here = refl
here_put (t ∷ chips) (suc d) s x here = here_put chips d s x here

slice_none : {A : Type 0} (l : List A) (k : ℕ) → slice_get l k ≡ None → length l ≤ k
slice_none [] k e = omega arith
slice_none (x ∷ l) zero e = absurd (none-some x (sym e))
slice_none (x ∷ l) (suc k) e = let rest = slice_none l k e in omega (arith, rest)

-- two tables of what pins drive that differ at one pin at most
drives_kept : (f g : Pin → Drive) (pins : List Pin) → ((j : ℕ) (q : Pin) → slice_get pins j ≡ Some q → g q ≡ f q) → map g pins ≡ map f pins
drives_kept f g [] same = refl
drives_kept f g (q ∷ pins) same = ap₂ (λ (d : Drive) (ds : List Drive). d ∷ ds) (same 0 q refl) (drives_kept f g pins (λ j r at. same (suc j) r at))

drives_put : (f g : Pin → Drive) (pins : List Pin) (k : ℕ) (p : Pin) → slice_get pins k ≡ Some p
    → ((j : ℕ) (q : Pin) → slice_get pins j ≡ Some q → (j ≡ k → ⊥) → g q ≡ f q)
    → map g pins ≡ set (map f pins) k (g p)
drives_put f g [] k p here others = absurd (none-some p here)
drives_put f g (q ∷ pins) zero p here others =
    ap₂ (λ (d : Drive) (ds : List Drive). d ∷ ds) (ap g (same_Some _ _ here)) (drives_kept f g pins (λ j r at. others (suc j) r at (λ e. suc-ne-zero j e)))
drives_put f g (q ∷ pins) (suc k) p here others =
    ap₂ (λ (d : Drive) (ds : List Drive). d ∷ ds) (others 0 q refl (λ e. suc-ne-zero k (sym e)))
    (drives_put f g pins k p here (λ j r at apart. others (suc j) r at (λ e. let same = e in apart (omega (arith, same)))))

module _ (old : List WiredChipValue) (w : WiringValue) (s : WiredString) (t : WiredChipValue) (b : Bool) (wired : IsWired old w)
    (strung : IsStrung w.nets (map cells_of old) s) (here : slice_get old s.device ≡ Some t) where
  abbrev new : List WiredChipValue
  new = set old s.device (with_core t s.cell b)

  own-cells : strung.mine ≡ t.chip.device.cells
  own-cells = same_Some _ _ (sym strung.stands ∙ slice_get-map cells_of old s.device ∙ ap (option_map cells_of) here)

  abbrev driven_by : Option WiredChipValue → ℕ → Drive
  driven_by o port = unwrap_or (option_map (λ (m : Member). drive m port) (option_map held_of o)) Nothing

  -- what a pin drives is what its device does
  at-device : (chips : List WiredChipValue) (p : Pin) → pin_drive (map held_of chips) p ≡ driven_by (slice_get chips p.device) p.port
  at-device chips p = ap (λ (o : Option Member). unwrap_or (option_map (λ (m : Member). drive m p.port) o) Nothing) (slice_get-map held_of chips p.device)

  pub pin_kept : (k : ℕ) (p : Pin) → slice_get (all_pins w.nets) k ≡ Some p → (s.pin ≡ Some k → ⊥)
      → pin_drive (map held_of new) p ≡ pin_drive (map held_of old) p
  pin_kept k p at free =
      at-device new p
      ∙ ⊎_elim
      (λ (same : p.device ≡ s.device).
      ap (λ (d : ℕ). driven_by (slice_get new d) p.port) same
      ∙ ap (λ (o : Option WiredChipValue). driven_by o p.port) (here_put old s.device t (with_core t s.cell b) here)
      ∙ drive_kept (held_of t) s.cell p.port b
      (λ takes. free (strung.pin k p at same (ap (λ (cs : List Cell). takes_from p.port s.cell 0 cs) own-cells ∙ takes)))
      ∙ sym (ap (λ (o : Option WiredChipValue). driven_by o p.port) here)
      ∙ sym (ap (λ (d : ℕ). driven_by (slice_get old d) p.port) same))
      (λ (apart : p.device ≢ s.device).
      ap (λ (o : Option WiredChipValue). driven_by o p.port) (elsewhere old s.device p.device (with_core t s.cell b) apart))
      (cases_eq p.device s.device)
      ∙ sym (at-device old p)

  long : length new ≡ length old
  long = length-set old s.device (with_core t s.cell b)

  -- the wires once the pin that takes the bit is put
  pub one_wired : (v : WiringValue) → (s.pin ≡ None → v ≡ w)
      → ((k : ℕ) (p : Pin) → s.pin ≡ Some k → slice_get (all_pins w.nets) k ≡ Some p
      → v ≡ record w { drives = set w.drives k (pin_drive (map held_of new) p) })
      → IsWired new v
  one_wired v none some = by s.pin refl
    where
      stands : (ds : List Drive) → ds ≡ map (pin_drive (map held_of new)) (all_pins w.nets) → v ≡ record w { drives = ds } → IsWired new v
      stands ds are is = subst (λ (x : WiringValue). IsWired new x) (sym is) (record {
        drives = are;
        cells = wired_put w.nets 0 old s.device s.cell b t here wired.cells;
        pins = subst (λ (n : ℕ). ArePinsBelow n (all_pins w.nets)) (sym long) wired.pins;
      })

      at-pin : (k : ℕ) → s.pin ≡ Some k → (o : Option Pin) → slice_get (all_pins w.nets) k ≡ o → IsWired new v
      at-pin k put None at = absurd (omega (arith, strung.inside k put, slice_none (all_pins w.nets) k at))
      at-pin k put (Some p) at =
          stands (set w.drives k (pin_drive (map held_of new) p))
          (ap (λ (ds : List Drive). set ds k (pin_drive (map held_of new) p)) wired.drives
          ∙ sym (drives_put (pin_drive (map held_of old)) (pin_drive (map held_of new)) (all_pins w.nets) k p at
          (λ j q there apart. pin_kept j q there (λ e. apart (same_Some _ _ (sym e ∙ put))))))
          (some k p put at)

      by : (o : Option ℕ) → s.pin ≡ o → IsWired new v
      by None put =
          stands w.drives
          (wired.drives ∙ sym (drives_kept (pin_drive (map held_of old)) (pin_drive (map held_of new)) (all_pins w.nets)
          (λ j q there. pin_kept j q there (λ e. none-some j (sym put ∙ e)))))
          (none put)
      by (Some k) put = at-pin k put (slice_get (all_pins w.nets) k) refl

-- ---- what a string's source sees

pub first_below : (place port n m : ℕ) (nets : List Net) → first_net place port n nets ≡ Some m → m < n + length nets
first_below place port n m [] e = absurd (none-some m e)
first_below place port n m (x ∷ xs) e = by (first_below place port (suc n) m xs) (joins place port x) refl
  where
    by : (first_net place port (suc n) xs ≡ Some m → m < suc n + length xs) → (b : Bool) → joins place port x ≡ b → m < n + length (x ∷ xs)
    by next true is = let here : n ≡ m = same_Some _ _ (rw is at e) in omega (arith, here)
    by next false is = let later = next (rw is at e) in omega (arith, later)

pub wired_at : (nets : List Net) (place i : ℕ) (chips : List WiredChipValue) (t : WiredChipValue) → AreWired nets place chips → slice_get chips i ≡ Some t
    → t.nets ≡ map (cell_net nets (place + i)) t.chip.device.cells
wired_at nets place i [] t wired at = absurd (none-some t at)
wired_at nets place zero (x ∷ chips) t wired at =
    let same : place ≡ place + 0 = omega arith in
    subst (λ (o : WiredChipValue). o.nets ≡ map (cell_net nets (place + 0)) o.chip.device.cells) (same_Some _ _ at)
    (wired.0 ∙ ap (λ (k : ℕ). map (cell_net nets k) x.chip.device.cells) same)
wired_at nets place (suc i) (x ∷ chips) t wired at =
    let next : suc place + i ≡ place + suc i = omega arith in
    wired_at nets (suc place) i chips t wired.1 at ∙ ap (λ (k : ℕ). map (cell_net nets k) t.chip.device.cells) next

module _ (old : List WiredChipValue) (w : WiringValue) (s : WiredString) (t : WiredChipValue) (wired : IsWired old w) (here : slice_get old s.device ≡ Some t) where
  -- its device stands at its place
  pub at_string : IsAt w s.device (map held_of old) t
  at_string =
      let same : 0 + s.device ≡ s.device = omega arith in
      record {
        here = slice_get-map held_of old s.device ∙ ap (option_map held_of) here;
        drives = wired.drives;
        nets = wired_at w.nets 0 s.device old t wired.cells here ∙ ap (λ (k : ℕ). map (cell_net w.nets k) t.chip.device.cells) same;
      }

  -- the devices as held once its bit is set
  pub one_held : (seen bit : Bool) → seen ≡ sees_under w.nets (map held_of old) s.device s.source → bit ≡ (if s.inverted then not seen else seen)
      → map held_of (set old s.device (with_core t s.cell bit)) ≡ after_string w.nets (placed_of s) (map held_of old)
  one_held seen bit sees is =
      core_put old s.device s.cell bit t here
      ∙ ap (λ (b : Bool). with_core_bit s.device s.cell b (map held_of old))
      (is ∙ ap (λ (b : Bool). if s.inverted then not b else b) sees)

-- a string put: what its bit and the pin that takes it become
pub record IsPutOne (old new : List WiredChipValue) (w v : WiringValue) (s : WiredString) : Type 0 where
  pub nets : v.nets ≡ w.nets
  pub wired : IsWired new v
  pub held : map held_of new ≡ after_string w.nets (placed_of s) (map held_of old)
  pub same : map less_core new ≡ map less_core old
  pub others : (k : ℕ) → puts k s ≡ false → slice_get v.drives k ≡ slice_get w.drives k

pub put_one_string : (old new : List WiredChipValue) (w v : WiringValue) (s : WiredString) (t : WiredChipValue) (seen bit : Bool) → IsWired old w
    → IsStrung w.nets (map cells_of old) s → slice_get old s.device ≡ Some t → seen ≡ sees_under w.nets (map held_of old) s.device s.source
    → bit ≡ (if s.inverted then not seen else seen) → new ≡ set old s.device (with_core t s.cell bit) → (s.pin ≡ None → v ≡ w)
    → ((k : ℕ) (p : Pin) → s.pin ≡ Some k → slice_get (all_pins w.nets) k ≡ Some p → v ≡ record w { drives = set w.drives k (pin_drive (map held_of new) p) })
    → IsPutOne old new w v s
put_one_string old new w v s t seen bit wired strung here sees is chips none some = by s.pin refl
  where
    now : List WiredChipValue
    now = set old s.device (with_core t s.cell bit)

    some-now : (k : ℕ) (p : Pin) → s.pin ≡ Some k → slice_get (all_pins w.nets) k ≡ Some p → v ≡ record w { drives = set w.drives k (pin_drive (map held_of now) p) }
    some-now k p put at = some k p put at ∙ ap (λ (l : List WiredChipValue). record w { drives = set w.drives k (pin_drive (map held_of l) p) }) chips

    its-wired : IsWired new v
    its-wired = subst (λ (l : List WiredChipValue). IsWired l v) (sym chips) (one_wired old w s t bit wired strung here v none some-now)

    its-held : map held_of new ≡ after_string w.nets (placed_of s) (map held_of old)
    its-held = ap (map held_of) chips ∙ one_held old w s t wired here seen bit sees is

    its-less : map less_core new ≡ map less_core old
    its-less = ap (map less_core) chips ∙ less_put old s.device s.cell bit t here

    at-pin : (k : ℕ) → s.pin ≡ Some k → (o : Option Pin) → slice_get (all_pins w.nets) k ≡ o → IsPutOne old new w v s
    at-pin k put None at = absurd (omega (arith, strung.inside k put, slice_none (all_pins w.nets) k at))
    at-pin k put (Some p) at =
        let is-now = some k p put at in
        record {
          nets = ap (λ (x : WiringValue). x.nets) is-now;
          wired = its-wired;
          held = its-held;
          same = its-less;
          others = λ j other.
              let apart : j ≡ k → ⊥ = λ e. true≢false (sym (ap (λ (o : Option ℕ). puts-at j o) put ∙ eq-eqb k j (sym e)) ∙ other) in
              ap (λ (x : WiringValue). slice_get x.drives j) is-now ∙ set_there w.drives k j (pin_drive (map held_of new) p) apart;
        }
      where
        puts-at : ℕ → Option ℕ → Bool
        puts-at j o = puts j (record s { pin = o })

    by : (o : Option ℕ) → s.pin ≡ o → IsPutOne old new w v s
    by None put =
        let is-now = none put in
        record {
          nets = ap (λ (x : WiringValue). x.nets) is-now;
          wired = its-wired;
          held = its-held;
          same = its-less;
          others = λ j other. ap (λ (x : WiringValue). slice_get x.drives j) is-now;
        }
    by (Some k) put = at-pin k put (slice_get (all_pins w.nets) k) refl

-- its device stands there, and its net is one of the board's
pub device_there : (old : List WiredChipValue) (nets : List Net) (s : WiredString) → IsStrung nets (map cells_of old) s → s.device < length old
device_there old nets s strung =
    omega (arith, slice_get_within (map cells_of old) s.device strung.mine strung.stands, length-map old cells_of)

pub cell_there : (old : List WiredChipValue) (nets : List Net) (s : WiredString) (t : WiredChipValue) → IsStrung nets (map cells_of old) s → slice_get old s.device ≡ Some t
    → s.cell < length t.chip.device.cells
cell_there old nets s t strung here =
    let own : strung.mine ≡ t.chip.device.cells = same_Some _ _ (sym strung.stands ∙ slice_get-map cells_of old s.device ∙ ap (option_map cells_of) here) in
    omega (arith, strung.there, ap (λ (l : List Cell). length l) own)

pub net_there : (nets : List Net) (cells : List (List Cell)) (s : WiredString) → IsStrung nets cells s → IsBelow (length nets) s.net
net_there nets cells s strung = λ k e.
    let below = first_below s.device s.source 0 k nets (sym strung.net ∙ e) in
    omega (arith, below)

-- ---- one after another

pub after_more : (nets : List Net) (done : List Placed) (s : Placed) (held : List Member)
    → after_strings nets (done ++ s ∷ []) held ≡ after_string nets s (after_strings nets done held)
after_more nets [] s held = refl
after_more nets (x ∷ done) s held = after_more nets done s (after_string nets x held)

map_push : {A B : Type 0} (f : A → B) (l : List A) (x : A) → map f (l ++ x ∷ []) ≡ map f l ++ f x ∷ []
map_push f [] x = refl
map_push f (y ∷ l) x = ap (λ r. f y ∷ r) (map_push f l x)

pub settled_more : (nets : List Net) (strings : List WiredString) (i : ℕ) (none : WiredString) (start held after : List Member) → i < length strings
    → held ≡ after_strings nets (map placed_of (take i strings)) start → after ≡ after_string nets (placed_of (get_or strings i none)) held
    → after ≡ after_strings nets (map placed_of (take (i + 1) strings)) start
settled_more nets strings i none start held after h before now =
    let x = get_or strings i none in
    now ∙ ap (after_string nets (placed_of x)) before
    ∙ sym (after_more nets (map placed_of (take i strings)) (placed_of x) start)
    ∙ sym (ap (λ (l : List Placed). after_strings nets l start)
    (ap (map placed_of) (take_more strings i none h) ∙ map_push placed_of (take i strings) x))

both_false : (a b : Bool) → (a || b) ≡ false → (a ≡ false) × (b ≡ false)
both_false true b e = absurd (true≢false e)
both_false false b e = (refl, e)

any_parts : {A : Type 0} (p : A → Bool) (l : List A) (x : A) → list_any p (l ++ x ∷ []) ≡ false → (list_any p l ≡ false) × (p x ≡ false)
any_parts p [] x e = (refl, (both_false (p x) false e).0)
any_parts p (y ∷ l) x e =
    let both = both_false (p y) (list_any p (l ++ x ∷ [])) e in
    let rest = any_parts p l x both.1 in
    (ap (λ (b : Bool). b || list_any p l) both.0 ∙ rest.0, rest.1)

-- no string so far put a pin, nor does the next
pub none_more : (strings : List WiredString) (i k : ℕ) (none : WiredString) → i < length strings → list_any (puts k) (take (i + 1) strings) ≡ false
    → (list_any (puts k) (take i strings) ≡ false) × (puts k (get_or strings i none) ≡ false)
none_more strings i k none h e =
    any_parts (puts k) (take i strings) (get_or strings i none) (sym (ap (list_any (puts k)) (take_more strings i none h)) ∙ e)
