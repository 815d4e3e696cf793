-- Texts that grow, and the registers that instructions select.
use Rattle.std.proofs.Common.{◌≡◌, ◌<◌, ◌≤◌, ℕ, zero, suc, ◌+◌, ◌-◌, ◌⊎◌, Bool, true, false, List, [], ◌∷◌, ◌++◌, length, drop, take, get_or, map, slice_get, Option, Some, None, if◌then◌else◌, refl, sym, ap, subst, ◌∙◌, inl, inr, ⊎_elim, arith, append_assoc, length-append}
use Rattle.std.specs.Prelude.{slice_index_or, flat_map, nat_lt, cond, bytes_eq, slice_set, option_map, option_and_then, unwrap_or}
use Rattle.std.specs.List.{find, position, position_or_len}
use Rattle.std.proofs.lemmas.Option.{slice_get_past}
use Rattle.std.proofs.lemmas.Bool.Decides.{nat_tests}
use Rattle.std.proofs.lemmas.List.Folds.{find_at}
use Rattle.board_tables.proofs.TextLaws.{position_map}
use Rattle.std.proofs.Math.Seq.{drop-cons}
use Rattle.std.proofs.lemmas.List.{drop_all}
use Rattle.bsdl_device.specs.Device.{Access, Device, Name, PortBit}
use Rattle.chip_instructions.specs.Instruction.{access_meaning, as_bypass, look_up, Meaning}
use Rattle.board_description.specs.Words.{first_user, is_user}
use Rattle.board_description.specs.Kept.{NamesUsers, NoNames, Told, own_names}
use Rattle.bsdl_device.specs.Device.{Pattern}
use Rattle.std.specs.Global.{Vec}
use denote.Ref.{Bor}
use Rattle.std.specs.Prelude.{IsErr, IsErrAnd, string_bytes}
use Rattle.std.specs.Prelude.{min}
use Rattle.std.proofs.lemmas.Bool.{cases_lt}
use Rattle.std.proofs.lemmas.List.{get_or-map}
use Rattle.std.specs.Io.KnownBytes.{Appends}
use Rattle.std.proofs.lemmas.List.{length-map, map-append}
use Rattle.std.proofs.lemmas.Option.{slice_get-get_or}
use Rattle.byte_streams.specs.Counts.{CountedView}
use Rattle.byte_streams.specs.Writes.{AppendsFront, WritesAll}
use Rattle.byte_streams.proofs.Fronts.{AppendsFront-first, AppendsFront-next}
use Rattle.board_tables.specs.WordView.{texts_of}
use Rattle.board_description.specs.declared.whole.Untold.{Untold}
use Rattle.board_description.specs.declared.whole.Untold.TheVariants.{Broken, NoMemory}
use Rattle.std.specs.Prelude.{OnOk, Result, Ok, Err}
use Rattle.std.proofs.lemmas.Option.{slice_get-map}
use Rattle.pin_nets.specs.declared.Pin.{Pin}
use Rattle.board_plan.specs.declared.plan.PlannedDevice.{PlannedDevice}
use Rattle.board_plan.specs.View.{member as planned_member}
use Rattle.board_plan.specs.AllCellNets.{HaveNets, lists_of, table_at}
use Rattle.board_plan.specs.CellNets.{HasNets}
use Rattle.bsdl_device.specs.declared.Cell.{Cell}
use Rattle.pin_nets.specs.Wired.{Net}
use Rattle.board_plan.specs.Planned.{Member}
use Rattle.byte_streams.proofs.Pieces.{flat_map-more}
use Rattle.board_description.specs.Described.{cell_line, cell_lines, pin_of, pin_words, device_lines, device_part, pattern_digit, pattern_from, place_line, place_lines, port_line, port_lines, shown_file, total}

-- a list of texts with one of them replaced
pub map_set : {X Y : Type 0} (f : X → Y) (xs : List X) (k : ℕ) (x : X) → map f (slice_set xs k x) ≡ slice_set (map f xs) k (f x)
map_set f [] k x = refl
map_set f (y ∷ xs) zero x = refl
map_set f (y ∷ xs) (suc k) x = ap (λ ys. f y ∷ ys) (map_set f xs k x)

-- ---- the own instruction of a name

past : {A : Type 0} (xs : List A) (k : ℕ) → nat_lt k (length xs) ≡ false → slice_get xs k ≡ None
past xs k h = let beyond : length xs ≤ k = grind (arith, nat_tests) in slice_get_past xs k beyond

at_first : {A : Type 0} (xs : List A) (k : ℕ) (b : Bool) → nat_lt k (length xs) ≡ b → slice_get xs k ≡ option_and_then (λ i. slice_get xs i) (cond b (Some k) None)
at_first xs k true h = refl
at_first xs k false h = past xs k h

found_at : {A : Type 0} (p : A → Bool) (xs : List A) → find p xs ≡ option_and_then (λ i. slice_get xs i) (position p xs)
found_at p xs = find_at p xs ∙ at_first xs (position_or_len p xs) (nat_lt (position_or_len p xs) (length xs)) refl

abbrev pub named : Device → Option Access → Meaning
named d None = as_bypass
named d (Some a) = (access_meaning d a).1

by_find : (d : Device) (name : Name) (xs : List Access) → look_up name (map (access_meaning d) xs) ≡ named d (find (λ (a : Access). bytes_eq name a.instruction) xs)
by_find d name [] = refl
by_find d name (a ∷ xs) = at (bytes_eq name a.instruction) (by_find d name xs)
  where
    at : (b : Bool) → look_up name (map (access_meaning d) xs) ≡ named d (find (λ (x : Access). bytes_eq name x.instruction) xs)
        → (if b then (access_meaning d a).1 else look_up name (map (access_meaning d) xs)) ≡ named d (cond b (Some a) (find (λ (x : Access). bytes_eq name x.instruction) xs))
    at true h = refl
    at false h = h

-- what an own instruction does, by the place of its name
pub own_meaning : (d : Device) (name : Name) (o : Option Access) → option_and_then (λ i. slice_get d.accesses i) (position (bytes_eq name) (own_names d)) ≡ o
    → look_up name (map (access_meaning d) d.accesses) ≡ named d o
own_meaning d name o at =
    by_find d name d.accesses
    ∙ ap (named d)
    (found_at (λ (a : Access). bytes_eq name a.instruction) d.accesses
    ∙ ap (λ p. option_and_then (λ i. slice_get d.accesses i) p) (sym (position_map (bytes_eq name) (λ (a : Access). a.instruction) d.accesses))
    ∙ at)

-- ---- the first instruction of each user register

-- an instruction before the others
pub first_before : (k : ℕ) (a : Access) (more : List Access) → first_user k (a ∷ more) ≡ (if is_user k a then a.instruction else first_user k more)
first_before k a more = at (is_user k a)
  where
    at : (b : Bool) → unwrap_or (option_map (λ (x : Access). x.instruction) (cond b (Some a) (find (is_user k) more))) [] ≡ (if b then a.instruction else unwrap_or (option_map (λ (x : Access). x.instruction) (find (is_user k) more)) [])
    at true = refl
    at false = refl

-- ---- one step of a loop

pub pattern_down : (bits : Pattern) (i : ℕ) → 0 < i → pattern_from i bits ≡ pattern_digit (get_or bits (i - 1) None) ∷ pattern_from (i - 1) bits
pattern_down bits i h = let next : i ≡ suc (i - 1) = omega arith in ap (λ n. pattern_from n bits) next

pub cells_next : (nets : List Net) (place : ℕ) (name : List ℕ) (d : Device) (cells : List Cell) (k : ℕ) (x : Cell) → k < length cells
    → cell_lines nets place name d k (drop k cells) ≡ cell_line nets place name d k (get_or cells k x) ++ cell_lines nets place name d (k + 1) (drop (k + 1) cells)
cells_next nets place name d cells k x h =
    let next : k + 1 ≡ suc k = omega arith in
    ap (cell_lines nets place name d k) (drop-cons cells k x h)
    ∙ ap (λ n. cell_line nets place name d k (get_or cells k x) ++ cell_lines nets place name d n (drop n cells)) (sym next)

-- the line of a port bit at a place of the table of nets, and those behind it
pub ports_next : (nets : List Net) (place : ℕ) (name : List ℕ) (ports : List PortBit) (table : List (Option ℕ)) (k : ℕ) (p : PortBit) (net other : Option ℕ) → k < length table
    → HasNets place nets table → slice_get ports k ≡ Some p → net ≡ get_or table k other
    → port_lines nets place name k (drop k ports) ≡ port_line nets name p net ++ port_lines nets place name (k + 1) (drop (k + 1) ports)
ports_next nets place name ports table k p net other inside has there is =
    let next : k + 1 ≡ suc k = omega arith in
    ap (port_lines nets place name k) (drop_there ports k p there)
    ∙ ap (λ o. port_line nets name p o ++ port_lines nets place name (suc k) (drop (suc k) ports)) (sym (is ∙ by_default table k other inside ∙ has.each k inside))
    ∙ ap (λ n. port_line nets name p net ++ port_lines nets place name n (drop n ports)) (sym next)
  where
    drop_there : (xs : List PortBit) (n : ℕ) (x : PortBit) → slice_get xs n ≡ Some x → drop n xs ≡ x ∷ drop (suc n) xs
    drop_there [] zero x e = absurd (cc)
    drop_there [] (suc n) x e = absurd (cc)
    drop_there (y ∷ xs) zero x e = let same : y ≡ x = cc in ap (λ v. v ∷ xs) same
    drop_there (y ∷ xs) (suc n) x e = drop_there xs n x e

    by_default : (xs : List (Option ℕ)) (n : ℕ) (o : Option ℕ) → n < length xs → get_or xs n o ≡ slice_index_or xs n None
    by_default [] n o h = absurd (omega arith)
    by_default (x ∷ xs) zero o h = refl
    by_default (x ∷ xs) (suc n) o h = by_default xs n o (omega arith)

-- the line of a device's first bits, and those of the devices behind it
pub places_next : (xs : List PlannedDevice) (k : ℕ) (x : PlannedDevice) (instruction boundary : ℕ) → k < length xs
    → place_lines instruction boundary (map planned_member (drop k xs))
    ≡ place_line instruction boundary (string_bytes (get_or xs k x).name)
    ++ place_lines (instruction + (get_or xs k x).device.instruction_length) (boundary + length (get_or xs k x).device.cells)
    (map planned_member (drop (k + 1) xs))
places_next xs k x instruction boundary h =
    let next : k + 1 ≡ suc k = omega arith in
    let d = get_or xs k x in
    ap (λ (ys : List PlannedDevice). place_lines instruction boundary (map planned_member ys)) (drop-cons xs k x h)
    ∙ ap (λ n. place_line instruction boundary (string_bytes d.name)
    ++ place_lines (instruction + d.device.instruction_length) (boundary + length d.device.cells) (map planned_member (drop n xs))) (sym next)

-- a step of the loop that puts them
pub places_step : (xs : List PlannedDevice) (k : ℕ) (d : PlannedDevice) (instruction boundary long cells : ℕ) (name text now all : List ℕ)
    → k < length xs → d ≡ get_or xs k d → name ≡ string_bytes d.name → long ≡ d.device.instruction_length → cells ≡ length d.device.cells
    → now ≡ text ++ place_line instruction boundary name
    → text ++ place_lines instruction boundary (map planned_member (drop k xs)) ≡ all
    → now ++ place_lines (instruction + long) (boundary + cells) (map planned_member (drop (k + 1) xs)) ≡ all
places_step xs k d instruction boundary long cells name text now all h is named as_long as_many_cells made before =
    let ms = map planned_member (drop (k + 1) xs) in
    let rest = place_lines (instruction + long) (boundary + cells) ms in
    let next : place_lines instruction boundary (map planned_member (drop k xs)) ≡ place_line instruction boundary name ++ rest =
    places_next xs k d instruction boundary h
    ∙ ap (λ (x : PlannedDevice). place_line instruction boundary (string_bytes x.name) ++ place_lines (instruction + x.device.instruction_length) (boundary + length x.device.cells) ms) (sym is)
    ∙ ap (λ n. place_line instruction boundary n ++ place_lines (instruction + d.device.instruction_length) (boundary + length d.device.cells) ms) (sym named)
    ∙ ap (λ n. place_line instruction boundary name ++ place_lines (instruction + n) (boundary + length d.device.cells) ms) (sym as_long)
    ∙ ap (λ n. place_line instruction boundary name ++ place_lines (instruction + long) (boundary + n) ms) (sym as_many_cells) in
    ap (λ (l : List ℕ). l ++ rest) made ∙ append_assoc text (place_line instruction boundary name) rest ∙ ap (λ (l : List ℕ). text ++ l) (sym next) ∙ before

pub total_next : {X : Type 0} (f : Member → ℕ) (g : X → Member) (xs : List X) (i : ℕ) (x : X) → i < length xs
    → total f (map g (drop i xs)) ≡ f (g (get_or xs i x)) + total f (map g (drop (i + 1) xs))
total_next {X = X} f g xs i x h =
    let next : i + 1 ≡ suc i = omega arith in
    ap (λ (ys : List X). total f (map g ys)) (drop-cons xs i x h)
    ∙ ap (λ n. f (g (get_or xs i x)) + total f (map g (drop n xs))) (sym next)

pub devices_next : (nets : List Net) (files : List (List ℕ)) (ms : List Member) (i : ℕ) (file : List ℕ) (m : Member) → i < length files → i < length ms
    → device_lines nets i (drop i files) (drop i ms)
    ≡ device_part nets i (get_or files i file) (get_or ms i m) ++ device_lines nets (i + 1) (drop (i + 1) files) (drop (i + 1) ms)
devices_next nets files ms i file m h k =
    let next : i + 1 ≡ suc i = omega arith in
    ap (λ (fs : List (List ℕ)). device_lines nets i fs (drop i ms)) (drop-cons files i file h)
    ∙ ap (device_lines nets i (get_or files i file ∷ drop (suc i) files)) (drop-cons ms i m k)
    ∙ ap (λ n. device_part nets i (get_or files i file) (get_or ms i m) ++ device_lines nets n (drop n files) (drop n ms)) (sym next)

-- no device without a file, and no file without a device
pub devices_done : (nets : List Net) (files : List (List ℕ)) (ms : List Member) (i : ℕ) → (length files ≤ i) ⊎ (length ms ≤ i)
    → device_lines nets i (drop i files) (drop i ms) ≡ []
devices_done nets files ms i (inl h) = by (drop i ms) (drop_all i files h)
  where
    by : (more : List Member) → drop i files ≡ [] → device_lines nets i (drop i files) more ≡ []
    by [] e = ap (λ (fs : List (List ℕ)). device_lines nets i fs []) e
    by (x ∷ more) e = ap (λ (fs : List (List ℕ)). device_lines nets i fs (x ∷ more)) e
devices_done nets files ms i (inr h) = by (drop i files) (drop_all i ms h)
  where
    by : (more : List (List ℕ)) → drop i ms ≡ [] → device_lines nets i more (drop i ms) ≡ []
    by [] e = ap (λ (xs : List Member). device_lines nets i [] xs) e
    by (x ∷ more) e = ap (λ (xs : List Member). device_lines nets i (x ∷ more) xs) e

pub devices_end : (nets : List Net) (files : List (List ℕ)) (ms : List Member) (i : ℕ) → min (length files) (length ms) ≤ i
    → device_lines nets i (drop i files) (drop i ms) ≡ []
devices_end nets files ms i h = ⊎_elim
    (λ below. devices_done nets files ms i (inr (omega (arith, h, below))))
    (λ past. devices_done nets files ms i (inl past))
    (cases_lt i (length files))

-- the lines of the device at a place, and those of the devices behind it
pub device_next : (nets : List Net) (devices : List PlannedDevice) (i : ℕ) (device : PlannedDevice) → i < length devices → device ≡ get_or devices i device
    → device_lines nets i (drop i (map shown_file devices)) (drop i (map planned_member devices))
    ≡ device_part nets i (shown_file device) (planned_member device)
    ++ device_lines nets (i + 1) (drop (i + 1) (map shown_file devices)) (drop (i + 1) (map planned_member devices))
device_next nets devices i device k device-is =
    let names = map shown_file devices in
    let ms = map planned_member devices in
    let rest = device_lines nets (i + 1) (drop (i + 1) names) (drop (i + 1) ms) in
    let m = get_or ms i (planned_member device) in
    devices_next nets names ms i (shown_file device) (planned_member device) (omega (arith, k, length-map devices shown_file)) (omega (arith, k, length-map devices planned_member))
    ∙ ap (λ (f : List ℕ). device_part nets i f m ++ rest) (get_or-map shown_file devices i device (shown_file device) k ∙ ap shown_file (sym device-is))
    ∙ ap (λ (x : Member). device_part nets i (shown_file device) x ++ rest) (get_or-map planned_member devices i device (planned_member device) k ∙ ap planned_member (sym device-is))

-- ---- pieces behind one another

pub behind : (a xs ys b c : List ℕ) → b ≡ a ++ xs → c ≡ b ++ ys → c ≡ a ++ (xs ++ ys)
behind a xs ys b c one more = more ∙ ap (λ (l : List ℕ). l ++ ys) one ∙ append_assoc a xs ys

pub OnOk-behind : {A E : Type 0} (a xs ys b c : List ℕ) (r : Result A E) → b ≡ a ++ xs → OnOk r (c ≡ b ++ ys) → OnOk r (c ≡ a ++ (xs ++ ys))
OnOk-behind a xs ys b c (Ok x) one more = behind a xs ys b c one more
OnOk-behind a xs ys b c (Err e) one more = tt

pub OnOk-is : {A E : Type 0} (c xs ys : List ℕ) (r : Result A E) → OnOk r (c ≡ xs) → xs ≡ ys → OnOk r (c ≡ ys)
OnOk-is c xs ys (Ok x) is same = is ∙ same
OnOk-is c xs ys (Err e) is same = tt

-- the lines up to a place, and that at the place
pub line_more : {X : Type 0} (f : X → List ℕ) (xs : List X) (i : ℕ) (x : X) (start text now : List ℕ) → i < length xs
    → text ≡ start ++ flat_map f (take i xs) → now ≡ text ++ f (get_or xs i x) → now ≡ start ++ flat_map f (take (i + 1) xs)
line_more f xs i x start text now h before one =
    behind start (flat_map f (take i xs)) (f (get_or xs i x)) text now before one ∙ ap (λ (l : List ℕ). start ++ l) (flat_map-more f xs i x h)

-- ---- names of user registers

pub push_none : (names : List (List ℕ)) → ((k : ℕ) → get_or names k [] ≡ []) → (k : ℕ) → get_or (names ++ [] ∷ []) k [] ≡ []
push_none [] none zero = refl
push_none [] none (suc k) = refl
push_none (n ∷ names) none zero = none zero
push_none (n ∷ names) none (suc k) = push_none names (λ j. none (suc j)) k

pub no_names_more : (items : List (Bor (List ℕ))) (b : Bor (List ℕ)) (count : ℕ) → b.now ≡ [] → NoNames count (texts_of items) → NoNames (count + 1) (texts_of (items ++ b ∷ []))
no_names_more items b count empty before =
    let grown : texts_of (items ++ b ∷ []) ≡ texts_of items ++ [] ∷ [] = map-append (λ (k : Bor (List ℕ)). k.now) items (b ∷ []) ∙ ap (λ (x : List ℕ). texts_of items ++ x ∷ []) empty in
    record {
      long = ap length grown ∙ length-append (texts_of items) ([] ∷ []) ∙ ap (λ n. n + 1) before.long;
      none = λ k. ap (λ (l : List (List ℕ)). get_or l k []) grown ∙ push_none (texts_of items) before.none k;
    }

pub no_users : (users : List ℕ) (accesses : List Access) (names : List (List ℕ)) → NoNames (length users) names → NamesUsers users (drop (length accesses) accesses) names
no_users users accesses names before = record {
  long = before.long;
  each = λ k h. before.none k ∙ sym (ap (first_user k) (drop_all (length accesses) accesses (omega arith)));
}

-- ---- pins

pub pin_there : (devices : List PlannedDevice) (pin : Pin) (d : PlannedDevice) → pin.device < length devices
    → pin_words (map planned_member devices) pin ≡ pin_of pin.port (planned_member (get_or devices pin.device d))
pin_there devices pin d h =
    ap (λ (o : Option Member). unwrap_or (option_map (pin_of pin.port) o) [])
    (slice_get-map planned_member devices pin.device ∙ ap (option_map planned_member) (slice_get-get_or devices pin.device d h))

pub pin_nowhere : (devices : List PlannedDevice) (pin : Pin) → length devices ≤ pin.device → pin_words (map planned_member devices) pin ≡ []
pin_nowhere devices pin h =
    ap (λ (o : Option Member). unwrap_or (option_map (pin_of pin.port) o) [])
    (slice_get-map planned_member devices pin.device ∙ ap (option_map planned_member) (slice_get_past devices pin.device h))

-- ---- tables

pub table_of : (tables : List (Vec (Option ℕ))) (place : ℕ) (v : Vec (Option ℕ)) → place < length tables → table_at (lists_of tables) place ≡ (get_or tables place v).items
table_of [] place v h = absurd (omega arith)
table_of (t ∷ tables) zero v h = refl
table_of (t ∷ tables) (suc place) v h = table_of tables place v (omega arith)

pub nets_of_device : (ms : List Member) (nets : List Net) (tables : List (Vec (Option ℕ))) (place : ℕ) (v : Vec (Option ℕ)) → HaveNets 0 ms nets (lists_of tables) → place < length tables
    → HasNets place nets (get_or tables place v).items
nets_of_device ms nets tables place v have h =
    subst (λ (t : List (Option ℕ)). HasNets place nets t) (table_of tables place v h) (record { each = λ p inside. have.each place p inside })

pub ports_of : (devices : List PlannedDevice) (nets : List Net) (tables : List (Vec (Option ℕ))) (place : ℕ) (v : Vec (Option ℕ)) (d : PlannedDevice)
    → HaveNets 0 (map planned_member devices) nets (lists_of tables) → place < length devices → place < length tables
    → length (get_or tables place v).items ≡ length (get_or devices place d).device.ports
ports_of devices nets tables place v d have h k =
    ap length (sym (table_of tables place v k))
    ∙ have.ports place (planned_member (get_or devices place d))
    (slice_get-map planned_member devices place ∙ ap (option_map planned_member) (slice_get-get_or devices place d h))

pub as_many : (devices : List PlannedDevice) (nets : List Net) (tables : List (Vec (Option ℕ))) → HaveNets 0 (map planned_member devices) nets (lists_of tables) → length tables ≡ length devices
as_many devices nets tables have = sym (length-map tables (λ (v : Vec (Option ℕ)). v.items)) ∙ have.long ∙ length-map devices planned_member

-- ---- what was told

-- of two parts the first was told in part
pub Told-first : {W B : Type 0} (A : Type 0) (contents : W → Option (List ℕ)) (a b : CountedView W) (xs ys : List ℕ) (e : Untold) (result : Result B Untold)
    → Told {A = A} contents a b xs (Err e) → IsErrAnd result (λ x. x ≡ e) → Told contents a b (xs ++ ys) result
Told-first A contents a b xs ys Broken (Err Broken) told so = (told.0, AppendsFront-first ys told.1)
Told-first A contents a b xs ys NoMemory (Err NoMemory) told so = (told.0, AppendsFront-first ys told.1)
Told-first A contents a b xs ys Broken (Err NoMemory) told so = absurd cc
Told-first A contents a b xs ys NoMemory (Err Broken) told so = absurd cc
Told-first A contents a b xs ys e (Ok x) told so = absurd so

-- pieces were told, and a write of the next was lost
pub Told-lost : {W A B E : Type 0} (contents : W → Option (List ℕ)) (a b c : CountedView W) (all sent ys rest : List ℕ) (write : Result A E) (result : Result B Untold)
    → sent ++ (ys ++ rest) ≡ all → Appends (contents a.inner) (contents b.inner) sent → WritesAll contents b c ys write → IsErr write → IsErrAnd result (λ x. x ≡ Broken)
    → Told contents a c all result
Told-lost contents a b c all sent ys rest (Err w) (Err Broken) split before one is so = (
  one.broken.0 refl,
  subst (AppendsFront (contents a.inner) (contents c.inner)) split
      (AppendsFront-next (contents a.inner) (contents b.inner) (contents c.inner) sent (ys ++ rest) before (AppendsFront-first rest one.front)),
)
Told-lost contents a b c all sent ys rest (Err w) (Err NoMemory) split before one is so = absurd cc
Told-lost contents a b c all sent ys rest (Err w) (Ok x) split before one is so = absurd so
Told-lost contents a b c all sent ys rest (Ok w) r split before one is so = absurd cc
