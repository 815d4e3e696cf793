-- What holds of every board that a board file makes.
use Rattle.std.proofs.Common.{◌≡◌, ◌<◌, ◌≤◌, ℕ, zero, suc, nat_lt, ◌==◌, Bool, true, false, not, ◌&&◌, ◌||◌, cond, List, [], ◌∷◌, ◌++◌, append_assoc, map, reverse, length, slice_get, codes, Option, Some, None, is_some, is_none, option_map, option_and_then, unwrap_or, Result, Ok, Err, IfOk, refl, ap, sym, ◌∙◌, subst, arith}
use Rattle.std.specs.Option.{option_or}
use Rattle.std.specs.List.{list_any, list_all, filter_map, flat_map, AllByRecursion, position}
use Rattle.std.specs.Str.{bytes_eq}
use Rattle.std.proofs.lemmas.Bool.{false≢true, and_parts, eqb-true, ltb-false}
use Rattle.std.proofs.lemmas.List.{append-nil, length-append, length-map, length-replicate, length-reverse}
use Rattle.std.proofs.lemmas.Slice.Eq.{bytes_eq-Decides}
use Rattle.toml.specs.Data.{Data, string, integer, float, boolean, datetime, array, table, Items, no_items, item, Members, get_member, as_str, as_array}
use Rattle.jt_limits.specs.Limits.{limits}
use Rattle.bsdl_device.specs.Device.{Device}
use Rattle.board_tables.specs.Fields.{passes, is_table, is_array_of, items_all, has_item, tables_in, text_at, name_at, tables_at, texts_at, texts_in}
use Rattle.board_tables.specs.declared.keys.Known.{Known}
use Rattle.board_tables.specs.Keys.{device_keys, top_keys, unfit_key, is_core, is_bit, is_string}
use Rattle.board_tables.specs.Faults.{unfit_device}
use Rattle.board_tables.specs.PinTexts.{PinText, pin_of}
use Rattle.board_tables.specs.FollowTexts.{target_text}
use Rattle.board_tables.proofs.KeyLaws.{fitting, head_in}
use Rattle.pin_nets.specs.declared.Pin.{Pin}
use Rattle.pin_nets.specs.declared.Rule.TheVariants.{Counted}
use Rattle.pin_nets.specs.Wired.{Net}
use Rattle.board_parts.specs.Files.{File, text_of, described, device_at, devices_of, missing_in, refused, refused_in}
use Rattle.board_tables.specs.Files.{file_at, file_names}
use Rattle.board_parts.specs.Pins.{pin_bit, bit_at, pin_at, same_pin, twice, pins_at, twice_in_nets, unknown_in_nets}
use Rattle.board_parts.proofs.PinLaws.{bit_inside}
use Rattle.board_file.specs.Wiring.{Fault, PinTwice, TooLarge, UnknownPin, file_fault, known_at, member_at, wiring_of, large, fault_of, makes, targets_in, targets_of}
use Rattle.board_parts.specs.Parts.{file_in, known_of, member_of, net_of, strings_at}
use Rattle.board_parts.specs.Strings.{HasStrings, strings_of}
use Rattle.board_parts.proofs.StringLaws.{strings_fit, strings_long}
use Rattle.board_loops.specs.Depending.{dependencies, dependencies_from, dependency}
use Rattle.board_plan.specs.Words.{core_of}
use Rattle.board_plan.specs.Planned.{Member, Wiring}
use Rattle.board_tables.specs.declared.fault.BoardFault.{BoardFault}
use Rattle.board_plan.specs.declared.plan.Plan.{Plan}
use Rattle.board_file.specs.View.{TellsWiring}
use Rattle.board_plan.specs.View.{files as files_in, wiring}
use Rattle.board_file.specs.Fits.{AreApart, AreSaid, FitsTogether, IsSaid, NoStringsWithoutFollow}
use Rattle.board_plan.specs.Planned.{HasCore, IsPinOf, all_pins}
use Rattle.board_file.proofs.DescribedLaws.{Has, Named, named_from, stands}

pub neither : {A : Type 0} (a b : Option A) → option_or a b ≡ None → (a ≡ None) × (b ≡ None)
neither None b h = (refl, h)
neither (Some x) b h = absurd cc

pub unmapped : {A B : Type 0} (f : A → B) (o : Option A) → option_map f o ≡ None → o ≡ None
unmapped f None h = refl
unmapped f (Some x) h = absurd cc

-- ---- keys

-- no key of a device's table is at fault, whatever names stand before it
pub IsFit : (Members → Option Known) → Members → Type 0
IsFit known t = (names : List (List ℕ)) × (unfit_key (device_keys names (known t)) t ≡ None)

pub all_fit : (known : Members → Option Known) (names : List (List ℕ)) (ts : List Members) → unfit_device names (map known ts) ts ≡ None → AllByRecursion (IsFit known) ts
unfolding IsFit
all_fit known names [] h = tt
all_fit known names (t ∷ ts) h =
    let both = neither (unfit_key (device_keys names (known t)) t) (unfit_device (names ++ name_at t ∷ []) (map known ts) ts) h in
    ((names, both.0), all_fit known (names ++ name_at t ∷ []) ts both.1)

is_there : {A : Type 0} (o : Option A) → not (is_some o) ≡ false → (x : A) × (o ≡ Some x)
is_there None h = absurd cc
is_there (Some x) h = (x, refl)

passed : (o : Option (List ℕ)) → is_some o ≡ true → (s : List ℕ) × (o ≡ Some s)
passed None h = absurd (false≢true h)
passed (Some s) h = (s, refl)

-- the name of its file is there
names_file : (names : List (List ℕ)) (known : Option Known) (t : Members) → unfit_key (device_keys names known) t ≡ None → (s : List ℕ) × (text_at (codes "bsdl") t ≡ Some s)
names_file names known t h =
    let (fit, none) = fitting (device_keys names known) t h in
    let one = head_in (not (is_some (get_member (codes "bsdl") t))) (codes "bsdl") _ none in
    let (d, is) = is_there (get_member (codes "bsdl") t) one.0 in
    let (s, text) = passed (as_str d) (fit (codes "bsdl") d is) in
    (s, ap (option_and_then as_str) is ∙ text)

core_passes : (n : ℕ) (o : Option (List ℕ)) (s : List ℕ) → o ≡ Some s → passes (λ s. list_all is_bit s && (length s == n)) o ≡ true → length s ≡ n
core_passes n None s e h = absurd cc
core_passes n (Some r) s e h =
    let same : r ≡ s = ap (λ o. unwrap_or o r) e in
    ap length (sym same) ∙ eqb-true (length r) n ((and_parts (list_all is_bit r) (length r == n) h).1)

core_at : (n : ℕ) (o : Option Data) (s : List ℕ) → option_and_then as_str o ≡ Some s → ((d : Data) → o ≡ Some d → is_core (Some n) d ≡ true) → length s ≡ n
core_at n None s e f = absurd cc
core_at n (Some d) s e f = core_passes n (as_str d) s e (f d refl)

core_len : (names : List (List ℕ)) (k : Known) (t : Members) → unfit_key (device_keys names (Some k)) t ≡ None → (o : Option (List ℕ)) → text_at (codes "core") t ≡ o → length (core_of k.cells o) ≡ k.cells
core_len names k t h None e = length-replicate k.cells false
core_len names k t h (Some s) e =
    let (fit, none) = fitting (device_keys names (Some k)) t h in
    length-map (reverse s) (λ c. c == 49) ∙ length-reverse s ∙ core_at k.cells (get_member (codes "core") t) s e (λ d g. fit (codes "core") d g)

-- the strings are there: they fit, or there is no such key
strings_there : (names : List (List ℕ)) (d : Device) (t : Members) → unfit_key (device_keys names (Some (known_of t d))) t ≡ None → is_some (strings_at d t) ≡ true
strings_there names d t h =
    let (fit, none) = fitting (device_keys names (Some (known_of t d))) t h in
    by (get_member (codes "follow") t) refl (λ v g. fit (codes "follow") v g)
  where
    by : (o : Option Data) → get_member (codes "follow") t ≡ o
        → ((v : Data) → get_member (codes "follow") t ≡ Some v → is_array_of is_string v && is_some (strings_at d t) ≡ true) → is_some (strings_at d t) ≡ true
    by None e fit = ap (λ o. is_some (strings_of d (texts_in (unwrap_or (option_and_then as_array o) no_items)))) e
    by (Some v) e fit = (and_parts (is_array_of is_string v) (is_some (strings_at d t)) (fit v e)).1

-- ---- devices

some_none : {A : Type 0} (x : A) → Some x ≡ None → ⊥
some_none x e = absurd cc

no_bit : {A : Type 0} (x : A) → None ≡ Some x → ⊥
no_bit x e = absurd cc

module _ (says : List ℕ → Option Device) (files : List File) where
  said : (text : List ℕ) (o : Option Device) → says text ≡ o → refused says text ≡ None → (d : Device) × (says text ≡ Some d)
  said text None e h = absurd (some_none text (sym (ap (λ b. cond b (Some text) None) (ap is_none e)) ∙ h))
  said text (Some d) e h = (d, e)

  -- a name whose file is there and not refused is described
  is_described : (names : List (List ℕ)) → missing_in files names ≡ None → refused_in says files names ≡ None → (name : List ℕ) → Has names name → (d : Device) × (described says files name ≡ Some d)
  is_described [] m r name h = absurd (false≢true h)
  is_described (n ∷ names) m r name h = by (text_of files n) refl (λ m r h. is_described names m r name h)
    where
      here : (text : List ℕ) → text_of files n ≡ Some text → refused says text ≡ None → bytes_eq name n ≡ true → (d : Device) × (described says files name ≡ Some d)
      here text e good same =
          let (d, is) = said text (says text) refl good in
          let is_n : name ≡ n = (bytes_eq-Decides name n).0 same in
          (d, ap (described says files) is_n ∙ ap (option_and_then says) e ∙ is)

      at : (text : List ℕ) → text_of files n ≡ Some text → missing_in files names ≡ None → (refused says text ≡ None) × (refused_in says files names ≡ None) → (b : Bool) → bytes_eq name n ≡ b → b || list_any (bytes_eq name) names ≡ true
          → (missing_in files names ≡ None → refused_in says files names ≡ None → Has names name → (d : Device) × (described says files name ≡ Some d)) → (d : Device) × (described says files name ≡ Some d)
      at text e rest good true same h more = here text e good.0 same
      at text e rest good false same h more = more rest good.1 h

      by : (o : Option (List ℕ)) → text_of files n ≡ o
          → (missing_in files names ≡ None → refused_in says files names ≡ None → Has names name → (d : Device) × (described says files name ≡ Some d)) → (d : Device) × (described says files name ≡ Some d)
      by None e more = absurd (some_none n (rw (e, missing_in) at m))
      by (Some text) e more = at text e (rw (e, missing_in) at m) (neither (refused says text) (refused_in says files names) (rw (e, refused_in) at r)) (bytes_eq name n) refl h more

  -- the table's device is described, its core has a bit for each cell, and its strings fit
  pub IsWhole : Members → Type 0
  IsWhole t = (d : Device) × (device_at says files t ≡ Some d) × (length (core_of (length d.cells) (text_at (codes "core") t)) ≡ length d.cells) × (is_some (strings_at d t) ≡ true)

  pub whole_device : (t : Members) → IsWhole t → (d : Device) × (device_at says files t ≡ Some d)
  unfolding IsWhole
  whole_device t h = (h.0, h.1)

  pub all_whole : (names : List (List ℕ)) → missing_in files names ≡ None → refused_in says files names ≡ None → (ts : List Members) → Named names ts → AllByRecursion (IsFit (known_at says files)) ts → AllByRecursion IsWhole ts
  unfolding IsFit IsWhole
  all_whole names m r [] named fit = tt
  all_whole names m r (t ∷ ts) named fit =
      let (ns, key) = fit.0 in
      let (s, text) = names_file ns (known_at says files t) t key in
      let is_s : file_at t ≡ s = ap (λ o. unwrap_or o []) text in
      let (d, is) = is_described names m r s (subst (Has names) is_s named.0) in
      let at : device_at says files t ≡ Some d = ap (option_and_then (described says files)) text ∙ is in
      let known : known_at says files t ≡ Some (known_of t d) = ap (option_map (known_of t)) at in
      let fits : unfit_key (device_keys ns (Some (known_of t d))) t ≡ None = subst (λ k. unfit_key (device_keys ns k) t ≡ None) known key in (
        (d, at, core_len ns (known_of t d) t fits (text_at (codes "core") t) refl, strings_there ns d t fits),
        all_whole names m r ts named.1 fit.1,
      )

  pub members_len : (ts : List Members) → AllByRecursion IsWhole ts → length (filter_map (member_at says files) ts) ≡ length ts
  unfolding IsWhole
  members_len [] h = refl
  members_len (t ∷ ts) h = rw (h.0.1, filter_map) (ap suc (members_len ts h.1))

  members_cores : (ts : List Members) → AllByRecursion IsWhole ts → AllByRecursion HasCore (filter_map (member_at says files) ts)
  unfolding IsWhole
  members_cores [] h = tt
  members_cores (t ∷ ts) h = rw (h.0.1, filter_map) (h.0.2, members_cores ts h.1)

  members_strings : (ts : List Members) → AllByRecursion IsWhole ts → AllByRecursion HasStrings (filter_map (member_at says files) ts)
  unfolding IsWhole
  members_strings [] h = tt
  members_strings (t ∷ ts) h =
      let fit = strings_fit h.0.0 (texts_at (codes "follow") t) h.0.3 in
      rw (h.0.1, filter_map) (record { each = fit.0; one = fit.1 }, members_strings ts h.1)

  -- there is a target for each string
  targets_long : (w : Wiring) (k : ℕ) (ts : List Members) → AllByRecursion IsWhole ts → length (dependencies_from w k (filter_map (member_at says files) ts)) ≡ length (flat_map targets_of ts)
  unfolding IsWhole
  targets_long w k [] h = refl
  targets_long w k (t ∷ ts) h =
      let d = h.0.0 in
      let texts = texts_at (codes "follow") t in
      let strings = unwrap_or (strings_at d t) [] in
      let rest = filter_map (member_at says files) ts in
      let long : length (map (dependency w k d.cells) strings ++ dependencies_from w (suc k) rest) ≡ length (targets_of t ++ flat_map targets_of ts) =
      omega (
        arith,
        length-append (map (dependency w k d.cells) strings) (dependencies_from w (suc k) rest),
        length-append (targets_of t) (flat_map targets_of ts),
        length-map strings (dependency w k d.cells),
        length-map texts (λ text. name_at t ++ 46 ∷ target_text text),
        strings_long d texts h.0.3,
        targets_long w (suc k) ts h.1,
      ) in
      rw (h.0.1, filter_map) long

  -- the device at a place is that of the member there
  member_for : (ts : List Members) (i : ℕ) (d : Device) → slice_get (filter_map (device_at says files) ts) i ≡ Some d
      → (m : Member) × (slice_get (filter_map (member_at says files) ts) i ≡ Some m) × (m.device ≡ d)
  member_for [] i d h = absurd (no_bit d h)
  member_for (t ∷ ts) i d h = by (device_at says files t) refl (λ k is. member_for ts k d is)
    where
      there : (e : Device) (k : ℕ) → slice_get (e ∷ filter_map (device_at says files) ts) k ≡ Some d
          → ((k : ℕ) → slice_get (filter_map (device_at says files) ts) k ≡ Some d → (m : Member) × (slice_get (filter_map (member_at says files) ts) k ≡ Some m) × (m.device ≡ d))
          → (m : Member) × (slice_get (member_of t e ∷ filter_map (member_at says files) ts) k ≡ Some m) × (m.device ≡ d)
      there e zero is more = (member_of t e, refl, ap (λ o. unwrap_or o e) is)
      there e (suc k) is more = more k is

      by : (o : Option Device) → device_at says files t ≡ o
          → ((k : ℕ) → slice_get (filter_map (device_at says files) ts) k ≡ Some d → (m : Member) × (slice_get (filter_map (member_at says files) ts) k ≡ Some m) × (m.device ≡ d))
          → (m : Member) × (slice_get (filter_map (member_at says files) (t ∷ ts)) i ≡ Some m) × (m.device ≡ d)
      by None at more = rw (at, filter_map) (more i (rw (at, filter_map) at h))
      by (Some e) at more = rw (at, filter_map) (there e i (rw (at, filter_map) at h) more)

-- ---- pins

-- the pin is a port bit of one of these devices
unfoldable pub IsBitOf : List Device → Pin → Type 0
IsBitOf ds p = (d : Device) × (slice_get ds p.device ≡ Some d) × (p.port < length d.ports)

bit_on : (ds : List Device) (p : PinText) (place : ℕ) (pin : Pin) → bit_at ds p place ≡ Some pin → IsBitOf ds pin
unfolding IsBitOf
bit_on ds p place pin h = by (slice_get ds place) refl h
  where
    at : (d : Device) → slice_get ds place ≡ Some d → (o : Option ℕ) → pin_bit d p.port p.index ≡ o → option_map {U = Pin} (λ bit. record { device = place; port = bit }) o ≡ Some pin → IsBitOf ds pin
    at d is None e f = absurd (no_bit pin f)
    at d is (Some bit) e f =
        subst (λ q. (d : Device) × (slice_get ds q.device ≡ Some d) × (q.port < length d.ports)) (ap (λ o. unwrap_or o (record { device = place; port = bit })) f)
        (d, is, bit_inside d p.port p.index bit e)

    by : (o : Option Device) → slice_get ds place ≡ o → option_and_then {U = Pin} (λ d. option_map (λ bit. record { device = place; port = bit }) (pin_bit d p.port p.index)) o ≡ Some pin → IsBitOf ds pin
    by None is e = absurd (no_bit pin e)
    by (Some d) is e = at d is (pin_bit d p.port p.index) refl e

pin_on : (names : List (List ℕ)) (ds : List Device) (text : List ℕ) (pin : Pin) → pin_at names ds text ≡ Some pin → IsBitOf ds pin
unfolding pin_at
pin_on names ds text pin h = by (pin_of text) h
  where
    at : (p : PinText) (o : Option ℕ) → option_and_then (bit_at ds p) o ≡ Some pin → IsBitOf ds pin
    at p None e = absurd (no_bit pin e)
    at p (Some place) e = bit_on ds p place pin e

    by : (o : Option PinText) → option_and_then (λ p. option_and_then (bit_at ds p) (position (bytes_eq p.device) names)) o ≡ Some pin → IsBitOf ds pin
    by None e = absurd (no_bit pin e)
    by (Some p) e = at p (position (bytes_eq p.device) names) e

both : {A : Type 0} (P : A → Type 0) (xs ys : List A) → AllByRecursion P xs → AllByRecursion P ys → AllByRecursion P (xs ++ ys)
both P [] ys one two = two
both P (x ∷ xs) ys one two = (one.0, both P xs ys one.1 two)

module _ (names : List (List ℕ)) (ds : List Device) where
  all_on : (texts : List (List ℕ)) → AllByRecursion (IsBitOf ds) (filter_map (pin_at names ds) texts)
  all_on [] = tt
  all_on (text ∷ texts) = by (pin_at names ds text) refl (all_on texts)
    where
      by : (o : Option Pin) → pin_at names ds text ≡ o → AllByRecursion (IsBitOf ds) (filter_map (pin_at names ds) texts) → AllByRecursion (IsBitOf ds) (filter_map (pin_at names ds) (text ∷ texts))
      by None e more = rw (e, filter_map) more
      by (Some p) e more = rw (e, filter_map) (pin_on names ds text p e, more)

  pub nets_on : (ts : List Members) → AllByRecursion (IsBitOf ds) (all_pins (map (net_of names ds) ts))
  nets_on [] = tt
  nets_on (t ∷ ts) = both (IsBitOf ds) (pins_at names ds t) (all_pins (map (net_of names ds) ts)) (all_on (texts_at (codes "pins") t)) (nets_on ts)

  twice_apart : (before : List Pin) (texts : List (List ℕ)) → twice names ds before texts ≡ None → AreApart before (filter_map (pin_at names ds) texts)
  twice_apart before [] h = tt
  twice_apart before (text ∷ texts) h = by (pin_at names ds text) refl (λ b f. twice_apart b texts f)
    where
      at : (p : Pin) (b : Bool) → list_any (same_pin p) before ≡ b → cond b (Some text) (twice names ds (before ++ p ∷ []) texts) ≡ None
          → ((b : List Pin) → twice names ds b texts ≡ None → AreApart b (filter_map (pin_at names ds) texts)) → AreApart before (p ∷ filter_map (pin_at names ds) texts)
      at p true e f more = absurd (some_none text f)
      at p false e f more = (e, more (before ++ p ∷ []) f)

      by : (o : Option Pin) → pin_at names ds text ≡ o → ((b : List Pin) → twice names ds b texts ≡ None → AreApart b (filter_map (pin_at names ds) texts)) → AreApart before (filter_map (pin_at names ds) (text ∷ texts))
      by None e more = rw (e, filter_map) (more before (rw (e, twice) at h))
      by (Some p) e more = rw (e, filter_map) (at p (list_any (same_pin p) before) refl (rw (e, twice) at h) more)

  apart_both : (before xs ys : List Pin) → AreApart before xs → AreApart (before ++ xs) ys → AreApart before (xs ++ ys)
  apart_both before [] ys one two = subst (λ b. AreApart b ys) (append-nil before) two
  apart_both before (x ∷ xs) ys one two =
      (one.0, apart_both (before ++ x ∷ []) xs ys one.1 (subst (λ b. AreApart b ys) (sym (append_assoc before (x ∷ []) xs)) two))

  nets_apart : (before : List Pin) (ts : List Members) → twice_in_nets names ds before ts ≡ None → AreApart before (all_pins (map (net_of names ds) ts))
  nets_apart before [] h = tt
  nets_apart before (t ∷ ts) h =
      let parts = neither (twice names ds before (texts_at (codes "pins") t)) (twice_in_nets names ds (before ++ pins_at names ds t) ts) h in
      apart_both before (pins_at names ds t) (all_pins (map (net_of names ds) ts)) (twice_apart before (texts_at (codes "pins") t) parts.0)
      (nets_apart (before ++ pins_at names ds t) ts parts.1)

-- ---- the whole

first_table : (d : Data) → is_table d ≡ true → (items : Items) → 0 < length (tables_in (item d items))
first_table (table ms) h items = omega arith
first_table (string s) h items = absurd (false≢true h)
first_table (integer i) h items = absurd (false≢true h)
first_table (float f) h items = absurd (false≢true h)
first_table (boolean b) h items = absurd (false≢true h)
first_table (datetime d) h items = absurd (false≢true h)
first_table (array ds) h items = absurd (false≢true h)

some_table : (items : Items) → has_item items && items_all is_table items ≡ true → 0 < length (tables_in items)
some_table no_items h = absurd (false≢true h)
some_table (item d items) h = first_table d ((and_parts (is_table d) (items_all is_table items) h).0) items

some_tables : (o : Option Items) → passes (λ ds. has_item ds && items_all is_table ds) o ≡ true → 0 < length (tables_in (unwrap_or o no_items))
some_tables None h = absurd (false≢true h)
some_tables (Some items) h = some_table items h

-- there is a device
some_device : (t : Members) → unfit_key top_keys t ≡ None → 0 < length (tables_at (codes "device") t)
some_device t h =
    let (fit, none) = fitting top_keys t h in
    let one = head_in (not (is_some (get_member (codes "device") t))) (codes "device") [] none in
    let (d, is) = is_there (get_member (codes "device") t) one.0 in
    subst (λ o. 0 < length (tables_in (unwrap_or (option_and_then as_array o) no_items))) (sym is) (some_tables (as_array d) (fit (codes "device") d is))

few_of_each : (m n : ℕ) → large m n ≡ None → (m ≤ limits.devices) × (n ≤ limits.nets)
few_of_each m n h = by (nat_lt limits.devices m) refl (nat_lt limits.nets n) refl h
  where
    by : (a : Bool) → nat_lt limits.devices m ≡ a → (b : Bool) → nat_lt limits.nets n ≡ b → cond (a || b) (Some TooLarge) None ≡ None → (m ≤ limits.devices) × (n ≤ limits.nets)
    by true p b q h = absurd (some_none TooLarge h)
    by false p true q h = absurd (some_none TooLarge h)
    by false p false q h = (ltb-false limits.devices m p, ltb-false limits.nets n q)

abbrev answer : Option Fault → Wiring → Result Wiring Fault
answer o w = elim o [ None ↦ Ok w | Some f ↦ Err f ]

abbrev made_or : Wiring → Result Wiring Fault → Wiring
made_or w (Ok v) = v
made_or w (Err f) = w

refusal : (f : Fault) (w : Wiring) → Err f ≡ Ok w → ⊥
refusal f w e = absurd cc

module _ (says : List ℕ → Option Device) (files : List File) (t : Members) where
  pin_of_member : (p : Pin) → IsBitOf (devices_of says files (tables_at (codes "device") t)) p → IsPinOf (filter_map (member_at says files) (tables_at (codes "device") t)) p
  unfolding IsBitOf
  pin_of_member p (d, is, below) =
      let (m, at, same) = member_for says files (tables_at (codes "device") t) p.device d is in
      (m, at, subst (λ (d : Device). p.port < length d.ports) (sym same) below)

  each : {A : Type 0} (P Q : A → Type 0) → ((x : A) → P x → Q x) → (xs : List A) → AllByRecursion P xs → AllByRecursion Q xs
  each P Q f [] h = tt
  each P Q f (x ∷ xs) h = (f x h.0, each P Q f xs h.1)

  whole : fault_of says files t ≡ None → AllByRecursion (IsWhole says files) (tables_at (codes "device") t)
  whole h =
      let devices = tables_at (codes "device") t in
      let (keys, more) = neither _ _ h in
      let (file, wire) = neither _ _ more in
      let (top, tables) = neither (unfit_key top_keys t) _ (unmapped _ _ keys) in
      let (entries, net_keys) = neither (unfit_device [] (map (known_at says files) devices) devices) _ tables in
      let (gone, bad) = neither _ _ file in
      all_whole says files (file_names t) (unmapped _ _ gone) (unmapped _ _ bad) devices (named_from [] devices) (all_fit (known_at says files) [] devices entries)

  nets_counted : (names : List (List ℕ)) (ds : List Device) (nets : List Members) → AllByRecursion (λ (n : Net). n.rule ≡ Counted) (map (net_of names ds) nets)
  nets_counted names ds [] = tt
  nets_counted names ds (n ∷ ns) = (refl, nets_counted names ds ns)

  fits : fault_of says files t ≡ None → FitsTogether (wiring_of says files t)
  fits h =
      let devices = tables_at (codes "device") t in
      let nets = tables_at (codes "net") t in
      let names = map name_at devices in
      let found = devices_of says files devices in
      let (keys, more) = neither _ _ h in
      let (file, wire) = neither (file_fault says files (file_names t)) _ more in
      let (top, tables) = neither (unfit_key top_keys t) _ (unmapped _ _ keys) in
      let (unknown, rest) = neither (option_map (λ x. UnknownPin x) (unknown_in_nets names found nets)) _ wire in
      let (again, big) = neither _ _ rest in
      let (few, few_nets) = few_of_each (length names) (length nets) big in
      let len = members_len says files devices (whole h) in
      record {
        some = subst (λ n. 0 < n) (sym len) (some_device t top);
        most = subst (λ n. n ≤ limits.devices) (length-map devices name_at ∙ sym len) few;
        nets = subst (λ n. n ≤ limits.nets) (sym (length-map nets (net_of names found))) few_nets;
        cores = members_cores says files devices (whole h);
        strings = members_strings says files devices (whole h);
        pins = each (IsBitOf found) _ pin_of_member (all_pins (map (net_of names found) nets)) (nets_on names found nets);
        apart = nets_apart names found [] nets (unmapped (λ x. PinTwice x) _ again);
        counted = nets_counted names found nets;
      }

  pub board_fits : (w : Wiring) → makes says files t ≡ Ok w → FitsTogether w
  board_fits w h = by (fault_of says files t) refl h
    where
      by : (o : Option Fault) → fault_of says files t ≡ o → answer o (wiring_of says files t) ≡ Ok w → FitsTogether w
      by None e is = subst FitsTogether (ap (made_or w) is) (fits e)
      by (Some f) e is = absurd (refusal f w is)

  pub board_targets : (w : Wiring) → makes says files t ≡ Ok w → length (dependencies w) ≡ length (targets_in t)
  board_targets w h = by (fault_of says files t) refl h
    where
      by : (o : Option Fault) → fault_of says files t ≡ o → answer o (wiring_of says files t) ≡ Ok w → length (dependencies w) ≡ length (targets_in t)
      by None e is =
          subst (λ (w : Wiring). length (dependencies w) ≡ length (targets_in t)) (ap (made_or w) is)
          (targets_long says files (wiring_of says files t) 0 (tables_at (codes "device") t) (whole e))
      by (Some f) e is = absurd (refusal f w is)

pub told_fits : {F : Type 0} (refuses : List ℕ → F → Type 0) (says : List ℕ → Option Device) (files : List File) (t : Members) (r : Result Plan (BoardFault F)) → TellsWiring refuses r (makes says files t) → IfOk r (λ p. FitsTogether (wiring p))
told_fits refuses says files t (Ok p) h = board_fits says files t (wiring p) h
told_fits refuses says files t (Err f) h = tt

-- ---- each device has its file

module _ (says : List ℕ → Option Device) (files : List File) (names : List (List ℕ)) where
  whole-files : (ts : List Members) → Named names ts → AllByRecursion (IsWhole says files) ts
      → filter_map (file_in names (map (described says files) names)) ts ≡ map (λ (t : Members). Some (file_at t)) ts
  whole-files [] named all = refl
  whole-files (t ∷ ts) named all =
      let here = stands says files names t named.0 ∙ (whole_device says files t all.0).1 in
      rw (here, whole-files ts named.1 all.1) refl

pub told_files : {F : Type 0} (refuses : List ℕ → F → Type 0) (says : List ℕ → Option Device) (files : List File) (t : Members) (names : List (List ℕ)) (ds : List (Option Device))
    → names ≡ file_names t → ds ≡ map (described says files) names → (r : Result Plan (BoardFault F)) → TellsWiring refuses r (makes says files t)
    → IfOk r (λ p. files_in p ≡ filter_map (file_in names ds) (tables_at (codes "device") t)) → IfOk r (λ p. files_in p ≡ map (λ (d : Members). Some (file_at d)) (tables_at (codes "device") t))
told_files refuses says files t names ds names_is ds_is (Err f) told has = tt
told_files refuses says files t names ds names_is ds_is (Ok p) told has = by (fault_of says files t) refl told
  where
    devices : List Members
    devices = tables_at (codes "device") t

    named : Named names devices
    named = subst (λ ns. Named ns devices) (sym names_is) (named_from [] devices)

    by : (o : Option Fault) → fault_of says files t ≡ o → answer o (wiring_of says files t) ≡ Ok (wiring p) → files_in p ≡ map (λ (d : Members). Some (file_at d)) devices
    by None e is = has ∙ ap (λ all. filter_map (file_in names all) devices) ds_is ∙ whole-files says files names devices named (whole says files t e)
    by (Some f) e is = absurd (refusal f (wiring p) is)

-- ---- each device is one that a text says

module _ (says : List ℕ → Option Device) (files : List File) where
  said-text : (o : Option (List ℕ)) (d : Device) → option_and_then says o ≡ Some d → IsSaid says d
  said-text None d e = absurd (some_none d (sym e))
  said-text (Some text) d e = (text, e)

  said-name : (o : Option (List ℕ)) (d : Device) → option_and_then (described says files) o ≡ Some d → IsSaid says d
  said-name None d e = absurd (some_none d (sym e))
  said-name (Some name) d e = said-text (text_of files name) d e

  said-members : (ts : List Members) → AllByRecursion (λ (m : Member). IsSaid says m.device) (filter_map (member_at says files) ts)
  said-members [] = tt
  said-members (t ∷ ts) = by (said-members ts) (device_at says files t) refl
    where
      by : AllByRecursion (λ (m : Member). IsSaid says m.device) (filter_map (member_at says files) ts) → (o : Option Device) → device_at says files t ≡ o
          → AllByRecursion (λ (m : Member). IsSaid says m.device) (filter_map (member_at says files) (t ∷ ts))
      by rest None e = rw e rest
      by rest (Some d) e = rw e (said-name (text_at (codes "bsdl") t) d e, rest)

  pub board_said : (t : Members) (w : Wiring) → makes says files t ≡ Ok w → AreSaid says w
  board_said t w h = by (fault_of says files t) refl h
    where
      by : (o : Option Fault) → fault_of says files t ≡ o → answer o (wiring_of says files t) ≡ Ok w → AreSaid says w
      by None e is = subst (AreSaid says) (ap (made_or w) is) (said-members (tables_at (codes "device") t))
      by (Some f) e is = absurd (refusal f w is)

pub told_said : {F : Type 0} (refuses : List ℕ → F → Type 0) (says : List ℕ → Option Device) (files : List File) (t : Members) (r : Result Plan (BoardFault F)) → TellsWiring refuses r (makes says files t) → IfOk r (λ p. AreSaid says (wiring p))
told_said refuses says files t (Ok p) h = board_said says files t (wiring p) h
told_said refuses says files t (Err f) h = tt

-- ---- a board file without the key `follow`

no_strings : (d : Device) (t : Members) → get_member (codes "follow") t ≡ None → unwrap_or (strings_at d t) [] ≡ []
no_strings d t e = ap (λ o. unwrap_or (strings_of d (texts_in (unwrap_or (option_and_then as_array o) no_items))) []) e

abbrev HasNone : Member → Type 0
HasNone m = m.follows ≡ []

module _ (says : List ℕ → Option Device) (files : List File) where
  plain-members : (ts : List Members) → AllByRecursion (λ d. get_member (codes "follow") d ≡ None) ts → AllByRecursion HasNone (filter_map (member_at says files) ts)
  plain-members [] h = tt
  plain-members (t ∷ ts) h = by (plain-members ts h.1) (device_at says files t) refl
    where
      by : AllByRecursion HasNone (filter_map (member_at says files) ts) → (o : Option Device) → device_at says files t ≡ o
          → AllByRecursion HasNone (filter_map (member_at says files) (t ∷ ts))
      by rest None e = rw e rest
      by rest (Some d) e = rw e (no_strings d t h.0, rest)

pub plain_board : NoStringsWithoutFollow
plain_board says files t w plain h = by (fault_of says files t) refl h
  where
    by : (o : Option Fault) → fault_of says files t ≡ o → answer o (wiring_of says files t) ≡ Ok w → AllByRecursion HasNone w.members
    by None e is = subst (λ (w : Wiring). AllByRecursion HasNone w.members) (ap (made_or w) is) (plain-members says files (tables_at (codes "device") t) plain)
    by (Some f) e is = absurd (refusal f w is)
