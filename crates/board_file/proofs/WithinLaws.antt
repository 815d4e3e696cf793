-- What is made within some limits and lies within others is made within those too.
use Rattle.std.proofs.Common.{◌≡◌, ℕ, ◌≤◌, nat_lt, Bool, true, false, ◌||◌, cond, List, [], ◌∷◌, map, length, codes, Option, Some, None, option_map, option_and_then, unwrap_or, Result, Ok, Err, refl, ap, sym, ◌∙◌, subst, arith}
use Rattle.std.specs.Option.{option_or}
use Rattle.std.specs.List.{list_any, filter_map, AllByRecursion}
use Rattle.std.specs.Str.{bytes_eq}
use Rattle.std.specs.Prelude.{is_none}
use Rattle.std.proofs.lemmas.Bool.{false≢true, ltb-false}
use Rattle.std.proofs.lemmas.Bool.Decides.{nat_tests}
use Rattle.std.proofs.lemmas.List.{length-map}
use Rattle.std.proofs.lemmas.Slice.Eq.{bytes_eq-Decides}
use Rattle.jt_limits.specs.declared.Limits.{Limits}
use Rattle.toml.specs.Data.{Members}
use Rattle.bsdl_device.specs.Device.{Device}
use Rattle.board_tables.specs.Fields.{text_at, name_at, tables_at}
use Rattle.board_tables.specs.declared.keys.Known.{Known}
use Rattle.board_tables.specs.Faults.{unfit, unfit_device}
use Rattle.board_tables.specs.Keys.{top_keys, unfit_key}
use Rattle.board_parts.specs.Files.{File, text_of, described, device_at, devices_of, missing_in, refused, refused_in}
use Rattle.board_tables.specs.Files.{file_at, file_names}
use Rattle.board_parts.specs.Pins.{twice_in_nets, unknown_in_nets}
use Rattle.board_parts.specs.Parts.{known_of, member_of, net_of}
use Rattle.pin_nets.specs.Wired.{Net}
use Rattle.board_plan.specs.Planned.{Member, Wiring}
use Rattle.board_file.specs.Wiring.{Fault, BadField, Bsdl, PinTwice, TooLarge, UnknownFile, UnknownPin, fault_within, file_fault, known_at, large_within, makes_within, member_at, wire_fault_within, wiring_of}
use Rattle.board_file.specs.Within.{WiringWithin, SaysToo, SaysNamed, MadeIsWithin, WhatLiesWithinIsMade}
use Rattle.board_file.proofs.DescribedLaws.{Has, Named, named_from}
use Rattle.board_file.proofs.FitLaws.{IsWhole, all_fit, all_whole, members_len, neither, unmapped, whole_device}

-- ---- what a board that is made says

abbrev answer : Option Fault → Wiring → Result Wiring Fault
answer o w = elim o [ None ↦ Ok w | Some f ↦ Err f ]

fine : (o : Option Fault) (v w : Wiring) → answer o v ≡ Ok w → (o ≡ None) × (v ≡ w)
fine None v w e = (refl, cc)
fine (Some f) v w e = absurd cc

few_of_each : (l : Limits) (m n : ℕ) → large_within l m n ≡ None → (m ≤ l.devices) × (n ≤ l.nets)
few_of_each l m n h = by (nat_lt l.devices m) refl (nat_lt l.nets n) refl h
  where
    by : (a : Bool) → nat_lt l.devices m ≡ a → (b : Bool) → nat_lt l.nets n ≡ b → cond (a || b) (Some TooLarge) None ≡ None → (m ≤ l.devices) × (n ≤ l.nets)
    by true p b q h = absurd cc
    by false p true q h = absurd cc
    by false p false q h = (ltb-false l.devices m p, ltb-false l.nets n q)

not_large : (l : Limits) (m n : ℕ) → m ≤ l.devices → n ≤ l.nets → large_within l m n ≡ None
not_large l m n few less =
    let p : nat_lt l.devices m ≡ false = grind (arith, nat_tests, few) in
    let q : nat_lt l.nets n ≡ false = grind (arith, nat_tests, less) in
    rw (p, q) refl

-- the parts of a table that is not refused
record Fine (l : Limits) (says : List ℕ → Option Device) (files : List File) (t : Members) : Type 0 where
  keys : unfit (map (known_at says files) (tables_at (codes "device") t)) t ≡ None
  there : missing_in files (file_names t) ≡ None
  good : refused_in says files (file_names t) ≡ None
  known : unknown_in_nets (map name_at (tables_at (codes "device") t)) (devices_of says files (tables_at (codes "device") t)) (tables_at (codes "net") t) ≡ None
  once : twice_in_nets (map name_at (tables_at (codes "device") t)) (devices_of says files (tables_at (codes "device") t)) [] (tables_at (codes "net") t) ≡ None
  small : large_within l (length (map name_at (tables_at (codes "device") t))) (length (tables_at (codes "net") t)) ≡ None

parts : (l : Limits) (says : List ℕ → Option Device) (files : List File) (t : Members) → fault_within l says files t ≡ None → Fine l says files t
parts l says files t h =
    let (keys, rest) = neither _ _ h in
    let (file, wire) = neither (file_fault says files (file_names t)) _ rest in
    let (gone, bad) = neither _ _ file in
    let (unknown, pins) = neither _ _ wire in
    let (again, big) = neither _ _ pins in
    record {
      keys = unmapped (λ x. BadField x) _ keys;
      there = unmapped (λ x. UnknownFile x) _ gone;
      good = unmapped (λ x. Bsdl x) _ bad;
      known = unmapped (λ x. UnknownPin x) _ unknown;
      once = unmapped (λ x. PinTwice x) _ again;
      small = big;
    }

whole : (says : List ℕ → Option Device) (files : List File) (t : Members) → unfit (map (known_at says files) (tables_at (codes "device") t)) t ≡ None
    → missing_in files (file_names t) ≡ None → refused_in says files (file_names t) ≡ None → AllByRecursion (IsWhole says files) (tables_at (codes "device") t)
whole says files t keys there good =
    let devices = tables_at (codes "device") t in
    let (top, tables) = neither (unfit_key top_keys t) _ keys in
    let (entries, net_keys) = neither (unfit_device [] (map (known_at says files) devices) devices) _ tables in
    all_whole says files (file_names t) there good devices (named_from [] devices) (all_fit (known_at says files) [] devices entries)

-- ---- two readers that say the same

at_name : (P : List ℕ → Type 0) (names : List (List ℕ)) → AllByRecursion P names → (name : List ℕ) → Has names name → P name
at_name P [] all name h = absurd (false≢true h)
at_name P (n ∷ names) all name h = by (bytes_eq name n) refl h (at_name P names all.1 name)
  where
    by : (b : Bool) → bytes_eq name n ≡ b → b || list_any (bytes_eq name) names ≡ true → (list_any (bytes_eq name) names ≡ true → P name) → P name
    by true same e more = subst P (sym ((bytes_eq-Decides name n).0 same)) all.0
    by false same e more = more e

not_none : {A : Type 0} (x : A) → None ≡ Some x → ⊥
not_none x e = absurd cc

-- what the file of a name says, it says to the other too
abbrev Too : (says other : List ℕ → Option Device) → List File → List ℕ → Type 0
Too says other files name = SaysToo says other (text_of files name)

-- a table's device is the same for both
abbrev Same : (says other : List ℕ → Option Device) → List File → Members → Type 0
Same says other files t = device_at says files t ≡ device_at other files t

abbrev refused_text : (List ℕ → Option Device) → Option (List ℕ) → Option (List ℕ)
refused_text reader o = option_and_then (refused reader) o

module _ (says other : List ℕ → Option Device) (files : List File) where
  by_text : (o : Option (List ℕ)) (d : Device) → SaysToo says other o → option_and_then says o ≡ Some d → option_and_then other o ≡ Some d
  by_text None d too e = absurd (not_none d e)
  by_text (Some text) d too e = too d e

  same_device : (names : List (List ℕ)) → AllByRecursion (Too says other files) names → (t : Members) → Has names (file_at t) → (d : Device) → device_at says files t ≡ Some d → device_at says files t ≡ device_at other files t
  same_device names all t named d e = by (text_at (codes "bsdl") t) refl
    where
      by : (o : Option (List ℕ)) → text_at (codes "bsdl") t ≡ o → device_at says files t ≡ device_at other files t
      by None is = absurd (not_none d (sym (ap (option_and_then (described says files)) is) ∙ e))
      by (Some name) is =
          let here : file_at t ≡ name = ap (λ (o : Option (List ℕ)). unwrap_or o []) is in
          let too : Too says other files name = at_name (Too says other files) names all name (subst (Has names) here named) in
          let one : described says files name ≡ Some d = sym (ap (option_and_then (described says files)) is) ∙ e in
          let two : described other files name ≡ Some d = by_text (text_of files name) d too one in
          e ∙ sym (ap (option_and_then (described other files)) is ∙ two)

  all_same : (names : List (List ℕ)) → AllByRecursion (Too says other files) names → (ts : List Members) → Named names ts → AllByRecursion (IsWhole says files) ts → AllByRecursion (Same says other files) ts
  all_same names all [] named whole = tt
  all_same names all (t ∷ ts) named whole =
      let device = whole_device says files t whole.0 in
      (same_device names all t named.0 device.0 device.1, all_same names all ts named.1 whole.1)

  same_known : (ts : List Members) → AllByRecursion (Same says other files) ts → map (known_at says files) ts ≡ map (known_at other files) ts
  same_known [] h = refl
  same_known (t ∷ ts) h = rw (h.0, same_known ts h.1) refl

  same_devices : (ts : List Members) → AllByRecursion (Same says other files) ts → filter_map (device_at says files) ts ≡ filter_map (device_at other files) ts
  same_devices [] h = refl
  same_devices (t ∷ ts) h = rw (h.0, same_devices ts h.1) refl

  same_members : (ts : List Members) → AllByRecursion (Same says other files) ts → filter_map (member_at says files) ts ≡ filter_map (member_at other files) ts
  same_members [] h = refl
  same_members (t ∷ ts) h = rw (h.0, same_members ts h.1) refl

  -- a text that is not refused by the one is not by the other
  text_good : (text : List ℕ) → SaysToo says other (Some text) → refused says text ≡ None → refused other text ≡ None
  text_good text too h = by (says text) refl h
    where
      by : (o : Option Device) → says text ≡ o → cond (is_none o) (Some text) None ≡ None → refused other text ≡ None
      by None is e = absurd cc
      by (Some d) is e = ap (λ (o : Option Device). cond (is_none o) (Some text) None) (too d is)

  good_text : (o : Option (List ℕ)) → SaysToo says other o → refused_text says o ≡ None → refused_text other o ≡ None
  good_text None too e = refl
  good_text (Some text) too e = text_good text too e

  good_too : (names : List (List ℕ)) → AllByRecursion (Too says other files) names → refused_in says files names ≡ None → refused_in other files names ≡ None
  good_too [] all h = refl
  good_too (n ∷ names) all h =
      let (here, rest) = neither (refused_text says (text_of files n)) (refused_in says files names) h in
      let first : refused_text other (text_of files n) ≡ None = good_text (text_of files n) all.0 here in
      ap (λ (o : Option (List ℕ)). option_or o (refused_in other files names)) first ∙ good_too names all.1 rest

-- ---- the board

abbrev device_tables : Members → List Members
device_tables t = tables_at (codes "device") t

abbrev net_tables : Members → List Members
net_tables t = tables_at (codes "net") t

abbrev names_in : Members → List (List ℕ)
names_in t = map name_at (device_tables t)

-- the fault of the pins, given what is described of each device
abbrev wire : Limits → Members → List Device → Option Fault
wire l t ds = wire_fault_within l (names_in t) ds (net_tables t)

abbrev wired : List Member → List Net → Wiring
wired members nets = record { members = members; nets = nets }

module _ (a b : Limits) (says other : List ℕ → Option Device) (files : List File) (t : Members) (too : SaysNamed says other files t) (f : Fine b says files t) where
  all_whole_here : AllByRecursion (IsWhole says files) (device_tables t)
  all_whole_here = whole says files t f.keys f.there f.good

  same : AllByRecursion (Same says other files) (device_tables t)
  same = all_same says other files (file_names t) too (device_tables t) (named_from [] (device_tables t)) all_whole_here

  found : devices_of says files (device_tables t) ≡ devices_of other files (device_tables t)
  found = same_devices says other files (device_tables t) same

  same_wiring : wiring_of says files t ≡ wiring_of other files t
  same_wiring =
      ap (λ (ms : List Member). wired ms (map (net_of (names_in t) (devices_of says files (device_tables t))) (net_tables t))) (same_members says other files (device_tables t) same)
      ∙ ap (λ (ds : List Device). wired (filter_map (member_at other files) (device_tables t)) (map (net_of (names_in t) ds) (net_tables t))) found

  no_fault : large_within a (length (names_in t)) (length (net_tables t)) ≡ None → fault_within a other files t ≡ None
  no_fault small =
      let keys : unfit (map (known_at other files) (device_tables t)) t ≡ None = ap (λ (ks : List (Option Known)). unfit ks t) (sym (same_known says other files (device_tables t) same)) ∙ f.keys in
      let good : refused_in other files (file_names t) ≡ None = good_too says other files (file_names t) too f.good in
      let files_fine : file_fault other files (file_names t) ≡ None =
      ap (λ (o : Option (List ℕ)). option_or (option_map UnknownFile o) (option_map Bsdl (refused_in other files (file_names t)))) f.there ∙ ap (option_map Bsdl) good in
      let wire_fine : wire a t (devices_of says files (device_tables t)) ≡ None =
      ap (λ (o : Option (List ℕ)). option_or (option_map UnknownPin o) (option_or (option_map PinTwice (twice_in_nets (names_in t) (devices_of says files (device_tables t)) [] (net_tables t))) (large_within a (length (names_in t)) (length (net_tables t))))) f.known
      ∙ ap (λ (o : Option (List ℕ)). option_or (option_map PinTwice o) (large_within a (length (names_in t)) (length (net_tables t)))) f.once ∙ small in
      let wires : wire a t (devices_of other files (device_tables t)) ≡ None = ap (wire a t) (sym found) ∙ wire_fine in
      ap (λ (o : Option (List ℕ)). option_or (option_map BadField o) (option_or (file_fault other files (file_names t)) (wire a t (devices_of other files (device_tables t))))) keys
      ∙ ap (λ (o : Option Fault). option_or o (wire a t (devices_of other files (device_tables t)))) files_fine ∙ wires

  member_count : length (filter_map (member_at says files) (device_tables t)) ≡ length (names_in t)
  member_count = members_len says files (device_tables t) all_whole_here ∙ sym (length-map (device_tables t) name_at)

  net_count : length (map (net_of (names_in t) (devices_of says files (device_tables t))) (net_tables t)) ≡ length (net_tables t)
  net_count = length-map (net_tables t) (net_of (names_in t) (devices_of says files (device_tables t)))

-- each reader says what it says
itself : (says : List ℕ → Option Device) (files : List File) (names : List (List ℕ)) → AllByRecursion (λ name. SaysToo says says (text_of files name)) names
itself says files [] = tt
itself says files (n ∷ names) = (by (text_of files n), itself says files names)
  where
    by : (o : Option (List ℕ)) → SaysToo says says o
    by None = tt
    by (Some text) = λ d e. e

pub made_within : MadeIsWithin
made_within l says files t w e =
    let r = fine (fault_within l says files t) (wiring_of says files t) w e in
    let f = parts l says files t r.0 in
    let too = itself says files (file_names t) in
    let few = few_of_each l (length (map name_at (tables_at (codes "device") t))) (length (tables_at (codes "net") t)) f.small in
    let made : WiringWithin l (wiring_of says files t) = record {
      devices = omega (arith, member_count l l says says files t too f, few.0);
      nets = omega (arith, net_count l l says says files t too f, few.1);
    } in
    subst (WiringWithin l) r.1 made

pub lies_within : WhatLiesWithinIsMade
lies_within a b says other files t w too e within =
    let r = fine (fault_within b says files t) (wiring_of says files t) w e in
    let f = parts b says files t r.0 in
    let here : WiringWithin a (wiring_of says files t) = subst (WiringWithin a) (sym r.1) within in
    let small = not_large a (length (map name_at (tables_at (codes "device") t))) (length (tables_at (codes "net") t))
    (omega (arith, member_count a b says other files t too f, here.devices)) (omega (arith, net_count a b says other files t too f, here.nets)) in
    ap (λ (o : Option Fault). answer o (wiring_of other files t)) (no_fault a b says other files t too f small)
    ∙ ap (λ (v : Wiring). Ok v) (sym (same_wiring a b says other files t too f) ∙ r.1)
