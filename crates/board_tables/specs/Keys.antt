-- The keys of the board file's tables, and the first one in byte order that is missing, unknown or does not fit.
use Rattle.std.specs.Prelude.{◌≡◌, ℕ, Bool, true, false, not, ◌&&◌, ◌||◌, ◌==◌, List, [], ◌∷◌, ◌++◌, length, filter}
use Rattle.std.specs.Prelude.{fold, map, codes, bytes_eq, Option, Some, None, is_some, option_map, if◌then◌else◌}
use Rattle.std.specs.List.{list_any, list_all}
use Rattle.std.specs.Ordering.{nat_cmp, is_lt}
use Rattle.std.specs.Cmp.Lexicographic.{slice_cmp}
use Rattle.toml.specs.Data.{Data, Members, no_members, member, get_member}
use Rattle.board_tables.specs.Names.{is_name}
use Rattle.board_tables.specs.FollowTexts.{follow_of}
use Rattle.board_tables.specs.declared.keys.Known.{Known}
use Rattle.board_tables.specs.Fields.{is_text, is_text_that, is_one_of, is_table, is_array_of, is_some_of}

-- a key of a table: whether it must stand there, and which values fit it
pub record Key : Type 0 where
  pub name : List ℕ
  pub is_needed : Bool
  pub fits : Data → Bool

-- ---- the board file's keys

-- the file itself: its devices, at least one, and its nets
abbrev pub top_keys : List Key
top_keys =
    record { name = codes "device"; is_needed = true; fits = is_some_of is_table }
    ∷ record { name = codes "net"; is_needed = false; fits = is_array_of is_table }
    ∷ []

-- a name that none of these is
abbrev pub is_new_name : List (List ℕ) → Data → Bool
is_new_name names d = is_text_that (λ s. is_name s && not (list_any (bytes_eq s) names)) d

-- the digits `0` and `1`
abbrev pub zero_digit : ℕ
zero_digit = 48

abbrev pub one_digit : ℕ
one_digit = 49

abbrev pub is_bit : ℕ → Bool
is_bit c = c == zero_digit || c == one_digit

-- as many bits as the device has cells, where they are known
abbrev pub fits_cells : Option ℕ → List ℕ → Bool
fits_cells None s = true
fits_cells (Some n) s = length s == n

abbrev pub is_core : Option ℕ → Data → Bool
is_core cells d = is_text_that (λ s. list_all is_bit s && fits_cells cells s) d

-- a text that spells a string
abbrev pub is_string : Data → Bool
is_string d = is_text_that (λ s. is_some (follow_of s)) d

-- whether the strings fit the device, where it is known
abbrev pub strings_fit : Option Known → Bool
strings_fit None = true
strings_fit (Some known) = known.strings_fit

abbrev pub is_follow : Option Known → Data → Bool
is_follow known d = is_array_of is_string d && strings_fit known

-- a device, with the names before it, and what is known of it where its description is there
abbrev pub device_keys : List (List ℕ) → Option Known → List Key
device_keys names known =
    record { name = codes "bsdl"; is_needed = true; fits = is_text }
    ∷ record { name = codes "core"; is_needed = false; fits = is_core (option_map (λ (k : Known). k.cells) known) }
    ∷ record { name = codes "extest"; is_needed = false; fits = is_one_of (codes "core" ∷ codes "update" ∷ []) }
    ∷ record { name = codes "follow"; is_needed = false; fits = is_follow known }
    ∷ record { name = codes "name"; is_needed = true; fits = is_new_name names }
    ∷ []

-- a net, with the names before it
abbrev pub net_keys : List (List ℕ) → List Key
net_keys names =
    record { name = codes "name"; is_needed = true; fits = is_new_name names }
    ∷ record { name = codes "pins"; is_needed = true; fits = is_array_of is_text }
    ∷ record {
      name = codes "pull";
      is_needed = false;
      fits = is_one_of (codes "up" ∷ codes "down" ∷ codes "none" ∷ []);
    }
    ∷ []

-- ---- which key is at fault

-- a key that is none of these fits nothing
abbrev pub fits_one : List Key → List ℕ → Data → Bool
fits_one [] k d = false
fits_one (key ∷ keys) k d = if bytes_eq k key.name then key.fits d else fits_one keys k d

-- the keys given that are unknown or have a value that does not fit
abbrev pub misfits : (List ℕ → Data → Bool) → Members → List (List ℕ)
misfits fits no_members = []
misfits fits (member k d ms) = if fits k d then misfits fits ms else k ∷ misfits fits ms

-- the keys that must stand in a table
abbrev pub needed : List Key → List (List ℕ)
needed keys = map (λ key. key.name) (filter (λ key. key.is_needed) keys)

-- those of them that are not given
abbrev pub missing : List (List ℕ) → Members → List (List ℕ)
missing names t = filter (λ k. not (is_some (get_member k t))) names

-- of two keys the first in byte order
abbrev pub earlier : Option (List ℕ) → List ℕ → Option (List ℕ)
earlier None k = Some k
earlier (Some l) k = if is_lt (slice_cmp nat_cmp k l) then Some k else Some l

-- the first in byte order
abbrev pub earliest : List (List ℕ) → Option (List ℕ)
earliest ks = fold earlier None ks

-- the first key in byte order that is at fault in a table
abbrev pub unfit_key : List Key → Members → Option (List ℕ)
unfit_key keys t = earliest (misfits (fits_one keys) t ++ missing (needed keys) t)

-- ---- a device without the key `follow`

abbrev pub keys_but_follow : List (List ℕ) → Option Known → List Key
keys_but_follow names known = filter (λ key. not (bytes_eq (codes "follow") key.name)) (device_keys names known)

-- the law: a table without the key is judged by the other keys alone
abbrev pub JudgedByOtherKeys : Type 0
JudgedByOtherKeys = (names : List (List ℕ)) (known : Option Known) (t : Members) → get_member (codes "follow") t ≡ None
    → unfit_key (device_keys names known) t ≡ unfit_key (keys_but_follow names known) t
