-- What the code's values stand for.
use Rattle.std.specs.Prelude.{⊤}
use Rattle.std.specs.Prelude.{◌≡◌, ℕ, Bool, true, false, List, map, slice_get, position, bytes_eq, codes, Option}
use Rattle.std.specs.Prelude.{Some, None, option_and_then, Result, Ok, Err}
use Rattle.std.specs.BTreeMap.{BTreeMap, get_by}
use Rattle.std.specs.Cmp.Lexicographic.{slice_cmp}
use Rattle.std.specs.Ordering.{nat_cmp}
use denote.Ref.{Bor}
use Rattle.toml.specs.Data.{Members}
use Rattle.bsdl_device.specs.Device as described
use Rattle.board_tables.specs.Fields.{text_at}
use Rattle.board_parts.specs.declared.library.Unread.{Unread}
use Rattle.board_parts.specs.declared.library.Unread.TheVariants as unread
use Rattle.board_parts.specs.declared.library.Reading.{Reading}
use Rattle.board_parts.specs.declared.library.Reading.TheVariants as reading
use Rattle.board_parts.specs.Files.{File}

-- the files handed in
abbrev pub file_of : Bor (List ℕ) × Bor (List ℕ) → File
file_of f = (f.0.now, f.1.now)

abbrev pub files_of : List (Bor (List ℕ) × Bor (List ℕ)) → List File
files_of fs = map file_of fs

-- ---- descriptions: `says` is the device that a text describes, and `refuses` why a text is refused

-- what reading a description gives
abbrev pub Describes : {F : Type 0} → (List ℕ → Option described.Device) → (List ℕ → F → Type 0) → List ℕ
    → Result described.Device (Unread F) → Type 0
Describes says refuses text (Ok d) = says text ≡ Some d
Describes says refuses text (Err (unread.Refused f)) = (says text ≡ None) × refuses text f
Describes says refuses text (Err unread.Memory) = ⊤

-- what stands in a text, and whether one that was read before it is refused
abbrev pub IsRead : {F : Type 0} → (List ℕ → Option described.Device) → (List ℕ → F → Type 0) → Bool → List ℕ
    → Reading F → Type 0
IsRead says refuses is_refused text reading.Missing = ⊥
IsRead says refuses is_refused text (reading.Refused f) = (says text ≡ None) × refuses text f
IsRead says refuses is_refused text reading.RefusedToo = (says text ≡ None) × (is_refused ≡ true)
IsRead says refuses is_refused text (reading.Described d) = says text ≡ Some d

-- what stands in a file of a text, if there is such a file
abbrev pub IsReading : {F : Type 0} → (List ℕ → Option described.Device) → (List ℕ → F → Type 0) → Bool
    → Option (List ℕ) → Reading F → Type 0
IsReading says refuses is_refused None r = r ≡ reading.Missing
IsReading says refuses is_refused (Some text) r = IsRead says refuses is_refused text r

-- ---- the texts that were read, each with what it describes

abbrev pub known_at : BTreeMap (Bor (List ℕ)) (Option described.Device) → List ℕ → Option (Option described.Device)
known_at known text = get_by (λ k. slice_cmp nat_cmp text k.now) known

abbrev pub AreKnown : (List ℕ → Option described.Device) → BTreeMap (Bor (List ℕ)) (Option described.Device) → Type 0
AreKnown says known = (text : List ℕ) (found : Option described.Device) → known_at known text ≡ Some found
    → says text ≡ found

-- what stands in a text of which that is known, where it need not be read for why it is refused
abbrev pub known_reading : {F : Type 0} → Bool → Option (Option described.Device) → Option (Reading F)
known_reading is_refused (Some (Some d)) = Some (reading.Described d)
known_reading true (Some None) = Some reading.RefusedToo
known_reading false (Some None) = None
known_reading is_refused None = None

-- the device that is described there
abbrev pub device_in : {F : Type 0} → Reading F → Option described.Device
device_in (reading.Described d) = Some d
device_in _ = None

-- the first missing name, after what stands in the file of one more
abbrev pub missing_with : {F : Type 0} → Option (Bor (List ℕ)) → Bor (List ℕ) → Reading F → Option (Bor (List ℕ))
missing_with (Some first) name r = Some first
missing_with None name reading.Missing = Some name
missing_with None name _ = None

-- and the first refusal
abbrev pub refused_with : {F : Type 0} → Option F → Reading F → Option F
refused_with (Some first) r = Some first
refused_with None (reading.Refused f) = Some f
refused_with None _ = None

-- The first refusal so far: it is that of the whole, or what is left has the first of the whole.
abbrev pub IsFirstRefusal : {F : Type 0} → (List ℕ → F → Type 0) → Option F → (left whole : Option (List ℕ)) → Type 0
IsFirstRefusal refuses (Some f) left whole = (text : List ℕ) × (whole ≡ Some text) × refuses text f
IsFirstRefusal refuses None left whole = left ≡ whole

-- what is described of a device, given all names of files and what is described in each
abbrev pub stands_at : List (List ℕ) → List (Option described.Device) → Members → Option described.Device
stands_at names ds t =
    option_and_then (λ d. d)
    (option_and_then (slice_get ds)
    (option_and_then (λ name. position (bytes_eq name) names) (text_at (codes "bsdl") t)))
