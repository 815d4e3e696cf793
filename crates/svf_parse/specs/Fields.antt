-- The fields of a scan.
use Rattle.std.specs.Prelude.{ℕ, if◌then◌else◌, List, [], ◌∷◌, ◌++◌, Option, Some, None, option_and_then}
use Rattle.svf_words.specs.declared.keywords.FieldName.{FieldName}
use Rattle.svf_words.specs.declared.keywords.FieldName.TheVariants.{Tdi, Tdo, Mask, Smask}
use Rattle.svf_words.specs.Words.{Word, is_open, is_close}
use Rattle.svf_words.specs.Keywords.{field_of}

infixl 10 ◌>>?◌
abbrev pub ◌>>?◌ : {A B : Type 0} → Option A → (A → Option B) → Option B
o >>? f = option_and_then f o

-- the hexadecimal digits of each field that is given
pub record Fields : Type 0 where
  pub tdi : Option (List ℕ)
  pub tdo : Option (List ℕ)
  pub mask : Option (List ℕ)
  pub smask : Option (List ℕ)

abbrev pub no_fields : Fields
no_fields = record { tdi = None; tdo = None; mask = None; smask = None }

-- a field given a second time is refused
abbrev pub if_none : {A : Type 0} → Option (List ℕ) → A → Option A
if_none None x = Some x
if_none (Some y) x = None

abbrev pub put : FieldName → List ℕ → Fields → Option Fields
put Tdi h fs = if_none fs.tdi (record fs { tdi = Some h })
put Tdo h fs = if_none fs.tdo (record fs { tdo = Some h })
put Mask h fs = if_none fs.mask (record fs { mask = Some h })
put Smask h fs = if_none fs.smask (record fs { smask = Some h })

-- words, cut at each `)`
pub data Closed : Type 0 where
  over : List Word → Closed
  closing : List Word → Closed → Closed

abbrev pub before_close : Word → Closed → Closed
before_close w (over ws) = over (w ∷ ws)
before_close w (closing ws rest) = closing (w ∷ ws) rest

unfoldable pub cut_at_close : List Word → Closed
cut_at_close [] = over []
cut_at_close (w ∷ ws) = if is_close w then closing [] (cut_at_close ws) else before_close w (cut_at_close ws)

-- runs, joined
abbrev pub joined_digits : List Word → Option (List ℕ)
joined_digits [] = Some []
joined_digits (w ∷ ws) = if is_open w then None else joined_digits ws >>? λ h. Some (w ++ h)

-- the runs up to `)`, joined, and what stands after it
abbrev pub runs : Closed → Option (List ℕ × Closed)
runs (over ws) = None
runs (closing ws rest) = joined_digits ws >>? λ h. Some (h, rest)

-- the same behind `(`
abbrev pub bracket : Closed → Option (List ℕ × Closed)
bracket (over ws) = None
bracket (closing [] rest) = None
bracket (closing (w ∷ ws) rest) = if is_open w then runs (closing ws rest) else None

-- fields, one after another
unfoldable pub fields_say : Fields → Closed → Option Fields
fields_say fs (over []) = Some fs
fields_say fs (over (w ∷ ws)) = None
fields_say fs (closing [] rest) = None
fields_say fs (closing (w ∷ []) rest) = None
fields_say fs (closing (w ∷ x ∷ ws) rest) =
    field_of w >>? λ f. (if is_open x then joined_digits ws else None) >>? λ h. put f h fs >>? λ gs. fields_say gs rest
