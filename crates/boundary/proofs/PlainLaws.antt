-- The cells without a control, by their mask.
use Rattle.std.proofs.Common.{◌≡◌, ℕ, Bool, true, false, List, Option, Some, None, option_map, unwrap_or, slice_get, refl, sym, ap, ◌∙◌}
use Rattle.std.proofs.lemmas.Option.{slice_get-map}
use Rattle.jt_bits.specs.Words.{bit_of}
use Rattle.bsdl_device.specs.declared.Cell.{Cell}
use Rattle.bsdl_device.specs.declared.Control3.{Control3}
use Rattle.pin_nets.specs.declared.Drive.{Drive}
use Rattle.pin_nets.specs.declared.Drive.TheVariants.{Strong, Nothing}
use Rattle.boundary.specs.Cells.{cell_drive, drive_of_driver}
use Rattle.boundary.specs.Plain.{has_no_control, plain_cells}

abbrev pub is_marked : List Cell → ℕ → Bool
is_marked cells k = unwrap_or (option_map (λ (c : Cell). has_no_control c.control) (slice_get cells k)) false

pub marked : (cells : List Cell) (plain : List Bool) (k : ℕ) → plain ≡ plain_cells cells → bit_of plain k ≡ is_marked cells k
marked cells plain k is =
    ap (λ (l : List Bool). bit_of l k) is
    ∙ ap (λ (o : Option Bool). unwrap_or o false) (slice_get-map (λ (c : Cell). has_no_control c.control) cells k)

pub no : false ≡ true → ⊥
no e = cc

own-bit : (bits : List Bool) (k : ℕ) (control : Option Control3) → has_no_control control ≡ true → cell_drive bits k control ≡ Strong (bit_of bits k)
own-bit bits k None is = refl
own-bit bits k (Some t) is = absurd (no is)

pub strong : (bits : List Bool) (cells : List Cell) (k : ℕ) → is_marked cells k ≡ true → drive_of_driver bits (Some k) cells ≡ Strong (bit_of bits k)
strong bits cells k is = by (slice_get cells k) refl
  where
    its : Option Cell → Drive
    its None = Nothing
    its (Some c) = cell_drive bits k c.control

    by : (o : Option Cell) → slice_get cells k ≡ o → its (slice_get cells k) ≡ Strong (bit_of bits k)
    by None at = absurd (no (sym (ap (λ (o : Option Cell). unwrap_or (option_map (λ (c : Cell). has_no_control c.control) o) false) at) ∙ is))
    by (Some c) at = ap its at ∙ (own-bit bits k c.control (sym (ap (λ (o : Option Cell). unwrap_or (option_map (λ (c : Cell). has_no_control c.control) o) false) at) ∙ is))
