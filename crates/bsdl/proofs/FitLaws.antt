-- Each cell of a device fits it.
use Rattle.std.proofs.Common.{◌≡◌, ℕ, zero, suc, Bool, true, false, nat_eq, nat_lt, ◌&&◌, ◌||◌, List, [], ◌∷◌, refl, sym, ap, subst, ◌∙◌, ◌⊎◌, inl, inr, arith}
use Rattle.std.specs.Prelude.{Option, Some, None, Ok, is_none, is_some, not, nat_le, slice_get}
use Rattle.std.specs.List.{list_any}
use Rattle.std.proofs.lemmas.Bool.Decides.{nat_tests}
use Rattle.bsdl_device.specs.Device.{Device}
use Rattle.bsdl_device.specs.Driving.{drives}
use Rattle.bsdl_device.specs.declared.Cell.{Cell}
use Rattle.bsdl_device.specs.declared.Control3.{Control3}
use Rattle.bsdl_device.specs.declared.Function.{Function}
use Rattle.bsdl_device.specs.declared.Function.TheVariants.{Input, Clock, ObserveOnly, Bidir, Output2, Output3, Control, ControlR, Internal}
use Rattle.bsdl_values.specs.CellRows.{CellRow, PortName}
use Rattle.bsdl_lookup.specs.Controls.{is_control}
use Rattle.bsdl_description.specs.Describing.{Description}
use Rattle.bsdl_text.specs.Words.{is_among}
use Rattle.bsdl_rules.specs.Fits.{control_fits, has_no_port, is_control_cell, is_driven_below, names_tap, port_bit, port_fits, row_fits, same_bit}
use Rattle.jt_limits.specs.Limits.{subscript_limit}
use Rattle.bsdl.specs.Boundary.{cell}
use Rattle.bsdl.specs.Built.{device}
use Rattle.bsdl.specs.FitCells.{CellFits, ControlFits, HasFitCells, IsControlCell, IsPinGiven, PortFits}
use Rattle.bsdl.specs.Judging.{fault, text_says}
use Rattle.bsdl.proofs.OnceLaws.{both}
use Rattle.bsdl.proofs.BitLaws.{in_upper, is_found}
use Rattle.bsdl.proofs.CellLaws.{IsAmong, IsCellOf, IsOnlyRow, cell_at, numbered, of_texts, only_row, port_of_fit, row_of}

-- ---- ports

not_true : (b : Bool) → not b ≡ true → b ≡ false
not_true true e = absurd cc
not_true false e = refl

no_port : (d : Description) (r : CellRow) → has_no_port r.function ≡ true → port_fits d r ≡ true → port_bit d r ≡ None
no_port d r inner fits = by_port r.port refl
  where
    by_port : (o : Option PortName) → r.port ≡ o → port_bit d r ≡ None
    by_port None is = rw is refl
    by_port (Some name) is =
        let none : is_none (Some name) ≡ true = rw (inner, is) at fits in
        absurd cc

-- what is judged of a row with a port
record HasPort (d : Description) (r : CellRow) : Type 0 where
  there : is_some (port_bit d r) ≡ true
  no_tap : names_tap d r.port ≡ false
  alone : (drives r.function && is_driven_below d r) ≡ false

has_port : (d : Description) (r : CellRow) → has_no_port r.function ≡ false → port_fits d r ≡ true → HasPort d r
has_port d r outer fits =
    let here : (is_some (port_bit d r) && (not (names_tap d r.port) && not (drives r.function && is_driven_below d r))) ≡ true = rw outer at fits in
    let first = both (is_some (port_bit d r)) (not (names_tap d r.port) && not (drives r.function && is_driven_below d r)) here in
    let second = both (not (names_tap d r.port)) (not (drives r.function && is_driven_below d r)) first.1 in
    record { there = first.0; no_tap = not_true (names_tap d r.port) second.0; alone = not_true (drives r.function && is_driven_below d r) second.1 }

pin_given : (d : Description) (r : CellRow) → has_no_port r.function ≡ false → port_fits d r ≡ true → IsPinGiven (device d).ports (port_bit d r)
pin_given d r outer fits = by_port r.port refl
  where
    judged : HasPort d r
    judged = has_port d r outer fits

    by_port : (o : Option PortName) → r.port ≡ o → IsPinGiven (device d).ports (port_bit d r)
    by_port None is =
        let none : is_some {T = ℕ} None ≡ true = rw is at judged.there in
        absurd cc
    by_port (Some name) is =
        let number = numbered d r name fits is in
        let this = is_found d.taps d.ports name.name name number.0 (in_upper 0 d.ports name number.0 number.1) number.1 in
        let tap : is_among d.taps name.name ≡ false = rw is at judged.no_tap in
        rw (is, number.1) (this.bit, this.at, this.tap ∙ tap)

port_of : (d : Description) (r : CellRow) → port_fits d r ≡ true → PortFits (device d).ports r.function (port_bit d r)
port_of d r fits = by_function r.function refl
  where
    inner : (f : Function) → r.function ≡ f → has_no_port f ≡ true → port_bit d r ≡ None
    inner f is none = no_port d r (ap has_no_port is ∙ none) fits

    outer : (f : Function) → r.function ≡ f → has_no_port f ≡ false → IsPinGiven (device d).ports (port_bit d r)
    outer f is some = pin_given d r (ap has_no_port is ∙ some) fits

    by_function : (f : Function) → r.function ≡ f → PortFits (device d).ports f (port_bit d r)
    by_function Input is = outer Input is refl
    by_function Clock is = outer Clock is refl
    by_function ObserveOnly is = outer ObserveOnly is refl
    by_function Bidir is = outer Bidir is refl
    by_function Output2 is = outer Output2 is refl
    by_function Output3 is = outer Output3 is refl
    by_function Control is = inner Control is refl
    by_function ControlR is = inner ControlR is refl
    by_function Internal is = inner Internal is refl

-- ---- controls

-- an entry that passes
record IsPassed {A : Type 0} (f : A → Bool) (xs : List A) : Type 0 where
  entry : A
  among : IsAmong xs entry
  passes : f entry ≡ true

any_passed : {A : Type 0} (f : A → Bool) (xs : List A) → list_any f xs ≡ true → IsPassed f xs
any_passed f [] any = absurd cc
any_passed f (x ∷ xs) any = by_test (f x) refl (λ there. any_passed f xs there)
  where
    by_test : (b : Bool) → f x ≡ b → (list_any f xs ≡ true → IsPassed f xs) → IsPassed f (x ∷ xs)
    by_test true is rest = record { entry = x; among = (0, refl); passes = is }
    by_test false is rest =
        let there : list_any f xs ≡ true = rw is at any in
        let this = rest there in
        record { entry = this.entry; among = (suc this.among.0, this.among.1); passes = this.passes }

control_cell : (d : Description) → fault d ≡ None → (n : ℕ) → is_control_cell d n ≡ true → IsControlCell (device d).cells n
control_cell d e n is =
    let any = (both (nat_le n subscript_limit) (list_any (λ s. nat_eq s.number n && is_control s.function) d.cells) is).1 in
    let this = any_passed (λ s. nat_eq s.number n && is_control s.function) d.cells any in
    let s = this.entry in
    let passes = both (nat_eq s.number n) (is_control s.function) this.passes in
    let place : s.number ≡ n = grind (arith, nat_tests, passes.0) in
    let row = only_row d e this.among.0 s this.among.1 in
    (cell d.ports s, ap (slice_get (device d).cells) (sym place) ∙ cell_at d e s.number row.0 s row.1.only, passes.1)

control_of : (d : Description) → fault d ≡ None → (r : CellRow) → control_fits d r.number r.function r.control ≡ true → ControlFits (device d).cells r.number r.function (cell d.ports r).control
control_of d e r fits = by_function r.function refl r.control refl
  where
    own : (c : Control3) → (nat_eq c.cell r.number || is_control_cell d c.cell) ≡ true → (c.cell ≡ r.number) ⊎ IsControlCell (device d).cells c.cell
    own c any = by_test (nat_eq c.cell r.number) refl
      where
        by_test : (b : Bool) → nat_eq c.cell r.number ≡ b → (c.cell ≡ r.number) ⊎ IsControlCell (device d).cells c.cell
        by_test true is =
            let place : c.cell ≡ r.number = grind (arith, nat_tests, is) in
            inl place
        by_test false is =
            let there : is_control_cell d c.cell ≡ true = rw is at any in
            inr (control_cell d e c.cell there)

    by_function : (f : Function) → r.function ≡ f → (o : Option Control3) → r.control ≡ o → ControlFits (device d).cells r.number r.function (cell d.ports r).control
    by_function Output3 is None none =
        let refused : false ≡ true = rw (is, none) at fits in
        absurd cc
    by_function Output3 is (Some c) some =
        let fit : is_control_cell d c.cell ≡ true = rw (is, some) at fits in
        rw (is, some) (control_cell d e c.cell fit)
    by_function Bidir is None none =
        let refused : false ≡ true = rw (is, none) at fits in
        absurd cc
    by_function Bidir is (Some c) some =
        let fit : is_control_cell d c.cell ≡ true = rw (is, some) at fits in
        rw (is, some) (control_cell d e c.cell fit)
    by_function Output2 is None none = rw (is, none) tt
    by_function Output2 is (Some c) some =
        let any : (nat_eq c.cell r.number || is_control_cell d c.cell) ≡ true = rw (is, some) at fits in
        rw (is, some) (own c any)
    by_function Input is o at = rw is refl
    by_function Clock is o at = rw is refl
    by_function ObserveOnly is o at = rw is refl
    by_function Control is o at = rw is refl
    by_function ControlR is o at = rw is refl
    by_function Internal is o at = rw is refl

-- ---- drivers

none_passes : {A : Type 0} (f : A → Bool) (xs : List A) → list_any f xs ≡ false → (j : ℕ) (x : A) → slice_get xs j ≡ Some x → f x ≡ false
none_passes f [] none j x at = absurd cc
none_passes f (y ∷ xs) none j x at = by_test (f y) refl j at (λ fails i there. none_passes f xs fails i x there)
  where
    by_test : (b : Bool) → f y ≡ b → (j : ℕ) → slice_get (y ∷ xs) j ≡ Some x → (list_any f xs ≡ false → (i : ℕ) → slice_get xs i ≡ Some x → f x ≡ false) → f x ≡ false
    by_test true is j at rest =
        let wrong : true ≡ false = rw is at none in
        absurd cc
    by_test false is zero at rest =
        let same : y ≡ x = cc in
        ap f (sym same) ∙ is
    by_test false is (suc j) at rest =
        let fails : list_any f xs ≡ false = rw is at none in
        rest fails j at

drives_outer : (f : Function) → drives f ≡ true → has_no_port f ≡ false
drives_outer Input is = absurd cc
drives_outer Clock is = absurd cc
drives_outer ObserveOnly is = absurd cc
drives_outer Bidir is = refl
drives_outer Output2 is = refl
drives_outer Output3 is = refl
drives_outer Control is = absurd cc
drives_outer ControlR is = absurd cc
drives_outer Internal is = absurd cc

same_bits : (a b : Option ℕ) → a ≡ b → is_some b ≡ true → same_bit a b ≡ true
same_bits a None e some = absurd cc
same_bits a (Some k) e some = rw e (grind (arith, nat_tests))

-- of two rows that drive one port bit the lower does not drive below the higher
not_below : (d : Description) (r s : CellRow) → IsAmong d.cells r → row_fits d s ≡ true → drives r.function ≡ true → drives s.function ≡ true → port_bit d r ≡ port_bit d s → nat_lt r.number s.number ≡ false
not_below d r s among fits drives_r drives_s same =
    let port = has_port d s (drives_outer s.function drives_s) (port_of_fit d s fits) in
    let none : is_driven_below d s ≡ false = rw drives_s at port.alone in
    let fails = none_passes (λ q. nat_lt q.number s.number && (drives q.function && same_bit (port_bit d q) (port_bit d s))) d.cells none among.0 r among.1 in
    by_test (nat_lt r.number s.number) refl fails (same_bits (port_bit d r) (port_bit d s) same port.there)
  where
    by_test : (b : Bool) → nat_lt r.number s.number ≡ b → (nat_lt r.number s.number && (drives r.function && same_bit (port_bit d r) (port_bit d s))) ≡ false → same_bit (port_bit d r) (port_bit d s) ≡ true → nat_lt r.number s.number ≡ false
    by_test false is fails here = is
    by_test true is fails here =
        let wrong : true ≡ false = rw (is, drives_r, here) at fails in
        absurd cc

one_driver : (d : Description) (r s : CellRow) (j k : ℕ) → IsOnlyRow d j r → IsOnlyRow d k s → drives r.function ≡ true → drives s.function ≡ true → port_bit d r ≡ port_bit d s → j ≡ k
one_driver d r s j k row_r row_s drives_r drives_s same =
    let one = not_below d r s row_r.among row_s.fits drives_r drives_s same in
    let two = not_below d s r row_s.among row_r.fits drives_s drives_r (sym same) in
    let numbers : r.number ≡ s.number = grind (arith, nat_tests, one, two) in
    sym row_r.number ∙ numbers ∙ row_s.number

-- ---- the whole

cell_of : (d : Description) → fault d ≡ None → (k : ℕ) (c : Cell) (r : CellRow) → IsCellOf d k c r → CellFits (device d) k c
cell_of d e k c r this =
    let fits = both (port_fits d r) (control_fits d r.number r.function r.control) this.row.fits in
    let its : CellFits (device d) r.number (cell d.ports r) = record { port = port_of d r fits.0; control = control_of d e r fits.1 } in
    subst (λ (b : Cell). CellFits (device d) k b) (sym this.cell_is) (subst (λ (n : ℕ). CellFits (device d) n (cell d.ports r)) this.row.number its)

has_fit_cells : (d : Description) → fault d ≡ None → HasFitCells (device d)
has_fit_cells d e = record {
  each = λ k c at.
      let this = row_of d e k c at in
      cell_of d e k c this.0 this.1;
  drivers = λ j k b c at_j at_k drives_b drives_c same.
      let one = row_of d e j b at_j in
      let two = row_of d e k c at_k in
      let function_b : b.function ≡ one.0.function = ap (λ (x : Cell). x.function) one.1.cell_is in
      let function_c : c.function ≡ two.0.function = ap (λ (x : Cell). x.function) two.1.cell_is in
      let port_b : b.port ≡ port_bit d one.0 = ap (λ (x : Cell). x.port) one.1.cell_is in
      let port_c : c.port ≡ port_bit d two.0 = ap (λ (x : Cell). x.port) two.1.cell_is in
      one_driver d one.0 two.0 j k one.1.row two.1.row (ap drives (sym function_b) ∙ drives_b) (ap drives (sym function_c) ∙ drives_c) (sym port_b ∙ same ∙ port_c);
}

pub every_device : (text : List ℕ) (v : Device) → text_says text ≡ Ok v → HasFitCells v
every_device text v e = (of_texts (λ d u. HasFitCells u) has_fit_cells text v e).2
