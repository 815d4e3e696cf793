-- What pins can make together, each by something that it can drive.
use Rattle.std.specs.Prelude.{⊤}
use Rattle.std.proofs.Common.{◌≡◌, Bool, true, false, not, ◌&&◌, ◌||◌, ℕ, List, [], ◌∷◌, map, slice_get, Option, Some, None, if◌then◌else◌, refl, sym, ap, subst, ◌∙◌, ◌⊎◌, inl, inr}
use Rattle.std.specs.List.{list_any}
use Rattle.std.proofs.lemmas.Bool.{and_parts, false≢true}
use Rattle.pin_nets.specs.declared.Drive.{Drive}
use Rattle.pin_nets.specs.declared.Drive.TheVariants.{Strong, Weak, Nothing}
use Rattle.pin_nets.specs.declared.Pin.{Pin}
use Rattle.pin_nets.specs.Levels.{is_strong, is_weak}
use Rattle.bsdl_device.specs.declared.Cell.{Cell}
use Rattle.bsdl_device.specs.declared.Control3.{Control3}
use Rattle.boundary.specs.Cells.{driver_from}
use Rattle.board_plan.specs.Planned.{Member}
use Rattle.board_model.specs.Following.{IsAmong}
use Rattle.board_faults.specs.declared.together.Driven.{Driven}
use Rattle.board_faults.specs.Sight.{CanDrive, drives_at, drives_by, drives_of, pin_drives}
use Rattle.board_faults.specs.Together.{all_can, can_make, driven, sight_at, sight_of_pin}
use Rattle.board_faults.proofs.Driving.{among_any, any_found}

-- ---- what a pin can drive, each by itself

can_is : (ms : List Member) (pin : Pin) → (sight_of_pin ms pin).can ≡ driven (pin_drives ms pin)
can_is ms pin = by (slice_get ms pin.device)
  where
    by : (o : Option Member) → (sight_at pin.port o).can ≡ driven (drives_at pin.port o)
    by None = refl
    by (Some m) = refl

pub nothing_by : (cells : List Cell) (o : Option ℕ) → IsAmong Nothing (drives_by cells o)
nothing_by cells None = inl refl
nothing_by cells (Some k) = by (slice_get cells k)
  where
    by : (c : Option Cell) → IsAmong Nothing (elim c [ None ↦ Nothing ∷ [] | Some c ↦ drives_of k c.control ])
    by None = inl refl
    by (Some c) = of c.control
      where
        of : (t : Option Control3) → IsAmong Nothing (drives_of k t)
        of None = inl refl
        of (Some t) = inl refl

-- every pin can drive nothing
pub nothing_among : (ms : List Member) (pin : Pin) → IsAmong Nothing (pin_drives ms pin)
nothing_among ms pin = by (slice_get ms pin.device)
  where
    by : (o : Option Member) → IsAmong Nothing (drives_at pin.port o)
    by None = inl refl
    by (Some m) = nothing_by m.device.cells (driver_from pin.port 0 m.device.cells)

-- ---- whatever is driven can be made

or-right : (a b : Bool) → b ≡ true → (a || b) ≡ true
or-right true b e = refl
or-right false b e = e

or-left : (a b : Bool) → a ≡ true → (a || b) ≡ true
or-left a b e = ap (λ (x : Bool). x || b) e

and-both : (a b : Bool) → a ≡ true → b ≡ true → (a && b) ≡ true
and-both a b p q = λ i. p i && q i

keeps : (o : Driven) (os : List Driven) (f : Driven) → can_make os f ≡ true → can_make (o ∷ os) f ≡ true
keeps o os f e =
    or-right (if f.zero then o.zero && can_make os (record f { zero = false }) else false) _
    (or-right (if f.one then o.one && can_make os (record f { one = false }) else false) _
    (or-right (if f.weak then o.weak && can_make os (record f { weak = false }) else false) _ e))

adds-zero : (o : Driven) (os : List Driven) (f : Driven) → o.zero ≡ true → can_make os f ≡ true → can_make (o ∷ os) (record f { zero = true }) ≡ true
adds-zero o os f can e = by f.zero refl
  where
    by : (b : Bool) → f.zero ≡ b → can_make (o ∷ os) (record f { zero = true }) ≡ true
    by true z = keeps o os (record f { zero = true }) (subst (λ (g : Driven). can_make os g ≡ true) (λ i. record f { zero = z i }) e)
    by false z =
        or-left _ _ (and-both o.zero (can_make os (record f { zero = false })) can
        (subst (λ (g : Driven). can_make os g ≡ true) (λ i. record f { zero = z i }) e))

adds-one : (o : Driven) (os : List Driven) (f : Driven) → o.one ≡ true → can_make os f ≡ true → can_make (o ∷ os) (record f { one = true }) ≡ true
adds-one o os f can e = by f.one refl
  where
    by : (b : Bool) → f.one ≡ b → can_make (o ∷ os) (record f { one = true }) ≡ true
    by true z = keeps o os (record f { one = true }) (subst (λ (g : Driven). can_make os g ≡ true) (λ i. record f { one = z i }) e)
    by false z =
        or-right (if f.zero then o.zero && can_make os (record f { zero = false; one = true }) else false) _
        (or-left _ _ (and-both o.one (can_make os (record f { one = false })) can
        (subst (λ (g : Driven). can_make os g ≡ true) (λ i. record f { one = z i }) e)))

adds-weak : (o : Driven) (os : List Driven) (f : Driven) → o.weak ≡ true → can_make os f ≡ true → can_make (o ∷ os) (record f { weak = true }) ≡ true
adds-weak o os f can e = by f.weak refl
  where
    by : (b : Bool) → f.weak ≡ b → can_make (o ∷ os) (record f { weak = true }) ≡ true
    by true z = keeps o os (record f { weak = true }) (subst (λ (g : Driven). can_make os g ≡ true) (λ i. record f { weak = z i }) e)
    by false z =
        or-right (if f.zero then o.zero && can_make os (record f { zero = false; weak = true }) else false) _
        (or-right (if f.one then o.one && can_make os (record f { one = false; weak = true }) else false) _
        (or-left _ _ (and-both o.weak (can_make os (record f { weak = false })) can
        (subst (λ (g : Driven). can_make os g ≡ true) (λ i. record f { weak = z i }) e))))

one-more : (xs : List Drive) (d : Drive) (os : List Driven) (f : Driven) → IsAmong d xs → can_make os f ≡ true
    → (f' : Driven) → f' ≡ (record {
      zero = is_strong false d || f.zero;
      one = is_strong true d || f.one;
      weak = is_weak false d || f.weak;
    }) → can_make (driven xs ∷ os) f' ≡ true
one-more xs (Strong false) os f among e f' is =
    subst (λ (g : Driven). can_make (driven xs ∷ os) g ≡ true) (sym is) (adds-zero (driven xs) os f (among_any (is_strong false) (Strong false) xs among refl) e)
one-more xs (Strong true) os f among e f' is =
    subst (λ (g : Driven). can_make (driven xs ∷ os) g ≡ true) (sym is) (adds-one (driven xs) os f (among_any (is_strong true) (Strong true) xs among refl) e)
one-more xs (Weak false) os f among e f' is =
    subst (λ (g : Driven). can_make (driven xs ∷ os) g ≡ true) (sym is) (adds-weak (driven xs) os f (among_any (is_weak false) (Weak false) xs among refl) e)
one-more xs (Weak true) os f among e f' is =
    subst (λ (g : Driven). can_make (driven xs ∷ os) g ≡ true) (sym is) (keeps (driven xs) os f e)
one-more xs Nothing os f among e f' is =
    subst (λ (g : Driven). can_make (driven xs ∷ os) g ≡ true) (sym is) (keeps (driven xs) os f e)

pub what_is_driven : (ms : List Member) (drives : Pin → Drive) → CanDrive ms drives → (pins : List Pin)
    → can_make (all_can ms pins) (driven (map drives pins)) ≡ true
what_is_driven ms drives can [] = refl
what_is_driven ms drives can (p ∷ ps) =
    subst (λ (o : Driven). can_make (o ∷ all_can ms ps) (driven (map drives (p ∷ ps))) ≡ true) (sym (can_is ms p))
    (one-more (pin_drives ms p) (drives p) (all_can ms ps) (driven (map drives ps)) (can p) (what_is_driven ms drives can ps)
    (driven (map drives (p ∷ ps))) refl)

-- ---- whatever can be made is driven so

-- each of the pins can drive the one at its place
abbrev pub AllFrom : List Member → List Pin → List Drive → Type 0
AllFrom ms [] [] = ⊤
AllFrom ms (p ∷ ps) (d ∷ ds) = IsAmong d (pin_drives ms p) × AllFrom ms ps ds
AllFrom ms _ _ = ⊥

pub record Made (ms : List Member) (pins : List Pin) (f : Driven) : Type 0 where
  pub drives : List Drive
  pub each : AllFrom ms pins drives
  pub makes : driven drives ≡ f

strong-is : (b : Bool) (d : Drive) → is_strong b d ≡ true → d ≡ Strong b
strong-is true (Strong true) e = refl
strong-is true (Strong false) e = absurd (false≢true e)
strong-is true (Weak w) e = absurd (false≢true e)
strong-is true Nothing e = absurd (false≢true e)
strong-is false (Strong true) e = absurd (false≢true e)
strong-is false (Strong false) e = refl
strong-is false (Weak w) e = absurd (false≢true e)
strong-is false Nothing e = absurd (false≢true e)

weak-is : (d : Drive) → is_weak false d ≡ true → d ≡ Weak false
weak-is (Strong b) e = absurd (false≢true e)
weak-is (Weak true) e = absurd (false≢true e)
weak-is (Weak false) e = refl
weak-is Nothing e = absurd (false≢true e)

found-is : (t : Drive → Bool) (d : Drive) (xs : List Drive) → ((x : Drive) → t x ≡ true → x ≡ d) → list_any t xs ≡ true → IsAmong d xs
found-is t d xs one e = let f = any_found t xs e in subst (λ (x : Drive). IsAmong x xs) (one f.x f.is) f.among

if-parts : (c b : Bool) → (if c then b else false) ≡ true → (c ≡ true) × (b ≡ true)
if-parts true b e = (refl, e)
if-parts false b e = absurd (false≢true e)

or-parts : (a b : Bool) → (a || b) ≡ true → (a ≡ true) ⊎ (b ≡ true)
or-parts true b e = inl refl
or-parts false b e = inr e

none-driven : (f : Driven) → not (f.zero || (f.one || f.weak)) ≡ true → driven [] ≡ f
none-driven f e = by f.zero f.one f.weak e
  where
    by : (z o w : Bool) → not (z || (o || w)) ≡ true → driven [] ≡ record { zero = z; one = o; weak = w }
    by false false false e = refl
    by true o w e = absurd (false≢true e)
    by false true w e = absurd (false≢true e)
    by false false true e = absurd (false≢true e)

-- one pin before others, what these can make being driven so
module _ (ms : List Member) (p : Pin) (ps : List Pin) (f : Driven) (later : (g : Driven) → can_make (all_can ms ps) g ≡ true → Made ms ps g) where
  abbrev can : Driven
  can = (sight_of_pin ms p).can

  abbrev rest : Driven → Bool
  rest g = can_make (all_can ms ps) g

  with-drive : (d : Drive) (g : Driven) → IsAmong d (pin_drives ms p) → rest g ≡ true → (f ≡ record {
    zero = is_strong false d || g.zero;
    one = is_strong true d || g.one;
    weak = is_weak false d || g.weak;
  }) → Made ms (p ∷ ps) f
  with-drive d g among h is =
      let made = later g h in
      record {
        drives = d ∷ made.drives;
        each = (among, made.each);
        makes = (λ i. record {
          zero = is_strong false d || (made.makes i).zero;
          one = is_strong true d || (made.makes i).one;
          weak = is_weak false d || (made.makes i).weak;
        }) ∙ sym is;
      }

  by-weak : ((if f.weak then can.weak && rest (record f { weak = false }) else false) ≡ true) ⊎ (rest f ≡ true) → Made ms (p ∷ ps) f
  by-weak (inl e) =
      let parts = if-parts f.weak _ e in
      let both = and_parts can.weak (rest (record f { weak = false })) parts.1 in
      with-drive (Weak false) (record f { weak = false })
      (found-is (is_weak false) (Weak false) (pin_drives ms p) weak-is (sym (ap (λ (d : Driven). d.weak) (can_is ms p)) ∙ both.0)) both.1
      (λ i. record f { weak = parts.0 i })
  by-weak (inr e) = with-drive Nothing f (nothing_among ms p) e refl

  by-one : ((if f.one then can.one && rest (record f { one = false }) else false) ≡ true)
      ⊎ (((if f.weak then can.weak && rest (record f { weak = false }) else false) || rest f) ≡ true) → Made ms (p ∷ ps) f
  by-one (inl e) =
      let parts = if-parts f.one _ e in
      let both = and_parts can.one (rest (record f { one = false })) parts.1 in
      with-drive (Strong true) (record f { one = false })
      (found-is (is_strong true) (Strong true) (pin_drives ms p) (strong-is true) (sym (ap (λ (d : Driven). d.one) (can_is ms p)) ∙ both.0)) both.1
      (λ i. record f { one = parts.0 i })
  by-one (inr e) = by-weak (or-parts (if f.weak then can.weak && rest (record f { weak = false }) else false) _ e)

  by-zero : ((if f.zero then can.zero && rest (record f { zero = false }) else false) ≡ true)
      ⊎ (((if f.one then can.one && rest (record f { one = false }) else false)
      || ((if f.weak then can.weak && rest (record f { weak = false }) else false) || rest f)) ≡ true) → Made ms (p ∷ ps) f
  by-zero (inl e) =
      let parts = if-parts f.zero _ e in
      let both = and_parts can.zero (rest (record f { zero = false })) parts.1 in
      with-drive (Strong false) (record f { zero = false })
      (found-is (is_strong false) (Strong false) (pin_drives ms p) (strong-is false) (sym (ap (λ (d : Driven). d.zero) (can_is ms p)) ∙ both.0)) both.1
      (λ i. record f { zero = parts.0 i })
  by-zero (inr e) = by-one (or-parts (if f.one then can.one && rest (record f { one = false }) else false) _ e)

  made-more : can_make (all_can ms (p ∷ ps)) f ≡ true → Made ms (p ∷ ps) f
  made-more e = by-zero (or-parts (if f.zero then can.zero && rest (record f { zero = false }) else false) _ e)

pub what_can_be_made : (ms : List Member) (pins : List Pin) (f : Driven) → can_make (all_can ms pins) f ≡ true → Made ms pins f
what_can_be_made ms [] f e = record { drives = []; each = tt; makes = none-driven f e }
what_can_be_made ms (p ∷ ps) f e = made-more ms p ps f (λ g h. what_can_be_made ms ps g h) e
