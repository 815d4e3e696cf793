-- A path whose states are all named is a walk where it has no gap.
use Rattle.std.proofs.Common.{◌≡◌, ℕ, suc, arith, ◌+◌, Bool, true, false, List, [], ◌∷◌, Option, Some, None, refl, sym, ap, subst, ◌∙◌, if◌then◌else◌}
use Rattle.std.specs.Prelude.{option_map, is_some, IfSome, unwrap_or, slice_get, length, ◌-◌}
use Rattle.jt_tap.specs.declared.State.{State}
use Rattle.jt_tap.specs.declared.State.TheVariants.{Reset, Idle, DrSelect, DrCapture, DrShift, DrExit1, DrPause, DrExit2, DrUpdate, IrSelect, IrCapture, IrShift, IrExit1, IrPause, IrExit2, IrUpdate}
use Rattle.jt_tap.specs.Controller.{Arrow, next, entered_by, is_at}
use Rattle.jt_tap.proofs.Arrows.{arrow_of, entered_by_one, next-arrow}
use Rattle.jt_tap.specs.Paths.{last_of}
use Rattle.jt_tap.specs.Stated.{follows, first_gap, IsWalk}

pub same_states : (s t : State) → is_at s t ≡ true → s ≡ t
same_states Reset Reset e = refl
same_states Idle Idle e = refl
same_states DrSelect DrSelect e = refl
same_states DrCapture DrCapture e = refl
same_states DrShift DrShift e = refl
same_states DrExit1 DrExit1 e = refl
same_states DrPause DrPause e = refl
same_states DrExit2 DrExit2 e = refl
same_states DrUpdate DrUpdate e = refl
same_states IrSelect IrSelect e = refl
same_states IrCapture IrCapture e = refl
same_states IrShift IrShift e = refl
same_states IrExit1 IrExit1 e = refl
same_states IrPause IrPause e = refl
same_states IrExit2 IrExit2 e = refl
same_states IrUpdate IrUpdate e = refl
same_states _ _ e = absurd (cc)

pub is_at-refl : (s : State) → is_at s s ≡ true
is_at-refl Reset = refl
is_at-refl Idle = refl
is_at-refl DrSelect = refl
is_at-refl DrCapture = refl
is_at-refl DrShift = refl
is_at-refl DrExit1 = refl
is_at-refl DrPause = refl
is_at-refl DrExit2 = refl
is_at-refl DrUpdate = refl
is_at-refl IrSelect = refl
is_at-refl IrCapture = refl
is_at-refl IrShift = refl
is_at-refl IrExit1 = refl
is_at-refl IrPause = refl
is_at-refl IrExit2 = refl
is_at-refl IrUpdate = refl

pub followed : (s t : State) → follows s t ≡ true → next s (entered_by t) ≡ t
followed s t e = same_states _ _ e

pub following : (s t : State) → next s (entered_by t) ≡ t → follows s t ≡ true
following s t e = ap (λ x. is_at x t) e ∙ is_at-refl t

no_tms : (s t : State) (b : Bool) (o : Option Bool) → o ≡ None → follows s t ≡ b → ((tms : Bool) → Arrow s tms t → o ≡ Some tms) → false ≡ b
no_tms s t false o none is only = refl
no_tms s t true o none is only =
    let some = only (entered_by t) (subst (λ u. Arrow s (entered_by t) u) (followed s t is) (arrow_of s (entered_by t))) in absurd (cc)

-- a state follows another where one edge with some TMS leads there
pub tms_follows : (s t : State) (o : Option Bool) → IfSome o (λ tms. Arrow s tms t) → ((tms : Bool) → Arrow s tms t → o ≡ Some tms)
    → is_some o ≡ follows s t
tms_follows s t (Some tms) found only = sym (following s t (ap (next s) (sym (entered_by_one s tms t found)) ∙ next-arrow s tms t found))
tms_follows s t None found only = no_tms s t (follows s t) None refl refl only

none_more : (o : Option ℕ) → option_map (λ k. k + 1) o ≡ None → o ≡ None
none_more None e = refl
none_more (Some k) e = absurd (cc)

walk_on : (s t : State) (path : List State) (b : Bool) → follows s t ≡ b → (first_gap t path ≡ None → IsWalk t path)
    → (if b then option_map (λ k. k + 1) (first_gap t path) else Some 0) ≡ None → IsWalk s (t ∷ path)
walk_on s t path true f more g = (followed s t f, more (none_more _ g))
walk_on s t path false f more g = absurd (cc)

pub walks : (s : State) (path : List State) → first_gap s path ≡ None → IsWalk s path
walks s [] e = tt
walks s (t ∷ path) e = walk_on s t path (follows s t) refl (λ h. walks t path h) e

pub has_no_gap : (s : State) (path : List State) → IsWalk s path → first_gap s path ≡ None
has_no_gap s [] w = refl
has_no_gap s (t ∷ path) w = rw (following s t w.0, has_no_gap t path w.1) refl

-- where a path ends is its last state, or where it begins if it has none
pub ends_last : (from : State) (path : List State) → last_of from path ≡ unwrap_or (slice_get path (length path - 1)) from
ends_last from [] = refl
ends_last from (s ∷ []) = refl
ends_last from (s ∷ t ∷ path) =
    let one : length (t ∷ path) - 1 ≡ length path = omega arith in
    let two : length (s ∷ t ∷ path) - 1 ≡ suc (length path) = omega arith in
    ends_last s (t ∷ path) ∙ ap (λ i. unwrap_or (slice_get (t ∷ path) i) s) one ∙ within s from t path
    ∙ ap (λ i. unwrap_or (slice_get (s ∷ t ∷ path) i) from) (sym two)
  where
    within : (a b t : State) (path : List State)
        → unwrap_or (slice_get (t ∷ path) (length path)) a ≡ unwrap_or (slice_get (t ∷ path) (length path)) b
    within a b t [] = refl
    within a b t (u ∷ path) = within a b u path
