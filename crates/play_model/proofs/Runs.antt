-- Runs of events, whatever the player.
use Rattle.std.proofs.Common.{◌≡◌, Bool, true, false, ◌||◌, ◌&&◌, ℕ, List, [], ◌∷◌, ◌++◌, refl, sym, ap, ◌∙◌, arith}
use Rattle.std.specs.Prelude.{if◌then◌else◌}
use Rattle.std.specs.List.{list_any}
use Rattle.play_model.specs.Events.{Event, Put, Serve, Take, Lose, World, Side, happens, put_bytes, run, served, take_answers}
use Rattle.play_model.specs.Fair.{HasNoLose, loses}
use Rattle.play_model.proofs.MovingEvents.{is-served}

pub run-append : {P : Type 0} (side : Side P) (down_room up_room : ℕ) (es fs : List Event) (w : World P)
    → run side down_room up_room (es ++ fs) w ≡ run side down_room up_room fs (run side down_room up_room es w)
run-append side down_room up_room [] fs w = refl
run-append side down_room up_room (e ∷ es) fs w = run-append side down_room up_room es fs (happens side down_room up_room e w)

-- once over, nothing changes
pub happens-over : {P : Type 0} (side : Side P) (down_room up_room : ℕ) (e : Event) (w : World P) → w.quit ≡ true → happens side down_room up_room e w ≡ w
happens-over side down_room up_room (Put n) w q = ap (λ b. if b || w.lost then w else put_bytes side down_room up_room n w) q
happens-over side down_room up_room (Serve n) w q = ap (λ b. if b || w.lost then w else served up_room n w.down w) q
happens-over side down_room up_room (Take n) w q =
    ap (λ b. if b || w.lost then w else take_answers side down_room up_room n w) q
happens-over side down_room up_room Lose w q = ap (λ b. if b then w else record w { lost = true }) q

pub run-over : {P : Type 0} (side : Side P) (down_room up_room : ℕ) (es : List Event) (w : World P) → w.quit ≡ true → run side down_room up_room es w ≡ w
run-over side down_room up_room [] w q = refl
run-over side down_room up_room (e ∷ es) w q =
    ap (run side down_room up_room es) (happens-over side down_room up_room e w q) ∙ run-over side down_room up_room es w q

-- without a Lose nothing is lost
pub happens-kept : {P : Type 0} (side : Side P) (down_room up_room : ℕ) (e : Event) (w : World P) → loses e ≡ false → (happens side down_room up_room e w).lost ≡ w.lost
happens-kept side down_room up_room (Put n) w l = one (w.quit || w.lost)
  where
    one : (over : Bool) → (if over then w else put_bytes side down_room up_room n w).lost ≡ w.lost
    one true = refl
    one false = refl
happens-kept side down_room up_room (Serve n) w l = one (w.quit || w.lost)
  where
    one : (over : Bool) → (if over then w else served up_room n w.down w).lost ≡ w.lost
    one true = refl
    one false = (is-served up_room n w.down w (omega arith)).lost
happens-kept side down_room up_room (Take n) w l = one (w.quit || w.lost)
  where
    one : (over : Bool) → (if over then w else take_answers side down_room up_room n w).lost ≡ w.lost
    one true = refl
    one false = refl
happens-kept side down_room up_room Lose w l = absurd (cc)

pub or-parts : (a b : Bool) → (a || b) ≡ false → (a ≡ false) × (b ≡ false)
or-parts true b e = absurd (cc)
or-parts false b e = (refl, e)

pub run-kept : {P : Type 0} (side : Side P) (down_room up_room : ℕ) (es : List Event) (w : World P) → HasNoLose es → (run side down_room up_room es w).lost ≡ w.lost
run-kept side down_room up_room [] w l = refl
run-kept side down_room up_room (e ∷ es) w l =
    let parts = or-parts (loses e) (list_any loses es) l in
    run-kept side down_room up_room es (happens side down_room up_room e w) parts.1 ∙ happens-kept side down_room up_room e w parts.0

-- Nothing is lost once the board took `Quit`, and nothing ends once it is lost.
abbrev pub NotBoth : {P : Type 0} → World P → Type 0
NotBoth w = (w.quit && w.lost) ≡ false

and-false : (a b : Bool) → b ≡ false → (a && b) ≡ false
and-false true b e = e
and-false false b e = refl

pub unlost-if-quit : {P : Type 0} (w : World P) → NotBoth w → w.quit ≡ true → w.lost ≡ false
unlost-if-quit w apart e = sym (ap (λ q. q && w.lost) e) ∙ apart

happens-apart : {P : Type 0} (side : Side P) (down_room up_room : ℕ) (e : Event) (w : World P) → NotBoth w → NotBoth (happens side down_room up_room e w)
happens-apart side down_room up_room (Put n) w apart = one (w.quit || w.lost) refl
  where
    one : (over : Bool) → (w.quit || w.lost) ≡ over → NotBoth (if over then w else put_bytes side down_room up_room n w)
    one true e = apart
    one false e = apart
happens-apart side down_room up_room (Serve n) w apart = one (w.quit || w.lost) refl
  where
    one : (over : Bool) → (w.quit || w.lost) ≡ over → NotBoth (if over then w else served up_room n w.down w)
    one true e = apart
    one false e = and-false _ _ ((is-served up_room n w.down w (omega arith)).lost ∙ (or-parts w.quit w.lost e).1)
happens-apart side down_room up_room (Take n) w apart = one (w.quit || w.lost)
  where
    one : (over : Bool) → NotBoth (if over then w else take_answers side down_room up_room n w)
    one true = apart
    one false = apart
happens-apart side down_room up_room Lose w apart = one w.quit refl
  where
    one : (over : Bool) → w.quit ≡ over → NotBoth (if over then w else record w { lost = true })
    one true e = apart
    one false e = ap (λ q. q && true) e

pub run-apart : {P : Type 0} (side : Side P) (down_room up_room : ℕ) (es : List Event) (w : World P) → NotBoth w → NotBoth (run side down_room up_room es w)
run-apart side down_room up_room [] w apart = apart
run-apart side down_room up_room (e ∷ es) w apart =
    run-apart side down_room up_room es (happens side down_room up_room e w) (happens-apart side down_room up_room e w apart)

-- once lost, nothing changes
happens-lost : {P : Type 0} (side : Side P) (down_room up_room : ℕ) (e : Event) (w : World P) → w.lost ≡ true → happens side down_room up_room e w ≡ w
happens-lost side down_room up_room (Put n) w l = one (w.quit || w.lost) refl
  where
    one : (over : Bool) → (w.quit || w.lost) ≡ over → (if over then w else put_bytes side down_room up_room n w) ≡ w
    one true e = refl
    one false e = absurd (clash (sym (or-parts w.quit w.lost e).1 ∙ l))
      where
        clash : false ≡ true → ⊥
        clash p = cc
happens-lost side down_room up_room (Serve n) w l = one (w.quit || w.lost) refl
  where
    one : (over : Bool) → (w.quit || w.lost) ≡ over → (if over then w else served up_room n w.down w) ≡ w
    one true e = refl
    one false e = absurd (clash (sym (or-parts w.quit w.lost e).1 ∙ l))
      where
        clash : false ≡ true → ⊥
        clash p = cc
happens-lost side down_room up_room (Take n) w l = one (w.quit || w.lost) refl
  where
    one : (over : Bool) → (w.quit || w.lost) ≡ over → (if over then w else take_answers side down_room up_room n w) ≡ w
    one true e = refl
    one false e = absurd (clash (sym (or-parts w.quit w.lost e).1 ∙ l))
      where
        clash : false ≡ true → ⊥
        clash p = cc
happens-lost side down_room up_room Lose w l = one w.quit
  where
    one : (over : Bool) → (if over then w else record w { lost = true }) ≡ w
    one true = refl
    one false = λ i. record w { lost = sym l i }

pub run-lost : {P : Type 0} (side : Side P) (down_room up_room : ℕ) (es : List Event) (w : World P) → w.lost ≡ true → run side down_room up_room es w ≡ w
run-lost side down_room up_room [] w l = refl
run-lost side down_room up_room (e ∷ es) w l =
    ap (run side down_room up_room es) (happens-lost side down_room up_room e w l) ∙ run-lost side down_room up_room es w l
