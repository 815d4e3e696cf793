-- What pins drive, by letters, and who fights on a net.
use Rattle.std.proofs.Common.{◌≡◌, ◌⊎◌, inl, inr, ⊎_elim, ◌<◌, ℕ, zero, suc, Bool, true, false, List, [], ◌∷◌, map, refl, sym, ap, ◌∙◌, arith}
use Rattle.std.specs.Prelude.{◌==◌, count_by, if◌then◌else◌}
use Rattle.pin_nets.specs.declared.Drive.{Drive}
use Rattle.pin_nets.specs.declared.Drive.TheVariants.{Nothing, Strong, Weak}
use Rattle.pin_nets.specs.declared.Level.{Level}
use Rattle.pin_nets.specs.declared.Level.TheVariants.{Contend, Float, One, Zero}
use Rattle.pin_nets.specs.declared.Pin.{Pin}
use Rattle.pin_nets.specs.declared.Pull.{Pull}
use Rattle.pin_nets.specs.declared.Pull.TheVariants.{Down, Free, Up}
use Rattle.pin_nets.specs.declared.Rule.{Rule}
use Rattle.pin_nets.specs.Levels.{is_strong, is_weak, level_of, of_counts, one, pull_drive, shown}
use Rattle.pin_nets.proofs.Counting.{count-cons}
use Rattle.board_model.specs.Chain.{members}
use Rattle.board_model.specs.Following.{IsAmong}
use Rattle.board_model.specs.Nets.{level, pin_drive}
use Rattle.output_words.specs.Digits.{digit}
use Rattle.wave_files.specs.Drives.{drive_byte, driving}
use Rattle.wave_files.specs.Values.{level_byte, unknown}
use Rattle.play_waves.specs.Laws.{EachDriveHasItsLetter, IsDrawn, IsPulled, WhoFightsIsDrawn}

-- ---- letters

-- what a letter stands for
abbrev drive_of : ℕ → Drive
drive_of n =
    if n == 48 then Strong false
    else (if n == 49 then Strong true else (if n == 108 then Weak false else (if n == 104 then Weak true else Nothing)))

read_back : (d : Drive) → drive_of (drive_byte d) ≡ d
read_back (Strong false) = refl
read_back (Strong true) = refl
read_back (Weak false) = refl
read_back (Weak true) = refl
read_back Nothing = refl

pub its_letter : EachDriveHasItsLetter
its_letter d e same = sym (read_back d) ∙ ap drive_of same ∙ read_back e

-- ---- drivers

strong_is : (b : Bool) (d : Drive) → is_strong b d ≡ true → drive_byte d ≡ digit b
strong_is true (Strong true) h = refl
strong_is true (Strong false) h = cc
strong_is false (Strong true) h = cc
strong_is false (Strong false) h = refl
strong_is true (Weak b) h = cc
strong_is false (Weak b) h = cc
strong_is true Nothing h = cc
strong_is false Nothing h = cc

weak_is : (b : Bool) (d : Drive) → is_weak b d ≡ true → d ≡ Weak b
weak_is true (Weak true) h = refl
weak_is true (Weak false) h = cc
weak_is false (Weak true) h = cc
weak_is false (Weak false) h = refl
weak_is true (Strong b) h = cc
weak_is false (Strong b) h = cc
weak_is true Nothing h = cc
weak_is false Nothing h = cc

no_strong_pull : (b : Bool) (p : Pull) → is_strong b (pull_drive p) ≡ false
no_strong_pull true Up = refl
no_strong_pull true Down = refl
no_strong_pull true Free = refl
no_strong_pull false Up = refl
no_strong_pull false Down = refl
no_strong_pull false Free = refl

-- ---- one that is counted is there

abbrev CountedIn : (Drive → Bool) → (Pin → Drive) → List Pin → Type 0
CountedIn test f pins = (pin : Pin) × IsAmong pin pins × (test (f pin) ≡ true)

found : (test : Drive → Bool) (f : Pin → Drive) (pins : List Pin) → 0 < count_by test (map f pins) → CountedIn test f pins
found test f [] some = absurd (omega (arith, some))
found test f (p ∷ pins) some = by (test (f p)) refl (λ more. found test f pins more)
  where
    by : (b : Bool) → test (f p) ≡ b → (0 < count_by test (map f pins) → CountedIn test f pins) → CountedIn test f (p ∷ pins)
    by true is later = (p, inl refl, is)
    by false is later =
        let none : one (test (f p)) ≡ 0 = ap one is in
        let rest = later (omega (arith, some, count-cons test (f p) (map f pins), none)) in
        (rest.0, inr rest.1, rest.2)

-- the pull is, or one of the pins
found_or_pull : (test : Drive → Bool) (f : Pin → Drive) (pull : Drive) (pins : List Pin) → 0 < count_by test (pull ∷ map f pins)
    → (test pull ≡ true) ⊎ CountedIn test f pins
found_or_pull test f pull pins some = by (test pull) refl
  where
    by : (b : Bool) → test pull ≡ b → (test pull ≡ true) ⊎ CountedIn test f pins
    by true is = inl is
    by false is =
        let none : one (test pull) ≡ 0 = ap one is in
        inr (found test f pins (omega (arith, some, count-cons test pull (map f pins), none)))

-- ---- a net that is contended

-- by four numbers
fought : (a b x y : ℕ) → of_counts a b (of_counts x y Float) ≡ Contend → ((0 < a) × (0 < b)) ⊎ ((0 < x) × (0 < y))
fought zero zero zero zero h = cc
fought zero zero zero (suc y) h = cc
fought zero zero (suc x) zero h = cc
fought zero zero (suc x) (suc y) h = inr (omega arith, omega arith)
fought zero (suc b) x y h = cc
fought (suc a) zero x y h = cc
fought (suc a) (suc b) x y h = inl (omega arith, omega arith)

is_contended : (l : Level) → level_byte l ≡ unknown → l ≡ Contend
is_contended Zero h = absurd (omega (arith, h))
is_contended One h = absurd (omega (arith, h))
is_contended Float h = absurd (omega (arith, h))
is_contended Contend h = refl

pub who_fights : WhoFightsIsDrawn
who_fights nets cs net rule drawn =
    ⊎_elim
    (λ strong. inl (strong_one false strong.0, strong_one true strong.1))
    (λ weak. inr (weak_one false weak.0, weak_one true weak.1))
    (fought (count_by (is_strong false) drives) (count_by (is_strong true) drives) (count_by (is_weak false) drives) (count_by (is_weak true) drives) contended)
  where
    f : Pin → Drive
    f pin = pin_drive (driving nets cs) pin

    pull : Drive
    pull = pull_drive net.pull

    drives : List Drive
    drives = pull ∷ map f net.pins

    contended : level_of drives ≡ Contend
    contended = sym (ap (λ (r : Rule). shown r pull (map f net.pins)) rule) ∙ is_contended (level nets (members cs) net) drawn

    strong_one : (b : Bool) → 0 < count_by (is_strong b) (pull ∷ map f net.pins) → IsDrawn (digit b) nets cs net
    strong_one b some =
        let none : one (is_strong b pull) ≡ 0 = ap one (no_strong_pull b net.pull) in
        let it = found (is_strong b) f net.pins (omega (arith, some, count-cons (is_strong b) pull (map f net.pins), none)) in
        (it.0, it.1, strong_is b (f it.0) it.2)

    weak_one : (b : Bool) → 0 < count_by (is_weak b) (pull ∷ map f net.pins) → IsPulled b nets cs net
    weak_one b some =
        ⊎_elim
        (λ its. inr (weak_is b pull its))
        (λ it. inl (it.0, it.1, ap drive_byte (weak_is b (f it.0) it.2)))
        (found_or_pull (is_weak b) f pull net.pins some)
