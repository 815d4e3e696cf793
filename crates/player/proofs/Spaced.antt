-- Of three bytes of a step in a row one at most is `R`: a cycle writes twice, and asks once at most between the two.
use Rattle.std.proofs.Common.{◌≡◌, Bool, true, false, ℕ, zero, suc, ◌+◌, ◌*◌, ◌≤◌, List, [], ◌∷◌, ◌++◌, map, take, drop, refl, ap, ◌∙◌, arith}
use Rattle.std.proofs.lemmas.List.{drop-drop, drop-map}
use Rattle.std.specs.Prelude.{flat_map, if◌then◌else◌}
use Rattle.jt_tap.specs.declared.State.{State}
use Rattle.bitbang_protocol.specs.declared.Cycle.{Cycle}
use Rattle.bitbang_protocol.specs.declared.Message.{Message}
use Rattle.bitbang_protocol.specs.declared.Message.TheVariants.{Ask, Write}
use Rattle.bitbang_protocol.specs.Cycles.{closed_messages}
use Rattle.bitbang_protocol.specs.Protocol.{cycle_messages, encode}
use Rattle.bitbang.specs.StepMessages.{step_bytes, step_messages}
use Rattle.svf_programs.specs.Steps.{Step, Scan, Go, Path, Run, Trst}
use Rattle.tck_cycles.specs.Cycles.{cycles}
use Rattle.play_model.proofs.Asks.{asks, asks-step}
use Rattle.player.specs.PlaceInPlay.{IsSpaced, reads}
use Rattle.player.proofs.Ahead.{map-take}
use Rattle.player.proofs.PlayerPlaces.{reads-asks}
use Rattle.player.proofs.Window.{asks-split}

-- the same of messages
abbrev AreSpaced : List Message → Type 0
AreSpaced ms = (g n : ℕ) → 3 * asks (take n (drop g ms)) ≤ n + 2

none-asked : (g n : ℕ) → asks (take n (drop g [])) ≡ 0
none-asked zero zero = refl
none-asked zero (suc n) = refl
none-asked (suc g) zero = refl
none-asked (suc g) (suc n) = refl

-- the messages of cycles and the one that closes them
abbrev from : List Cycle → List Message
from cs = flat_map cycle_messages cs ++ Write false false false ∷ []

-- those of one cycle, and more
abbrev one : Bool → Bool → Bool → List Message → List Message
one tms tdi read ms = (Write false tms tdi ∷ (if read then Ask ∷ [] else []) ++ Write true tms tdi ∷ []) ++ ms

-- from the start of a cycle on
starts : (tms tdi read : Bool) (ms : List Message) → ((n : ℕ) → 3 * asks (take n ms) ≤ n + 1) → (n : ℕ) → 3 * asks (take n (one tms tdi read ms)) ≤ n + 1
starts tms tdi true ms rest zero = omega arith
starts tms tdi true ms rest (suc zero) = omega arith
starts tms tdi true ms rest (suc (suc zero)) = omega arith
starts tms tdi true ms rest (suc (suc (suc n))) = let r = rest n in omega (arith, r)
starts tms tdi false ms rest zero = omega arith
starts tms tdi false ms rest (suc zero) = omega arith
starts tms tdi false ms rest (suc (suc n)) = let r = rest n in omega (arith, r)

-- from anywhere on
goes : (tms tdi read : Bool) (ms : List Message) → ((n : ℕ) → 3 * asks (take n ms) ≤ n + 1) → AreSpaced ms → AreSpaced (one tms tdi read ms)
goes tms tdi read ms rest spaced zero n = let r = starts tms tdi read ms rest n in omega (arith, r)
goes tms tdi true ms rest spaced (suc zero) zero = omega arith
goes tms tdi true ms rest spaced (suc zero) (suc zero) = omega arith
goes tms tdi true ms rest spaced (suc zero) (suc (suc n)) = let r = rest n in omega (arith, r)
goes tms tdi true ms rest spaced (suc (suc zero)) zero = omega arith
goes tms tdi true ms rest spaced (suc (suc zero)) (suc n) = let r = rest n in omega (arith, r)
goes tms tdi true ms rest spaced (suc (suc (suc g))) n = spaced g n
goes tms tdi false ms rest spaced (suc zero) zero = omega arith
goes tms tdi false ms rest spaced (suc zero) (suc n) = let r = rest n in omega (arith, r)
goes tms tdi false ms rest spaced (suc (suc g)) n = spaced g n

cuts : (xs ys zs : List Message) → (xs ++ ys) ++ zs ≡ xs ++ (ys ++ zs)
cuts [] ys zs = refl
cuts (x ∷ xs) ys zs = ap (λ l. x ∷ l) (cuts xs ys zs)

from-more : (c : Cycle) (cs : List Cycle) → from (c ∷ cs) ≡ one c.tms c.tdi c.read (from cs)
from-more c cs = cuts (cycle_messages c) (flat_map cycle_messages cs) (Write false false false ∷ [])

start-of : (cs : List Cycle) (n : ℕ) → 3 * asks (take n (from cs)) ≤ n + 1
start-of [] zero = omega arith
start-of [] (suc n) = omega (arith, none-asked 0 n)
start-of (c ∷ cs) n =
    let r = starts c.tms c.tdi c.read (from cs) (λ m. start-of cs m) n in
    omega (arith, r, ap (λ (l : List Message). asks (take n l)) (from-more c cs))

spaced-from : (cs : List Cycle) → AreSpaced (from cs)
spaced-from [] zero zero = omega arith
spaced-from [] zero (suc n) = omega (arith, none-asked 0 n)
spaced-from [] (suc g) n = omega (arith, none-asked g n)
spaced-from (c ∷ cs) g n =
    let r = goes c.tms c.tdi c.read (from cs) (start-of cs) (λ h m. spaced-from cs h m) g n in
    omega (arith, r, ap (λ (l : List Message). asks (take n (drop g l))) (from-more c cs))

spaced-closed : (cs : List Cycle) → AreSpaced (closed_messages cs)
spaced-closed [] g n = omega (arith, none-asked g n)
spaced-closed (c ∷ cs) g n = spaced-from (c ∷ cs) g n

spaced-messages : (place : State) (what : Step) → AreSpaced (step_messages place what)
spaced-messages place (Scan column v end) = spaced-closed (cycles place (Scan column v end))
spaced-messages place (Go state) = spaced-closed (cycles place (Go state))
spaced-messages place (Path path) = spaced-closed (cycles place (Path path))
spaced-messages place (Run run count end) = spaced-closed (cycles place (Run run count end))
spaced-messages place (Trst w) = λ g n.
    let ms = step_messages place (Trst w) in
    let none : asks ms ≡ 0 = asks-step place (Trst w) in
    omega (arith, none, asks-split g ms, asks-split n (drop g ms))

in-bytes : (ms : List Message) → AreSpaced ms → IsSpaced (map encode ms)
in-bytes ms spaced g n =
    let r = spaced g n in
    let same = ap (λ (l : List ℕ). reads (take n l)) (drop-map encode g ms) ∙ ap reads (map-take n (drop g ms)) ∙ reads-asks (take n (drop g ms)) in
    omega (arith, r, same)

-- the bytes of a step
pub spaced-bytes : (place : State) (what : Step) → IsSpaced (step_bytes place what)
spaced-bytes place what = in-bytes (step_messages place what) (spaced-messages place what)

-- and what is left of them
pub spaced-behind : (n : ℕ) (bytes : List ℕ) → IsSpaced bytes → IsSpaced (drop n bytes)
spaced-behind n bytes spaced g m =
    let r = spaced (n + g) m in
    omega (arith, r, ap (λ (l : List ℕ). reads (take m l)) (drop-drop g n bytes))
