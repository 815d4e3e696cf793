-- What the window lets through of a turn.
use Rattle.std.proofs.Common.{◌≡◌, true, false, ℕ, zero, suc, ◌+◌, ◌-◌, ◌≤◌, List, [], ◌∷◌, map, take, drop, refl, ap, ◌∙◌, arith}
use Rattle.bitbang_protocol.specs.declared.Message.{Message}
use Rattle.bitbang_protocol.specs.declared.Message.TheVariants.{Ask, Light, Lines, Quit, Write}
use Rattle.bitbang_protocol.specs.Protocol.{encode}
use Rattle.play_model.specs.Play.{up_to_asks}
use Rattle.play_model.proofs.Asks.{asks}
use Rattle.player.specs.PlaceInPlay.{up_to_reads}

-- in bytes as in messages
pub in-bytes : (ms : List Message) (n : ℕ) → up_to_reads (map encode ms) n ≡ map encode (up_to_asks ms n)
in-bytes [] n = refl
in-bytes (Ask ∷ ms) zero = refl
in-bytes (Ask ∷ ms) (suc n) = ap (λ l. encode Ask ∷ l) (in-bytes ms n)
in-bytes (Quit ∷ ms) n = ap (λ l. encode Quit ∷ l) (in-bytes ms n)
in-bytes (Write true true true ∷ ms) n = ap (λ l. encode (Write true true true) ∷ l) (in-bytes ms n)
in-bytes (Write true true false ∷ ms) n = ap (λ l. encode (Write true true false) ∷ l) (in-bytes ms n)
in-bytes (Write true false true ∷ ms) n = ap (λ l. encode (Write true false true) ∷ l) (in-bytes ms n)
in-bytes (Write true false false ∷ ms) n = ap (λ l. encode (Write true false false) ∷ l) (in-bytes ms n)
in-bytes (Write false true true ∷ ms) n = ap (λ l. encode (Write false true true) ∷ l) (in-bytes ms n)
in-bytes (Write false true false ∷ ms) n = ap (λ l. encode (Write false true false) ∷ l) (in-bytes ms n)
in-bytes (Write false false true ∷ ms) n = ap (λ l. encode (Write false false true) ∷ l) (in-bytes ms n)
in-bytes (Write false false false ∷ ms) n = ap (λ l. encode (Write false false false) ∷ l) (in-bytes ms n)
in-bytes (Light true ∷ ms) n = ap (λ l. encode (Light true) ∷ l) (in-bytes ms n)
in-bytes (Light false ∷ ms) n = ap (λ l. encode (Light false) ∷ l) (in-bytes ms n)
in-bytes (Lines true true ∷ ms) n = ap (λ l. encode (Lines true true) ∷ l) (in-bytes ms n)
in-bytes (Lines true false ∷ ms) n = ap (λ l. encode (Lines true false) ∷ l) (in-bytes ms n)
in-bytes (Lines false true ∷ ms) n = ap (λ l. encode (Lines false true) ∷ l) (in-bytes ms n)
in-bytes (Lines false false ∷ ms) n = ap (λ l. encode (Lines false false) ∷ l) (in-bytes ms n)

-- what is left of it behind its first messages
pub up-to-past : (g : ℕ) (ms : List Message) (k : ℕ) → asks (take g ms) ≤ k → drop g (up_to_asks ms k) ≡ up_to_asks (drop g ms) (k - asks (take g ms))
up-to-past zero ms k le = let same : k ≡ k - 0 = omega arith in ap (up_to_asks ms) same
up-to-past (suc g) [] k le = refl
up-to-past (suc g) (Ask ∷ ms) zero le = absurd (omega (arith, le))
up-to-past (suc g) (Ask ∷ ms) (suc k) le =
    let same : k - asks (take g ms) ≡ suc k - suc (asks (take g ms)) = omega arith in
    up-to-past g ms k (omega (arith, le)) ∙ ap (up_to_asks (drop g ms)) same
up-to-past (suc g) (Quit ∷ ms) k le = up-to-past g ms k le
up-to-past (suc g) (Write tck tms tdi ∷ ms) k le = up-to-past g ms k le
up-to-past (suc g) (Light on ∷ ms) k le = up-to-past g ms k le
up-to-past (suc g) (Lines trst srst ∷ ms) k le = up-to-past g ms k le

-- its first messages
pub up-to-front : (g : ℕ) (ms : List Message) (k : ℕ) → asks (take g ms) ≤ k → take g (up_to_asks ms k) ≡ take g ms
up-to-front zero ms k le = refl
up-to-front (suc g) [] k le = refl
up-to-front (suc g) (Ask ∷ ms) zero le = absurd (omega (arith, le))
up-to-front (suc g) (Ask ∷ ms) (suc k) le = ap (λ l. Ask ∷ l) (up-to-front g ms k (omega (arith, le)))
up-to-front (suc g) (Quit ∷ ms) k le = ap (λ l. Quit ∷ l) (up-to-front g ms k le)
up-to-front (suc g) (Write tck tms tdi ∷ ms) k le = ap (λ l. Write tck tms tdi ∷ l) (up-to-front g ms k le)
up-to-front (suc g) (Light on ∷ ms) k le = ap (λ l. Light on ∷ l) (up-to-front g ms k le)
up-to-front (suc g) (Lines trst srst ∷ ms) k le = ap (λ l. Lines trst srst ∷ l) (up-to-front g ms k le)

-- where it asks no more than is allowed, all of it
pub up-to-all : (ms : List Message) (k : ℕ) → asks ms ≤ k → up_to_asks ms k ≡ ms
up-to-all [] k le = refl
up-to-all (Ask ∷ ms) zero le = absurd (omega (arith, le))
up-to-all (Ask ∷ ms) (suc k) le = ap (λ l. Ask ∷ l) (up-to-all ms k (omega (arith, le)))
up-to-all (Quit ∷ ms) k le = ap (λ l. Quit ∷ l) (up-to-all ms k le)
up-to-all (Write tck tms tdi ∷ ms) k le = ap (λ l. Write tck tms tdi ∷ l) (up-to-all ms k le)
up-to-all (Light on ∷ ms) k le = ap (λ l. Light on ∷ l) (up-to-all ms k le)
up-to-all (Lines trst srst ∷ ms) k le = ap (λ l. Lines trst srst ∷ l) (up-to-all ms k le)

-- what was asked and what is left to ask
pub asks-split : (g : ℕ) (ms : List Message) → asks (take g ms) + asks (drop g ms) ≡ asks ms
asks-split zero ms = omega arith
asks-split (suc g) [] = refl
asks-split (suc g) (Ask ∷ ms) = let rest = asks-split g ms in omega arith
asks-split (suc g) (Quit ∷ ms) = asks-split g ms
asks-split (suc g) (Write tck tms tdi ∷ ms) = asks-split g ms
asks-split (suc g) (Light on ∷ ms) = asks-split g ms
asks-split (suc g) (Lines trst srst ∷ ms) = asks-split g ms
