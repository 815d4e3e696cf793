-- Devices held with other cores, by their cores alone.
use Rattle.std.proofs.Common.{◌≡◌, Bool, ℕ, zero, suc, List, [], ◌∷◌, length, refl, sym, ap, ◌∙◌, arith}
use Rattle.std.proofs.lemmas.Bool.{eqb-true}
use Rattle.pin_nets.specs.declared.Follow.{Follow}
use Rattle.pin_nets.specs.Wired.{Net}
use Rattle.board_model.specs.Cells.{Member}
use Rattle.board_model.specs.Following.{AllDriveAlike, AreHeld}
use Rattle.board_model.specs.Nets.{core_at, followed, in_force, rounds, sees_under, strings, with_followed_all}
use Rattle.board_model.proofs.Following.{core-constant}
use Rattle.board_model.proofs.Staying.{core-alike, in-force-alike}

length-followed : (sight : ℕ → Bool) (fs : List Follow) (k : ℕ) (core : List Bool) → length (followed sight fs k core) ≡ length core
length-followed sight fs k [] = refl
length-followed sight fs k (b ∷ core) = ap suc (length-followed sight fs (suc k) core)

pub held-itself : (ms : List Member) → AreHeld ms ms
held-itself [] = tt
held-itself (m ∷ ms) = (record { same = refl; long = refl; constant = λ bit none. refl }, held-itself ms)

held-followed : (sight : ℕ → ℕ → Bool) (k : ℕ) (ms : List Member) → AreHeld ms (with_followed_all sight k ms)
held-followed sight k [] = tt
held-followed sight k (m ∷ ms) = (
  record {
    same = refl;
    long = length-followed (sight k) m.follows 0 m.core;
    constant = λ bit none. core-constant (sight k) m.follows 0 m.core bit bit (omega arith) (λ f among e. none f among (eqb-true f.cell bit e));
  },
  held-followed sight (suc k) ms,
)

held-rounds : (nets : List Net) (ms : List Member) (n : ℕ) → AreHeld ms (rounds n nets ms ms)
held-rounds nets ms zero = held-itself ms
held-rounds nets ms (suc n) = held-followed (sees_under nets (rounds n nets ms ms)) 0 ms

-- the devices with their core bits in force
pub held_in_force : (nets : List Net) (ms : List Member) → AreHeld ms (in_force nets ms)
held_in_force nets ms = held-rounds nets ms (strings ms)

-- the same devices with the same cores
pub by_cores : (ms x y : List Member) → AreHeld ms x → AreHeld ms y → ((i : ℕ) → core_at x i ≡ core_at y i) → x ≡ y
by_cores [] [] [] a b same = refl
by_cores [] [] (h ∷ y) a b same = absurd b
by_cores [] (g ∷ x) y a b same = absurd a
by_cores (m ∷ ms) [] y a b same = absurd a
by_cores (m ∷ ms) (g ∷ x) [] a b same = absurd b
by_cores (m ∷ ms) (g ∷ x) (h ∷ y) a b same =
    let here : g ≡ h = a.0.same ∙ ap (λ (core : List Bool). record m { core = core }) (same 0) ∙ sym b.0.same in
    λ i. here i ∷ by_cores ms x y a.1 b.1 (λ j. same (suc j)) i

-- What changes no pin's drive, and no core, leaves the devices with their core bits in force.
pub held_stay : (nets : List Net) (ms ns x y : List Member) → AllDriveAlike ms ns → in_force nets ms ≡ x → AreHeld ns y → ((i : ℕ) → core_at x i ≡ core_at y i)
    → in_force nets ns ≡ y
held_stay nets ms ns x y alike is held same =
    by_cores ns (in_force nets ns) y (held_in_force nets ns) held (λ i.
    sym (core-alike (in_force nets ms) (in_force nets ns) i (in-force-alike nets ms ns alike))
    ∙ ap (λ (l : List Member). core_at l i) is ∙ same i)
