-- What changes no pin's drive leaves levels and core bits in force as they are.
use Rattle.std.proofs.Common.{◌≡◌, ◌+◌, Bool, ℕ, zero, suc, List, [], ◌∷◌, length, refl, sym, ap, ap₂, ◌∙◌, subst}
use Rattle.pin_nets.specs.Levels.{pull_drive, reads, shown}
use Rattle.pin_nets.specs.Wired.{Net}
use Rattle.board_model.specs.Cells.{Member, drive}
use Rattle.board_model.specs.Nets.{core_at, in_force, level_under, net_of, pin_drive, rounds, sees_under, strings, with_followed, with_followed_all}
use Rattle.board_model.specs.Following.{DrivesAlike, AllDriveAlike, BitsInForceStay}
use Rattle.board_model.proofs.Following.{all-bits-same, drive_at_place, pins-same}

one-alike : (m n : Member) (p : ℕ) → DrivesAlike m n → drive m p ≡ drive n p
one-alike m n p alike = alike.drives m.core p ∙ ap (λ core. drive (record n { core = core }) p) (sym (ap (λ (q : Member). q.core) alike.same))

place-alike : (x y : List Member) (i p : ℕ) → AllDriveAlike x y → drive_at_place x i p ≡ drive_at_place y i p
place-alike [] [] i p alike = refl
place-alike [] (b ∷ y) i p alike = absurd alike
place-alike (a ∷ x) [] i p alike = absurd alike
place-alike (a ∷ x) (b ∷ y) zero p alike = one-alike a b p alike.0
place-alike (a ∷ x) (b ∷ y) (suc i) p alike = place-alike x y i p alike.1

level-alike : (x y : List Member) (net : Net) → AllDriveAlike x y → level_under x net ≡ level_under y net
level-alike x y net alike =
    ap (λ ds. shown net.rule (pull_drive net.pull) ds)
    (pins-same (pin_drive x) (pin_drive y) net.pins (λ pin among. place-alike x y pin.device pin.port alike))

followed-alike : (sight other : ℕ → ℕ → Bool) (k : ℕ) (ms ns : List Member) → ((i p : ℕ) → sight i p ≡ other i p) → AllDriveAlike ms ns
    → AllDriveAlike (with_followed_all sight k ms) (with_followed_all other k ns)
followed-alike sight other k [] [] same alike = tt
followed-alike sight other k [] (n ∷ ns) same alike = absurd alike
followed-alike sight other k (m ∷ ms) [] same alike = absurd alike
followed-alike sight other k (m ∷ ms) (n ∷ ns) same alike = (
  record {
    same = ap (λ (q : Member). with_followed (other k) q) alike.0.same
        ∙ ap (λ core. record m { registers = n.registers; core = core })
        (sym (all-bits-same (sight k) (other k) m.follows 0 m.core (λ f among. same k f.source)));
    drives = alike.0.drives;
  },
  followed-alike sight other (suc k) ms ns same alike.1,
)

rounds-alike : (nets : List Net) (ms ns : List Member) (n : ℕ) → AllDriveAlike ms ns → AllDriveAlike (rounds n nets ms ms) (rounds n nets ns ns)
rounds-alike nets ms ns zero alike = alike
rounds-alike nets ms ns (suc n) alike =
    followed-alike (sees_under nets (rounds n nets ms ms)) (sees_under nets (rounds n nets ns ns)) 0 ms ns
    (λ i p. ap reads (level-alike (rounds n nets ms ms) (rounds n nets ns ns) (net_of nets i p) (rounds-alike nets ms ns n alike))) alike

count-alike : (ms ns : List Member) → AllDriveAlike ms ns → strings ms ≡ strings ns
count-alike [] [] alike = refl
count-alike [] (n ∷ ns) alike = absurd alike
count-alike (m ∷ ms) [] alike = absurd alike
count-alike (m ∷ ms) (n ∷ ns) alike = ap₂ (λ a b. a + b) (sym (ap (λ (q : Member). length q.follows) alike.0.same)) (count-alike ms ns alike.1)

pub in-force-alike : (nets : List Net) (ms ns : List Member) → AllDriveAlike ms ns → AllDriveAlike (in_force nets ms) (in_force nets ns)
in-force-alike nets ms ns alike =
    subst (λ n. AllDriveAlike (in_force nets ms) (rounds n nets ns ns)) (count-alike ms ns alike) (rounds-alike nets ms ns (strings ms) alike)

pub core-alike : (x y : List Member) (i : ℕ) → AllDriveAlike x y → core_at x i ≡ core_at y i
core-alike [] [] i alike = refl
core-alike [] (b ∷ y) i alike = absurd alike
core-alike (a ∷ x) [] i alike = absurd alike
core-alike (a ∷ x) (b ∷ y) zero alike = sym (ap (λ (q : Member). q.core) alike.0.same)
core-alike (a ∷ x) (b ∷ y) (suc i) alike = core-alike x y i alike.1

pub bits_stay : BitsInForceStay
bits_stay nets ms ns alike =
    let both = in-force-alike nets ms ns alike in
    record {
      levels = λ net. level-alike (in_force nets ms) (in_force nets ns) net both;
      told = λ place i. record {
        sight = λ port. reads (level-alike (in_force nets ms) (in_force nets ns) (net_of nets place port) both i);
        core = core-alike (in_force nets ms) (in_force nets ns) place both i;
      };
    }
