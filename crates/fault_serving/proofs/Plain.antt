-- Boards without strings.
use Rattle.std.proofs.Common.{◌≡◌, ◌≤◌, ℕ, ◌+◌, Bool, false, nat_lt, List, [], ◌∷◌, length, map, refl, sym, ap, ap₂, ◌∙◌, arith}
use Rattle.std.specs.List.{AllByRecursion, list_any}
use Rattle.std.proofs.lemmas.Bool.{or_parts}
use Rattle.std.proofs.lemmas.Bool.Decides.{nat_tests}
use Rattle.pin_nets.specs.declared.Follow.{Follow}
use Rattle.board_plan.specs.declared.plan.Plan.{Plan}
use Rattle.board_plan.specs.declared.plan.PlannedDevice.{PlannedDevice}
use Rattle.board_plan.specs.Planned.{Member, Wiring}
use Rattle.board_plan.specs.View.{member as planned_member, wiring}
use Rattle.board_model.specs.Nets.{strings}
use Rattle.board_model.specs.Planned.{members_of, powered_up}
use Rattle.board_faults.specs.Judging.{HasNoStrings}

-- ---- none of the devices has a string

none-there : (fs : List Follow) → nat_lt 0 (length fs) ≡ false → fs ≡ []
none-there [] e = refl
none-there (f ∷ fs) e = let beyond : length (f ∷ fs) ≤ 0 = grind (arith, nat_tests) in absurd (omega (arith, beyond))

pub none_strung : (ds : List PlannedDevice) → list_any (λ d. nat_lt 0 (length d.follows.items)) ds ≡ false
    → AllByRecursion (λ (m : Member). m.follows ≡ []) (map planned_member ds)
none_strung [] e = tt
none_strung (d ∷ ds) e =
    let parts = or_parts (nat_lt 0 (length d.follows.items)) (list_any (λ x. nat_lt 0 (length x.follows.items)) ds) e in
    (none-there d.follows.items parts.0, none_strung ds parts.1)

-- as it is asked
pub plain_if : (p : Plan) (ds : List PlannedDevice) (b : Bool) → ds ≡ p.devices.items → b ≡ list_any (λ d. nat_lt 0 (length d.follows.items)) ds → b ≡ false
    → HasNoStrings (wiring p)
plain_if p ds b same is never =
    none_strung p.devices.items (sym (ap (λ (xs : List PlannedDevice). list_any (λ d. nat_lt 0 (length d.follows.items)) xs) same) ∙ sym is ∙ never)

no-strings : (ms : List Member) → AllByRecursion (λ (m : Member). m.follows ≡ []) ms → strings (map powered_up ms) ≡ 0
no-strings [] plain = refl
no-strings (m ∷ ms) plain = ap₂ (λ (a b : ℕ). a + b) (ap (λ (fs : List Follow). length fs) plain.0) (no-strings ms plain.1)

pub without_strings : (w : Wiring) → HasNoStrings w → strings (members_of w) ≡ 0
without_strings w plain = no-strings w.members plain
