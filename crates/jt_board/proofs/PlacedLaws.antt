-- The strings of a board at their places, and what each depends on.
use Rattle.std.proofs.Common.{◌≡◌, ℕ, zero, suc, ◌+◌, List, [], ◌∷◌, length, map, slice_get, Some, option_map, refl, ap, sym, subst, ◌∙◌, inl, inr, arith}
use Rattle.std.proofs.lemmas.List.{length-append, length-map}
use Rattle.std.proofs.lemmas.Option.{none-some, same_Some, slice_get-map}
use Rattle.pin_nets.specs.declared.Follow.{Follow}
use Rattle.board_plan.specs.Planned.{Member, Wiring}
use Rattle.board_loops.specs.Depending.{dependencies_from, dependency}
use Rattle.board_model.specs.Cells.{Member as MeantMember}
use Rattle.board_model.specs.Following.{IsAmong, Placed}
use Rattle.board_model.specs.Planned.{powered_up}
use Rattle.jt_board.specs.Circles.{placed_by, placed_from}
use Rattle.jt_board.proofs.Lists.{behind, beside, in_front}

-- ---- what a string at a place depends on

pub record IsPlaced (w : Wiring) (first : ℕ) (ms : List Member) (k : ℕ) (s : Placed) : Type 0 where
  pub index : ℕ
  pub member : Member
  pub device : s.device ≡ first + index
  pub stands : slice_get ms index ≡ Some member
  pub follows : IsAmong s.string member.follows
  pub depends : slice_get (dependencies_from w first ms) k ≡ Some (dependency w s.device member.device.cells s.string)

pub placed_at : (w : Wiring) (first : ℕ) (ms : List Member) (k : ℕ) (s : Placed) → slice_get (placed_from first ms) k ≡ Some s → IsPlaced w first ms k s
placed_at w first [] k s at = absurd (none-some s at)
placed_at w first (m ∷ ms) k s at =
    elim (beside (placed_by first) (dependency w first m.device.cells) m.follows (placed_from (suc first) ms) (dependencies_from w (suc first) ms) k s at) [
      | inl it ↦
          let here : first ≡ first + 0 = omega arith in
          subst (IsPlaced w first (m ∷ ms) k) it.2 (record { index = 0; member = m; device = here; stands = refl; follows = it.1; depends = it.3 })
      | inr it ↦
          let rest = placed_at w (suc first) ms it.0 s it.1 in
          let there : s.device ≡ first + suc rest.index = omega (arith, rest.device) in
          record { index = suc rest.index; member = rest.member; device = there; stands = rest.stands; follows = rest.follows; depends = it.2 ∙ rest.depends }
    ]

-- each string of a device has a place
pub string_there : (w : Wiring) (first : ℕ) (ms : List Member) (i : ℕ) (m : Member) (f : Follow) → slice_get ms i ≡ Some m → IsAmong f m.follows
    → (k : ℕ) × (slice_get (placed_from first ms) k ≡ Some (placed_by (first + i) f)) × (slice_get (dependencies_from w first ms) k ≡ Some (dependency w (first + i) m.device.cells f))
string_there w first [] i m f at on = absurd (none-some m at)
string_there w first (x ∷ ms) zero m f at on =
    let here : first ≡ first + 0 = omega arith in
    let same = same_Some x m at in
    let it = in_front (placed_by first) (dependency w first x.device.cells) x.follows (placed_from (suc first) ms) (dependencies_from w (suc first) ms) f
    (subst (λ (y : Member). IsAmong f y.follows) (sym same) on) in
    (it.0, it.1 ∙ ap (λ (d : ℕ). Some (placed_by d f)) here, it.2 ∙ (λ j. Some (dependency w (here j) (same j).device.cells f)))
string_there w first (x ∷ ms) (suc i) m f at on =
    let next : suc first + i ≡ first + suc i = omega arith in
    let rest = string_there w (suc first) ms i m f at on in
    let it = behind (placed_by first) (dependency w first x.device.cells) x.follows (placed_from (suc first) ms) (dependencies_from w (suc first) ms) rest.0
    (placed_by (suc first + i) f) (dependency w (suc first + i) m.device.cells f) rest.1 rest.2 in
    (it.0, it.1 ∙ ap (λ (d : ℕ). Some (placed_by d f)) next, it.2 ∙ ap (λ (d : ℕ). Some (dependency w d m.device.cells f)) next)

-- ---- devices powered up

pub powered_at : (ms : List Member) (i : ℕ) (p : MeantMember) → slice_get (map powered_up ms) i ≡ Some p → (m : Member) × (slice_get ms i ≡ Some m) × (powered_up m ≡ p)
powered_at [] i p at = absurd (none-some p at)
powered_at (m ∷ ms) zero p at = (m, refl, same_Some (powered_up m) p at)
powered_at (m ∷ ms) (suc i) p at = powered_at ms i p at

pub there_powered : (ms : List Member) (i : ℕ) (m : Member) → slice_get ms i ≡ Some m → slice_get (map powered_up ms) i ≡ Some (powered_up m)
there_powered ms i m at = slice_get-map powered_up ms i ∙ ap (option_map powered_up) at

-- ---- how many there are

pub as_many : (w : Wiring) (first : ℕ) (ms : List Member) → length (placed_from first ms) ≡ length (dependencies_from w first ms)
as_many w first [] = refl
as_many w first (m ∷ ms) =
    let rest = as_many w (suc first) ms in
    omega (
      arith,
      rest,
      length-append (map (placed_by first) m.follows) (placed_from (suc first) ms),
      length-append (map (dependency w first m.device.cells) m.follows) (dependencies_from w (suc first) ms),
      length-map m.follows (placed_by first),
      length-map m.follows (dependency w first m.device.cells),
    )
