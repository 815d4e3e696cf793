-- What comes out is the joined registers and then what goes in, and each bit of that stands at its origin.
use Rattle.std.proofs.Common.{◌≡◌, ◌≢◌, Bool, true, false, ℕ, zero, suc, ◌+◌, ◌-◌, ◌<◌, ◌≤◌, List, [], ◌∷◌, ◌++◌, length, refl, sym, ap, ◌∙◌, arith, append_assoc, slice_get, inl, inr}
use Rattle.std.specs.Prelude.{nat_lt, if◌then◌else◌}
use Rattle.std.proofs.lemmas.Bool.{cases_lt, lt-ltb, le-ltb}
use Rattle.jt_tap.specs.declared.Column.{Column}
use Rattle.board_model.specs.Cells.{Member}
use Rattle.board_model.specs.Whole.{selected_bits_of, joined_bits}
use Rattle.board_reasons.specs.declared.origins.Origin.{Origin}
use Rattle.board_reasons.specs.declared.origins.Origin.TheVariants.{Register, Tdi}
use Rattle.board_reasons.specs.Origins.{origin, origin_from, bit_there}
use Rattle.board_reasons.specs.Turned.{turned, turned_member, turned_device, members_turned, tdi_turned}
use Rattle.board_reasons.proofs.Lists.{get_front, get_behind, turned_front, turned_behind, turned_long, turned_other}
use Rattle.board_reasons.proofs.Registers.{selected_turned}

-- the same place, of a chain with one device more before it
abbrev pub one_further : Origin → Origin
one_further (Register device bit) = Register (suc device) bit
one_further (Tdi bit) = Tdi bit

unfoldable pub stream : Column → List Member → List Bool → List Bool
stream column ms t = joined_bits column ms ++ t

-- the register nearest TDO, and the rest
parted : (column : Column) (m : Member) (ms : List Member) (t : List Bool) → stream column (m ∷ ms) t ≡ selected_bits_of column m ++ stream column ms t
unfolding stream
parted column m ms t = append_assoc (selected_bits_of column m) (joined_bits column ms) t

pub origin_further : (column : Column) (device : ℕ) (ms : List Member) (k : ℕ) → origin_from column (suc device) ms k ≡ one_further (origin_from column device ms k)
origin_further column device [] k = refl
origin_further column device (m ∷ ms) k =
    by_test (nat_lt k (length (selected_bits_of column m))) _ _ (origin_further column (suc device) ms (k - length (selected_bits_of column m)))
  where
    by_test : (b : Bool) (x y : Origin) → x ≡ one_further y → (if b then Register (suc device) k else x) ≡ one_further (if b then Register device k else y)
    by_test true x y e = refl
    by_test false x y e = e

origin_near : (column : Column) (m : Member) (ms : List Member) (k : ℕ) → k < length (selected_bits_of column m) → origin column (m ∷ ms) k ≡ Register 0 k
origin_near column m ms k inside =
    let n = length (selected_bits_of column m) in
    ap (λ b. if b then Register 0 k else origin_from column 1 ms (k - n)) (lt-ltb k n inside)

origin_far : (column : Column) (m : Member) (ms : List Member) (k : ℕ) → length (selected_bits_of column m) ≤ k
    → origin column (m ∷ ms) k ≡ one_further (origin column ms (k - length (selected_bits_of column m)))
origin_far column m ms k past =
    let n = length (selected_bits_of column m) in
    ap (λ b. if b then Register 0 k else origin_from column 1 ms (k - n)) (le-ltb k n past) ∙ origin_further column 0 ms (k - n)

there_further : (column : Column) (m : Member) (ms : List Member) (t : List Bool) (o : Origin) → bit_there column (m ∷ ms) t (one_further o) ≡ bit_there column ms t o
there_further column m ms t (Register device bit) = refl
there_further column m ms t (Tdi bit) = refl

-- the bit of the stream is the bit at its origin
pub there : (column : Column) (ms : List Member) (t : List Bool) (k : ℕ) → slice_get (stream column ms t) k ≡ bit_there column ms t (origin column ms k)
unfolding stream
there column [] t k = refl
there column (m ∷ ms) t k =
    let own = selected_bits_of column m in
    ap (λ l. slice_get l k) (parted column m ms t) ∙ elim (cases_lt k (length own)) [
      | inl inside ↦ get_front own (stream column ms t) k inside ∙ sym (ap (bit_there column (m ∷ ms) t) (origin_near column m ms k inside))
      | inr past ↦
          let j = k - length own in
          get_behind own (stream column ms t) k j (omega (arith, past)) ∙ there column ms t j
          ∙ sym (ap (bit_there column (m ∷ ms) t) (origin_far column m ms k past) ∙ there_further column m ms t (origin column ms j))
    ]

-- the stream with the bit there turned
abbrev pub stream_turned : Column → Origin → List Member → List Bool → List Bool
stream_turned column o ms t = stream column (members_turned column o ms) (tdi_turned o t)

turned_near : (column : Column) (m : Member) (ms : List Member) (t : List Bool) (bit : ℕ)
    → stream_turned column (Register 0 bit) (m ∷ ms) t ≡ turned bit (selected_bits_of column m) ++ stream column ms t
turned_near column m ms t bit =
    parted column (turned_member column bit m) ms t ∙ ap (λ l. l ++ stream column ms t) (selected_turned column bit m)

turned_far : (column : Column) (m : Member) (ms : List Member) (t : List Bool) (o : Origin)
    → stream_turned column (one_further o) (m ∷ ms) t ≡ selected_bits_of column m ++ stream_turned column o ms t
turned_far column m ms t (Register device bit) = parted column m (turned_device column device bit ms) t
turned_far column m ms t (Tdi bit) = parted column m ms (turned bit t)

-- with the bit at the origin turned, that bit of the stream is
pub turns : (column : Column) (ms : List Member) (t : List Bool) (k : ℕ) → stream_turned column (origin column ms k) ms t ≡ turned k (stream column ms t)
unfolding stream
turns column [] t k = refl
turns column (m ∷ ms) t k =
    let own = selected_bits_of column m in
    elim (cases_lt k (length own)) [
      | inl inside ↦ ap (λ o. stream_turned column o (m ∷ ms) t) (origin_near column m ms k inside) ∙ turned_near column m ms t k
          ∙ turned_front own (stream column ms t) k inside ∙ sym (ap (turned k) (parted column m ms t))
      | inr past ↦
          let j = k - length own in
          ap (λ o. stream_turned column o (m ∷ ms) t) (origin_far column m ms k past) ∙ turned_far column m ms t (origin column ms j)
          ∙ ap (λ l. own ++ l) (turns column ms t j) ∙ turned_behind own (stream column ms t) k j (omega (arith, past))
          ∙ sym (ap (turned k) (parted column m ms t))
    ]

-- a bit behind the first device's, with any other behind it turned, stays where it stays behind it
behind : (column : Column) (m : Member) (ms : List Member) (t : List Bool) (k : ℕ) (o : Origin) → one_further o ≢ origin column (m ∷ ms) k
    → ((j : ℕ) → o ≢ origin column ms j → slice_get (stream_turned column o ms t) j ≡ slice_get (stream column ms t) j)
    → slice_get (stream_turned column (one_further o) (m ∷ ms) t) k ≡ slice_get (stream column (m ∷ ms) t) k
behind column m ms t k o other stays =
    let own = selected_bits_of column m in
    let rest = stream column ms t in
    let after = stream_turned column o ms t in
    ap (λ l. slice_get l k) (turned_far column m ms t o) ∙ elim (cases_lt k (length own)) [
      | inl inside ↦ get_front own after k inside ∙ sym (get_front own rest k inside)
      | inr past ↦
          let j = k - length own in
          let e : k ≡ length own + j = omega (arith, past) in
          get_behind own after k j e ∙ stays j (λ same. other (ap one_further same ∙ sym (origin_far column m ms k past)))
          ∙ sym (get_behind own rest k j e)
    ] ∙ sym (ap (λ l. slice_get l k) (parted column m ms t))

-- with any other bit turned, it stays
pub others_stay : (column : Column) (ms : List Member) (t : List Bool) (k : ℕ) (o : Origin) → o ≢ origin column ms k
    → slice_get (stream_turned column o ms t) k ≡ slice_get (stream column ms t) k
unfolding stream
others_stay column [] t k (Register device bit) other = refl
others_stay column [] t k (Tdi bit) other = turned_other k bit t (λ e. other (ap Tdi e))
others_stay column (m ∷ ms) t k (Register zero bit) other =
    let own = selected_bits_of column m in
    let rest = stream column ms t in
    ap (λ l. slice_get l k) (turned_near column m ms t bit) ∙ elim (cases_lt k (length own)) [
      | inl inside ↦
          get_front (turned bit own) rest k (omega (arith, inside, turned_long bit own))
          ∙ turned_other k bit own (λ e. other (ap (Register 0) e ∙ sym (origin_near column m ms k inside)))
          ∙ sym (get_front own rest k inside)
      | inr past ↦
          let j = k - length own in
          get_behind (turned bit own) rest k j (omega (arith, past, turned_long bit own)) ∙ sym (get_behind own rest k j (omega (arith, past)))
    ] ∙ sym (ap (λ l. slice_get l k) (parted column m ms t))
others_stay column (m ∷ ms) t k (Register (suc device) bit) other = behind column m ms t k (Register device bit) other (λ j e. others_stay column ms t j (Register device bit) e)
others_stay column (m ∷ ms) t k (Tdi bit) other = behind column m ms t k (Tdi bit) other (λ j e. others_stay column ms t j (Tdi bit) e)
