-- Idle bytes are passed a piece at a time.
use Rattle.std.proofs.Common.{◌≡◌, ℕ, zero, suc, ◌+◌, ◌-◌, ◌≤◌, Bool, true, false, ◌&&◌, List, [], ◌∷◌, length, take, drop, get_or, refl, ap, sym, ◌∙◌, subst, arith, ◌<◌}
use Rattle.std.specs.List.{list_all, prefix_len}
use Rattle.std.proofs.lemmas.List.Sums.{prefix_len-drop_yes, prefix_len-le-length, prefix_len_passes, AllPass-from_list_all}
use Rattle.std.proofs.lemmas.List.Elements.{All-get_or}
use Rattle.std.proofs.lemmas.List.{take_all}
use Rattle.std.proofs.lemmas.Option.{get_or_from_slice_get, slice_get_within}
use Rattle.std.specs.Prelude.{Some, slice_get}
use Rattle.bitbang_protocol.specs.Protocol.{decode}
use Rattle.jt_board.specs.Idling.{Moved, is_idle_byte, level}
use Rattle.jt_board.proofs.Idling.{idle_front, moved_none, moved_more}

module _ (p : ℕ → Bool) where
  -- the bytes of a piece of which each fits are passed over
  pub pass : (n : ℕ) (xs : List ℕ) → list_all p (take n xs) ≡ true → n ≤ length xs → prefix_len p xs ≡ n + prefix_len p (drop n xs)
  pass zero xs all le = omega arith
  pass (suc n) [] all le = absurd (omega (arith, le))
  pass (suc n) (x ∷ xs) all le = by (p x) refl all (pass n xs)
    where
      by : (b : Bool) → p x ≡ b → (b && list_all p (take n xs)) ≡ true
          → (list_all p (take n xs) ≡ true → n ≤ length xs → prefix_len p xs ≡ n + prefix_len p (drop n xs))
          → prefix_len p (x ∷ xs) ≡ suc n + prefix_len p (drop n xs)
      by true is rest more =
          let one : prefix_len p (x ∷ xs) ≡ 1 + prefix_len p xs = prefix_len-drop_yes p (x ∷ xs) 0 x (omega arith) is in
          omega (arith, one, more rest (omega (arith, le)))
      by false is rest more = absurd (cc)

-- ---- the level of TCK behind a run

pub idle_at : (bytes : List ℕ) (i : ℕ) → list_all is_idle_byte bytes ≡ true → i < length bytes → is_idle_byte (get_or bytes i 0) ≡ true
idle_at bytes i idle inside = All-get_or (λ b. is_idle_byte b ≡ true) bytes i 0 inside (AllPass-from_list_all is_idle_byte bytes idle)

moved_to : (bytes : List ℕ) (was : Bool) → list_all is_idle_byte bytes ≡ true → (i : ℕ) → i ≤ length bytes → (tck : Bool) × Moved (take i bytes) was tck
moved_to bytes was idle zero within = (was, moved_none was)
moved_to bytes was idle (suc i) within =
    let before = moved_to bytes was idle i (omega (arith, within)) in
    let next : i + 1 ≡ suc i = omega arith in
    let here = level (decode (get_or bytes i 0)) before.0 in (
      here,
      subst (λ (n : ℕ). Moved (take n bytes) was here) next
          (moved_more bytes i was before.0 (omega (arith, within)) (idle_at bytes i idle (omega (arith, within))) before.1),
    )

-- behind a run that has a byte it is that of its last
pub moved_last : (bytes : List ℕ) (was : Bool) (last : ℕ) → list_all is_idle_byte bytes ≡ true → slice_get bytes (length bytes - 1) ≡ Some last
    → (high : Bool) → ((before : Bool) → high ≡ level (decode last) before) → Moved bytes was high
moved_last bytes was last idle at_end high is =
    let i = length bytes - 1 in
    let inside : i < length bytes = slice_get_within bytes i last at_end in
    let here : get_or bytes i 0 ≡ last = get_or_from_slice_get bytes i last 0 at_end in
    let before = moved_to bytes was idle i (omega (arith, inside)) in
    let whole : take (i + 1) bytes ≡ bytes = take_all (i + 1) bytes (omega (arith, inside)) in
    subst (λ (t : Bool). Moved bytes was t) (ap (λ (b : ℕ). level (decode b) before.0) here ∙ sym (is before.0))
    (subst (λ (l : List ℕ). Moved l was (level (decode (get_or bytes i 0)) before.0)) whole
    (moved_more bytes i was before.0 inside (idle_at bytes i idle inside) before.1))

pub idle_before : (bytes : List ℕ) (n : ℕ) → n ≡ prefix_len is_idle_byte bytes → list_all is_idle_byte (take n bytes) ≡ true
idle_before bytes n count =
    idle_front bytes n (omega (arith, count, prefix_len-le-length is_idle_byte bytes))
    (λ k lt. prefix_len_passes is_idle_byte bytes k 0 (omega (arith, lt, count)))
