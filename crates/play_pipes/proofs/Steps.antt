-- The steps of the pipes' loops.
use Rattle.std.proofs.Common.{◌≡◌, Bool, not, ◌||◌, ℕ, zero, suc, ◌+◌, ◌-◌, ◌<◌, ◌≤◌, min, ◌==◌, List, [], ◌∷◌, ◌++◌, map, length, take, drop, refl, sym, ap, ◌∙◌, arith, append_assoc, append-nil, length-append, length-drop, length-take, Option, Some, None}
use Rattle.std.proofs.Math.Seq.{take-add}
use Rattle.bitbang_protocol.specs.declared.Message.{Message}
use Rattle.bitbang_protocol.specs.declared.Message.TheVariants.{Write, Ask, Quit, Light, Lines}
use Rattle.bitbang_protocol.specs.Protocol.{answer, decode}
use Rattle.play_model.specs.Events.{World, has_room, hear_bits, put_bytes, take_answers, after_byte_taken}
use Rattle.play_model.specs.Streams.{StreamState, answers_taken, hear_bytes}
use Rattle.play_model.specs.Histories.{bits_told}
use Rattle.player.specs.Each.{hear_each}
use Rattle.player.proofs.BufferFills.{waiting-more}
use Rattle.play_pipes.specs.Joining.{AreAnswers, side}

abbrev Pipes : Type 0
Pipes = World StreamState

module _ (down_room up_room : ℕ) where
  abbrev takes : ℕ → Pipes → Pipes
  takes n w = take_answers side down_room up_room n w

  abbrev heard : Bool → List Bool → Pipes → Pipes
  heard x up w = record w { player = side.hear x w.player; up = up }

  -- some answers, then the others
  pub takes-more : (c m : ℕ) (w : Pipes) → takes m (takes c w) ≡ takes (c + m) w
  takes-more zero m w = ap (λ k. takes k w) (omega arith)
  takes-more (suc c) m w = one w.up (λ x up. takes-more c m (heard x up w))
    where
      next : suc c + m ≡ suc (c + m)
      next = omega arith

      none : (m : ℕ) → takes m (record w { up = [] }) ≡ takes (suc (c + m)) (record w { up = [] })
      none zero = refl
      none (suc m) = refl

      one : (up : List Bool) → ((x : Bool) (up : List Bool) → takes m (takes c (heard x up w)) ≡ takes (c + m) (heard x up w))
          → takes m (takes (suc c) (record w { up = up })) ≡ takes (suc c + m) (record w { up = up })
      one [] others = none m ∙ ap (λ k. takes k (record w { up = [] })) (sym next)
      one (x ∷ up) others = others x up ∙ ap (λ k. takes k (record w { up = x ∷ up })) (sym next)

  pub take-none : (m : ℕ) (w : Pipes) → length w.up ≡ 0 → takes m w ≡ w
  take-none m w e = one w.up m e
    where
      one : (up : List Bool) (m : ℕ) → length up ≡ 0 → takes m (record w { up = up }) ≡ record w { up = up }
      one [] zero e = refl
      one [] (suc m) e = refl
      one (x ∷ up) m e = absurd (omega arith)

pub taken-down : (bytes : List ℕ) (o : Option Message) (w : World StreamState) → (after_byte_taken bytes o w).down ≡ bytes
taken-down bytes None w = refl
taken-down bytes (Some Ask) w = refl
taken-down bytes (Some Quit) w = refl
taken-down bytes (Some (Write tck tms tdi)) w = refl
taken-down bytes (Some (Light l)) w = refl
taken-down bytes (Some (Lines t s)) w = refl

abbrev pub stop_of : ℕ → World StreamState → ℕ → Bool
stop_of room w b = w.quit || not (has_room room w (decode b))

same-take : (n : ℕ) (xs : List ℕ) → take (length (take n xs)) xs ≡ take n xs
same-take zero xs = refl
same-take (suc n) [] = refl
same-take (suc n) (x ∷ xs) = ap (λ l. x ∷ l) (same-take n xs)

-- a piece, then the others
module _ (down_room up_room : ℕ) where
  abbrev puts : ℕ → World StreamState → World StreamState
  puts n w = put_bytes side down_room up_room n w

  abbrev piece_of : ℕ → World StreamState → List ℕ
  piece_of n w = take (min n (down_room - length w.down)) (side.waiting w.player)

  put-count : (k : ℕ) (w : World StreamState) → length (puts k w).down ≡ length w.down + length (piece_of k w)
  put-count k w = length-append w.down (piece_of k w)

  pub put-step : (m k : ℕ) (w : World StreamState) → k ≤ m
      → puts (m - (length (puts k w).down - length w.down)) (puts k w) ≡ puts m w
  put-step m k w le =
      λ i. record w { player = player i; down = down i }
    where
      W : List ℕ
      W = side.waiting w.player

      first : List ℕ
      first = piece_of k w

      c : ℕ
      c = length first

      left : ℕ
      left = m - (length (puts k w).down - length w.down)

      second : List ℕ
      second = piece_of left (puts k w)

      left-is : left ≡ m - c
      left-is = omega (arith, put-count k w)

      second-is : second ≡ take (min (m - c) (down_room - length w.down - c)) (drop c W)
      second-is =
          let room : down_room - length (puts k w).down ≡ down_room - length w.down - c = omega (arith, put-count k w) in
          (λ i. take (min (left-is i) (room i)) (waiting-more w.player c i))

      within : (c ≤ k) × (c ≤ down_room - length w.down)
      within = (omega (arith, length-take (min k (down_room - length w.down)) W), omega (arith, length-take (min k (down_room - length w.down)) W))

      whole : first ++ second ≡ piece_of m w
      whole =
          let j = min (m - c) (down_room - length w.down - c) in
          let sum : c + j ≡ min m (down_room - length w.down) = omega (arith, within.0, within.1, le) in
          (λ i. sym (same-take (min k (down_room - length w.down)) W) i ++ second-is i)
          ∙ sym (take-add c j W)
          ∙ ap (λ n. take n W) sum

      player : side.give (length second) (side.give c w.player) ≡ side.give (length (piece_of m w)) w.player
      player =
          let count : w.player.given + c + length second ≡ w.player.given + length (piece_of m w) = omega (arith, length-append first second, ap length whole) in
          λ i. record w.player { given = count i }

      down : (w.down ++ first) ++ second ≡ w.down ++ piece_of m w
      down = append_assoc w.down first second ∙ ap (λ l. w.down ++ l) whole

  -- a piece of none: nothing waits, or there is no room
  pub put-none : (m k : ℕ) (w : World StreamState) → 0 < k → length (puts k w).down - length w.down ≡ 0 → puts m w ≡ w
  put-none m k w some none = λ i. record w { player = record w.player { given = given i }; down = down i }
    where
      r : ℕ
      r = down_room - length w.down

      W : List ℕ
      W = side.waiting w.player

      empty : piece_of m w ≡ []
      empty = empty-length (piece_of m w) (omega (arith, put-count k w, length-take (min k r) W, length-take (min m r) W))
        where
          empty-length : (xs : List ℕ) → length xs ≡ 0 → xs ≡ []
          empty-length [] e = refl
          empty-length (x ∷ xs) e = absurd (omega arith)

      given : w.player.given + length (piece_of m w) ≡ w.player.given
      given = omega (arith, ap length empty)

      down : w.down ++ piece_of m w ≡ w.down
      down = ap (λ l. w.down ++ l) empty ∙ append-nil w.down

-- The loops' invariants, one turn on.
pub take-keeps : (down_room up_room n count more : ℕ) (w v start : World StreamState) → more ≤ n - count
    → v ≡ take_answers side down_room up_room more w
    → take_answers side down_room up_room (n - count) w ≡ take_answers side down_room up_room n start
    → take_answers side down_room up_room (n - (count + more)) v ≡ take_answers side down_room up_room n start
take-keeps down_room up_room n count more w v start within is rest =
    let left : n - (count + more) ≡ n - count - more = omega arith in
    let sum : more + (n - count - more) ≡ n - count = omega (arith, within) in
    ap (λ u. take_answers side down_room up_room (n - (count + more)) u) is
    ∙ ap (λ k. take_answers side down_room up_room k (take_answers side down_room up_room more w)) left
    ∙ takes-more down_room up_room more (n - count - more) w
    ∙ ap (λ k. take_answers side down_room up_room k w) sum ∙ rest

-- Where a piece has none, none is left.
pub take-stops : (down_room up_room n count more : ℕ) (w v start : World StreamState)
    → v ≡ take_answers side down_room up_room more w → more ≡ 0 → (more ≡ 0 → length w.up ≡ 0)
    → take_answers side down_room up_room (n - count) w ≡ take_answers side down_room up_room n start
    → v ≡ take_answers side down_room up_room n start
take-stops down_room up_room n count more w v start is none empty rest =
    is ∙ take-none down_room up_room more w (empty none)
    ∙ sym (take-none down_room up_room (n - count) w (empty none)) ∙ rest

pub put-keeps : (down_room up_room n count more : ℕ) (w v start : World StreamState) → count < n
    → v ≡ put_bytes side down_room up_room (min (n - count) 64) w → more ≡ length v.down - length w.down
    → put_bytes side down_room up_room (n - count) w ≡ put_bytes side down_room up_room n start
    → (put_bytes side down_room up_room (n - (count + more)) v ≡ put_bytes side down_room up_room n start)
    × (length w.down + more ≡ length v.down) × (count + more ≤ n)
put-keeps down_room up_room n count more w v start some e moved rest =
    let m = n - count in
    let k = min m 64 in
    let piece = take (min k (down_room - length w.down)) (side.waiting w.player) in
    let grown : length v.down ≡ length w.down + length piece = ap (λ u. length u.down) e ∙ length-append w.down piece in
    let within : length piece ≤ m = omega (arith, length-take (min k (down_room - length w.down)) (side.waiting w.player)) in
    let next : n - (count + more) ≡ m - (length v.down - length w.down) = omega (arith, grown, moved) in (
      ap (λ j. put_bytes side down_room up_room j v) next
          ∙ ap (λ u. put_bytes side down_room up_room (m - (length u.down - length w.down)) u) e
          ∙ put-step down_room up_room m k w (omega arith) ∙ rest,
      omega (arith, grown, moved),
      omega (arith, grown, moved, within),
    )

-- a piece of answers, as bytes
pub answers-left : (c : ℕ) (items : List ℕ) → AreAnswers items → AreAnswers (drop c items)
answers-left zero items are = are
answers-left (suc c) [] are = refl
answers-left (suc c) (b ∷ items) are = let rest : items ≡ map answer (bits_told items) = cc in answers-left c items rest

told-left : (c : ℕ) (items : List ℕ) → bits_told (drop c items) ≡ drop c (bits_told items)
told-left zero items = refl
told-left (suc c) [] = refl
told-left (suc c) (b ∷ items) = told-left c items

hears : (k : ℕ) (items : List ℕ) (s : StreamState) → AreAnswers items
    → hear_each (take k items) s ≡ hear_bits side (take k (bits_told items)) s
hears zero items s are = refl
hears (suc k) [] s are = refl
hears (suc k) (b ∷ items) s are =
    let first : b ≡ answer (b == 49) = cc in
    let rest : items ≡ map answer (bits_told items) = cc in
    ap (λ (x : ℕ). hear_each (take k items) (hear_bytes (answers_taken 256 s (x ∷ [])) s)) first
    ∙ hears k items (side.hear (b == 49) s) rest

-- The world behind answers that are taken from the front of the up pipe.
pub take-piece : (down_room up_room count : ℕ) (w : World StreamState) (items : List ℕ) → AreAnswers items → w.up ≡ bits_told items
    → (player : StreamState) → player ≡ hear_each (take count items) w.player
    → record w { player = player; up = bits_told (drop count items) } ≡ take_answers side down_room up_room count w
take-piece down_room up_room count w items are is player heard =
    let now : hear_each (take count items) w.player ≡ hear_bits side (take count w.up) w.player =
    hears count items w.player are ∙ ap (λ (l : List Bool). hear_bits side (take count l) w.player) (sym is) in
    let left : bits_told (drop count items) ≡ drop count w.up = told-left count items ∙ ap (λ (l : List Bool). drop count l) (sym is) in
    λ i. record w { player = (heard ∙ now) i; up = left i }

pub take-front : (n : ℕ) (xs ys : List ℕ) → n ≤ length xs → take n (xs ++ ys) ≡ take n xs
take-front zero xs ys h = refl
take-front (suc n) [] ys h = absurd (omega arith)
take-front (suc n) (x ∷ xs) ys h = ap (λ l. x ∷ l) (take-front n xs ys (omega arith))
