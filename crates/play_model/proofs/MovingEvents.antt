-- What moves: each event adds what it moves to a sum that the full play bounds, and one that moves nothing changes nothing.
use Rattle.std.proofs.Common.{◌≡◌, Bool, true, false, not, ◌||◌, ℕ, zero, suc, ◌+◌, ◌-◌, ◌≤◌, min, List, [], ◌∷◌, ◌++◌, length, take, drop, refl, sym, ap, ◌∙◌, arith, append_assoc, append-nil, length-append, length-drop, length-take, take-append-drop, Option, Some, None}
use Rattle.std.specs.Prelude.{if◌then◌else◌}
use Rattle.bitbang_protocol.specs.declared.Message.{Message}
use Rattle.bitbang_protocol.specs.declared.Message.TheVariants.{Write, Ask, Quit, Light, Lines}
use Rattle.bitbang_protocol.specs.Protocol.{decode}
use Rattle.play_model.specs.Events.{Event, Put, Serve, Take, Lose, World, Known, by_answers, hear_bits, has_room, after_byte_taken, served, put_bytes, take_answers, happens, bytes_moved}
use Rattle.play_model.specs.Fair.{loses}
use Rattle.play_model.proofs.Fronts.{empty-length}

pub taken-down : {P : Type 0} (bytes : List ℕ) (o : Option Message) (w : World P) → (after_byte_taken bytes o w).down ≡ bytes
taken-down bytes None w = refl
taken-down bytes (Some Ask) w = refl
taken-down bytes (Some Quit) w = refl
taken-down bytes (Some (Write tck tms tdi)) w = refl
taken-down bytes (Some (Light l)) w = refl
taken-down bytes (Some (Lines t s)) w = refl

-- what the board takes leaves the player alone
pub record IsServed {P : Type 0} (w v : World P) : Type 0 where
  pub player : v.player ≡ w.player
  pub lost : v.lost ≡ w.lost
  pub down : length v.down ≤ length w.down

taken-is-served : {P : Type 0} (bytes : List ℕ) (o : Option Message) (w : World P) → length bytes ≤ length w.down → IsServed w (after_byte_taken bytes o w)
taken-is-served bytes None w le = record { player = refl; lost = refl; down = le }
taken-is-served bytes (Some Ask) w le = record { player = refl; lost = refl; down = le }
taken-is-served bytes (Some Quit) w le = record { player = refl; lost = refl; down = le }
taken-is-served bytes (Some (Write tck tms tdi)) w le = record { player = refl; lost = refl; down = le }
taken-is-served bytes (Some (Light l)) w le = record { player = refl; lost = refl; down = le }
taken-is-served bytes (Some (Lines t s)) w le = record { player = refl; lost = refl; down = le }

served-all : {P : Type 0} (w : World P) → IsServed w w
served-all w = record { player = refl; lost = refl; down = omega arith }

served-then : {P : Type 0} (u v w : World P) → IsServed u v → IsServed v w → IsServed u w
served-then u v w p q = record {
  player = q.player ∙ p.player;
  lost = q.lost ∙ p.lost;
  down = omega (arith, p.down, q.down);
}

pub is-served : {P : Type 0} (room n : ℕ) (bytes : List ℕ) (w : World P) → length bytes ≤ length w.down → IsServed w (served room n bytes w)
is-served room zero bytes w le = served-all w
is-served room (suc n) [] w le = served-all w
is-served room (suc n) (b ∷ bytes) w le =
    one (w.quit || not (has_room room w (decode b))) (taken-is-served bytes (decode b) w (omega arith))
    (is-served room n bytes (after_byte_taken bytes (decode b) w) (omega (arith, ap length (taken-down bytes (decode b) w))))
  where
    one : (stop : Bool) → IsServed w (after_byte_taken bytes (decode b) w)
        → IsServed (after_byte_taken bytes (decode b) w) (served room n bytes (after_byte_taken bytes (decode b) w))
        → IsServed w (if stop then w else served room n bytes (after_byte_taken bytes (decode b) w))
    one true p q = served-all w
    one false p q = served-then w _ _ p q

-- a board that takes nothing leaves all as it is
served-still : {P : Type 0} (room n : ℕ) (bytes : List ℕ) (w : World P) → bytes ≡ w.down → length w.down ≤ length (served room n bytes w).down → served room n bytes w ≡ w
served-still room zero bytes w e le = refl
served-still room (suc n) [] w e le = refl
served-still room (suc n) (b ∷ bytes) w e le = one (w.quit || not (has_room room w (decode b))) le
  where
    fewer : length (served room n bytes (after_byte_taken bytes (decode b) w)).down ≤ length bytes
    fewer =
        let shrinks = is-served room n bytes (after_byte_taken bytes (decode b) w) (omega (arith, ap length (taken-down bytes (decode b) w))) in
        omega (arith, shrinks.down, ap length (taken-down bytes (decode b) w))

    one : (stop : Bool) → length w.down ≤ length (if stop then w else served room n bytes (after_byte_taken bytes (decode b) w)).down
        → (if stop then w else served room n bytes (after_byte_taken bytes (decode b) w)) ≡ w
    one true le = refl
    one false le = absurd (omega (arith, fewer, ap length e))

-- the answers join those that the player has
pub heard-is : (sends : List Bool → List ℕ) (bits : List Bool) (p : Known) → hear_bits (by_answers sends) bits p ≡ record p { got = p.got ++ bits }
heard-is sends [] p = λ i. record p { got = sym (append-nil p.got) i }
heard-is sends (bit ∷ bits) p =
    heard-is sends bits (record p { got = p.got ++ bit ∷ [] }) ∙ (λ i. record p { got = append_assoc p.got (bit ∷ []) bits i })

-- bytes given out, bytes taken, answers taken
abbrev pub total : World Known → ℕ
total w = w.player.given + (w.player.given - length w.down) + length w.player.got

module _ (sends : List Bool → List ℕ) (down_room up_room : ℕ) where
  -- the world after up to n answers were taken
  abbrev pub took_answers : ℕ → World Known → World Known
  took_answers n w = record w { player = record w.player { got = w.player.got ++ take n w.up }; up = drop n w.up }

  pub take-is : (n : ℕ) (w : World Known) → take_answers (by_answers sends) down_room up_room n w ≡ took_answers n w
  take-is n w = λ i. record w { player = heard-is sends (take n w.up) w.player i; up = drop n w.up }

  abbrev pub next : Event → World Known → World Known
  next e w = happens (by_answers sends) down_room up_room e w

  -- Each event adds to the sum what it moves.
  pub total-moves : (e : Event) (w : World Known) → length w.down ≤ w.player.given → total (next e w) ≡ total w + bytes_moved (by_answers sends) down_room up_room e w
  total-moves (Put n) w le = one (w.quit || w.lost)
    where
      piece : List ℕ
      piece = take (min n (down_room - length w.down)) ((by_answers sends).waiting w.player)

      one : (over : Bool) → let v = if over then w else put_bytes (by_answers sends) down_room up_room n w in total v ≡ total w + (length v.down - length w.down)
      one true = omega arith
      one false = omega (arith, length-append w.down piece)
  total-moves (Serve n) w le = one (w.quit || w.lost) (is-served up_room n w.down w (omega arith))
    where
      one : (over : Bool) → IsServed w (served up_room n w.down w)
          → let v = if over then w else served up_room n w.down w in total v ≡ total w + (length w.down - length v.down)
      one true s = omega arith
      one false s = omega (arith, ap (λ k. k.given) s.player, ap (λ k. length k.got) s.player, s.down)
  total-moves (Take n) w le = one (w.quit || w.lost)
    where
      one : (over : Bool) → let v = if over then w else take_answers (by_answers sends) down_room up_room n w in
          total v ≡ total w + (length w.up - length v.up)
      one true = omega arith
      one false = omega (arith, ap total (take-is n w), length-append w.player.got (take n w.up), length-take n w.up, length-drop n w.up)
  total-moves Lose w le = one w.quit
    where
      one : (over : Bool) → let v = if over then w else record w { lost = true } in total v ≡ total w + 0
      one true = omega arith
      one false = omega arith

  -- An event that moves nothing changes nothing, unless it is a loss.
  pub still : (e : Event) (w : World Known) → loses e ≡ false → bytes_moved (by_answers sends) down_room up_room e w ≡ 0 → next e w ≡ w
  still (Put n) w l e = one (w.quit || w.lost) e
    where
      piece : List ℕ
      piece = take (min n (down_room - length w.down)) ((by_answers sends).waiting w.player)

      one : (over : Bool) → let v = if over then w else put_bytes (by_answers sends) down_room up_room n w in length v.down - length w.down ≡ 0 → v ≡ w
      one true e = refl
      one false e =
          let none : piece ≡ [] = empty-length piece (omega (arith, length-append w.down piece)) in
          let same : w.player.given + length piece ≡ w.player.given = omega (arith, ap length none) in
          λ i. record w { player = record w.player { given = same i }; down = ((ap (λ p. w.down ++ p) none) ∙ append-nil w.down) i }
  still (Serve n) w l e = one (w.quit || w.lost) e
    where
      one : (over : Bool) → let v = if over then w else served up_room n w.down w in length w.down - length v.down ≡ 0 → v ≡ w
      one true e = refl
      one false e = served-still up_room n w.down w refl (omega arith)
  still (Take n) w l e = one (w.quit || w.lost) e
    where
      one : (over : Bool) → let v = if over then w else take_answers (by_answers sends) down_room up_room n w in
          length w.up - length v.up ≡ 0 → v ≡ w
      one true e = refl
      one false e =
          let none : take n w.up ≡ [] = empty-length (take n w.up) (omega (arith, length-take n w.up, length-drop n w.up)) in
          let rest : drop n w.up ≡ w.up = ap (λ l. l ++ drop n w.up) (sym none) ∙ take-append-drop n w.up in
          take-is n w ∙ (λ i. record w { up = rest i; player = record w.player { got = ((ap (λ p. w.player.got ++ p) none) ∙ append-nil w.player.got) i } })
  still Lose w l e = absurd (cc)
