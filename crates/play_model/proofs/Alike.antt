-- Two players that events cannot tell apart: over two pipes they go alike.
use Rattle.std.proofs.Common.{◌≡◌, Bool, true, false, not, ◌||◌, ℕ, zero, suc, ◌-◌, min, List, [], ◌∷◌, ◌++◌, length, take, drop, refl, sym, ap, subst, ◌∙◌, Option, Some, None}
use Rattle.std.specs.Prelude.{if◌then◌else◌}
use Rattle.bitbang_protocol.specs.declared.Message.{Message}
use Rattle.bitbang_protocol.specs.declared.Message.TheVariants.{Write, Ask, Quit, Light, Lines}
use Rattle.bitbang_protocol.specs.Protocol.{decode}
use Rattle.play_model.specs.Events.{Event, Put, Serve, Take, Lose, Side, World, happens, has_room, hear_bits, put_bytes, run, served, take_answers, after_byte_taken}
use Rattle.play_model.specs.StreamLaws.{with_player}

module _ {P Q : Type 0} (f : P → Q) where
  room-same : (capacity : ℕ) (w : World P) (o : Option Message) → has_room capacity (with_player f w) o ≡ has_room capacity w o
  room-same capacity w None = refl
  room-same capacity w (Some Ask) = refl
  room-same capacity w (Some Quit) = refl
  room-same capacity w (Some (Write tck tms tdi)) = refl
  room-same capacity w (Some (Light l)) = refl
  room-same capacity w (Some (Lines t s)) = refl

  taken-same : (bytes : List ℕ) (w : World P) (o : Option Message) → after_byte_taken bytes o (with_player f w) ≡ with_player f (after_byte_taken bytes o w)
  taken-same bytes w None = refl
  taken-same bytes w (Some Ask) = refl
  taken-same bytes w (Some Quit) = refl
  taken-same bytes w (Some (Write tck tms tdi)) = refl
  taken-same bytes w (Some (Light l)) = refl
  taken-same bytes w (Some (Lines t s)) = refl

  served-same : (capacity n : ℕ) (bytes : List ℕ) (w : World P) → served capacity n bytes (with_player f w) ≡ with_player f (served capacity n bytes w)
  served-same capacity zero bytes w = refl
  served-same capacity (suc n) [] w = refl
  served-same capacity (suc n) (b ∷ bytes) w =
      (λ i. if w.quit || not (room-same capacity w (decode b) i) then with_player f w else served capacity n bytes (taken-same bytes w (decode b) i))
      ∙ one (w.quit || not (has_room capacity w (decode b))) (served-same capacity n bytes (after_byte_taken bytes (decode b) w))
    where
      one : (stop : Bool) → served capacity n bytes (with_player f (after_byte_taken bytes (decode b) w)) ≡ with_player f (served capacity n bytes (after_byte_taken bytes (decode b) w))
          → (if stop then with_player f w else served capacity n bytes (with_player f (after_byte_taken bytes (decode b) w)))
          ≡ with_player f (if stop then w else served capacity n bytes (after_byte_taken bytes (decode b) w))
      one true rest = refl
      one false rest = rest

  -- a board's byte leaves the player
  taken-player : (bytes : List ℕ) (w : World P) (o : Option Message) → (after_byte_taken bytes o w).player ≡ w.player
  taken-player bytes w None = refl
  taken-player bytes w (Some Ask) = refl
  taken-player bytes w (Some Quit) = refl
  taken-player bytes w (Some (Write tck tms tdi)) = refl
  taken-player bytes w (Some (Light l)) = refl
  taken-player bytes w (Some (Lines t s)) = refl

  served-player : (capacity n : ℕ) (bytes : List ℕ) (w : World P) → (served capacity n bytes w).player ≡ w.player
  served-player capacity zero bytes w = refl
  served-player capacity (suc n) [] w = refl
  served-player capacity (suc n) (b ∷ bytes) w =
      one (w.quit || not (has_room capacity w (decode b))) (served-player capacity n bytes (after_byte_taken bytes (decode b) w) ∙ taken-player bytes w (decode b))
    where
      one : (stop : Bool) → (served capacity n bytes (after_byte_taken bytes (decode b) w)).player ≡ w.player
          → (if stop then w else served capacity n bytes (after_byte_taken bytes (decode b) w)).player ≡ w.player
      one true rest = refl
      one false rest = rest

-- What the second shows is what the first shows, wherever the first may be.
pub record IsAlike {P Q : Type 0} (a : Side P) (b : Side Q) (f : P → Q) (Ok : P → Type 0) : Type 1 where
  pub waiting : (p : P) → Ok p → b.waiting (f p) ≡ a.waiting p
  pub give : (n : ℕ) (p : P) → Ok p → b.give n (f p) ≡ f (a.give n p)
  pub hear : (bit : Bool) (p : P) → Ok p → b.hear bit (f p) ≡ f (a.hear bit p)
  pub gave : (n : ℕ) (p : P) → Ok p → Ok (a.give n p)
  pub heard : (bit : Bool) (p : P) → Ok p → Ok (a.hear bit p)

module _ {P Q : Type 0} (a : Side P) (b : Side Q) (f : P → Q) (Ok : P → Type 0) (like : IsAlike a b f Ok) (down_room up_room : ℕ) where
  hear-alike : (bits : List Bool) (p : P) → Ok p → hear_bits b bits (f p) ≡ f (hear_bits a bits p)
  hear-alike [] p ok = refl
  hear-alike (bit ∷ bits) p ok = ap (hear_bits b bits) (like.hear bit p ok) ∙ hear-alike bits (a.hear bit p) (like.heard bit p ok)

  heard-ok : (bits : List Bool) (p : P) → Ok p → Ok (hear_bits a bits p)
  heard-ok [] p ok = ok
  heard-ok (bit ∷ bits) p ok = heard-ok bits (a.hear bit p) (like.heard bit p ok)

  happens-alike : (e : Event) (w : World P) → Ok w.player → happens b down_room up_room e (with_player f w) ≡ with_player f (happens a down_room up_room e w)
  happens-alike (Put n) w ok = one (w.quit || w.lost)
    where
      k : ℕ
      k = min n (down_room - length w.down)

      piece : List ℕ
      piece = take k (a.waiting w.player)

      one : (over : Bool) → (if over then with_player f w else put_bytes b down_room up_room n (with_player f w))
          ≡ with_player f (if over then w else put_bytes a down_room up_room n w)
      one true = refl
      one false =
          (λ i. record {
            player = b.give (length (take k (like.waiting w.player ok i))) (f w.player);
            down = w.down ++ take k (like.waiting w.player ok i);
            up = w.up;
            board = w.board;
            quit = w.quit;
            lost = w.lost;
          })
          ∙ (λ i. record { player = like.give (length piece) w.player ok i; down = w.down ++ piece; up = w.up; board = w.board; quit = w.quit; lost = w.lost })
  happens-alike (Serve n) w ok = one (w.quit || w.lost)
    where
      one : (over : Bool) → (if over then with_player f w else served up_room n w.down (with_player f w)) ≡ with_player f (if over then w else served up_room n w.down w)
      one true = refl
      one false = served-same f up_room n w.down w
  happens-alike (Take n) w ok = one (w.quit || w.lost)
    where
      one : (over : Bool) → (if over then with_player f w else take_answers b down_room up_room n (with_player f w))
          ≡ with_player f (if over then w else take_answers a down_room up_room n w)
      one true = refl
      one false = λ i. record { player = hear-alike (take n w.up) w.player ok i; down = w.down; up = drop n w.up; board = w.board; quit = w.quit; lost = w.lost }
  happens-alike Lose w ok = one w.quit
    where
      one : (over : Bool) → (if over then with_player f w else record (with_player f w) { lost = true }) ≡ with_player f (if over then w else record w { lost = true })
      one true = refl
      one false = refl

  happens-ok : (e : Event) (w : World P) → Ok w.player → Ok (happens a down_room up_room e w).player
  happens-ok (Put n) w ok = one (w.quit || w.lost)
    where
      one : (over : Bool) → Ok (if over then w else put_bytes a down_room up_room n w).player
      one true = ok
      one false = like.gave (length (take (min n (down_room - length w.down)) (a.waiting w.player))) w.player ok
  happens-ok (Serve n) w ok = one (w.quit || w.lost)
    where
      one : (over : Bool) → Ok (if over then w else served up_room n w.down w).player
      one true = ok
      one false = subst Ok (sym (served-player f up_room n w.down w)) ok
  happens-ok (Take n) w ok = one (w.quit || w.lost)
    where
      one : (over : Bool) → Ok (if over then w else take_answers a down_room up_room n w).player
      one true = ok
      one false = heard-ok (take n w.up) w.player ok
  happens-ok Lose w ok = one w.quit
    where
      one : (over : Bool) → Ok (if over then w else record w { lost = true }).player
      one true = ok
      one false = ok

  pub run-alike : (es : List Event) (w : World P) → Ok w.player → run b down_room up_room es (with_player f w) ≡ with_player f (run a down_room up_room es w)
  run-alike [] w ok = refl
  run-alike (e ∷ es) w ok =
      ap (run b down_room up_room es) (happens-alike e w ok) ∙ run-alike es (happens a down_room up_room e w) (happens-ok e w ok)

  -- and wherever events lead the first, it may be
  pub run-ok : (es : List Event) (w : World P) → Ok w.player → Ok (run a down_room up_room es w).player
  run-ok [] w ok = ok
  run-ok (e ∷ es) w ok = run-ok es (happens a down_room up_room e w) (happens-ok e w ok)
