-- The player that is known by its answers goes, over two pipes, as the player of the laws, for any window and of both kinds.
use Rattle.std.proofs.Common.{◌≡◌, Bool, true, false, not, ◌||◌, ℕ, zero, suc, ◌+◌, ◌-◌, ◌<◌, ◌≤◌, ◌==◌, min, List, [], ◌∷◌, ◌++◌, map, length, take, drop, refl, sym, ap, ◌∙◌, subst, arith, append_assoc, append-nil, length-append, take-append-drop, count_by, Option, Some, None}
use Rattle.std.proofs.lemmas.List.{map-append}
use Rattle.std.proofs.lemmas.List.Recursion.{is_count_by}
use Rattle.std.specs.Prelude.{cond, if◌then◌else◌}
use Rattle.bitbang_protocol.specs.declared.Message.{Message}
use Rattle.bitbang_protocol.specs.declared.Message.TheVariants.{Write, Ask, Quit, Light, Lines}
use Rattle.bitbang_protocol.specs.Protocol.{answer, decode, encode}
use Rattle.board_model.specs.Chain.{BoardState}
use Rattle.play_model.specs.Events.{Event, Put, Serve, Take, Lose, Known, Side, World, by_answers, before_events as fresh_world, happens, has_room, hear_bits, put_bytes, run, served, take_answers, after_byte_taken}
use Rattle.play_model.specs.Play.{player, sent}
use Rattle.play_model.specs.Playing.{PlayerState, up_to_bad}
use Rattle.bitbang.specs.Steps.{Numbered, Program}
use Rattle.play_model.proofs.Asks.{asks, hear-asks}
use Rattle.play_model.specs.Fronts.{IsPrefix}
use Rattle.play_model.specs.ScheduleLaws.{Connection, full}
use Rattle.play_model.specs.declared.kind.Kind.{Kind}
use Rattle.play_model.specs.PlayingOn.{turns_for}
use Rattle.play_model.proofs.Fronts.{front-trans}
use Rattle.play_model.proofs.HonestLinks.{none-bad-any, told-bits}
use Rattle.play_model.proofs.InsideFullPlay.{inside-happens, length-encoded}
use Rattle.play_model.proofs.MovingEvents.{heard-is}
use Rattle.play_model.proofs.Quits.{asks-append}
use Rattle.play_model.proofs.SafetyLaws.{In, from-fresh, is-play}
use Rattle.play_model.specs.Histories.{answers_taken, bytes_of, given_out, owed, bytes_to_send}
use Rattle.play_model.specs.StreamLaws.{history_of, with_player}

-- a history, as events see it
abbrev pub side : Kind → ℕ → Side PlayerState
side kind window = record {
  waiting = bytes_to_send kind window;
  give = λ n p. record p { given = p.given + n };
  hear = λ bit p. record p { got = p.got ++ answers_taken kind window p (answer bit ∷ []) };
}

abbrev pub world_of : Program → World Known → World PlayerState
world_of program w = with_player (history_of program) w

-- the board's end does not see the player
room-same : (program : Program) (capacity : ℕ) (w : World Known) (o : Option Message) → has_room capacity (world_of program w) o ≡ has_room capacity w o
room-same program capacity w None = refl
room-same program capacity w (Some Ask) = refl
room-same program capacity w (Some Quit) = refl
room-same program capacity w (Some (Write tck tms tdi)) = refl
room-same program capacity w (Some (Light l)) = refl
room-same program capacity w (Some (Lines t s)) = refl

taken-same : (program : Program) (bytes : List ℕ) (w : World Known) (o : Option Message) → after_byte_taken bytes o (world_of program w) ≡ world_of program (after_byte_taken bytes o w)
taken-same program bytes w None = refl
taken-same program bytes w (Some Ask) = refl
taken-same program bytes w (Some Quit) = refl
taken-same program bytes w (Some (Write tck tms tdi)) = refl
taken-same program bytes w (Some (Light l)) = refl
taken-same program bytes w (Some (Lines t s)) = refl

served-same : (program : Program) (capacity n : ℕ) (bytes : List ℕ) (w : World Known) → served capacity n bytes (world_of program w) ≡ world_of program (served capacity n bytes w)
served-same program capacity zero bytes w = refl
served-same program capacity (suc n) [] w = refl
served-same program capacity (suc n) (b ∷ bytes) w =
    (λ i. if w.quit || not (room-same program capacity w (decode b) i) then world_of program w else served capacity n bytes (taken-same program bytes w (decode b) i))
    ∙ one (w.quit || not (has_room capacity w (decode b))) (served-same program capacity n bytes (after_byte_taken bytes (decode b) w))
  where
    one : (stop : Bool) → served capacity n bytes (world_of program (after_byte_taken bytes (decode b) w)) ≡ world_of program (served capacity n bytes (after_byte_taken bytes (decode b) w))
        → (if stop then world_of program w else served capacity n bytes (world_of program (after_byte_taken bytes (decode b) w)))
        ≡ world_of program (if stop then w else served capacity n bytes (after_byte_taken bytes (decode b) w))
    one true rest = refl
    one false rest = rest

-- what waits is the same
waiting-same : (kind : Kind) (window : ℕ) (program : Program) (p : Known)
    → bytes_to_send kind window (history_of program p) ≡ drop p.given (player window (turns_for kind program.steps) p.got)
waiting-same kind window program p =
    (λ i. if none-bad-any p.got i then [] else drop p.given (bytes_of kind window (history_of program p)))
    ∙ (λ i. drop p.given (player window (turns_for kind program.steps) (told-bits p.got i)))

-- an answer that is owed is taken
abbrev reads : List ℕ → ℕ
reads [] = 0
reads (b ∷ bytes) = cond (b == 82) (1 + reads bytes) (reads bytes)

ask-count : (ms : List Message) → reads (map encode ms) ≡ asks ms
ask-count [] = refl
ask-count (Ask ∷ ms) = let e = ask-count ms in omega arith
ask-count (Quit ∷ ms) = ask-count ms
ask-count (Write true true true ∷ ms) = ask-count ms
ask-count (Write true true false ∷ ms) = ask-count ms
ask-count (Write true false true ∷ ms) = ask-count ms
ask-count (Write true false false ∷ ms) = ask-count ms
ask-count (Write false true true ∷ ms) = ask-count ms
ask-count (Write false true false ∷ ms) = ask-count ms
ask-count (Write false false true ∷ ms) = ask-count ms
ask-count (Write false false false ∷ ms) = ask-count ms
ask-count (Light true ∷ ms) = ask-count ms
ask-count (Light false ∷ ms) = ask-count ms
ask-count (Lines true true ∷ ms) = ask-count ms
ask-count (Lines true false ∷ ms) = ask-count ms
ask-count (Lines false true ∷ ms) = ask-count ms
ask-count (Lines false false ∷ ms) = ask-count ms

ask-bytes : (ms : List Message) → count_by (λ b. b == 82) (map encode ms) ≡ asks ms
ask-bytes ms = sym (is_count_by reads (λ b. b == 82) refl (λ x xs. refl) (map encode ms)) ∙ ask-count ms

length-answers : (got : List Bool) → length (map answer got) ≡ length got
length-answers [] = refl
length-answers (g ∷ got) = ap (λ n. suc n) (length-answers got)

answers-append : (xs ys : List Bool) → map answer (xs ++ ys) ≡ map answer xs ++ map answer ys
answers-append [] ys = refl
answers-append (x ∷ xs) ys = ap (λ l. answer x ∷ l) (answers-append xs ys)

take-seam : (xs ys : List ℕ) (n : ℕ) → n ≡ length xs → take n (xs ++ ys) ≡ xs
take-seam [] ys n e = ap (λ k. take k ys) e
take-seam (x ∷ xs) ys n e = ap (λ k. take k (x ∷ xs ++ ys)) e ∙ ap (λ l. x ∷ l) (take-seam xs ys (length xs) refl)

taken-one : (y : Bool) (k : ℕ) → 0 < k → up_to_bad (take k (answer y ∷ [])) ≡ answer y ∷ []
taken-one y zero some = absurd (omega arith)
taken-one true (suc zero) some = refl
taken-one true (suc (suc k)) some = refl
taken-one false (suc zero) some = refl
taken-one false (suc (suc k)) some = refl

abbrev pub connection : Kind → (window down_room up_room : ℕ) → Connection
connection kind window down_room up_room = record { kind = kind; window = window; down_room = down_room; up_room = up_room }

module _ (kind : Kind) (window : ℕ) (program : Program) (b : BoardState) (down_room up_room : ℕ) where
  abbrev l : Connection
  l = connection kind window down_room up_room

  abbrev steps : List Numbered
  steps = program.steps

  -- all that is in the up pipe is owed, whatever further answers came
  owes : (took queued : List Message) (w : World Known) → In l steps b took queued w → (xs : List Bool)
      → IsPrefix xs w.up → length w.up ≤ length xs + owed kind window (history_of program (record { given = w.player.given; got = w.player.got ++ xs }))
  owes took queued w i xs front =
      omega (
        arith,
        owed-is,
        count,
        ask-bytes (took ++ queued),
        asks-append took queued,
        hear-asks took b,
        ap (λ h. length h.answers) i.told,
        length-append w.player.got w.up,
        length-append w.player.got xs,
        length-answers (w.player.got ++ xs),
      )
    where
      p : PlayerState
      p = history_of program (record { given = w.player.given; got = w.player.got ++ xs })

      S : List Message
      S = sent window (turns_for kind steps) (w.player.got ++ xs)

      out : IsPrefix (took ++ queued) S
      out = front-trans _ _ _ i.sent ((is-play kind window steps b).grows w.player.got xs)

      given_is : given_out kind window p ≡ map encode (took ++ queued)
      given_is =
          ap (λ g. take w.player.given (map encode (sent window (turns_for kind steps) g))) (told-bits (w.player.got ++ xs))
          ∙ ap (λ ms. take w.player.given (map encode ms)) (sym out.1)
          ∙ ap (take w.player.given) (map-append encode (took ++ queued) out.0)
          ∙ take-seam (map encode (took ++ queued)) (map encode out.0) w.player.given (i.given ∙ sym (length-encoded (took ++ queued)))

      count : count_by (λ b. b == 82) (given_out kind window p) ≡ count_by (λ b. b == 82) (map encode (took ++ queued))
      count = ap (count_by (λ b. b == 82)) given_is

      owed-is : owed kind window p ≡ count_by (λ b. b == 82) (given_out kind window p) - length p.got
      owed-is = ap (λ (bad : Bool). if bad then 0 else count_by (λ b. b == 82) (given_out kind window p) - length p.got) (none-bad-any (w.player.got ++ xs))

  -- answers from the up pipe are all taken
  hear-same : (took queued : List Message) (w : World Known) → In l steps b took queued w → (xs ys : List Bool) → IsPrefix (xs ++ ys) w.up
      → hear_bits (side kind window) ys (history_of program (record { given = w.player.given; got = w.player.got ++ xs }))
      ≡ history_of program (record { given = w.player.given; got = w.player.got ++ (xs ++ ys) })
  hear-same took queued w i xs [] front = λ j. history_of program (record { given = w.player.given; got = w.player.got ++ (sym (append-nil xs) j) })
  hear-same took queued w i xs (y ∷ ys) front =
      let p = history_of program (record { given = w.player.given; got = w.player.got ++ xs }) in
      let moved : xs ++ y ∷ ys ≡ (xs ++ y ∷ []) ++ ys = sym (append_assoc xs (y ∷ []) ys) in
      let here : IsPrefix xs w.up = (y ∷ ys ++ front.0, sym (append_assoc xs (y ∷ ys) front.0) ∙ front.1) in
      let room = owes took queued w i xs here in
      let some : 0 < owed kind window p = omega (arith, room, length-append xs (y ∷ ys ++ front.0), ap length here.1) in
      let one : (side kind window).hear y p ≡ history_of program (record { given = w.player.given; got = w.player.got ++ (xs ++ y ∷ []) }) =
      λ j. record {
        program = program;
        given = w.player.given;
        got = ((λ k. map answer (w.player.got ++ xs) ++ taken-one y (owed kind window p) some k) ∙ sym (answers-append (w.player.got ++ xs) (y ∷ []))
            ∙ ap (map answer) (append_assoc w.player.got xs (y ∷ []))) j;
      } in
      ap (hear_bits (side kind window) ys) one
      ∙ hear-same took queued w i (xs ++ y ∷ []) ys (subst (λ z. IsPrefix z w.up) moved front)
      ∙ (λ j. history_of program (record { given = w.player.given; got = w.player.got ++ sym moved j }))

  happens-same : (e : Event) (took queued : List Message) (w : World Known) → In l steps b took queued w
      → happens (side kind window) l.down_room l.up_room e (world_of program w)
      ≡ world_of program (happens (by_answers (player window (turns_for kind steps))) l.down_room l.up_room e w)
  happens-same (Put n) took queued w i = one (w.quit || w.lost)
    where
      k : ℕ
      k = min n (l.down_room - length w.down)

      one : (over : Bool) → (if over then world_of program w else put_bytes (side kind window) l.down_room l.up_room n (world_of program w))
          ≡ world_of program (if over then w else put_bytes (by_answers (player window (turns_for kind steps))) l.down_room l.up_room n w)
      one true = refl
      one false = λ j. record {
        player = record { program = program; given = w.player.given + length (take k (waiting-same kind window program w.player j)); got = map answer w.player.got };
        down = w.down ++ take k (waiting-same kind window program w.player j);
        up = w.up;
        board = w.board;
        quit = w.quit;
        lost = w.lost;
      }
  happens-same (Serve n) took queued w i = one (w.quit || w.lost)
    where
      one : (over : Bool) → (if over then world_of program w else served l.up_room n w.down (world_of program w))
          ≡ world_of program (if over then w else served l.up_room n w.down w)
      one true = refl
      one false = served-same program l.up_room n w.down w
  happens-same (Take n) took queued w i = one (w.quit || w.lost)
    where
      got : List Bool
      got = w.player.got

      player_same : hear_bits (side kind window) (take n w.up) (history_of program w.player)
          ≡ history_of program (hear_bits (by_answers (player window (turns_for kind steps))) (take n w.up) w.player)
      player_same =
          (λ j. hear_bits (side kind window) (take n w.up) (history_of program (record { given = w.player.given; got = sym (append-nil got) j })))
          ∙ hear-same took queued w i [] (take n w.up) (drop n w.up, take-append-drop n w.up)
          ∙ ap (history_of program) (sym (heard-is (player window (turns_for kind steps)) (take n w.up) w.player))

      one : (over : Bool) → (if over then world_of program w else take_answers (side kind window) l.down_room l.up_room n (world_of program w))
          ≡ world_of program (if over then w else take_answers (by_answers (player window (turns_for kind steps))) l.down_room l.up_room n w)
      one true = refl
      one false = λ j. record { player = player_same j; down = w.down; up = drop n w.up; board = w.board; quit = w.quit; lost = w.lost }
  happens-same Lose took queued w i = one w.quit
    where
      one : (over : Bool) → (if over then world_of program w else record (world_of program w) { lost = true }) ≡ world_of program (if over then w else record w { lost = true })
      one true = refl
      one false = refl

  run-same : (es : List Event) (took queued : List Message) (w : World Known) → In l steps b took queued w
      → run (side kind window) l.down_room l.up_room es (world_of program w)
      ≡ world_of program (run (by_answers (player window (turns_for kind steps))) l.down_room l.up_room es w)
  run-same [] took queued w i = refl
  run-same (e ∷ es) took queued w i =
      let now = happens (by_answers (player window (turns_for kind steps))) l.down_room l.up_room e w in
      let h = inside-happens (sent window (turns_for kind steps)) b (full kind steps b).board (full kind steps b).messages (full kind steps b).answers l.down_room l.up_room
      (is-play kind window steps b) e took queued w i in
      ap (run (side kind window) l.down_room l.up_room es) (happens-same e took queued w i)
      ∙ run-same es (took ++ h.0) h.1 now h.3

pub carried : (kind : Kind) (window : ℕ) (program : Program) (b : BoardState) (down_room up_room : ℕ) (es : List Event)
    → run (side kind window) down_room up_room es (world_of program (fresh_world b))
    ≡ world_of program (run (by_answers (player window (turns_for kind program.steps))) down_room up_room es (fresh_world b))
carried kind window program b down_room up_room es =
    run-same kind window program b down_room up_room es [] [] (fresh_world b) (from-fresh (connection kind window down_room up_room) program.steps b)
