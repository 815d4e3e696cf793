-- What every schedule keeps: the pipes hold what was sent and not yet taken, and both ends are inside the full play.
use Rattle.std.proofs.Common.{◌≡◌, Bool, true, false, not, ◌||◌, ℕ, zero, suc, ◌+◌, ◌-◌, ◌≤◌, min, List, [], ◌∷◌, ◌++◌, map, length, take, drop, refl, sym, ap, ◌∙◌, subst, arith, append_assoc, append-nil, length-append, length-drop, length-take, take-append-drop, Option, Some}
use Rattle.std.proofs.Math.Seq.{drop-append_seam}
use Rattle.std.proofs.lemmas.Bool.{ltb-true}
use Rattle.std.proofs.lemmas.List.{map-append, take-map}
use Rattle.std.specs.Prelude.{if◌then◌else◌}
use Rattle.bitbang_protocol.specs.declared.Message.{Message}
use Rattle.bitbang_protocol.specs.declared.Message.TheVariants.{Write, Ask, Quit, Light, Lines}
use Rattle.bitbang_protocol.specs.Protocol.{encode}
use Rattle.bitbang_protocol.proofs.Bytes.{decode-encode}
use Rattle.board_model.specs.Chain.{BoardState, Heard, answers, hear, after_message}
use Rattle.play_model.specs.Events.{Event, Put, Serve, Take, Lose, World, Known, Side, by_answers, before_events, has_room, after_byte_taken, served, put_bytes, take_answers, happens, run, taken_at, taken_over}
use Rattle.play_model.proofs.GrowthByPrefix.{hear-append}
use Rattle.play_model.specs.Fronts.{IsPrefix}
use Rattle.play_model.proofs.Fronts.{empty-length, front-trans, front-left}
use Rattle.play_model.proofs.MovingEvents.{take-is, took_answers}
use Rattle.play_model.proofs.Quits.{has_quit, quit-append, or-right}

-- What a play is to a schedule: the player's messages grow with the answers, for all answers they are the full play's, which
-- the board answers by all answers; `Quit` is sent for all answers alone, and last.
pub record IsPlay (sends : List Bool → List Message) (b after : BoardState) (messages : List Message) (all : List Bool) : Type 0 where
  pub grows : (got more : List Bool) → IsPrefix (sends got) (sends (got ++ more))
  pub sent : sends all ≡ messages
  pub heard : hear messages b ≡ record { answers = all; board = after }
  pub whole : (got more : List Bool) → got ++ more ≡ all → has_quit (sends got) ≡ true → more ≡ []
  pub last : (ms rest : List Message) → ms ++ rest ≡ messages → has_quit ms ≡ true → rest ≡ []
  pub quits : has_quit messages ≡ true

abbrev pub side_of : (List Bool → List Message) → Side Known
side_of sends = by_answers (λ got. map encode (sends got))

pub hear-front : (xs ys : List Message) (b : BoardState) → IsPrefix xs ys → IsPrefix (hear xs b).answers (hear ys b).answers
hear-front xs ys b p = (
  (hear p.0 (hear xs b).board).answers,
  sym (ap (λ h. h.answers) (hear-append xs p.0 b)) ∙ ap (λ ms. (hear ms b).answers) p.1,
)

drop-map : (n : ℕ) (ms : List Message) → drop n (map encode ms) ≡ map encode (drop n ms)
drop-map zero ms = refl
drop-map (suc n) [] = refl
drop-map (suc n) (m ∷ ms) = drop-map n ms

pub length-encoded : (ms : List Message) → length (map encode ms) ≡ length ms
length-encoded [] = refl
length-encoded (m ∷ ms) = ap (λ n. suc n) (length-encoded ms)

take-seam : (xs ys : List ℕ) → take (length xs) (xs ++ ys) ≡ xs
take-seam [] ys = refl
take-seam (x ∷ xs) ys = ap (λ r. x ∷ r) (take-seam xs ys)

module _ (sends : List Bool → List Message) (b after : BoardState) (messages : List Message) (all : List Bool) (down_room up_room : ℕ) where
  -- The board took these messages, and these are in the down pipe.
  pub record Inside (took queued : List Message) (w : World Known) : Type 0 where
    pub down : w.down ≡ map encode queued
    pub given : w.player.given ≡ length (took ++ queued)
    pub sent : IsPrefix (took ++ queued) (sends w.player.got)
    pub told : hear took b ≡ record { answers = w.player.got ++ w.up; board = w.board }
    pub answers : IsPrefix (w.player.got ++ w.up) all
    pub quit : w.quit ≡ has_quit took
    pub down_fits : length w.down ≤ down_room
    pub up_fits : length w.up ≤ up_room

  module _ (play : IsPlay sends b after messages all) where
    -- what the player may send for a front part of all answers is a front part of the full play
    pub sends-front : (got : List Bool) → IsPrefix got all → IsPrefix (sends got) messages
    sends-front got p = subst (λ ms. IsPrefix (sends got) ms) (ap sends p.1 ∙ play.sent) (play.grows got p.0)

    pub told-front : (took : List Message) (said : List Bool) (now : BoardState) → IsPrefix took messages
        → hear took b ≡ record { answers = said; board = now } → IsPrefix said all
    told-front took said now p e =
        subst (λ ys. IsPrefix said ys) (ap (λ h. h.answers) play.heard)
        (subst (λ xs. IsPrefix xs (hear messages b).answers) (ap (λ h. h.answers) e) (hear-front took messages b p))

    pub inside-fresh : IsPrefix [] all → Inside [] [] (before_events b)
    inside-fresh none = record {
      down = refl;
      given = refl;
      sent = (sends [], refl);
      told = refl;
      answers = none;
      quit = refl;
      down_fits = omega arith;
      up_fits = omega arith;
    }

    pub inside-put : (n : ℕ) (took queued : List Message) (w : World Known) → Inside took queued w
        → (more : List Message) × Inside took (queued ++ more) (put_bytes (side_of sends) down_room up_room n w)
    inside-put n took queued w i =
        let k = min n (down_room - length w.down) in
        let more = take k (drop w.player.given (sends w.player.got)) in
        let piece = take k ((side_of sends).waiting w.player) in
        let same : piece ≡ map encode more = ap (take k) (drop-map w.player.given (sends w.player.got)) ∙ take-map encode k (drop w.player.given (sends w.player.got)) in
        let rest : drop w.player.given (sends w.player.got) ≡ i.sent.0 =
        (λ j. drop (i.given j) (sym i.sent.1 j)) ∙ drop-append_seam (took ++ queued) i.sent.0 in
        let whole : (took ++ (queued ++ more)) ++ drop k i.sent.0 ≡ sends w.player.got =
        ap (λ l. l ++ drop k i.sent.0) (sym (append_assoc took queued more))
        ∙ append_assoc (took ++ queued) more (drop k i.sent.0)
        ∙ ap (λ l. (took ++ queued) ++ (take k l ++ drop k i.sent.0)) rest
        ∙ ap (λ l. (took ++ queued) ++ l) (take-append-drop k i.sent.0)
        ∙ i.sent.1 in
        let count : length piece ≡ length more = ap length same ∙ length-encoded more in (
          more,
          record {
            down = (λ j. i.down j ++ same j) ∙ sym (map-append encode queued more);
            given = (λ j. i.given j + count j) ∙ sym (length-append (took ++ queued) more) ∙ ap length (append_assoc took queued more);
            sent = (drop k i.sent.0, whole);
            told = i.told;
            answers = i.answers;
            quit = i.quit;
            down_fits = omega (arith, length-append w.down piece, length-take k ((side_of sends).waiting w.player), i.down_fits);
            up_fits = i.up_fits;
          },
        )

    inside-took : (n : ℕ) (took queued : List Message) (w : World Known) → Inside took queued w
        → Inside took queued (took_answers (λ got. map encode (sends got)) down_room up_room n w)
    inside-took n took queued w i =
        let same : w.player.got ++ w.up ≡ (w.player.got ++ take n w.up) ++ drop n w.up =
        ap (λ l. w.player.got ++ l) (sym (take-append-drop n w.up)) ∙ sym (append_assoc w.player.got (take n w.up) (drop n w.up)) in
        record {
          down = i.down;
          given = i.given;
          sent = front-trans _ _ _ i.sent (play.grows w.player.got (take n w.up));
          told = i.told ∙ (λ j. record { answers = same j; board = w.board });
          answers = subst (λ l. IsPrefix l all) same i.answers;
          quit = i.quit;
          down_fits = i.down_fits;
          up_fits = omega (arith, length-drop n w.up, i.up_fits);
        }

    pub inside-take : (n : ℕ) (took queued : List Message) (w : World Known) → Inside took queued w
        → Inside took queued (take_answers (side_of sends) down_room up_room n w)
    inside-take n took queued w i =
        subst (λ v. Inside took queued v) (sym (take-is (λ got. map encode (sends got)) down_room up_room n w)) (inside-took n took queued w i)

    -- the world after the board took a message
    abbrev heard_one : Message → List Message → World Known → World Known
    heard_one m queue w = record w {
      down = map encode queue;
      up = w.up ++ answers m w.board;
      board = after_message m w.board;
      quit = has_quit (m ∷ []);
    }

    taken-is : (m : Message) (queue : List Message) (w : World Known) → w.quit ≡ false → after_byte_taken (map encode queue) (Some m) w ≡ heard_one m queue w
    taken-is Ask queue w e = λ i. record w { down = map encode queue; up = w.up ++ answers Ask w.board; board = w.board; quit = e i }
    taken-is Quit queue w e = λ i. record w { down = map encode queue; up = sym (append-nil w.up) i; quit = true }
    taken-is (Write tck tms tdi) queue w e =
        λ i. record w { down = map encode queue; up = w.up ++ []; board = after_message (Write tck tms tdi) w.board; quit = e i }
    taken-is (Light l) queue w e = λ i. record w { down = map encode queue; up = w.up ++ []; board = w.board; quit = e i }
    taken-is (Lines t s) queue w e = λ i. record w { down = map encode queue; up = w.up ++ []; board = after_message (Lines t s) w.board; quit = e i }

    one-fits : (m : Message) (w : World Known) → has_room up_room w (Some m) ≡ true → length w.up ≤ up_room
        → length (w.up ++ answers m w.board) ≤ up_room
    one-fits Ask w room fits = omega (arith, length-append w.up (answers Ask w.board), ltb-true (length w.up) up_room room)
    one-fits Quit w room fits = omega (arith, length-append {A = Bool} w.up [])
    one-fits (Write tck tms tdi) w room fits = omega (arith, length-append {A = Bool} w.up [])
    one-fits (Light l) w room fits = omega (arith, length-append {A = Bool} w.up [])
    one-fits (Lines t s) w room fits = omega (arith, length-append {A = Bool} w.up [])

    inside-one : (m : Message) (took queue : List Message) (w : World Known) → w.quit ≡ false → has_room up_room w (Some m) ≡ true
        → Inside took (m ∷ queue) w → Inside (took ++ m ∷ []) queue (heard_one m queue w)
    inside-one m took queue w quit room i =
        let moved : took ++ m ∷ queue ≡ (took ++ m ∷ []) ++ queue = sym (append_assoc took (m ∷ []) queue) in
        let sent : IsPrefix ((took ++ m ∷ []) ++ queue) (sends w.player.got) = subst (λ l. IsPrefix l (sends w.player.got)) moved i.sent in
        let now : Heard = record { answers = w.player.got ++ w.up; board = w.board } in
        let grown : (w.player.got ++ w.up) ++ (answers m w.board ++ []) ≡ w.player.got ++ (w.up ++ answers m w.board) =
        append_assoc w.player.got w.up (answers m w.board ++ []) ∙ ap (λ l. w.player.got ++ (w.up ++ l)) (append-nil (answers m w.board)) in
        let told_now : hear (took ++ m ∷ []) b ≡ record { answers = w.player.got ++ (w.up ++ answers m w.board); board = after_message m w.board } =
        hear-append took (m ∷ []) b
        ∙ (λ j. record { answers = (i.told j).answers ++ (answers m (i.told j).board ++ []); board = after_message m (i.told j).board })
        ∙ (λ j. record { answers = grown j; board = after_message m w.board }) in
        let inside : IsPrefix (took ++ m ∷ []) messages =
        front-trans _ _ _ (front-left (took ++ m ∷ []) queue (sends w.player.got) sent) (sends-front w.player.got (front-left w.player.got w.up all i.answers)) in
        record {
          down = refl;
          given = i.given ∙ ap length moved;
          sent = sent;
          told = told_now;
          answers = told-front (took ++ m ∷ []) _ _ inside told_now;
          quit = sym (quit-append took (m ∷ []) ∙ or-right _ _ (sym i.quit ∙ quit));
          down_fits = omega (arith, length-encoded queue, ap length i.down, i.down_fits);
          up_fits = one-fits m w room i.up_fits;
        }

    -- what the board took of the queue, and what it left
    abbrev pub Served : (took queued : List Message) → World Known → Type 0
    Served took queued v = (ms rest : List Message) × (ms ++ rest ≡ queued) × Inside (took ++ ms) rest v

    serve-none : (took queued : List Message) (w : World Known) → Inside took queued w → Served took queued w
    serve-none took queued w i = ([], queued, refl, subst (λ l. Inside l queued w) (sym (append-nil took)) i)

    serve-more : (m : Message) (took queue : List Message) (v : World Known) → Served (took ++ m ∷ []) queue v → Served took (m ∷ queue) v
    serve-more m took queue v s =
        (m ∷ s.0, s.1, ap (λ l. m ∷ l) s.2, subst (λ l. Inside l s.1 v) (append_assoc took (m ∷ []) s.0) s.3)

    inside-served : (n : ℕ) (took queued : List Message) (w : World Known) → Inside took queued w
        → Served took queued (served up_room n (map encode queued) w)
    inside-served zero took queued w i = serve-none took queued w i
    inside-served (suc n) took [] w i = serve-none took [] w i
    inside-served (suc n) took (m ∷ queue) w i =
        subst (λ (o : Option Message). Served took (m ∷ queue) (after_byte o w.quit (has_room up_room w o))) (sym (decode-encode m))
        (one w.quit refl (has_room up_room w (Some m)) refl (λ v j. inside-served n (took ++ m ∷ []) queue v j))
      where
        after_byte : Option Message → Bool → Bool → World Known
        after_byte o quit room = if quit || not room then w else served up_room n (map encode queue) (after_byte_taken (map encode queue) o w)

        one : (quit : Bool) → w.quit ≡ quit → (room : Bool) → has_room up_room w (Some m) ≡ room
            → ((v : World Known) → Inside (took ++ m ∷ []) queue v → Served (took ++ m ∷ []) queue (served up_room n (map encode queue) v))
            → Served took (m ∷ queue) (after_byte (Some m) quit room)
        one true q room r rest = serve-none took (m ∷ queue) w i
        one false q false r rest = serve-none took (m ∷ queue) w i
        one false q true r rest =
            subst (λ (v : World Known). Served took (m ∷ queue) (served up_room n (map encode queue) v)) (sym (taken-is m queue w q))
            (serve-more m took queue _ (rest (heard_one m queue w) (inside-one m took queue w q r i)))

    -- after an event: what the board took, and that the pipes hold the rest
    abbrev pub Happened : (e : Event) → (took : List Message) → (w : World Known) → Type 0
    Happened e took w = (ms queued : List Message) × (taken_at (side_of sends) down_room up_room e w ≡ map encode ms)
        × Inside (took ++ ms) queued (happens (side_of sends) down_room up_room e w)

    unchanged : (took queued : List Message) (w : World Known) → Inside took queued w → Inside (took ++ []) queued w
    unchanged took queued w i = subst (λ l. Inside l queued w) (sym (append-nil took)) i

    -- the bytes that left the down pipe
    took-bytes : (ms rest queued : List Message) (took : List Message) (w v : World Known) → ms ++ rest ≡ queued → w.down ≡ map encode queued
        → Inside took rest v → take (length w.down - length v.down) w.down ≡ map encode ms
    took-bytes ms rest queued took w v parts down i =
        let whole : w.down ≡ map encode ms ++ map encode rest = down ∙ ap (map encode) (sym parts) ∙ map-append encode ms rest in
        let count : length w.down - length v.down ≡ length (map encode ms) =
        omega (arith, ap length whole, length-append (map encode ms) (map encode rest), ap length i.down) in
        (λ j. take (count j) (whole j)) ∙ take-seam (map encode ms) (map encode rest)

    took-nothing : (bytes : List ℕ) (n : ℕ) → take (n - n) bytes ≡ []
    took-nothing bytes n = ap (λ k. take k bytes) (zero n)
      where
        zero : (n : ℕ) → n - n ≡ 0
        zero n = omega arith

    pub inside-happens : (e : Event) (took queued : List Message) (w : World Known) → Inside took queued w → Happened e took w
    inside-happens (Put n) took queued w i = one (w.quit || w.lost) (inside-put n took queued w i)
      where
        one : (over : Bool) → ((more : List Message) × Inside took (queued ++ more) (put_bytes (side_of sends) down_room up_room n w))
            → (ms queue : List Message) × ([] ≡ map encode ms)
            × Inside (took ++ ms) queue (if over then w else put_bytes (side_of sends) down_room up_room n w)
        one true put = ([], queued, refl, unchanged took queued w i)
        one false put = ([], queued ++ put.0, refl, unchanged took (queued ++ put.0) _ put.1)
    inside-happens (Serve n) took queued w i =
        one (w.quit || w.lost) (subst (λ d. Served took queued (served up_room n d w)) (sym i.down) (inside-served n took queued w i))
      where
        after_serve : Bool → World Known
        after_serve over = if over then w else served up_room n w.down w

        one : (over : Bool) → Served took queued (served up_room n w.down w)
            → (ms queue : List Message) × (take (length w.down - length (after_serve over).down) w.down ≡ map encode ms)
            × Inside (took ++ ms) queue (after_serve over)
        one true s = ([], queued, took-nothing w.down (length w.down), unchanged took queued w i)
        one false s = (s.0, s.1, took-bytes s.0 s.1 queued (took ++ s.0) w _ s.2 i.down s.3, s.3)
    inside-happens (Take n) took queued w i = one (w.quit || w.lost) (inside-take n took queued w i)
      where
        one : (over : Bool) → Inside took queued (take_answers (side_of sends) down_room up_room n w)
            → (ms queue : List Message) × ([] ≡ map encode ms)
            × Inside (took ++ ms) queue (if over then w else take_answers (side_of sends) down_room up_room n w)
        one true t = ([], queued, refl, unchanged took queued w i)
        one false t = ([], queued, refl, unchanged took queued _ t)
    inside-happens Lose took queued w i = one w.quit
      where
        lose : Inside took queued (record w { lost = true })
        lose = record {
          down = i.down;
          given = i.given;
          sent = i.sent;
          told = i.told;
          answers = i.answers;
          quit = i.quit;
          down_fits = i.down_fits;
          up_fits = i.up_fits;
        }

        one : (over : Bool) → (ms queue : List Message) × ([] ≡ map encode ms) × Inside (took ++ ms) queue (if over then w else record w { lost = true })
        one true = ([], queued, refl, unchanged took queued w i)
        one false = ([], queued, refl, unchanged took queued _ lose)

    -- A whole schedule: from where the board took these messages, to where it took all these.
    pub record Reached (took_before : List Message) (es : List Event) (w : World Known) : Type 0 where
      pub took : List Message
      pub queued : List Message
      pub history : map encode took_before ++ taken_over (side_of sends) down_room up_room es w ≡ map encode took
      pub inside : Inside took queued (run (side_of sends) down_room up_room es w)

    pub reaches : (es : List Event) (took queued : List Message) (w : World Known) → Inside took queued w → Reached took es w
    reaches [] took queued w i = record { took = took; queued = queued; history = append-nil (map encode took); inside = i }
    reaches (e ∷ es) took queued w i =
        let h = inside-happens e took queued w i in
        let next = happens (side_of sends) down_room up_room e w in
        let later = taken_over (side_of sends) down_room up_room es next in
        let rest = reaches es (took ++ h.0) h.1 next h.3 in
        record {
          took = rest.took;
          queued = rest.queued;
          history = ap (λ l. map encode took ++ (l ++ later)) h.2 ∙ sym (append_assoc (map encode took) (map encode h.0) later)
              ∙ ap (λ l. l ++ later) (sym (map-append encode took h.0)) ∙ rest.history;
          inside = rest.inside;
        }

    -- once the board took `Quit`
    pub record Complete (took queued : List Message) (w : World Known) : Type 0 where
      pub took_all : took ≡ messages
      pub none_queued : queued ≡ []
      pub got_all : w.player.got ≡ all
      pub none_up : w.up ≡ []
      pub board : w.board ≡ after

    pub complete : (took queued : List Message) (w : World Known) → Inside took queued w → w.quit ≡ true → Complete took queued w
    complete took queued w i over =
        let got_front : IsPrefix w.player.got all = front-left w.player.got w.up all i.answers in
        let sends_in : IsPrefix (sends w.player.got) messages = sends-front w.player.got got_front in
        let out : IsPrefix (took ++ queued) messages = front-trans _ _ _ i.sent sends_in in
        let quit_taken : has_quit took ≡ true = sym i.quit ∙ over in
        let rest : queued ++ out.0 ≡ [] = play.last took (queued ++ out.0) (sym (append_assoc took queued out.0) ∙ out.1) quit_taken in
        let none = empty-append-left queued out.0 rest in
        let took_is : took ≡ messages = sym (append-nil took) ∙ ap (λ l. took ++ l) (sym rest) ∙ sym (append_assoc took queued out.0) ∙ out.1 in
        let heard_all : record { answers = w.player.got ++ w.up; board = w.board } ≡ record { answers = all; board = after } =
        same_heard (sym i.told ∙ ap (λ ms. hear ms b) took_is ∙ play.heard) in
        let sent_quit : has_quit (sends w.player.got) ≡ true = has-quit-front took (sends w.player.got) (front-left took queued (sends w.player.got) i.sent) quit_taken in
        let none_more : got_front.0 ≡ [] = play.whole w.player.got got_front.0 got_front.1 sent_quit in
        let got_is : w.player.got ≡ all = sym (append-nil w.player.got) ∙ ap (λ l. w.player.got ++ l) (sym none_more) ∙ got_front.1 in
        record {
          took_all = took_is;
          none_queued = none;
          got_all = got_is;
          none_up = empty-length w.up (omega (arith, length-append w.player.got w.up, ap (λ h. length h.answers) heard_all, ap length got_is));
          board = ap (λ h. h.board) heard_all;
        }
      where
        empty-append-left : (xs ys : List Message) → xs ++ ys ≡ [] → xs ≡ []
        empty-append-left [] ys e = refl
        empty-append-left (x ∷ xs) ys e = absurd (cc)

        same_heard : {x y : Heard} → x ≡ y → x ≡ y
        same_heard e = e

        has-quit-front : (xs ys : List Message) → IsPrefix xs ys → has_quit xs ≡ true → has_quit ys ≡ true
        has-quit-front xs ys p some = ap has_quit (sym p.1) ∙ quit-append xs p.0 ∙ ap (λ q. q || has_quit p.0) some
