-- Bytes that the board takes together are taken as one by one.
use Rattle.std.proofs.Common.{◌≡◌, Bool, true, false, not, ◌||◌, ℕ, zero, suc, ◌+◌, ◌-◌, ◌<◌, ◌≤◌, ◌==◌, List, [], ◌∷◌, ◌++◌, map, length, take, drop, refl, sym, ap, ap₂, ◌∙◌, subst, arith, append_assoc, append-nil, length-append, Option, Some, None}
use Rattle.std.specs.Prelude.{if◌then◌else◌, nat_lt}
use Rattle.std.proofs.lemmas.Bool.Decides.{nat_tests}
use Rattle.std.proofs.lemmas.List.{length-take-le, map-append, take-append-drop}
use Rattle.bitbang_protocol.specs.declared.Message.{Message}
use Rattle.bitbang_protocol.specs.declared.Message.TheVariants.{Write, Ask, Quit, Light, Lines}
use Rattle.bitbang_protocol.specs.Protocol.{answer, decode}
use Rattle.board_model.specs.Chain.{BoardState, after_byte, after_message, reply, reply_of, tdi_before}
use Rattle.board_model.specs.declared.Reply.{Reply}
use Rattle.board_model.specs.declared.Reply.TheVariants as said
use Rattle.play_model.specs.Events.{World, has_room, served, after_byte_taken}
use Rattle.play_model.specs.Streams.{StreamState}
use Rattle.play_model.specs.Histories.{bits_told}
use Rattle.play_links.specs.Leaving.{left_after, left_behind}
use Rattle.play_links.specs.Serves.{ServedBytes, serve_bytes, serve_one}
use Rattle.circular_buffer.specs.Buffer.{Buffer, buffer, keep_last}
use Rattle.play_pipes.specs.Joining.{AreAnswers, JoinedState, world_between}
use Rattle.play_pipes.specs.Together.{is_quit}
use Rattle.play_pipes.proofs.Steps.{stop_of, taken-down}

-- ---- what is left

short : (r : Reply) (bytes left : List ℕ) → length left ≤ length bytes → length (left_after r bytes left) ≤ length bytes
short said.Nothing bytes left h = h
short (said.Answer a) bytes left h = h
short said.Quit bytes left h = omega arith
short (said.Refused byte) bytes left h = omega arith

pub left_short : (bytes : List ℕ) (b : BoardState) → length (left_behind bytes b) ≤ length bytes
left_short [] b = omega arith
left_short (byte ∷ bytes) b =
    let less = short (reply byte b) bytes (left_behind bytes (after_byte byte b)) (left_short bytes (after_byte byte b)) in omega arith

-- some byte is taken where there is one
pub left_shorter : (bytes : List ℕ) (b : BoardState) → 0 < length bytes → length (left_behind bytes b) < length bytes
left_shorter [] b some = absurd (omega arith)
left_shorter (byte ∷ bytes) b some =
    let less = short (reply byte b) bytes (left_behind bytes (after_byte byte b)) (left_short bytes (after_byte byte b)) in omega arith

-- the bytes that are left are the last
pub left_last : (bytes : List ℕ) (b : BoardState) → left_behind bytes b ≡ drop (length bytes - length (left_behind bytes b)) bytes
left_last [] b = refl
left_last (byte ∷ bytes) b = one (left_last bytes (after_byte byte b)) (reply byte b)
  where
    next : BoardState
    next = after_byte byte b

    later : List ℕ
    later = left_behind bytes next

    one_more : (l : List ℕ) → length l ≤ length bytes → l ≡ drop (length bytes - length l) bytes → l ≡ drop (suc (length bytes) - length l) (byte ∷ bytes)
    one_more l less is =
        let k : suc (length bytes) - length l ≡ suc (length bytes - length l) = omega arith in
        is ∙ ap (λ (n : ℕ). drop n (byte ∷ bytes)) (sym k)

    all : bytes ≡ drop (length bytes - length bytes) bytes
    all = let k : length bytes - length bytes ≡ 0 = omega arith in ap (λ (n : ℕ). drop n bytes) (sym k)

    one : later ≡ drop (length bytes - length later) bytes → (r : Reply)
        → left_after r bytes later ≡ drop (suc (length bytes) - length (left_after r bytes later)) (byte ∷ bytes)
    one last said.Nothing = one_more later (left_short bytes next) last
    one last (said.Answer a) = one_more later (left_short bytes next) last
    one last said.Quit = one_more bytes (omega arith) all
    one last (said.Refused x) = one_more bytes (omega arith) all

pub drop-front : (n : ℕ) (xs ys : List ℕ) → n ≤ length xs → drop n (xs ++ ys) ≡ drop n xs ++ ys
drop-front zero xs ys h = refl
drop-front (suc n) [] ys h = absurd (omega arith)
drop-front (suc n) (x ∷ xs) ys h = drop-front n xs ys (omega arith)

-- ---- the answers

told : (bit : Bool) → (answer bit == 49) ≡ bit
told true = refl
told false = refl

pub told-both : (xs ys : List ℕ) → bits_told (xs ++ ys) ≡ bits_told xs ++ bits_told ys
told-both [] ys = refl
told-both (x ∷ xs) ys = ap (λ (l : List Bool). (x == 49) ∷ l) (told-both xs ys)

pub answers-both : (xs ys : List ℕ) → AreAnswers xs → AreAnswers ys → AreAnswers (xs ++ ys)
answers-both xs ys first second =
    ap₂ (λ (a b : List ℕ). a ++ b) first second ∙ sym (map-append answer (bits_told xs) (bits_told ys)) ∙ ap (map answer) (sym (told-both xs ys))

pub answers-served : (bytes : List ℕ) (b : BoardState) → AreAnswers (serve_bytes bytes b).answers
answers-served [] b = refl
answers-served (byte ∷ bytes) b = one (answers-served bytes) (decode byte)
  where
    one : ((c : BoardState) → AreAnswers (serve_bytes bytes c).answers) → (o : Option Message)
        → AreAnswers (serve_one (elim o [ Some m ↦ reply_of m b | None ↦ said.Refused byte ])
        (serve_bytes bytes (elim o [ Some m ↦ after_message m b | None ↦ b ])) (elim o [ Some m ↦ after_message m b | None ↦ b ])).answers
    one later None = refl
    one later (Some Quit) = refl
    one later (Some Ask) =
        ap₂ (λ (x : ℕ) (l : List ℕ). x ∷ l) (ap answer (sym (told (tdi_before true b.chips)))) (later (after_message Ask b))
    one later (Some (Write tck tms tdi)) = later (after_message (Write tck tms tdi) b)
    one later (Some (Light l)) = later (after_message (Light l) b)
    one later (Some (Lines t s)) = later (after_message (Lines t s) b)

-- ---- one by one

served-empty : (room n : ℕ) (w : World StreamState) → w.down ≡ [] → served room n w.down w ≡ w
served-empty room zero w e = refl
served-empty room (suc n) w e = ap (λ d. served room (suc n) d w) e

module _ (room b : ℕ) (bytes : List ℕ) (w : World StreamState) (e : w.down ≡ b ∷ bytes) where
  served-held : stop_of room w b ≡ true → (n : ℕ) → served room n w.down w ≡ w
  served-held s zero = refl
  served-held s (suc n) =
      ap (λ d. served room (suc n) d w) e ∙ ap (λ (q : Bool). if q then w else served room n bytes (after_byte_taken bytes (decode b) w)) s

  served-one : stop_of room w b ≡ false → (n : ℕ)
      → served room (suc n) w.down w ≡ served room n (after_byte_taken bytes (decode b) w).down (after_byte_taken bytes (decode b) w)
  served-one s n =
      ap (λ d. served room (suc n) d w) e ∙ ap (λ (q : Bool). if q then w else served room n bytes (after_byte_taken bytes (decode b) w)) s
      ∙ ap (λ d. served room n d (after_byte_taken bytes (decode b) w)) (sym (taken-down bytes (decode b) w))

-- so many bytes, then more
abbrev More : (room k m : ℕ) → World StreamState → Type 0
More room k m w = served room m (served room k w.down w).down (served room k w.down w) ≡ served room (k + m) w.down w

more-still : (room k m : ℕ) (w : World StreamState) → ((n : ℕ) → served room n w.down w ≡ w) → More room k m w
more-still room k m w still = ap (λ (v : World StreamState). served room m v.down v) (still k) ∙ still m ∙ sym (still (k + m))

more-next : (room k m : ℕ) (w v : World StreamState) → ((n : ℕ) → served room (suc n) w.down w ≡ served room n v.down v) → More room k m v → More room (suc k) m w
more-next room k m w v next later =
    let sum : suc k + m ≡ suc (k + m) = omega arith in
    ap (λ (u : World StreamState). served room m u.down u) (next k) ∙ later ∙ sym (next (k + m)) ∙ ap (λ n. served room n w.down w) (sym sum)

more-by : (room k m : ℕ) (w : World StreamState) → ((v : World StreamState) → More room k m v) → (down : List ℕ) → w.down ≡ down → More room (suc k) m w
more-by room k m w later [] e = more-still room (suc k) m w (λ n. served-empty room n w e)
more-by room k m w later (b ∷ bytes) e = by (stop_of room w b) refl
  where
    by : (stop : Bool) → stop_of room w b ≡ stop → More room (suc k) m w
    by true s = more-still room (suc k) m w (served-held room b bytes w e s)
    by false s =
        more-next room k m w (after_byte_taken bytes (decode b) w) (served-one room b bytes w e s) (later (after_byte_taken bytes (decode b) w))

pub served-more : (room k m : ℕ) (w : World StreamState) → More room k m w
served-more room zero m w = let sum : m ≡ zero + m = omega arith in ap (λ n. served room n w.down w) sum
served-more room (suc k) m w = more-by room k m w (served-more room k m) w.down refl

-- the world behind bytes that are taken together
abbrev pub together : (bytes rest : List ℕ) → World StreamState → World StreamState
together bytes rest w = record w {
  down = left_behind bytes w.board ++ rest;
  up = w.up ++ bits_told (serve_bytes bytes w.board).answers;
  board = (serve_bytes bytes w.board).board;
  quit = is_quit (serve_bytes bytes w.board).stop;
}

less : (room n : ℕ) → n < room → not (nat_lt n room) ≡ false
less room n h = grind (arith, nat_tests)

pub taken_together : (room : ℕ) (bytes rest : List ℕ) (w : World StreamState) → w.down ≡ bytes ++ rest → w.quit ≡ false → length bytes + length w.up ≤ room
    → served room (length bytes - length (left_behind bytes w.board)) w.down w ≡ together bytes rest w
taken_together room [] rest w down on fits = λ i. record w { down = down i; up = sym (append-nil w.up) i; quit = on i }
taken_together room (byte ∷ bytes) rest w down on fits =
    ap (λ (d : List ℕ). served room (suc (length bytes) - length (left_behind (byte ∷ bytes) w.board)) d w) down
    ∙ one (taken_together room bytes rest) (decode byte) refl
  where
    b : BoardState
    b = w.board

    behind : List ℕ
    behind = bytes ++ rest

    after : Option Message → BoardState
    after o = elim o [ Some m ↦ after_message m b | None ↦ b ]

    said_by : Option Message → Reply
    said_by o = elim o [ Some m ↦ reply_of m b | None ↦ said.Refused byte ]

    left : Option Message → List ℕ
    left o = left_after (said_by o) bytes (left_behind bytes (after o))

    all : Option Message → ServedBytes
    all o = serve_one (said_by o) (serve_bytes bytes (after o)) (after o)

    target : Option Message → World StreamState
    target o = record w { down = left o ++ rest; up = w.up ++ bits_told (all o).answers; board = (all o).board; quit = is_quit (all o).stop }

    taken : Option Message → World StreamState
    taken o = after_byte_taken behind o w

    -- a byte that is taken, and k more
    goes : (o : Option Message) (n k : ℕ) → decode byte ≡ o → n ≡ suc k → not (has_room room w o) ≡ false → served room n (byte ∷ behind) w ≡ served room k behind (taken o)
    goes o n k is count free =
        ap (λ (c : ℕ). served room c (byte ∷ behind) w) count
        ∙ ap (λ (p : Option Message). if w.quit || not (has_room room w p) then w else served room k behind (after_byte_taken behind p w)) is
        ∙ ap₂ (λ (q r : Bool). if q || r then w else served room k behind (taken o)) on free

    count : Option Message → ℕ
    count o = suc (length bytes) - length (left o)

    stops : suc (length bytes) - length bytes ≡ suc 0
    stops = omega arith

    more : (next : BoardState) → suc (length bytes) - length (left_behind bytes next) ≡ suc (length bytes - length (left_behind bytes next))
    more next = omega (arith, left_short bytes next)

    Later : Type 0
    Later = (v : World StreamState) → v.down ≡ bytes ++ rest → v.quit ≡ false → length bytes + length v.up ≤ room
        → served room (length bytes - length (left_behind bytes v.board)) v.down v ≡ together bytes rest v

    -- a byte without an answer
    quiet : Later → (m : Message) → taken (Some m) ≡ record w { down = behind; up = w.up ++ []; board = after_message m b } → left (Some m) ≡ left_behind bytes (after_message m b)
        → all (Some m) ≡ serve_bytes bytes (after_message m b) → decode byte ≡ Some m → not (has_room room w (Some m)) ≡ false
        → served room (count (Some m)) (byte ∷ behind) w ≡ target (Some m)
    quiet later m is left_is all_is said free =
        let next = after_message m b in
        let v : World StreamState = record w { down = behind; board = next } in
        let same : taken (Some m) ≡ v = is ∙ (λ i. record w { down = behind; up = append-nil w.up i; board = next }) in
        goes (Some m) (count (Some m)) (length bytes - length (left_behind bytes next)) said (ap (λ (l : List ℕ). suc (length bytes) - length l) left_is ∙ more next) free
        ∙ ap (λ (u : World StreamState). served room (length bytes - length (left_behind bytes next)) behind u) same
        ∙ later v refl on (omega arith)
        ∙ (λ i. record w {
          down = sym left_is i ++ rest;
          up = w.up ++ bits_told (sym all_is i).answers;
          board = (sym all_is i).board;
          quit = is_quit (sym all_is i).stop;
        })

    one : Later → (o : Option Message) → decode byte ≡ o → served room (count (decode byte)) (byte ∷ behind) w ≡ target (decode byte)
    one later o is = subst (λ (p : Option Message). served room (count p) (byte ∷ behind) w ≡ target p) (sym is) (by o is)
      where
        by : (o : Option Message) → decode byte ≡ o → served room (count o) (byte ∷ behind) w ≡ target o
        by None is =
            goes None (count None) 0 is stops refl
            ∙ (λ i. record w { down = behind; up = sym (append-nil w.up) i; quit = on i })
        by (Some Quit) is =
            goes (Some Quit) (count (Some Quit)) 0 is stops refl
            ∙ (λ i. record w { down = behind; up = sym (append-nil w.up) i; quit = true })
        by (Some Ask) is =
            let bit = tdi_before true b.chips in
            let v : World StreamState = record w { down = behind; up = w.up ++ bit ∷ []; board = after_message Ask b } in
            let k = length bytes - length (left_behind bytes b) in
            let rests = serve_bytes bytes b in
            goes (Some Ask) (count (Some Ask)) k is (more b) (less room (length w.up) (omega arith))
            ∙ later v refl on (omega (arith, length-append w.up (bit ∷ [])))
            ∙ (λ i. record w {
              down = left_behind bytes b ++ rest;
              up = (append_assoc w.up (bit ∷ []) (bits_told rests.answers) ∙ ap (λ (t : Bool). w.up ++ t ∷ bits_told rests.answers) (sym (told bit))) i;
              board = rests.board;
              quit = is_quit rests.stop;
            })
        by (Some (Write tck tms tdi)) is = quiet later (Write tck tms tdi) refl refl refl is refl
        by (Some (Light l)) is = quiet later (Light l) refl refl refl is refl
        by (Some (Lines t s)) is = quiet later (Lines t s) refl refl refl is refl

length-told : (xs : List ℕ) → length (bits_told xs) ≡ length xs
length-told [] = refl
length-told (x ∷ xs) = ap suc (length-told xs)

-- What stands of a pipe behind so many first bytes.
pub kept : (n k : ℕ) (items : List ℕ) → n ≡ length items - k → k ≤ length items → keep_last n items ≡ drop k items
kept n k items is within = let d : length items - n ≡ k = omega arith in ap (λ (m : ℕ). drop m items) d

-- The world behind bytes that are taken from the front of the down pipe.
module _ (player : StreamState) (board : BoardState) (down up : Buffer ℕ) (lost : Bool) (front back : List ℕ) (most : ℕ) where
  abbrev piece : List ℕ
  piece = take most front

  abbrev rest : List ℕ
  rest = drop most front ++ back

  abbrev joined : JoinedState
  joined = world_between player board down up false lost

  abbrev behind : List ℕ
  behind = left_behind piece board

  pub piece_taken : (bytes n : ℕ) (board' : BoardState) (down' up' : Buffer ℕ) (quit' : Bool) → front ++ back ≡ down.items → most ≤ length front → most + length up.items ≤ up.capacity
      → bytes ≡ length piece - length behind → n ≡ length down.items - bytes
      → board' ≡ (serve_bytes piece board).board → up' ≡ buffer (up.items ++ (serve_bytes piece board).answers) up.capacity
      → quit' ≡ is_quit (serve_bytes piece board).stop → down' ≡ buffer (keep_last n down.items) down.capacity
      → world_between player board' down' up' quit' lost ≡ record joined { world = served up.capacity bytes down.items joined.world }
  piece_taken bytes n board' down' up' quit' items within room count left board_is up_is quit_is down_is =
      (λ i. world_between player (board_is i) (down_is i) (up_is i) (quit_is i) lost)
      ∙ (λ i. record joined {
        world = record joined.world {
          down = (kept n bytes down.items left few ∙ ap (drop bytes) whole ∙ drop-front bytes piece rest some ∙ ap (λ (l : List ℕ). l ++ rest) (ap (λ (k : ℕ). drop k piece) count ∙ sym (left_last piece board))) i;
          up = told-both up.items (serve_bytes piece board).answers i;
          board = (serve_bytes piece board).board;
          quit = is_quit (serve_bytes piece board).stop;
        };
      })
      ∙ (λ i. record joined { world = (sym taken ∙ ap (λ (k : ℕ). served up.capacity k down.items joined.world) (sym count)) i })
    where
      whole : down.items ≡ piece ++ rest
      whole = sym items ∙ ap (λ (l : List ℕ). l ++ back) (sym (take-append-drop most front)) ∙ append_assoc piece (drop most front) back

      long : length piece ≡ most
      long = length-take-le most front within

      some : bytes ≤ length piece
      some = omega (arith, count)

      few : bytes ≤ length down.items
      few = omega (arith, some, ap length whole, length-append piece rest)

      taken : served up.capacity (length piece - length behind) down.items joined.world ≡ together piece rest joined.world
      taken = taken_together up.capacity piece rest joined.world whole refl (omega (arith, long, length-told up.items, room))

-- The loop's invariant, one piece on.
pub piece-keeps : (room n count more : ℕ) (w v start : World StreamState) → more ≤ n - count → v ≡ served room more w.down w
    → served room (n - count) w.down w ≡ served room n start.down start
    → served room (n - (count + more)) v.down v ≡ served room n start.down start
piece-keeps room n count more w v start within is rest =
    let left : n - (count + more) ≡ n - count - more = omega arith in
    let sum : more + (n - count - more) ≡ n - count = omega (arith, within) in
    ap (λ (u : World StreamState). served room (n - (count + more)) u.down u) is
    ∙ ap (λ (k : ℕ). served room k (served room more w.down w).down (served room more w.down w)) left
    ∙ served-more room more (n - count - more) w ∙ ap (λ (k : ℕ). served room k w.down w) sum ∙ rest
