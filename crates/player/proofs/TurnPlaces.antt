-- A player within one turn, between two turns, and at the end.
use Rattle.std.proofs.Common.{◌≡◌, ◌⊎◌, Bool, true, false, ℕ, zero, suc, ◌+◌, ◌-◌, ◌<◌, ◌≤◌, List, [], ◌∷◌, ◌++◌, map, length, take, drop, refl, sym, ap, subst, ◌∙◌, append_assoc, arith, length-append, inl, inr, None}
use Rattle.std.proofs.Math.Seq.{drop-append-le, take-append-le}
use Rattle.std.proofs.lemmas.Bool.{ltb-true, ltb-false}
use Rattle.std.proofs.lemmas.List.{append-nil, map-append}
use Rattle.std.specs.Prelude.{nat_lt}
use Rattle.bitbang_protocol.specs.declared.Message.{Message}
use Rattle.bitbang_protocol.specs.declared.Message.TheVariants.{Ask, Light, Lines, Quit, Write}
use Rattle.bitbang_protocol.specs.Protocol.{encode}
use Rattle.svf_programs.specs.Steps.{Program}
use Rattle.play_model.specs.Play.{Turn, turns, up_to_asks}
use Rattle.play_model.specs.Streams as stream
use Rattle.play_model.specs.Streams.{may_send}
use Rattle.play_model.proofs.Asks.{AllAsk, asks, turns-ask}
use Rattle.play_model.proofs.Quits.{NoneQuit, has_quit, turns-no-quit}
use Rattle.player.specs.PlaceInPlay.{PlaceInPlay, messages_in, state_at, up_to_reads}
use Rattle.play_model.specs.InWork.{answers_in}
use Rattle.player.proofs.Ahead.{ahead, owes, sends-last, sends-short, sends-whole, stops_at, waits}
use Rattle.player.proofs.Window.{asks-split, in-bytes, up-to-all, up-to-front, up-to-past}

ask-of : (k : ℕ) (ts : List Turn) → AllAsk ts → (t : Turn) (rest : List Turn) → drop k ts ≡ t ∷ rest → asks t.messages ≡ length t.wants
ask-of k [] all t rest e = absurd (none k e)
  where
    none : (k : ℕ) → drop k [] ≡ t ∷ rest → ⊥
    none zero e = cc
    none (suc k) e = cc
ask-of zero (x ∷ ts) all t rest e = let same : x ≡ t = cc in subst (λ (y : Turn). asks y.messages ≡ length y.wants) same all.0
ask-of (suc k) (x ∷ ts) all t rest e = ask-of k ts all.1 t rest e

pub quit-of : (k : ℕ) (ts : List Turn) → NoneQuit ts → (t : Turn) (rest : List Turn) → drop k ts ≡ t ∷ rest → has_quit t.messages ≡ false
quit-of k [] all t rest e = absurd (none k e)
  where
    none : (k : ℕ) → drop k [] ≡ t ∷ rest → ⊥
    none zero e = cc
    none (suc k) e = cc
quit-of zero (x ∷ ts) all t rest e = let same : x ≡ t = cc in subst (λ (y : Turn). has_quit y.messages ≡ false) same all.0
quit-of (suc k) (x ∷ ts) all t rest e = quit-of k ts all.1 t rest e

quit-front : (g : ℕ) (ms : List Message) → has_quit ms ≡ false → has_quit (take g ms) ≡ false
quit-front zero ms none = refl
quit-front (suc g) [] none = refl
quit-front (suc g) (Quit ∷ ms) none = absurd (cc)
quit-front (suc g) (Ask ∷ ms) none = quit-front g ms none
quit-front (suc g) (Write tck tms tdi ∷ ms) none = quit-front g ms none
quit-front (suc g) (Light on ∷ ms) none = quit-front g ms none
quit-front (suc g) (Lines trst srst ∷ ms) none = quit-front g ms none

-- one more turn is over
more-in : (k : ℕ) (ts : List Turn) (t : Turn) (rest : List Turn) → drop k ts ≡ t ∷ rest
    → (messages_in (take (suc k) ts) ≡ messages_in (take k ts) ++ t.messages) × (answers_in (take (suc k) ts) ≡ answers_in (take k ts) + length t.wants)
more-in k [] t rest e = absurd (none k e)
  where
    none : (k : ℕ) → drop k [] ≡ t ∷ rest → ⊥
    none zero e = cc
    none (suc k) e = cc
more-in zero (x ∷ ts) t rest e =
    let same : x ≡ t = cc in
    (append-nil x.messages ∙ ap (λ (y : Turn). y.messages) same, (omega (arith, ap (λ (y : Turn). length y.wants) same)))
more-in (suc k) (x ∷ ts) t rest e =
    let more = more-in k ts t rest e in
    (ap (λ l. x.messages ++ l) more.0 ∙ sym (append_assoc x.messages (messages_in (take k ts)) t.messages), omega (arith, more.1))

-- The player is within a turn.
pub record IsIn (program : Program) (s : PlaceInPlay) (t : Turn) (later : List Turn) (owed : ℕ) : Type 0 where
  pub here : drop s.over (turns program.steps) ≡ t ∷ later
  pub within : s.gone ≤ length t.messages
  pub asked : asks (take s.gone t.messages) ≡ s.heard + owed
  pub allowed : owed ≤ 256
  pub fair : stops_at s ≡ true → 0 < s.heard

-- what waits, where no answer was bad: what the window allows of the turn, and where nothing is owed, what follows it
pub record Waits (waiting left : List ℕ) (owed : ℕ) : Type 0 where
  pub tail : List ℕ
  pub is : waiting ≡ up_to_reads left (256 - owed) ++ tail
  pub none : 0 < owed → tail ≡ []

module _ (program : Program) (s : PlaceInPlay) (t : Turn) (later : List Turn) (owed : ℕ) (i : IsIn program s t later owed) where
  pub fits : asks t.messages ≡ length t.wants
  fits = ask-of s.over (turns program.steps) (turns-ask program.steps) t later i.here

  -- some answers are not there, or all of them
  pub reached : s.heard + owed + asks (drop s.gone t.messages) ≡ length t.wants
  reached = omega (arith, i.asked, asks-split s.gone t.messages, fits)

  ahead-is : ahead program s i.fair ≡ may_send 256 (t ∷ later) s.heard (stops_at s)
  ahead-is = ap (λ (l : List Turn). may_send 256 l s.heard (stops_at s)) i.here

  -- all answers are there, so all of the turn may be sent
  record AllThere : Type 0 where
    follows : List Message
    is : ahead program s i.fair ≡ t.messages ++ follows

  all-there : s.heard ≡ length t.wants → AllThere
  all-there e = by (stops_at s) refl
    where
      by : (b : Bool) → stops_at s ≡ b → AllThere
      by true is = record { follows = Quit ∷ []; is = ahead-is ∙ ap (λ (b : Bool). may_send 256 (t ∷ later) s.heard b) is ∙ sends-last 256 t later s.heard e }
      by false is = record {
        follows = may_send 256 later 0 false;
        is = ahead-is ∙ ap (λ (b : Bool). may_send 256 (t ∷ later) s.heard b) is ∙ sends-whole 256 t later s.heard e;
      }

  short-is : s.heard < length t.wants → ahead program s i.fair ≡ up_to_asks t.messages (s.heard + 256)
  short-is lt = ahead-is ∙ sends-short 256 t later s.heard (stops_at s) lt

  heard-or-not : (s.heard < length t.wants) ⊎ (s.heard ≡ length t.wants)
  heard-or-not = by (nat_lt s.heard (length t.wants)) refl
    where
      by : (b : Bool) → nat_lt s.heard (length t.wants) ≡ b → (s.heard < length t.wants) ⊎ (s.heard ≡ length t.wants)
      by true e = inl (ltb-true s.heard (length t.wants) e)
      by false e = let le = ltb-false s.heard (length t.wants) e in inr (omega (arith, reached))

  -- what is out of the turn
  pub out-of : take s.gone (ahead program s i.fair) ≡ take s.gone t.messages
  out-of = by heard-or-not
    where
      by : (s.heard < length t.wants) ⊎ (s.heard ≡ length t.wants) → take s.gone (ahead program s i.fair) ≡ take s.gone t.messages
      by (inl lt) = ap (take s.gone) (short-is lt) ∙ up-to-front s.gone t.messages (s.heard + 256) (omega (arith, i.asked, i.allowed))
      by (inr e) = let all = all-there e in ap (take s.gone) all.is ∙ take-append-le s.gone t.messages all.follows i.within

  pub owed-is : s.bad ≡ None → stream.owed 256 (state_at program s) ≡ owed
  owed-is none = owes program s i.fair none ∙ ap (λ (l : List Message). asks l - s.heard) out-of ∙ omega (arith, i.asked)

  pub waits-so : s.bad ≡ None → Waits (stream.bytes_to_send 256 (state_at program s)) (map encode (drop s.gone t.messages)) owed
  waits-so none = by heard-or-not
    where
      W : stream.bytes_to_send 256 (state_at program s) ≡ map encode (drop s.gone (ahead program s i.fair))
      W = waits program s i.fair none

      by : (s.heard < length t.wants) ⊎ (s.heard ≡ length t.wants) → Waits (stream.bytes_to_send 256 (state_at program s)) (map encode (drop s.gone t.messages)) owed
      by (inl lt) =
          let left : s.heard + 256 - asks (take s.gone t.messages) ≡ 256 - owed = omega (arith, i.asked) in
          let is : map encode (drop s.gone (ahead program s i.fair)) ≡ up_to_reads (map encode (drop s.gone t.messages)) (256 - owed) =
          ap (λ (l : List Message). map encode (drop s.gone l)) (short-is lt)
          ∙ ap (map encode) (up-to-past s.gone t.messages (s.heard + 256) (omega (arith, i.asked, i.allowed)))
          ∙ ap (λ (n : ℕ). map encode (up_to_asks (drop s.gone t.messages) n)) left
          ∙ sym (in-bytes (drop s.gone t.messages) (256 - owed)) in
          record { tail = []; is = W ∙ is ∙ sym (append-nil _); none = λ some. refl }
      by (inr e) =
          let all = all-there e in
          let is : map encode (drop s.gone (ahead program s i.fair))
          ≡ up_to_reads (map encode (drop s.gone t.messages)) (256 - owed) ++ map encode all.follows =
          ap (λ (l : List Message). map encode (drop s.gone l)) all.is
          ∙ ap (map encode) (drop-append-le s.gone t.messages all.follows i.within)
          ∙ map-append encode (drop s.gone t.messages) all.follows
          ∙ ap (λ (l : List Message). map encode l ++ map encode all.follows) (sym (up-to-all (drop s.gone t.messages) (256 - owed) (omega (arith, reached))))
          ∙ ap (λ (l : List ℕ). l ++ map encode all.follows) (sym (in-bytes (drop s.gone t.messages) (256 - owed))) in
          record { tail = map encode all.follows; is = W ∙ is; none = λ some. absurd (omega (arith, reached)) }

  pub no-quit : has_quit (take s.gone (ahead program s i.fair)) ≡ false
  no-quit = ap has_quit out-of ∙ quit-front s.gone t.messages (quit-of s.over (turns program.steps) (turns-no-quit program.steps) t later i.here)

  -- the turn is over: all is out and all answers are there
  pub over-now : s.gone ≡ length t.messages → owed ≡ 0
      → state_at program (record s { over = suc s.over; gone = 0; heard = 0 }) ≡ state_at program s
  over-now all nothing =
      let more = more-in s.over (turns program.steps) t later i.here in
      let none-left : asks (drop s.gone t.messages) ≡ 0 = omega (arith, asks-split s.gone t.messages, i.asked, out-all) in
      let given : length (messages_in (take (suc s.over) (turns program.steps))) + 0 ≡ length (messages_in (take s.over (turns program.steps))) + s.gone =
      omega (arith, ap length more.0, length-append (messages_in (take s.over (turns program.steps))) t.messages) in
      let answered : answers_in (take (suc s.over) (turns program.steps)) + 0 ≡ answers_in (take s.over (turns program.steps)) + s.heard =
      omega (arith, more.1, reached) in
      (λ k. record (state_at program s) { given = given k; answered = answered k })
    where
      dropped : (n : ℕ) (ms : List Message) → n ≡ length ms → asks (drop n ms) ≡ 0
      dropped zero [] e = refl
      dropped zero (m ∷ ms) e = absurd (omega (arith, e))
      dropped (suc n) [] e = refl
      dropped (suc n) (m ∷ ms) e = dropped n ms (omega (arith, e))

      out-all : asks (drop s.gone t.messages) ≡ 0
      out-all = dropped s.gone t.messages all
