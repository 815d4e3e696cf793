-- What a player that stands somewhere in its play sends, and what is owed to it.
use Rattle.std.proofs.Common.{◌≡◌, Bool, true, false, ℕ, zero, suc, ◌+◌, ◌-◌, ◌<◌, List, [], ◌∷◌, ◌++◌, map, length, take, drop, refl, sym, ap, ◌∙◌, append_assoc, arith, count_by, None}
use Rattle.std.proofs.Math.Seq.{drop-append-add, take-append-add}
use Rattle.std.proofs.lemmas.Bool.{ltb-true, ltb-false, leb-true, leb-false}
use Rattle.std.proofs.lemmas.List.{drop-map}
use Rattle.std.specs.Prelude.{◌&&◌, ◌||◌, ◌==◌, nat_le, nat_lt, is_some, if◌then◌else◌}
use Rattle.std.specs.List.{list_any}
use Rattle.bitbang_protocol.specs.declared.Message.{Message}
use Rattle.bitbang_protocol.specs.declared.Message.TheVariants.{Quit}
use Rattle.bitbang_protocol.specs.Protocol.{encode}
use Rattle.svf_programs.specs.Steps.{Program}
use Rattle.play_model.specs.Play.{Turn, turns, up_to_asks}
use Rattle.play_model.specs.Streams as stream
use Rattle.play_model.specs.Streams.{may_send, some_differ}
use Rattle.play_model.proofs.Asks.{AllAsk, asks, turns-ask}
use Rattle.play_model.proofs.Quits.{NoneQuit, asks-append, has_quit, quit-append, turns-no-quit}
use Rattle.play_model.proofs.Agree.{ask-count, counts, quit-byte}
use Rattle.player.specs.PlaceInPlay.{PlaceInPlay, finding_of, messages_in, state_at}
use Rattle.play_model.specs.InWork.{answers_in}

-- whether it stops
abbrev pub stops_at : PlaceInPlay → Bool
stops_at s = some_differ (finding_of s.stopped).list

module _ (window : ℕ) where
  -- a turn of which every answer is there, and not the last one heard of a player that stops, is passed
  passes : (t : Turn) (ts : List Turn) (n m : ℕ) (stops : Bool) → n ≡ length t.wants + m → (stops ≡ true → 0 < m)
      → may_send window (t ∷ ts) n stops ≡ t.messages ++ may_send window ts m stops
  passes t ts n m stops e more = by (nat_lt n (length t.wants)) refl (stops && nat_le n (length t.wants)) refl
    where
      no-last : (stops : Bool) → (stops ≡ true → 0 < m) → (stops && nat_le n (length t.wants)) ≡ true → ⊥
      no-last true more is = let le = leb-true n (length t.wants) is in let above = more refl in omega (arith, e)
      no-last false more is = absurd (cc)

      by : (short : Bool) → nat_lt n (length t.wants) ≡ short → (last : Bool) → (stops && nat_le n (length t.wants)) ≡ last
          → (if short then up_to_asks t.messages (n + window) else t.messages ++ (if last then Quit ∷ [] else may_send window ts (n - length t.wants) stops))
          ≡ t.messages ++ may_send window ts m stops
      by true is last q = let lt = ltb-true n (length t.wants) is in absurd (omega (arith, e))
      by false is true q = absurd (no-last stops more q)
      by false is false q = let same : n - length t.wants ≡ m = omega (arith, e) in ap (λ k. t.messages ++ may_send window ts k stops) same

  -- The turns that are over drop out.
  pub sends-past : (k : ℕ) (ts : List Turn) (n : ℕ) (stops : Bool) → (stops ≡ true → 0 < n)
      → may_send window ts (answers_in (take k ts) + n) stops ≡ messages_in (take k ts) ++ may_send window (drop k ts) n stops
  sends-past zero ts n stops more = let same : 0 + n ≡ n = omega arith in ap (λ k. may_send window ts k stops) same
  sends-past (suc k) [] n stops more = refl
  sends-past (suc k) (t ∷ ts) n stops more =
      passes t ts (length t.wants + answers_in (take k ts) + n) (answers_in (take k ts) + n) stops (omega arith) (λ is. let above = more is in omega arith)
      ∙ ap (λ l. t.messages ++ l) (sends-past k ts n stops more)
      ∙ sym (append_assoc t.messages (messages_in (take k ts)) (may_send window (drop k ts) n stops))

  -- of a turn whose answers are not all there, what the window allows
  pub sends-short : (t : Turn) (ts : List Turn) (n : ℕ) (stops : Bool) → n < length t.wants
      → may_send window (t ∷ ts) n stops ≡ up_to_asks t.messages (n + window)
  sends-short t ts n stops short = by (nat_lt n (length t.wants)) refl
    where
      by : (b : Bool) → nat_lt n (length t.wants) ≡ b
          → (if b then up_to_asks t.messages (n + window) else t.messages ++ (if stops && nat_le n (length t.wants) then Quit ∷ [] else may_send window ts (n - length t.wants) stops))
          ≡ up_to_asks t.messages (n + window)
      by true is = refl
      by false is = let le = ltb-false n (length t.wants) is in absurd (omega arith)

  -- the whole of a turn whose answers are all there, and what follows
  pub sends-whole : (t : Turn) (ts : List Turn) (n : ℕ) → n ≡ length t.wants
      → may_send window (t ∷ ts) n false ≡ t.messages ++ may_send window ts 0 false
  sends-whole t ts n e = passes t ts n 0 false (omega (arith, e)) (λ is. absurd (cc))

  -- or `Quit` where the player stops
  pub sends-last : (t : Turn) (ts : List Turn) (n : ℕ) → n ≡ length t.wants → may_send window (t ∷ ts) n true ≡ t.messages ++ Quit ∷ []
  sends-last t ts n e = by (nat_lt n (length t.wants)) refl (nat_le n (length t.wants)) refl
    where
      by : (short : Bool) → nat_lt n (length t.wants) ≡ short → (last : Bool) → nat_le n (length t.wants) ≡ last
          → (if short then up_to_asks t.messages (n + window) else t.messages ++ (if last then Quit ∷ [] else may_send window ts (n - length t.wants) true))
          ≡ t.messages ++ Quit ∷ []
      by true is last q = let lt = ltb-true n (length t.wants) is in absurd (omega (arith, e))
      by false is true q = refl
      by false is false q = let gt = leb-false n (length t.wants) q in absurd (omega (arith, e))

asks-in : (ts : List Turn) → AllAsk ts → (k : ℕ) → asks (messages_in (take k ts)) ≡ answers_in (take k ts)
asks-in ts all zero = refl
asks-in [] all (suc k) = refl
asks-in (t ∷ ts) all (suc k) =
    asks-append t.messages (messages_in (take k ts)) ∙ (λ i. all.0 i + asks-in ts all.1 k i)

quits-in : (ts : List Turn) → NoneQuit ts → (k : ℕ) → has_quit (messages_in (take k ts)) ≡ false
quits-in ts none zero = refl
quits-in [] none (suc k) = refl
quits-in (t ∷ ts) none (suc k) =
    quit-append t.messages (messages_in (take k ts)) ∙ (λ i. none.0 i || quits-in ts none.1 k i)

pub map-take : (n : ℕ) (ms : List Message) → take n (map encode ms) ≡ map encode (take n ms)
map-take zero ms = refl
map-take (suc n) [] = refl
map-take (suc n) (m ∷ ms) = ap (λ l. encode m ∷ l) (map-take n ms)

module _ (program : Program) (s : PlaceInPlay) (fair : stops_at s ≡ true → 0 < s.heard) where
  abbrev ts : List Turn
  ts = turns program.steps

  abbrev before : List Message
  before = messages_in (take s.over ts)

  -- what it sends from the present turn on
  abbrev pub ahead : List Message
  ahead = may_send 256 (drop s.over (turns program.steps)) s.heard (stops_at s)

  bytes : stream.bytes_of 256 (state_at program s) ≡ map encode (before ++ ahead)
  bytes = ap (map encode) (sends-past 256 s.over ts s.heard (stops_at s) fair)

  pub waits : s.bad ≡ None → stream.bytes_to_send 256 (state_at program s) ≡ map encode (drop s.gone ahead)
  waits none =
      (λ i. if is_some (none i) then [] else drop (length before + s.gone) (bytes i))
      ∙ drop-map encode (length before + s.gone) (before ++ ahead)
      ∙ ap (map encode) (drop-append-add before ahead s.gone)

  out : stream.given_out 256 (state_at program s) ≡ map encode (before ++ take s.gone ahead)
  out = ap (take (length before + s.gone)) bytes ∙ map-take (length before + s.gone) (before ++ ahead)
      ∙ ap (map encode) (take-append-add before ahead s.gone)

  -- how many answers are owed
  pub owes : s.bad ≡ None → stream.owed 256 (state_at program s) ≡ asks (take s.gone ahead) - s.heard
  owes none =
      (λ i. if is_some (none i) then 0 else count_by (λ b. b == 82) (out i) - (answers_in (take s.over ts) + s.heard))
      ∙ ap (λ n. n - (answers_in (take s.over ts) + s.heard))
      (counts (map encode (before ++ take s.gone ahead)) ∙ ask-count (before ++ take s.gone ahead) ∙ asks-append before (take s.gone ahead))
      ∙ omega (arith, asks-in ts (turns-ask program.steps) s.over)

  -- whether `Q` is out
  pub is-out : list_any (λ b. b == 81) (stream.given_out 256 (state_at program s)) ≡ has_quit (take s.gone ahead)
  is-out = ap (list_any (λ b. b == 81)) out ∙ quit-byte (before ++ take s.gone ahead) ∙ quit-append before (take s.gone ahead)
      ∙ ap (λ b. b || has_quit (take s.gone ahead)) (quits-in ts (turns-no-quit program.steps) s.over)
