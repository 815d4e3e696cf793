-- A piece that is being put, and a buffer that is being filled.
use Rattle.std.proofs.Common.{◌≡◌, Bool, true, false, ℕ, zero, suc, ◌+◌, ◌-◌, ◌<◌, ◌≤◌, List, [], ◌∷◌, ◌++◌, length, take, drop, refl, sym, ap, ◌∙◌, subst, arith, append_assoc, append-nil, length-append, length-drop, length-take, Option, Result, Ok}
use Rattle.std.proofs.Math.Seq.{drop-append-le, take-add, take-length}
use Rattle.std.proofs.lemmas.List.{drop-drop}
use Rattle.player.proofs.BufferFills.{waiting-more}
use Rattle.play_links.proofs.Waiting.{hears-all, take-all}
use borrow.Rule.Slice.PartMut.{put_mid}
use Rattle.byte_streams.specs.Counts.{CountedView, ended_after, is_end, is_lost, lost_after}
use Rattle.play_model.specs.Fronts.{IsPrefix}
use Rattle.play_model.specs.Streams as stream
use Rattle.play_model.specs.Streams.{StreamState, hear_bytes}
use Rattle.play_links.specs.Loops.{HearsAll, IsLost, PutsCount, hears_end, all_in, all_out, in_lost, out_lost, some_in, some_out}
use Rattle.play_links.specs.Turns.{GivesAll, HearsWhole, ServesTurn, TakesTurn, answered, fits_stream, not_answered, not_fit, not_read}
use Rattle.play_links.specs.Serves.{serve_bytes}
use Rattle.play_links.specs.declared.serving.Served.{Served}
use Rattle.board_model.specs.Chain.{BoardState}
use Rattle.byte_streams.specs.Writes.{AppendsFront, PutsAll, WritesAll}
use Rattle.std.specs.Io.KnownBytes.{Appends, Consumes, ReadConsumes, WriteAppends}
use Rattle.std.proofs.KnownBytes.{Appends-nil, Appends-trans, Consumes-nil, Consumes-trans}
use Rattle.std.specs.Prelude.{◌&&◌, ◌||◌, Err, is_err, is_ok}
use Rattle.play_links.proofs.CallSteps.{kept-end, lost-appends, lost-consumes, lost-counts, not-ended, some-kept, some-not-end}

and-left : (a b : Bool) → (a && b) ≡ true → a ≡ true
and-left true b e = refl
and-left false b e = absurd (cc)

take-past : (n : ℕ) (xs ys : List ℕ) → take (length xs + n) (xs ++ ys) ≡ xs ++ take n ys
take-past n [] ys = let same : 0 + n ≡ n = omega arith in ap (λ k. take k ys) same
take-past n (x ∷ xs) ys =
    let same : suc (length xs) + n ≡ suc (length xs + n) = omega arith in ap (λ k. take k (x ∷ xs ++ ys)) same ∙ ap (λ l. x ∷ l) (take-past n xs ys)

module _ {W E : Type 0} (puts : W → List ℕ → Result ℕ E → W → Type 0) (contents : W → Option (List ℕ)) (w₀ : CountedView W) where
  -- no call was lost yet; so many bytes were taken, and what the calls from here on do is what all do
  pub record Giving (w : CountedView W) (piece rest : List ℕ) (s₀ s : StreamState) : Type 0 where
    pub taken : ℕ
    pub counted : taken + length rest ≡ length piece
    pub calls : (k : ℕ) (whole : Bool) (u : W) → PutsCount puts w.inner rest k whole u → PutsCount puts w₀.inner piece (taken + k) whole u
    pub given : s ≡ record s₀ { given = s₀.given + taken }
    pub front : IsPrefix rest (stream.bytes_to_send 256 s)
    pub unlost : w.failures ≡ 0
    pub same_end : w.at_end ≡ w₀.at_end
    pub rest_is : rest ≡ drop taken piece
    pub sent : Appends (contents w₀.inner) (contents w.inner) (take taken piece)

  rest-from : (n : ℕ) (rest : List ℕ) → take (length rest - n) (drop n rest) ≡ drop n rest
  rest-from n rest = ap (λ k. take k (drop n rest)) (sym (length-drop n rest)) ∙ take-length (drop n rest)

  none-more : (k : ℕ) → k ≡ 0 + k
  none-more k = omega arith

  pub giving-new : (piece : List ℕ) (s : StreamState) → IsPrefix piece (stream.bytes_to_send 256 s) → w₀.failures ≡ 0 → Giving w₀ piece piece s s
  giving-new piece s front unlost = record {
    taken = 0;
    counted = omega arith;
    calls = λ k whole u rest. subst (λ (n : ℕ). PutsCount puts w₀.inner piece n whole u) (none-more k) rest;
    given = let same : s.given ≡ s.given + 0 = omega arith in (λ i. record s { given = same i });
    front = front;
    unlost = unlost;
    same_end = refl;
    rest_is = refl;
    sent = Appends-nil (contents w₀.inner);
  }

  module _ (w : CountedView W) (piece rest : List ℕ) (s₀ s : StreamState) (g : Giving w piece rest s₀ s) where
    waits-on : (n : ℕ) → n ≤ length rest → drop n rest ++ g.front.0 ≡ stream.bytes_to_send 256 (record s { given = s.given + n })
    waits-on n le = sym (drop-append-le n rest g.front.0 le) ∙ ap (drop n) g.front.1 ∙ sym (waiting-more s n)

    pub giving-fits : (n : ℕ) → n ≤ length rest → n ≤ length (stream.bytes_to_send 256 s)
    giving-fits n le = omega (arith, le, ap length g.front.1, length-append rest g.front.0)

    pub giving-on : (w' : CountedView W) (s' : StreamState) (n : ℕ) → 0 < n → n ≤ length rest → puts w.inner rest (Ok n) w'.inner
        → w'.failures ≡ lost_after {E = E} w.failures (Ok n) rest → w'.at_end ≡ w.at_end → Appends (contents w.inner) (contents w'.inner) (take n rest)
        → s' ≡ record s { given = s.given + n } → Giving w' piece (take (length rest - n) (drop n rest)) s₀ s'
    giving-on w' s' zero above le h f k a e = absurd (omega arith)
    giving-on w' s' (suc n) above le h f k a e = subst (λ (l : List ℕ). Giving w' piece l s₀ s') (sym (rest-from (suc n) rest)) (record {
      taken = g.taken + suc n;
      counted = omega (arith, g.counted, le, length-drop (suc n) rest);
      calls = λ k whole u others.
          let same : g.taken + (suc n + k) ≡ g.taken + suc n + k = omega arith in
          subst (λ (m : ℕ). PutsCount puts w₀.inner piece m whole u) same
          (g.calls (suc n + k) whole u (some_out w.inner rest n w'.inner k whole u (omega (arith, le)) h others));
      given = e ∙ ap (λ (t : StreamState). record t { given = t.given + suc n }) g.given
          ∙ (let same : s₀.given + g.taken + suc n ≡ s₀.given + (g.taken + suc n) = omega arith in (λ i. record s₀ { given = same i }));
      front = (g.front.0, waits-on (suc n) le ∙ ap (stream.bytes_to_send 256) (sym e));
      unlost = f ∙ some-kept E w.failures n rest ∙ g.unlost;
      same_end = k ∙ g.same_end;
      rest_is = ap (drop (suc n)) g.rest_is ∙ drop-drop (suc n) g.taken piece;
      sent = subst (Appends (contents w₀.inner) (contents w'.inner))
          (ap (λ l. take g.taken piece ++ take (suc n) l) g.rest_is ∙ sym (take-add g.taken (suc n) piece))
          (Appends-trans (contents w₀.inner) (contents w.inner) (contents w'.inner) (take g.taken piece) (take (suc n) rest) g.sent a);
    })

    pub giving-lost : (w' : CountedView W) (answer : Result ℕ E) → puts w.inner rest answer w'.inner → w'.failures ≡ lost_after w.failures answer rest
        → w'.at_end ≡ w.at_end → WriteAppends (contents w.inner) (contents w'.inner) answer rest → is_lost answer rest ≡ true
        → GivesAll puts contents w₀ w' piece s₀ s false
    giving-lost w' answer h f k a lost =
        let same : g.taken + 0 ≡ g.taken = omega arith in
        record {
          taken = g.taken;
          calls = subst (λ (m : ℕ). PutsCount puts w₀.inner piece m false w'.inner) same (g.calls 0 false w'.inner (out_lost w.inner rest answer w'.inner h lost));
          few = omega (arith, g.counted);
          all = λ e. absurd (cc);
          given = g.given;
          sent = subst (Appends (contents w₀.inner) (contents w'.inner)) (append-nil (take g.taken piece))
              (Appends-trans (contents w₀.inner) (contents w.inner) (contents w'.inner) (take g.taken piece) [] g.sent
              (lost-appends (contents w.inner) (contents w'.inner) answer rest a lost));
          left = (f ∙ lost-counts w.failures answer rest lost, k ∙ g.same_end ∙ sym (kept-end w₀.at_end));
        }

    pub giving-all : rest ≡ [] → GivesAll puts contents w₀ w piece s₀ s true
    giving-all e =
        let same : g.taken + 0 ≡ g.taken = omega arith in
        record {
          taken = g.taken;
          calls = subst (λ (m : ℕ). PutsCount puts w₀.inner piece m true w.inner) same
              (g.calls 0 true w.inner (subst (λ (l : List ℕ). PutsCount puts w.inner l 0 true w.inner) (sym e) (all_out w.inner)));
          few = omega (arith, g.counted);
          all = λ k. omega (arith, g.counted, ap length e);
          given = g.given;
          sent = g.sent;
          left = (g.unlost, g.same_end);
        }

-- calls that read, and whether the last met the end of input
pub record HeardTo {R E : Type 0} (hears : R → List ℕ → Result ℕ E → R → Type 0) (s : R) (n : ℕ) (bytes : List ℕ) (whole : Bool) (t : R)
    (met : Bool) : Type 0 where
  pub calls : HearsAll hears s n bytes whole t
  pub met_is : hears_end calls ≡ met

module _ {R E : Type 0} (hears : R → List ℕ → Result ℕ E → R → Type 0) (remaining : R → Option (List ℕ)) (r₀ : CountedView R) where
  -- no call was lost yet; so much of the buffer is filled
  pub record Hearing (r : CountedView R) (filled size : ℕ) (buffer : List ℕ) : Type 0 where
    pub size_is : length buffer ≡ size
    pub few : filled ≤ size
    pub calls : (bytes : List ℕ) (whole : Bool) (u : R) (met : Bool) → HeardTo hears r.inner (size - filled) bytes whole u met
        → HeardTo hears r₀.inner size (take filled buffer ++ bytes) whole u met
    pub unlost : r.failures ≡ 0
    pub same_end : r.at_end ≡ r₀.at_end
    pub got : Consumes (remaining r₀.inner) (remaining r.inner) (take filled buffer)

  pub hearing-new : (size : ℕ) (buffer : List ℕ) → length buffer ≡ size → r₀.failures ≡ 0 → Hearing r₀ 0 size buffer
  hearing-new size buffer e unlost = record {
    size_is = e;
    few = omega arith;
    calls = λ bytes whole u met rest.
        let same : size - 0 ≡ size = omega arith in subst (λ (n : ℕ). HeardTo hears r₀.inner n bytes whole u met) same rest;
    unlost = unlost;
    same_end = refl;
    got = Consumes-nil (remaining r₀.inner);
  }

  module _ (r : CountedView R) (filled size : ℕ) (buffer part : List ℕ) (h : Hearing r filled size buffer) (long : length part ≡ size - filled) where
    abbrev pub next : List ℕ
    next = take filled buffer ++ part

    next-long : length next ≡ size
    next-long = omega (arith, length-append (take filled buffer) part, length-take filled buffer, h.size_is, h.few, long)

    front-long : length (take filled buffer) ≡ filled
    front-long = omega (arith, length-take filled buffer, h.size_is, h.few)

    next-front : (n : ℕ) → take (filled + n) next ≡ take filled buffer ++ take n part
    next-front n = ap (λ k. take (k + n) next) (sym front-long) ∙ take-past n (take filled buffer) part

    pub hearing-on : (r' : CountedView R) (n : ℕ) → 0 < n → n ≤ length part → hears r.inner part (Ok n) r'.inner
        → r'.failures ≡ lost_after {E = E} r.failures (Ok n) part → r'.at_end ≡ ended_after {E = E} r.at_end r.failures (Ok n) part
        → Consumes (remaining r.inner) (remaining r'.inner) (take n part) → Hearing r' (filled + n) size next
    hearing-on r' zero above le x f k a = absurd (omega arith)
    hearing-on r' (suc n) above le x f k a = record {
      size_is = next-long;
      few = omega (arith, le, long, h.few);
      calls = λ bytes whole u met rest.
          let same : size - (filled + suc n) ≡ size - filled - suc n = omega arith in
          let later = subst (λ (m : ℕ). HeardTo hears r'.inner m bytes whole u met) same rest in
          subst (λ (l : List ℕ). HeardTo hears r₀.inner size l whole u met)
          (sym (append_assoc (take filled buffer) (take (suc n) part) bytes) ∙ ap (λ l. l ++ bytes) (sym (next-front (suc n))))
          (h.calls (take (suc n) part ++ bytes) whole u met (record {
            calls = some_in r.inner (size - filled) part n r'.inner bytes whole u long (omega (arith, le, long)) x later.calls;
            met_is = later.met_is;
          }));
      unlost = f ∙ some-kept E r.failures n part ∙ h.unlost;
      same_end = k ∙ not-ended {E = E} r.at_end r.failures (Ok (suc n)) part (some-not-end E n part) ∙ h.same_end;
      got = subst (Consumes (remaining r₀.inner) (remaining r'.inner)) (sym (next-front (suc n)))
          (Consumes-trans (remaining r₀.inner) (remaining r.inner) (remaining r'.inner) (take filled buffer) (take (suc n) part) h.got a);
    }

    pub hearing-lost : (r' : CountedView R) (answer : Result ℕ E) → hears r.inner part answer r'.inner → r'.failures ≡ lost_after r.failures answer part
        → r'.at_end ≡ ended_after r.at_end r.failures answer part → ReadConsumes (remaining r.inner) (remaining r'.inner) answer part
        → is_lost answer part ≡ true → HearsWhole hears remaining r₀ r' next false
    hearing-lost r' answer x f k a lost =
        let whole = subst (λ (n : ℕ). HeardTo hears r₀.inner n (take filled buffer ++ []) false r'.inner (is_end answer part)) (sym next-long)
        (h.calls [] false r'.inner (is_end answer part)
        (record { calls = in_lost r.inner (size - filled) part answer r'.inner long x lost; met_is = refl })) in
        record {
          bytes = take filled buffer ++ [];
          calls = whole.calls;
          all = λ e. absurd (cc);
          got = Consumes-trans (remaining r₀.inner) (remaining r.inner) (remaining r'.inner) (take filled buffer) [] h.got
              (lost-consumes (remaining r.inner) (remaining r'.inner) answer part a lost);
          left = (
            f ∙ lost-counts r.failures answer part lost,
            k ∙ (λ i. ended_after (h.same_end i) (h.unlost i) answer part) ∙ ap (λ (b : Bool). r₀.at_end || b) (sym whole.met_is),
          );
        }

  pub hearing-all : (r : CountedView R) (filled size : ℕ) (buffer : List ℕ) → Hearing r filled size buffer → size ≤ filled → HearsWhole hears remaining r₀ r buffer true
  hearing-all r filled size buffer h full =
      let none : 0 ≡ size - filled = omega (arith, full) in
      let whole = subst (λ (n : ℕ). HeardTo hears r₀.inner n (take filled buffer ++ []) true r.inner false) (sym h.size_is)
      (h.calls [] true r.inner false
      (subst (λ (n : ℕ). HeardTo hears r.inner n [] true r.inner false) none (record { calls = all_in r.inner; met_is = refl }))) in
      record {
        bytes = take filled buffer ++ [];
        calls = whole.calls;
        all = λ e. append-nil (take filled buffer) ∙ take-all filled buffer (omega (arith, h.size_is, full));
        got = subst (Consumes (remaining r₀.inner) (remaining r.inner)) (sym (append-nil (take filled buffer))) h.got;
        left = (h.unlost, h.same_end);
      }

drop-none : (n : ℕ) (l : List ℕ) → length l ≤ n → drop n l ≡ []
drop-none zero [] le = refl
drop-none zero (x ∷ l) le = absurd (omega (arith, le))
drop-none (suc n) [] le = refl
drop-none (suc n) (x ∷ l) le = drop-none n l (omega (arith, le))

-- the end of a buffer was written to
pub put-end : (a : ℕ) (xs ys : List ℕ) → a ≤ length xs → put_mid a (length xs - a) xs ys ≡ take a xs ++ ys
put-end a xs ys le = ap (λ l. take a xs ++ (ys ++ l)) (drop-none (length xs - a) (drop a xs) (omega (arith, length-drop a xs))) ∙ ap (λ l. take a xs ++ l) (append-nil ys)

-- the board's part of a turn, and the player's
module _ {B E : Type 0} (puts : B → List ℕ → Result ℕ E → B → Type 0) (hears : B → List ℕ → Result ℕ E → B → Type 0) (contents remaining : B → Option (List ℕ))
    (y z : CountedView B) (b b' : BoardState) (s : StreamState) (old buffer : List ℕ) (same : length buffer ≡ length old) where
  read-calls : (h : HearsWhole hears remaining y z buffer true) → HearsAll hears y.inner (length old) buffer true z.inner
  read-calls h = subst (λ (n : ℕ). HearsAll hears y.inner n buffer true z.inner) same (subst (λ (l : List ℕ). HearsAll hears y.inner (length buffer) l true z.inner) (h.all refl) h.calls)

  read-bytes : (h : HearsWhole hears remaining y z buffer true) → Consumes (remaining y.inner) (remaining z.inner) buffer
  read-bytes h = subst (Consumes (remaining y.inner) (remaining z.inner)) (h.all refl) h.got

  pub turn-unread : HearsWhole hears remaining y z buffer false → ServesTurn puts hears contents remaining y z b b s (length old) false
  turn-unread h =
      let heard = subst (λ (n : ℕ). (calls : HearsAll hears y.inner n h.bytes false z.inner) × IsLost (hears_end calls) y z) same (h.calls, h.left) in
      not_read h.bytes heard.0 h.got heard.1 refl refl

  module _ (h : HearsWhole hears remaining y z buffer true) (answers : List ℕ) (count : ℕ) (stop : Option Served) (few : count ≤ length answers)
      (taken : take count answers ≡ (serve_bytes buffer b).answers) (board : b' ≡ (serve_bytes buffer b).board) (stopped : stop ≡ (serve_bytes buffer b).stop) where
    counted : count ≡ length (serve_bytes buffer b).answers
    counted = omega (arith, ap length taken, length-take count answers, few)

    fits-is : fits_stream s (length (serve_bytes buffer b).answers) (serve_bytes buffer b).stop ≡ fits_stream s count stop
    fits-is = (λ i. fits_stream s (sym counted i) (sym stopped i))

    pub turn-unfit : fits_stream s count stop ≡ false → ServesTurn puts hears contents remaining y z b b' s (length old) false
    turn-unfit f = not_fit buffer (read-calls h) (read-bytes h) h.left (fits-is ∙ f) board refl

    module _ {A F : Type 0} (y' : CountedView B) (result : Result A F) (f : fits_stream s count stop ≡ true) (put : PutsAll puts z.inner (take count answers) (is_ok result) y'.inner)
        (writes : WritesAll contents z y' (take count answers) result) (same_end : y'.at_end ≡ z.at_end) where
      pub turn-unanswered : is_err result ≡ true → ServesTurn puts hears contents remaining y y' b b' s (length old) false
      turn-unanswered e = by result e put writes
        where
          by : (o : Result A F) → is_err o ≡ true → PutsAll puts z.inner (take count answers) (is_ok o) y'.inner → WritesAll contents z y' (take count answers) o
              → ServesTurn puts hears contents remaining y y' b b' s (length old) false
          by (Ok x) e put writes = absurd (cc)
          by (Err x) e put writes =
              not_answered buffer z.inner (read-calls h) (read-bytes h) (fits-is ∙ f) (subst (λ (l : List ℕ). PutsAll puts z.inner l false y'.inner) taken put)
              (subst (AppendsFront (contents z.inner) (contents y'.inner)) taken writes.front)
              (writes.broken.0 refl, same_end ∙ h.left.1 ∙ sym (kept-end y.at_end)) board refl

      pub turn-answered : is_err result ≡ false → ServesTurn puts hears contents remaining y y' b b' s (length old) true
      turn-answered e = by result e put writes
        where
          by : (o : Result A F) → is_err o ≡ false → PutsAll puts z.inner (take count answers) (is_ok o) y'.inner → WritesAll contents z y' (take count answers) o
              → ServesTurn puts hears contents remaining y y' b b' s (length old) true
          by (Err x) e put writes = absurd (cc)
          by (Ok x) e put writes =
              answered buffer z.inner (read-calls h) (read-bytes h) (fits-is ∙ f) (subst (λ (l : List ℕ). PutsAll puts z.inner l true y'.inner) taken put)
              (subst (Appends (contents z.inner) (contents y'.inner)) taken writes.whole) (writes.ok.0 refl, same_end ∙ h.left.1) board refl

module _ {P E : Type 0} (hears : P → List ℕ → Result ℕ E → P → Type 0) (remaining : P → Option (List ℕ)) (x x' : CountedView P) (s : StreamState) (old buffer : List ℕ)
    (same : length buffer ≡ length old) (owed : length old ≡ stream.owed 256 s) where
  pub turn-untaken : HearsWhole hears remaining x x' buffer false → TakesTurn hears remaining x x' s s false
  turn-untaken h =
      let heard = subst (λ (n : ℕ). (calls : HearsAll hears x.inner n h.bytes false x'.inner) × IsLost (hears_end calls) x x') (same ∙ owed) (h.calls, h.left) in
      record {
        back = h.bytes;
        calls = heard.0;
        long = λ e. absurd (cc);
        lost = λ e. refl;
        taken = λ e. absurd (cc);
        got = h.got;
        left = heard.1;
      }

  pub turn-taken : (s' : StreamState) → HearsWhole hears remaining x x' buffer true → s' ≡ hear_bytes (stream.answers_taken 256 s buffer) s → TakesTurn hears remaining x x' s s' true
  turn-taken s' h e = record {
    back = buffer;
    calls = subst (λ (n : ℕ). HearsAll hears x.inner n buffer true x'.inner) (same ∙ owed) (subst (λ (l : List ℕ). HearsAll hears x.inner (length buffer) l true x'.inner) (h.all refl) h.calls);
    long = λ e. same ∙ owed;
    lost = λ e. absurd (cc);
    taken = λ f. e ∙ hears-all s buffer (omega (arith, same, owed));
    got = subst (Consumes (remaining x.inner) (remaining x'.inner)) (h.all refl) h.got;
    left = h.left;
  }
