-- A player that hears an answer, that quits, and what it tells.
use Rattle.std.proofs.Common.{◌≡◌, ◌⊎◌, Bool, true, false, ℕ, zero, suc, ◌+◌, ◌-◌, ◌<◌, ◌≤◌, List, [], ◌∷◌, ◌++◌, map, length, take, drop, refl, ap, ◌∙◌, arith, length-append, inl, inr, Option, Some, None}
use Rattle.std.proofs.Math.Seq.{drop-append-add}
use Rattle.std.proofs.lemmas.Bool.{ltb-true, ltb-false, leb-true, leb-false}
use Rattle.std.proofs.lemmas.List.{length-map}
use Rattle.std.specs.Prelude.{◌&&◌, ◌||◌, ◌==◌, is_some, nat_le, nat_lt, if◌then◌else◌}
use Rattle.bitbang_protocol.specs.declared.Message.TheVariants.{Quit}
use Rattle.scan_vectors.specs.Vector.{VectorBit, differs}
use Rattle.svf_programs.specs.Steps.{Program}
use Rattle.play_model.specs.declared.ending.Ending.{Ending}
use Rattle.play_model.specs.declared.ending.Ending.TheVariants.{BadAnswer}
use Rattle.play_model.specs.Play.{Turn, is_bad, turns}
use Rattle.play_model.specs.declared.kind.Kind.TheVariants.{Stops}
use Rattle.play_model.specs.PlayingOn.{Mismatch, ending_of}
use Rattle.play_model.specs.Streams as stream
use Rattle.play_model.specs.Streams.{Wanted, unanswered, command_at, hear, mismatch_of, with_more, all_wanted, command_at_work}
use Rattle.play_model.proofs.Quits.{has_quit}
use Rattle.std.specs.Option.{option_to_list}
use Rattle.player.specs.PlaceInPlay.{PlaceInPlay, differing_bit, finding_of, messages_in, state_at}
use Rattle.play_model.specs.InWork.{answers_in}
use Rattle.player.proofs.Ahead.{ahead, is-out, sends-last, stops_at}

-- a wanted bit of a turn
abbrev pub of-turn : Turn → VectorBit → Wanted
of-turn t v = record { command = t.command; bit = v }

-- the wanted bits of the turns that are over drop out
wanted-past : (k : ℕ) (ts : List Turn) (n : ℕ) → drop (answers_in (take k ts) + n) (all_wanted ts) ≡ drop n (all_wanted (drop k ts))
wanted-past zero ts n = let same : 0 + n ≡ n = omega arith in ap (λ m. drop m (all_wanted ts)) same
wanted-past (suc k) [] n = let same : 0 + n ≡ n = omega arith in ap (λ m. drop m []) same
wanted-past (suc k) (t ∷ ts) n =
    let here : length t.wants + answers_in (take k ts) + n ≡ length (map (of-turn t) t.wants) + (answers_in (take k ts) + n) =
    omega (arith, length-map t.wants (of-turn t)) in
    ap (λ m. drop m (map (of-turn t) t.wants ++ all_wanted ts)) here
    ∙ drop-append-add (map (of-turn t) t.wants) (all_wanted ts) (answers_in (take k ts) + n)
    ∙ wanted-past k ts n

-- the next one of a turn
next-wanted : (t : Turn) (n : ℕ) (vs : List VectorBit) (more : List Wanted) (w : VectorBit) (ws : List VectorBit) → drop n vs ≡ w ∷ ws
    → drop n (map (of-turn t) vs ++ more) ≡ of-turn t w ∷ (map (of-turn t) ws ++ more)
next-wanted t zero vs more w ws e = ap (λ l. map (of-turn t) l ++ more) e
next-wanted t (suc n) [] more w ws e = absurd (cc)
next-wanted t (suc n) (v ∷ vs) more w ws e = next-wanted t n vs more w ws e

pub judged-one : (command : ℕ) (w : VectorBit) (rest : List Wanted) (bit : Bool)
    → mismatch_of (record { command = command; bit = w } ∷ rest) bit ≡ option_to_list (differing_bit command w bit)
judged-one command w rest bit = by (differs w.wanted bit)
  where
    by : (b : Bool) → ◌≡◌ {A = List Mismatch} (if b then record { command = command; part = w.part; bit = w.place } ∷ [] else [])
        (option_to_list (if b then Some (record { command = command; part = w.part; bit = w.place }) else None))
    by true = refl
    by false = refl

module _ (program : Program) (s : PlaceInPlay) (t : Turn) (later : List Turn) (here : drop s.over (turns program.steps) ≡ t ∷ later) where
  -- the next answer belongs to the next wanted bit
  pub next-unanswered : (w : VectorBit) (ws : List VectorBit) → drop s.heard t.wants ≡ w ∷ ws
      → unanswered (state_at program s) ≡ of-turn t w ∷ (map (of-turn t) ws ++ all_wanted later)
  next-unanswered w ws next =
      wanted-past s.over (turns program.steps) s.heard ∙ ap (λ (l : List Turn). drop s.heard (all_wanted l)) here
      ∙ next-wanted t s.heard t.wants (all_wanted later) w ws next

  -- a byte that is no answer ends the play
  pub hears-bad : (byte : ℕ) → s.bad ≡ None → is_bad byte ≡ true → hear byte (state_at program s) ≡ state_at program (record s { bad = Some byte })
  hears-bad byte none bad = (λ k. if is_some (none k) then state_at program s else if bad k then record (state_at program s) { bad = Some byte } else
      record (state_at program s) {
        answered = (state_at program s).answered + 1;
        found = with_more Stops (mismatch_of (drop (state_at program s).answered (all_wanted (turns program.steps))) (byte == 49)) (state_at program s).found;
      })

  -- the command that the next answer belongs to
  command-past : (k : ℕ) (ts : List Turn) (n : ℕ) → command_at ts (answers_in (take k ts) + n) ≡ command_at (drop k ts) n
  command-past zero ts n = let same : 0 + n ≡ n = omega arith in ap (command_at ts) same
  command-past (suc k) [] n = refl
  command-past (suc k) (x ∷ ts) n = by (nat_lt (length x.wants + answers_in (take k ts) + n) (length x.wants)) refl (command-past k ts n)
    where
      by : (b : Bool) → nat_lt (length x.wants + answers_in (take k ts) + n) (length x.wants) ≡ b
          → command_at ts (answers_in (take k ts) + n) ≡ command_at (drop k ts) n
          → (if b then x.command else command_at ts (length x.wants + answers_in (take k ts) + n - length x.wants)) ≡ command_at (drop k ts) n
      by true e rest = let lt = ltb-true (length x.wants + answers_in (take k ts) + n) (length x.wants) e in absurd (omega arith)
      by false e rest =
          let same : length x.wants + answers_in (take k ts) + n - length x.wants ≡ answers_in (take k ts) + n = omega arith in
          ap (command_at ts) same ∙ rest

  pub command-here : s.heard < length t.wants → command_at (turns program.steps) (state_at program s).answered ≡ t.command
  command-here lt = command-past s.over (turns program.steps) s.heard ∙ ap (λ (l : List Turn). command_at l s.heard) here
      ∙ by (nat_lt s.heard (length t.wants)) refl
    where
      by : (b : Bool) → nat_lt s.heard (length t.wants) ≡ b → (if b then t.command else command_at later (s.heard - length t.wants)) ≡ t.command
      by true e = refl
      by false e = let le = ltb-false s.heard (length t.wants) e in absurd (omega arith)

-- the turns that are over drop out of what is in work
works-past : (statements k : ℕ) (ts : List Turn) (g n : ℕ) (stops : Bool) → (stops ≡ true → 0 < n)
    → command_at_work statements ts (length (messages_in (take k ts)) + g) (answers_in (take k ts) + n) stops ≡ command_at_work statements (drop k ts) g n stops
works-past statements zero ts g n stops more =
    let a : 0 + g ≡ g = omega arith in let b : 0 + n ≡ n = omega arith in (λ i. command_at_work statements ts (a i) (b i) stops)
works-past statements (suc k) [] g n stops more = refl
works-past statements (suc k) (t ∷ ts) g n stops more =
    by (nat_lt G (length t.messages)) refl (nat_lt N (length t.wants)) refl (stops && nat_le N (length t.wants)) refl
    (works-past statements k ts g n stops more)
  where
    G : ℕ
    G = length (t.messages ++ messages_in (take k ts)) + g

    N : ℕ
    N = length t.wants + answers_in (take k ts) + n

    no-last : (stops : Bool) → (stops ≡ true → 0 < n) → (stops && nat_le N (length t.wants)) ≡ true → ⊥
    no-last true more is = let le = leb-true N (length t.wants) is in let above = more refl in omega arith
    no-last false more is = absurd (cc)

    by : (a : Bool) → nat_lt G (length t.messages) ≡ a → (b : Bool) → nat_lt N (length t.wants) ≡ b → (last : Bool)
        → (stops && nat_le N (length t.wants)) ≡ last
        → command_at_work statements ts (length (messages_in (take k ts)) + g) (answers_in (take k ts) + n) stops ≡ command_at_work statements (drop k ts) g n stops
        → (if a || b then t.command else if last then suc statements else command_at_work statements ts (G - length t.messages) (N - length t.wants) stops)
        ≡ command_at_work statements (drop k ts) g n stops
    by true e b f last q rest = let lt = ltb-true G (length t.messages) e in absurd (omega (arith, length-append t.messages (messages_in (take k ts))))
    by false e true f last q rest = let lt = ltb-true N (length t.wants) f in absurd (omega arith)
    by false e false f true q rest = absurd (no-last stops more q)
    by false e false f false q rest =
        let x : G - length t.messages ≡ length (messages_in (take k ts)) + g = omega (arith, length-append t.messages (messages_in (take k ts))) in
        let y : N - length t.wants ≡ answers_in (take k ts) + n = omega arith in
        (λ i. command_at_work statements ts (x i) (y i) stops) ∙ rest

module _ (program : Program) (s : PlaceInPlay) (fair : stops_at s ≡ true → 0 < s.heard) where
  abbrev works-on : List Turn → ℕ
  works-on ts = command_at_work program.statements ts s.gone s.heard (stops_at s)

  pub working-here : stream.working (state_at program s) ≡ command_at_work program.statements (drop s.over (turns program.steps)) s.gone s.heard (stops_at s)
  working-here = works-past program.statements s.over (turns program.steps) s.gone s.heard (stops_at s) fair

  -- a turn of which something is not out, or an answer is not there
  pub works-in : (t : Turn) (later : List Turn) → drop s.over (turns program.steps) ≡ t ∷ later
      → (s.gone < length t.messages) ⊎ (s.heard < length t.wants) → stream.working (state_at program s) ≡ t.command
  works-in t later here some = working-here ∙ ap works-on here ∙ by (nat_lt s.gone (length t.messages)) refl (nat_lt s.heard (length t.wants)) refl some
    where
      by : (a : Bool) → nat_lt s.gone (length t.messages) ≡ a → (b : Bool) → nat_lt s.heard (length t.wants) ≡ b
          → (s.gone < length t.messages) ⊎ (s.heard < length t.wants)
          → (if a || b then t.command else if stops_at s && nat_le s.heard (length t.wants) then suc program.statements else
          command_at_work program.statements later (s.gone - length t.messages) (s.heard - length t.wants) (stops_at s)) ≡ t.command
      by true e b f some = refl
      by false e true f some = refl
      by false e false f (inl lt) = let le = ltb-false s.gone (length t.messages) e in absurd (omega arith)
      by false e false f (inr lt) = let le = ltb-false s.heard (length t.wants) f in absurd (omega arith)

  -- no turn is left
  pub works-past-all : drop s.over (turns program.steps) ≡ [] → stream.working (state_at program s) ≡ suc program.statements
  works-past-all none = working-here ∙ ap works-on none

  -- the last turn of a player that stops is over
  pub works-stopped : (t : Turn) (later : List Turn) → drop s.over (turns program.steps) ≡ t ∷ later → length t.messages ≤ s.gone
      → s.heard ≡ length t.wants → stops_at s ≡ true → stream.working (state_at program s) ≡ suc program.statements
  works-stopped t later here out e stops = working-here ∙ ap works-on here
      ∙ by (nat_lt s.gone (length t.messages)) refl (nat_lt s.heard (length t.wants)) refl (nat_le s.heard (length t.wants)) refl (stops_at s) stops
    where
      by : (a : Bool) → nat_lt s.gone (length t.messages) ≡ a → (b : Bool) → nat_lt s.heard (length t.wants) ≡ b → (c : Bool)
          → nat_le s.heard (length t.wants) ≡ c → (d : Bool) → d ≡ true
          → (if a || b then t.command else if d && c then suc program.statements else
          command_at_work program.statements later (s.gone - length t.messages) (s.heard - length t.wants) d) ≡ suc program.statements
      by true f b g c h d is = let lt = ltb-true s.gone (length t.messages) f in absurd (omega arith)
      by false f true g c h d is = let lt = ltb-true s.heard (length t.wants) g in absurd (omega (arith, e))
      by false f false g true h true is = refl
      by false f false g c h false is = absurd (cc)
      by false f false g false h true is = let gt = leb-false s.heard (length t.wants) h in absurd (omega (arith, e))

  -- at the end `Quit` is ahead
  pub quits : drop s.over (turns program.steps) ≡ [] → ahead program s fair ≡ Quit ∷ []
  quits none = ap (λ (l : List Turn). stream.may_send 256 l s.heard (stops_at s)) none

  pub quits-behind : (t : Turn) (later : List Turn) → drop s.over (turns program.steps) ≡ t ∷ later → s.heard ≡ length t.wants → stops_at s ≡ true
      → ahead program s fair ≡ t.messages ++ Quit ∷ []
  quits-behind t later here e stops = ap (λ (l : List Turn). stream.may_send 256 l s.heard (stops_at s)) here
      ∙ ap (λ (b : Bool). stream.may_send 256 (t ∷ later) s.heard b) stops ∙ sends-last 256 t later s.heard e

  -- how it ends
  abbrev ending-by : Bool → Option Ending
  ending-by out = if out then Some (ending_of (finding_of s.stopped).list) else None

  pub ends : s.bad ≡ None → stream.ending_of_stream 256 (state_at program s) ≡ ending-by (has_quit (take s.gone (ahead program s fair)))
  ends none = (λ i. elim (none i) [
    | Some byte ↦ Some (BadAnswer (command_at (turns program.steps) (state_at program s).answered) byte)
    | None ↦ ending-by (is-out program s fair i)
  ])
