-- A player whose fields say that it is in a step, in the opening, or at the end.
use Rattle.std.proofs.Common.{◌≡◌, Bool, true, false, ℕ, zero, suc, ◌+◌, ◌-◌, ◌<◌, ◌≤◌, List, [], ◌∷◌, map, length, take, drop, refl, sym, ap, subst, ◌∙◌, arith, Option, Some, None}
use Rattle.std.proofs.lemmas.List.{drop-map}
use Rattle.std.specs.Prelude.{◌==◌, is_some, if◌then◌else◌}
use Rattle.bitbang_protocol.specs.Cycles.{opening}
use Rattle.bitbang_protocol.specs.declared.Message.{Message}
use Rattle.bitbang_protocol.specs.Protocol.{encode}
use Rattle.bitbang.specs.StepMessages.{step_messages}
use Rattle.bitbang.specs.declared.step_bytes.Spot.{Spot}
use Rattle.svf_programs.specs.Steps.{Numbered, Program, place_after}
use Rattle.play_model.specs.Play.{Turn, step_turns, turns, wants_of}
use Rattle.play_model.specs.Streams.{some_differ}
use Rattle.play_model.proofs.Asks.{asks}
use Rattle.play_model.proofs.Agree as agree
use Rattle.player.specs.declared.progress.Phase.{Phase}
use Rattle.player.specs.declared.progress.Phase.TheVariants.{Opening, Within, Over}
use Rattle.player.specs.declared.progress.Progress.{Progress}
use Rattle.player.specs.Progress.{InOpening, InPhase, InStep, IsProgressOf, gone, over, first_step_length, rest_of, standing_at, state_of}
use Rattle.player.specs.PlaceInPlay.{finding_of, reads, state_at}
use Rattle.player.proofs.Ahead.{map-take, stops_at}
use Rattle.player.proofs.TurnPlaces.{IsIn, over-now, reached}

reads-same : (bytes : List ℕ) → reads bytes ≡ agree.reads bytes
reads-same [] = refl
reads-same (b ∷ bytes) = by (b == 82) (reads-same bytes)
  where
    by : (q : Bool) → reads bytes ≡ agree.reads bytes → (if q then suc (reads bytes) else reads bytes) ≡ (if q then 1 + agree.reads bytes else agree.reads bytes)
    by true e = omega (arith, e)
    by false e = e

-- the `R` among the bytes of messages
pub reads-asks : (ms : List Message) → reads (map encode ms) ≡ asks ms
reads-asks ms = reads-same (map encode ms) ∙ agree.ask-count ms

-- it stops where something differed
pub stops-some : (stopped : Bool) (b : Bool) → some_differ (finding_of stopped).list ≡ b → stopped ≡ b
stops-some false b e = e
stops-some true b e = e

pub no-byte : {A : Type 0} (o : Option A) → (is_some o ≡ true → ⊥) → o ≡ None
no-byte None f = refl
no-byte (Some x) f = absurd (f refl)

pub no-elements : {A : Type 0} (l : List A) → length l ≡ 0 → l ≡ []
no-elements [] e = refl
no-elements (x ∷ l) e = absurd (omega (arith, e))

module _ (program : Program) (p : Progress) (spot : Spot) (is : p.phase ≡ Within spot) (stands : IsProgressOf program.steps p) where
  abbrev pub rest : List Numbered
  rest = drop p.at program.steps

  abbrev pub in-step : InStep spot (drop p.at program.steps) p
  in-step = subst (InPhase (drop p.at program.steps) p) is stands.phase

  abbrev pub turn : Turn
  turn = record {
    command = in-step.step.number;
    messages = step_messages p.place in-step.step.what;
    wants = wants_of in-step.step.what;
  }

  abbrev pub later : List Turn
  later = step_turns (place_after p.place in-step.step.what) in-step.later

  pub over-is : over p ≡ suc p.at
  over-is = ap (λ (ph : Phase). elim ph [ Opening n ↦ 0 | Within spot ↦ suc p.at | Over out ↦ suc p.at ]) is

  pub gone-is : gone rest p ≡ length turn.messages - length (rest_of p.place rest spot)
  gone-is = ap (λ (ph : Phase). gone rest (record p { phase = ph })) is ∙ ap (λ (n : ℕ). n - length (rest_of p.place rest spot)) (ap (first_step_length p.place) in-step.is)

  pub within : length (rest_of p.place rest spot) ≤ length turn.messages
  within = omega (arith, in-step.some, ap (first_step_length p.place) in-step.is)

  asked : asks (take (gone rest p) turn.messages) ≡ p.heard + p.owed
  asked = sym (reads-asks (take (gone rest p) turn.messages)) ∙ ap reads (sym (map-take (gone rest p) turn.messages)) ∙ in-step.asked

  fair : stops_at (standing_at program.steps p) ≡ true → 0 < p.heard
  fair stops = in-step.fair (stops-some p.stopped true stops)

  pub is-in : IsIn program (standing_at program.steps p) turn later p.owed
  is-in = record {
    here = ap (λ (n : ℕ). drop n (turns program.steps)) over-is ∙ stands.rests.turns_are ∙ ap (step_turns p.place) in-step.is;
    within = omega (arith, gone-is);
    asked = asked;
    allowed = in-step.allowed;
    fair = fair;
  }

  pub left-is : rest_of p.place rest spot ≡ map encode (drop (gone rest p) turn.messages)
  left-is = in-step.left ∙ drop-map encode (gone rest p) turn.messages

  -- nothing is left and nothing is owed
  module _ (none : rest_of p.place rest spot ≡ []) (nothing : p.owed ≡ 0) where
    pub all-gone : gone rest p ≡ length turn.messages
    all-gone = omega (arith, gone-is, ap length none)

    pub all-heard : p.heard ≡ length turn.wants
    all-heard = omega (arith, reached program (standing_at program.steps p) turn later p.owed is-in, out-all (gone rest p) turn.messages all-gone)
      where
        out-all : (n : ℕ) (ms : List Message) → n ≡ length ms → asks (drop n ms) ≡ 0
        out-all zero [] e = refl
        out-all zero (m ∷ ms) e = absurd (omega (arith, e))
        out-all (suc n) [] e = refl
        out-all (suc n) (m ∷ ms) e = out-all n ms (omega (arith, e))

    pub not-bad : p.bad ≡ None
    not-bad = no-byte p.bad (λ some. let more = in-step.bad some in omega (arith, nothing))

    -- the play ends behind a step that failed
    pub stops-here : p.stopped ≡ true → IsProgressOf program.steps (record p { phase = Over false })
    stops-here some = record {
      rests = stands.rests;
      phase = record {
        passed = λ e. let bad : false ≡ true = sym e ∙ some in absurd (cc);
        stopped = λ e. (in-step.step, in-step.later, in-step.is, all-heard, in-step.fair some);
        owed = nothing;
        bad = not-bad;
      };
    }

    pub stops-same : state_of program (record p { phase = Over false }) ≡ state_of program p
    stops-same =
        let g : first_step_length p.place rest + 0 ≡ gone rest p = omega (arith, all-gone, ap (first_step_length p.place) in-step.is) in
        (λ k. state_at program (record (standing_at program.steps p) { over = sym over-is k; gone = g k }))

    -- or the next step begins
    pub passes-same : p.stopped ≡ false
        → state_at program (record { over = suc (suc p.at); gone = 0; heard = 0; stopped = false; bad = None }) ≡ state_of program p
    passes-same passed =
        (λ k. state_at program (record { over = suc (sym over-is k); gone = 0; heard = 0; stopped = sym passed k; bad = sym not-bad k }))
        ∙ over-now program (standing_at program.steps p) turn later p.owed is-in all-gone nothing

-- the opening
module _ (program : Program) (p : Progress) (n : ℕ) (is : p.phase ≡ Opening n) (stands : IsProgressOf program.steps p) where
  abbrev pub in-opening : InOpening n p
  in-opening = subst (InPhase (drop p.at program.steps) p) is stands.phase

  abbrev pub first-turn : Turn
  first-turn = record { command = 0; messages = opening; wants = [] }

  pub over-none : over p ≡ 0
  over-none = ap (λ (ph : Phase). elim ph [ Opening n ↦ 0 | Within spot ↦ suc p.at | Over out ↦ suc p.at ]) is

  pub gone-so : gone (drop p.at program.steps) p ≡ n
  gone-so = ap (λ (ph : Phase). gone (drop p.at program.steps) (record p { phase = ph })) is

  pub opens : state_of program p ≡ state_at program (record { over = 0; gone = n; heard = 0; stopped = false; bad = None })
  opens = (λ k. state_at program (record {
    over = over-none k;
    gone = gone-so k;
    heard = in-opening.heard k;
    stopped = in-opening.stopped k;
    bad = in-opening.bad k;
  }))
