-- The player that keeps no answers and the one that is known by them agree.
use Rattle.std.proofs.Common.{◌≡◌, Bool, true, false, ◌||◌, ℕ, zero, suc, ◌+◌, ◌-◌, ◌≤◌, ◌==◌, List, [], ◌∷◌, ◌++◌, map, length, take, drop, find, refl, sym, ap, ◌∙◌, arith, length-append, count_by, Option, Some, None}
use Rattle.std.proofs.lemmas.List.{length-map, map-append}
use Rattle.std.proofs.lemmas.List.Recursion.{is_count_by}
use Rattle.std.specs.Prelude.{cond, is_some, if◌then◌else◌}
use Rattle.std.specs.List.{list_any}
use Rattle.bitbang_protocol.specs.declared.Message.{Message}
use Rattle.bitbang_protocol.specs.declared.Message.TheVariants.{Write, Ask, Quit, Light, Lines}
use Rattle.bitbang_protocol.specs.Protocol.{encode}
use Rattle.play_model.specs.declared.ending.Ending.{Ending}
use Rattle.play_model.specs.declared.ending.Ending.TheVariants.{BadAnswer}
use Rattle.play_model.specs.Play.{Turn, in_work, is_bad, sent, turns}
use Rattle.play_model.specs.Playing.{PlayerState, has_bad_answer, up_to_bad}
use Rattle.play_model.proofs.Asks.{asks}
use Rattle.play_model.proofs.GrowthByPrefix.{sent-grows}
use Rattle.play_model.specs.declared.kind.Kind.{Kind}
use Rattle.play_model.specs.declared.kind.Kind.TheVariants.{Stops, PlaysOn}
use Rattle.play_model.specs.PlayingOn.{Mismatch, ending_of, failures, turns_for, unjudged}
use Rattle.play_model.proofs.BothPlayers.{ask-for, no-quit-for}
use Rattle.play_model.proofs.Quits.{asks-append, has_quit}
use Rattle.play_model.specs.Histories as history
use Rattle.play_model.specs.Histories.{WasAsked, bits_told}
use Rattle.play_model.specs.StreamLaws.{AnsweringStaysAsked, IsSame, StreamsAgree, good, stream_of}
use Rattle.play_model.specs.Streams as stream
use Rattle.play_model.specs.Streams.{command_at, most_kept, may_send, some_differ, stops_for, command_at_work}
use Rattle.play_model.proofs.SameByCount.{ends-bad, ends-good, sends-same, unjudged-command, unjudged-failures, unjudged-sends, unjudged-works, works-same}

-- how many `R` are among bytes
abbrev pub reads : List ℕ → ℕ
reads [] = 0
reads (b ∷ bytes) = cond (b == 82) (1 + reads bytes) (reads bytes)

pub ask-count : (ms : List Message) → reads (map encode ms) ≡ asks ms
ask-count [] = refl
ask-count (Ask ∷ ms) = let e = ask-count ms in omega arith
ask-count (Quit ∷ ms) = ask-count ms
ask-count (Write true true true ∷ ms) = ask-count ms
ask-count (Write true true false ∷ ms) = ask-count ms
ask-count (Write true false true ∷ ms) = ask-count ms
ask-count (Write true false false ∷ ms) = ask-count ms
ask-count (Write false true true ∷ ms) = ask-count ms
ask-count (Write false true false ∷ ms) = ask-count ms
ask-count (Write false false true ∷ ms) = ask-count ms
ask-count (Write false false false ∷ ms) = ask-count ms
ask-count (Light true ∷ ms) = ask-count ms
ask-count (Light false ∷ ms) = ask-count ms
ask-count (Lines true true ∷ ms) = ask-count ms
ask-count (Lines true false ∷ ms) = ask-count ms
ask-count (Lines false true ∷ ms) = ask-count ms
ask-count (Lines false false ∷ ms) = ask-count ms

pub counts : (bytes : List ℕ) → count_by (λ b. b == 82) bytes ≡ reads bytes
counts bytes = sym (is_count_by reads (λ b. b == 82) refl (λ x xs. refl) bytes)

ask-bytes : (ms : List Message) → count_by (λ b. b == 82) (map encode ms) ≡ asks ms
ask-bytes ms = counts (map encode ms) ∙ ask-count ms

pub reads-take : (n : ℕ) (bytes : List ℕ) → reads (take n bytes) ≤ reads bytes
reads-take zero bytes = omega arith
reads-take (suc n) [] = omega arith
reads-take (suc n) (b ∷ bytes) = one (b == 82) (reads-take n bytes)
  where
    one : (q : Bool) → reads (take n bytes) ≤ reads bytes → cond q (1 + reads (take n bytes)) (reads (take n bytes)) ≤ cond q (1 + reads bytes) (reads bytes)
    one true le = omega (arith, le)
    one false le = le

pub quit-byte : (ms : List Message) → list_any (λ b. b == 81) (map encode ms) ≡ has_quit ms
quit-byte [] = refl
quit-byte (Quit ∷ ms) = refl
quit-byte (Ask ∷ ms) = quit-byte ms
quit-byte (Write true true true ∷ ms) = quit-byte ms
quit-byte (Write true true false ∷ ms) = quit-byte ms
quit-byte (Write true false true ∷ ms) = quit-byte ms
quit-byte (Write true false false ∷ ms) = quit-byte ms
quit-byte (Write false true true ∷ ms) = quit-byte ms
quit-byte (Write false true false ∷ ms) = quit-byte ms
quit-byte (Write false false true ∷ ms) = quit-byte ms
quit-byte (Write false false false ∷ ms) = quit-byte ms
quit-byte (Light true ∷ ms) = quit-byte ms
quit-byte (Light false ∷ ms) = quit-byte ms
quit-byte (Lines true true ∷ ms) = quit-byte ms
quit-byte (Lines true false ∷ ms) = quit-byte ms
quit-byte (Lines false true ∷ ms) = quit-byte ms
quit-byte (Lines false false ∷ ms) = quit-byte ms

any-take : (n : ℕ) (bytes : List ℕ) → list_any (λ b. b == 81) (take n bytes) ≡ true → list_any (λ b. b == 81) bytes ≡ true
any-take zero bytes e = absurd (clash e)
  where
    clash : false ≡ true → ⊥
    clash p = cc
any-take (suc n) [] e = e
any-take (suc n) (b ∷ bytes) e = one (b == 81) e (any-take n bytes)
  where
    one : (q : Bool) → (q || list_any (λ b. b == 81) (take n bytes)) ≡ true
        → (list_any (λ b. b == 81) (take n bytes) ≡ true → list_any (λ b. b == 81) bytes ≡ true) → (q || list_any (λ b. b == 81) bytes) ≡ true
    one true e rest = refl
    one false e rest = rest e

-- a list with no bad answer, and one with
any-find : (got : List ℕ) → list_any is_bad got ≡ is_some (find is_bad got)
any-find [] = refl
any-find (g ∷ got) = one (is_bad g) (any-find got)
  where
    one : (bad : Bool) → list_any is_bad got ≡ is_some (find is_bad got) → (bad || list_any is_bad got) ≡ is_some (if bad then Some g else find is_bad got)
    one true e = refl
    one false e = e

good-all : (got : List ℕ) → find is_bad got ≡ None → good got ≡ got
good-all [] e = refl
good-all (g ∷ got) e = one (is_bad g) e (good-all got)
  where
    one : (bad : Bool) → (if bad then Some g else find is_bad got) ≡ None → (find is_bad got ≡ None → good got ≡ got)
        → (if bad then [] else g ∷ good got) ≡ g ∷ got
    one true e rest = absurd (clash e)
      where
        clash : Some g ≡ None → ⊥
        clash p = cc
    one false e rest = ap (λ l. g ∷ l) (rest e)

first-kept : (kind : Kind) (fs : List Mismatch) → some_differ (take (most_kept kind) fs) ≡ some_differ fs
first-kept Stops [] = refl
first-kept Stops (f ∷ fs) = refl
first-kept PlaysOn [] = refl
first-kept PlaysOn (f ∷ fs) = refl

first-named : (kind : Kind) (fs : List Mismatch) → ending_of (take (most_kept kind) fs) ≡ ending_of fs
first-named Stops [] = refl
first-named Stops (f ∷ fs) = refl
first-named PlaysOn [] = refl
first-named PlaysOn (f ∷ fs) = refl

module _ (window : ℕ) (p : PlayerState) where
  ts : List Turn
  ts = turns p.program.steps

  -- the history was asked for, in messages
  was-asked : (kind : Kind) → WasAsked kind window p → length (bits_told p.got) ≤ asks (sent window (turns_for kind p.program.steps) (bits_told p.got))
  was-asked kind asked =
      omega (arith, asked, length-map p.got (λ b. b == 49), ask-bytes (sent window (turns_for kind p.program.steps) (bits_told p.got)))

  abbrev stopping : Kind → List ℕ → Bool
  stopping kind g = stops_for kind (take (most_kept kind) (failures (turns p.program.steps) (bits_told g)))

  sends-for : (kind : Kind) → WasAsked kind window p
      → may_send window (turns p.program.steps) (length p.got) (stopping kind p.got) ≡ sent window (turns_for kind p.program.steps) (bits_told p.got)
  sends-for Stops asked =
      (λ i. may_send window (turns p.program.steps) (sym (length-map p.got (λ b. b == 49)) i) (first-kept Stops (failures (turns p.program.steps) (bits_told p.got)) i))
      ∙ sym (sends-same window (turns p.program.steps) (ask-for Stops p.program.steps) (bits_told p.got) (was-asked Stops asked))
  sends-for PlaysOn asked =
      sym (unjudged-sends window (turns p.program.steps) (length p.got))
      ∙ (λ i. may_send window (map unjudged (turns p.program.steps)) (sym (length-map p.got (λ b. b == 49)) i)
      (some_differ (sym (unjudged-failures (turns p.program.steps) (bits_told p.got)) i)))
      ∙ sym (sends-same window (map unjudged (turns p.program.steps)) (ask-for PlaysOn p.program.steps) (bits_told p.got) (was-asked PlaysOn asked))

  works-for : (kind : Kind) → WasAsked kind window p
      → command_at_work p.program.statements (turns p.program.steps) p.given (length p.got) (stopping kind p.got)
      ≡ in_work p.program.statements (turns_for kind p.program.steps) p.given (bits_told p.got)
  works-for Stops asked =
      (λ i. command_at_work p.program.statements (turns p.program.steps) p.given (sym (length-map p.got (λ b. b == 49)) i)
      (first-kept Stops (failures (turns p.program.steps) (bits_told p.got)) i))
      ∙ sym (works-same p.program.statements window (turns p.program.steps) (ask-for Stops p.program.steps) p.given (bits_told p.got) (was-asked Stops asked))
  works-for PlaysOn asked =
      sym (unjudged-works p.program.statements (turns p.program.steps) p.given (length p.got))
      ∙ (λ i. command_at_work p.program.statements (map unjudged (turns p.program.steps)) p.given (sym (length-map p.got (λ b. b == 49)) i)
      (some_differ (sym (unjudged-failures (turns p.program.steps) (bits_told p.got)) i)))
      ∙ sym (works-same p.program.statements window (map unjudged (turns p.program.steps)) (ask-for PlaysOn p.program.steps) p.given (bits_told p.got) (was-asked PlaysOn asked))

  -- without a bad answer the bytes are the same
  bytes-same : (kind : Kind) → WasAsked kind window p → find is_bad p.got ≡ None
      → stream.bytes_of window (stream_of kind p) ≡ history.bytes_of kind window p
  bytes-same kind asked ok =
      (λ i. map encode (may_send window (turns p.program.steps) (length (good-all p.got ok i)) (stopping kind (good-all p.got ok i))))
      ∙ ap (map encode) (sends-for kind asked)

  bad-ending : (kind : Kind) → WasAsked kind window p → (x : ℕ) → find is_bad p.got ≡ Some x
      → Some (BadAnswer (command_at (turns p.program.steps) (length (good p.got))) x) ≡ history.verdict kind window p
  bad-ending Stops asked x e = sym (ends-bad window (turns p.program.steps) (ask-for Stops p.program.steps) p.got x e (was-asked Stops asked))
  bad-ending PlaysOn asked x e =
      sym (ap (history.verdict_of PlaysOn window p)
      (ends-bad window (map unjudged (turns p.program.steps)) (ask-for PlaysOn p.program.steps) p.got x e (was-asked PlaysOn asked)
      ∙ ap (λ n. Some (BadAnswer n x)) (unjudged-command (turns p.program.steps) (length (good p.got)))))

  good-ending : (kind : Kind) → find is_bad p.got ≡ None → has_quit (sent window (turns_for kind p.program.steps) (bits_told p.got)) ≡ true
      → Some (ending_of (failures (turns p.program.steps) (bits_told p.got))) ≡ history.verdict kind window p
  good-ending Stops ok quit = sym (ends-good window (turns p.program.steps) (no-quit-for Stops p.program.steps) p.got ok quit)
  good-ending PlaysOn ok quit =
      sym (ap (history.verdict_of PlaysOn window p)
      (ends-good window (map unjudged (turns p.program.steps)) (no-quit-for PlaysOn p.program.steps) p.got ok quit
      ∙ ap (λ l. Some (ending_of l)) (unjudged-failures (turns p.program.steps) (bits_told p.got))))

  abbrev ended_as : Kind → List ℕ → Option ℕ → Bool → Option Ending
  ended_as kind g bad quit = elim bad [
    | Some byte ↦ Some (BadAnswer (command_at (turns p.program.steps) (length g)) byte)
    | None ↦ if quit then Some (ending_of (take (most_kept kind) (failures (turns p.program.steps) (bits_told g)))) else None
  ]

  abbrev Q : List ℕ → Bool
  Q bytes = list_any (λ b. b == 81) (take p.given bytes)

  pub same : (kind : Kind) → WasAsked kind window p → IsSame kind window p
  same kind asked =
      record { waiting = waits (find is_bad p.got) refl; owed = owes; taken = λ bytes. ap (λ n. up_to_bad (take n bytes)) owes; ended = ends (find is_bad p.got) refl; working = works_ (find is_bad p.got) refl }
    where
      B : List ℕ
      B = stream.bytes_of window (stream_of kind p)

      H : List ℕ
      H = history.bytes_of kind window p

      is-bad : has_bad_answer p ≡ is_some (find is_bad p.got)
      is-bad = any-find p.got

      waits : (f : Option ℕ) → find is_bad p.got ≡ f → (if is_some (find is_bad p.got) then [] else drop p.given B) ≡ (if has_bad_answer p then [] else drop p.given H)
      waits (Some x) e = (λ i. if is_some (e i) then [] else drop p.given B) ∙ (λ i. if sym (is-bad ∙ ap is_some e) i then [] else drop p.given H)
      waits None e =
          (λ i. if is_some (e i) then [] else drop p.given (bytes-same kind asked e i)) ∙ (λ i. if sym (is-bad ∙ ap is_some e) i then [] else drop p.given H)

      owes_ : (f : Option ℕ) → find is_bad p.got ≡ f
          → (if is_some (find is_bad p.got) then 0 else count_by (λ b. b == 82) (take p.given B) - length (good p.got))
          ≡ (if has_bad_answer p then 0 else count_by (λ b. b == 82) (take p.given H) - length p.got)
      owes_ (Some x) e =
          (λ i. if is_some (e i) then 0 else count_by (λ b. b == 82) (take p.given B) - length (good p.got))
          ∙ (λ i. if sym (is-bad ∙ ap is_some e) i then 0 else count_by (λ b. b == 82) (take p.given H) - length p.got)
      owes_ None e =
          (λ i. if is_some (e i) then 0 else count_by (λ b. b == 82) (take p.given (bytes-same kind asked e i)) - length (good-all p.got e i))
          ∙ (λ i. if sym (is-bad ∙ ap is_some e) i then 0 else count_by (λ b. b == 82) (take p.given H) - length p.got)

      owes : stream.owed window (stream_of kind p) ≡ history.owed kind window p
      owes = owes_ (find is_bad p.got) refl

      quits : Q H ≡ true → has_quit (sent window (turns_for kind p.program.steps) (bits_told p.got)) ≡ true
      quits e = sym (quit-byte (sent window (turns_for kind p.program.steps) (bits_told p.got))) ∙ any-take p.given H e

      finished : (q : Bool) → Q H ≡ q → find is_bad p.got ≡ None
          → (if q then Some (ending_of (take (most_kept kind) (failures (turns p.program.steps) (bits_told p.got)))) else None)
          ≡ (if q then history.verdict kind window p else None)
      finished true e ok = ap (λ v. Some v) (first-named kind (failures (turns p.program.steps) (bits_told p.got))) ∙ good-ending kind ok (quits e)
      finished false e ok = refl

      ends : (f : Option ℕ) → find is_bad p.got ≡ f
          → ended_as kind (good p.got) (find is_bad p.got) (Q B) ≡ (if has_bad_answer p || Q H then history.verdict kind window p else None)
      ends (Some x) e =
          (λ i. ended_as kind (good p.got) (e i) (Q B)) ∙ bad-ending kind asked x e
          ∙ (λ i. if sym (is-bad ∙ ap is_some e) i || Q H then history.verdict kind window p else None)
      ends None e =
          (λ i. ended_as kind (good-all p.got e i) (e i) (Q (bytes-same kind asked e i))) ∙ finished (Q H) refl e
          ∙ (λ i. if sym (is-bad ∙ ap is_some e) i || Q H then history.verdict kind window p else None)

      works_ : (f : Option ℕ) → find is_bad p.got ≡ f → has_bad_answer p ≡ false
          → command_at_work p.program.statements (turns p.program.steps) p.given (length (good p.got)) (stopping kind (good p.got)) ≡ history.working kind window p
      works_ (Some x) e none = absurd (clash (sym (is-bad ∙ ap is_some e) ∙ none))
        where
          clash : true ≡ false → ⊥
          clash p = cc
      works_ None e none =
          (λ i. command_at_work p.program.statements (turns p.program.steps) p.given (length (good-all p.got e i)) (stopping kind (good-all p.got e i)))
          ∙ works-for kind asked

pub agree : StreamsAgree
agree kind window p asked = same window p kind asked

-- every history that calls lead to was asked for
up-to-bad-less : (bytes : List ℕ) → length (up_to_bad bytes) ≤ length bytes
up-to-bad-less [] = omega arith
up-to-bad-less (b ∷ bytes) = one (is_bad b) (up-to-bad-less bytes)
  where
    one : (bad : Bool) → length (up_to_bad bytes) ≤ length bytes → length (b ∷ (if bad then [] else up_to_bad bytes)) ≤ length (b ∷ bytes)
    one true le = omega arith
    one false le = omega (arith, le)

take-less : (n : ℕ) (bytes : List ℕ) → length (take n bytes) ≤ n
take-less zero bytes = omega arith
take-less (suc n) [] = omega arith
take-less (suc n) (b ∷ bytes) = omega (arith, take-less n bytes)

more-asked : (kind : Kind) (window : ℕ) (p : PlayerState) (bytes : List ℕ) → WasAsked kind window p
    → WasAsked kind window (record p { got = p.got ++ history.answers_taken kind window p bytes })
more-asked kind window p bytes asked =
    omega (
      arith,
      asked,
      owed-most (has_bad_answer p),
      up-to-bad-less (take (history.owed kind window p) bytes),
      take-less (history.owed kind window p) bytes,
      length-append p.got T,
      ask-bytes S,
      ask-bytes S2,
      asks-append S more.0,
      ap asks (more.1 ∙ ap (sent window ts) (sym (map-append (λ b. b == 49) p.got T))),
    )
  where
    ts : List Turn
    ts = turns_for kind p.program.steps

    T : List ℕ
    T = history.answers_taken kind window p bytes

    S : List Message
    S = sent window ts (bits_told p.got)

    S2 : List Message
    S2 = sent window ts (bits_told (p.got ++ T))

    more : (rest : List Message) × (S ++ rest ≡ sent window ts (bits_told p.got ++ bits_told T))
    more = sent-grows window ts (bits_told p.got) (bits_told T)

    c : ℕ
    c = count_by (λ b. b == 82) (take p.given (map encode S))

    c-less : c ≤ count_by (λ b. b == 82) (map encode S)
    c-less = omega (arith, counts (take p.given (map encode S)), counts (map encode S), reads-take p.given (map encode S))

    owed-most : (bad : Bool) → (if bad then 0 else c - length p.got) + length p.got ≤ count_by (λ b. b == 82) (map encode S)
    owed-most true = omega (arith, asked)
    owed-most false = omega (arith, c-less, asked)

pub stays_asked : AnsweringStaysAsked
stays_asked kind window = record { fresh = λ program. omega arith; give = λ p n asked. asked; answer = λ p bytes asked. more-asked kind window p bytes asked }
