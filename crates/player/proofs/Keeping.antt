-- A player that keeps other failures than the first alone: what it sends, owes and tells.
use Rattle.std.proofs.Common.{◌≡◌, Bool, true, false, ℕ, ◌+◌, ◌-◌, ◌≤◌, List, [], take, drop, map, refl, sym, ap, subst, ◌∙◌, arith, count_by, Some, None}
use Rattle.std.specs.Prelude.{◌==◌, is_some, if◌then◌else◌}
use Rattle.std.specs.List.{list_any}
use Rattle.bitbang_protocol.specs.Protocol.{encode}
use Rattle.svf_programs.specs.Steps.{Numbered, Program}
use Rattle.std.specs.Prelude.{slice_get}
use Rattle.play_model.specs.declared.ending.Ending.TheVariants.{BadAnswer}
use Rattle.play_model.specs.Playing.{up_to_bad}
use Rattle.play_model.specs.PlayingOn.{ending_of}
use Rattle.play_model.specs.Streams as stream
use Rattle.play_model.specs.Streams.{StreamState, command_at, command_at_work, may_send, turns_of, new_stream, answers_taken, bytes_to_send}
use Rattle.player.specs.declared.progress.Phase.TheVariants.{Opening}
use Rattle.player.specs.declared.progress.Progress.{Progress}
use Rattle.player.specs.Findings.{IsKeptOf, Keeping, keeping}
use Rattle.player.specs.PlaceInPlay.{finding_of}
use Rattle.player.specs.Progress.{IsProgressOf, is_out, state_of}
use Rattle.player.proofs.AnswersTaken.{owed-so}
use Rattle.player.proofs.PlayerPlaces.{no-elements, opens}
use Rattle.player.proofs.EndingLaws.{ended-bad, ended-good}

module _ (s : StreamState) (k : Keeping) (keeps : IsKeptOf s k) where
  bytes-same : stream.bytes_of 256 (keeping k s) ≡ stream.bytes_of 256 s
  bytes-same = ap (λ (b : Bool). map encode (may_send 256 (turns_of s) s.answered b)) keeps.stops

  pub sends-same : bytes_to_send 256 (keeping k s) ≡ bytes_to_send 256 s
  sends-same = ap (λ (l : List ℕ). if is_some s.bad then [] else drop s.given l) bytes-same

  pub owes-same : stream.owed 256 (keeping k s) ≡ stream.owed 256 s
  owes-same = ap (λ (l : List ℕ). if is_some s.bad then 0 else count_by (λ b. b == 82) (take s.given l) - s.answered) bytes-same

  pub takes-same : (bytes : List ℕ) → answers_taken 256 (keeping k s) bytes ≡ answers_taken 256 s bytes
  takes-same bytes = ap (λ (n : ℕ). up_to_bad (take n bytes)) owes-same

  pub works-same : stream.working (keeping k s) ≡ stream.working s
  works-same = ap (λ (b : Bool). command_at_work s.program.statements (turns_of s) s.given s.answered b) keeps.stops

  quit-same : list_any (λ b. b == 81) (stream.given_out 256 (keeping k s)) ≡ list_any (λ b. b == 81) (stream.given_out 256 s)
  quit-same = ap (λ (l : List ℕ). list_any (λ b. b == 81) (take s.given l)) bytes-same

  -- bytes are given out
  pub gives-keep : (t : StreamState) (n : ℕ) → t ≡ record s { given = s.given + n } → IsKeptOf t k
  gives-keep t n e = record {
    stops = keeps.stops ∙ sym (ap stream.stops e);
    few = subst (λ (m : ℕ). k.found.total ≤ m) (sym (ap (λ (x : StreamState). x.answered) e)) keeps.few;
    counted = keeps.counted;
  }

or-none : {A : Type 0} (b : Bool) (x : A) → is_some (if b then Some x else None) ≡ b
or-none true x = refl
or-none false x = refl

module _ (program : Program) (p : Progress) (stands : IsProgressOf program.steps p) (k : Keeping) (keeps : IsKeptOf (state_of program p) k) where
  -- whether `Q` is out
  quits : p.bad ≡ None → list_any (λ b. b == 81) (stream.given_out 256 (state_of program p)) ≡ is_out p.phase
  quits good =
      let E = ending_of (finding_of p.stopped).list in
      sym (or-none (list_any (λ b. b == 81) (stream.given_out 256 (state_of program p))) E)
      ∙ (λ i. is_some (elim (sym good i) [
        | Some byte ↦ Some (BadAnswer (command_at (turns_of (state_of program p)) (state_of program p).answered) byte)
        | None ↦ if list_any (λ b. b == 81) (stream.given_out 256 (state_of program p)) then Some E else None
      ]))
      ∙ ap is_some (ended-good program p stands good)
      ∙ or-none (is_out p.phase) E

  pub keeps-ended-good : p.bad ≡ None → stream.ending_of_stream 256 (keeping k (state_of program p)) ≡ (if is_out p.phase then Some (ending_of k.found.list) else None)
  keeps-ended-good good =
      let s = keeping k (state_of program p) in
      (λ i. elim (good i) [
        | Some byte ↦ Some (BadAnswer (command_at (turns_of s) s.answered) byte)
        | None ↦ if list_any (λ b. b == 81) (stream.given_out 256 s) then Some (ending_of k.found.list) else None
      ])
      ∙ ap (λ (b : Bool). if b then Some (ending_of k.found.list) else None) (quit-same (state_of program p) k keeps ∙ quits good)

  pub keeps-ended-bad : (s : Numbered) → slice_get program.steps p.at ≡ Some s → (byte : ℕ) → p.bad ≡ Some byte
      → stream.ending_of_stream 256 (keeping k (state_of program p)) ≡ Some (BadAnswer s.number byte)
  keeps-ended-bad s first byte bad =
      let t = keeping k (state_of program p) in
      let u = state_of program p in
      (λ i. elim (bad i) [
        | Some b ↦ Some (BadAnswer (command_at (turns_of t) t.answered) b)
        | None ↦ if list_any (λ b. b == 81) (stream.given_out 256 t) then Some (ending_of t.found.list) else None
      ])
      ∙ (λ i. elim (sym bad i) [
        | Some b ↦ Some (BadAnswer (command_at (turns_of u) u.answered) b)
        | None ↦ if list_any (λ b. b == 81) (stream.given_out 256 u) then Some (ending_of u.found.list) else None
      ])
      ∙ ended-bad program p stands s first byte bad

  -- a player of which nothing is out
  pub fresh-is : p.phase ≡ Opening 0 → keeping k (state_of program p) ≡ new_stream k.kind program
  fresh-is is =
      let start = opens program p 0 is stands in
      let none : k.found.total ≡ 0 = omega (arith, keeps.few, ap (λ (x : StreamState). x.answered) start) in
      let no-list : k.found.list ≡ [] = no-elements k.found.list (omega (arith, keeps.counted, none)) in
      ap (keeping k) start ∙ (λ i. record (new_stream k.kind program) { found = record { list = no-list i; total = none i } })

  pub owed-is : p.bad ≡ None → p.owed ≡ stream.owed 256 (keeping k (state_of program p))
  owed-is good = sym (owes-same (state_of program p) k keeps ∙ owed-so program p stands good)
