-- Once `Q` was taken, the player that keeps no answers tells the full play's ending.
use Rattle.std.proofs.Common.{◌≡◌, Bool, true, false, ◌||◌, ℕ, ◌-◌, ◌==◌, List, [], ◌∷◌, ◌++◌, find, map, length, take, refl, sym, ap, ◌∙◌, subst, arith, count_by, Some, None, append-nil}
use Rattle.std.proofs.Math.Seq.{take-length}
use Rattle.std.proofs.lemmas.List.{length-map}
use Rattle.std.specs.Prelude.{◌^◌, min, if◌then◌else◌}
use Rattle.std.specs.List.{list_any}
use Rattle.bitbang_protocol.specs.Protocol.{answer, encode}
use Rattle.svf_programs.specs.Steps.{Numbered, Program}
use Rattle.board_model.specs.Chain.{BoardState, hear}
use Rattle.play_model.specs.declared.ending.Ending.{Ending}
use Rattle.play_model.specs.declared.ending.Ending.TheVariants.{Pass, Fail, Lost}
use Rattle.play_model.specs.DirectPlay.{MeansFromOpening}
use Rattle.play_model.specs.Events.{Event, World, by_answers, empty_pipes, before_events as fresh_world, run}
use Rattle.play_model.specs.Play.{Played, Turn, ending_for, full_play, is_bad, play, player, sent, turns}
use Rattle.play_model.specs.Playing.{PlayerState}
use Rattle.play_model.specs.declared.kind.Kind.{Kind}
use Rattle.play_model.specs.declared.kind.Kind.TheVariants.{Stops, PlaysOn}
use Rattle.play_model.specs.PlayingOn.{Mismatch, ending_of, failures, turns_for, unjudged}
use Rattle.play_model.specs.Streams as stream
use Rattle.play_model.specs.Streams.{Found, StreamState, found_of, most_kept, new_stream}
use Rattle.play_model.proofs.Asks.{hear-asks, hear-full, sent-full, turns-ask, played_of}
use Rattle.play_model.proofs.DescribedPlays.{means_from_opening}
use Rattle.play_model.specs.AllFailures.{MeansAllFromOpening}
use Rattle.play_model.specs.ScheduleLaws.{bytes_of_full_play, full}
use Rattle.play_model.proofs.AllFailures.{first_of_all_played, never}
use Rattle.play_model.proofs.AllMeaning.{plays_all}
use Rattle.play_model.proofs.BothPlayers.{ask-for, no-quit-for}
use Rattle.play_model.proofs.HonestLinks.{ending-full, none-bad-any, told-bits}
use Rattle.play_model.proofs.Quits.{full-quits, has_quit, turns-no-quit}
use Rattle.play_model.proofs.Runs.{run-append}
use Rattle.play_model.proofs.SafetyLaws.{every_schedule_inside, whole_at_end}
use Rattle.play_model.specs.Histories as history
use Rattle.play_model.specs.Histories.{WasAsked, bits_told}
use Rattle.play_model.specs.StreamLaws.{history_of, stream_of}
use Rattle.play_model.proofs.Agree.{agree, ask-count, counts, quit-byte}
use Rattle.play_model.proofs.SameByCount.{ends-good}
use Rattle.play_pipes.specs.Finishing.{IsReached, afresh}
use Rattle.play_pipes.specs.Standing.{ended_of, is_over}
use Rattle.play_pipes.specs.Joining.{JoinedState, side}
use Rattle.play_pipes.specs.Laws.{MeansAfter, MeansAll, MeansAllAfter, WhatIsFoundFirstIsWhatStops, WhatIsJoinedEndsAsTheFullPlay, WhatIsJoinedMeansTheProgram, WhatPlaysOnMeansTheWholeProgram, joined_after, joined_after_of}
use Rattle.play_pipes.proofs.RoundsEnd.{carries, good-all, link}

one-ending : {x y : Ending} → Some x ≡ Some y → x ≡ y
one-ending p = cc

-- a play to the end is judged by no turn
passes : (ts : List Turn) (b : BoardState) → (full_play (map unjudged ts) b).ending ≡ Pass
passes [] b = refl
passes (t ∷ ts) b =
    let heard = hear t.messages b in
    ap (λ found. (played_of (unjudged t) (map unjudged ts) heard found).ending) (never t.wants heard.answers) ∙ passes ts heard.board

none-bad-found : (got : List Bool) → find is_bad (map answer got) ≡ None
none-bad-found [] = refl
none-bad-found (true ∷ got) = none-bad-found got
none-bad-found (false ∷ got) = none-bad-found got

-- what one that stops was answered differs first where the full play fails
first-of-stopped : (steps : List Numbered) (b : BoardState) → ending_of (failures (turns steps) (full Stops steps b).answers) ≡ (full Stops steps b).ending
first-of-stopped steps b =
    let got = (full Stops steps b).answers in
    let quits : has_quit (sent 256 (turns steps) (bits_told (map answer got))) ≡ true =
    ap (λ (bits : List Bool). has_quit (sent 256 (turns steps) bits)) (told-bits got)
    ∙ ap has_quit (sent-full 256 (turns steps) b (turns-ask steps)) ∙ full-quits (turns steps) b (turns-no-quit steps) in
    ap (λ (bits : List Bool). ending_of (failures (turns steps) bits)) (sym (told-bits got))
    ∙ one-ending (sym (ends-good 256 (turns steps) (turns-no-quit steps) (map answer got) (none-bad-found got) quits) ∙ ending-full (turns steps) b (turns-ask steps))

-- A history that has all of the full play: its ending is the full play's.
module _ (kind : Kind) (program : Program) (b : BoardState) where
  abbrev ts : List Turn
  ts = turns_for kind program.steps

  abbrev played : Played
  played = full kind program.steps b

  abbrev bytes : List ℕ
  bytes = bytes_of_full_play kind program.steps b

  abbrev all : PlayerState
  all = history_of program (record { given = length bytes; got = played.answers })

  all-bytes : history.bytes_of kind 256 all ≡ bytes
  all-bytes = ap (λ (got : List Bool). map encode (sent 256 ts got)) (told-bits played.answers)
      ∙ ap (map encode) (sent-full 256 ts b (ask-for kind program.steps))

  all-out : history.given_out kind 256 all ≡ bytes
  all-out = ap (take (length bytes)) all-bytes ∙ take-length bytes

  asked : WasAsked kind 256 all
  asked = omega (
    arith,
    ap (count_by (λ b. b == 82)) all-bytes,
    counts bytes,
    ask-count played.messages,
    hear-asks played.messages b,
    ap (λ h. length h.answers) (hear-full ts b),
    length-map played.answers answer,
  )

  over : history.has_ended kind 256 all ≡ true
  over = (λ k. none-bad-any played.answers k || list_any (λ b. b == 81) (all-out k))
      ∙ quit-byte played.messages ∙ full-quits ts b (no-quit-for kind program.steps)

  ends-so : ending_for ts all.got ≡ Some played.ending
  ends-so = ending-full ts b (ask-for kind program.steps)

  pub found-all : (stream_of kind all).found ≡ found_of kind (failures (turns program.steps) played.answers)
  found-all = ap (λ (got : List ℕ). found_of kind (failures (turns program.steps) (bits_told got))) (good-all played.answers)
      ∙ ap (λ (bits : List Bool). found_of kind (failures (turns program.steps) bits)) (told-bits played.answers)

-- both kinds end by the failure that stops one
verdicts : (kind : Kind) (program : Program) (b : BoardState) → history.verdict kind 256 (all kind program b) ≡ Some (play program b).ending
verdicts Stops program b = ends-so Stops program b
verdicts PlaysOn program b =
    let p = all PlaysOn program b in
    ap (history.verdict_of PlaysOn 256 p) (ends-so PlaysOn program b ∙ ap (λ (e : Ending). Some e) (passes (turns program.steps) b))
    ∙ ap (λ (bits : List Bool). Some (ending_of (failures (turns program.steps) bits))) (told-bits (full PlaysOn program.steps b).answers)
    ∙ ap (λ (e : Ending). Some e) (first_of_all_played program.steps b)

pub tells : (kind : Kind) (program : Program) (b : BoardState) → stream.ending_of_stream 256 (stream_of kind (all kind program b)) ≡ Some (play program b).ending
tells kind program b = (agree kind 256 (all kind program b) (asked kind program b)).ended
    ∙ ap (λ (e : Bool). if e then history.verdict kind 256 (all kind program b) else None) (over kind program b)
    ∙ verdicts kind program b

pub ends : WhatIsJoinedEndsAsTheFullPlay
ends kind program b down_room up_room es quit =
    let w = joined_after_of kind program b down_room up_room es in
    let played = full kind program.steps b in
    let same = carries kind program b down_room up_room es in
    let l = link kind down_room up_room in
    let k = run (by_answers (player 256 (turns_for kind program.steps))) down_room up_room es (fresh_world b) in
    let whole = whole_at_end l program.steps b es (ap (λ w. w.quit) (sym same) ∙ quit) in
    let inside = every_schedule_inside l program.steps b es in
    let given : k.player.given ≡ length (bytes_of_full_play kind program.steps b) =
    inside.given ∙ (λ i. length (whole.bytes i ++ whole.down i)) ∙ ap length (append-nil (bytes_of_full_play kind program.steps b)) in
    let unlost : w.lost ≡ false = ap (λ w. w.lost) same ∙ whole.unlost in
    let player_is : w.player ≡ stream_of kind (all kind program b) =
    ap (λ w. w.player) same ∙ (λ i. stream_of kind (history_of program (record { given = given i; got = whole.answers i }))) in
    record {
      unlost = unlost;
      found = ap (λ (p : StreamState). p.found) player_is ∙ found-all kind program b;
      ending = (λ i. if unlost i then Some (Lost (min (stream.working w.player) (2 ^ 64 - 1)))
          else if quit i then stream.ending_of_stream 256 (player_is i) else None) ∙ tells kind program b;
      board = ap (λ w. w.board) same ∙ whole.board;
    }

-- an ending without a loss comes only once `Q` was taken
quit-first : (w : World StreamState) (ending : Ending) → w.lost ≡ false → ended_of w ≡ Some ending → w.quit ≡ true
quit-first w ending unlost e = by w.quit refl
  where
    by : (q : Bool) → w.quit ≡ q → w.quit ≡ true
    by true is = is
    by false is =
        let none : ended_of w ≡ None =
        (λ i. if unlost i then Some (Lost (min (stream.working w.player) (2 ^ 64 - 1))) else if is i then stream.ending_of_stream 256 w.player else None) in
        let clash : None ≡ Some ending = sym none ∙ e in absurd (cc)

pub means : WhatIsJoinedMeansTheProgram
means program b down_room up_room es ending legal sound some unlost e =
    let w = joined_after program b down_room up_room es in
    let at-end = ends Stops program b down_room up_room es (quit-first w ending unlost e) in
    let same : (play program b).ending ≡ ending = one-ending (sym at-end.ending ∙ e) in
    subst (λ (x : Ending). MeansFromOpening program b x w.board) same
    (subst (λ (x : BoardState). MeansFromOpening program b (play program b).ending x) (sym at-end.board) (means_from_opening program b sound some legal))

pub means_all : WhatPlaysOnMeansTheWholeProgram
means_all program b down_room up_room es ending legal sound some unlost e =
    let w = joined_after_of PlaysOn program b down_room up_room es in
    let at-end = ends PlaysOn program b down_room up_room es (quit-first w ending unlost e) in
    let all = failures (turns program.steps) (full PlaysOn program.steps b).answers in
    record {
      all = all;
      means = subst (MeansAllFromOpening program.steps b all) (sym at-end.board) (plays_all program.steps b sound some legal);
      found = at-end.found;
      ends = one-ending (sym e ∙ at-end.ending) ∙ sym (first_of_all_played program.steps b);
    }

-- what is named first is the first
named-first : (l m : List Mismatch) → ending_of l ≡ ending_of m → take 1 l ≡ take 1 m
named-first [] [] e = refl
named-first [] (g ∷ m) e = absurd (cc)
named-first (f ∷ l) [] e = absurd (cc)
named-first (f ∷ l) (g ∷ m) e = λ i. record { command = (same e).0 i; part = (same e).1 i; bit = (same e).2 i } ∷ []
  where
    same : Fail f.command f.part f.bit ≡ Fail g.command g.part g.bit → (f.command ≡ g.command) × (f.part ≡ g.part) × (f.bit ≡ g.bit)
    same p = (cc, cc, cc)

first-listed : (l : List Mismatch) → take 1 (take (most_kept PlaysOn) l) ≡ take 1 l
first-listed [] = refl
first-listed (f ∷ l) = refl

pub found_first : WhatIsFoundFirstIsWhatStops
found_first program b down_room up_room other_down other_up es others quit other_quit =
    let stopped = ends Stops program b down_room up_room es quit in
    let played_on = ends PlaysOn program b other_down other_up others other_quit in
    let all = failures (turns program.steps) (full PlaysOn program.steps b).answers in
    let one = failures (turns program.steps) (full Stops program.steps b).answers in (
      ap (λ (f : Found). take 1 f.list) played_on.found ∙ first-listed all
          ∙ named-first all one (first_of_all_played program.steps b ∙ sym (first-of-stopped program.steps b))
          ∙ ap (λ (f : Found). f.list) (sym stopped.found),
      played_on.ending ∙ sym stopped.ending,
    )

-- a play that is over tells how it ended
pub tells-some : (s : JoinedState) → IsReached s → is_over s.world ≡ true → ended_of s.world ≡ None → ⊥
tells-some s r done none = by s.world.lost refl
  where
    P : StreamState
    P = afresh s.world.player

    quit-of : (q l : Bool) → (q || l) ≡ true → l ≡ false → q ≡ true
    quit-of true l e u = refl
    quit-of false true e u = absurd (cc)
    quit-of false false e u = absurd (cc)

    by : (l : Bool) → s.world.lost ≡ l → ⊥
    by true lost =
        let some : ended_of s.world ≡ Some (Lost (min (stream.working s.world.player) (2 ^ 64 - 1))) =
        (λ i. if lost i then Some (Lost (min (stream.working s.world.player) (2 ^ 64 - 1))) else if s.world.quit then stream.ending_of_stream 256 s.world.player else None) in
        let clash : Some (Lost (min (stream.working s.world.player) (2 ^ 64 - 1))) ≡ None = sym some ∙ none in cc
    by false unlost =
        let quit : s.world.quit ≡ true = quit-of s.world.quit s.world.lost done unlost in
        let at-end = ends P.kind P.program r.start s.down_room s.up_room r.events (ap (λ (w : World StreamState). w.quit) (sym r.world) ∙ quit) in
        let clash : Some (play P.program r.start).ending ≡ None = sym at-end.ending ∙ ap ended_of (sym r.world) ∙ none in cc

-- further events of a play that came from a program and a board
module _ (s : JoinedState) (more : List Event) (after : World StreamState) (e : after ≡ run side s.down_room s.up_room more s.world) where
  there : (kind : Kind) (program : Program) (start : BoardState) (es : List Event) → s.world ≡ joined_after_of kind program start s.down_room s.up_room es
      → after ≡ joined_after_of kind program start s.down_room s.up_room (es ++ more)
  there kind program start es from = e ∙ ap (run side s.down_room s.up_room more) from
      ∙ sym (run-append side s.down_room s.up_room es more (empty_pipes (new_stream kind program) start))

  pub means-after : MeansAfter s after
  means-after program start es from legal sound some ending unlost ended =
      let is = there Stops program start es from in
      subst (λ (w : World StreamState). MeansFromOpening program start ending w.board) (sym is)
      (means program start s.down_room s.up_room (es ++ more) ending legal sound some (ap (λ (w : World StreamState). w.lost) (sym is) ∙ unlost)
      (ap ended_of (sym is) ∙ ended))

  pub means-all-after : MeansAllAfter s after
  means-all-after program start es from legal sound some ending unlost ended =
      let is = there PlaysOn program start es from in
      subst (MeansAll program start ending) (sym is)
      (means_all program start s.down_room s.up_room (es ++ more) ending legal sound some (ap (λ (w : World StreamState). w.lost) (sym is) ∙ unlost)
      (ap ended_of (sym is) ∙ ended))
