use Rattle.std.proofs.Common.{◌≡◌, ◌+◌, ◌≤◌, List, drop, slice_get, sym, ap, ◌∙◌, arith}
use Rattle.bitbang.specs.Left.{behind}
use Rattle.svf_programs.specs.Sizes.{program_of}
use Rattle.svf_programs.specs.Steps.{Numbered}
use Rattle.tck_cycles.specs.Cycles.{cycles}
use Rattle.player.specs.Progress.{rest_of}
use Rattle.player.proofs.OneByte.{asked-is, asked_by, gives-byte}
use Rattle.player.proofs.PlayerPlaces.{in-step}
use Rattle.player.proofs.pieces.begun_piece.Goals as goal
use Rattle.player.proofs.pieces.begun_piece.Goals.{else-asks-via-then-asks+else-is_full, else-asks-via-else-asks}

pub returns-clause-gives : goal.returns-clause-gives
returns-clause-gives c =
    let program = program_of c.args.program.now in
    let p = c.args.p in
    let spot = c.args.spot in
    let next = c.in_ok-byte.next in
    let byte = c.in_ok-byte.byte in
    let i = in-step program p spot c.requires.is c.requires.stands in
    let cs = cycles p.place i.step.what in
    let here : rest_of p.place (drop p.at program.steps) spot ≡ behind spot cs = ap (λ (l : List Numbered). rest_of p.place l spot) i.is in
    let there : rest_of p.place (drop p.at program.steps) next ≡ behind next cs = ap (λ (l : List Numbered). rest_of p.place l next) i.is in
    let asked : c.from.result ≡ asked_by byte = c.from.ensures ∙ asked-is byte in
    let allowed : p.owed + c.from.result ≤ 256 = elim c.else-asks.branch [
      | else-asks-via-then-asks+else-is_full w ↦ grind (arith, sym w.is_full.ensures ∙ w.if-is_full.false, w.if-asks.true, asked, i.allowed)
      | else-asks-via-else-asks w ↦ grind (arith, w.if-asks.false, asked, i.allowed)
    ] in
    gives-byte program p spot next c.requires.is c.requires.stands c.requires.good c.args.buffer.now byte (p.owed + c.from.result)
    (grind (arith, c.if-buffer-ne1.false))
    (ap (λ l. slice_get l 0) here ∙ c.in_ok-byte.ensures.first cs)
    (there ∙ c.in_ok-byte.ensures.rest cs ∙ ap (drop 1) (sym here))
    (ap (λ n. p.owed + n) asked)
    allowed
