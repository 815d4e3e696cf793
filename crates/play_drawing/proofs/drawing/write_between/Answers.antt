use Rattle.std.proofs.Common.{◌≡◌, ◌++◌, append_assoc, length, refl, sym, ap, subst, ◌∙◌, List, ℕ, arith}
use Rattle.pin_nets.specs.Wired.{Net}
use Rattle.board_model.specs.Chain.{ChipState}
use Rattle.byte_streams.proofs.Fronts.{WritesAll-is, WritesAll-stopped, WritesAll-then}
use Rattle.wave_files.specs.Changes.{board_changes, line_changes, stamp, stamped_changes}
use Rattle.wave_files.specs.Changes.{IsQuiet}
use Rattle.wave_files.specs.Extras.{all_extra_changes}
use Rattle.play_drawing.specs.Drawing.{shown}
use Rattle.play_drawing.proofs.Strokes.{pen, silent, told}
use Rattle.play_drawing.proofs.drawing.write_between.Goals as goal

-- the time, the lines and the board, and what is drawn besides
nested : (a b c d : List ℕ) → (a ++ (b ++ c)) ++ d ≡ a ++ (b ++ (c ++ d))
nested a b c d = append_assoc a (b ++ c) d ∙ ap (λ (l : List ℕ). a ++ l) (append_assoc b c d)

pub write_changes-requires-clause-few : goal.write_changes-requires-clause-few
write_changes-requires-clause-few g c = omega (arith, c.requires.few, ap (λ (cs : List ChipState). length cs) c.chain-was.ensures.chips)

pub write_changes-requires-clause-few_nets : goal.write_changes-requires-clause-few_nets
write_changes-requires-clause-few_nets g c = omega (arith, c.requires.few_nets, ap (λ (ns : List Net). length ns) c.chain-was.ensures.nets)

pub write_changes-requires-clause-alike : goal.write_changes-requires-clause-alike
write_changes-requires-clause-alike g c =
    ap (λ (cs : List ChipState). length cs) c.chain-is.ensures.chips ∙ c.requires.alike
    ∙ sym (ap (λ (cs : List ChipState). length cs) c.chain-was.ensures.chips)

pub write_changes-requires-clause-alike_nets : goal.write_changes-requires-clause-alike_nets
write_changes-requires-clause-alike_nets g c = c.chain-is.ensures.nets ∙ c.requires.alike_nets ∙ sym c.chain-was.ensures.nets

pub write_changes-requires-clause-quiet : goal.write_changes-requires-clause-quiet
write_changes-requires-clause-quiet g c = λ quiet.
    subst (λ (ns : List Net). IsQuiet ns c.chain-was.result.now.chips c.chain-is.result.now.chips) (sym c.chain-was.ensures.nets)
    (subst (λ (cs : List ChipState). IsQuiet c.args.behind.now.nets cs c.chain-is.result.now.chips) (sym c.chain-was.ensures.chips)
    (subst (λ (cs : List ChipState). IsQuiet c.args.behind.now.nets c.args.behind.now.chips cs) (sym c.chain-is.ensures.chips) (c.requires.quiet quiet)))

pub write_extra_changes-requires-clause-few : goal.write_extra_changes-requires-clause-few
write_extra_changes-requires-clause-few g c = omega (arith, c.requires.few, ap (λ (cs : List ChipState). length cs) c.chain-was.ensures.chips)

pub write_extra_changes-requires-clause-few_nets : goal.write_extra_changes-requires-clause-few_nets
write_extra_changes-requires-clause-few_nets g c = omega (arith, c.requires.few_nets, ap (λ (ns : List Net). length ns) c.chain-was.ensures.nets)

pub write_extra_changes-requires-clause-alike : goal.write_extra_changes-requires-clause-alike
write_extra_changes-requires-clause-alike g c =
    ap (λ (cs : List ChipState). length cs) c.chain-is.ensures.chips ∙ c.requires.alike
    ∙ sym (ap (λ (cs : List ChipState). length cs) c.chain-was.ensures.chips)

pub write_extra_changes-requires-clause-alike_nets : goal.write_extra_changes-requires-clause-alike_nets
write_extra_changes-requires-clause-alike_nets g c = c.chain-is.ensures.nets ∙ c.requires.alike_nets ∙ sym c.chain-was.ensures.nets

pub write_extra_changes-requires-clause-quiet : goal.write_extra_changes-requires-clause-quiet
write_extra_changes-requires-clause-quiet g c = λ quiet.
    subst (λ (ns : List Net). IsQuiet ns c.chain-was.result.now.chips c.chain-is.result.now.chips) (sym c.chain-was.ensures.nets)
    (subst (λ (cs : List ChipState). IsQuiet c.args.behind.now.nets cs c.chain-is.result.now.chips) (sym c.chain-was.ensures.chips)
    (subst (λ (cs : List ChipState). IsQuiet c.args.behind.now.nets c.args.behind.now.chips cs) (sym c.chain-is.ensures.chips) (c.requires.quiet quiet)))

pub returns-then-is_still : goal.returns-then-is_still
returns-then-is_still g c =
    WritesAll-is
    (silent (pen c.args.extras c.args.marks c.args.behind.now) (pen c.args.extras c.args.after c.args.ahead.now) c.is_still.result c.is_still.ensures c.if-is_still.true)
    c.put_all.ensures.writes

pub returns-in_err-write_changes : goal.returns-in_err-write_changes
returns-in_err-write_changes g c =
    let x = c.args.extras in
    let p = pen x c.args.marks c.args.behind.now in
    let q = pen x c.args.after c.args.ahead.now in
    let ns = c.args.behind.now.nets in
    let cs = c.args.behind.now.chips in
    let ds = c.args.ahead.now.chips in
    WritesAll-is
    ((λ i. stamped_changes c.args.marks.time (c.shown_on-before.ensures i) (c.shown_on-next.ensures i) (c.chain-was.ensures.nets i) (c.chain-was.ensures.chips i)
    (c.chain-is.ensures.chips i) ++ all_extra_changes x (c.chain-was.ensures.nets i) (c.chain-was.ensures.chips i) (c.chain-is.ensures.chips i))
    ∙ nested (stamp c.args.marks.time) (line_changes (shown p) (shown q)) (board_changes ns cs ds) (all_extra_changes x ns cs ds)
    ∙ told p q c.is_still.result c.is_still.ensures c.if-is_still.false)
    (WritesAll-stopped _ c.in_err-write_changes.ensures refl c.from_residual.ensures.0)

pub returns : goal.returns
returns g c =
    let x = c.args.extras in
    let p = pen x c.args.marks c.args.behind.now in
    let q = pen x c.args.after c.args.ahead.now in
    let ns = c.args.behind.now.nets in
    let cs = c.args.behind.now.chips in
    let ds = c.args.ahead.now.chips in
    WritesAll-is
    ((λ i. stamped_changes c.args.marks.time (c.shown_on-before.ensures i) (c.shown_on-next.ensures i) (c.chain-was.ensures.nets i) (c.chain-was.ensures.chips i)
    (c.chain-is.ensures.chips i) ++ all_extra_changes x (c.chain-was.ensures.nets i) (c.chain-was.ensures.chips i) (c.chain-is.ensures.chips i))
    ∙ nested (stamp c.args.marks.time) (line_changes (shown p) (shown q)) (board_changes ns cs ds) (all_extra_changes x ns cs ds)
    ∙ told p q c.is_still.result c.is_still.ensures c.if-is_still.false)
    (WritesAll-then c.in_ok-write_changes.ensures refl c.write_extra_changes.ensures)
