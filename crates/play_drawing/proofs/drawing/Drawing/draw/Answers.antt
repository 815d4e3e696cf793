use Rattle.std.proofs.Common.{◌≡◌, length, sym, ap, subst, ◌∙◌, arith}
use Rattle.board_model.specs.Chain.{BoardState, after_message}
use Rattle.board_model.proofs.SoundEdges.{count-told}
use Rattle.byte_streams.proofs.Fronts.{WritesAll-is}
use Rattle.play_drawing.specs.Drawing.{later, taken}
use Rattle.play_drawing.specs.Quiet.{keeps_levels}
use Rattle.wave_files.specs.Changes.{IsQuiet}
use Rattle.play_drawing.proofs.Levels.{is_quiet}
use Rattle.play_drawing.proofs.Messages.{same_nets}
use Rattle.play_drawing.proofs.Strokes.{heard, is_after, is_mark, is_taken, pen, still_alike}
use Rattle.play_drawing.proofs.drawing.Drawing.draw.Goals as goal

pub write_between-written-requires-clause-few : goal.write_between-written-requires-clause-few
write_between-written-requires-clause-few g c =
    omega (arith, c.self.invariant.1, ap (λ (b : BoardState). length b.chips) c.self.invariant.0)

pub write_between-written-requires-clause-few_nets : goal.write_between-written-requires-clause-few_nets
write_between-written-requires-clause-few_nets g c =
    omega (arith, c.self.invariant.2, ap (λ (b : BoardState). length b.nets) c.self.invariant.0)

pub write_between-written-requires-clause-alike : goal.write_between-written-requires-clause-alike
write_between-written-requires-clause-alike g c =
    let was = c.self.inside.ahead in
    let m = c.args.message in
    ap (λ (b : BoardState). length b.chips) (heard m c.encode.result was c.byte.new.self c.encode.ensures c.byte.ensures.board)
    ∙ count-told m was
    ∙ ap (λ (b : BoardState). length b.chips) c.self.invariant.0

pub write_between-written-requires-clause-alike_nets : goal.write_between-written-requires-clause-alike_nets
write_between-written-requires-clause-alike_nets g c =
    let was = c.self.inside.ahead in
    let m = c.args.message in
    ap (λ (b : BoardState). b.nets) (heard m c.encode.result was c.byte.new.self c.encode.ensures c.byte.ensures.board)
    ∙ same_nets m was
    ∙ ap (λ (b : BoardState). b.nets) c.self.invariant.0

pub write_between-written-requires-clause-quiet : goal.write_between-written-requires-clause-quiet
write_between-written-requires-clause-quiet g c =
    let m = c.args.message in
    let was = c.self.inside.ahead in
    let behind = c.self.inside.behind in
    let same = c.self.invariant.0 in
    let next : c.byte.new.self ≡ after_message m behind =
    heard m c.encode.result was c.byte.new.self c.encode.ensures c.byte.ensures.board ∙ ap (after_message m) same in
    λ quiet. subst (λ (b : BoardState). IsQuiet behind.nets behind.chips b.chips) (sym next)
    (is_quiet m behind (ap (keeps_levels m) (sym c.chain-2.ensures.chips) ∙ sym c.keeps_levels-quiet.ensures ∙ quiet))

pub invariant_of-self : goal.invariant_of-self
invariant_of-self g c =
    let s = c.self.inside in
    let m = c.args.message in
    still_alike m s.ahead s.behind c.byte.new.self c.byte-2.new.self c.self.invariant
    (heard m c.encode.result s.ahead c.byte.new.self c.encode.ensures c.byte.ensures.board)
    (heard m c.encode-2.result s.behind c.byte-2.new.self c.encode-2.ensures c.byte-2.ensures.board)

pub returns-clause-writes : goal.returns-clause-writes
returns-clause-writes g c =
    let s = c.self.inside in
    let m = c.args.message in
    let ahead = c.byte.new.self in
    let next : pen s.extras c.marks_after-after.result ahead ≡ taken m (pen s.extras s.marks s.ahead) =
    is_taken s.extras m s.marks c.marks_after-after.result s.ahead ahead c.tck-tck.result c.chain.result.now.chips
    (heard m c.encode.result s.ahead ahead c.encode.ensures c.byte.ensures.board)
    (c.tck-tck.ensures ∙ ap (λ (b : BoardState). b.tck) c.snapshot.ensures) c.chain.ensures.chips c.marks_after-after.ensures in
    WritesAll-is
    (is_mark m c.args.self.now (pen s.extras s.marks s.behind) (pen s.extras c.marks_after-after.result ahead) c.requires.drawn
    (ap (λ (b : BoardState). pen s.extras s.marks b) (sym c.self.invariant.0) ∙ c.self.view_is) (next ∙ ap (taken m) c.self.view_is))
    c.write_between-written.ensures

pub returns-clause-pen : goal.returns-clause-pen
returns-clause-pen g c =
    let s = c.self.inside in
    let m = c.args.message in
    let ahead = c.byte.new.self in
    let after = c.marks_after-after.result in
    let next : pen s.extras after ahead ≡ taken m (pen s.extras s.marks s.ahead) =
    is_taken s.extras m s.marks after s.ahead ahead c.tck-tck.result c.chain.result.now.chips
    (heard m c.encode.result s.ahead ahead c.encode.ensures c.byte.ensures.board)
    (c.tck-tck.ensures ∙ ap (λ (b : BoardState). b.tck) c.snapshot.ensures) c.chain.ensures.chips c.marks_after-after.ensures in
    is_after c.args.period m c.args.self.now (pen s.extras after ahead) c.time_after.result c.requires.drawn (next ∙ ap (taken m) c.self.view_is)
    (c.time_after.ensures ∙ ap (later after.time) c.duration.ensures)
