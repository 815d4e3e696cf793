use Rattle.std.proofs.Common.{◌≡◌, ◌+◌, ◌-◌, ◌≤◌, ◌++◌, ℕ, List, length, take, drop, ap, ◌∙◌, arith, length-drop, inl, inr}
use Rattle.std.proofs.lemmas.Bool.{cases_lt}
use Rattle.player.proofs.pieces.fill.Goals.{then-more-eq0-via-then-more-eq0, then-more-eq0-via-else-more-eq0+then-p-gt0}
use Rattle.svf_programs.specs.Sizes.{program_of}
use Rattle.play_model.specs.Streams.{StreamState, bytes_to_send}
use Rattle.player.specs.Progress.{state_of}
use Rattle.bitbang.proofs.BufferFills.{filled-more}
use Rattle.player.proofs.BufferFills.{waiting-more}
use Rattle.player.proofs.pieces.fill.Goals as goal

pub loop-count-preserved : goal.loop-count-preserved
loop-count-preserved c =
    let i = c.loop-count.invariant in
    let program = program_of c.args.program.now in
    let start = state_of program c.args.p in
    let all = bytes_to_send 256 start in
    let n = c.loop-count.count in
    let m = c.piece-more.result.1 in
    let e = c.piece-more.ensures in
    let rest : bytes_to_send 256 (state_of program c.loop-count.p) ≡ drop n all = ap (bytes_to_send 256) i.state ∙ waiting-more start n in
    let given : start.given + n + m ≡ start.given + (n + m) = omega arith in
    let piece = e.bytes ∙ ap (λ (l : List ℕ). take m l ++ drop m (take (length c.loop-count.buffer - n) (drop n c.loop-count.buffer))) rest in
    record {
      stands = e.stands;
      good = e.good;
      state = e.state ∙ ap (λ (s : StreamState). record s { given = s.given + m }) i.state ∙ ap (λ (g : ℕ). record start { given = g }) given;
      room = omega (arith, i.room, e.room, c.loop-count.auto.buffer);
      some = omega (arith, i.some, e.some, ap length rest, length-drop n all);
      filled = filled-more n m all c.loop-count.buffer c.args.buffer.now c.piece-more.new.buffer i.some i.room i.filled piece;
    }

pub returns-then-more-eq0-clause-count : goal.returns-then-more-eq0-clause-count
returns-then-more-eq0-clause-count c =
    let i = c.loop-count.invariant in
    let program = program_of c.args.program.now in
    let start = state_of program c.args.p in
    let all = bytes_to_send 256 start in
    let n = c.loop-count.count in
    let m = c.piece-more.result.1 in
    let e = c.piece-more.ensures in
    let rest : bytes_to_send 256 (state_of program c.loop-count.p) ≡ drop n all = ap (bytes_to_send 256) i.state ∙ waiting-more start n in
    let given : start.given + n + m ≡ start.given + (n + m) = omega arith in
    let state : state_of program c.piece-more.result.0 ≡ record start { given = start.given + (n + m) } =
    e.state ∙ ap (λ (s : StreamState). record s { given = s.given + m }) i.state ∙ ap (λ (g : ℕ). record start { given = g }) given in
    let behind : bytes_to_send 256 (state_of program c.piece-more.result.0) ≡ drop (n + m) all = ap (bytes_to_send 256) state ∙ waiting-more start (n + m) in
    let most : n + m ≤ length all = omega (arith, i.some, e.some, ap length rest, length-drop n all) in
    let fits : n + m ≤ length c.args.buffer.now = omega (arith, i.room, e.room, c.loop-count.auto.buffer) in
    elim c.then-more-eq0.branch [
      | then-more-eq0-via-then-more-eq0 w ↦
          let none = e.none (omega (arith, c.loop-count-test.true)) w.if-more-eq0.true in
          omega (arith, most, fits, ap length none, ap length rest, length-drop n all, w.if-more-eq0.true)
      | then-more-eq0-via-else-more-eq0+then-p-gt0 w ↦ elim (cases_lt (n + m) (length c.args.buffer.now)) [
        | inl room ↦
            let none = e.held (omega (arith, room, c.loop-count.auto.buffer)) (omega (arith, w.if-p-gt0.true)) in
            omega (arith, most, fits, ap length none, ap length behind, length-drop (n + m) all)
        | inr full ↦ omega (arith, most, fits, full)
      ]
    ]

pub returns-then-more-eq0-clause-bytes : goal.returns-then-more-eq0-clause-bytes
returns-then-more-eq0-clause-bytes c =
    let i = c.loop-count.invariant in
    let start = state_of (program_of c.args.program.now) c.args.p in
    let all = bytes_to_send 256 start in
    let n = c.loop-count.count in
    let m = c.piece-more.result.1 in
    let e = c.piece-more.ensures in
    let rest : bytes_to_send 256 (state_of (program_of c.args.program.now) c.loop-count.p) ≡ drop n all = ap (bytes_to_send 256) i.state ∙ waiting-more start n in
    let piece = e.bytes ∙ ap (λ (l : List ℕ). take m l ++ drop m (take (length c.loop-count.buffer - n) (drop n c.loop-count.buffer))) rest in
    filled-more n m all c.loop-count.buffer c.args.buffer.now c.piece-more.new.buffer i.some i.room i.filled piece
