use Rattle.std.proofs.Common.{◌++◌, List, ℕ, append_assoc, map, take, ap, sym, ◌∙◌}
use Rattle.bitbang_protocol.specs.Protocol.{answer}
use Rattle.jt_board.specs.Words.{word_bits}
use Rattle.play_links.specs.Serves.{ServedBytes, serve_bytes}
use Rattle.play_links.specs.Shifts.{picked}
use Rattle.play_links.proofs.ShiftServes.{run_left, run_served}
use Rattle.play_links.proofs.shifting.behind_shifts.Goals as goal

pub returns-clause-answers : goal.returns-clause-answers
returns-clause-answers c =
    let run = c.run_at.result.0 in
    let out = c.shift_word-out.result in
    let rest = serve_bytes c.run_at.result.1.now c.shift_word-out.new.self in
    let served = run_served run.tdi run.reads run.count out c.args.bytes.now c.run_at.result.1.now c.args.board.now c.shift_word-out.new.self c.run_at.ensures
    (sym c.shifts.ensures ∙ c.if-not-shifts.false) c.shift_word-out.ensures in
    ap (λ (l : List ℕ). l ++ rest.answers) c.put_answers.ensures.answers
    ∙ append_assoc (take c.args.count.now c.args.answers.now) (map answer (picked (word_bits run.reads run.count) (word_bits out run.count))) rest.answers
    ∙ ap (λ (s : ServedBytes). take c.args.count.now c.args.answers.now ++ s.answers) (sym served)

pub returns-clause-board : goal.returns-clause-board
returns-clause-board c =
    let run = c.run_at.result.0 in
    ap (λ (s : ServedBytes). s.board)
    (sym (run_served run.tdi run.reads run.count c.shift_word-out.result c.args.bytes.now c.run_at.result.1.now c.args.board.now c.shift_word-out.new.self c.run_at.ensures
    (sym c.shifts.ensures ∙ c.if-not-shifts.false) c.shift_word-out.ensures))

pub returns-clause-stop : goal.returns-clause-stop
returns-clause-stop c =
    let run = c.run_at.result.0 in
    ap (λ (s : ServedBytes). s.stop)
    (sym (run_served run.tdi run.reads run.count c.shift_word-out.result c.args.bytes.now c.run_at.result.1.now c.args.board.now c.shift_word-out.new.self c.run_at.ensures
    (sym c.shifts.ensures ∙ c.if-not-shifts.false) c.shift_word-out.ensures))

pub returns-clause-left : goal.returns-clause-left
returns-clause-left c =
    let run = c.run_at.result.0 in
    sym (run_left run.tdi run.reads run.count c.shift_word-out.result c.args.bytes.now c.run_at.result.1.now c.args.board.now c.shift_word-out.new.self c.run_at.ensures
    (sym c.shifts.ensures ∙ c.if-not-shifts.false) c.shift_word-out.ensures)
