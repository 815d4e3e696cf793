use Rattle.std.proofs.Common.{◌≡◌, ◌++◌, List, ℕ, refl, sym, ap, ◌∙◌, append_assoc}
use Rattle.byte_streams.proofs.Fronts.{WritesAll-is, WritesAll-stopped, WritesAll-then}
use Rattle.wave_files.specs.Changes.{board_changes, further_lines, stamp}
use Rattle.wave_files.specs.Values.{byte_change}
use Rattle.wave_files.proofs.changes.write_changes.Goals as goal

-- the time and TCK, the other lines, and the board
in_parts : (a b c d : List ℕ) → (a ++ b) ++ (c ++ d) ≡ a ++ ((b ++ c) ++ d)
in_parts a b c d = append_assoc a b (c ++ d) ∙ ap (λ (l : List ℕ). a ++ l) (sym (append_assoc b c d))

pub returns-in_err-write_time : goal.returns-in_err-write_time
returns-in_err-write_time g c =
    let lines = further_lines c.args.before c.args.after in
    let board = board_changes c.args.behind.now.nets c.args.behind.now.chips c.args.ahead.now.chips in
    WritesAll-is (in_parts (stamp c.args.time) (byte_change 0 c.args.before.tck c.args.after.tck) lines board)
    (WritesAll-stopped (lines ++ board) c.in_err-write_time.ensures refl c.from_residual.ensures.0)

pub returns-in_err-write_further_lines : goal.returns-in_err-write_further_lines
returns-in_err-write_further_lines g c =
    let lines = further_lines c.args.before c.args.after in
    let board = board_changes c.args.behind.now.nets c.args.behind.now.chips c.args.ahead.now.chips in
    WritesAll-is (in_parts (stamp c.args.time) (byte_change 0 c.args.before.tck c.args.after.tck) lines board)
    (WritesAll-then c.in_ok-write_time.ensures refl
    (WritesAll-stopped board c.in_err-write_further_lines.ensures refl c.from_residual-in_err-write_further_lines.ensures.0))

pub returns : goal.returns
returns g c =
    let lines = further_lines c.args.before c.args.after in
    let board = board_changes c.args.behind.now.nets c.args.behind.now.chips c.args.ahead.now.chips in
    WritesAll-is (in_parts (stamp c.args.time) (byte_change 0 c.args.before.tck c.args.after.tck) lines board)
    (WritesAll-then c.in_ok-write_time.ensures refl
    (WritesAll-then c.in_ok-write_further_lines.ensures refl c.write_board_changes.ensures))
