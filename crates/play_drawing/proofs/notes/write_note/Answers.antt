use Rattle.std.proofs.Common.{◌+◌, ◌++◌, refl}
use Rattle.byte_streams.proofs.Fronts.{WritesAll-is, WritesAll-stopped, WritesAll-then}
use Rattle.wave_files.specs.Values.{byte_change}
use Rattle.play_drawing.specs.Notes.{fail_byte, failing_lines}
use Rattle.play_drawing.proofs.notes.write_note.Goals as goal

pub returns-in_err-write_byte_change : goal.returns-in_err-write_byte_change
returns-in_err-write_byte_change g c =
    let n = c.args.number in
    let rest = byte_change (n + 1) (fail_byte c.args.before) (fail_byte c.args.after) ++ failing_lines (n + 2) c.args.after.failing in
    WritesAll-is (λ i. byte_change n (c.wanted_byte.ensures i) (c.wanted_byte-2.ensures i) ++ rest)
    (WritesAll-stopped rest c.in_err-write_byte_change.ensures refl c.from_residual.ensures.0)

pub returns-in_err-write_byte_change-2 : goal.returns-in_err-write_byte_change-2
returns-in_err-write_byte_change-2 g c =
    let n = c.args.number in
    let rest = failing_lines (n + 2) c.args.after.failing in
    WritesAll-is
    (λ i. byte_change n (c.wanted_byte.ensures i) (c.wanted_byte-2.ensures i)
    ++ (byte_change (n + 1) (c.fail_byte.ensures i) (c.fail_byte-2.ensures i) ++ rest))
    (WritesAll-then c.in_ok-write_byte_change.ensures refl
    (WritesAll-stopped rest c.in_err-write_byte_change-2.ensures refl c.from_residual-in_err-write_byte_change-2.ensures.0))

pub returns : goal.returns
returns g c =
    let n = c.args.number in
    let rest = failing_lines (n + 2) c.args.after.failing in
    WritesAll-is
    (λ i. byte_change n (c.wanted_byte.ensures i) (c.wanted_byte-2.ensures i)
    ++ (byte_change (n + 1) (c.fail_byte.ensures i) (c.fail_byte-2.ensures i) ++ rest))
    (WritesAll-then c.in_ok-write_byte_change.ensures refl
    (WritesAll-then c.in_ok-write_byte_change-2.ensures refl c.write_failing.ensures))
