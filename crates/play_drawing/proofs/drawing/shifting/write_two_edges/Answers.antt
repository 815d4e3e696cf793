use Rattle.std.proofs.Common.{◌≡◌, ◌++◌, false, List, ℕ, refl, ap, append_assoc}
use Rattle.byte_streams.proofs.Fronts.{WritesAll-is, WritesAll-stopped, WritesAll-then}
use Rattle.output_words.specs.Digits.{digit}
use Rattle.wave_files.specs.Changes.{stamp}
use Rattle.play_drawing.specs.Shifted.{high_text}
use Rattle.wave_files.specs.Values.{byte_line}
use Rattle.play_drawing.proofs.drawing.shifting.write_two_edges.Goals as goal

-- the time and TCK stand together
in_parts : (a b c d : List ℕ) → a ++ ((b ++ c) ++ d) ≡ a ++ (b ++ (c ++ d))
in_parts a b c d = ap (λ (l : List ℕ). a ++ l) (append_assoc b c d)

pub returns-in_err-write_tck : goal.returns-in_err-write_tck
returns-in_err-write_tck g c =
    let low = stamp c.args.low ++ (byte_line 0 (digit false) ++ (c.args.tdi.now ++ c.args.tdo.now)) in
    WritesAll-stopped low c.in_err-write_tck.ensures refl c.from_residual.ensures.0

pub returns-in_err-write_tck-2 : goal.returns-in_err-write_tck-2
returns-in_err-write_tck-2 g c =
    let rest = c.args.tdi.now ++ c.args.tdo.now in
    WritesAll-is (in_parts (high_text c.args.high) (stamp c.args.low) (byte_line 0 (digit false)) rest)
    (WritesAll-then c.in_ok-write_tck.ensures refl (WritesAll-stopped rest c.in_err-write_tck-2.ensures refl c.from_residual-in_err-write_tck-2.ensures.0))

pub returns-in_err-put_all : goal.returns-in_err-put_all
returns-in_err-put_all g c =
    let rest = c.args.tdi.now ++ c.args.tdo.now in
    WritesAll-is (in_parts (high_text c.args.high) (stamp c.args.low) (byte_line 0 (digit false)) rest)
    (WritesAll-then c.in_ok-write_tck.ensures refl
    (WritesAll-then c.in_ok-write_tck-2.ensures refl
    (WritesAll-stopped c.args.tdo.now c.in_err-put_all.ensures.writes refl c.from_residual-in_err-put_all.ensures.0)))

pub returns : goal.returns
returns g c =
    let rest = c.args.tdi.now ++ c.args.tdo.now in
    WritesAll-is (in_parts (high_text c.args.high) (stamp c.args.low) (byte_line 0 (digit false)) rest)
    (WritesAll-then c.in_ok-write_tck.ensures refl
    (WritesAll-then c.in_ok-write_tck-2.ensures refl (WritesAll-then c.in_ok-put_all.ensures.writes refl c.put_all-2.ensures.writes)))
