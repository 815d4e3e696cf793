use Rattle.std.proofs.Common.{Bool, [], ◌++◌, refl, sym, ap}
use Rattle.std.specs.Prelude.{if◌then◌else◌}
use Rattle.std.proofs.lemmas.Bool.{eq-eqb, ne_eqb}
use Rattle.byte_streams.proofs.Fronts.{WritesAll-is, WritesAll-stopped, WritesAll-then}
use Rattle.wave_files.specs.Codes.{binary}
use Rattle.wave_files.specs.Changes.{stamp}
use Rattle.wave_files.specs.Values.{bits_line, statement_variable}
use Rattle.play_drawing.proofs.drawing.write_beginning.Goals as goal

pub returns-then-command-eq0 : goal.returns-then-command-eq0
returns-then-command-eq0 g c =
    WritesAll-is (ap (λ (x : Bool). if x then [] else stamp c.args.time ++ bits_line statement_variable (binary c.args.command))
    (sym (eq-eqb c.args.command 0 c.if-command-eq0.true)))
    c.put_all.ensures.writes

pub returns-in_err-write_stamp : goal.returns-in_err-write_stamp
returns-in_err-write_stamp g c =
    WritesAll-is (ap (λ (x : Bool). if x then [] else stamp c.args.time ++ bits_line statement_variable (binary c.args.command))
    (sym (ne_eqb c.args.command 0 c.if-command-eq0.false)))
    (WritesAll-stopped _ c.in_err-write_stamp.ensures refl c.from_residual.ensures.0)

pub returns : goal.returns
returns g c =
    WritesAll-is (ap (λ (x : Bool). if x then [] else stamp c.args.time ++ bits_line statement_variable (binary c.args.command))
    (sym (ne_eqb c.args.command 0 c.if-command-eq0.false)))
    (WritesAll-then c.in_ok-write_stamp.ensures refl c.write_number.ensures)
