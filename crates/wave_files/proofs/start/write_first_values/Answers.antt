use Rattle.std.proofs.Common.{◌≡◌, ℕ, ◌++◌, Bool, List, ap, refl}
use Rattle.byte_streams.proofs.Fronts.{WritesAll-is, WritesAll-stopped, WritesAll-then}
use Rattle.std.specs.Prelude.{codes}
use Rattle.pin_nets.specs.Wired.{Net}
use Rattle.board_model.specs.Chain.{ChipState}
use Rattle.wave_files.specs.declared.extras.Extras.{Extras}
use Rattle.wave_files.specs.declared.shown.Shown.{Shown}
use Rattle.wave_files.specs.Extras.{all_extra_lines}
use Rattle.wave_files.specs.Heading.{board_lines, first_lines, first_number, first_values, noted_values}
use Rattle.wave_files.specs.Values.{first_of_notes}
use Rattle.wave_files.proofs.start.write_first_values.Goals as goal

-- by the number of the first variable that tells of bits that are wanted
abbrev text : Bool → Extras → Shown → List ChipState → List Net → ℕ → List ℕ
text noted x s cs nets n =
    codes "#0\n$dumpvars\n"
    ++ (first_lines s
    ++ (first_number
    ++ (board_lines cs nets ++ (noted_values noted n ++ (all_extra_lines x cs nets ++ codes "$end\n")))))

behind : (noted : Bool) (x : Extras) (s : Shown) (cs : List ChipState) (nets : List Net) (n : ℕ) → n ≡ first_of_notes cs nets
    → text noted x s cs nets n ≡ first_values noted x s cs nets
behind noted x s cs nets n is = ap (text noted x s cs nets) is

pub returns-in_err-put_all : goal.returns-in_err-put_all
returns-in_err-put_all g c =
    let cs = c.args.chain.now.chips in
    let nets = c.args.chain.now.nets in
    WritesAll-is (behind c.args.noted c.args.extras c.args.shown cs nets c.first_of_notes-number.result c.first_of_notes-number.ensures.number)
    (WritesAll-stopped _ c.in_err-put_all.ensures.writes refl c.from_residual.ensures.0)

pub returns-in_err-write_lines : goal.returns-in_err-write_lines
returns-in_err-write_lines g c =
    let cs = c.args.chain.now.chips in
    let nets = c.args.chain.now.nets in
    WritesAll-is (behind c.args.noted c.args.extras c.args.shown cs nets c.first_of_notes-number.result c.first_of_notes-number.ensures.number)
    (WritesAll-then c.in_ok-put_all.ensures.writes refl
    (WritesAll-stopped _ c.in_err-write_lines.ensures refl c.from_residual-in_err-write_lines.ensures.0))

pub returns-in_err-put_all-2 : goal.returns-in_err-put_all-2
returns-in_err-put_all-2 g c =
    let cs = c.args.chain.now.chips in
    let nets = c.args.chain.now.nets in
    WritesAll-is (behind c.args.noted c.args.extras c.args.shown cs nets c.first_of_notes-number.result c.first_of_notes-number.ensures.number)
    (WritesAll-then c.in_ok-put_all.ensures.writes refl
    (WritesAll-then c.in_ok-write_lines.ensures refl
    (WritesAll-stopped _ c.in_err-put_all-2.ensures.writes refl c.from_residual-in_err-put_all-2.ensures.0)))

pub returns-in_err-write_board : goal.returns-in_err-write_board
returns-in_err-write_board g c =
    let cs = c.args.chain.now.chips in
    let nets = c.args.chain.now.nets in
    WritesAll-is (behind c.args.noted c.args.extras c.args.shown cs nets c.first_of_notes-number.result c.first_of_notes-number.ensures.number)
    (WritesAll-then c.in_ok-put_all.ensures.writes refl
    (WritesAll-then c.in_ok-write_lines.ensures refl
    (WritesAll-then c.in_ok-put_all-2.ensures.writes refl
    (WritesAll-stopped _ c.in_err-write_board.ensures refl c.from_residual-in_err-write_board.ensures.0))))

pub returns-in_err-write_noted_values : goal.returns-in_err-write_noted_values
returns-in_err-write_noted_values g c =
    let cs = c.args.chain.now.chips in
    let nets = c.args.chain.now.nets in
    WritesAll-is (behind c.args.noted c.args.extras c.args.shown cs nets c.first_of_notes-number.result c.first_of_notes-number.ensures.number)
    (WritesAll-then c.in_ok-put_all.ensures.writes refl
    (WritesAll-then c.in_ok-write_lines.ensures refl
    (WritesAll-then c.in_ok-put_all-2.ensures.writes refl
    (WritesAll-then c.in_ok-write_board.ensures refl
    (WritesAll-stopped _ c.in_err-write_noted_values.ensures refl c.from_residual-in_err-write_noted_values.ensures.0)))))

pub returns-in_err-write_extra_values : goal.returns-in_err-write_extra_values
returns-in_err-write_extra_values g c =
    let cs = c.args.chain.now.chips in
    let nets = c.args.chain.now.nets in
    WritesAll-is (behind c.args.noted c.args.extras c.args.shown cs nets c.first_of_notes-number.result c.first_of_notes-number.ensures.number)
    (WritesAll-then c.in_ok-put_all.ensures.writes refl
    (WritesAll-then c.in_ok-write_lines.ensures refl
    (WritesAll-then c.in_ok-put_all-2.ensures.writes refl
    (WritesAll-then c.in_ok-write_board.ensures refl
    (WritesAll-then c.in_ok-write_noted_values.ensures refl
    (WritesAll-stopped _ c.in_err-write_extra_values.ensures refl c.from_residual-in_err-write_extra_values.ensures.0))))))

pub returns : goal.returns
returns g c =
    let cs = c.args.chain.now.chips in
    let nets = c.args.chain.now.nets in
    WritesAll-is (behind c.args.noted c.args.extras c.args.shown cs nets c.first_of_notes-number.result c.first_of_notes-number.ensures.number)
    (WritesAll-then c.in_ok-put_all.ensures.writes refl
    (WritesAll-then c.in_ok-write_lines.ensures refl
    (WritesAll-then c.in_ok-put_all-2.ensures.writes refl
    (WritesAll-then c.in_ok-write_board.ensures refl
    (WritesAll-then c.in_ok-write_noted_values.ensures refl
    (WritesAll-then c.in_ok-write_extra_values.ensures refl
    (c.put_all-3.ensures.writes)))))))
