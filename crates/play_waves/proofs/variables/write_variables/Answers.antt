use Rattle.std.proofs.Common.{◌≡◌, ℕ, ◌++◌, Bool, List, ap, refl}
use Rattle.byte_streams.proofs.Fronts.{WritesAll-is, WritesAll-stopped, WritesAll-then}
use Rattle.std.specs.Prelude.{codes}
use Rattle.pin_nets.specs.Wired.{Net}
use Rattle.board_model.specs.Chain.{ChipState}
use Rattle.wave_files.specs.declared.extras.Extras.{Extras}
use Rattle.wave_files.specs.Heading.{all_extra_variables, device_variables, net_variable, tap_variables, variables}
use Rattle.wave_files.specs.Values.{by_numbers, first_of_devices, first_of_nets, first_of_notes, variables_of_device}
use Rattle.play_waves.proofs.variables.write_variables.Goals as goal

-- by the number of the first variable that tells of bits that are wanted
abbrev text : Bool → Extras → List ChipState → List Net → ℕ → List ℕ
text noted x cs nets n =
    codes "$timescale 1 ps $end\n$scope module board $end\n"
    ++ (tap_variables noted n
    ++ (by_numbers device_variables variables_of_device first_of_devices cs
    ++ (by_numbers net_variable 1 (first_of_nets cs) nets
    ++ (all_extra_variables x cs nets ++ codes "$upscope $end\n$enddefinitions $end\n"))))

behind : (noted : Bool) (x : Extras) (cs : List ChipState) (nets : List Net) (n : ℕ) → n ≡ first_of_notes cs nets
    → text noted x cs nets n ≡ variables noted x cs nets
behind noted x cs nets n is = ap (text noted x cs nets) is

pub returns-in_err-put_all : goal.returns-in_err-put_all
returns-in_err-put_all g c =
    let cs = c.args.chain.now.chips in
    let nets = c.args.chain.now.nets in
    WritesAll-is (behind c.args.noted c.args.extras cs nets c.first_of_notes-number.result c.first_of_notes-number.ensures.number)
    (WritesAll-stopped _ c.in_err-put_all.ensures.writes refl c.from_residual.ensures.0)

pub returns-in_err-write_tap_variables : goal.returns-in_err-write_tap_variables
returns-in_err-write_tap_variables g c =
    let cs = c.args.chain.now.chips in
    let nets = c.args.chain.now.nets in
    WritesAll-is (behind c.args.noted c.args.extras cs nets c.first_of_notes-number.result c.first_of_notes-number.ensures.number)
    (WritesAll-then c.in_ok-put_all.ensures.writes refl
    (WritesAll-stopped _ c.in_err-write_tap_variables.ensures refl c.from_residual-in_err-write_tap_variables.ensures.0))

pub returns-in_err-write_device_variables : goal.returns-in_err-write_device_variables
returns-in_err-write_device_variables g c =
    let cs = c.args.chain.now.chips in
    let nets = c.args.chain.now.nets in
    WritesAll-is (behind c.args.noted c.args.extras cs nets c.first_of_notes-number.result c.first_of_notes-number.ensures.number)
    (WritesAll-then c.in_ok-put_all.ensures.writes refl
    (WritesAll-then c.in_ok-write_tap_variables.ensures refl
    (WritesAll-stopped _ c.in_err-write_device_variables.ensures refl c.from_residual-in_err-write_device_variables.ensures.0)))

pub returns-in_err-write_net_variables : goal.returns-in_err-write_net_variables
returns-in_err-write_net_variables g c =
    let cs = c.args.chain.now.chips in
    let nets = c.args.chain.now.nets in
    WritesAll-is (behind c.args.noted c.args.extras cs nets c.first_of_notes-number.result c.first_of_notes-number.ensures.number)
    (WritesAll-then c.in_ok-put_all.ensures.writes refl
    (WritesAll-then c.in_ok-write_tap_variables.ensures refl
    (WritesAll-then c.in_ok-write_device_variables.ensures refl
    (WritesAll-stopped _ c.in_err-write_net_variables.ensures refl c.from_residual-in_err-write_net_variables.ensures.0))))

pub returns-in_err-write_extra_variables : goal.returns-in_err-write_extra_variables
returns-in_err-write_extra_variables g c =
    let cs = c.args.chain.now.chips in
    let nets = c.args.chain.now.nets in
    WritesAll-is (behind c.args.noted c.args.extras cs nets c.first_of_notes-number.result c.first_of_notes-number.ensures.number)
    (WritesAll-then c.in_ok-put_all.ensures.writes refl
    (WritesAll-then c.in_ok-write_tap_variables.ensures refl
    (WritesAll-then c.in_ok-write_device_variables.ensures refl
    (WritesAll-then c.in_ok-write_net_variables.ensures refl
    (WritesAll-stopped _ c.in_err-write_extra_variables.ensures refl c.from_residual-in_err-write_extra_variables.ensures.0)))))

pub returns : goal.returns
returns g c =
    let cs = c.args.chain.now.chips in
    let nets = c.args.chain.now.nets in
    WritesAll-is (behind c.args.noted c.args.extras cs nets c.first_of_notes-number.result c.first_of_notes-number.ensures.number)
    (WritesAll-then c.in_ok-put_all.ensures.writes refl
    (WritesAll-then c.in_ok-write_tap_variables.ensures refl
    (WritesAll-then c.in_ok-write_device_variables.ensures refl
    (WritesAll-then c.in_ok-write_net_variables.ensures refl
    (WritesAll-then c.in_ok-write_extra_variables.ensures refl
    (c.put_all-2.ensures.writes))))))
