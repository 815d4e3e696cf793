use Rattle.std.proofs.Common.{◌++◌, ◌∙◌, ℕ, List, refl, ap}
use Rattle.std.specs.Prelude.{flat_map}
use Rattle.byte_streams.proofs.Fronts.{WritesAll-is, WritesAll-then, WritesAll-stopped}
use Rattle.pin_nets.specs.Wired.{Net}
use Rattle.board_model.specs.Chain.{ChipState, members}
use Rattle.jt_board.specs.Report.{device_line, net_line}
use Rattle.jt_board.proofs.report.write_report.Goals as goal

-- the lines of the nets, among these devices
abbrev net_lines : List ChipState → List Net → List ℕ
net_lines chips nets = flat_map (net_line nets (members chips)) nets

pub returns-in_err-write_devices : goal.returns-in_err-write_devices
returns-in_err-write_devices g c =
    let b = c.args.board.now in
    WritesAll-is (ap (λ (l : List ChipState). flat_map device_line l ++ net_lines b.chips b.nets) c.chain.ensures.chips)
    (WritesAll-stopped (net_lines b.chips b.nets) c.in_err-write_devices.ensures refl c.from_residual.ensures.0)

pub returns : goal.returns
returns g c =
    let b = c.args.board.now in
    let nets = c.chain-2.result.now.nets in
    WritesAll-is
    (ap (λ (l : List ChipState). flat_map device_line l ++ net_lines c.chain-2.result.now.chips nets) c.chain.ensures.chips
    ∙ ap (λ (l : List ChipState). flat_map device_line b.chips ++ net_lines l nets) c.chain-2.ensures.chips
    ∙ ap (λ (l : List Net). flat_map device_line b.chips ++ net_lines b.chips l) c.chain-2.ensures.nets)
    (WritesAll-then c.in_ok-write_devices.ensures refl c.write_nets.ensures)
