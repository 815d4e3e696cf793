use Rattle.std.proofs.Common.{◌≡◌, ◌<◌, ℕ, List, map, sym, ap, subst, ◌∙◌}
use Rattle.svf_programs.specs.Left.{left}
use Rattle.svf_programs.specs.Sizes.{program_of}
use Rattle.svf_programs.specs.Sound.{AllWithin}
use Rattle.svf_programs.specs.Steps.{Numbered}
use Rattle.board_plan.specs.declared.plan.PlannedNet.{PlannedNet}
use Rattle.board_plan.specs.Planned.{all_pins}
use Rattle.board_plan.specs.View.{net as planned_net, wiring}
use Rattle.board_model.specs.Chain.{BoardState}
use Rattle.board_model.specs.Resting.{IsAtRest}
use Rattle.play_model.specs.DirectPlay.{opened_state}
use Rattle.board_faults.specs.Made.{board_of}
use Rattle.board_faults.proofs.WholePlay.{opened}
use Rattle.fault_events.specs.Captures.{noted_by}
use Rattle.fault_events.proofs.Powered.{fits_opened, ports_of}
use Rattle.fault_events.proofs.captures.start_play.Goals as goal

pub number_pins-requires-clause-ports : goal.number_pins-requires-clause-ports
number_pins-requires-clause-ports c = ports_of c.args.plan.now c.requires c.deref.result.now c.deref-2.result.now c.deref.ensures.value c.deref-2.ensures.value

pub returns : goal.returns
returns c =
    let w = wiring c.args.plan.now in
    let steps = (program_of c.args.program.now).steps in
    let b = c.in_ok-board.board in
    let m = opened_state b in
    let some = subst (λ (n : ℕ). 0 < n) c.devices.ensures.count c.devices.ensures.some in
    let pins : c.in_ok-numbers.numbers.pins.items ≡ all_pins w.nets =
    c.in_ok-numbers.ensures.pins ∙ ap (λ (ns : List PlannedNet). all_pins (map planned_net ns)) c.deref-2.ensures.value in
    let all : steps ≡ left c.steps.result = sym c.steps.ensures in
    record {
      way = record {
        state = m;
        rests = subst (λ (x : BoardState). IsAtRest x m) (sym c.play_opening.ensures) (opened b c.devices.ensures.sound some).board;
        within = subst AllWithin all c.len.ensures.sound.within;
        fits = fits_opened c.args.plan.now c.requires b c.in_ok-board.ensures c.deref-3.result.now c.deref-3.ensures.value c.in_ok-numbers.numbers
            c.deref.ensures.value c.in_ok-numbers.ensures.numbered;
      };
      numbered = pins;
      noted = ap (λ (x : BoardState). noted_by (all_pins w.nets) steps (opened_state x)) (sym c.in_ok-board.ensures)
          ∙ ap (λ (l : List Numbered). noted_by (all_pins w.nets) l m) all;
    }
