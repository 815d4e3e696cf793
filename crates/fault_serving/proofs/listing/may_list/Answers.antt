use Rattle.std.proofs.Common.{◌≡◌, List, map, sym, ap, subst, ◌∙◌}
use Rattle.svf_programs.specs.Sizes.{program_of}
use Rattle.board_plan.specs.declared.plan.PlannedNet.{PlannedNet}
use Rattle.board_plan.specs.View.{net as planned_net, wiring}
use Rattle.board_faults.specs.declared.kinds.Way.{Way}
use Rattle.board_faults.specs.declared.kinds.Way.TheVariants as way
use Rattle.board_faults.specs.Faults.{IsWayOf}
use Rattle.fault_events.specs.declared.nets.NetCapture.{NetCapture}
use Rattle.fault_events.specs.Captures.{Noted}
use Rattle.fault_events.specs.Nets.{seen, with_nets_noted}
use Rattle.fault_serving.specs.Firsts.{HasOther, firsts_noted}
use Rattle.fault_serving.specs.Serving.{ListsOther, kept_captures}
use Rattle.fault_serving.proofs.OtherBits.{kept_lists}
use Rattle.fault_serving.proofs.listing.may_list.Goals as goal

pub returns : goal.returns
returns c = λ fails.
    let program = program_of c.args.program.now in
    let w = wiring c.args.plan.now in
    let bits = c.args.bits.now in
    let its : Way = way.Short c.in-Short.first c.in-Short.second c.in-Short.winner in
    let nets = c.deref.ensures.value in
    let told : (ns : List Noted) → map seen (kept_captures c.args.serving.now) ≡ map (with_nets_noted w.nets) ns → HasOther bits (firsts_noted w.nets its ns) = λ ns are.
    subst (λ (ps : List PlannedNet). HasOther bits (firsts_noted (map planned_net ps) its ns)) nets
    (c.bridge_may_list.ensures ns
    (ap (λ (cs : List NetCapture). map seen cs) c.kept_captures-captures.ensures ∙ are
    ∙ ap (λ (ps : List PlannedNet). map (with_nets_noted (map planned_net ps)) ns) (sym nets))
    fails) in
    subst (λ (x : Way). ListsOther program w x bits) (sym c.in-Short.is)
    (kept_lists program c.len.ensures.sound.legal w c.requires.may its (subst (λ (x : Way). IsWayOf w.nets x) c.in-Short.is c.requires.way) bits c.args.serving.now
    c.requires.serving told)
