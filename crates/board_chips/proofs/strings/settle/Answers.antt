use Rattle.std.proofs.Common.{false, List, map, get_or, sym, ap, subst, ◌∙◌, None, refl}
use Rattle.std.specs.List.{Contains}
use Rattle.std.proofs.lemmas.List.Elements.{Contains-get_or}
use Rattle.bsdl_device.specs.declared.Cell.{Cell}
use Rattle.pin_nets.specs.Wired.{Net}
use Rattle.board_model.specs.Following.{after_string}
use Rattle.board_chips.specs.Driving.{cells_of}
use Rattle.board_chips.specs.WiredChips.{held_of}
use Rattle.board_chips.specs.Strings.{IsStrung, placed_of}
use Rattle.board_chips.specs.declared.strings.WiredString.{WiredString}
use Rattle.board_chips.proofs.StringLaws.{by_less, none_more, settled_more}
use Rattle.board_chips.proofs.strings.settle.Goals as goal

abbrev none : WiredString
none = record { device = 0; cell = 0; source = 0; inverted = false; net = None; pin = None }

pub settle_one-requires-clause-string : goal.settle_one-requires-clause-string
settle_one-requires-clause-string c =
    let strings = c.args.strings.now in
    let x = get_or strings c.loop-string.string-index none in
    let has : Contains strings x = Contains-get_or strings c.loop-string.string-index none c.loop-string-test.true in
    subst (λ (ns : List Net). IsStrung ns (map cells_of c.loop-string.chips) x) (sym c.loop-string.invariant.nets)
    (subst (λ (cs : List (List Cell)). IsStrung c.args.wiring.now.nets cs x)
    (sym (by_less cells_of (λ s. refl) c.loop-string.chips c.args.chips.now c.loop-string.invariant.same)) (c.requires.strings x has))

pub loop-string-preserved : goal.loop-string-preserved
loop-string-preserved c =
    let strings = c.args.strings.now in
    let i = c.loop-string.string-index in
    let so_far = c.loop-string.invariant in
    let one = c.settle_one.ensures in
    record {
      nets = one.nets ∙ so_far.nets;
      wired = one.wired;
      held = settled_more c.args.wiring.now.nets strings i none (map held_of c.args.chips.now) (map held_of c.loop-string.chips)
          (map held_of c.settle_one.new.chips) c.loop-string-test.true so_far.held
          (one.held ∙ ap (λ (ns : List Net). after_string ns (placed_of (get_or strings i none)) (map held_of c.loop-string.chips)) so_far.nets);
      same = one.same ∙ so_far.same;
      others = λ k quiet.
          let both = none_more strings i k none c.loop-string-test.true quiet in
          one.others k both.1 ∙ so_far.others k both.0;
    }
