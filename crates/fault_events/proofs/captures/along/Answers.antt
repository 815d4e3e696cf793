use Rattle.std.proofs.Common.{◌≡◌, ◌+◌, ◌++◌, ◌∷◌, List, drop, get_or, map, sym, ap, ◌∙◌, append_assoc}
use Rattle.std.proofs.lemmas.List.{map-append}
use Rattle.jt_tap.specs.Controller.{work}
use Rattle.jt_tap.specs.declared.State.{State}
use Rattle.jt_tap.specs.declared.State.TheVariants.{Reset}
use Rattle.board_model.specs.Whole as whole
use Rattle.board_model.specs.Whole.{AtRest, pass}
use Rattle.fault_events.specs.Captures.{Noted, noted_at, seen}
use Rattle.fault_events.specs.Events.{events_along, events_passing}
use Rattle.fault_events.proofs.PartsKept.{pass_keeps}
use Rattle.fault_events.proofs.Resting.{fits_next, path_next}
use Rattle.fault_events.proofs.captures.along.Goals as goal

pub loop-state-preserved : goal.loop-state-preserved
loop-state-preserved c =
    let i = c.loop-state.invariant in
    let k = c.loop-state.state-index in
    let path = c.args.path.now in
    let s : State = get_or path k Reset in
    let next : drop k path ≡ s ∷ drop (k + 1) path = path_next path k Reset c.loop-state-test.true in
    let after : AtRest → AtRest = λ x. record (pass (work s) x) { place = s } in
    let m = i.rests.state in
    let own = c.in_ok-pass.ensures m i.rests.is in
    let at = noted_at c.args.at.numbers.now.pins.items in
    let command = c.args.at.command in
    record {
      rests = record { state = after m; is = own.rests };
      fits = fits_next c.loop-state.board c.pass.new.board m (after m) i.rests.is own.rests (pass_keeps (work s) m) c.args.at.devices.now c.args.at.numbers.now i.fits;
      noted = λ first is.
          let n = i.noted first is in
          let x = n.0 in
          let one = c.in_ok-pass.ensures x n.1 in
          let old = map seen c.loop-state.list.items in
          let these = events_passing command (work s) x in
          let rest = events_along command (drop (k + 1) path) (after x) in (
            after x,
            one.rests,
            sym (ap (λ (p : List State). whole.along p x) next) ∙ n.2,
            ap (λ (l : List Noted). l ++ map at rest) one.noted
                ∙ append_assoc old (map at these) (map at rest)
                ∙ ap (λ (l : List Noted). old ++ l) (sym (map-append at these rest))
                ∙ sym (ap (λ (p : List State). old ++ map at (events_along command p x)) next)
                ∙ n.3,
          );
    }
