use Rattle.std.proofs.Common.{◌++◌, Bool, [], sym, ap, ◌∙◌}
use Rattle.std.specs.Prelude.{if◌then◌else◌}
use Rattle.byte_streams.proofs.Fronts.{WritesAll-is}
use Rattle.wave_files.specs.Changes.{stamp}
use Rattle.wave_files.specs.Values.{byte_change, unknown, wire}
use Rattle.play_drawing.proofs.drawing.resting.write_tick.Goals as goal

pub returns-then-is_still : goal.returns-then-is_still
returns-then-is_still g c =
    let all = stamp c.args.time ++ byte_change 0 (wire unknown c.args.was) (wire unknown c.args.is) in
    WritesAll-is (sym (ap (λ (x : Bool). if x then [] else all) (sym c.is_still.ensures ∙ c.if-is_still.true))) c.put_all.ensures.writes

pub returns : goal.returns
returns g c =
    let all = stamp c.args.time ++ byte_change 0 (wire unknown c.args.was) (wire unknown c.args.is) in
    WritesAll-is
    ((λ i. stamp c.args.time ++ byte_change 0 (c.wire.ensures i) (c.wire-2.ensures i))
    ∙ sym (ap (λ (x : Bool). if x then [] else all) (sym c.is_still.ensures ∙ c.if-is_still.false)))
    c.write_time.ensures
