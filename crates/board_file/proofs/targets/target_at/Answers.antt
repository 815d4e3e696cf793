use Rattle.std.proofs.Common.{◌≡◌, ◌+◌, ◌++◌, ◌∷◌, drop, codes, length, slice_get, string_bytes, Some, None, option_map, ap, sym, ◌∙◌}
use Rattle.std.specs.List.{flat_map}
use Rattle.std.proofs.lemmas.Result.{IfOk-weaker}
use Rattle.toml.specs.Data.{as_table}
use Rattle.toml.specs.View.{items_view, table_view, view}
use Rattle.board_tables.specs.Fields.{name_at, tables_in, texts_at, texts_in}
use Rattle.board_tables.specs.FollowTexts.{target_text}
use Rattle.board_file.specs.Wiring.{targets_of}
use Rattle.board_file.proofs.LoopLaws.{none_past, not_there, past_it, within_it}
use Rattle.board_file.proofs.targets.target_at.Goals as goal
use Rattle.board_file.proofs.targets.target_at.Goals.{in-Some+in-Err, in_default}

pub returns-in-Ok : goal.returns-in-Ok
returns-in-Ok c =
    let vs = c.args.devices.now in
    let i = c.loop-device.device-index in
    let t = table_view c.in-Some.table.now in
    let text = c.in-Ok.text.now in
    let is : as_table (view c.device-item.result) ≡ Some t = sym c.as_table.ensures ∙ ap (option_map (λ m. table_view m.now)) c.in-Some.is in
    let at : slice_get (texts_at (codes "follow") t) c.loop-device.left ≡ Some text = ap (λ items. slice_get (texts_in items) c.loop-device.left) (sym c.items_at.ensures) ∙ c.in-Ok.ensures in
    let named : slice_get (flat_map targets_of (tables_in (items_view vs))) c.args.place ≡ Some (name_at t ++ 46 ∷ target_text text) =
    sym c.loop-device.invariant ∙ within_it vs i c.device-item.result c.loop-device-test.true c.device-item.is t c.loop-device.left text is at in
    IfOk-weaker c.pin_text.result (λ s. string_bytes s ≡ c.name_at.result.now ++ 46 ∷ c.target_text.result.now)
    (λ s. slice_get (flat_map targets_of (tables_in (items_view vs))) c.args.place ≡ Some (string_bytes s))
    (λ s spelt. named ∙ ap Some (sym (spelt ∙ (λ j. c.name_at.ensures j ++ 46 ∷ c.target_text.ensures j)))) c.pin_text.ensures

pub loop-device-preserved : goal.loop-device-preserved
loop-device-preserved c =
    let vs = c.args.devices.now in
    let i = c.loop-device.device-index in
    elim c.match-as_table.branch [
      | in-Some+in-Err w ↦
          let t = table_view w.in-Some.table.now in
          let is : as_table (view c.device-item.result) ≡ Some t = sym c.as_table.ensures ∙ ap (option_map (λ m. table_view m.now)) w.in-Some.is in
          let count : c.loop-device.left ≡ length (texts_at (codes "follow") t) + w.in-Err.rest = w.in-Err.ensures ∙ ap (λ items. length (texts_in items) + w.in-Err.rest) w.items_at.ensures in
          ap (slice_get (flat_map targets_of (tables_in (items_view (drop (i + 1) vs))))) w.left-is
          ∙ past_it vs i c.device-item.result c.loop-device-test.true c.device-item.is t c.loop-device.left w.in-Err.rest is count ∙ c.loop-device.invariant
      | in_default w ↦
          let is : as_table (view c.device-item.result) ≡ None = sym c.as_table.ensures ∙ ap (option_map (λ m. table_view m.now)) w.in_default.is in
          ap (slice_get (flat_map targets_of (tables_in (items_view (drop (i + 1) vs))))) w.left-is
          ∙ not_there vs i c.device-item.result c.loop-device-test.true c.device-item.is c.loop-device.left is ∙ c.loop-device.invariant
    ]

pub unreachable-requires : goal.unreachable-requires
unreachable-requires c = none_past c.args.devices.now c.loop-device.device-index c.loop-device.left c.args.place c.loop-device-test.false c.loop-device.invariant c.requires
