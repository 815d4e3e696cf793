use Rattle.std.proofs.Common.{◌≡◌, ◌++◌, drop, map}
use Rattle.std.specs.List.{filter_map}
use Rattle.toml.specs.View.{items_view}
use Rattle.board_tables.specs.Fields.{tables_in}
use Rattle.board_tables.specs.WordView.{texts_of}
use Rattle.board_parts.specs.Parts.{file_in, member_in}
use Rattle.board_plan.specs.View.{file, member}
use Rattle.board_parts.proofs.plan.plan_devices.Given as goal

-- the devices so far, with those to come, are all, and their files are
abbrev pub invariant-loop-device : goal.invariant-loop-device
invariant-loop-device l =
    let stands = member_in (texts_of l.names) l.described in
    let named = file_in (texts_of l.names) l.described in
    let rest = tables_in (items_view (drop l.device-index l.devices)) in
    let all = tables_in (items_view l.devices) in
    record {
      devices : map member l.planned.items ++ filter_map stands rest ≡ filter_map stands all;
      files : map file l.planned.items ++ filter_map named rest ≡ filter_map named all;
    }
