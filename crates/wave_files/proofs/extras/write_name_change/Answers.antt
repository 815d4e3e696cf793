use Rattle.std.proofs.Common.{sym}
use Rattle.board_chips.specs.WiredChips.{chip_state}
use Rattle.byte_streams.proofs.Fronts.{WritesAll-is}
use Rattle.wave_files.proofs.Instructions.{no_name}
use Rattle.wave_files.proofs.extras.write_name_change.Goals as goal

pub returns-then-quiet : goal.returns-then-quiet
returns-then-quiet g c =
    WritesAll-is
    (sym (no_name c.args.names c.args.number (chip_state c.args.before.now) (chip_state c.args.after.now) (c.requires.quiet c.if-quiet.true)))
    c.put_all.ensures.writes

pub returns : goal.returns
returns g c = c.write_new_name.ensures
