use Rattle.std.proofs.Common.{Bool, [], sym, ap, ◌∙◌}
use Rattle.std.specs.Prelude.{if◌then◌else◌}
use Rattle.byte_streams.proofs.Fronts.{WritesAll-is}
use Rattle.board_chips.specs.WiredChips.{chip_state}
use Rattle.wave_files.specs.Extras.{name_told}
use Rattle.wave_files.specs.Values.{word_line}
use Rattle.wave_files.proofs.extras.write_name.Goals as goal

pub returns-then-not-names : goal.returns-then-not-names
returns-then-not-names g c =
    WritesAll-is
    (sym (ap (λ (b : Bool). if b then word_line c.args.number (name_told (chip_state c.args.chip.now)) else []) c.if-not-names.true))
    c.put_all.ensures.writes

pub returns : goal.returns
returns g c =
    WritesAll-is
    (ap (word_line c.args.number) c.name_or_dash.ensures
    ∙ sym (ap (λ (b : Bool). if b then word_line c.args.number (name_told (chip_state c.args.chip.now)) else []) c.if-not-names.false))
    c.write_word_line.ensures
