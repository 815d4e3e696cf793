use Rattle.std.proofs.Common.{Bool, [], sym, ap, ◌∙◌}
use Rattle.std.specs.Prelude.{if◌then◌else◌}
use Rattle.std.specs.Cmp.Lexicographic.{pointwise}
use mathlib.Core.Bool.{beq}
use Rattle.board_chips.specs.WiredChips.{chip_state}
use Rattle.byte_streams.proofs.Fronts.{WritesAll-is}
use Rattle.wave_files.specs.Extras.{name_line}
use Rattle.wave_files.proofs.extras.write_new_name.Goals as goal

pub returns-then-are_same : goal.returns-then-are_same
returns-then-are_same g c =
    WritesAll-is
    (ap (λ (b : Bool). if b then [] else name_line c.args.names c.args.number (chip_state c.args.after.now))
    (sym c.if-are_same.true ∙ c.are_same.ensures ∙ (λ i. pointwise beq (c.latch.ensures i) (c.latch-2.ensures i))))
    c.put_all.ensures.writes

pub returns : goal.returns
returns g c =
    WritesAll-is
    (ap (λ (b : Bool). if b then [] else name_line c.args.names c.args.number (chip_state c.args.after.now))
    (sym c.if-are_same.false ∙ c.are_same.ensures ∙ (λ i. pointwise beq (c.latch.ensures i) (c.latch-2.ensures i))))
    c.write_name.ensures
