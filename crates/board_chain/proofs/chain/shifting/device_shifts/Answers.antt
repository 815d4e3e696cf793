use Rattle.std.proofs.Common.{Bool, ◌&&◌, ap, sym, ◌∙◌, Some}
use Rattle.std.specs.Prelude.{Option}
use Rattle.board_model.specs.Whole.{selected_bits_of}
use Rattle.jt_bits.specs.Words.{bit_of}
use Rattle.board_chain.specs.Shifting.{is_shift_of, shows}
use Rattle.board_chips.specs.WiredChips.{member_of}
use Rattle.board_chain.proofs.ShiftLaws.{low_bit, same_shows}
use Rattle.board_chain.proofs.chain.shifting.device_shifts.Goals as goal

pub returns-in-Some : goal.returns-in-Some
returns-in-Some c =
    let bits = selected_bits_of c.args.column (member_of c.args.chip.now) in
    same_shows c.in-Some.tdo _ ∙ ap (λ (b : Bool). shows b (Some c.in-Some.tdo)) (low_bit c.register_word.result bits c.register_word.ensures)
    ∙ ap (λ (o : Option Bool). shows (bit_of bits 0) o) c.in-Some.ensures
    ∙ ap (λ (b : Bool). b && shows (bit_of bits 0) c.args.chip.now.chip.tdo) (sym (ap (is_shift_of c.args.column) (sym c.state.ensures) ∙ sym c.is_shift_of.ensures ∙ c.if-not-is_shift_of.false))
