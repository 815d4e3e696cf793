use Rattle.std.proofs.Common.{◌≡◌, ◌++◌, ◌-◌, List, ℕ, length, take, drop, set, replicate, ◌∙◌}
use Rattle.byte_streams.proofs.Fronts.{WritesAll-is}
use Rattle.wave_files.specs.Codes.{state_form}
use Rattle.wave_files.proofs.Lines.{short_lines}
use Rattle.wave_files.proofs.codes.write_short_state.Goals as goal

pub returns : goal.returns
returns g c =
    let form : c.state_form-form.result.now ≡ state_form c.args.state = c.state_form-form.ensures in
    let copied : c.copy_from_slice.new.self ≡ state_form c.args.state = c.copy_from_slice.ensures.after ∙ form in
    let rest : List ℕ = drop (length c.state_form-form.result.now) (replicate 24 0) in
    WritesAll-is
    ((λ i. take (length (form i)) (set (set (copied i ++ rest) 6 (c.digit_of_code.ensures i)) (length (form i) - 2) (c.digit_of_code-2.ensures i)))
    ∙ short_lines c.args.number c.args.state rest c.requires.short)
    c.put_all.ensures.writes
