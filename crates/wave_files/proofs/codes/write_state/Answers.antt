use Rattle.std.proofs.Common.{◌+◌, ◌++◌, take, refl, ap, ◌∙◌}
use Rattle.byte_streams.proofs.Fronts.{WritesAll-is, WritesAll-stopped, WritesAll-then}
use Rattle.jt_tap.specs.Words.{word}
use Rattle.wave_files.specs.Values.{ended, word_line}
use Rattle.wave_files.proofs.Lines.{form_begins, in_parts}
use Rattle.wave_files.proofs.codes.write_state.Goals as goal

pub returns-in_err-put_all : goal.returns-in_err-put_all
returns-in_err-put_all g c =
    let n = c.args.number in
    let s = c.args.state in
    let rest = word_line (n + 1) (word s) in
    let front = ap (take 6) c.state_form.ensures ∙ form_begins s in
    WritesAll-is ((λ i. front i ++ (ended n ++ rest)) ∙ in_parts s (ended n) rest)
    (WritesAll-stopped (ended n ++ rest) c.in_err-put_all.ensures.writes refl c.from_residual.ensures.0)

pub returns-in_err-write_end : goal.returns-in_err-write_end
returns-in_err-write_end g c =
    let n = c.args.number in
    let s = c.args.state in
    let rest = word_line (n + 1) (word s) in
    let front = ap (take 6) c.state_form.ensures ∙ form_begins s in
    WritesAll-is ((λ i. front i ++ (ended n ++ rest)) ∙ in_parts s (ended n) rest)
    (WritesAll-then c.in_ok-put_all.ensures.writes refl
    (WritesAll-stopped rest c.in_err-write_end.ensures refl c.from_residual-in_err-write_end.ensures.0))

pub returns : goal.returns
returns g c =
    let n = c.args.number in
    let s = c.args.state in
    let rest = word_line (n + 1) (word s) in
    let front = ap (take 6) c.state_form.ensures ∙ form_begins s in
    WritesAll-is
    ((λ i. front i ++ (ended n ++ word_line (n + 1) ((c.as_bytes.ensures.value ∙ c.word.ensures) i)))
    ∙ in_parts s (ended n) rest)
    (WritesAll-then c.in_ok-put_all.ensures.writes refl (WritesAll-then c.in_ok-write_end.ensures refl c.write_word_line.ensures))
