use Rattle.std.proofs.Common.{◌≡◌, option_map, sym, ap, ◌∙◌, codes}
use Rattle.clap.specs.Words.{found_of, first_of, rows_of}
use Rattle.clap.proofs.WalkLemmas.{first_value-rows}
use Rattle.command_line.specs.Asking.{asked_by}
use Rattle.command_line.proofs.RequestLaws.{met}
use Rattle.command_line.proofs.request.request_of.Goals as goal

pub returns-in-Some : goal.returns-in-Some
returns-in-Some c =
    let found = found_of c.in-Some.found.now in
    let svf : option_map (λ s. s.now) c.get_str.result ≡ first_of (codes "svf") (rows_of found) = c.get_str.ensures ∙ first_value-rows found (codes "svf") in
    let board : option_map (λ s. s.now) c.get_str-in-Some.result ≡ first_of (codes "board") (rows_of found) = c.get_str-in-Some.ensures ∙ first_value-rows found (codes "board") in
    cc (svf, board, c.task_of.ensures) ∙ sym (ap asked_by (met _ _ _ c.in-Some.name.now (rows_of found) c.in-Some.ensures.name c.in-Some.ensures.rows))
