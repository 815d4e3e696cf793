use Rattle.std.proofs.Common.{◌≡◌, Bool, Option, ap, ◌∙◌, codes, option_map}
use Rattle.clap.specs.Words.{Text, found_of, rows_of}
use Rattle.clap.proofs.WalkLemmas.{first_value-rows}
use Rattle.command_line.specs.Asking.{Drawn, has_names, is_given}
use Rattle.command_line.proofs.request.waves_of.Goals as goal

abbrev drawn : (fails names tdos drives plain : Bool) → Text → Drawn
drawn fails names tdos drives plain name = record { file = name; fails = fails; names = names; tdos = tdos; drives = drives; plain = plain }

pub returns-in-Some : goal.returns-in-Some
returns-in-Some c =
    let found = found_of c.args.found.now in
    (λ i. option_map (drawn (c.is_given.ensures i) (c.has_names.ensures i) (c.is_given-in-Some.ensures i) (c.is_given-in-Some-2.ensures i) (c.is_given-in-Some-3.ensures i))
    ((c.in-Some.ensures ∙ first_value-rows found (codes "vcd")) i))

pub returns-in-None : goal.returns-in-None
returns-in-None c =
    let found = found_of c.args.found.now in
    let fails = is_given (codes "vcd-fails") (rows_of found) in
    let names = has_names (rows_of found) in
    let tdos = is_given (codes "vcd-tdo") (rows_of found) in
    let drives = is_given (codes "vcd-drives") (rows_of found) in
    let plain = is_given (codes "vcd-plain") (rows_of found) in
    ap (option_map (drawn fails names tdos drives plain)) (c.in-None.ensures ∙ first_value-rows found (codes "vcd"))
