use Rattle.std.proofs.Common.{◌≡◌, ◌∙◌, sym, ap, Some, slice_get, length, refl}
use Rattle.std.proofs.lemmas.Bool.{ltb-true}
use Rattle.std.proofs.lemmas.Option.{slice_get_read}
use Rattle.std.specs.List.{position}
use Rattle.std.specs.Str.{bytes_eq}
use Rattle.board_parts.proofs.FileLaws.{no_file, a_file}
use Rattle.board_parts.proofs.library.text_named.Goals as goal

pub returns-in_default : goal.returns-in_default
returns-in_default c =
    sym (no_file c.args.name.now c.args.files.now (ap (position (bytes_eq c.args.name.now)) (sym c.requires) ∙ sym c.place_of.ensures ∙ c.in_default.is))

pub returns-in-Some-get : goal.returns-in-Some-get
returns-in-Some-get c =
    let name = c.args.name.now in
    let place = ap (position (bytes_eq name)) (sym c.requires) ∙ sym c.place_of.ensures ∙ c.in-Some.is in
    let here : slice_get c.args.files.now c.in-Some.place ≡ Some c.in-Some-get.field-0.now =
    slice_get_read c.args.files.now (length c.args.files.now) c.in-Some.place c.in-Some-get.field-0.now refl (ltb-true c.in-Some.place (length c.args.files.now) (sym c.in-Some-get.ensures.lookup.0)) c.in-Some-get.ensures.lookup.1 in
    sym (a_file name c.args.files.now c.in-Some.place (Some c.in-Some-get.field-0.now) place here)
