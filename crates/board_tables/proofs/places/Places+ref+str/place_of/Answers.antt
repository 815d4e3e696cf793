use Rattle.std.proofs.Common.{◌∙◌, ap}
use Rattle.board_tables.proofs.TextLaws.{text_place}
use Rattle.board_tables.specs.WordView.{texts_of}
use Rattle.std.specs.Str.{bytes_eq}
use Rattle.std.specs.List.{position}
use Rattle.board_tables.proofs.places.Places+ref+str.place_of.Goals as goal

-- src/places.rt:87:5
pub returns : goal.returns
returns c =
    c.copied.ensures ∙ c.get.ensures.value ∙ c.self.invariant c.args.text ∙ text_place c.args.text.now c.self.inside.keys.items
    ∙ ap (λ ks. position (bytes_eq c.args.text.now) (texts_of ks)) c.self.view_is
