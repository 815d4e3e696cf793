use Rattle.std.proofs.Common.{◌∙◌, ℕ, List, ap, map, option_map}
use Rattle.std.specs.Prelude.{Option}
use Rattle.bsdl_text.specs.WordView.{word_lexeme}
use Rattle.bsdl_text.specs.declared.names.Word.{Word}
use Rattle.bsdl_entity.specs.PortsView.{range}
use Rattle.bsdl_sizes.specs.Counting.{names_behind}
use Rattle.bsdl_sizes.proofs.PortLaws.{of_names}
use Rattle.bsdl_sizes.proofs.limits.left_behind.Goals as goal

pub returns : goal.returns
returns c =
    let g = c.args.group.now in
    let r = option_map range g.range in
    c.left_behind_names.ensures
    ∙ ap (λ (ns : List Word). names_behind c.args.most c.width_of.result (map word_lexeme ns)) c.deref.ensures.value
    ∙ ap (λ (w : Option ℕ). names_behind c.args.most w (map word_lexeme g.names.items)) c.width_of.ensures
    ∙ of_names g.mode r c.args.most (map word_lexeme g.names.items)
