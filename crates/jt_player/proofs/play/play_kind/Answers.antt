use Rattle.std.proofs.Common.{ap, sym, ◌∙◌}
use Rattle.play_model.specs.declared.kind.Kind.{Kind}
use Rattle.svf_programs.specs.Sizes.{program_of}
use Rattle.jt_player.specs.Kinds.{found_in, found_of_ending}
use Rattle.jt_player.proofs.KindLaws.{stopped}
use Rattle.jt_player.proofs.play.play_kind.Goals as goal

pub returns-in-Stops-clause-found : goal.returns-in-Stops-clause-found
returns-in-Stops-clause-found c =
    let program = program_of c.args.program.now in
    let before = c.args.board.now in
    c.first_alone.ensures ∙ ap found_of_ending c.play_program-ending.ensures.ending ∙ sym (stopped program before)
    ∙ sym (ap (λ (k : Kind). found_in k program before) c.in-Stops.is)
