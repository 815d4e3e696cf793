use Rattle.std.proofs.Common.{sym, ap, ◌∙◌}
use Rattle.svf_programs.specs.Sizes.{program_of}
use Rattle.play_model.specs.Streams as stream
use Rattle.player.proofs.AnswersTaken.{is-none}
use Rattle.player.proofs.Keeping.{owed-is}
use Rattle.player.proofs.player.Player.owed.Goals as goal

pub returns : goal.returns
returns c =
    let i = c.self.inside in
    owed-is (program_of i.program) i.progress c.self.invariant.stands i.kept c.self.invariant.keeps
    (is-none i.progress.bad (sym c.is_some-is_bad.ensures ∙ c.if-is_bad.false)) ∙ ap (stream.owed 256) c.self.view_is
