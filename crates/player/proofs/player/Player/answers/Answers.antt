use Rattle.std.proofs.Common.{ℕ, List, length, sym, ap, ◌∙◌}
use Rattle.svf_programs.specs.Sizes.{program_of}
use Rattle.play_model.specs.Streams.{StreamState, hear_bytes, answers_taken}
use Rattle.player.specs.Findings.{keeping}
use Rattle.player.specs.Progress.{state_of}
use Rattle.player.proofs.Keeping.{takes-same}
use Rattle.player.proofs.player.Player.answers.Goals as goal

pub returns-clause-count : goal.returns-clause-count
returns-clause-count c =
    let i = c.self.inside in
    let s = state_of (program_of i.program) i.progress in
    c.hear-count.ensures.count ∙ ap length (sym (takes-same s i.kept c.self.invariant.keeps c.args.bytes.now))
    ∙ ap (λ (s : StreamState). length (answers_taken 256 s c.args.bytes.now)) c.self.view_is

pub returns-clause-player : goal.returns-clause-player
returns-clause-player c =
    let i = c.self.inside in
    let s = state_of (program_of i.program) i.progress in
    c.hear-count.ensures.state ∙ ap (λ (l : List ℕ). hear_bytes l (keeping i.kept s)) (sym (takes-same s i.kept c.self.invariant.keeps c.args.bytes.now))
    ∙ ap (λ (s : StreamState). hear_bytes (answers_taken 256 s c.args.bytes.now) s) c.self.view_is
