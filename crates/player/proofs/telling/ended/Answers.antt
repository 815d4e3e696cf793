use Rattle.std.proofs.Common.{Bool, sym, ap, ◌∙◌, Some, None}
use Rattle.std.specs.Prelude.{if◌then◌else◌}
use Rattle.play_model.specs.declared.ending.Ending.{Ending}
use Rattle.play_model.specs.PlayingOn.{ending_of}
use Rattle.svf_programs.specs.Seen.{numbered}
use Rattle.svf_programs.specs.Sizes.{program_of}
use Rattle.player.proofs.Keeping.{keeps-ended-bad, keeps-ended-good}
use Rattle.player.proofs.telling.ended.Goals as goal

pub returns-in-Some : goal.returns-in-Some
returns-in-Some c =
    sym (keeps-ended-bad (program_of c.args.program.now) c.args.p c.requires.stands c.args.kept.now c.requires.keeps (numbered c.step-command.result) c.step-command.ensures c.in-Some.byte c.in-Some.is)

pub returns-then-quit_is_out : goal.returns-then-quit_is_out
returns-then-quit_is_out c =
    ap (λ (e : Ending). Some e) c.verdict.ensures
    ∙ ap (λ (b : Bool). if b then Some (ending_of c.args.kept.now.found.list) else None) (sym (sym c.quit_is_out.ensures ∙ c.if-quit_is_out.true))
    ∙ sym (keeps-ended-good (program_of c.args.program.now) c.args.p c.requires.stands c.args.kept.now c.requires.keeps c.in_default.is)

pub returns-else-quit_is_out : goal.returns-else-quit_is_out
returns-else-quit_is_out c =
    ap (λ (b : Bool). if b then Some (ending_of c.args.kept.now.found.list) else None) (sym (sym c.quit_is_out.ensures ∙ c.if-quit_is_out.false))
    ∙ sym (keeps-ended-good (program_of c.args.program.now) c.args.p c.requires.stands c.args.kept.now c.requires.keeps c.in_default.is)
