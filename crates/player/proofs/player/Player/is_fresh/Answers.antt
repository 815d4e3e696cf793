use Rattle.std.proofs.Common.{◌≡◌, arith, refl, sym, ap, ◌∙◌}
use Rattle.svf_programs.specs.Sizes.{program_of}
use Rattle.play_model.specs.Streams.{StreamState, new_stream}
use Rattle.player.specs.declared.progress.Phase.TheVariants.{Opening}
use Rattle.player.proofs.Keeping.{fresh-is}
use Rattle.player.proofs.player.Player.is_fresh.Goals as goal

pub returns-in-Opening-eq0 : goal.returns-in-Opening-eq0
returns-in-Opening-eq0 c =
    let i = c.self.inside in
    let none : c.in-Opening-eq0.field-0 ≡ 0 = omega (arith, c.in-Opening-eq0.field-0-test) in (
      λ _. sym c.self.view_is ∙ fresh-is (program_of i.program) i.progress c.self.invariant.stands i.kept c.self.invariant.keeps
          (c.in-Opening-eq0.is ∙ ap Opening none)
          ∙ ap (λ (s : StreamState). new_stream s.kind s.program) c.self.view_is,
      λ _. refl,
    )
