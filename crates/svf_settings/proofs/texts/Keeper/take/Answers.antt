use Rattle.std.proofs.Common.{◌≡◌, map, ◌++◌, ◌∷◌, [], ◌∙◌}
use Rattle.svf_parse.specs.View.{said_of}
use Rattle.svf_settings.proofs.KeptTexts.{keeps_more, own_behind, own_stands}
use Rattle.svf_settings.proofs.texts.Keeper.take.Goals as goal

pub returns-in-Err : goal.returns-in-Err
returns-in-Err c = λ front s past split number keeps.
    let all = c.as_slice-2.result.now in
    let here : all ≡ front ++ s ∷ [] = c.as_slice-2.ensures.value ∙ split in
    let own = own_behind all front s past c.args.self.now.reader c.args.self.now.made.steps.items c.args.self.now.made.periods.items keeps here in
    c.in-Err.ensures front s here (map said_of all) past own own (λ _. own_stands all front s here)

pub returns : goal.returns
returns c = λ front s past split number keeps.
    let all = c.as_slice-2.result.now in
    let here : all ≡ front ++ s ∷ [] = c.as_slice-2.ensures.value ∙ split in
    let own = own_behind all front s past c.args.self.now.reader c.args.self.now.made.steps.items c.args.self.now.made.periods.items keeps here in
    let first = c.as_slice.result.now in
    let there : first ≡ front ++ s ∷ [] = c.as_slice.ensures.value ∙ split in
    let named = c.is_last_named-named.ensures front s past there (own_behind first front s past c.args.self.now.reader c.args.self.now.made.steps.items c.args.self.now.made.periods.items keeps there) in
    let kept = rw named at (c.keep_last_if.ensures front s split) in (
      rw (kept, c.in_ok-push.ensures.steps, c.in_ok-push.ensures.periods)
          (keeps_more front s past c.args.self.now.reader c.take_last.new.reader c.args.self.now.made.steps.items c.args.self.now.made.periods.items c.in-Ok.made c.args.number keeps number
          (λ every behind stands. c.in-Ok.ensures front s here every past own behind stands)),
      kept,
    )
