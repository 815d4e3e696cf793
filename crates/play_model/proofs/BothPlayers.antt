-- Both players ask as often as they want a bit, and no turn has a `Quit`.
use Rattle.std.proofs.Common.{◌≡◌, suc, List, [], ◌∷◌, length, map, refl, ap, ◌∙◌}
use Rattle.scan_vectors.specs.Vector.{VectorBit}
use Rattle.play_model.specs.Play.{Turn, turns}
use Rattle.bitbang.specs.Steps.{Numbered}
use Rattle.play_model.proofs.Asks.{AllAsk, turns-ask}
use Rattle.play_model.specs.declared.kind.Kind.{Kind}
use Rattle.play_model.specs.declared.kind.Kind.TheVariants.{Stops, PlaysOn}
use Rattle.play_model.specs.PlayingOn.{any_value, turns_for, unjudged}
use Rattle.play_model.proofs.Quits.{NoneQuit, turns-no-quit}

length-any : (vs : List VectorBit) → length vs ≡ length (map any_value vs)
length-any [] = refl
length-any (v ∷ vs) = ap (λ n. suc n) (length-any vs)

unjudged-ask : (ts : List Turn) → AllAsk ts → AllAsk (map unjudged ts)
unjudged-ask [] all = tt
unjudged-ask (t ∷ ts) all = (all.0 ∙ length-any t.wants, unjudged-ask ts all.1)

unjudged-no-quit : (ts : List Turn) → NoneQuit ts → NoneQuit (map unjudged ts)
unjudged-no-quit [] all = tt
unjudged-no-quit (t ∷ ts) all = (all.0, unjudged-no-quit ts all.1)

pub ask-for : (kind : Kind) (steps : List Numbered) → AllAsk (turns_for kind steps)
ask-for Stops steps = turns-ask steps
ask-for PlaysOn steps = unjudged-ask (turns steps) (turns-ask steps)

pub no-quit-for : (kind : Kind) (steps : List Numbered) → NoneQuit (turns_for kind steps)
no-quit-for Stops steps = turns-no-quit steps
no-quit-for PlaysOn steps = unjudged-no-quit (turns steps) (turns-no-quit steps)
