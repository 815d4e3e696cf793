-- Where reading stops behind texts, and what is read behind them.
use Rattle.std.proofs.Common.{◌≡◌, ℕ, List, [], ◌∷◌, ◌++◌, refl, sym, ap, subst, ◌∙◌, Option, None, Some}
use Rattle.std.specs.Option.{option_or}
use Rattle.bsdl_text.specs.Cutting.{Lexeme}
use Rattle.bsdl_text.specs.Reading.{Read, misfit, ◌>>=◌}
use Rattle.bsdl_text.specs.View.{Stops}
use Rattle.bsdl_text.specs.declared.reading.Stop.{Stop}
use Rattle.bsdl_text.specs.declared.reading.Stop.TheVariants as stop
use Rattle.bsdl_text.proofs.ListLaws.{stops_where}
use Rattle.bsdl_values.specs.View.{judged, unsaid as value_unsaid}
use Rattle.bsdl_entity.specs.GivenView.{first_unsaid}
use Rattle.bsdl_entity.specs.Stopping.{StopsBehind}
use Rattle.bsdl_entity.specs.declared.items.Given as declared_given

pub stops_judged : {A : Type 0} (u : Option ℕ) (s found : Stop) (r : Read A) → StopsBehind u s found → Stops s r → Stops found (judged u r)
stops_judged u s stop.Memory r behind stops = tt
stops_judged None s (stop.Misfit at) r behind stops = subst (λ (e : Stop). Stops e r) (sym behind) stops
stops_judged (Some place) s (stop.Misfit at) r behind stops = let same : at ≡ Some place = cc in ap misfit (sym same)

-- where a reader stops, what is read on from it does
pub stops_on : {X Y : Type 0} (s : Stop) (r : Read X) (f : X → List Lexeme → Read Y) → Stops s r → Stops s (r >>= f)
stops_on s r f stops = stops_where s r (r >>= f) stops (λ at none. ap (λ q. q >>= f) none)

pub one_unsaid : (u : Option ℕ) → option_or u None ≡ u
one_unsaid None = refl
one_unsaid (Some place) = refl

either_first : (u v w : Option ℕ) → option_or u (option_or v w) ≡ option_or (option_or u v) w
either_first None v w = refl
either_first (Some place) v w = refl

-- the first text that says nothing, of one attribute more
pub unsaid_more : (gs : List declared_given.Given) (g : declared_given.Given) → first_unsaid (gs ++ g ∷ []) ≡ option_or (first_unsaid gs) (value_unsaid g.value)
unsaid_more [] g = one_unsaid (value_unsaid g.value)
unsaid_more (h ∷ gs) g = ap (option_or (value_unsaid h.value)) (unsaid_more gs g) ∙ either_first (value_unsaid h.value) (first_unsaid gs) (value_unsaid g.value)
