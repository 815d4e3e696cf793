-- Where reading stops behind texts.
use Rattle.std.specs.Prelude.{◌≡◌, ⊤, ℕ, Option, Some, None}
use Rattle.bsdl_text.specs.declared.reading.Stop.{Stop}
use Rattle.bsdl_text.specs.declared.reading.Stop.TheVariants as stop

-- at the first quote of a text that says nothing, else where the tokens behind do not fit
abbrev pub stop_behind : Option ℕ → Stop → Stop
stop_behind None s = s
stop_behind (Some place) s = stop.Misfit (Some place)

-- there, unless memory ran out
abbrev pub StopsBehind : Option ℕ → Stop → Stop → Type 0
StopsBehind unsaid s stop.Memory = ⊤
StopsBehind unsaid s found = found ≡ stop_behind unsaid s
