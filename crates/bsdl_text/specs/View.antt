-- What a reader of the code answers, beside what the tokens say.
use Rattle.std.specs.Prelude.{◌≡◌, ⊤, ℕ, Bool, List, Result, Ok, Err, Option, Some, None}
use Rattle.bsdl_text.specs.declared.tokens.Lexer.{Lexer}
use Rattle.bsdl_text.specs.declared.reading.Stop.{Stop}
use Rattle.bsdl_text.specs.declared.reading.Stop.TheVariants as stop
use Rattle.bsdl_text.specs.Cutting.{Lexeme}
use Rattle.bsdl_text.specs.Reading.{Read, fits, misfit, stands, is_over}
use Rattle.bsdl_text.specs.Left.{left}

-- unless memory ran out, the misfit is that of the definition
abbrev pub Stops : {Y : Type 0} → Stop → Read Y → Type 0
Stops stop.Memory says = ⊤
Stops (stop.Misfit at) says = says ≡ misfit at

-- what a reader answered, seen by view, is what the tokens say, unless memory ran out
abbrev pub Gives : {X Y : Type 0} → (X → Y) → Result (X × Lexer) Stop → Read Y → Type 0
Gives view (Ok p) says = says ≡ fits (view p.0) (left p.1)
Gives view (Err e) says = Stops e says

-- the same of a reader whose value does not count
abbrev pub Passes : {Y : Type 0} → Result Lexer Stop → Read Y → Type 0
Passes {Y = Y} (Ok l) says = (y : Y) × (says ≡ fits y (left l))
Passes (Err e) says = Stops e says

-- a reader that takes no memory stops at a misfit alone
abbrev pub StopsAtMisfit : {X : Type 0} → Result X Stop → Type 0
StopsAtMisfit (Err stop.Memory) = ⊥
StopsAtMisfit _ = ⊤

-- where a list closes: at the text's end, or before a mark
abbrev pub closes : Option ℕ → List Lexeme → Bool
closes None ts = is_over ts
closes (Some c) ts = stands c ts
