-- Bytes that the board takes together.
use Rattle.std.specs.Prelude.{Bool, true, false, Option, Some}
use Rattle.play_links.specs.declared.serving.Served.{Served}
use Rattle.play_links.specs.declared.serving.Served.TheVariants.{Quit}

-- it stopped at a `Q`
abbrev pub is_quit : Option Served → Bool
is_quit (Some Quit) = true
is_quit _ = false
