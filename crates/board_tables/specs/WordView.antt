-- What the code's values stand for.
use Rattle.std.specs.Prelude.{◌≡◌, ℕ, Bool, true, List, map, option_map, IfSome}
use denote.Ref.{Bor}
use Rattle.board_tables.specs.declared.pins.PortText as declared_port
use Rattle.board_tables.specs.declared.follows.FollowText as declared_follow
use Rattle.board_tables.specs.PinTexts.{PortText, is_number}
use Rattle.board_tables.specs.FollowTexts.{FollowText}

-- the texts that are borrowed, in order
abbrev pub texts_of : List (Bor (List ℕ)) → List (List ℕ)
texts_of ks = map (λ k. k.now) ks

-- a port as it is written
abbrev pub port : declared_port.PortText → PortText
port p = record { name = p.name.now; index = option_map (λ d. d.now) p.index }

-- its index, if it has one, is some digits
abbrev pub HasDigits : declared_port.PortText → Type 0
HasDigits p = IfSome p.index (λ d. is_number d.now ≡ true)

-- a source, and whether it is inverted
abbrev pub source : declared_port.PortText × Bool → PortText × Bool
source s = (port s.0, s.1)

-- a string as it is written
abbrev pub follow : declared_follow.FollowText → FollowText
follow f = record { target = port f.target; source = port f.source; inverted = f.inverted }
