-- What whole texts spell, and the devices that they describe.
use Rattle.std.specs.Prelude.{◌≡◌, ℕ, ◌≤◌, false, List, length, Ok}
use Rattle.bsdl_text.specs.Cutting.{Lexeme}
use Rattle.bsdl_text.specs.Gaps.{TokensOf, BadAfter}
use Rattle.bsdl_device.specs.Device.{Device}
use Rattle.bsdl_entity.specs.Entity.{File}
use Rattle.bsdl.specs.Form.{text_limit}
use Rattle.bsdl.specs.Judging.{file_says}
use Rattle.worked_examples.specs.Entity.{IsFile}

-- a text of at most 4 MiB spells an entity: it is tokens and gaps to its end, and the tokens are a file
abbrev pub SpellsEntity : List ℕ → File → Type 0
SpellsEntity text f = (length text ≤ text_limit) × (ts : List Lexeme) × TokensOf false text ts × IsFile f ts

-- a text describes a device: it spells an entity, which is judged to be that device
abbrev pub Describes : List ℕ → Device → Type 0
Describes text d = (f : File) × SpellsEntity text f × (file_says f ≡ Ok d)

-- a text of at most 4 MiB that is tokens and gaps up to a byte at this place, which begins neither
abbrev pub HasBadByte : List ℕ → ℕ → Type 0
HasBadByte text place = (length text ≤ text_limit) × (ts : List Lexeme) × BadAfter false text ts place

-- a text of at most 4 MiB that is tokens and gaps to its end, but the tokens are no file
abbrev pub SpellsNothing : List ℕ → Type 0
SpellsNothing text =
    (length text ≤ text_limit) × (ts : List Lexeme) × TokensOf false text ts × ((f : File) → ¬ IsFile f ts)
