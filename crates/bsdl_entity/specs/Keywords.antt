-- The words of an entity and its port list, in any case (IEEE Std 1149.1-2001, Annex B.8.3).
use Rattle.std.specs.Prelude.{ℕ, Bool, true, false, List, [], ◌∷◌, codes, Option}
use Rattle.bsdl_text.specs.Cutting.{Lexeme}
use Rattle.bsdl_text.specs.Reading.{Read, keyword}
use Rattle.bsdl_text.specs.Words.{stands_for}
use Rattle.bsdl_device.specs.declared.PortMode.{PortMode}
use Rattle.bsdl_device.specs.declared.PortMode.TheVariants.{In, Out, InOut, Buffer, Linkage}

-- one word
abbrev pub is_word : List ℕ → List ℕ → Option Bool
is_word word text = stands_for ((word, true) ∷ []) text

abbrev pub this_word : List ℕ → List Lexeme → Read Bool
this_word text ts = keyword (is_word text) ts

abbrev pub mode_of : List ℕ → Option PortMode
mode_of text =
    stands_for ((codes "IN", In) ∷ (codes "OUT", Out) ∷ (codes "INOUT", InOut) ∷ (codes "BUFFER", Buffer) ∷
    (codes "LINKAGE", Linkage) ∷ []) text

-- whether a port is one of several bits
abbrev pub is_vector : List ℕ → Option Bool
is_vector text = stands_for ((codes "BIT", false) ∷ (codes "BIT_VECTOR", true) ∷ []) text

-- whether a range rises
abbrev pub is_rising : List ℕ → Option Bool
is_rising text = stands_for ((codes "TO", true) ∷ (codes "DOWNTO", false) ∷ []) text
