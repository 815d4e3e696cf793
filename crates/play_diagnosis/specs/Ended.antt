-- What the ending of a play tells of whether it gives what a log says.
use Rattle.std.specs.Prelude.{Bool, true, false, ◌&&◌, ◌==◌, List, [], ◌∷◌, Option, Some, None}
use Rattle.scan_vectors.specs.declared.failures.Mismatch.{Mismatch}
use Rattle.scan_vectors.specs.Failures.{Found}
use Rattle.play_model.specs.declared.ending.Ending.{Ending}
use Rattle.play_model.specs.declared.ending.Ending.TheVariants.{Pass, Fail}
use Rattle.fault_serving.specs.Firsts.{is_part, is_same_bit}
use Rattle.play_diagnosis.specs.Reading.{Verdict, Passes, Stops, PlaysOn}

abbrev pub is_pass : Ending → Bool
is_pass Pass = true
is_pass _ = false

-- the first bit that failed is this one
abbrev pub is_first : Mismatch → Ending → Bool
is_first m (Fail command part bit) = command == m.command && (is_part part m.part && bit == m.bit)
is_first m _ = false

-- A log of a play to the end does not fit where it lists another bit first; else only the play tells.
abbrev pub by_first : List Mismatch → Ending → Option Bool
by_first [] ending = None
by_first (m ∷ ms) ending = elim (is_first m ending) [ true ↦ None | false ↦ Some false ]

abbrev pub by_ending : Verdict → Ending → Option Bool
by_ending Passes ending = Some (is_pass ending)
by_ending (Stops m) ending = Some (is_first m ending)
by_ending (PlaysOn f) ending = by_first f.list ending

-- of a play whose ending is told, if it is
abbrev pub by_told : Verdict → Option Ending → Option Bool
by_told said None = None
by_told said (Some ending) = by_ending said ending

-- ---- lists of failures

abbrev pub same_bits : List Mismatch → List Mismatch → Bool
same_bits [] [] = true
same_bits (m ∷ ms) (n ∷ ns) = is_same_bit m n && same_bits ms ns
same_bits _ _ = false

abbrev pub are_same : Found → Found → Bool
are_same f g = f.total == g.total && same_bits f.list g.list
