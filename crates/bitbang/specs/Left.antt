-- The bytes of a step that are left, some of them being out.
use Rattle.std.specs.Prelude.{◌≡◌, ◌≤◌, ◌<◌, true, false, ℕ, Bool, List, [], ◌∷◌, ◌++◌, length, map, take, drop}
use Rattle.std.specs.Prelude.{flat_map, Option, option_to_list}
use Rattle.bitbang_protocol.specs.declared.Message.TheVariants.{Write}
use Rattle.bitbang_protocol.specs.declared.Cycle.{Cycle}
use Rattle.bitbang_protocol.specs.Protocol.{cycle_messages, encode}
use Rattle.tck_cycles.specs.Sources as source
use Rattle.bitbang.specs.declared.begun.Begun.{Begun}
use Rattle.bitbang.specs.declared.step_bytes.Spot.{Spot}
use Rattle.bitbang.specs.declared.step_bytes.StepBytes.{StepBytes}

-- the bytes of cycles
abbrev pub bytes_of : List Cycle → List ℕ
bytes_of cs = map encode (flat_map cycle_messages cs)

-- those of one cycle
abbrev pub bytes_of_cycle : Cycle → List ℕ
bytes_of_cycle c = map encode (cycle_messages c)

-- those of a cycle that are not out
abbrev pub rest : Begun → List ℕ
rest b = drop b.out (map encode (cycle_messages b.cycle))

-- the byte that closes a step with cycles, if it is not out
abbrev pub closing : Bool → List ℕ
closing true = encode (Write false false false) ∷ []
closing false = []

abbrev pub bytes_left : Option ℕ → Begun → List Cycle → Bool → List ℕ
bytes_left line begun cs closes = option_to_list line ++ (rest begun ++ (bytes_of cs ++ closing closes))

-- what is left
abbrev pub left : StepBytes → List ℕ
left s = bytes_left s.line s.begun (source.left s.source) s.closes

-- the cycles of the step
abbrev pub whole : StepBytes → List Cycle
whole s = source.whole s.source

-- what is left behind a spot of a step with these cycles
abbrev pub behind : Spot → List Cycle → List ℕ
behind spot cs = bytes_left spot.line spot.begun (source.behind spot.source cs) spot.closes

-- Bytes were put to the front of a buffer: so many of those that were left, none only where none was left or there was
-- no room.
pub record Fills (before buffer after now : List ℕ) (count : ℕ) : Type 0 where
  pub room : count ≤ length buffer
  pub some : count ≤ length before
  pub filled : after ≡ take count before ++ drop count buffer
  pub left : now ≡ drop count before
  pub none : 0 < length buffer → count ≡ 0 → before ≡ []
