-- What faults and ways are called.
use Rattle.std.specs.Prelude.{Bool, ℕ, List, [], ◌∷◌, ◌++◌, codes, slice_get, Option, option_and_then, option_map}
use Rattle.std.specs.Prelude.{unwrap_or}
use Rattle.pin_nets.specs.declared.Pin.{Pin}
use Rattle.pin_nets.specs.Wired.{Net}
use Rattle.output_words.specs.Digits.{digit}
use Rattle.output_words.specs.Texts.{texts}
use Rattle.board_plan.specs.Planned.{Wiring}
use Rattle.board_description.specs.Described.{pin_words}
use Rattle.board_description.specs.Words.{net_name}
use Rattle.board_faults.specs.declared.kinds.Fault.{Fault}
use Rattle.board_faults.specs.declared.kinds.Fault.TheVariants as fault
use Rattle.board_faults.specs.declared.kinds.Way.{Way}
use Rattle.board_faults.specs.declared.kinds.Way.TheVariants as way
use Rattle.board_faults.specs.declared.kinds.Winner.{Winner}
use Rattle.board_faults.specs.declared.kinds.Winner.TheVariants.{Zeros, Ones, First, Second}

-- a pin of a net, each by its number
abbrev pub pin_at : List Net → (net pin : ℕ) → Option Pin
pin_at nets net pin = option_and_then (λ (n : Net). slice_get n.pins pin) (slice_get nets net)

-- behind a blank
abbrev pub joint_words : Wiring → Option Pin → List ℕ
joint_words w pin = unwrap_or (option_map (pin_words w.members) pin) []

abbrev pub stuck_words : List ℕ → Bool → List ℕ
stuck_words net bit = texts (codes "stuck " ∷ net ∷ codes " at " ∷ (digit bit ∷ []) ∷ [])

abbrev pub fault_words : Wiring → Fault → List ℕ
fault_words w (fault.Open net pin) = codes "open" ++ joint_words w (pin_at w.nets net pin)
fault_words w (fault.Pull net) = texts (codes "pull " ∷ net_name w.nets net ∷ [])
fault_words w (fault.Stuck net bit) = stuck_words (net_name w.nets net) bit
fault_words w (fault.Short first second) =
    texts (codes "short " ∷ net_name w.nets first ∷ codes " " ∷ net_name w.nets second ∷ [])

abbrev pub winner_words : Winner → List ℕ
winner_words Zeros = codes " wired-and"
winner_words Ones = codes " wired-or"
winner_words First = codes " first-leads"
winner_words Second = codes " second-leads"

-- which way of its fault it is, behind a blank; nothing where the fault has one way
abbrev pub way_words : Way → List ℕ
way_words (way.Open net pin bit) = texts (codes " at " ∷ (digit bit ∷ []) ∷ [])
way_words (way.Pull net) = []
way_words (way.Stuck net bit) = []
way_words (way.Short first second winner) = winner_words winner
