-- Single faults of the nets of a board, the ways in which each may show, and the nets with one.
use Rattle.std.specs.Prelude.{◌≡◌, ◌<◌, ◌+◌, ◌-◌, Bool, true, false, ℕ, suc, List, [], ◌∷◌, ◌++◌, map, length}
use Rattle.std.specs.Prelude.{take, drop, set, slice_get, slice_index_or, Some}
use Rattle.std.specs.List.{AllByRecursion, range_with_len, remove}
use Rattle.pin_nets.specs.declared.Pull.{Pull}
use Rattle.pin_nets.specs.declared.Pull.TheVariants.{Up, Down, Free}
use Rattle.pin_nets.specs.declared.Rule.TheVariants.{Counted, Tied, WiredOr, Led}
use Rattle.pin_nets.specs.Wired.{Net}
use Rattle.board_faults.specs.declared.kinds.Fault.{Fault}
use Rattle.board_faults.specs.declared.kinds.Fault.TheVariants as fault
use Rattle.board_faults.specs.declared.kinds.Way.{Way}
use Rattle.board_faults.specs.declared.kinds.Way.TheVariants as way
use Rattle.board_faults.specs.declared.kinds.Winner.{Winner}
use Rattle.board_faults.specs.declared.kinds.Winner.TheVariants.{Zeros, Ones, First, Second}

-- ---- which faults there are

-- a net that has a pull may have lost it
abbrev pub pull_faults : (net : ℕ) → Pull → List Fault
pull_faults net Free = []
pull_faults net Up = fault.Pull net ∷ []
pull_faults net Down = fault.Pull net ∷ []

-- the bridges of a net, among so many, with later ones
abbrev pub bridges : (count net : ℕ) → List Fault
bridges count net = map (fault.Short net) (range_with_len (net + 1) (count - (net + 1)))

abbrev pub behind_pull : (count net : ℕ) → List Fault
behind_pull count net = fault.Stuck net false ∷ fault.Stuck net true ∷ bridges count net

abbrev pub behind_opens : (count net : ℕ) → Pull → List Fault
behind_opens count net pull = pull_faults net pull ++ behind_pull count net

-- The faults of a net among so many: each of its pins' joints open, its pull, stuck at 0 and at 1, and its bridges with
-- later nets.
abbrev pub faults_of : (count net : ℕ) → Net → List Fault
faults_of count net n =
    map (fault.Open net) (range_with_len 0 (length n.pins)) ++ behind_opens count net n.pull

abbrev pub faults_from : (count net : ℕ) → List Net → List Fault
faults_from count net [] = []
faults_from count net (n ∷ ns) = faults_of count net n ++ faults_from count (suc net) ns

-- The faults of a board's nets, net after net.
abbrev pub faults : List Net → List Fault
faults nets = faults_from (length nets) 0 nets

-- ---- the ways in which each may show

abbrev pub winners : List Winner
winners = Zeros ∷ Ones ∷ First ∷ Second ∷ []

abbrev pub ways : Fault → List Way
ways (fault.Open net pin) = way.Open net pin false ∷ way.Open net pin true ∷ []
ways (fault.Pull net) = way.Pull net ∷ []
ways (fault.Stuck net bit) = way.Stuck net bit ∷ []
ways (fault.Short first second) = map (way.Short first second) winners

-- ---- the nets with one

abbrev pub nowhere : Net
nowhere = record { name = []; pull = Free; rule = Counted; pins = [] }

abbrev pub pull_to : Bool → Pull
pull_to true = Up
pull_to false = Down

abbrev pub turned : Pull → Pull
turned Up = Down
turned Down = Up
turned Free = Free

-- of two pulls together: a weak 0 decides what is read
abbrev pub joined : Pull → Pull → Pull
joined Down q = Down
joined Up Down = Down
joined Up Up = Up
joined Up Free = Up
joined Free q = q

-- the rest of a net whose pin has an open joint keeps its pull, or floats to this bit
abbrev pub rest_pull : Bool → Pull → Pull
rest_pull bit Free = pull_to bit
rest_pull bit Up = Up
rest_pull bit Down = Down

abbrev pub rest_of : (pin : ℕ) (bit : Bool) → Net → Net
rest_of pin bit n = record n { pull = rest_pull bit n.pull; pins = remove n.pins pin }

-- the pin alone floats to this bit
abbrev pub pin_alone : (pin : ℕ) (bit : Bool) → Net → Net
pin_alone pin bit n =
    record { name = []; pull = pull_to bit; rule = Counted; pins = take 1 (drop pin n.pins) }

-- one net of all pins and both pulls
abbrev pub bridged : Winner → (first second : Net) → Net
bridged Zeros a b = record a { pull = joined a.pull b.pull; rule = Counted; pins = a.pins ++ b.pins }
bridged Ones a b = record a { pull = joined a.pull b.pull; rule = WiredOr; pins = a.pins ++ b.pins }
bridged First a b = record a { pull = joined a.pull b.pull; rule = Led (length a.pins); pins = a.pins ++ b.pins }
bridged Second a b = record a { pull = joined a.pull b.pull; rule = Led (length b.pins); pins = b.pins ++ a.pins }

abbrev pub turned_net : Net → Net
turned_net n = record n { pull = turned n.pull }

abbrev pub tied : Bool → Net → Net
tied bit n = record n { rule = Tied bit }

-- The nets where a fault shows in a way. A pin alone stands behind the others; a bridge in the first net's place.
abbrev pub with_way : Way → List Net → List Net
with_way (way.Open net pin bit) nets =
    set nets net (rest_of pin bit (slice_index_or nets net nowhere))
    ++ pin_alone pin bit (slice_index_or nets net nowhere) ∷ []
with_way (way.Pull net) nets = set nets net (turned_net (slice_index_or nets net nowhere))
with_way (way.Stuck net bit) nets = set nets net (tied bit (slice_index_or nets net nowhere))
with_way (way.Short first second winner) nets =
    set (remove nets second) first
    (bridged winner (slice_index_or nets first nowhere) (slice_index_or nets second nowhere))

-- a way of a fault that the nets have
abbrev pub IsWayOf : List Net → Way → Type 0
IsWayOf nets (way.Open net pin bit) = (n : Net) × (slice_get nets net ≡ Some n) × (pin < length n.pins)
IsWayOf nets (way.Pull net) = net < length nets
IsWayOf nets (way.Stuck net bit) = net < length nets
IsWayOf nets (way.Short first second winner) = (first < second) × (second < length nets)

-- each of its ways is one of a fault that the nets have
abbrev pub IsFaultOf : List Net → Fault → Type 0
IsFaultOf nets fault = AllByRecursion (IsWayOf nets) (ways fault)
