-- Words of devices and boards, as lines tell them.
use Rattle.std.specs.Prelude.{ℕ, ◌==◌, Bool, false, List, [], ◌∷◌, ◌++◌, codes, decimal, find, slice_get}
use Rattle.std.specs.Prelude.{Option, Some, None, option_map, unwrap_or}
use Rattle.bsdl_device.specs.declared.Function.{Function}
use Rattle.bsdl_device.specs.declared.Function.TheVariants as function
use Rattle.bsdl_device.specs.declared.Place.{Place}
use Rattle.bsdl_device.specs.declared.Place.TheVariants.{AtUser}
use Rattle.bsdl_device.specs.Device.{Device, PortBit, Access}
use Rattle.pin_nets.specs.Wired.{Net}
use Rattle.output_words.specs.Texts.{texts}

-- the function of a cell, as descriptions name it
abbrev pub function_word : Function → List ℕ
function_word function.Input = codes "input"
function_word function.Clock = codes "clock"
function_word function.ObserveOnly = codes "observe_only"
function_word function.Bidir = codes "bidir"
function_word function.Output2 = codes "output2"
function_word function.Output3 = codes "output3"
function_word function.Control = codes "control"
function_word function.ControlR = codes "controlr"
function_word function.Internal = codes "internal"

abbrev pub index_words : Option ℕ → List ℕ
index_words None = []
index_words (Some i) = texts (codes "(" ∷ decimal i ∷ codes ")" ∷ [])

-- a port bit as board files write it: its name, and its index where the port has several
abbrev pub port_words : PortBit → List ℕ
port_words p = p.name ++ index_words p.index

-- the port bit of this number
abbrev pub port_of : Device → ℕ → List ℕ
port_of d p = unwrap_or (option_map port_words (slice_get d.ports p)) []

-- the name of the net of this number
abbrev pub net_name : List Net → ℕ → List ℕ
net_name nets n = unwrap_or (option_map (λ (net : Net). net.name) (slice_get nets n)) []

abbrev pub is_user : ℕ → Access → Bool
is_user k a = at a.place
  where
    at : Place → Bool
    at (AtUser n) = n == k
    at _ = false

-- the first of these instructions that selects a user register
abbrev pub first_user : ℕ → List Access → List ℕ
first_user k accesses = unwrap_or (option_map (λ (a : Access). a.instruction) (find (is_user k) accesses)) []

-- a user register of a device, by the first instruction that selects it
abbrev pub user_words : Device → ℕ → List ℕ
user_words d k = first_user k d.accesses
