-- Worked rows: what the definitions make of small board files.
use Rattle.std.specs.Prelude.{◌≡◌, ℕ, Bool, true, false, List, [], ◌∷◌, codes, Some, None, Result, Ok, Err}
use Rattle.toml.specs.Data.{Members, no_members, member, boolean}
use Rattle.jt_limits.specs.Limits.{earlier_limits}
use Rattle.pin_nets.specs.declared.Pull.TheVariants.{Up, Down, Free}
use Rattle.board_tables.specs.Files.{names_of}
use Rattle.board_file.specs.Wiring.{Fault, BadField, UnknownFile, Bsdl, UnknownPin, PinTwice, TooLarge, large}
use Rattle.board_file.specs.Wiring.{large_within, IsCoreLoop, targets_in}
use Rattle.pin_nets.specs.declared.Follow.{Follow}
use Rattle.board_plan.specs.LeftOut.{left_out}
use Rattle.worked_examples.specs.BoardFileSamples.{Shown, k, ki, kr, shows, pin, tables, file, device, cored, net}
use Rattle.worked_examples.specs.BoardFileSamples.{pulled}
use Rattle.worked_examples.specs.BoardFileSamples.{one_net, with_pins, text_member, following, with_strings}
use Rattle.worked_examples.specs.BoardFileSamples.{shows_strings}
use Rattle.worked_examples.specs.BoardFileSamples.{follow, made}

abbrev u1 : List ℕ → Members
u1 f = device (codes "U1") f

abbrev idle : List Bool
idle = false ∷ false ∷ false ∷ []

-- one device with this core, and one net without a pull of its Q
abbrev one : List Bool → Result Shown Fault
one core = Ok (record { cores = core ∷ []; nets = (Free, pin 0 4 ∷ []) ∷ [] })

abbrev pub BoardRows : Type 0
BoardRows =
    -- cores, cell 0 rightmost
    (shows (one_net (cored (codes "U1") (codes "k") (codes "011"))) ≡ one (true ∷ true ∷ false ∷ []))
    × (shows (one_net (cored (codes "U1") (codes "k") (codes "001"))) ≡ one (true ∷ false ∷ false ∷ []))
    × (shows (one_net (u1 (codes "kh"))) ≡ one idle)
    -- pulls, and a board without nets
    × (shows (file (u1 (codes "k") ∷ []) (pulled (codes "N") (codes "U1.Q" ∷ []) (codes "down") ∷ []))
    ≡ Ok (record { cores = idle ∷ []; nets = (Down, pin 0 4 ∷ []) ∷ [] }))
    × (shows (file (u1 (codes "k") ∷ []) (pulled (codes "N") [] (codes "up") ∷ []))
    ≡ Ok (record { cores = idle ∷ []; nets = (Up, []) ∷ [] }))
    × (shows (member (codes "device") (tables (u1 (codes "k") ∷ [])) no_members)
    ≡ Ok (record { cores = idle ∷ []; nets = [] }))
    -- keys
    × (shows (one_net (cored (codes "U1") (codes "k") (codes "01"))) ≡ Err (BadField (codes "core")))
    × (shows (file (u1 (codes "k") ∷ []) (pulled (codes "N") [] (codes "UP") ∷ [])) ≡ Err (BadField (codes "pull")))
    × (shows no_members ≡ Err (BadField (codes "device")))
    × (shows (file [] []) ≡ Err (BadField (codes "device")))
    × (shows (member (codes "devices") (boolean true) no_members) ≡ Err (BadField (codes "device")))
    × (shows (member (codes "a") (boolean true) no_members) ≡ Err (BadField (codes "a")))
    × (shows (file (text_member (codes "core") (codes "2") (text_member (codes "name") (codes "U1") no_members)
    ∷ []) []) ≡ Err (BadField (codes "bsdl")))
    × (shows (file (u1 (codes "k") ∷ u1 (codes "k") ∷ []) []) ≡ Err (BadField (codes "name")))
    -- descriptions: a core is judged for 0s and 1s alone where they are refused or missing; of two files the first
    -- counts
    × (shows (file (cored (codes "U1") (codes "none") (codes "0") ∷ device (codes "U2") (codes "bad") ∷ []) [])
    ≡ Err (UnknownFile (codes "none")))
    × (shows (file (cored (codes "U1") (codes "bad") (codes "2") ∷ []) []) ≡ Err (BadField (codes "core")))
    × (shows (file (device (codes "U1") (codes "bad") ∷ device (codes "U2") (codes "none") ∷ []) [])
    ≡ Err (UnknownFile (codes "none")))
    × (shows (file (u1 (codes "bad") ∷ []) (net (codes "N") (codes "x" ∷ []) ∷ [])) ≡ Err (Bsdl (codes "X")))
    -- pins
    × (shows (with_pins (codes "U1.TDI" ∷ [])) ≡ Err (UnknownPin (codes "U1.TDI")))
    × (shows (with_pins (codes "U1.Q" ∷ codes "u1.q" ∷ [])) ≡ Err (UnknownPin (codes "u1.q")))
    × (shows (with_pins (codes "U1.Q" ∷ codes "U1.q" ∷ [])) ≡ Err (PinTwice (codes "U1.q")))
    × (shows (with_pins (codes "U1.Q" ∷ codes "U1.q" ∷ codes "U1.Q(0)" ∷ [])) ≡ Err (UnknownPin (codes "U1.Q(0)")))
    × (shows (with_pins (codes "U1.a(03)" ∷ codes "U1.vcc" ∷ []))
    ≡ Ok (record { cores = idle ∷ []; nets = (Free, pin 0 7 ∷ pin 0 8 ∷ []) ∷ [] }))
    × (shows (with_pins (codes "U1.A(4)" ∷ [])) ≡ Err (UnknownPin (codes "U1.A(4)")))
    × (shows (file (u1 (codes "k") ∷ [])
    (net (codes "N") (codes "U1.Q" ∷ []) ∷ net (codes "M") (codes "U1.D" ∷ codes "U1.Q" ∷ []) ∷ []))
    ≡ Err (PinTwice (codes "U1.Q")))
    -- limits
    × (large 256 16384 ≡ None)
    × (large 257 0 ≡ Some TooLarge)
    × (large 1 16385 ≡ Some TooLarge)
    × (large_within earlier_limits 32 4096 ≡ None)
    × (large_within earlier_limits 33 0 ≡ Some TooLarge)
    × (large_within earlier_limits 1 4097 ≡ Some TooLarge)
    -- names of descriptions
    × (names_of (file (u1 (codes "k") ∷ device (codes "U2") (codes "p") ∷ device (codes "U3") (codes "k") ∷ []) [])
    ≡ Ok (codes "k" ∷ codes "p" ∷ []))
    -- instructions that are left out
    × (left_out ki ≡ codes "INTEST" ∷ [])
    × (left_out kr ≡ codes "RUNBIST" ∷ [])
    × (left_out k ≡ [])
    × (left_out (record k { private_names = codes "SAMPLE" ∷ codes "NOROW" ∷ codes "BYPASS" ∷ [] })
    ≡ codes "BYPASS" ∷ codes "SAMPLE" ∷ [])

-- one device with these strings
abbrev strung : List Follow → Result (List (List Follow)) Fault
strung strings = Ok (strings ∷ [])

abbrev misfit : Result (List (List Follow)) Fault
misfit = Err (BadField (codes "follow"))

abbrev pub FollowRows : Type 0
FollowRows =
    -- strings, of which Q's cell is 0, D is port bit 5, and A(3) is 7; spaces and the case of ports are free
    (shows_strings (with_strings (codes "Q = !D" ∷ [])) ≡ strung (follow 0 5 true ∷ []))
    × (shows_strings (with_strings (codes "Q=D" ∷ [])) ≡ strung (follow 0 5 false ∷ []))
    × (shows_strings (with_strings (codes "  q  =  !  d  " ∷ [])) ≡ strung (follow 0 5 true ∷ []))
    × (shows_strings (with_strings (codes "Q = A(03)" ∷ [])) ≡ strung (follow 0 7 false ∷ []))
    × (shows_strings (with_strings []) ≡ strung [])
    × (shows_strings (file (u1 (codes "k") ∷ following (codes "U2") (codes "k") (codes "Q = D" ∷ []) ∷ []) [])
    ≡ Ok ([] ∷ (follow 0 5 false ∷ []) ∷ []))
    -- no cell drives D, or VCC; a second string for Q
    × (shows_strings (with_strings (codes "D = Q" ∷ [])) ≡ misfit)
    × (shows_strings (with_strings (codes "VCC = D" ∷ [])) ≡ misfit)
    × (shows_strings (with_strings (codes "Q = D" ∷ codes "Q = !D" ∷ [])) ≡ misfit)
    -- a source of mode out or linkage, of the TAP, or that is not there
    × (shows_strings (with_strings (codes "Q = Q" ∷ [])) ≡ misfit)
    × (shows_strings (with_strings (codes "Q = VCC" ∷ [])) ≡ misfit)
    × (shows_strings (with_strings (codes "Q = TDI" ∷ [])) ≡ misfit)
    × (shows_strings (with_strings (codes "Q = A(4)" ∷ [])) ≡ misfit)
    -- other forms
    × (shows_strings (with_strings (codes "Q" ∷ [])) ≡ misfit)
    × (shows_strings (with_strings (codes "Q = D = D" ∷ [])) ≡ misfit)
    × (shows_strings (with_strings (codes "Q = !!D" ∷ [])) ≡ misfit)
    × (shows_strings (with_strings (codes "Q = A (3)" ∷ [])) ≡ misfit)
    × (shows_strings (with_strings (codes "U1.Q = D" ∷ [])) ≡ misfit)
    × (shows_strings (file (text_member (codes "bsdl") (codes "k")
    (text_member (codes "follow") (codes "Q = D") (text_member (codes "name") (codes "U1") no_members)) ∷ []) [])
    ≡ misfit)
    -- where the description is refused or missing the form alone is judged
    × (shows_strings (file (following (codes "U1") (codes "none") (codes "D = Q" ∷ []) ∷ []) [])
    ≡ Err (UnknownFile (codes "none")))
    × (shows_strings (file (following (codes "U1") (codes "bad") (codes "D = Q" ∷ []) ∷ []) [])
    ≡ Err (Bsdl (codes "X")))
    × (shows_strings (file (following (codes "U1") (codes "bad") (codes "D" ∷ []) ∷ []) []) ≡ misfit)
    -- keys in byte order: `follow` before `name`
    × (shows_strings (file (u1 (codes "k") ∷ following (codes "U1") (codes "k") (codes "D = Q" ∷ []) ∷ []) []) ≡ misfit)

-- the tables make a wiring, and the first string on a loop there has this target
abbrev IsRefusedLoop : Members → List ℕ → Type 0
IsRefusedLoop t target = elim (made t) [ Ok w ↦ IsCoreLoop w (targets_in t) target | Err f ↦ ⊥ ]

abbrev pub LoopRows : Type 0
LoopRows =
    -- on one net of Q and D
    IsRefusedLoop (file (following (codes "U1") (codes "k") (codes "Q = D" ∷ []) ∷ [])
    (net (codes "N") (codes "U1.Q" ∷ codes "U1.D" ∷ []) ∷ [])) (codes "U1.Q")
    -- through two devices
    × IsRefusedLoop (file
    (following (codes "U1") (codes "k") (codes "Q = D" ∷ []) ∷ following (codes "U2") (codes "k") (codes "Q = D" ∷ [])
    ∷ [])
    (net (codes "N") (codes "U1.Q" ∷ codes "U2.D" ∷ []) ∷ net (codes "M") (codes "U2.Q" ∷ codes "U1.D" ∷ []) ∷ []))
    (codes "U1.Q")
