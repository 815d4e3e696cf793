-- Worked rows of waves, of one bare device and of a board of two: each text was computed by a program of its own.
use Rattle.std.specs.Prelude.{◌≡◌, true, false, ℕ, List, [], ◌∷◌, ◌++◌, Some, None, codes, drop, flat_map}
use Rattle.std.specs.Prelude.{replicate, take}
use Rattle.bitbang_protocol.specs.declared.Message.{Message}
use Rattle.bitbang_protocol.specs.declared.Message.TheVariants.{Write}
use Rattle.pin_nets.specs.declared.Drive.TheVariants.{Nothing, Weak}
use Rattle.pin_nets.specs.declared.Pin.{Pin}
use Rattle.board_model.specs.Bare.{bare_board}
use Rattle.board_model.specs.Chain.{BoardState}
use Rattle.play_model.specs.declared.kind.Kind.{Kind}
use Rattle.play_model.specs.declared.kind.Kind.TheVariants.{Stops, PlaysOn}
use Rattle.play_model.specs.Play.{turns}
use Rattle.svf_programs.specs.Steps.{Numbered}
use Rattle.wave_files.specs.Codes.{code}
use Rattle.play_drawing.specs.Drawing.{after_drawing, draw}
use Rattle.wave_files.specs.declared.extras.Extras.{Extras}
use Rattle.wave_files.specs.Changes.{stamp}
use Rattle.wave_files.specs.Drives.{drive_byte}
use Rattle.wave_files.specs.Extras.{no_extras}
use Rattle.wave_files.specs.Heading.{pin_name}
use Rattle.wave_files.specs.Values.{byte_line}
use Rattle.play_drawing.specs.Waves.{heading}
use Rattle.play_drawing.specs.Pens.{Pen, begun}
use Rattle.play_waves.specs.Samples.{asserting, called, delayed, driving, failing, pair, rivals, selecting, waiting}
use Rattle.play_drawing.specs.Waves.{begins, wave}

abbrev pub fresh : Pen
fresh = begun no_extras (bare_board 1)

abbrev pub cycle : List Message
cycle = Write false false false ∷ Write true false false ∷ []

abbrev pub resets : List Message
resets = Write false true false ∷ Write true true false ∷ []

-- the messages of the first so many turns, of which the opening is one
abbrev pub messages_of : (count : ℕ) → List Numbered → List Message
messages_of count steps = flat_map (λ t. t.messages) (take count (turns steps))

-- The wave behind so many turns, which took no time. From there on TCK low lasts 1 ps and TCK high none.
abbrev pub wave_behind : (count : ℕ) → List Numbered → BoardState → List ℕ
wave_behind count steps b =
    wave None (λ command. 1) None (drop count (turns steps))
    (after_drawing 0 (messages_of count steps) (begun no_extras b))

-- the same of a bare device, with what a player of this kind is told of the bits that it wants
abbrev pub noted_behind : Kind → (count : ℕ) → List Numbered → List ℕ
noted_behind kind count steps =
    wave (Some kind) (λ command. 1) None (drop count (turns steps))
    (after_drawing 0 (messages_of count steps) (begun no_extras (bare_board 1)))

-- What is written at a time: the lines of what changed.
pub record Written : Type 0 where
  pub time : ℕ
  pub lines : List ℕ

abbrev pub at : ℕ → List ℕ → Written
at time lines = record { time = time; lines = lines }

abbrev pub written : Written → List ℕ
written w = stamp w.time ++ w.lines

abbrev pub all_written : List Written → List ℕ
all_written [] = []
all_written (w ∷ ws) = written w ++ all_written ws

-- the messages of `SDR 2 TDI (1)` on a bare device, up to where TCK goes high for the first bit
abbrev pub up_to_bit_0 : List Written
up_to_bit_0 =
    at 0 [] ∷ at 1 (codes "1!\nb1100 '\nsIDLE (\n") ∷ at 1 (codes "0!\n1\"\n")
    ∷ at 2 (codes "1!\nb0111 '\nsDRSELECT (\n") ∷ at 2 (codes "0!\n0\"\n")
    ∷ at 3 (codes "1!\nb0110 '\nsDRCAPTURE (\n") ∷ at 3 (codes "0!\n")
    ∷ at 4 (codes "1!\nb0010 '\nsDRSHIFT (\n") ∷ at 4 (codes "0!\n1#\n0$\n") ∷ []

-- and from where TCK goes high for the first time behind them
abbrev pub behind_bits : List Written
behind_bits =
    at 7 (codes "1!\nb0101 '\nsDRUPDATE (\n") ∷ at 7 (codes "0!\n0\"\n") ∷ at 8 (codes "1!\nb1100 '\nsIDLE (\n")
    ∷ at 8 (codes "0!\n") ∷ []

-- a turn: its number, and its messages one after another
abbrev pub turn : Written → List Written → List ℕ
turn number messages = written number ++ all_written messages

-- the names of instructions and each device's TDO besides
abbrev pub both : Extras
both = record no_extras { names = true; tdos = true }

abbrev pub first_pin : Pin
first_pin = record { device = 0; port = 0 }

-- what each pin drives besides
abbrev pub pins : Extras
pins = record no_extras { drives = true }

-- the wave behind so many turns, as above, with these
abbrev pub extra_behind : Extras → (count : ℕ) → List Numbered → BoardState → List ℕ
extra_behind x count steps b =
    wave None (λ command. 1) None (drop count (turns steps)) (after_drawing 0 (messages_of count steps) (begun x b))

pub record WaveRows : Type 0 where
  pub first_code : code 0 ≡ codes "!"
  pub last_of_one : code 93 ≡ codes "~"
  pub first_of_two : code 94 ≡ codes "!\""
  pub last_of_two : code 8835 ≡ codes "~~"
  pub first_of_three : code 8836 ≡ codes "!!\""
  pub last_of_three : code 830583 ≡ codes "~~~"
  pub first_of_four : code 830584 ≡ codes "!!!\""
  pub heading_row : heading false fresh
      ≡ codes "$timescale 1 ps $end\n$scope module board $end\n$scope module tap $end\n$var wire 1 ! TCK $end\n"
      ++ (codes "$var wire 1 \" TMS $end\n$var wire 1 # TDI $end\n$var wire 1 $ TDO $end\n"
      ++ (codes "$var wire 1 % TRST $end\n$var integer 32 & statement $end\n$upscope $end\n$scope module U1 $end\n"
      ++ (codes "$var reg 4 ' U1_state $end\n$var string 1 ( U1_word $end\n$var reg 2 ) U1_instruction $end\n"
      ++ (codes "$upscope $end\n$upscope $end\n$enddefinitions $end\n#0\n$dumpvars\n0!\nx\"\nx#\nz$\n1%\nb0 &\n"
      ++ (codes "b1111 '\nsRESET (\nb11 )\n$end\n")))))
  -- with what is told of the bits that are wanted
  pub heading_noted : heading true fresh
      ≡ codes "$timescale 1 ps $end\n$scope module board $end\n$scope module tap $end\n$var wire 1 ! TCK $end\n"
      ++ (codes "$var wire 1 \" TMS $end\n$var wire 1 # TDI $end\n$var wire 1 $ TDO $end\n"
      ++ (codes "$var wire 1 % TRST $end\n$var integer 32 & statement $end\n$var wire 1 * wanted $end\n"
      ++ (codes "$var wire 1 + fail $end\n$var integer 32 , bit $end\n$var string 1 - part $end\n$upscope $end\n"
      ++ (codes "$scope module U1 $end\n$var reg 4 ' U1_state $end\n$var string 1 ( U1_word $end\n"
      ++ (codes "$var reg 2 ) U1_instruction $end\n$upscope $end\n$upscope $end\n$enddefinitions $end\n"
      ++ (codes "#0\n$dumpvars\n0!\nx\"\nx#\nz$\n1%\nb0 &\nb1111 '\nsRESET (\nb11 )\n"
      ++ codes "x*\n0+\nbx ,\nsnone -\n$end\n"))))))
  -- of a period of 3 the low half lasts 2
  pub odd_period : draw 3 (resets ++ cycle) fresh
      ≡ codes "#0\n1\"\n0#\n#2\n1!\n#3\n0!\n0\"\n#5\n1!\nb1100 '\nsIDLE (\n"
  pub second_statement : begins 2 fresh ≡ codes "#0\nb10 &\n"
  pub opening_is_none : begins 0 fresh ≡ []
  -- so many cycles in IDLE, five in RESET before them: each is drawn
  pub short_rest : (after_drawing 2 (flat_map (λ ms. ms) (replicate 5 resets ++ replicate 64 cycle)) fresh).marks
      ≡ record { tck = Some true; tms = Some false; tdi = Some false; time = 138; rested = 127 }
  -- one more: TCK is unknown from its high half on
  pub long_rest : (after_drawing 2 (flat_map (λ ms. ms) (replicate 5 resets ++ replicate 66 cycle)) fresh).marks
      ≡ record { tck = None; tms = Some false; tdi = Some false; time = 142; rested = 129 }
  -- the TCK low that ends each statement counts too
  pub short_waits : (after_drawing 2 (messages_of 43 (replicate 42 waiting)) fresh).marks
      ≡ record { tck = Some false; tms = Some false; tdi = Some false; time = 141; rested = 128 }
  pub long_waits : (after_drawing 2 (messages_of 44 (replicate 43 waiting)) fresh).marks
      ≡ record { tck = None; tms = Some false; tdi = Some false; time = 144; rested = 129 }
  -- BYPASS gives the 1 out one cycle late, while TDO is driven
  pub scan_row : wave_behind 1 (delayed ∷ []) (bare_board 1)
      ≡ turn (at 0 (codes "b1 &\n"))
      (at 0 [] ∷ at 1 (codes "1!\nb1100 '\nsIDLE (\n") ∷ at 1 (codes "0!\n1\"\n")
      ∷ at 2 (codes "1!\nb0111 '\nsDRSELECT (\n") ∷ at 2 (codes "0!\n0\"\n")
      ∷ at 3 (codes "1!\nb0110 '\nsDRCAPTURE (\n") ∷ at 3 (codes "0!\n")
      ∷ at 4 (codes "1!\nb0010 '\nsDRSHIFT (\n") ∷ at 4 (codes "0!\n1#\n0$\n") ∷ at 5 (codes "1!\n")
      ∷ at 5 (codes "0!\n1\"\n0#\n1$\n") ∷ at 6 (codes "1!\nb0001 '\nsDREXIT1 (\n")
      ∷ at 6 (codes "0!\nz$\n") ∷ at 7 (codes "1!\nb0101 '\nsDRUPDATE (\n") ∷ at 7 (codes "0!\n0\"\n")
      ∷ at 8 (codes "1!\nb1100 '\nsIDLE (\n") ∷ at 8 (codes "0!\n") ∷ [])
      ++ (stamp 9 ++ [])
  -- its bits are wanted as they come out: a 0, and then a 1; each from where TCK goes high
  pub wanted_row : noted_behind Stops 1 (delayed ∷ [])
      ≡ turn (at 0 (codes "b1 &\n"))
      (up_to_bit_0
      ++ (at 5 (codes "0*\n") ∷ at 5 (codes "1!\n") ∷ at 5 (codes "0!\n1\"\n0#\n1$\n")
      ∷ at 6 (codes "1*\n") ∷ at 6 (codes "1!\nb0001 '\nsDREXIT1 (\n") ∷ at 6 (codes "0!\nz$\n")
      ∷ at 7 (codes "x*\n") ∷ behind_bits))
      ++ (stamp 9 ++ [])
  -- Both come out otherwise: a player that stops is told of the first, and wants nothing behind it.
  pub first_failing_row : noted_behind Stops 1 (failing ∷ [])
      ≡ turn (at 0 (codes "b1 &\n"))
      (up_to_bit_0
      ++ (at 5 (codes "1*\n1+\nb0 ,\nsdata -\n") ∷ at 5 (codes "1!\n") ∷ at 5 (codes "0+\n")
      ∷ at 5 (codes "0!\n1\"\n0#\n1$\n") ∷ at 6 (codes "x*\n") ∷ at 6 (codes "1!\nb0001 '\nsDREXIT1 (\n")
      ∷ at 6 (codes "0!\nz$\n") ∷ behind_bits))
      ++ (stamp 9 ++ [])
  -- One that plays on is told of each: `fail` goes low with TCK between them.
  pub each_failing_row : noted_behind PlaysOn 1 (failing ∷ [])
      ≡ turn (at 0 (codes "b1 &\n"))
      (up_to_bit_0
      ++ (at 5 (codes "1*\n1+\nb0 ,\nsdata -\n") ∷ at 5 (codes "1!\n") ∷ at 5 (codes "0+\n")
      ∷ at 5 (codes "0!\n1\"\n0#\n1$\n") ∷ at 6 (codes "0*\n1+\nb1 ,\nsdata -\n")
      ∷ at 6 (codes "1!\nb0001 '\nsDREXIT1 (\n") ∷ at 6 (codes "0+\n") ∷ at 6 (codes "0!\nz$\n")
      ∷ at 7 (codes "x*\n") ∷ behind_bits))
      ++ (stamp 9 ++ [])
  -- what stands behind the statement that fails is not drawn
  pub stopped : wave None (λ command. 1) (Some 1) (drop 1 (turns (delayed ∷ driving ∷ asserting ∷ [])))
      (after_drawing 0 (messages_of 1 []) fresh)
      ≡ wave_behind 1 (delayed ∷ []) (bare_board 1)
  pub heading_of_two : heading false (begun no_extras pair)
      ≡ codes "$timescale 1 ps $end\n$scope module board $end\n$scope module tap $end\n$var wire 1 ! TCK $end\n"
      ++ (codes "$var wire 1 \" TMS $end\n$var wire 1 # TDI $end\n$var wire 1 $ TDO $end\n"
      ++ (codes "$var wire 1 % TRST $end\n$var integer 32 & statement $end\n$upscope $end\n$scope module U1 $end\n"
      ++ (codes "$var reg 4 ' U1_state $end\n$var string 1 ( U1_word $end\n$var reg 2 ) U1_instruction $end\n"
      ++ (codes "$upscope $end\n$scope module U2 $end\n$var reg 4 * U2_state $end\n$var string 1 + U2_word $end\n"
      ++ (codes "$var reg 2 , U2_instruction $end\n$upscope $end\n$var wire 1 - N $end\n$upscope $end\n"
      ++ (codes "$enddefinitions $end\n#0\n$dumpvars\n0!\nx\"\nx#\nz$\n1%\nb0 &\n"
      ++ codes "b1111 '\nsRESET (\nb11 )\nb1111 *\nsRESET +\nb11 ,\nz-\n$end\n"))))))
  -- Q drives a 1 from the falling edge in DRUPDATE on
  pub net_row : wave_behind 2 (selecting ∷ driving ∷ []) pair
      ≡ turn (at 0 (codes "b10 &\n"))
      (at 0 (codes "1\"\n") ∷ at 1 (codes "1!\nb0111 '\nsDRSELECT (\nb0111 *\nsDRSELECT +\n")
      ∷ at 1 (codes "0!\n0\"\n") ∷ at 2 (codes "1!\nb0110 '\nsDRCAPTURE (\nb0110 *\nsDRCAPTURE +\n")
      ∷ at 2 (codes "0!\n") ∷ at 3 (codes "1!\nb0010 '\nsDRSHIFT (\nb0010 *\nsDRSHIFT +\n")
      ∷ at 3 (codes "0!\n1#\n0$\n") ∷ at 4 (codes "1!\n") ∷ at 4 (codes "0!\n") ∷ at 5 (codes "1!\n")
      ∷ at 5 (codes "0!\n1\"\n0#\n") ∷ at 6 (codes "1!\nb0001 '\nsDREXIT1 (\nb0001 *\nsDREXIT1 +\n")
      ∷ at 6 (codes "0!\nz$\n") ∷ at 7 (codes "1!\nb0101 '\nsDRUPDATE (\nb0101 *\nsDRUPDATE +\n")
      ∷ at 7 (codes "0!\n0\"\n1-\n") ∷ at 8 (codes "1!\nb1100 '\nsIDLE (\nb1100 *\nsIDLE +\n")
      ∷ at 8 (codes "0!\n") ∷ [])
      ++ (stamp 9 ++ [])
  -- TRST resets U1 at once, and Q drives nothing more; five cycles bring U2 after it
  pub trst_row : wave_behind 3 (selecting ∷ driving ∷ asserting ∷ []) pair
      ≡ turn (at 0 (codes "b11 &\n"))
      (at 0 (codes "0%\nb1111 '\nsRESET (\nb11 )\nz-\n") ∷ at 1 (codes "1\"\n")
      ∷ at 2 (codes "1!\nb0111 *\nsDRSELECT +\n") ∷ at 2 (codes "0!\n")
      ∷ at 3 (codes "1!\nb0100 *\nsIRSELECT +\n") ∷ at 3 (codes "0!\n")
      ∷ at 4 (codes "1!\nb1111 *\nsRESET +\n") ∷ at 4 (codes "0!\n") ∷ at 5 (codes "1!\n")
      ∷ at 5 (codes "0!\n") ∷ at 6 (codes "1!\n") ∷ at 6 (codes "0!\n0\"\n") ∷ [])
      ++ (stamp 7 ++ [])
  -- with names and TDOs: their variables come last, in the scopes of their devices
  pub heading_of_extras : heading false (begun both pair)
      ≡ codes "$timescale 1 ps $end\n$scope module board $end\n$scope module tap $end\n$var wire 1 ! TCK $end\n"
      ++ (codes "$var wire 1 \" TMS $end\n$var wire 1 # TDI $end\n$var wire 1 $ TDO $end\n"
      ++ (codes "$var wire 1 % TRST $end\n$var integer 32 & statement $end\n$upscope $end\n$scope module U1 $end\n"
      ++ (codes "$var reg 4 ' U1_state $end\n$var string 1 ( U1_word $end\n$var reg 2 ) U1_instruction $end\n"
      ++ (codes "$upscope $end\n$scope module U2 $end\n$var reg 4 * U2_state $end\n$var string 1 + U2_word $end\n"
      ++ (codes "$var reg 2 , U2_instruction $end\n$upscope $end\n$var wire 1 - N $end\n"
      ++ (codes "$scope module U1 $end\n$var string 1 2 U1_instruction_name $end\n$var wire 1 3 U1_tdo $end\n"
      ++ (codes "$upscope $end\n$scope module U2 $end\n$var string 1 4 U2_instruction_name $end\n"
      ++ (codes "$var wire 1 5 U2_tdo $end\n$upscope $end\n$upscope $end\n"
      ++ (codes "$enddefinitions $end\n#0\n$dumpvars\n0!\nx\"\nx#\nz$\n1%\nb0 &\n"
      ++ (codes "b1111 '\nsRESET (\nb11 )\nb1111 *\nsRESET +\nb11 ,\nz-\n"
      ++ codes "sBYPASS 2\nz3\nsBYPASS 4\nz5\n$end\n"))))))))))
  -- EXTEST goes into U1, whose TDO hands on what U2 gives out one cycle later; its name comes with its bits
  pub extras_row : extra_behind both 1 (selecting ∷ []) pair
      ≡ turn (at 0 (codes "b1 &\n"))
      (at 0 [] ∷ at 1 (codes "1!\nb1100 '\nsIDLE (\nb1100 *\nsIDLE +\n") ∷ at 1 (codes "0!\n1\"\n")
      ∷ at 2 (codes "1!\nb0111 '\nsDRSELECT (\nb0111 *\nsDRSELECT +\n") ∷ at 2 (codes "0!\n")
      ∷ at 3 (codes "1!\nb0100 '\nsIRSELECT (\nb0100 *\nsIRSELECT +\n") ∷ at 3 (codes "0!\n0\"\n")
      ∷ at 4 (codes "1!\nb1110 '\nsIRCAPTURE (\nb1110 *\nsIRCAPTURE +\n") ∷ at 4 (codes "0!\n")
      ∷ at 5 (codes "1!\nb1010 '\nsIRSHIFT (\nb1010 *\nsIRSHIFT +\n") ∷ at 5 (codes "0!\n1$\n13\n15\n")
      ∷ at 6 (codes "1!\n") ∷ at 6 (codes "0!\n0$\n03\n05\n")
      ∷ at 7 (codes "1!\n") ∷ at 7 (codes "0!\n1#\n1$\n13\n")
      ∷ at 8 (codes "1!\n") ∷ at 8 (codes "0!\n1\"\n0$\n03\n")
      ∷ at 9 (codes "1!\nb1001 '\nsIREXIT1 (\nb1001 *\nsIREXIT1 +\n")
      ∷ at 9 (codes "0!\n0#\nz$\nz3\nz5\n")
      ∷ at 10 (codes "1!\nb1101 '\nsIRUPDATE (\nb1101 *\nsIRUPDATE +\n")
      ∷ at 10 (codes "0!\n0\"\nb00 )\nsEXTEST 2\n")
      ∷ at 11 (codes "1!\nb1100 '\nsIDLE (\nb1100 *\nsIDLE +\n") ∷ at 11 (codes "0!\n") ∷ [])
      ++ (stamp 12 ++ [])
  -- with what pins drive: their variables come last, in a scope of their net
  pub heading_of_pins : heading false (begun pins rivals)
      ≡ codes "$timescale 1 ps $end\n$scope module board $end\n$scope module tap $end\n$var wire 1 ! TCK $end\n"
      ++ (codes "$var wire 1 \" TMS $end\n$var wire 1 # TDI $end\n$var wire 1 $ TDO $end\n"
      ++ (codes "$var wire 1 % TRST $end\n$var integer 32 & statement $end\n$upscope $end\n$scope module U1 $end\n"
      ++ (codes "$var reg 4 ' U1_state $end\n$var string 1 ( U1_word $end\n$var reg 2 ) U1_instruction $end\n"
      ++ (codes "$upscope $end\n$scope module U2 $end\n$var reg 4 * U2_state $end\n$var string 1 + U2_word $end\n"
      ++ (codes "$var reg 2 , U2_instruction $end\n$upscope $end\n$var wire 1 - N $end\n$scope module N $end\n"
      ++ (codes "$var wire 1 6 N-U1-Q $end\n$var wire 1 7 N-U2-Q $end\n$upscope $end\n$upscope $end\n"
      ++ (codes "$enddefinitions $end\n#0\n$dumpvars\n0!\nx\"\nx#\nz$\n1%\nb0 &\n"
      ++ codes "b1111 '\nsRESET (\nb11 )\nb1111 *\nsRESET +\nb11 ,\n0-\n06\n07\n$end\n")))))))
  -- Names may have a `_`: port A_Q of U1 is not called as port Q of U1_A.
  pub pin_of_u1 : pin_name (called (codes "U1") (codes "A_Q")).chips first_pin ≡ codes "U1-A_Q"
  pub pin_of_u1_a : pin_name (called (codes "U1_A") (codes "Q")).chips first_pin ≡ codes "U1_A-Q"
  -- In EXTEST U1 only pulls: its pin is told, and the net stays.
  pub pulls_row : extra_behind pins 1 (selecting ∷ []) rivals
      ≡ turn (at 0 (codes "b1 &\n"))
      (at 0 [] ∷ at 1 (codes "1!\nb1100 '\nsIDLE (\nb1100 *\nsIDLE +\n") ∷ at 1 (codes "0!\n1\"\n")
      ∷ at 2 (codes "1!\nb0111 '\nsDRSELECT (\nb0111 *\nsDRSELECT +\n") ∷ at 2 (codes "0!\n")
      ∷ at 3 (codes "1!\nb0100 '\nsIRSELECT (\nb0100 *\nsIRSELECT +\n") ∷ at 3 (codes "0!\n0\"\n")
      ∷ at 4 (codes "1!\nb1110 '\nsIRCAPTURE (\nb1110 *\nsIRCAPTURE +\n") ∷ at 4 (codes "0!\n")
      ∷ at 5 (codes "1!\nb1010 '\nsIRSHIFT (\nb1010 *\nsIRSHIFT +\n") ∷ at 5 (codes "0!\n1$\n")
      ∷ at 6 (codes "1!\n") ∷ at 6 (codes "0!\n0$\n") ∷ at 7 (codes "1!\n") ∷ at 7 (codes "0!\n1#\n1$\n")
      ∷ at 8 (codes "1!\n") ∷ at 8 (codes "0!\n1\"\n0$\n")
      ∷ at 9 (codes "1!\nb1001 '\nsIREXIT1 (\nb1001 *\nsIREXIT1 +\n") ∷ at 9 (codes "0!\n0#\nz$\n")
      ∷ at 10 (codes "1!\nb1101 '\nsIRUPDATE (\nb1101 *\nsIRUPDATE +\n")
      ∷ at 10 (codes "0!\n0\"\nb00 )\nh6\n")
      ∷ at 11 (codes "1!\nb1100 '\nsIDLE (\nb1100 *\nsIDLE +\n") ∷ at 11 (codes "0!\n") ∷ [])
      ++ (stamp 12 ++ [])
  -- Enabled, with a 1, it fights U2.
  pub fights_row : extra_behind pins 2 (selecting ∷ driving ∷ []) rivals
      ≡ turn (at 0 (codes "b10 &\n"))
      (at 0 (codes "1\"\n") ∷ at 1 (codes "1!\nb0111 '\nsDRSELECT (\nb0111 *\nsDRSELECT +\n")
      ∷ at 1 (codes "0!\n0\"\n") ∷ at 2 (codes "1!\nb0110 '\nsDRCAPTURE (\nb0110 *\nsDRCAPTURE +\n")
      ∷ at 2 (codes "0!\n") ∷ at 3 (codes "1!\nb0010 '\nsDRSHIFT (\nb0010 *\nsDRSHIFT +\n")
      ∷ at 3 (codes "0!\n1#\n0$\n") ∷ at 4 (codes "1!\n") ∷ at 4 (codes "0!\n1$\n") ∷ at 5 (codes "1!\n")
      ∷ at 5 (codes "0!\n1\"\n0#\n0$\n") ∷ at 6 (codes "1!\nb0001 '\nsDREXIT1 (\nb0001 *\nsDREXIT1 +\n")
      ∷ at 6 (codes "0!\nz$\n") ∷ at 7 (codes "1!\nb0101 '\nsDRUPDATE (\nb0101 *\nsDRUPDATE +\n")
      ∷ at 7 (codes "0!\n0\"\nx-\n16\n") ∷ at 8 (codes "1!\nb1100 '\nsIDLE (\nb1100 *\nsIDLE +\n")
      ∷ at 8 (codes "0!\n") ∷ [])
      ++ (stamp 9 ++ [])
  pub weak_zero : byte_line 21 (drive_byte (Weak false)) ≡ codes "l6\n"
  pub nothing_driven : byte_line 21 (drive_byte Nothing) ≡ codes "z6\n"
