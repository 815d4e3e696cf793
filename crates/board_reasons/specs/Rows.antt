-- Scans that fail on a board of two devices, U1 nearest TDO, and the lines that say why.
use Rattle.std.specs.Prelude.{◌≡◌, ℕ, [], ◌∷◌, List, ◌++◌, codes, true, false}
use Rattle.jt_tap.specs.declared.Column.{Column}
use Rattle.jt_tap.specs.declared.Column.TheVariants.{Dr, Ir}
use Rattle.scan_vectors.specs.Vector.{VectorBit, join}
use Rattle.board_model.specs.Whole.{AtRest}
use Rattle.bsdl_device.specs.Device.{Opcode}
use Rattle.board_description.specs.Samples.{opcode}
use Rattle.board_reasons.specs.Samples.{board, device, driving, nothing, pair, part, told, with_opcodes}

-- a scan of a body alone
abbrev pub body : (n tdi want care : ℕ) → List VectorBit
body n tdi want care = join nothing (part n tdi want care) nothing

abbrev pub Tells : Column → AtRest → List VectorBit → List ℕ → Type 0
Tells column m v lines = told column v m ≡ lines

-- instructions
abbrev pub bypass : ℕ
bypass = 7

abbrev pub sample_opcode : ℕ
sample_opcode = 1

abbrev pub extest : ℕ
extest = 0

abbrev pub idcode : ℕ
idcode = 2

abbrev pub read : ℕ
read = 3

-- 4 is an opcode without a row
abbrev pub no_row : ℕ
no_row = 4

-- INTEST, which stands for BYPASS here
abbrev pub intest : List Opcode
intest = opcode (codes "INTEST") 5 ∷ []

pub record ReasonRows : Type 0 where
  pub instruction : Tells Ir (board bypass bypass) (body 6 0 25 63)
      (codes "wanted 1 got 0\nfrom U2 instruction bit 1\n")
  pub bypass_first : Tells Dr (board bypass bypass) (body 2 0 1 3)
      (codes "wanted 1 got 0\nfrom U1 bypass by instruction BYPASS\n")
  pub bypass_second : Tells Dr (board bypass bypass) (body 2 0 2 3)
      (codes "wanted 1 got 0\nfrom U2 bypass by instruction BYPASS\n")
  pub bypass_no_row : Tells Dr (board no_row bypass) (body 2 0 1 3)
      (codes "wanted 1 got 0\nfrom U1 bypass by an opcode without an instruction\n")
  pub bypass_intest : Tells Dr (pair (with_opcodes intest 5) (device (codes "U2") bypass)) (body 2 0 1 3)
      (codes "wanted 1 got 0\nfrom U1 bypass by instruction INTEST which stands for BYPASS\n")
  pub bypass_all_ones : Tells Dr (pair (with_opcodes intest 7) (device (codes "U2") bypass)) (body 2 0 1 3)
      (codes "wanted 1 got 0\nfrom U1 bypass by instruction BYPASS\n")
  pub from_tdi : Tells Dr (board bypass bypass) (body 4 1 0 15) (codes "wanted 0 got 1\nfrom TDI data bit 0\n")
  pub from_tdi_parts : Tells Dr (board bypass bypass) (join (part 1 1 0 0) (part 3 1 0 7) nothing)
      (codes "wanted 0 got 1\nfrom TDI header bit 0\nwanted 0 got 1\nfrom TDI data bit 0\n")
  pub identification : Tells Dr (board idcode bypass) (body 4 0 1 15)
      (codes "wanted 0 got 1\nfrom U1 identification bit 2\n")
  pub user : Tells Dr (board bypass read) (body 5 0 16 31) (codes "wanted 1 got 0\nfrom U2 register of READ bit 3\n")
  pub cell_with_net : Tells Dr (board bypass sample_opcode) (body 5 0 0 8)
      (codes "wanted 0 got 1\nfrom U2 boundary cell 2 input port D net N level Float\n")
  pub cell_without_net : Tells Dr (board sample_opcode bypass) (body 4 0 11 15)
      (codes "wanted 1 got 0\nfrom U1 boundary cell 0 output3 port Q(0) captured core\nwanted 1 got 0\n"
      ++ (codes "from U1 boundary cell 1 control captured core\nwanted 0 got 1\n"
      ++ (codes "from U1 boundary cell 2 input port D no net\nwanted 1 got 0\n"
      ++ codes "from U1 boundary cell 3 internal captured core\n")))
  pub cell_of_core : Tells Dr (pair (driving false) (device (codes "U2") bypass)) (body 1 0 1 1)
      (codes "wanted 1 got 0\nfrom U1 boundary cell 0 output3 port Q(0) captured core\n")
  pub cell_of_update : Tells Dr (pair (driving true) (device (codes "U2") bypass)) (body 4 0 8 11)
      (codes "wanted 0 got 1\nfrom U1 boundary cell 0 output3 port Q(0) captured update\nwanted 0 got 1\n"
      ++ (codes "from U1 boundary cell 1 control captured update\nwanted 1 got 0\n"
      ++ codes "from U1 boundary cell 3 internal captured core\n"))
  pub header : Tells Dr (board bypass bypass) (join (part 1 0 1 1) (part 1 0 0 0) nothing)
      (codes "wanted 1 got 0\nfrom U1 bypass by instruction BYPASS\n")
  pub behind_header : Tells Dr (board bypass bypass) (join (part 1 0 0 0) (part 1 0 1 1) nothing)
      (codes "wanted 1 got 0\nfrom U2 bypass by instruction BYPASS\n")
  pub trailer : Tells Dr (board bypass idcode) (join (part 1 0 0 0) (part 1 0 0 0) (part 2 0 3 3))
      (codes "wanted 1 got 0\nfrom U2 identification bit 1\n")
  pub none_fails : Tells Dr (board bypass bypass) (body 2 0 0 3) []
