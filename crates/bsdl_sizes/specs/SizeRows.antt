-- Descriptions that are refused for a length or a limit, and the word that tells it.
use Rattle.std.specs.Prelude.{◌≡◌, ℕ, List, [], ◌++◌, codes, Some}
use Rattle.bsdl_sizes.specs.declared.spots.Spot.{Spot}
use Rattle.bsdl_sizes.specs.declared.spots.Spot.TheVariants.{Outside, Inside}
use Rattle.bsdl_sizes.specs.declared.sizes.Refused.{Refused}
use Rattle.bsdl_sizes.specs.declared.sizes.Refused.TheVariants as refused
use Rattle.bsdl_sizes.specs.Sizes.{spot_at_fault}

-- what stands in a description in place of each of these
pub record Parts : Type 0 where
  pub ports : List ℕ
  pub bits : List ℕ
  pub opcodes : List ℕ
  pub capture : List ℕ
  pub cells : List ℕ
  pub rows : List ℕ
  pub more : List ℕ

abbrev pub base : Parts
base = record {
  ports = [];
  bits = codes "2";
  opcodes = codes "\"BYPASS(11),A(01),B(00)\"";
  capture = codes "\"01\"";
  cells = codes "1";
  rows = codes "\"0(BC_1,*,internal,X)\"";
  more = [];
}

abbrev pub registers : List ℕ → List ℕ
registers rows = codes "attribute REGISTER_ACCESS of K:entity is \"" ++ rows ++ codes "\";"

abbrev pub text : Parts → List ℕ
text p =
    codes "entity K is port(" ++ p.ports ++ codes "I,M,C:in bit;O:out bit);attribute TAP_SCAN_IN of I:signal is true;"
    ++ codes "attribute TAP_SCAN_OUT of O:signal is true;attribute TAP_SCAN_MODE of M:signal is true;"
    ++ codes "attribute TAP_SCAN_CLOCK of C:signal is(1,BOTH);attribute INSTRUCTION_LENGTH of K:entity is " ++ p.bits
    ++ codes ";attribute INSTRUCTION_OPCODE of K:entity is " ++ p.opcodes
    ++ codes ";attribute INSTRUCTION_CAPTURE of K:entity is " ++ p.capture
    ++ codes ";attribute BOUNDARY_LENGTH of K:entity is " ++ p.cells
    ++ codes ";attribute BOUNDARY_REGISTER of K:entity is " ++ p.rows ++ codes ";" ++ p.more ++ codes "end K;"

abbrev pub Tells : Refused → Parts → Spot → Type 0
Tells r p spot = spot_at_fault r (text p) ≡ Some spot

pub record SizeRows : Type 0 where
  pub one_bit : Tells refused.BadLength
      (record base { bits = codes "1"; opcodes = codes "\"BYPASS(1),A(0)\""; capture = codes "\"1\"" }) (Outside 228)
  pub no_cell : Tells refused.BadLength (record base { cells = codes "0" }) (Outside 393)
  pub short_opcode : Tells refused.BadLength
      (record base { opcodes = codes "\"BYPASS(11),A(1)\"" }) (Inside 308 11)
  pub second_string : Tells refused.BadLength
      (record base { opcodes = codes "\"BYPASS(11),\"&\"A(1)\"" }) (Inside 308 11)
  pub long_capture : Tells refused.BadLength (record base { capture = codes "\"001\"" }) (Outside 343)
  pub short_code : Tells refused.BadLength
      (record base { more = codes "attribute IDCODE_REGISTER of K:entity is \"01\";" }) (Outside 502)
  pub no_bit : Tells refused.BadLength
      (record base { more = registers (codes "BYPASS(A),R[0](B)") }) (Inside 533 15)
  pub long_captured : Tells refused.BadLength
      (record base { more = registers (codes "R[2](A CAPTURES 01,B CAPTURES 1)") }) (Inside 533 19)
  pub not_own : Tells refused.BadLength
      (record base {
        opcodes = codes "\"BYPASS(11),A(01)\"";
        more = registers (codes "R[2](C CAPTURES 1,A CAPTURES 1)");
      }) (Inside 527 18)
  pub two_lengths : Tells refused.BadLength
      (record base { more = registers (codes "R[2](A),R[3](B)") }) (Outside 502)
  pub wide : Tells refused.TooLarge (record base { bits = codes "65" }) (Outside 228)
  pub large_number : Tells refused.TooLarge
      (record base { rows = codes "\"0(BC_1,*,internal,X),65536(BC_1,*,internal,X)\"" }) (Outside 436)
  pub large_index : Tells refused.TooLarge
      (record base { ports = codes "E:in bit_vector(65536 downto 65536);" }) (Outside 17)
  pub many_bits : Tells refused.TooLarge
      (record base { ports = codes "E:in bit;F,G:in bit_vector(0 to 4095);" }) (Outside 28)
  pub long_register : Tells refused.TooLarge
      (record base { more = registers (codes "R[2](A),S[4097](B)") }) (Inside 533 16)
