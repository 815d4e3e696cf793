-- Every edge and every byte keeps the registers sound, and adds and removes no device.
use Rattle.std.proofs.Common.{◌≡◌, ◌<◌, ◌≤◌, sym, subst, Bool, true, false, ℕ, suc, List, [], ◌∷◌, length, drop, map, refl, ap, ◌∙◌, arith, length-append, Some, None}
use Rattle.std.specs.Prelude.{Option, if◌then◌else◌}
use Rattle.jt_limits.specs.Limits.{limits}
use Rattle.jt_tap.specs.declared.Work.{Work}
use Rattle.jt_tap.specs.declared.Work.TheVariants.{Resets, Captures, Shifts, Updates, Waits}
use Rattle.jt_tap.specs.Controller.{work}
use Rattle.bitbang_protocol.specs.declared.Message.{Message}
use Rattle.bitbang_protocol.specs.declared.Message.TheVariants.{Write, Lines}
use Rattle.bitbang_protocol.specs.Protocol.{decode}
use Rattle.boundary.specs.Registers.{selected_bits}
use Rattle.jt_bits.specs.Shifting.{after_shift}
use Rattle.scan_registers.specs.Edges.{after_rise, after_fall}
use Rattle.board_model.specs.Cells.{Member, surroundings, Told, untold}
use Rattle.board_model.specs.Nets.{told}
use Rattle.board_model.specs.Chain.{ChipState, BoardState, is_held, rise, fall, assert_trst, tdi_before, rise_all, members, after_levels, after_message, after_byte, after_bytes}
use Rattle.board_model.specs.Sound.{HasBit, IsChain, IsSound, IsSoundFor, AllSound, IsSoundBoard}
use Rattle.board_model.proofs.Sound.{sound-captured, sound-put, sound-updated, sound-other}

moved-bit : (tdi : Bool) (bits : List Bool) → HasBit (after_shift bits tdi)
moved-bit tdi bits = omega (arith, length-append (drop 1 bits) (tdi ∷ []))

sound-risen : (w : Work) (about : Told) (m : Member) (tdi : Bool) → IsSoundFor m.device m.registers
    → IsSoundFor m.device (after_rise w m.device (surroundings about m) tdi m.registers)
sound-risen Resets about m tdi sound = sound
sound-risen (Captures column) about m tdi sound = sound-captured column about m sound
sound-risen (Shifts column) about m tdi sound = sound-put m.device column _ m.registers (moved-bit tdi (selected_bits m.device column m.registers)) sound
sound-risen (Updates column) about m tdi sound = sound
sound-risen Waits about m tdi sound = sound

sound-fallen : (w : Work) (m : Member) → IsSoundFor m.device m.registers
    → IsSoundFor m.device (after_fall w m.device (surroundings untold m) m.registers)
sound-fallen Resets m sound = sound-other m.device _ m.registers.stage _ m.registers sound.stage sound
sound-fallen (Captures column) m sound = sound
sound-fallen (Shifts column) m sound = sound
sound-fallen (Updates column) m sound = sound-updated m.device column m.registers sound
sound-fallen Waits m sound = sound

sound-either : (which : Bool) (c d : ChipState) → IsSound c.member → IsSound d.member → IsSound (if which then c else d).member
sound-either true c d first second = first
sound-either false c d first second = second

sound-rise : (trst tms tdi : Bool) (about : Told) (c : ChipState) → IsSound c.member → IsSound (rise trst tms tdi about c).member
sound-rise trst tms tdi about c sound =
    sound-either (is_held trst c.member) c _ sound (record { it = sound-risen (work c.state) about c.member tdi sound.it })

sound-rise_all : (trst tms tdi : Bool) (about : ℕ → Told) (k : ℕ) (cs : List ChipState) → AllSound (members cs)
    → AllSound (members (rise_all trst tms tdi about k cs))
sound-rise_all trst tms tdi about k [] sound = tt
sound-rise_all trst tms tdi about k (c ∷ cs) sound =
    (sound-rise trst tms (tdi_before tdi cs) (about k) c sound.0, sound-rise_all trst tms tdi about (suc k) cs sound.1)

sound-falls : (cs : List ChipState) → AllSound (members cs) → AllSound (members (map fall cs))
sound-falls [] sound = tt
sound-falls (c ∷ cs) sound = (record { it = sound-fallen (work c.state) c.member sound.0.it }, sound-falls cs sound.1)

sound-asserted : (c : ChipState) → IsSound c.member → IsSound (assert_trst c).member
sound-asserted c sound = sound-either c.member.device.has_trst _ c
    (record { it = sound-other c.member.device _ c.member.registers.stage _ c.member.registers sound.it.stage sound.it }) sound

sound-assert : (cs : List ChipState) → AllSound (members cs) → AllSound (members (map assert_trst cs))
sound-assert [] sound = tt
sound-assert (c ∷ cs) sound = (sound-asserted c sound.0, sound-assert cs sound.1)

sound-written : (was tck tms tdi : Bool) (b : BoardState) → IsSoundBoard b → AllSound (members (after_levels was tck tms tdi b))
sound-written false true tms tdi b sound = sound-rise_all b.trst tms tdi (told b.nets (members b.chips)) 0 b.chips sound
sound-written true false tms tdi b sound = sound-falls b.chips sound
sound-written false false tms tdi b sound = sound
sound-written true true tms tdi b sound = sound

-- One message keeps the registers sound.
pub sound-told : (message : Message) (b : BoardState) → IsSoundBoard b → IsSoundBoard (after_message message b)
sound-told (Write tck tms tdi) b sound = sound-written b.tck tck tms tdi b sound
sound-told (Lines true srst) b sound = sound-assert b.chips sound
sound-told (Lines false srst) b sound = sound
sound-told _ b sound = sound

sound-heard : (said : Option Message) (b : BoardState) → IsSoundBoard b → IsSoundBoard (elim said [ Some m ↦ after_message m b | None ↦ b ])
sound-heard (Some m) b sound = sound-told m b sound
sound-heard None b sound = sound

-- So does every list of bytes.
pub sound-bytes : (bytes : List ℕ) (b : BoardState) → IsSoundBoard b → IsSoundBoard (after_bytes bytes b)
sound-bytes [] b sound = sound
sound-bytes (byte ∷ bytes) b sound = sound-bytes bytes (after_byte byte b) (sound-heard (decode byte) b sound)

count-rise_all : (trst tms tdi : Bool) (about : ℕ → Told) (k : ℕ) (cs : List ChipState) → length (rise_all trst tms tdi about k cs) ≡ length cs
count-rise_all trst tms tdi about k [] = refl
count-rise_all trst tms tdi about k (c ∷ cs) = ap (λ n. suc n) (count-rise_all trst tms tdi about (suc k) cs)

count-map : (f : ChipState → ChipState) (cs : List ChipState) → length (map f cs) ≡ length cs
count-map f [] = refl
count-map f (c ∷ cs) = ap (λ n. suc n) (count-map f cs)

count-written : (was tck tms tdi : Bool) (b : BoardState) → length (after_levels was tck tms tdi b) ≡ length b.chips
count-written false true tms tdi b = count-rise_all b.trst tms tdi (told b.nets (members b.chips)) 0 b.chips
count-written true false tms tdi b = count-map fall b.chips
count-written false false tms tdi b = refl
count-written true true tms tdi b = refl

-- One message adds and removes no device.
pub count-told : (message : Message) (b : BoardState) → length (after_message message b).chips ≡ length b.chips
count-told (Write tck tms tdi) b = count-written b.tck tck tms tdi b
count-told (Lines true srst) b = count-map assert_trst b.chips
count-told (Lines false srst) b = refl
count-told _ b = refl

-- the board after what a byte spells
abbrev heard_as : Option Message → BoardState → BoardState
heard_as said b = elim said [ Some m ↦ after_message m b | None ↦ b ]

count-heard : (said : Option Message) (b : BoardState) → length (heard_as said b).chips ≡ length b.chips
count-heard (Some m) b = count-told m b
count-heard None b = refl

-- Neither does a list of bytes.
pub count-bytes : (bytes : List ℕ) (b : BoardState) → length (after_bytes bytes b).chips ≡ length b.chips
count-bytes [] b = refl
count-bytes (byte ∷ bytes) b = count-bytes bytes (after_byte byte b) ∙ count-heard (decode byte) b

-- a chain stays one
pub IsChain-told : (m : Message) (b : BoardState) → IsChain b.chips → IsChain (after_message m b).chips
IsChain-told m b is = record {
  some = subst (λ (n : ℕ). 0 < n) (sym (count-told m b)) is.some;
  most = subst (λ (n : ℕ). n ≤ limits.devices) (sym (count-told m b)) is.most;
  sound = sound-told m b is.sound;
}
