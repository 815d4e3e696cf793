-- An opcode's bits, X as 0.
use Rattle.std.proofs.Common.{◌≡◌, ◌<◌, ◌≤◌, ℕ, List, Bool, false, length, get_or, Option, None, unwrap_or, sym, ◌∙◌, arith}
use Rattle.std.proofs.lemmas.List.{length-map, get_or-map}
use Rattle.std.proofs.lemmas.List.FromFn.{fill_by_all}
use Rattle.bsdl_device.specs.Device.{Pattern}
use Rattle.bsdl_device.specs.Opcodes.{x_as_0}

pub x_as_0_is : (bits : List Bool) (digits : Pattern) (i : ℕ) → length digits ≤ i → length bits ≡ length digits → ((j : ℕ) → j < i → get_or bits j false ≡ unwrap_or (get_or digits j None) false) → bits ≡ x_as_0 digits
x_as_0_is bits digits i all long each =
    fill_by_all (λ j. unwrap_or (get_or digits j None) false) bits (length digits) false long (λ j h. each j (omega arith))
    ∙ sym (fill_by_all (λ j. unwrap_or (get_or digits j None) false) (x_as_0 digits) (length digits) false (length-map digits (λ (b : Option Bool). unwrap_or b false))
    (λ j h. get_or-map (λ (b : Option Bool). unwrap_or b false) digits j None false h))
