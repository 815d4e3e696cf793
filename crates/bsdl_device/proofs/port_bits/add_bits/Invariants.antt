use Rattle.std.proofs.Common.{◌≡◌, ◌++◌, ◌-◌, ◌≤◌, ℕ, Bool, true}
use Rattle.std.specs.Prelude.{Option, Some}
use Rattle.bsdl_device.specs.declared.port_bits.BitPlace.{BitPlace}
use Rattle.bsdl_device.specs.Found.{AreFirst}
use Rattle.bsdl_device.specs.View.{places}
use Rattle.bsdl_device.proofs.port_bits.add_bits.Given as goal

abbrev pub invariant-loop-index : goal.invariant-loop-index
invariant-loop-index l = record {
  from : l.initial.index ≤ l.index;
  items : l.bits.items ≡ l.initial.bits.items ++ places l.port (Some (record { low = l.initial.index; len = l.index - l.initial.index }));
  numbers : (passes : BitPlace → Bool) → ((i : Option ℕ) → passes (record { port = l.port; index = i }) ≡ true)
      → AreFirst passes l.initial.numbers l.initial.bits.items → AreFirst passes l.numbers l.bits.items;
}
