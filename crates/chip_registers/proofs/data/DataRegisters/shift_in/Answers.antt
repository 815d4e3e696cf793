use Rattle.std.proofs.Common.{◌≡◌, ℕ, List, length, refl, sym, ap, ◌∙◌}
use Rattle.std.proofs.lemmas.List.{with_items_is}
use Rattle.chip_registers.specs.Data.{lengths_of}
use Rattle.chip_registers.proofs.DataLaws.{selected_there, shifted_lens}
use Rattle.chip_registers.proofs.data.DataRegisters.shift_in.Goals as goal

pub shift-requires : goal.shift-requires
shift-requires g c =
    selected_there (lengths_of g.B.Register.stage c.args.self.now) c.args.selected c.in-User.k c.args.self.now.users.items c.deref_mut.result.now c.requires c.in-User.is refl c.deref_mut.ensures.value

pub returns-in-User-clause-lengths : goal.returns-in-User-clause-lengths
returns-in-User-clause-lengths g c =
    let l = lengths_of g.B.Register.stage c.args.self.now in
    let there = selected_there l c.args.selected c.in-User.k c.args.self.now.users.items c.deref_mut.result.now c.requires c.in-User.is refl c.deref_mut.ensures.value in
    let kept : length c.shift.new.users ≡ length c.args.self.now.users.items = c.shift.auto.users ∙ ap length c.deref_mut.ensures.value in
    let stored = with_items_is c.args.self.now.users c.shift.new.users (kept ∙ sym c.args.self.now.users.ok.0) in
    ap (λ (l : List (ℕ × ℕ)). record (lengths_of g.B.Register.stage c.args.self.now) { users = l })
    (shifted_lens c.in-User.k c.args.self.now.users.items c.deref_mut.result.now c.shift.new.users _ c.args.tdi there c.deref_mut.ensures.value c.shift.ensures stored)
