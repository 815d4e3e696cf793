use Rattle.std.proofs.Common.{◌≡◌, ℕ, List, length, refl, sym, ap, ◌∙◌}
use Rattle.std.proofs.lemmas.List.{with_items_is}
use Rattle.chip_registers.specs.Data.{lengths_of}
use Rattle.chip_registers.proofs.DataLaws.{selected_there, fixed_long, captured_lens}
use Rattle.chip_registers.proofs.data.DataRegisters.capture.Goals as goal

pub capture-requires-in-User-clause-fit : goal.capture-requires-in-User-clause-fit
capture-requires-in-User-clause-fit g c =
    selected_there (lengths_of g.B.Register.stage c.args.self.now) c.args.selected c.in-User.k c.args.self.now.users.items c.deref_mut.result.now c.requires.there c.in-User.is refl c.deref_mut.ensures.value

pub capture-requires-in-User-clause-fixed : goal.capture-requires-in-User-clause-fixed
capture-requires-in-User-clause-fixed g c = λ b e.
    fixed_long (lengths_of g.B.Register.stage c.args.self.now) c.args.selected c.in-User.k c.args.self.now.users.items c.deref_mut.result.now _ c.requires.fixed c.in-User.is refl c.deref_mut.ensures.value b e

pub returns-in-User-clause-lengths : goal.returns-in-User-clause-lengths
returns-in-User-clause-lengths g c =
    let l = lengths_of g.B.Register.stage c.args.self.now in
    let there = selected_there l c.args.selected c.in-User.k c.args.self.now.users.items c.deref_mut.result.now c.requires.there c.in-User.is refl c.deref_mut.ensures.value in
    let long = fixed_long l c.args.selected c.in-User.k c.args.self.now.users.items c.deref_mut.result.now _ c.requires.fixed c.in-User.is refl c.deref_mut.ensures.value in
    let kept : length c.capture-in-User.new.users ≡ length c.args.self.now.users.items = c.capture-in-User.auto.users ∙ ap length c.deref_mut.ensures.value in
    let stored = with_items_is c.args.self.now.users c.capture-in-User.new.users (kept ∙ sym c.args.self.now.users.ok.0) in
    ap (λ (l : List (ℕ × ℕ)). record (lengths_of g.B.Register.stage c.args.self.now) { users = l })
    (captured_lens c.in-User.k c.args.self.now.users.items c.deref_mut.result.now c.capture-in-User.new.users _ _ there long c.deref_mut.ensures.value c.capture-in-User.ensures stored)
