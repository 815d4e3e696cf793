use Rattle.std.proofs.Common.{◌≡◌, ◌+◌, ◌≤◌, ℕ, List, [], length, refl, sym, ap, subst, ◌∙◌}
use Rattle.std.proofs.lemmas.List.{with_items_is}
use Rattle.chip_instructions.specs.declared.Selected.{Selected}
use Rattle.chip_registers.specs.Data.{lengths_of, registers_of}
use Rattle.chip_registers.specs.Registers.{stage_of, user_stage}
use Rattle.chip_registers.specs.declared.users.UserRegister.{UserRegister}
use Rattle.chip_registers.proofs.DataLaws.{selected_there, run_lens}
use Rattle.chip_registers.proofs.data.DataRegisters.put_run.Goals as goal

pub put_run-requires-in-User-clause-fit : goal.put_run-requires-in-User-clause-fit
put_run-requires-in-User-clause-fit g c =
    selected_there (lengths_of g.B.Register.stage c.args.self.now) c.args.selected c.in-User.k c.args.self.now.users.items c.deref_mut.result.now c.requires.there c.in-User.is refl c.deref_mut.ensures.value

pub returns-in-User-clause-lengths : goal.returns-in-User-clause-lengths
returns-in-User-clause-lengths g c =
    let kept : length c.put_run-in-User.new.users ≡ length c.args.self.now.users.items = c.put_run-in-User.auto.users ∙ ap length c.deref_mut.ensures.value in
    let stored = with_items_is c.args.self.now.users c.put_run-in-User.new.users (kept ∙ sym c.args.self.now.users.ok.0) in
    ap (λ (l : List (ℕ × ℕ)). record (lengths_of g.B.Register.stage c.args.self.now) { users = l })
    (run_lens c.in-User.k c.args.self.now.users.items c.deref_mut.result.now c.put_run-in-User.new.users _ c.args.at c.args.bits c.args.n c.deref_mut.ensures.value c.put_run-in-User.ensures.users c.put_run-in-User.ensures.run stored)

pub put_bypass-requires-clause-inside : goal.put_bypass-requires-clause-inside
put_bypass-requires-clause-inside g c =
    subst (λ (s : Selected). c.args.at + c.args.n ≤ length (stage_of s (registers_of g.B.Register.stage g.B.Register.update_part [] [] c.args.self.now))) c.in-Bypass.is (c.requires.inside [] [])

pub put_run-requires-clause-inside : goal.put_run-requires-clause-inside
put_run-requires-clause-inside g c =
    subst (λ (s : Selected). c.args.at + c.args.n ≤ length (stage_of s (registers_of g.B.Register.stage g.B.Register.update_part [] [] c.args.self.now))) c.in-Identification.is (c.requires.inside [] [])

pub put_run-requires-in-Boundary-clause-inside : goal.put_run-requires-in-Boundary-clause-inside
put_run-requires-in-Boundary-clause-inside g c =
    subst (λ (s : Selected). c.args.at + c.args.n ≤ length (stage_of s (registers_of g.B.Register.stage g.B.Register.update_part [] [] c.args.self.now))) c.in-Boundary.is (c.requires.inside [] [])

pub put_run-requires-in-User-clause-inside : goal.put_run-requires-in-User-clause-inside
put_run-requires-in-User-clause-inside g c =
    subst (λ (us : List UserRegister). c.args.at + c.args.n ≤ length (user_stage c.in-User.k us)) (sym c.deref_mut.ensures.value)
    (subst (λ (s : Selected). c.args.at + c.args.n ≤ length (stage_of s (registers_of g.B.Register.stage g.B.Register.update_part [] [] c.args.self.now))) c.in-User.is (c.requires.inside [] []))
