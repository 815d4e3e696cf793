use Rattle.std.proofs.Common.{◌≡◌, ◌++◌, ℕ, Bool, List, length, drop, refl, sym, ap, ◌∙◌}
use Rattle.std.proofs.lemmas.List.{with_items_is}
use Rattle.jt_bits.specs.Words.{word_bits}
use Rattle.chip_registers.specs.Data.{lengths_of}
use Rattle.chip_registers.proofs.DataLaws.{selected_there, word_moved, words_lens}
use Rattle.chip_registers.proofs.data.DataRegisters.shift_word.Goals as goal

pub shift_word-requires-in-User-clause-fit : goal.shift_word-requires-in-User-clause-fit
shift_word-requires-in-User-clause-fit g c =
    selected_there (lengths_of g.B.Register.stage c.args.self.now) c.args.selected c.in-User.k c.args.self.now.users.items c.deref_mut.result.now c.requires.there c.in-User.is refl c.deref_mut.ensures.value

pub returns-in-Identification-clause-lengths : goal.returns-in-Identification-clause-lengths
returns-in-Identification-clause-lengths g c =
    ap (λ (k : ℕ). record (lengths_of g.B.Register.stage c.args.self.now) { identification = k })
    (ap (λ (l : List Bool). length l) c.shift_word.ensures.left ∙ word_moved c.args.self.now.identification c.args.bits c.args.n)

pub returns-in-Boundary-clause-lengths : goal.returns-in-Boundary-clause-lengths
returns-in-Boundary-clause-lengths g c =
    let held = g.B.Register.stage c.args.self.now.boundary in
    let after = drop c.args.n (held ++ word_bits c.args.bits c.args.n) in
    ap (λ (k : ℕ). record (lengths_of g.B.Register.stage c.args.self.now) { boundary = k })
    (ap (λ b. length (g.B.Register.stage b)) c.shift_word-in-Boundary.ensures.stage
    ∙ ap (λ (l : List Bool). length l) (g.met.B.Register.stage_of c.args.self.now.boundary after (g.B.Register.update_part c.args.self.now.boundary))
    ∙ word_moved held c.args.bits c.args.n)

pub returns-in-User-clause-lengths : goal.returns-in-User-clause-lengths
returns-in-User-clause-lengths g c =
    let kept : length c.shift_word-in-User.new.users ≡ length c.args.self.now.users.items = c.shift_word-in-User.auto.users ∙ ap length c.deref_mut.ensures.value in
    let stored = with_items_is c.args.self.now.users c.shift_word-in-User.new.users (kept ∙ sym c.args.self.now.users.ok.0) in
    ap (λ (l : List (ℕ × ℕ)). record (lengths_of g.B.Register.stage c.args.self.now) { users = l })
    (words_lens c.in-User.k c.args.self.now.users.items c.deref_mut.result.now c.shift_word-in-User.new.users _ c.args.bits c.args.n c.deref_mut.ensures.value c.shift_word-in-User.ensures.users stored)
