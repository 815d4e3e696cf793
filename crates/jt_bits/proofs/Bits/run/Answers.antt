use Rattle.std.proofs.Common.{◌≡◌, ◌<◌, ◌*◌, ◌%◌, ◌+◌, ℕ, sym, ap, length, ◌∙◌, arith}
use Rattle.jt_bits.proofs.PackedWords.{listed-length, ring_below}
use Rattle.jt_bits.proofs.Runs.{run_there}
use Rattle.jt_bits.proofs.Bits.run.Goals as goal

pub place-place-requires-clause-from_in : goal.place-place-requires-clause-from_in
place-place-requires-clause-from_in c =
    let long : c.self.inside.len ≡ length c.args.self.now = sym (listed-length c.self.inside.words.items c.self.inside.start c.self.inside.len) ∙ ap length c.self.view_is in
    omega (arith, c.requires, c.self.invariant.start (omega (arith, c.requires)), c.len.ensures, c.self.inside.words.ok.0)

pub place-place-requires-clause-i_in : goal.place-place-requires-clause-i_in
place-place-requires-clause-i_in c =
    let long : c.self.inside.len ≡ length c.args.self.now = sym (listed-length c.self.inside.words.items c.self.inside.start c.self.inside.len) ∙ ap length c.self.view_is in
    omega (arith, c.requires, c.self.invariant.enough, c.len.ensures, c.self.inside.words.ok.0)

pub window-requires : goal.window-requires
window-requires c =
    let long : c.self.inside.len ≡ length c.args.self.now = sym (listed-length c.self.inside.words.items c.self.inside.start c.self.inside.len) ∙ ap length c.self.view_is in
    let room = 64 * c.len.result in
    let start = c.self.invariant.start (omega (arith, c.requires)) in
    let below : (c.self.inside.start + c.args.at) % room < room = ring_below room c.self.inside.start c.args.at (omega (arith, c.len.ensures, c.self.inside.words.ok.0, start)) (omega (arith, c.requires, c.self.invariant.enough, c.len.ensures, c.self.inside.words.ok.0)) in
    omega (arith, below, c.place-place.ensures, c.deref.ensures.len, c.len.ensures)

pub returns : goal.returns
returns c =
    let long : c.self.inside.len ≡ length c.args.self.now = sym (listed-length c.self.inside.words.items c.self.inside.start c.self.inside.len) ∙ ap length c.self.view_is in
    let many : c.len.result ≡ length c.self.inside.words.items = omega (arith, c.len.ensures, c.self.inside.words.ok.0) in
    run_there c.self.inside.words.items c.deref.result.now c.self.inside.start c.self.inside.len c.args.at c.place-place.result c.window.result c.args.self.now
    c.self.view_is c.self.invariant.enough (c.self.invariant.start (omega (arith, c.requires))) c.deref.ensures.value
    (c.place-place.ensures ∙ ap (λ (n : ℕ). (c.self.inside.start + c.args.at) % (64 * n)) many) c.window.ensures
