use Rattle.std.proofs.Common.{◌≡◌, ◌<◌, ◌*◌, ◌%◌, ◌+◌, ℕ, sym, ap, length, ◌∙◌, arith}
use Rattle.std.proofs.lemmas.List.{with_items_is}
use Rattle.jt_bits.proofs.PackedWords.{listed-length, ring_below}
use Rattle.jt_bits.proofs.Runs.{run_put_there}
use Rattle.jt_bits.proofs.Bits.put_run.Goals as goal

pub place-place-requires-clause-from_in : goal.place-place-requires-clause-from_in
place-place-requires-clause-from_in c =
    let long : c.self.inside.len ≡ length c.args.self.now = sym (listed-length c.self.inside.words.items c.self.inside.start c.self.inside.len) ∙ ap length c.self.view_is in
    omega (arith, c.requires, c.self.invariant.start (omega (arith, c.requires)), c.len.ensures, c.self.inside.words.ok.0)

pub place-place-requires-clause-i_in : goal.place-place-requires-clause-i_in
place-place-requires-clause-i_in c =
    let long : c.self.inside.len ≡ length c.args.self.now = sym (listed-length c.self.inside.words.items c.self.inside.start c.self.inside.len) ∙ ap length c.self.view_is in
    omega (arith, c.requires, c.self.invariant.enough, c.len.ensures, c.self.inside.words.ok.0)

pub put_run-requires-clause-inside : goal.put_run-requires-clause-inside
put_run-requires-clause-inside c =
    let long : c.self.inside.len ≡ length c.args.self.now = sym (listed-length c.self.inside.words.items c.self.inside.start c.self.inside.len) ∙ ap length c.self.view_is in
    let room = 64 * c.len.result in
    let start = c.self.invariant.start (omega (arith, c.requires)) in
    let below : (c.self.inside.start + c.args.at) % room < room = ring_below room c.self.inside.start c.args.at (omega (arith, c.len.ensures, c.self.inside.words.ok.0, start)) (omega (arith, c.requires, c.self.invariant.enough, c.len.ensures, c.self.inside.words.ok.0)) in
    omega (arith, below, c.place-place.ensures, c.deref_mut.ensures.len, c.len.ensures)

pub returns : goal.returns
returns c =
    let long : c.self.inside.len ≡ length c.args.self.now = sym (listed-length c.self.inside.words.items c.self.inside.start c.self.inside.len) ∙ ap length c.self.view_is in
    let lent = ap length c.deref_mut.ensures.value in
    let kept : length c.put_run.new.words ≡ length c.self.inside.words.items = c.put_run.auto.words ∙ lent in
    let many : c.len.result ≡ length c.self.inside.words.items = omega (arith, c.len.ensures, c.self.inside.words.ok.0) in
    run_put_there c.self.inside.words.items c.deref_mut.result.now c.put_run.new.words _ c.self.inside.start c.self.inside.len c.args.at c.place-place.result c.args.bits c.args.n c.args.self.now
    c.self.view_is c.self.invariant.enough (c.self.invariant.start (omega (arith, c.requires))) (omega (arith, c.requires)) c.deref_mut.ensures.value kept
    (with_items_is c.self.inside.words c.put_run.new.words (kept ∙ sym c.self.inside.words.ok.0))
    (c.place-place.ensures ∙ ap (λ (n : ℕ). (c.self.inside.start + c.args.at) % (64 * n)) many) c.put_run.ensures
