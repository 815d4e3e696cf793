use Rattle.std.proofs.Common.{rules, ◌≡◌, ◌++◌, ℕ, Bool, false, List, length, ap, ap₂, ◌∙◌}
use Rattle.std.specs.Prelude.{replicate}
use Rattle.std.proofs.lemmas.List.{length-replicate}
use Rattle.svf_programs.specs.Sizes.{program_of}
use Rattle.pin_nets.specs.Wired.{Net}
use Rattle.play_model.specs.DirectPlay.{opened_state}
use Rattle.play_coverage.specs.declared.contending.Contention.{Contention}
use Rattle.play_coverage.specs.Contending.{contending}
use Rattle.play_coverage.proofs.contending.contentions.Goals as goal

pub note_all-requires : goal.note_all-requires
note_all-requires c =
    let b = c.args.board.now in
    let count : c.nets.result ≡ length b.nets = c.nets.ensures ∙ ap (λ (ns : List Net). length ns) c.chain.ensures.nets in
    ap (λ (l : List Bool). length l) (c.deref_mut.ensures.value ∙ c.in_ok-marks.ensures.items_if_clones_equal (λ y h. search rules))
    ∙ length-replicate c.nets.result false ∙ count

pub returns : goal.returns
returns c =
    let b = c.args.board.now in
    let program = program_of c.args.program.now in
    let count : c.nets.result ≡ length b.nets = c.nets.ensures ∙ ap (λ (ns : List Net). length ns) c.chain.ensures.nets in
    let marks : c.deref_mut.result.now ≡ replicate (length b.nets) false =
    c.deref_mut.ensures.value ∙ c.in_ok-marks.ensures.items_if_clones_equal (λ y h. search rules) ∙ ap (λ (n : ℕ). replicate n false) count in
    c.in_ok-note_all.ensures
    ∙ ap₂ (λ (fs : List Contention) (l : List Bool). fs ++ contending program.steps (opened_state b) l) c.new-found.ensures.items marks
