use Rattle.std.proofs.Common.{◌≡◌, List, ℕ, refl, sym, ap, ◌∙◌}
use Rattle.byte_streams.proofs.Fronts.{WritesAll-is}
use Rattle.scan_vectors.specs.Failures.{found}
use Rattle.scan_vectors.specs.declared.failures.Mismatch.{Mismatch}
use Rattle.svf_programs.specs.Sizes.{program_of}
use Rattle.pin_nets.specs.Wired.{Net}
use Rattle.board_model.specs.Chain.{ChipState, members}
use Rattle.play_model.specs.DirectPlay.{opened_state}
use Rattle.play_explained.specs.declared.explaining.Explained.{Explained}
use Rattle.play_explained.specs.Explaining.{explained_on}
use Rattle.play_explained.specs.Kept.{Plate, plates}
use Rattle.play_explained.specs.Lines.{explained_lines, lines_known, lines_on_board}
use Rattle.play_explained.specs.Runs.{why_on}
use Rattle.play_explained.proofs.Reasons.{lines_same}
use Rattle.play_explained.proofs.runs.write_on_board.Goals as goal

pub returns : goal.returns
returns g c =
    let before = c.args.board.now in
    let program = program_of c.args.program.now in
    let at = opened_state before in
    let chain = c.chain.result.now in
    let es = c.as_slice.result.now in
    let listed : es ≡ explained_on c.args.kind program before = c.as_slice.ensures.value ∙ c.explain-reasons.ensures.explained in
    let nets : chain.nets ≡ at.nets = c.chain.ensures.nets ∙ c.explain-reasons.ensures.nets in
    let kept : plates (members chain.chips) ≡ plates at.members =
    ap (λ (chips : List ChipState). plates (members chips)) c.chain.ensures.chips ∙ c.explain-reasons.ensures.names in
    let same : (f : Mismatch) → lines_on_board chain.nets (members chain.chips) es f ≡ why_on c.args.kind program before f = λ f.
    ap (λ (l : List Explained). lines_on_board chain.nets (members chain.chips) l f) listed
    ∙ ap (λ (n : List Net). lines_on_board n (members chain.chips) (explained_on c.args.kind program before) f) nets
    ∙ lines_same at.nets (members chain.chips) at.members kept (explained_on c.args.kind program before) f in
    WritesAll-is (λ i. explained_lines c.args.text.now (λ f. same f i) c.args.kind c.args.ending (found c.args.failures.now)) c.write_explained.ensures
