use Rattle.std.proofs.Common.{ℕ, List, ◌++◌, refl, ap, ◌∙◌, codes}
use Rattle.byte_streams.proofs.Fronts.{WritesAll-is, WritesAll-stopped, WritesAll-then}
use Rattle.bsdl_device.specs.Device.{Device}
use Rattle.board_reasons.specs.Lines.{holder_words}
use Rattle.board_reasons.proofs.writing.write_of_chip.Goals as goal

pub returns-in_err-put_pieces : goal.returns-in_err-put_pieces
returns-in_err-put_pieces g c =
    let nets = c.args.chain.now.nets in
    let rest = holder_words nets c.args.chip.now.chip.device c.args.holder ++ codes "\n" in
    WritesAll-is (ap (λ (n : List ℕ). (codes "from " ++ (n ++ codes " ")) ++ rest) (c.as_bytes.ensures.value ∙ c.name.ensures))
    (WritesAll-stopped rest c.in_err-put_pieces.ensures.writes refl c.from_residual.ensures.0)

pub returns-in_err-write_holder : goal.returns-in_err-write_holder
returns-in_err-write_holder g c =
    let nets = c.args.chain.now.nets in
    let holder = c.args.holder in
    WritesAll-is
    (ap (λ (d : Device). (codes "from " ++ (c.as_bytes.result.now ++ codes " ")) ++ (holder_words nets d holder ++ codes "\n")) c.device.ensures
    ∙ ap (λ (n : List ℕ). (codes "from " ++ (n ++ codes " ")) ++ (holder_words nets c.args.chip.now.chip.device holder ++ codes "\n")) (c.as_bytes.ensures.value ∙ c.name.ensures))
    (WritesAll-then c.in_ok-put_pieces.ensures.writes refl (WritesAll-stopped (codes "\n") c.in_err-write_holder.ensures refl c.from_residual-in_err-write_holder.ensures.0))

pub returns : goal.returns
returns g c =
    let nets = c.args.chain.now.nets in
    let holder = c.args.holder in
    WritesAll-is
    (ap (λ (d : Device). (codes "from " ++ (c.as_bytes.result.now ++ codes " ")) ++ (holder_words nets d holder ++ codes "\n")) c.device.ensures
    ∙ ap (λ (n : List ℕ). (codes "from " ++ (n ++ codes " ")) ++ (holder_words nets c.args.chip.now.chip.device holder ++ codes "\n")) (c.as_bytes.ensures.value ∙ c.name.ensures))
    (WritesAll-then c.in_ok-put_pieces.ensures.writes refl (WritesAll-then c.in_ok-write_holder.ensures refl c.put_all.ensures.writes))
