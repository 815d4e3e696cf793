use Rattle.std.proofs.Common.{◌≡◌, ◌++◌, ℕ, List, length, map, codes, sym, ap, ◌∙◌}
use Rattle.std.proofs.lemmas.List.{length-map}
use Rattle.std.specs.Fmt.{decimal}
use Rattle.board_plan.specs.View.{member as planned_member}
use Rattle.board_description.specs.Described.{boundary_length, instruction_length, total}
use Rattle.board_description.proofs.TextLaws.{OnOk-is}
use Rattle.board_description.proofs.nets.put_chain.Goals as goal

pub returns : goal.returns
returns c =
    let ms = map planned_member c.args.devices.now in
    let text = c.args.text.now.items in
    let one : c.as_bytes.result.now ≡ decimal (length ms) = c.as_bytes.ensures.value ∙ c.format.ensures.text ∙ ap decimal (sym (length-map c.args.devices.now planned_member)) in
    let two : c.as_bytes-2.result.now ≡ decimal (total instruction_length ms) = c.as_bytes-2.ensures.value ∙ c.format-2.ensures.text ∙ ap decimal c.instruction_bits.ensures in
    let three : c.as_bytes-3.result.now ≡ decimal (total boundary_length ms) = c.as_bytes-3.ensures.value ∙ c.format-3.ensures.text ∙ ap decimal c.boundary_bits.ensures in
    OnOk-is c.put.new.text.items _ _ c.put.result c.put.ensures
    (ap (λ (n : List ℕ). text ++ (codes "chain " ++ (n ++ (codes " devices, " ++ (c.as_bytes-2.result.now ++ (codes " instruction bits, " ++ (c.as_bytes-3.result.now ++ codes " boundary bits\n"))))))) one
    ∙ ap (λ (n : List ℕ). text ++ (codes "chain " ++ (decimal (length ms) ++ (codes " devices, " ++ (n ++ (codes " instruction bits, " ++ (c.as_bytes-3.result.now ++ codes " boundary bits\n"))))))) two
    ∙ ap (λ (n : List ℕ). text ++ (codes "chain " ++ (decimal (length ms) ++ (codes " devices, " ++ (decimal (total instruction_length ms) ++ (codes " instruction bits, " ++ (n ++ codes " boundary bits\n"))))))) three)
