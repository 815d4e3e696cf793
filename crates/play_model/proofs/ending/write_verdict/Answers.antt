use Rattle.std.proofs.Common.{◌≡◌, [], ◌∷◌, sym, subst, arith}
use Rattle.std.specs.Prelude.{codes, decimal}
use Rattle.std.proofs.lemmas.Grind.{common_steps}
use Rattle.byte_streams.specs.Writes.{WritesAll}
use Rattle.byte_streams.proofs.Fronts.{WritesAll-is}
use Rattle.play_model.specs.declared.ending.Ending.{Ending}
use Rattle.output_words.specs.Texts.{texts}
use Rattle.play_model.specs.Endings.{verdict_line}
use Rattle.play_model.proofs.ending.write_verdict.Goals as goal

pub returns-in-Fail : goal.returns-in-Fail
returns-in-Fail g c =
    subst (λ (e : Ending). WritesAll g.W.Write.contents c.args.out.now c.put_pieces.new.out (verdict_line e) c.put_pieces.result) (sym c.in-Fail.is)
    (WritesAll-is (grind (arith, common_steps)) c.put_pieces.ensures.writes)

pub returns-in-Lost : goal.returns-in-Lost
returns-in-Lost g c =
    subst (λ (e : Ending). WritesAll g.W.Write.contents c.args.out.now c.put_pieces-in-Lost.new.out (verdict_line e) c.put_pieces-in-Lost.result) (sym c.in-Lost.is)
    (WritesAll-is (grind (arith, common_steps)) c.put_pieces-in-Lost.ensures.writes)

pub returns-in-BadAnswer : goal.returns-in-BadAnswer
returns-in-BadAnswer g c =
    subst (λ (e : Ending). WritesAll g.W.Write.contents c.args.out.now c.put_pieces-in-BadAnswer.new.out (verdict_line e) c.put_pieces-in-BadAnswer.result)
    (sym c.in-BadAnswer.is)
    (let command : c.as_bytes-in-BadAnswer.result.now ≡ decimal c.in-BadAnswer.command = grind (arith, common_steps) in
    WritesAll-is (λ i. texts (codes "bad answer " ∷ c.hex_byte.ensures i ∷ codes " command " ∷ command i ∷ codes "\n" ∷ [])) c.put_pieces-in-BadAnswer.ensures.writes)
