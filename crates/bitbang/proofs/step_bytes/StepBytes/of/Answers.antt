use Rattle.std.proofs.Common.{Bool, ℕ, List, ◌++◌, not, nat_eq, map, length, sym, ap, ◌∙◌}
use Rattle.std.proofs.lemmas.List.{map-append}
use Rattle.bitbang_protocol.specs.declared.Cycle.{Cycle}
use Rattle.bitbang_protocol.specs.Protocol.{encode}
use Rattle.bitbang_protocol.specs.Cycles.{closed_messages}
use Rattle.tck_cycles.specs.Seen as seen
use Rattle.tck_cycles.specs.Cycles.{cycles}
use Rattle.bitbang.specs.StepMessages.{line_message}
use Rattle.bitbang.specs.Left.{bytes_left}
use Rattle.bitbang.proofs.CycleBytes.{closed_bytes}
use Rattle.bitbang.proofs.step_bytes.StepBytes.of.Goals as goal

pub returns-clause-bytes : goal.returns-clause-bytes
returns-clause-bytes c =
    let step = seen.step c.args.step.now.what in
    let cs = cycles c.args.place step in
    let all = c.of-source.ensures.left ∙ c.of-source.ensures.whole in
    let count = c.has_cycles-closes.ensures ∙ ap (λ (xs : List Cycle). not (nat_eq (length xs) 0)) all in
    ap (λ (xs : List Cycle). bytes_left c.line_byte.result c.over.result xs c.has_cycles-closes.result) all
    ∙ ap (λ (b : Bool). bytes_left c.line_byte.result c.over.result cs b) count
    ∙ rw (c.line_byte.ensures, c.over.ensures)
    (ap (λ (bs : List ℕ). map encode (line_message step) ++ bs) (closed_bytes cs) ∙ sym (map-append encode (line_message step) (closed_messages cs)))
