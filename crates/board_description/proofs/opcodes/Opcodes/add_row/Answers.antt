use Rattle.std.proofs.Common.{◌++◌, ◌∷◌, [], List, map, take, subst, ◌∙◌, arith}
use Rattle.std.proofs.lemmas.List.{take_all}
use Rattle.bsdl_device.specs.Device.{Name, Pattern}
use Rattle.board_description.specs.Opcodes.{Holds}
use Rattle.board_description.proofs.CoverLaws.{one_of_row}
use Rattle.board_description.proofs.opcodes.Opcodes.add_row.Goals as goal

pub loop-pattern-preserved : goal.loop-pattern-preserved
loop-pattern-preserved c names patterns h =
    let i = c.loop-pattern.pattern-index in
    let items = c.patterns-pattern-items.result.now in
    let row = c.args.row.now.name in
    let before = c.loop-pattern.invariant names patterns h in
    one_of_row names patterns row items i c.pattern-item.result c.add.new.self (omega (arith, c.loop-pattern-test.true))
    (subst (λ (p : Pattern). Holds ((names ++ map (λ (p : Pattern). row) (take i items)) ++ row ∷ []) ((patterns ++ take i items) ++ p ∷ []) c.add.new.self)
    (c.bits.ensures ∙ c.pattern-item.is)
    (subst (λ (n : Name). Holds ((names ++ map (λ (p : Pattern). row) (take i items)) ++ n ∷ []) ((patterns ++ take i items) ++ c.bits.result.now ∷ []) c.add.new.self)
    c.name.ensures
    (c.in_ok-add.ensures (names ++ map (λ (p : Pattern). row) (take i items)) (patterns ++ take i items) before)))

pub returns : goal.returns
returns c names patterns h =
    let i = c.loop-pattern.pattern-index in
    let items = c.patterns-pattern-items.result.now in
    let row = c.args.row.now.name in
    subst (λ (l : List Pattern). Holds (names ++ map (λ (p : Pattern). row) l) (patterns ++ l) c.loop-pattern.self)
    (take_all i items (omega (arith, c.loop-pattern-test.false)) ∙ c.patterns-pattern-items.ensures) (c.loop-pattern.invariant names patterns h)
