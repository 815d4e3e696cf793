use Rattle.std.proofs.Common.{◌≡◌, ℕ, List, ◌+◌, ◌++◌, ◌∷◌, [], map, take, sym, ap, ◌∙◌}
use Rattle.std.specs.BTreeSet.{contains_by}
use Rattle.std.proofs.lemmas.List.{map_more}
use denote.Ref.{Bor}
use Rattle.name_keys.specs.Keys.{key_order}
use Rattle.bsdl_text.specs.declared.names.Word as declared_word
use Rattle.bsdl_rules.specs.NamingView.{named}
use Rattle.bsdl_rules.proofs.DistinctLaws.{distinct_more}
use Rattle.bsdl_rules.proofs.naming.are_distinct.Goals as goal

pub loop-name-preserved : goal.loop-name-preserved
loop-name-preserved c = λ quote.
    let names = c.args.names.now in
    let i = c.loop-name.name-index in
    let item = c.name-item.result in
    let at = named quote in
    let all : map at (take (i + 1) names) ≡ map at (take i names) ++ at item ∷ [] =
    map_more at names i item c.loop-name-test.true ∙ ap (λ (n : Bor declared_word.Word). map at (take i names) ++ at n ∷ []) (sym c.name-item.is) in
    distinct_more (λ (q : List ℕ). contains_by (key_order q) c.loop-name.known) (λ (q : List ℕ). contains_by (key_order q) c.add_key.new.known) (map at (take i names)) (map at (take (i + 1) names)) (at item) c.in_ok-add_key.field-0
    all (c.loop-name.invariant quote).0 (c.loop-name.invariant quote).1 c.if-not-branch.false c.in_ok-add_key.ensures.new c.in_ok-add_key.ensures.known
