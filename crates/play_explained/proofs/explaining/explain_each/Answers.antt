use Rattle.std.proofs.Common.{◌≡◌, ◌+◌, ◌++◌, ◌∷◌, [], List, length, map, take, sym, ap, ◌∙◌, append_assoc, arith, length-take}
use Rattle.std.proofs.lemmas.List.{take_all}
use Rattle.scan_vectors.specs.Held.{bits}
use Rattle.scan_vectors.specs.declared.failures.Mismatch.{Mismatch}
use Rattle.board_model.specs.Chain.{members}
use Rattle.play_explained.specs.declared.explaining.Explained.{Explained}
use Rattle.play_explained.specs.Explaining.{explained_of}
use Rattle.play_explained.proofs.Explanations.{keep_none, map_more, take_again}
use Rattle.play_explained.proofs.explaining.explain_each.Goals as goal

pub loop-failure-init : goal.loop-failure-init
loop-failure-init c = record {
  told = sym (keep_none c.args.most c.args.list.now.items c.requires.listed);
  listed = c.requires.listed;
}

pub loop-failure-preserved : goal.loop-failure-preserved
loop-failure-preserved c =
    let chain = c.args.chain.now in
    let e = explained_of chain.nets (members chain.chips) c.args.column (bits c.args.vector.now) in
    let fs = c.args.failures.now in
    let i = c.loop-failure.failure-index in
    let old = c.args.list.now.items in
    let most = c.args.most in
    let x = c.explain_bit-explained.result in
    let all = old ++ map e (take (i + 1) fs) in
    let told : c.keep.new.list.items ≡ take most all = c.keep.ensures
    ∙ ap (λ (l : List Explained). take most (l ++ x ∷ [])) c.loop-failure.invariant.told
    ∙ take_again most (old ++ map e (take i fs)) (x ∷ [])
    ∙ ap (take most) (append_assoc old (map e (take i fs)) (x ∷ []))
    ∙ ap (λ (y : Explained). take most (old ++ (map e (take i fs) ++ y ∷ []))) c.explain_bit-explained.ensures
    ∙ ap (λ (l : List Explained). take most (old ++ l)) (map_more e fs i _ (omega (arith, c.loop-failure-test.true))) in
    record {
      told = told;
      listed = omega (arith, ap (λ (l : List Explained). length l) told, length-take most all);
    }

pub returns : goal.returns
returns c =
    let chain = c.args.chain.now in
    let e = explained_of chain.nets (members chain.chips) c.args.column (bits c.args.vector.now) in
    c.loop-failure.invariant.told
    ∙ ap (λ (fs : List Mismatch). take c.args.most (c.args.list.now.items ++ map e fs))
    (take_all c.loop-failure.failure-index c.args.failures.now (omega (arith, c.loop-failure-test.false)))
