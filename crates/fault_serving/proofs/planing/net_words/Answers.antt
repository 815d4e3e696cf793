use Rattle.std.proofs.Common.{◌∷◌, [], ℕ, List, length, map, sym, ap, subst, ◌∙◌, arith}
use Rattle.std.proofs.lemmas.List.{length-append}
use Rattle.fault_serving.specs.declared.planing.NoteWords.{NoteWords}
use Rattle.fault_events.specs.Nets.{seen}
use Rattle.fault_serving.specs.Planes.{AreNetWords, AreWordsOf}
use Rattle.fault_serving.proofs.Putting.{more_words}
use Rattle.fault_serving.proofs.planing.net_words.Goals as goal

pub loop-net-preserved : goal.loop-net-preserved
loop-net-preserved c =
    let i = c.loop-net.invariant in
    let ns = map seen c.args.captures.now in
    let ws = c.loop-net.all.items in
    let w = c.words_of.result in
    record {
      count = ap (λ (l : List NoteWords). length l) c.in_ok-push.ensures.items ∙ omega (arith, i.count, length-append ws (w ∷ []));
      words = subst (AreNetWords ns) (sym c.in_ok-push.ensures.items)
          (more_words ns ws w i.words (subst (λ (k : ℕ). AreWordsOf k ns w) (sym i.count) c.words_of.ensures));
    }
