use Rattle.std.proofs.Common.{◌≡◌, ◌<◌, ◌+◌, ◌++◌, ◌&&◌, Bool, true, false, not, List, length, map, take, drop, get_or, sym, ap, ap₂, ◌∙◌, arith}
use Rattle.std.proofs.lemmas.List.{length-map, length-set}
use Rattle.board_model.specs.Chain.{members}
use Rattle.board_model.specs.Nets.{is_opposed}
use Rattle.play_coverage.specs.declared.contending.Contention.{Contention}
use Rattle.play_coverage.specs.Contending.{contention, either, newly}
use Rattle.play_coverage.proofs.Marks.{marked, marked_found, passed, passed_found}
use Rattle.play_coverage.proofs.contending.note_opposed.Goals as goal
use Rattle.play_coverage.proofs.contending.note_opposed.Goals.{then-fresh+in_ok-push, else-fresh}

pub loop-net-preserved : goal.loop-net-preserved
loop-net-preserved c =
    let chain = c.args.chain.now in
    let opposed = is_opposed chain.nets (members chain.chips) in
    let now = map opposed chain.nets in
    let marks = c.loop-net.marks in
    let k = c.loop-net.net in
    let command = c.args.command in
    let i = c.loop-net.invariant in
    let inside : k < length marks = omega (arith, c.loop-net-test.true) in
    let there : k < length now = omega (arith, inside, i.long, length-map chain.nets opposed) in
    let fresh : c.is_fresh-fresh.result ≡ (get_or now k false && not (get_or marks k false)) = c.is_fresh-fresh.ensures in
    elim c.if-fresh.branch [
      | then-fresh+in_ok-push w ↦
          let is = sym fresh ∙ w.if-fresh.true in
          record {
            long = ap (λ (ms : List Bool). length ms) w.marks-is ∙ length-set marks k true ∙ i.long;
            marks = ap (λ (ms : List Bool). take (k + 1) ms ++ either (drop (k + 1) ms) (drop (k + 1) now)) w.marks-is
                ∙ marked marks now k inside there is ∙ i.marks;
            found = ap₂ (λ (fs : List Contention) (ms : List Bool). fs ++ map (contention command) (newly (k + 1) (drop (k + 1) ms) (drop (k + 1) now)))
                (ap (λ v. v.items) w.found-is ∙ w.in_ok-push.ensures.items) w.marks-is
                ∙ marked_found marks now k inside there command c.loop-net.found.items is ∙ i.found;
          }
      | else-fresh w ↦
          let is = sym fresh ∙ w.if-fresh.false in
          record {
            long = ap (λ (ms : List Bool). length ms) w.marks-is ∙ i.long;
            marks = ap (λ (ms : List Bool). take (k + 1) ms ++ either (drop (k + 1) ms) (drop (k + 1) now)) w.marks-is
                ∙ passed marks now k inside there is ∙ i.marks;
            found = ap₂ (λ (fs : List Contention) (ms : List Bool). fs ++ map (contention command) (newly (k + 1) (drop (k + 1) ms) (drop (k + 1) now)))
                (ap (λ v. v.items) w.found-is) w.marks-is
                ∙ passed_found marks now k inside there command c.loop-net.found.items is ∙ i.found;
          }
    ]
