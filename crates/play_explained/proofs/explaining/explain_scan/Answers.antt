use Rattle.std.proofs.Common.{◌≡◌, ◌++◌, List, map, take, sym, ap, ◌∙◌, arith}
use Rattle.jt_tap.specs.declared.State.{State}
use Rattle.scan_vectors.specs.Held.{bits}
use Rattle.scan_vectors.specs.Failures.{Found, differing, most_listed, with_found}
use Rattle.scan_vectors.specs.Vector.{tdis}
use Rattle.scan_vectors.specs.declared.failures.Mismatch.{Mismatch}
use Rattle.pin_nets.specs.Wired.{Net}
use Rattle.board_model.specs.Cells.{Member}
use Rattle.board_model.specs.Chain.{BoardState, ChipState, members}
use Rattle.board_model.specs.Whole.{AtRest, capture, out, settle}
use Rattle.play_explained.specs.declared.explaining.Explained.{Explained}
use Rattle.play_explained.specs.Explaining.{explained_of}
use Rattle.play_explained.proofs.Explanations.{kept_within, map_taken}
use Rattle.play_explained.specs.Kept.{plates}
use Rattle.play_explained.proofs.Kept.{alike_kept}
use Rattle.play_explained.proofs.Plates.{capture_keeps, members_resting, settle_keeps}
use Rattle.play_explained.proofs.explaining.explain_scan.Goals as goal

pub returns-clause-board : goal.returns-clause-board
returns-clause-board c =
    λ m is. c.end_scan.ensures _ (c.shift.ensures _ (c.capture.ensures _ (c.settle.ensures m is)))

pub returns-clause-explained : goal.returns-clause-explained
returns-clause-explained c = λ m is.
    let captured : AtRest = capture c.args.column (settle m) in
    let there = c.capture.ensures _ (c.settle.ensures m is) in
    let v = bits c.args.vector.now in
    let d = differing c.args.command v (out c.args.column (tdis v) captured) in
    let most = c.args.most in
    let old = c.args.list.now.items in
    let nets : c.chain.result.now.nets ≡ captured.nets = c.chain.ensures.nets ∙ ap (λ (b : BoardState). b.nets) there in
    let ms : members c.chain.result.now.chips ≡ captured.members =
    ap (λ (chips : List ChipState). members chips) c.chain.ensures.chips ∙ ap (λ (b : BoardState). members b.chips) there
    ∙ members_resting captured.place captured.members in
    let e = explained_of captured.nets captured.members c.args.column v in
    let noted : c.as_slice-failed.result.now ≡ take most_listed d =
    c.as_slice-failed.ensures.value
    ∙ ap (λ (f : Found). f.list) (c.note.ensures captured there ∙ ap (with_found d) c.new-failures.ensures) in
    c.explain_each.ensures
    ∙ ap (λ (l : List Mismatch). take most (old ++ map (explained_of c.chain.result.now.nets (members c.chain.result.now.chips) c.args.column v) l)) noted
    ∙ ap (λ (n : List Net). take most (old ++ map (explained_of n (members c.chain.result.now.chips) c.args.column v) (take most_listed d))) nets
    ∙ ap (λ (l : List Member). take most (old ++ map (explained_of captured.nets l c.args.column v) (take most_listed d))) ms
    ∙ ap (λ (l : List Explained). take most (old ++ l)) (map_taken e most_listed d)
    ∙ kept_within most most_listed old (map e d) c.requires.most

pub explain_each-requires-clause-alike : goal.explain_each-requires-clause-alike
explain_each-requires-clause-alike c =
    let m = c.requires.rests.state in
    let captured : AtRest = capture c.args.column (settle m) in
    let there = c.capture.ensures _ (c.settle.ensures m c.requires.rests.is) in
    let before : members c.args.board.now.chips ≡ m.members =
    ap (λ (b : BoardState). members b.chips) c.requires.rests.is ∙ members_resting m.place m.members in
    let now : members c.chain.result.now.chips ≡ captured.members =
    ap (λ (chips : List ChipState). members chips) c.chain.ensures.chips ∙ ap (λ (b : BoardState). members b.chips) there
    ∙ members_resting captured.place captured.members in
    alike_kept c.args.devices.now (members c.args.board.now.chips) (members c.chain.result.now.chips)
    (ap plates now ∙ (capture_keeps c.args.column (settle m)).kept ∙ (settle_keeps m).kept ∙ sym (ap plates before)) c.requires.alike

-- ---- the board is at rest after each part of a scan

pub note-requires-clause-rests : goal.note-requires-clause-rests
note-requires-clause-rests c =
    record { state = _; is = c.capture.ensures _ (c.settle.ensures c.requires.rests.state c.requires.rests.is) }

pub note-requires-clause-room : goal.note-requires-clause-room
note-requires-clause-room c = omega (arith, c.requires.within, ap (λ (f : Found). f.total) c.new-failures.ensures)

pub shift-requires : goal.shift-requires
shift-requires c = record { state = _; is = c.capture.ensures _ (c.settle.ensures c.requires.rests.state c.requires.rests.is) }

pub end_scan-requires : goal.end_scan-requires
end_scan-requires c = record {
  state = _;
  is = c.shift.ensures _ (c.capture.ensures _ (c.settle.ensures c.requires.rests.state c.requires.rests.is));
}
