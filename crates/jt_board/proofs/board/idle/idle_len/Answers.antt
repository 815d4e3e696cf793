use Rattle.std.proofs.Common.{◌≡◌, ◌+◌, ◌-◌, ◌≤◌, ℕ, true, List, length, take, drop, sym, ap, ◌∙◌, arith, length-drop}
use Rattle.std.specs.List.{list_all, prefix_len}
use Rattle.std.proofs.lemmas.List.{drop-drop}
use Rattle.jt_board.specs.Idling.{is_idle_byte}
use Rattle.jt_board.proofs.IdlePieces.{pass}
use Rattle.jt_board.proofs.board.idle.idle_len.Goals as goal

pub loop-at-preserved : goal.loop-at-preserved
loop-at-preserved c =
    let at = c.loop-at.at in
    let bytes = c.args.bytes.now in
    let rest = drop at bytes in
    let i = c.loop-at.invariant in
    let piece : 64 ≡ at + 64 - at = omega arith in
    let all : list_all is_idle_byte (take 64 rest) ≡ true =
    ap (λ (n : ℕ). list_all is_idle_byte (take n rest)) piece ∙ sym c.are_idle.ensures ∙ c.if-are_idle.true in
    let room : 64 ≤ length rest = omega (arith, length-drop at bytes, c.loop-at-test.true) in
    let behind : prefix_len is_idle_byte rest ≡ 64 + prefix_len is_idle_byte (drop (at + 64) bytes) =
    pass is_idle_byte 64 rest all room ∙ ap (λ (l : List ℕ). 64 + prefix_len is_idle_byte l) (drop-drop 64 at bytes) in
    record { within = omega (arith, i.within, c.loop-at-test.true); passed = omega (arith, i.passed, behind) }
