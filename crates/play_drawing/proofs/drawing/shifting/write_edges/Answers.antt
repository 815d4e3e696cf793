use Rattle.std.proofs.Common.{◌≡◌, ◌+◌, ◌-◌, ◌/◌, ◌++◌, false, ℕ, List, [], refl, sym, ap, subst, ◌∙◌, append_assoc, arith}
use Rattle.std.proofs.lemmas.List.{append-nil}
use Rattle.std.specs.Io.KnownBytes.{Appends}
use Rattle.std.proofs.KnownBytes.{Appends-nil, Appends-trans}
use Rattle.byte_streams.proofs.Fronts.{WritesAll-done, WritesAll-is, WritesAll-lost}
use Rattle.jt_bits.specs.Packed.{has_bit}
use Rattle.output_words.specs.Digits.{digit}
use Rattle.play_drawing.specs.Drawing.{later}
use Rattle.wave_files.specs.Changes.{stamp}
use Rattle.play_drawing.specs.Shifted.{edges_text, high_text, low_text, low_time, next_time, tdo_bit}
use Rattle.wave_files.specs.Values.{byte_change, byte_line}
use Rattle.play_drawing.proofs.Shifted.{none_left, one_left}
use Rattle.play_drawing.proofs.drawing.shifting.write_edges.Goals as goal

pub loop-j-init : goal.loop-j-init
loop-j-init g c =
    let l = c.args.lines in
    let none : l.count ≡ l.count - 0 = omega arith in
    record {
      within = omega arith;
      none_lost = c.requires.none_lost;
      sent = [];
      split = ap (edges_text c.args.period c.args.time (has_bit l.tdi) (tdo_bit l.tdo l.count l.last) 0) none;
      writes = Appends-nil _;
    }

-- what this turn of the loop writes
pub loop-j-preserved : goal.loop-j-preserved
loop-j-preserved g c =
    let l = c.args.lines in
    let i = c.loop-j.invariant in
    let period = c.args.period in
    let j = c.loop-j.j in
    let high = c.loop-j.high in
    let tdi = has_bit l.tdi in
    let tdo = tdo_bit l.tdo l.count l.last in
    let bytes : List ℕ = high_text high ++ low_text (low_time period high) (tdi j) (tdi (j + 1)) (tdo j) (tdo (j + 1)) in
    let tdi_is : c.tdi_line-tdi.result.now ≡ byte_change 2 (digit (tdi j)) (digit (tdi (j + 1))) =
    c.tdi_line-tdi.ensures ∙ (λ k. byte_change 2 (digit (c.tdi.ensures k)) (digit (c.tdi-in-loop-j.ensures k))) in
    let tdo_is : c.tdo_line-tdo.result.now ≡ byte_change 3 (digit (tdo j)) (digit (tdo (j + 1))) =
    c.tdo_line-tdo.ensures ∙ (λ k. byte_change 3 (digit (c.tdo.ensures k)) (digit (c.tdo-in-loop-j.ensures k))) in
    record {
      within = omega (arith, c.loop-j-test.true);
      none_lost = c.in_ok-write_two_edges.ensures.ok.0 refl;
      sent = i.sent ++ bytes;
      split = i.split
          ∙ ap (λ (r : List ℕ). i.sent ++ r) (one_left period high tdi tdo j l.count (omega (arith, c.loop-j-test.true)))
          ∙ sym (append_assoc i.sent bytes (edges_text period (next_time period high) tdi tdo (j + 1) (l.count - (j + 1))))
          ∙ ap (λ (t : ℕ). (i.sent ++ bytes) ++ edges_text period t tdi tdo (j + 1) (l.count - (j + 1)))
          (sym (c.time_after-high.ensures ∙ ap (λ (t : ℕ). later t (period - period / 2)) c.time_after-low.ensures));
      writes = Appends-trans _ _ _ _ _ i.writes
          (subst (λ (r : List ℕ). Appends (g.W.Write.contents c.loop-j.out.inner) (g.W.Write.contents c.write_two_edges.new.out.inner) r)
          (λ k. high_text high ++ (stamp (c.time_after-low.ensures k) ++ (byte_line 0 (digit false) ++ (tdi_is k ++ tdo_is k))))
          c.in_ok-write_two_edges.ensures.whole);
    }

pub returns-in_err-write_two_edges : goal.returns-in_err-write_two_edges
returns-in_err-write_two_edges g c =
    let l = c.args.lines in
    let i = c.loop-j.invariant in
    let period = c.args.period in
    let j = c.loop-j.j in
    let high = c.loop-j.high in
    let tdi = has_bit l.tdi in
    let tdo = tdo_bit l.tdo l.count l.last in
    let bytes : List ℕ = high_text high ++ low_text (low_time period high) (tdi j) (tdi (j + 1)) (tdo j) (tdo (j + 1)) in
    let tdi_is : c.tdi_line-tdi.result.now ≡ byte_change 2 (digit (tdi j)) (digit (tdi (j + 1))) =
    c.tdi_line-tdi.ensures ∙ (λ k. byte_change 2 (digit (c.tdi.ensures k)) (digit (c.tdi-in-loop-j.ensures k))) in
    let tdo_is : c.tdo_line-tdo.result.now ≡ byte_change 3 (digit (tdo j)) (digit (tdo (j + 1))) =
    c.tdo_line-tdo.ensures ∙ (λ k. byte_change 3 (digit (c.tdo.ensures k)) (digit (c.tdo-in-loop-j.ensures k))) in
    let rest = edges_text period (next_time period high) tdi tdo (j + 1) (l.count - (j + 1)) in
    WritesAll-lost _ i.sent rest
    (i.split
    ∙ ap (λ (r : List ℕ). i.sent ++ r) (one_left period high tdi tdo j l.count (omega (arith, c.loop-j-test.true)))
    ∙ sym (append_assoc i.sent bytes rest))
    i.writes
    (WritesAll-is
    (λ k. high_text high ++ (stamp (c.time_after-low.ensures k) ++ (byte_line 0 (digit false) ++ (tdi_is k ++ tdo_is k))))
    c.in_err-write_two_edges.ensures)
    refl c.from_residual.ensures.0

pub returns : goal.returns
returns g c =
    let l = c.args.lines in
    let i = c.loop-j.invariant in
    let all = i.split
    ∙ ap (λ (r : List ℕ). i.sent ++ r)
    (none_left c.args.period c.loop-j.high (has_bit l.tdi) (tdo_bit l.tdo l.count l.last) c.loop-j.j l.count (omega (arith, c.loop-j-test.false)))
    ∙ append-nil i.sent in
    WritesAll-is (sym all) (WritesAll-done tt i.none_lost i.writes)
