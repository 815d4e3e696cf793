use Rattle.std.proofs.Common.{◌≡◌, ◌⊎◌, ⊎_elim, ℕ, get_or, sym, ap, subst, ◌∙◌, arith}
use Rattle.std.proofs.lemmas.Bool.{cases_lt}
use Rattle.std.proofs.lemmas.List.{length-map}
use Rattle.fault_events.specs.declared.notes.Note.{Note}
use Rattle.fault_events.specs.declared.nets.NetCapture.{NetCapture}
use Rattle.fault_events.specs.Captures.{Noted}
use Rattle.fault_events.specs.Nets.{note_at, seen}
use Rattle.fault_serving.specs.Planes.{IsNoteAt}
use Rattle.fault_serving.proofs.Putting.{among_seen, nothing_at, seen_there}
use Rattle.fault_serving.proofs.planing.words_of.Goals as goal

pub loop-k-init : goal.loop-k-init
loop-k-init c = record { noted = λ j n h is. absurd (omega (arith, h)); few = omega arith; free = λ j low h. nothing_at j }

pub with_note-words-requires-clause-free : goal.with_note-words-requires-clause-free
with_note-words-requires-clause-free c =
    c.loop-k.invariant.free c.loop-k.k (omega arith) (omega (arith, c.loop-k-test.true, c.min-k-end.ensures))

pub loop-k-preserved : goal.loop-k-preserved
loop-k-preserved c =
    let i = c.loop-k.invariant in
    let k = c.loop-k.k in
    let cs = c.args.captures.now in
    let net = c.args.net in
    let new = c.with_note-words.result in
    let one : NetCapture = c.index-captures-k.result in
    let note : c.note_at.result ≡ note_at net (get_or cs k one).nets.items =
    c.note_at.ensures ∙ ap (note_at net) c.deref.ensures.value in
    record {
      noted = λ j n h is. ⊎_elim
          (λ before. c.with_note-words.ensures.others j (note_at net n.notes) (omega (arith, before, c.loop-k-test.true, c.min-k-end.ensures)) (omega (arith, before)) (i.noted j n before is))
          (λ past.
          let at : k ≡ j = omega (arith, past, h) in
          let there : n ≡ seen (get_or cs j one) = seen_there cs j n one (among_seen cs j n is) is in
          subst (λ (x : ℕ). IsNoteAt x (note_at net n.notes) new) at
          (subst (λ (x : Note). IsNoteAt k x new)
          (note ∙ ap (λ (x : ℕ). note_at net (get_or cs x one).nets.items) at ∙ ap (λ (x : Noted). note_at net x.notes) (sym there))
          c.with_note-words.ensures.here))
          (cases_lt j k);
      few = omega (arith, c.loop-k-test.true, c.min-k-end.ensures);
      free = λ j low h. c.with_note-words.ensures.others j _ h (omega (arith, low)) (i.free j (omega (arith, low)) h);
    }

pub returns : goal.returns
returns c = record {
  noted = λ k n h is.
      c.loop-k.invariant.noted k n (omega (arith, h, c.loop-k-test.false, c.min-k-end.ensures, among_seen c.args.captures.now k n is)) is;
  behind = λ k h past.
      c.loop-k.invariant.free k (omega (arith, past, length-map c.args.captures.now seen, c.loop-k.invariant.few)) h;
}
