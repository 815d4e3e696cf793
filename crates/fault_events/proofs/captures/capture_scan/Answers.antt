use Rattle.std.proofs.Common.{◌≡◌, ℕ, List, [], ◌++◌, map, refl, sym, ap, ◌∙◌}
use Rattle.std.proofs.lemmas.List.{append-nil}
use Rattle.jt_tap.specs.declared.Column.{Column}
use Rattle.jt_tap.specs.declared.Column.TheVariants.{Dr, Ir}
use Rattle.scan_vectors.specs.Held.{bits}
use Rattle.scan_vectors.specs.Vector.{VectorBit}
use Rattle.board_model.specs.Whole.{AtRest, capture}
use Rattle.fault_events.specs.Captures.{noted_at, seen}
use Rattle.fault_events.specs.Events.{Event, events_capturing}
use Rattle.fault_events.proofs.captures.capture_scan.Goals as goal
use Rattle.fault_events.proofs.captures.capture_scan.Goals.{in-Dr+in_ok-note_capture, in_default}

pub shift-requires : goal.shift-requires
shift-requires c =
    let m = c.requires.rests.state in
    record { state = capture c.args.column m; is = c.capture.ensures m c.requires.rests.is }

none-captured : (command : ℕ) (column : Column) (v : List VectorBit) (m : AtRest) → (column ≡ Dr → ⊥) → [] ≡ events_capturing command column v m
none-captured command Dr v m not = absurd (not refl)
none-captured command Ir v m not = refl

pub returns : goal.returns
returns c = λ m is.
    let old = map seen c.args.list.now.items in
    let at = noted_at c.args.at.numbers.now.pins.items in
    let v = bits c.args.vector.now in
    let rests = c.shift.ensures (capture c.args.column m) (c.capture.ensures m is) in
    elim c.match-column.branch [
      | in-Dr+in_ok-note_capture w ↦ record {
        rests = rests;
        noted = ap (λ l. map seen l.items) w.list-is ∙ w.in_ok-note_capture.ensures m is
            ∙ ap (λ (column : Column). old ++ map at (events_capturing c.args.at.command column v m)) (sym w.in-Dr.is);
      }
      | in_default w ↦ record {
        rests = rests;
        noted = ap (λ l. map seen l.items) w.list-is ∙ sym (append-nil old)
            ∙ ap (λ (es : List Event). old ++ map at es) (none-captured c.args.at.command c.args.column v m w.in_default.not-Dr);
      }
    ]
