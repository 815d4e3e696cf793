-- The first captures of a play, kept and by words.
use Rattle.std.proofs.Common.{◌≡◌, ◌≤◌, Bool, true, false, List, [], ◌∷◌, ◌++◌, length, map, append_assoc, if◌then◌else◌, refl, sym, ap, ◌∙◌}
use Rattle.std.proofs.lemmas.List.{append-nil}
use Rattle.svf_programs.specs.Left.{left}
use Rattle.svf_programs.specs.Steps.{Program}
use Rattle.pin_nets.specs.Wired.{Net}
use Rattle.board_plan.specs.Planned.{Wiring}
use Rattle.fault_events.specs.declared.nets.NetCapture.{NetCapture}
use Rattle.fault_events.specs.declared.captures.Capture.{Capture}
use Rattle.fault_events.specs.declared.captures.Captures.{Captures}
use Rattle.fault_events.specs.Captures as events
use Rattle.fault_events.specs.Captures.{AreLeft, IsUnderWay, Noted, captures, noted_by}
use Rattle.fault_events.specs.Nets.{seen, with_nets_noted}
use Rattle.fault_serving.specs.declared.planing.NoteWords.{NoteWords}
use Rattle.fault_serving.specs.Planes.{AreBlocksOf, AreNetWords}
use Rattle.fault_serving.specs.Serving.{AreFirst}

pub blocks_more : (nets : List Net) (bs : List (List NoteWords)) (ns more : List Noted) (b : List NoteWords) → AreBlocksOf nets ns bs → length more ≤ 64
    → AreNetWords (map (with_nets_noted nets) more) b → AreBlocksOf nets (ns ++ more) (bs ++ b ∷ [])
blocks_more nets [] ns more b are few words = (more, [], ap (λ (l : List Noted). l ++ more) are ∙ sym (append-nil more), few, words, refl)
blocks_more nets (x ∷ bs) ns more b are few words = (
  are.0,
  are.1 ++ more,
  ap (λ (l : List Noted). l ++ more) are.2 ∙ append_assoc are.0 are.1 more,
  are.3,
  are.4,
  blocks_more nets bs are.1 more b are.5 few words,
)

-- those of the first captures, or none
pub first_if : (program : Program) (w : Wiring) (b : Bool) (cs : List NetCapture) (first rest : List Noted) → captures program w ≡ first ++ rest
    → map seen cs ≡ map (with_nets_noted w.nets) first → AreFirst program w (if b then cs else [])
first_if program w true cs first rest are nets = record { first = first; rest = rest; are = are; nets = nets }
first_if program w false cs first rest are nets = record { first = []; rest = captures program w; are = refl; nets = refl }

-- ---- what is noted of nets

pub one_by_one : (f : Noted → Noted) (cs : List Capture) → map (λ x. f (events.seen x)) cs ≡ map f (map events.seen cs)
one_by_one f [] = refl
one_by_one f (x ∷ cs) = ap (λ (l : List Noted). f (events.seen x) ∷ l) (one_by_one f cs)

pub none_mapped : {X Y : Type 0} (f : X → Y) (xs : List X) → map f xs ≡ [] → xs ≡ []
none_mapped f [] e = refl
none_mapped f (x ∷ xs) e = absurd (cc)

pub under_way : (c : Captures) (way : IsUnderWay c) → AreLeft (noted_by c.numbers.pins.items (left c.steps) way.state) c.numbers.pins.items c
under_way c way = record { way = way; numbered = refl; noted = refl }
