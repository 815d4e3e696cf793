-- How a program ends by a block of captures; and the notes of one net, by where its pins begin.
use Rattle.std.proofs.Common.{◌≡◌, ◌≤◌, ◌+◌, ℕ, zero, suc, List, [], ◌∷◌, ◌++◌, length, map, take, drop, get_or, slice_get, Some, refl, sym, ap, ◌∙◌, arith, drop-drop}
use Rattle.pin_nets.specs.Wired.{Net}
use Rattle.board_faults.specs.declared.kinds.Way.{Way}
use Rattle.board_faults.specs.Together.{first_of, second_of}
use Rattle.fault_events.specs.declared.differing.Pulls.{Pulls}
use Rattle.fault_events.specs.declared.nets.NetCapture.{NetCapture}
use Rattle.fault_events.specs.declared.notes.Note.{Note}
use Rattle.fault_events.specs.declared.ways.Block.{Block}
use Rattle.fault_events.specs.Blocks.{IsBlock, noted_in, starts_from}
use Rattle.fault_events.specs.Endings.{all_of, all_with, both, ending_noted, notes_of}
use Rattle.fault_events.specs.Marks.{nothing_noted}
use Rattle.fault_events.specs.Nets as of_nets
use Rattle.fault_events.specs.Nets.{ending_by_nets}
use Rattle.fault_events.specs.Pulls.{pulls_of}
use Rattle.fault_events.proofs.ByNets.{IsOfNets, by_nets}

-- ---- notes together

pub with_nothing : (ns : List Note) → all_with ns nothing_noted ≡ all_of ns
with_nothing [] = refl
with_nothing (n ∷ ns) = ap (both n) (with_nothing ns)

pub all_split : (xs ys : List Note) → all_of (xs ++ ys) ≡ all_with xs (all_of ys)
all_split [] ys = refl
all_split (x ∷ xs) ys = ap (both x) (all_split xs ys)

pub with_more : (xs : List Note) (y rest : Note) → all_with (xs ++ y ∷ []) rest ≡ all_with xs (both y rest)
with_more [] y rest = refl
with_more (x ∷ xs) y rest = ap (both x) (with_more xs y rest)

-- ---- the notes of a net

pub starts_long : (at : ℕ) (nets : List Net) → length (starts_from at nets) ≡ length nets
starts_long at [] = refl
starts_long at (n ∷ nets) = ap (λ (k : ℕ). suc k) (starts_long (at + length n.pins) nets)

pub notes_there : (at : ℕ) (nets : List Net) (k : ℕ) (n : Net) (all notes : List Note) → slice_get nets k ≡ Some n → notes ≡ drop at all
    → notes_of nets k notes ≡ take (length n.pins) (drop (get_or (starts_from at nets) k 0) all)
notes_there at [] k n all notes there is = absurd (cc)
notes_there at (m ∷ nets) zero n all notes there is = let same : m ≡ n = cc in λ i. take (length (same i).pins) (is i)
notes_there at (m ∷ nets) (suc k) n all notes there is =
    notes_there (at + length m.pins) nets k n all (drop (length m.pins) notes) there (ap (drop (length m.pins)) is ∙ drop-drop (length m.pins) at all)

pub notes_past : (nets : List Net) (k : ℕ) (notes : List Note) → length nets ≤ k → notes_of nets k notes ≡ []
notes_past [] k notes h = refl
notes_past (n ∷ nets) zero notes h = absurd (omega (arith, h))
notes_past (n ∷ nets) (suc k) notes h = notes_past nets k (drop (length n.pins) notes) (omega (arith, h))

-- ---- by a block

pub block_ending : (nets : List Net) (b : Block) → IsBlock nets b → (its_way : Way) → IsOfNets its_way
    → (p : Pulls) → p ≡ pulls_of nets its_way → (ns : List NetCapture) → ns ≡ b.nets.items
    → ending_by_nets its_way p (first_of its_way) (second_of its_way) (map of_nets.seen ns) ≡ ending_noted nets its_way (noted_in b)
block_ending nets b is its_way of p same ns at =
    ap (λ (q : Pulls). ending_by_nets its_way q (first_of its_way) (second_of its_way) (map of_nets.seen ns)) same
    ∙ ap (λ (l : List NetCapture). ending_by_nets its_way (pulls_of nets its_way) (first_of its_way) (second_of its_way) (map of_nets.seen l)) at
    ∙ ap (ending_by_nets its_way (pulls_of nets its_way) (first_of its_way) (second_of its_way)) is.by_net
    ∙ by_nets nets its_way of (noted_in b)
