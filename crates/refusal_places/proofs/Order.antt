-- The statements of a text start one behind another.
use Rattle.std.proofs.Common.{ℕ, Bool, true, false, ◌+◌, ◌≤◌, List, [], ◌∷◌, length, arith, Result, Ok, Err}
use Rattle.svf_lex.specs.declared.Kind.{Kind}
use Rattle.svf_lex.specs.declared.Kind.TheVariants as kind
use Rattle.svf_lex.specs.declared.LexFault.{LexFault}
use Rattle.svf_lex.specs.Cutting.{Lexeme, items_of}
use Rattle.svf_lex.specs.Lexed.{InOrder}
use Rattle.refusal_places.specs.Rising.{Rises}
use Rattle.refusal_places.specs.Starts.{starts, starts_of, with_start, is_open_behind}

-- what rises from a place on rises from an earlier one on
lower : (len low high : ℕ) (offsets : List ℕ) → low ≤ high → Rises len high offsets → Rises len low offsets
lower len low high [] le rises = tt
lower len low high (at ∷ more) le rises = (omega (arith, le, rises.0), rises.1)

with_start_rises : (len low end : ℕ) (is_open : Bool) (k : Kind) (start : ℕ) (more : List ℕ) → low ≤ start → start ≤ end → end ≤ len
    → Rises len end more → Rises len low (with_start is_open k start more)
with_start_rises len low end is_open kind.Semi start more from to within rises = lower len low end more (omega (arith, from, to)) rises
with_start_rises len low end true kind.Run start more from to within rises = lower len low end more (omega (arith, from, to)) rises
with_start_rises len low end true kind.Open start more from to within rises = lower len low end more (omega (arith, from, to)) rises
with_start_rises len low end true kind.Close start more from to within rises = lower len low end more (omega (arith, from, to)) rises
with_start_rises len low end false kind.Run start more from to within rises = (from, (omega (arith, to, within), lower len start end more to rises))
with_start_rises len low end false kind.Open start more from to within rises = (from, (omega (arith, to, within), lower len start end more to rises))
with_start_rises len low end false kind.Close start more from to within rises = (from, (omega (arith, to, within), lower len start end more to rises))

rise_from : (text : List ℕ) (low : ℕ) (is_open : Bool) (items : List (Result Lexeme LexFault)) → InOrder text low items
    → Rises (length text) low (starts is_open items)
rise_from text low is_open [] order = tt
rise_from text low is_open (Err e ∷ items) order = tt
rise_from text low is_open (Ok t ∷ items) order =
    with_start_rises (length text) low (t.start + length t.text) is_open t.kind t.start (starts (is_open_behind t.kind) items) order.0
    (omega (arith, order.1)) order.2.within (rise_from text (t.start + length t.text) (is_open_behind t.kind) items order.3)

pub starts_rise : (text : List ℕ) → InOrder text 0 (items_of text) → Rises (length text) 0 (starts_of text)
starts_rise text order = rise_from text 0 false (items_of text) order
