-- Tokens are slices of the text, in rising order.
use Rattle.std.proofs.Common.{◌≡◌, ℕ, ◌+◌, ◌≤◌, List, [], ◌∷◌, ◌++◌, length, take, drop, map, Result, Ok, Err, refl, sym, ap, ◌∙◌, subst, arith}
use Rattle.std.proofs.lemmas.List.{append-nil, append_assoc, length-append, drop_at, take_at}
use Rattle.svf_lex.specs.declared.Kind.{Kind}
use Rattle.svf_lex.specs.declared.LexFault.{LexFault}
use Rattle.svf_lex.specs.declared.LexFault.TheVariants as fault
use Rattle.svf_lex.specs.Cutting.{Lexeme, items_of}
use Rattle.svf_lex.specs.Gaps.{Part, white, comment, token, bytes_of, IsPart, Divides, tokens_at}
use Rattle.svf_lex.specs.Lexed.{Lexes, whole, unclosed, bad_byte, IsSlice, InOrder}
use Rattle.svf_lex.specs.Laws.{SlicesInOrder, ItemsAreFew}
use Rattle.svf_lex.proofs.Parts.{part_holds}
use Rattle.svf_lex.proofs.Endings.{each_lexes}

abbrev Given : Type 0
Given = List (Result Lexeme LexFault)

-- what is in order from a place on is so from an earlier one
earlier : (text : List ℕ) (from to : ℕ) (given : Given) → from ≤ to → InOrder text to given → InOrder text from given
earlier text from to [] le o = tt
earlier text from to (Ok t ∷ given) le o = let first : to ≤ t.start = o.0 in (omega arith, o.1, o.2, o.3)
earlier text from to (Err e ∷ given) le o = o

slice : (text : List ℕ) (at : ℕ) (k : Kind) (front bytes after : List ℕ) → text ≡ front ++ (bytes ++ after) → length front ≡ at → IsSlice text (record { kind = k; text = bytes; start = at })
slice text at k front bytes after is place = record {
  within = omega (arith, ap length is, length-append front (bytes ++ after), length-append bytes after);
  bytes = ap (λ (t : List ℕ). take (length bytes) (drop at t)) is ∙ ap (take (length bytes)) (drop_at front (bytes ++ after) at place) ∙ take_at bytes after (length bytes) refl;
}

-- one part more, behind which all is in order
one_more : (text : List ℕ) (at : ℕ) (p : Part) (parts : List Part) (front after : List ℕ) (end : Given) → text ≡ front ++ (bytes_of p ++ after) → length front ≡ at → IsPart p after
    → InOrder text (at + length (bytes_of p)) (map Ok (tokens_at (at + length (bytes_of p)) parts) ++ end) → InOrder text at (map Ok (tokens_at at (p ∷ parts)) ++ end)
one_more text at (white c) parts front after end is place fits later = earlier text at (at + 1) (map Ok (tokens_at (at + 1) parts) ++ end) (omega arith) later
one_more text at (comment bytes) parts front after end is place fits later =
    earlier text at (at + length bytes) (map Ok (tokens_at (at + length bytes) parts) ++ end) (omega arith) later
one_more text at (token k bytes) parts front after end is place fits later =
    (omega arith, part_holds (token k bytes) after fits, slice text at k front bytes after is place, later)

-- the tokens of parts before which `front` stands, and then an end
in_order : (text : List ℕ) (at : ℕ) (parts : List Part) (front here rest : List ℕ) (end : Given) → text ≡ front ++ here → length front ≡ at → Divides parts here rest
    → ((n : ℕ) → InOrder text n end) → InOrder text at (map Ok (tokens_at at parts) ++ end)
in_order text at [] front here rest end is place divides ends = ends at
in_order text at (p ∷ parts) front here rest end is place (after, splits, fits, more) ends =
    let n = length (bytes_of p) in
    let all : text ≡ front ++ (bytes_of p ++ after) = is ∙ ap (λ (t : List ℕ). front ++ t) splits in
    let next : length (front ++ bytes_of p) ≡ at + n = omega (arith, length-append front (bytes_of p)) in
    one_more text at p parts front after end all place fits
    (in_order text (at + n) parts (front ++ bytes_of p) after rest end (all ∙ sym (append_assoc front (bytes_of p) after)) next more ends)

from_start : (text : List ℕ) (parts : List Part) (rest : List ℕ) (ts : List Lexeme) (end given : Given) → Divides parts text rest → ts ≡ tokens_at 0 parts → ((n : ℕ) → InOrder text n end)
    → given ≡ map Ok ts ++ end → InOrder text 0 given
from_start text parts rest ts end given divides among ends is =
    subst (InOrder text 0) (ap (λ (us : List Lexeme). map Ok us ++ end) (sym among) ∙ sym is) (in_order text 0 parts [] text rest end refl refl divides ends)

all_in_order : (text : List ℕ) (given : Given) → Lexes text given → InOrder text 0 given
all_in_order text given (whole ts t closed is) = from_start text t.parts [] ts [] given t.divides t.among (λ n. tt) (is ∙ sym (append-nil (map Ok ts)))
all_in_order text given (unclosed ts place t o is) = from_start text t.parts [] ts (Err (fault.Unclosed place) ∷ []) given t.divides t.among (λ n. refl) is
all_in_order text given (bad_byte ts place b is) = from_start text b.parts (b.byte ∷ b.rest) ts (Err (fault.BadByte place) ∷ []) given b.divides b.among (λ n. refl) is

pub slices_in_order : SlicesInOrder
slices_in_order text = all_in_order text (items_of text) (each_lexes text)

few : (text : List ℕ) (from : ℕ) (given : Given) → from ≤ length text → InOrder text from given → from + length given ≤ length text + 1
few text from [] within o = omega arith
few text from (Ok t ∷ given) within o =
    let fits : t.start + length t.text ≤ length text = o.2.within in
    let more = few text (t.start + length t.text) given fits o.3 in
    omega (arith, o.0, o.1)
few text from (Err e ∷ given) within o = omega (arith, ap length o)

pub items_are_few : ItemsAreFew
items_are_few text = omega (arith, few text 0 (items_of text) (omega arith) (slices_in_order text))
