-- A statement begins at the first token of its group.
use Rattle.std.proofs.Common.{ℕ, zero, suc, Bool, true, false, ◌≡◌, List, [], ◌∷◌, ◌++◌, slice_get, length, filter, Option, Some, None, Result, Ok, Err}
use Rattle.std.proofs.Common.{option_map, refl, sym, ap, ◌∙◌, subst, arith, append_assoc, ◌⊎◌, inl, inr, cond}
use Rattle.std.specs.List.{flat_map, AllByRecursion}
use Rattle.std.proofs.lemmas.Option.{slice_get-map}
use Rattle.svf_lex.specs.declared.Kind.{Kind}
use Rattle.svf_lex.specs.declared.Kind.TheVariants as kind
use Rattle.svf_lex.specs.declared.LexFault.{LexFault}
use Rattle.svf_lex.specs.Cutting.{Lexeme, items_of}
use Rattle.svf_lex.specs.Lexed.{IsNoSemi}
use Rattle.svf_lex.specs.Laws.{LexerGives}
use Rattle.output_words.specs.declared.lines.Position.{Position}
use Rattle.refusal_places.specs.PositionLaws.{tokens_of, Group, tokens_in, IsGroup, has_words, is_statement, BeginsStatement, PositionOfFirstToken}
use Rattle.refusal_places.specs.Positions.{position_at}
use Rattle.refusal_places.specs.Starts.{starts, with_start, is_open_behind, statement_position}

-- the same starts, of tokens without a fault behind them
abbrev starts_in : Bool → List Lexeme → List ℕ
starts_in is_open [] = []
starts_in is_open (t ∷ ts) = with_start is_open t.kind t.start (starts_in (is_open_behind t.kind) ts)

same : (is_open : Bool) (items : List (Result Lexeme LexFault)) → starts is_open items ≡ starts_in is_open (tokens_of items)
same is_open [] = refl
same is_open (Err e ∷ items) = refl
same is_open (Ok t ∷ items) = ap (with_start is_open t.kind t.start) (same (is_open_behind t.kind) items)

at_semi : (is_open : Bool) (t : Lexeme) (rest : List Lexeme) → t.kind ≡ kind.Semi → starts_in is_open (t ∷ rest) ≡ starts_in false rest
at_semi is_open t rest is = ap (λ k. with_start is_open k t.start (starts_in (is_open_behind k) rest)) is

word_inside : (k : Kind) (start : ℕ) (rest : List Lexeme) → (k ≡ kind.Semi → ⊥) → with_start true k start (starts_in (is_open_behind k) rest) ≡ starts_in true rest
word_inside kind.Run start rest word = refl
word_inside kind.Open start rest word = refl
word_inside kind.Close start rest word = refl
word_inside kind.Semi start rest word = absurd (word refl)

word_first : (k : Kind) (start : ℕ) (rest : List Lexeme) → (k ≡ kind.Semi → ⊥) → with_start false k start (starts_in (is_open_behind k) rest) ≡ start ∷ starts_in true rest
word_first kind.Run start rest word = refl
word_first kind.Open start rest word = refl
word_first kind.Close start rest word = refl
word_first kind.Semi start rest word = absurd (word refl)

-- the words of a statement that is open start none
words_pass : (ws : List Lexeme) (semi : Lexeme) (rest : List Lexeme) → AllByRecursion IsNoSemi ws → semi.kind ≡ kind.Semi
    → starts_in true (ws ++ semi ∷ rest) ≡ starts_in false rest
words_pass [] semi rest word is = at_semi true semi rest is
words_pass (w ∷ ws) semi rest word is = word_inside w.kind w.start (ws ++ semi ∷ rest) word.0 ∙ words_pass ws semi rest word.1 is

-- behind groups comes the start that so many statements stand before
behind_groups : (gs : List Group) (first : Lexeme) (more : List Lexeme) → AllByRecursion IsGroup gs → IsNoSemi first
    → slice_get (starts_in false (flat_map tokens_in gs ++ first ∷ more)) (length (filter is_statement gs)) ≡ Some first.start
behind_groups [] first more closed word = ap (λ ss. slice_get ss 0) (word_first first.kind first.start more word)
behind_groups (g ∷ gs) first more closed word =
    let rest = flat_map tokens_in gs ++ first ∷ more in
    let apart : flat_map tokens_in (g ∷ gs) ++ first ∷ more ≡ g.words ++ g.semi ∷ rest =
    append_assoc (g.words ++ g.semi ∷ []) (flat_map tokens_in gs) (first ∷ more) ∙ append_assoc g.words (g.semi ∷ []) rest in
    ap (λ ts. slice_get (starts_in false ts) (length (filter is_statement (g ∷ gs)))) apart ∙ group_passes g.words g.semi rest (filter is_statement gs) closed.0.0 closed.0.1
    ∙ behind_groups gs first more closed.1 word
  where
    group_passes : (ws : List Lexeme) (semi : Lexeme) (rest : List Lexeme) (others : List Group) → AllByRecursion IsNoSemi ws → semi.kind ≡ kind.Semi
        → slice_get (starts_in false (ws ++ semi ∷ rest)) (length (cond (has_words ws) (g ∷ others) others)) ≡ slice_get (starts_in false rest) (length others)
    group_passes [] semi rest others word is = ap (λ ss. slice_get ss (length others)) (at_semi false semi rest is)
    group_passes (w ∷ ws) semi rest others word is =
        ap (λ ss. slice_get ss (suc (length others))) (word_first w.kind w.start (ws ++ semi ∷ rest) word.0) ∙ ap (λ ss. slice_get ss (length others)) (words_pass ws semi rest word.1 is)

-- the start s stands at this place among the starts of tokens, and a statement of that number begins there
record Found (tokens : List Lexeme) (k s : ℕ) : Type 0 where
  first : Lexeme
  begins : BeginsStatement tokens (suc k) first
  there : s ≡ first.start

-- the same behind the words of a statement that is open
record FoundBehind (tokens : List Lexeme) (k s : ℕ) : Type 0 where
  words : List Lexeme
  semi : Lexeme
  rest : List Lexeme
  whole : tokens ≡ words ++ semi ∷ rest
  no_semi : AllByRecursion IsNoSemi words
  is_semi : semi.kind ≡ kind.Semi
  found : Found rest k s

abbrev Finds : Bool → List Lexeme → ℕ → ℕ → Type 0
Finds false tokens k s = Found tokens k s
Finds true tokens k s = FoundBehind tokens k s

semi_or_word : (k : Kind) → (k ≡ kind.Semi) ⊎ (k ≡ kind.Semi → ⊥)
semi_or_word kind.Semi = inl refl
semi_or_word kind.Run = inr (λ e. absurd cc)
semi_or_word kind.Open = inr (λ e. absurd cc)
semi_or_word kind.Close = inr (λ e. absurd cc)

one_more : (is : Bool) (g : Group) (gs : List Group) (k : ℕ) → suc k ≡ suc (length gs) → suc (cond is (suc k) k) ≡ suc (length (cond is (g ∷ gs) gs))
one_more true g gs k e = ap suc e
one_more false g gs k e = e

-- behind one more group
behind_group : (words : List Lexeme) (semi : Lexeme) (rest : List Lexeme) (k s : ℕ) → AllByRecursion IsNoSemi words → semi.kind ≡ kind.Semi
    → Found rest k s → Found (words ++ semi ∷ rest) (cond (has_words words) (suc k) k) s
behind_group words semi rest k s word is f =
    let g : Group = record { words = words; semi = semi } in
    let b = f.begins in
    let behind = flat_map tokens_in b.groups ++ f.first ∷ b.more in
    record {
      first = f.first;
      begins = record {
        groups = g ∷ b.groups;
        more = b.more;
        whole = ap (λ ts. words ++ semi ∷ ts) b.whole
            ∙ sym (append_assoc (words ++ semi ∷ []) (flat_map tokens_in b.groups) (f.first ∷ b.more) ∙ append_assoc words (semi ∷ []) behind);
        closed = ((word, is), b.closed);
        no_semi = b.no_semi;
        number = one_more (has_words words) g (filter is_statement b.groups) k b.number;
      };
      there = f.there;
    }

at_first : (t : Lexeme) (ts : List Lexeme) (k s : ℕ) → ((j : ℕ) → slice_get (starts_in true ts) j ≡ Some s → FoundBehind ts j s)
    → slice_get (t.start ∷ starts_in true ts) k ≡ Some s → IsNoSemi t → Found (t ∷ ts) k s
at_first t ts zero s behind e word = record {
  first = t;
  begins = record { groups = []; more = ts; whole = refl; closed = tt; no_semi = word; number = refl };
  there = cc;
}
at_first t ts (suc j) s behind e word =
    let f = behind j e in
    subst (λ tokens. Found tokens (suc j) s) (sym (ap (λ tokens. t ∷ tokens) f.whole))
    (behind_group (t ∷ f.words) f.semi f.rest j s (word, f.no_semi) f.is_semi f.found)

find : (is_open : Bool) (tokens : List Lexeme) (k s : ℕ) → slice_get (starts_in is_open tokens) k ≡ Some s → Finds is_open tokens k s
find false [] k s e = absurd cc
find true [] k s e = absurd cc
find false (t ∷ ts) k s e = elim (semi_or_word t.kind) [
  | inl is ↦ behind_group [] t ts k s tt is (find false ts k s (sym (ap (λ ss. slice_get ss k) (at_semi false t ts is)) ∙ e))
  | inr word ↦ at_first t ts k s (λ j e. find true ts j s e) (sym (ap (λ ss. slice_get ss k) (word_first t.kind t.start ts word)) ∙ e) word
]
find true (t ∷ ts) k s e = elim (semi_or_word t.kind) [
  | inl is ↦ record {
    words = [];
    semi = t;
    rest = ts;
    whole = refl;
    no_semi = tt;
    is_semi = is;
    found = find false ts k s (sym (ap (λ ss. slice_get ss k) (at_semi true t ts is)) ∙ e);
  }
  | inr word ↦
      let f = find true ts k s (sym (ap (λ ss. slice_get ss k) (word_inside t.kind t.start ts word)) ∙ e) in
      record {
        words = t ∷ f.words;
        semi = f.semi;
        rest = f.rest;
        whole = ap (λ tokens. t ∷ tokens) f.whole;
        no_semi = (word, f.no_semi);
        is_semi = f.is_semi;
        found = f.found;
      }
]

place_is : (text : List ℕ) (given : List (Result Lexeme LexFault)) (n : ℕ) → items_of text ≡ given
    → statement_position text (suc n) ≡ option_map (position_at text) (slice_get (starts_in false (tokens_of given)) n)
place_is text given n is =
    slice_get-map (position_at text) (starts false (items_of text)) n
    ∙ ap (λ ss. option_map (position_at text) (slice_get ss n)) (same false (items_of text))
    ∙ ap (λ items. option_map (position_at text) (slice_get (starts_in false (tokens_of items)) n)) is

found_by : (text : List ℕ) (tokens : List Lexeme) (n : ℕ) (p : Position) (s : Option ℕ) → slice_get (starts_in false tokens) n ≡ s
    → option_map (position_at text) s ≡ Some p → (first : Lexeme) × BeginsStatement tokens (suc n) first × (p ≡ position_at text first.start)
found_by text tokens n p None is e = absurd cc
found_by text tokens n p (Some s) is e =
    let f = find false tokens n s is in
    let there : p ≡ position_at text s = cc in
    (f.first, f.begins, there ∙ ap (position_at text) f.there)

pub position_of_first_token : LexerGives → PositionOfFirstToken
position_of_first_token gives text given zero p lexes = (λ e. absurd cc, λ b. absurd (omega (arith, b.1.number)))
position_of_first_token gives text given (suc n) p lexes =
    let is : items_of text ≡ given = (gives text given).0 lexes in (
      λ e. found_by text (tokens_of given) n p _ refl (sym (place_is text given n is) ∙ e),
      λ b.
          let begins = b.1 in
          let number : n ≡ length (filter is_statement begins.groups) = omega (arith, begins.number) in
          let there = behind_groups begins.groups b.0 begins.more begins.closed begins.no_semi in
          place_is text given n is
          ∙ ap (option_map (position_at text)) (ap (slice_get (starts_in false (tokens_of given))) number ∙ ap (λ ts. slice_get (starts_in false ts) (length (filter is_statement begins.groups))) begins.whole ∙ there)
          ∙ ap (λ q. Some q) (sym b.2),
    )
