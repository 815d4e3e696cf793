-- A file is read as it is written.
use Rattle.std.proofs.Common.{◌≡◌, ℕ, ◌≤◌, Bool, true, false, cond, List, [], ◌∷◌, ◌++◌, length, Some, refl, sym, ap, subst, ◌∙◌, append_assoc, inl, inr, arith}
use Rattle.std.specs.Prelude.{codes, drop}
use Rattle.std.specs.List.{AllByRecursion}
use Rattle.std.proofs.lemmas.List.{length-append}
use Rattle.bsdl_text.specs.Bytes.{begins_word}
use Rattle.bsdl_text.specs.Cutting.{Lexeme, tokens}
use Rattle.bsdl_text.specs.Marks.{semi}
use Rattle.bsdl_text.specs.Reading.{Read, fits, misfit, ◌>>=◌, word, mark, is_word_kind}
use Rattle.bsdl_values.specs.InstructionValues.{begins}
use Rattle.bsdl_entity.specs.Keywords.{this_word}
use Rattle.bsdl_entity.specs.Ports.{Port, ports}
use Rattle.bsdl_entity.specs.Scalars.{is_scalar}
use Rattle.bsdl_values.specs.Passing.{brackets}
use Rattle.bsdl_entity.specs.Entity.{Given, items, File, generic, any_word, end_of_text, ending, heading, file}
use Rattle.worked_examples.specs.Lists.{IsMark, IsWord, IsToken, Spells}
use Rattle.worked_examples.specs.Entity.{all_given, IsGeneric, IsHeading, IsEnding, IsFile}
use Rattle.worked_examples.proofs.Steps.{Found, Finds, AreTokens, bound, same_read, joined_split, front_tokens, back_tokens, mark_found, mark_is, word_kind, word_is, word_found, word_read, this_found}
use Rattle.worked_examples.proofs.PortReads.{ports_found, ports_read}
use Rattle.worked_examples.proofs.PassingReads.{brackets_found, brackets_read}
use Rattle.worked_examples.proofs.ItemReads.{other_word, items_found, items_read}

-- ---- the heading

-- which says nothing
abbrev Generic : Bool → List Lexeme → Type 0
Generic b ts = IsGeneric ts

generic_by : (ts : List Lexeme) (test b : Bool) (rest : List Lexeme) → begins (codes "GENERIC") ts ≡ test → cond test (brackets (drop 1 ts) >>= λ b a. mark semi a >>= λ s c. fits true c) (fits true ts) ≡ fits b rest
    → Found Generic b ts rest
generic_by ts false b rest is e =
    let s = same_read true b ts rest e in
    record { front = []; split = s.1; is = inl refl }
generic_by [] true b rest is e = absurd cc
generic_by (t ∷ ts) true b rest is e =
    let b1 = bound (brackets ts) (λ b a. mark semi a >>= λ s c. fits true c) b rest e in
    let f = brackets_found ts b1.x b1.more b1.first in
    let b2 = bound (mark semi b1.more) (λ s c. fits true c) b rest b1.next in
    let m = mark_found semi b1.more b2.x b2.more b2.first in
    let s = same_read true b b2.more rest b2.next in
    let last : b1.more ≡ (b2.x ∷ []) ++ rest = m.0 ∙ ap (λ (us : List Lexeme). b2.x ∷ us) s.1 in
    record {
      front = t ∷ (f.front ++ b2.x ∷ []);
      split = ap (λ (us : List Lexeme). t ∷ us) (joined_split ts f.front b1.more (b2.x ∷ []) rest f.split last);
      is = inr (t, b2.x, f.front, refl, is, f.is, m.1);
    }

generic_found : Finds generic Generic
generic_found ts b rest e = generic_by ts (begins (codes "GENERIC") ts) b rest refl e

generic_read : (front rest : List Lexeme) → IsGeneric front → begins (codes "GENERIC") rest ≡ false → generic (front ++ rest) ≡ fits true rest
generic_read front rest (inl h) none = subst (λ us. generic (us ++ rest) ≡ fits true rest) (sym h) (rw none refl)
generic_read front rest (inr h) none =
    let here : brackets (h.2 ++ h.1 ∷ rest) ≡ fits true (h.1 ∷ rest) = brackets_read h.2 (h.1 ∷ rest) h.5 in
    let whole : generic (h.0 ∷ (h.2 ++ h.1 ∷ rest)) ≡ fits true rest = rw (h.4, here, mark_is semi h.1 h.6) refl in
    subst (λ us. generic (us ++ rest) ≡ fits true rest) (sym h.3) (ap (λ (us : List Lexeme). generic (h.0 ∷ us)) (append_assoc h.2 (h.1 ∷ []) rest) ∙ whole)

abbrev Heading : Bool → List Lexeme → Type 0
Heading b ts = IsHeading ts

abbrev behind_name : Lexeme → List Lexeme → Read Bool
behind_name name b = this_word (codes "IS") b >>= λ i c. generic c

heading_found : Finds heading Heading
heading_found ts b rest e =
    let b1 = bound (this_word (codes "ENTITY") ts) (λ k a. word a >>= behind_name) b rest e in
    let k = this_found (codes "ENTITY") ts b1.x b1.more b1.first in
    let b2 = bound (word b1.more) behind_name b rest b1.next in
    let n = word_found b1.more b2.x b2.more b2.first in
    let b3 = bound (this_word (codes "IS") b2.more) (λ i c. generic c) b rest b2.next in
    let i = this_found (codes "IS") b2.more b3.x b3.more b3.first in
    let g = generic_found b3.more b rest b3.next in
    record {
      front = k.token ∷ b2.x ∷ i.token ∷ g.front;
      split = k.split ∙ ap (λ (us : List Lexeme). k.token ∷ us) (n.0 ∙ ap (λ (us : List Lexeme). b2.x ∷ us) (i.split ∙ ap (λ (us : List Lexeme). i.token ∷ us) g.split));
      is = (k.token, b2.x, i.token, g.front, refl, k.is, n.1, i.is, g.is);
    }

heading_read : (front rest : List Lexeme) → IsHeading front → begins (codes "GENERIC") rest ≡ false → heading (front ++ rest) ≡ fits true rest
heading_read front rest h none =
    let whole : heading (h.0 ∷ h.1 ∷ h.2 ∷ (h.3 ++ rest)) ≡ fits true rest = rw (h.5, word_is h.1 h.6, h.7, generic_read h.3 rest h.8 none) refl in
    subst (λ us. heading (us ++ rest) ≡ fits true rest) (sym h.4) whole

-- ---- the ending

-- a mark is no word
mark_no_word_by : (c : ℕ) (t : Lexeme) (b : Bool) → IsToken t → IsMark c t → begins_word c ≡ false → is_word_kind t.kind ≡ b → b ≡ false
mark_no_word_by c t false token h none is = refl
mark_no_word_by c t true token h none is =
    let w = token (word_kind t.kind is) in
    let same : w.0 ∷ w.1 ≡ c ∷ [] = sym w.2 ∙ h in
    let first : w.0 ≡ c = cc in
    absurd (let f : true ≡ false = sym w.3 ∙ ap begins_word first ∙ none in cc)

mark_no_word : (c : ℕ) (t : Lexeme) → IsToken t → IsMark c t → begins_word c ≡ false → is_word_kind t.kind ≡ false
mark_no_word c t token h none = mark_no_word_by c t (is_word_kind t.kind) token h none refl

record MaybeWord (ts rest : List Lexeme) : Type 0 where
  words : List Lexeme
  split : ts ≡ words ++ rest
  all : AllByRecursion IsWord words
  few : length words ≤ 1

abbrev after_word : List Lexeme → Read Lexeme → Read Bool
after_word ts r = elim r [
  | fits t rest ↦ fits true rest
  | misfit at ↦ fits true ts
]

maybe_by : (ts : List Lexeme) (r : Read Lexeme) (b : Bool) (rest : List Lexeme) → word ts ≡ r → after_word ts r ≡ fits b rest → MaybeWord ts rest
maybe_by ts (fits t more) b rest is e =
    let w = word_found ts t more is in
    let s = same_read true b more rest e in
    record { words = t ∷ []; split = w.0 ∙ ap (λ (us : List Lexeme). t ∷ us) s.1; all = (w.1, tt); few = omega arith }
maybe_by ts (misfit at) b rest is e =
    let s = same_read true b ts rest e in
    record { words = []; split = s.1; all = tt; few = omega arith }

maybe_found : (ts : List Lexeme) (b : Bool) (rest : List Lexeme) → any_word ts ≡ fits b rest → MaybeWord ts rest
maybe_found ts b rest e = maybe_by ts (word ts) b rest refl e

all_words : (xs ys : List Lexeme) → AllByRecursion IsWord xs → AllByRecursion IsWord ys → AllByRecursion IsWord (xs ++ ys)
all_words [] ys a b = b
all_words (x ∷ xs) ys a b = (a.0, all_words xs ys a.1 b)

over_found : (ts : List Lexeme) (b : Bool) (rest : List Lexeme) → end_of_text ts ≡ fits b rest → (ts ≡ []) × (rest ≡ [])
over_found [] b rest e = (refl, sym (same_read true b [] rest e).1)
over_found (t ∷ ts) b rest e = absurd cc

abbrev behind_second : Bool → List Lexeme → Read Bool
behind_second w c = mark semi c >>= λ s d. end_of_text d

abbrev behind_first : Bool → List Lexeme → Read Bool
behind_first v b = any_word b >>= behind_second

ending_found : (ts : List Lexeme) (b : Bool) (rest : List Lexeme) → ending ts ≡ fits b rest → IsEnding ts × (rest ≡ [])
ending_found ts b rest e =
    let b1 = bound (this_word (codes "END") ts) (λ k a. any_word a >>= behind_first) b rest e in
    let k = this_found (codes "END") ts b1.x b1.more b1.first in
    let b2 = bound (any_word b1.more) behind_first b rest b1.next in
    let v = maybe_found b1.more b2.x b2.more b2.first in
    let b3 = bound (any_word b2.more) behind_second b rest b2.next in
    let w = maybe_found b2.more b3.x b3.more b3.first in
    let b4 = bound (mark semi b3.more) (λ s d. end_of_text d) b rest b3.next in
    let m = mark_found semi b3.more b4.x b4.more b4.first in
    let o = over_found b4.more b rest b4.next in
    let last : b3.more ≡ b4.x ∷ [] = m.0 ∙ ap (λ (us : List Lexeme). b4.x ∷ us) o.0 in
    let split : b1.more ≡ (v.words ++ w.words) ++ b4.x ∷ [] = joined_split b1.more v.words b2.more w.words (b4.x ∷ []) v.split (w.split ∙ ap (λ (us : List Lexeme). w.words ++ us) last) in (
      (
        k.token,
        b4.x,
        v.words ++ w.words,
        k.split ∙ ap (λ (us : List Lexeme). k.token ∷ us) split,
        k.is,
        all_words v.words w.words v.all w.all,
        omega (arith, v.few, w.few, length-append v.words w.words),
        m.1,
      ),
      o.1,
    )

no_word_read : (t : Lexeme) (rest : List Lexeme) → is_word_kind t.kind ≡ false → any_word (t ∷ rest) ≡ fits true (t ∷ rest)
no_word_read t rest h = let none : word (t ∷ rest) ≡ misfit (Some t.start) = rw h refl in ap (after_word (t ∷ rest)) none

a_word_read : (t : Lexeme) (rest : List Lexeme) → IsWord t → any_word (t ∷ rest) ≡ fits true rest
a_word_read t rest h = ap (after_word (t ∷ rest)) (word_read t rest h)

ending_steps : (t s : Lexeme) (ts us : List Lexeme) → Spells (codes "END") t → any_word ts ≡ fits true us → any_word us ≡ fits true (s ∷ []) → IsMark semi s → ending (t ∷ ts) ≡ fits true []
ending_steps t s ts us k first second m = rw (k, first, second, mark_is semi s m) refl

ending_by : (t end : Lexeme) (words : List Lexeme) → Spells (codes "END") t → AllByRecursion IsWord words → length words ≤ 2 → IsMark semi end → IsToken end → ending (t ∷ (words ++ end ∷ [])) ≡ fits true []
ending_by t end [] k all few m token =
    let none = no_word_read end [] (mark_no_word semi end token m refl) in
    ending_steps t end (end ∷ []) (end ∷ []) k none none m
ending_by t end (a ∷ []) k all few m token = ending_steps t end (a ∷ end ∷ []) (end ∷ []) k (a_word_read a (end ∷ []) all.0) (no_word_read end [] (mark_no_word semi end token m refl)) m
ending_by t end (a ∷ b ∷ []) k all few m token = ending_steps t end (a ∷ b ∷ end ∷ []) (b ∷ end ∷ []) k (a_word_read a (b ∷ end ∷ []) all.0) (a_word_read b (end ∷ []) all.1.0) m
ending_by t end (a ∷ b ∷ c ∷ words) k all few m token = absurd (omega (arith, few))

ending_read : (ts : List Lexeme) → IsEnding ts → AreTokens ts → ending ts ≡ fits true []
ending_read ts h tokens =
    let all = subst AreTokens h.3 tokens in
    ap ending h.3 ∙ ending_by h.0 h.1 h.2 h.4 h.5 h.6 h.7 (back_tokens h.2 (h.1 ∷ []) all.1).0

-- ---- a file

abbrev behind_items : List Port → List Given → List Lexeme → Read File
behind_items ps gs f = ending f >>= λ o h. fits (record { ports = ps; given = gs }) h

abbrev behind_ports : List Port → List Lexeme → Read File
behind_ports ps e = items (is_scalar ps) (length e) e >>= behind_items ps

pub file_found : (ts : List Lexeme) (f : File) (rest : List Lexeme) → file ts ≡ fits f rest → IsFile f ts
file_found ts f rest e =
    let b1 = bound (heading ts) (λ g d. ports d >>= behind_ports) f rest e in
    let h = heading_found ts b1.x b1.more b1.first in
    let b2 = bound (ports b1.more) behind_ports f rest b1.next in
    let p = ports_found b1.more b2.x b2.more b2.first in
    let b3 = bound (items (is_scalar b2.x) (length b2.more) b2.more) (behind_items b2.x) f rest b2.next in
    let i = items_found (is_scalar b2.x) (length b2.more) b2.more b3.x b3.more b3.first in
    let b4 = bound (ending b3.more) (λ o after. fits (record { ports = b2.x; given = b3.x }) after) f rest b3.next in
    let n = ending_found b3.more b4.x b4.more b4.first in
    let s = same_read (record { ports = b2.x; given = b3.x }) f b4.more rest b4.next in
    let split : ts ≡ h.front ++ (p.front ++ (i.front ++ b3.more)) =
    h.split ∙ ap (λ (us : List Lexeme). h.front ++ us) (p.split ∙ ap (λ (us : List Lexeme). p.front ++ us) i.split) in
    let g = i.is in
    subst (λ x. IsFile x ts) s.0 (h.front, p.front, i.front, b3.more, g.0, split, h.is, p.is, g.1, g.2, n.0)

pub file_read : (ts : List Lexeme) (f : File) → IsFile f ts → AreTokens ts → file ts ≡ fits f []
file_read ts f h all_tokens =
    let front = h.0 in
    let ported = h.1 in
    let listed = h.2 in
    let last = h.3 in
    let os = h.4 in
    let all = subst AreTokens h.5 all_tokens in
    let behind_heading = back_tokens front (ported ++ (listed ++ last)) all in
    let behind = back_tokens ported (listed ++ last) behind_heading in
    let p = h.7 in
    let n = h.10 in
    let none : begins (codes "GENERIC") (ported ++ (listed ++ last)) ≡ false =
    subst (λ us. begins (codes "GENERIC") (us ++ (listed ++ last)) ≡ false) (sym p.6) (other_word (codes "PORT") (codes "GENERIC") p.0 p.7 refl) in
    let ends : begins (codes "END") last ≡ true = subst (λ us. begins (codes "END") us ≡ true) (sym n.3) n.4 in
    let heading_is : heading (front ++ (ported ++ (listed ++ last))) ≡ fits true (ported ++ (listed ++ last)) = heading_read front (ported ++ (listed ++ last)) h.6 none in
    let ports_are : ports (ported ++ (listed ++ last)) ≡ fits f.ports (listed ++ last) = ports_read ported f.ports (listed ++ last) p (front_tokens ported (listed ++ last) behind_heading) tt in
    let items_are : items (is_scalar f.ports) (length (listed ++ last)) (listed ++ last) ≡ fits (all_given os) last =
    items_read (is_scalar f.ports) os (length (listed ++ last)) listed last h.8 (front_tokens listed last behind) (omega (arith, length-append listed last)) ends in
    let ending_is : ending last ≡ fits true [] = ending_read last n (back_tokens listed last behind) in
    let whole : file (front ++ (ported ++ (listed ++ last))) ≡ fits (record { ports = f.ports; given = all_given os }) [] = rw (heading_is, ports_are, items_are, ending_is) refl in
    ap file h.5 ∙ whole ∙ ap (λ (gs : List Given). fits (record { ports = f.ports; given = gs }) []) (sym h.9)
