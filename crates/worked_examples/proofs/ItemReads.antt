-- Items are read as they are written.
use Rattle.std.proofs.Common.{◌≡◌, ℕ, zero, suc, ◌≤◌, Bool, true, false, cond, ◌&&◌, ◌||◌, not, List, [], ◌∷◌, ◌++◌, length, Option, Some, None, refl, sym, ap, subst, ◌∙◌, append_assoc, arith}
use Rattle.std.specs.Prelude.{codes, drop, bytes_eq}
use Rattle.std.proofs.lemmas.List.{length-append}
use Rattle.std.proofs.lemmas.Slice.Eq.{bytes_eq-Decides}
use Rattle.bsdl_text.specs.Cutting.{Lexeme}
use Rattle.bsdl_text.specs.Words.{upper, same_name}
use Rattle.bsdl_text.specs.Marks.{semi, colon}
use Rattle.bsdl_text.specs.Reading.{Read, fits, ◌>>=◌, refused_at, word, mark}
use Rattle.bsdl_values.specs.InstructionValues.{begins}
use Rattle.bsdl_entity.specs.Keywords.{this_word}
use Rattle.bsdl_values.specs.declared.Attribute.{Attribute}
use Rattle.bsdl_values.specs.Passing.{past_semi}
use Rattle.bsdl_values.specs.Values.{Value, value_of}
use Rattle.bsdl_entity.specs.Attributes.{attribute_of}
use Rattle.bsdl_entity.specs.Entity.{is_tap, owner, Given, with_value, value_behind, owner_clause, attribute_form, nothing, attribute, attribute_item, item, and_given, items}
use Rattle.worked_examples.specs.Lists.{IsWord, Spells}
use Rattle.worked_examples.specs.Entity.{IsPassedOver, IsOwner, IsAttribute, IsItem, use_clause, constant, other, given, AreItems, all_given}
use Rattle.worked_examples.proofs.Steps.{Found, Finds, AreTokens, bound, same_read, joined_split, front_tokens, back_tokens, mark_found, mark_is, word_is, word_found, this_found}
use Rattle.worked_examples.proofs.PortReads.{other_mark}
use Rattle.worked_examples.proofs.PassingReads.{semi_found, semi_read}
use Rattle.worked_examples.proofs.ValueReads.{attribute_value_found, attribute_value_read}

-- a word is no other word
pub other_word : (k j : List ℕ) (t : Lexeme) → Spells k t → bytes_eq (upper k) (upper j) ≡ false → same_name t.text j ≡ false
other_word k j t h e =
    let same : upper t.text ≡ upper k = (bytes_eq-Decides (upper t.text) (upper k)).0 h in
    ap (λ (x : List ℕ). bytes_eq x (upper j)) same ∙ e

module _ (is_port : List ℕ → Bool) where
  -- ---- what an attribute is of

  tap_by : (tap port : Bool) → (tap && not port) ≡ false → tap ≡ true → port ≡ true
  tap_by true true e h = refl
  tap_by true false e h = absurd cc
  tap_by false port e h = absurd cc

  tap_not : (tap port : Bool) → (tap ≡ true → port ≡ true) → (tap && not port) ≡ false
  tap_not true true h = refl
  tap_not true false h = absurd (let e : false ≡ true = h refl in cc)
  tap_not false port h = refl

  owner_by : (test : Bool) (n : Lexeme) (us rest : List Lexeme) (o : Lexeme) (ts : List Lexeme) → cond test (refused_at us) (fits n ts) ≡ fits o rest → (test ≡ false) × (n ≡ o) × (ts ≡ rest)
  owner_by true n us rest o ts e = absurd (refused us o rest e)
    where
      refused : (us : List Lexeme) (o : Lexeme) (rest : List Lexeme) → refused_at us ≡ fits o rest → ⊥
      refused us o rest e = cc
  owner_by false n us rest o ts e = let s = same_read n o ts rest e in (refl, s.0, s.1)

  owner_found : (a : Attribute) (ts : List Lexeme) (o : Lexeme) (rest : List Lexeme) → owner is_port a ts ≡ fits o rest → (ts ≡ o ∷ rest) × IsOwner is_port a o
  owner_found a ts o rest e =
      let b = bound (word ts) (λ n more. cond (is_tap a && not (is_port n.text)) (refused_at ts) (fits n more)) o rest e in
      let w = word_found ts b.x b.more b.first in
      let t = owner_by (is_tap a && not (is_port b.x.text)) b.x ts rest o b.more b.next in
      (w.0 ∙ ap (λ (n : Lexeme). n ∷ b.more) t.1 ∙ ap (λ (us : List Lexeme). o ∷ us) t.2, subst (IsOwner is_port a) t.1 (w.1, tap_by (is_tap a) (is_port b.x.text) t.0))

  abbrev behind_colon : Lexeme → Lexeme → List Lexeme → Read Lexeme
  behind_colon n m d = word d >>= λ class e. fits n e

  abbrev behind_owner : Lexeme → List Lexeme → Read Lexeme
  behind_owner n c = mark colon c >>= behind_colon n

  abbrev behind_of : Attribute → Bool → List Lexeme → Read Lexeme
  behind_of a k b = owner is_port a b >>= behind_owner

  abbrev behind_value : Lexeme → Attribute → Value → List Lexeme → Read (Option Given)
  behind_value name a v g = mark semi g >>= λ s h. fits (with_value (record { name = name; attribute = a; value = v }) v) h

  abbrev behind_clause : Lexeme → Attribute → Lexeme → List Lexeme → Read (Option Given)
  behind_clause name a n e = value_behind a (upper n.text) e >>= behind_value name a

  -- what an attribute of the table gives
  abbrev IsGiven : Lexeme → Attribute → Option Given → List Lexeme → Type 0
  IsGiven name a g ts = (v : Value) × IsAttribute is_port a v ts × (g ≡ with_value (record { name = name; attribute = a; value = v }) v)

  form_found : (name : Lexeme) (a : Attribute) → Finds (attribute_form is_port name a) (IsGiven name a)
  form_found name a ts g rest e =
      let b1 = bound (owner_clause is_port a ts) (behind_clause name a) g rest e in
      let b2 = bound (this_word (codes "OF") ts) (behind_of a) b1.x b1.more b1.first in
      let k = this_found (codes "OF") ts b2.x b2.more b2.first in
      let b3 = bound (owner is_port a b2.more) behind_owner b1.x b1.more b2.next in
      let o = owner_found a b2.more b3.x b3.more b3.first in
      let b4 = bound (mark colon b3.more) (behind_colon b3.x) b1.x b1.more b3.next in
      let c = mark_found colon b3.more b4.x b4.more b4.first in
      let b5 = bound (word b4.more) (λ class after. fits b3.x after) b1.x b1.more b4.next in
      let w = word_found b4.more b5.x b5.more b5.first in
      let s1 = same_read b3.x b1.x b5.more b1.more b5.next in
      let b6 = bound (value_behind a (upper b1.x.text) b1.more) (behind_value name a) g rest b1.next in
      let b7 = bound (this_word (codes "IS") b1.more) (λ i f. value_of a (upper b1.x.text) f) b6.x b6.more b6.first in
      let i = this_found (codes "IS") b1.more b7.x b7.more b7.first in
      let v = attribute_value_found a (upper b1.x.text) b7.more b6.x b6.more b7.next in
      let b8 = bound (mark semi b6.more) (λ s h. fits (with_value (record { name = name; attribute = a; value = b6.x }) b6.x) h) g rest b6.next in
      let z = mark_found semi b6.more b8.x b8.more b8.first in
      let s2 = same_read (with_value (record { name = name; attribute = a; value = b6.x }) b6.x) g b8.more rest b8.next in
      let last : b6.more ≡ (b8.x ∷ []) ++ rest = z.0 ∙ ap (λ (us : List Lexeme). b8.x ∷ us) s2.1 in
      let valued : b7.more ≡ (v.front ++ b8.x ∷ []) ++ rest = joined_split b7.more v.front b6.more (b8.x ∷ []) rest v.split last in
      let classed : b4.more ≡ b5.x ∷ i.token ∷ ((v.front ++ b8.x ∷ []) ++ rest) =
      w.0 ∙ ap (λ (us : List Lexeme). b5.x ∷ us) (s1.1 ∙ i.split ∙ ap (λ (us : List Lexeme). i.token ∷ us) valued) in
      let owned : b2.more ≡ b1.x ∷ b4.x ∷ b5.x ∷ i.token ∷ ((v.front ++ b8.x ∷ []) ++ rest) =
      o.0 ∙ ap (λ (n : Lexeme). n ∷ b3.more) s1.0 ∙ ap (λ (us : List Lexeme). b1.x ∷ us) (c.0 ∙ ap (λ (us : List Lexeme). b4.x ∷ us) classed) in
      record {
        front = k.token ∷ b1.x ∷ b4.x ∷ b5.x ∷ i.token ∷ (v.front ++ b8.x ∷ []);
        split = k.split ∙ ap (λ (us : List Lexeme). k.token ∷ us) owned;
        is = (
          b6.x,
          (k.token, b1.x, b4.x, b5.x, i.token, b8.x, v.front, refl, k.is, subst (IsOwner is_port a) s1.0 o.1, c.1, w.1, i.is, v.is, z.1),
          sym s2.0,
        );
      }

  form_read : (name : Lexeme) (a : Attribute) (v : Value) (front rest : List Lexeme) → IsAttribute is_port a v front → AreTokens front
      → attribute_form is_port name a (front ++ rest) ≡ fits (with_value (record { name = name; attribute = a; value = v }) v) rest
  form_read name a v front rest h tokens =
      let of_word = h.0 in
      let own = h.1 in
      let colon_mark = h.2 in
      let class = h.3 in
      let is_word = h.4 in
      let end = h.5 in
      let value = h.6 in
      let all = subst AreTokens h.7 tokens in
      let here : value_of a (upper own.text) (value ++ end ∷ rest) ≡ fits v (end ∷ rest) =
      attribute_value_read a (upper own.text) value v (end ∷ rest) h.13 (front_tokens value (end ∷ []) all.1.1.1.1.1) (other_mark semi 38 end h.14 refl) in
      let test : (is_tap a && not (is_port own.text)) ≡ false = tap_not (is_tap a) (is_port own.text) h.9.1 in
      let whole : attribute_form is_port name a (of_word ∷ own ∷ colon_mark ∷ class ∷ is_word ∷ (value ++ end ∷ rest)) ≡ fits (with_value (record { name = name; attribute = a; value = v }) v) rest =
      rw (h.8, h.9.0, test, mark_is colon colon_mark h.10, h.11, h.12, here, mark_is semi end h.14) refl in
      subst (λ us. attribute_form is_port name a (us ++ rest) ≡ fits (with_value (record { name = name; attribute = a; value = v }) v) rest) (sym h.7)
      (ap (λ (us : List Lexeme). attribute_form is_port name a (of_word ∷ own ∷ colon_mark ∷ class ∷ is_word ∷ us)) (append_assoc value (end ∷ []) rest) ∙ whole)

  -- ---- items

  -- what is passed over behind words that stand in front
  passed_item : (front : List Lexeme → List Lexeme) (g : Option Given) (ts rest : List Lexeme) → ((us vs : List Lexeme) → front (us ++ vs) ≡ front us ++ vs) → ((us : List Lexeme) → IsPassedOver us → IsItem is_port None (front us))
      → nothing (past_semi ts) ≡ fits g rest → Found (IsItem is_port) g (front ts) rest
  passed_item front g ts rest before make e =
      let b = bound (past_semi ts) (λ o more. fits None more) g rest e in
      let f = semi_found ts b.x b.more b.first in
      let s = same_read None g b.more rest b.next in
      subst (λ x. Found (IsItem is_port) x (front ts) rest) s.0
      (record { front = front f.front; split = ap front (f.split ∙ ap (λ (us : List Lexeme). f.front ++ us) s.1) ∙ before f.front rest; is = make f.front f.is })

  attribute_by : (word name : Lexeme) (ts : List Lexeme) (o : Option Attribute) (g : Option Given) (rest : List Lexeme) → Spells (codes "ATTRIBUTE") word → IsWord name → attribute_of name.text ≡ o → attribute is_port name o ts ≡ fits g rest
      → Found (IsItem is_port) g (word ∷ name ∷ ts) rest
  attribute_by word name ts None g rest w n is e =
      passed_item (λ us. word ∷ name ∷ us) g ts rest (λ us vs. refl) (λ us p. other word name us w n is p) e
  attribute_by word name ts (Some a) g rest w n is e =
      let f = form_found name a ts g rest e in
      let h = f.is in
      subst (λ x. Found (IsItem is_port) x (word ∷ name ∷ ts) rest) (sym h.2)
      (record { front = word ∷ name ∷ f.front; split = ap (λ (us : List Lexeme). word ∷ name ∷ us) f.split; is = given word name f.front a h.0 w n is h.1 })

  attribute_item_found : Finds (attribute_item is_port) (IsItem is_port)
  attribute_item_found ts g rest e =
      let b1 = bound (this_word (codes "ATTRIBUTE") ts) (λ k a. word a >>= λ name b. attribute is_port name (attribute_of name.text) b) g rest e in
      let k = this_found (codes "ATTRIBUTE") ts b1.x b1.more b1.first in
      let b2 = bound (word b1.more) (λ name b. attribute is_port name (attribute_of name.text) b) g rest b1.next in
      let w = word_found b1.more b2.x b2.more b2.first in
      subst (λ us. Found (IsItem is_port) g us rest) (sym (k.split ∙ ap (λ (us : List Lexeme). k.token ∷ us) w.0))
      (attribute_by k.token b2.x b2.more (attribute_of b2.x.text) g rest k.is w.1 refl b2.next)

  item_by : (ts : List Lexeme) (uses constants : Bool) (g : Option Given) (rest : List Lexeme) → begins (codes "USE") ts ≡ uses → begins (codes "CONSTANT") ts ≡ constants
      → cond (uses || constants) (nothing (past_semi (drop 1 ts))) (attribute_item is_port ts) ≡ fits g rest → Found (IsItem is_port) g ts rest
  item_by [] true constants g rest u c e = absurd cc
  item_by (t ∷ ts) true constants g rest u c e = passed_item (λ us. t ∷ us) g ts rest (λ us vs. refl) (λ us p. use_clause t us u p) e
  item_by [] false true g rest u c e = absurd cc
  item_by (t ∷ ts) false true g rest u c e = passed_item (λ us. t ∷ us) g ts rest (λ us vs. refl) (λ us p. constant t us c p) e
  item_by ts false false g rest u c e = attribute_item_found ts g rest e

  item_found : Finds (item is_port) (IsItem is_port)
  item_found ts g rest e = item_by ts (begins (codes "USE") ts) (begins (codes "CONSTANT") ts) g rest refl refl e

  item_read : {g : Option Given} {front : List Lexeme} → IsItem is_port g front → AreTokens front → (rest : List Lexeme) → item is_port (front ++ rest) ≡ fits g rest
  item_read (use_clause word ts w p) tokens rest = rw (w, semi_read ts rest p) refl
  item_read (constant word ts w p) tokens rest = rw (other_word (codes "CONSTANT") (codes "USE") word w refl, w, semi_read ts rest p) refl
  item_read (other word name ts w n none p) tokens rest =
      rw (other_word (codes "ATTRIBUTE") (codes "USE") word w refl, other_word (codes "ATTRIBUTE") (codes "CONSTANT") word w refl, w, n, none, semi_read ts rest p) refl
  item_read (given word name ts a v w n is h) tokens rest =
      rw (other_word (codes "ATTRIBUTE") (codes "USE") word w refl, other_word (codes "ATTRIBUTE") (codes "CONSTANT") word w refl, w, word_is name n, is) (form_read name a v ts rest h tokens.1.1)

  -- an item begins with a word that is not `end`
  record FirstWord (front : List Lexeme) : Type 0 where
    first : Lexeme
    more : List Lexeme
    split : front ≡ first ∷ more
    goes : same_name first.text (codes "END") ≡ false

  item_first : {g : Option Given} {front : List Lexeme} → IsItem is_port g front → FirstWord front
  item_first (use_clause word ts w p) = record { first = word; more = ts; split = refl; goes = other_word (codes "USE") (codes "END") word w refl }
  item_first (constant word ts w p) = record { first = word; more = ts; split = refl; goes = other_word (codes "CONSTANT") (codes "END") word w refl }
  item_first (other word name ts w n none p) = record { first = word; more = name ∷ ts; split = refl; goes = other_word (codes "ATTRIBUTE") (codes "END") word w refl }
  item_first (given word name ts a v w n is h) = record { first = word; more = name ∷ ts; split = refl; goes = other_word (codes "ATTRIBUTE") (codes "END") word w refl }

  -- ---- items, one after another

  abbrev pub ItemsGive : List Given → List Lexeme → Type 0
  ItemsGive gs ts = (os : List (Option Given)) × AreItems is_port os ts × (gs ≡ all_given os)

  none_give : (ts : List Lexeme) (gs : List Given) (rest : List Lexeme) → fits [] ts ≡ fits gs rest → Found ItemsGive gs ts rest
  none_give ts gs rest e =
      let s = same_read [] gs ts rest e in
      record { front = []; split = s.1; is = ([], refl, sym s.0) }

  items_by : (n : ℕ) (ts : List Lexeme) (ends : Bool) (gs : List Given) (rest : List Lexeme) → Finds (items is_port n) ItemsGive
      → cond ends (fits [] ts) (item is_port ts >>= λ g rest. items is_port n rest >>= λ gs after. fits (and_given g gs) after) ≡ fits gs rest → Found ItemsGive gs ts rest
  items_by n ts true gs rest again e = none_give ts gs rest e
  items_by n ts false gs rest again e =
      let b1 = bound (item is_port ts) (λ g rest. items is_port n rest >>= λ gs after. fits (and_given g gs) after) gs rest e in
      let f = item_found ts b1.x b1.more b1.first in
      let b2 = bound (items is_port n b1.more) (λ gs after. fits (and_given b1.x gs) after) gs rest b1.next in
      let m = again b1.more b2.x b2.more b2.first in
      let s = same_read (and_given b1.x b2.x) gs b2.more rest b2.next in
      let h = m.is in
      record {
        front = f.front ++ m.front;
        split = joined_split ts f.front b1.more m.front rest f.split (m.split ∙ ap (λ (us : List Lexeme). m.front ++ us) s.1);
        is = (b1.x ∷ h.0, (f.front, m.front, refl, f.is, h.1), sym s.0 ∙ ap (and_given b1.x) h.2);
      }

  last_by : (ts : List Lexeme) (ends : Bool) (gs : List Given) (rest : List Lexeme) → cond ends (fits [] ts) (refused_at ts) ≡ fits gs rest → Found ItemsGive gs ts rest
  last_by ts true gs rest e = none_give ts gs rest e
  last_by ts false gs rest e = absurd (refused ts gs rest e)
    where
      refused : (us : List Lexeme) (gs : List Given) (rest : List Lexeme) → refused_at us ≡ fits gs rest → ⊥
      refused us gs rest e = cc

  pub items_found : (n : ℕ) → Finds (items is_port n) ItemsGive
  unfolding items
  items_found zero ts gs rest e = last_by ts (begins (codes "END") ts) gs rest e
  items_found (suc n) ts gs rest e = items_by n ts (begins (codes "END") ts) gs rest (items_found n) e

  items_end : (n : ℕ) (rest : List Lexeme) → begins (codes "END") rest ≡ true → items is_port n rest ≡ fits [] rest
  unfolding items
  items_end zero rest end = rw end refl
  items_end (suc n) rest end = rw end refl

  one_item : (n : ℕ) (o : Option Given) (gs : List Given) (ts more rest : List Lexeme) → begins (codes "END") ts ≡ false → item is_port ts ≡ fits o more → items is_port n more ≡ fits gs rest
      → items is_port (suc n) ts ≡ fits (and_given o gs) rest
  unfolding items
  one_item n o gs ts more rest goes here later = rw (goes, here, later) refl

  pub items_read : (os : List (Option Given)) (n : ℕ) (front rest : List Lexeme) → AreItems is_port os front → AreTokens front → length front ≤ n → begins (codes "END") rest ≡ true → items is_port n (front ++ rest) ≡ fits (all_given os) rest
  items_read [] n front rest h tokens short end = subst (λ us. items is_port n (us ++ rest) ≡ fits [] rest) (sym h) (items_end n rest end)
  items_read (o ∷ os) zero front rest h tokens short end =
      let w = item_first h.3 in
      let len : length front ≡ suc (length (w.more ++ h.1)) = ap length (h.2 ∙ ap (λ (us : List Lexeme). us ++ h.1) w.split) in
      absurd (omega (arith, len))
  items_read (o ∷ os) (suc n) front rest h tokens short end =
      let w = item_first h.3 in
      let all = subst AreTokens h.2 tokens in
      let len : length front ≡ suc (length (w.more ++ h.1)) = ap length (h.2 ∙ ap (λ (us : List Lexeme). us ++ h.1) w.split) in
      let goes : begins (codes "END") ((h.0 ++ h.1) ++ rest) ≡ false = subst (λ us. begins (codes "END") ((us ++ h.1) ++ rest) ≡ false) (sym w.split) w.goes in
      let here : item is_port ((h.0 ++ h.1) ++ rest) ≡ fits o (h.1 ++ rest) = ap (item is_port) (append_assoc h.0 h.1 rest) ∙ item_read h.3 (front_tokens h.0 h.1 all) (h.1 ++ rest) in
      let later : items is_port n (h.1 ++ rest) ≡ fits (all_given os) rest = items_read os n h.1 rest h.4 (back_tokens h.0 h.1 all) (omega (arith, len, length-append w.more h.1)) end in
      subst (λ us. items is_port (suc n) (us ++ rest) ≡ fits (all_given (o ∷ os)) rest) (sym h.2)
      (one_item n o (all_given os) ((h.0 ++ h.1) ++ rest) (h.1 ++ rest) rest goes here later)
