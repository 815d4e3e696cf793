-- Port lists are read as they are written.
use Rattle.std.proofs.Common.{◌≡◌, ℕ, ◌≤◌, Bool, true, false, cond, nat_le, List, [], ◌∷◌, ◌++◌, map, Option, Some, None, refl, sym, ap, subst, ◌∙◌, append_assoc, arith}
use Rattle.std.specs.Prelude.{codes, min, max, bytes_eq}
use Rattle.std.proofs.lemmas.Bool.Decides.{nat_tests}
use Rattle.bsdl_text.specs.Bytes.{begins_word}
use Rattle.bsdl_text.specs.Cutting.{Lexeme}
use Rattle.bsdl_text.specs.Marks.{comma, opening, closing, semi, colon}
use Rattle.bsdl_text.specs.Reading.{Read, fits, ◌>>=◌, word, mark, stands, is_mark_of, keyword, number, whole_number, joined_by, separated}
use Rattle.bsdl_device.specs.declared.PortMode.{PortMode}
use Rattle.bsdl_entity.specs.Keywords.{this_word, mode_of, is_vector, is_rising}
use Rattle.bsdl_entity.specs.Ports.{Range, Port, in_order, ordered, upto, range, kind_of_port, port_group, concat, ports}
use Rattle.worked_examples.specs.Lists.{IsMark, IsWord, StandsFor, IsToken, IsOneWord, IsChain}
use Rattle.worked_examples.specs.Ports.{first_of, second_of, IsRange, IsKind, IsGroup, IsPorts}
use Rattle.worked_examples.proofs.Steps.{Found, Finds, Reads, AreTokens, Anything, bound, same_read, joined_split, front_tokens, back_tokens, mark_found, mark_is, is_mark, word_found, word_read, keyword_found, this_found}
use Rattle.worked_examples.proofs.ListReads.{joined_found, joined_read, separated_found, separated_read}

-- ---- words

pub one_word_found : Finds word IsOneWord
one_word_found ts t rest e = let w = word_found ts t rest e in record { front = t ∷ []; split = w.0; is = (refl, w.1) }

pub one_word_read : Reads word IsOneWord Anything
one_word_read front t rest h tokens b = subst (λ us. word (us ++ rest) ≡ fits t rest) (sym h.0) (word_read t rest h.1)

-- a word is no mark
no_mark_by : (c : ℕ) (t : Lexeme) (b : Bool) → IsToken t → IsWord t → begins_word c ≡ false → is_mark_of c t ≡ b → b ≡ false
no_mark_by c t false token is none e = refl
no_mark_by c t true token is none e =
    let w = token is in
    let same : w.0 ∷ w.1 ≡ c ∷ [] = sym w.2 ∙ is_mark c t e in
    let first : w.0 ≡ c = cc in
    absurd (let f : true ≡ false = sym w.3 ∙ ap begins_word first ∙ none in cc)

pub word_no_mark : (c : ℕ) (t : Lexeme) → IsToken t → IsWord t → begins_word c ≡ false → is_mark_of c t ≡ false
word_no_mark c t token is none = no_mark_by c t (is_mark_of c t) token is none refl

-- ---- ranges

ordered_found : (o : Option Range) (ts rest : List Lexeme) (r : Range) (after : List Lexeme) → ordered o ts rest ≡ fits r after → (o ≡ Some r) × (rest ≡ after)
ordered_found None ts rest r after e = absurd cc
ordered_found (Some q) ts rest r after e = let s = same_read q r rest after e in (ap (λ z. Some z) s.0, s.1)

if_some : {A : Type 0} (b : Bool) (x y : A) → cond b (Some x) None ≡ Some y → (b ≡ true) × (x ≡ y)
if_some true x y e = (refl, cc)
if_some false x y e = absurd cc

order_found : (a b : ℕ) (rising : Bool) (r : Range) → in_order a b rising ≡ Some r → (a ≡ first_of rising r) × (b ≡ second_of rising r) × (r.low ≤ r.high)
order_found a b true r e =
    let s = if_some (nat_le a b) (record { low = min a b; high = max a b }) r e in
    let low : min a b ≡ r.low = ap (λ q. q.low) s.1 in
    let high : max a b ≡ r.high = ap (λ q. q.high) s.1 in
    let le : a ≤ b = grind (arith, nat_tests) in
    (omega (arith, low), omega (arith, high), omega (arith, low, high))
order_found a b false r e =
    let s = if_some (nat_le b a) (record { low = min a b; high = max a b }) r e in
    let low : min a b ≡ r.low = ap (λ q. q.low) s.1 in
    let high : max a b ≡ r.high = ap (λ q. q.high) s.1 in
    let le : b ≤ a = grind (arith, nat_tests) in
    (omega (arith, high), omega (arith, low), omega (arith, low, high))

order_by : (a b low high : ℕ) → nat_le a b ≡ true → low ≡ min a b → high ≡ max a b → in_order a b true ≡ Some (record { low = low; high = high })
order_by a b low high le p q = rw (le, p, q) refl

order_down : (a b low high : ℕ) → nat_le b a ≡ true → low ≡ min a b → high ≡ max a b → in_order a b false ≡ Some (record { low = low; high = high })
order_down a b low high le p q = rw (le, p, q) refl

order_read : (rising : Bool) (r : Range) → r.low ≤ r.high → in_order (first_of rising r) (second_of rising r) rising ≡ Some r
order_read true r h = order_by r.low r.high r.low r.high (grind (arith, nat_tests)) (omega arith) (omega arith)
order_read false r h = order_down r.high r.low r.low r.high (grind (arith, nat_tests)) (omega arith) (omega arith)

-- a mark is no other mark
pub other_mark : (c d : ℕ) (t : Lexeme) → IsMark c t → bytes_eq (c ∷ []) (d ∷ []) ≡ false → is_mark_of d t ≡ false
other_mark c d t h e = ap (λ (x : List ℕ). bytes_eq x (d ∷ [])) h ∙ e

pub record FoundUpto (first : ℕ) (rising : Bool) (ts : List Lexeme) (r : Range) (rest : List Lexeme) : Type 0 where
  pub second : Lexeme
  pub split : ts ≡ second ∷ rest
  pub is : StandsFor whole_number (second_of rising r) second
  pub first-is : first ≡ first_of rising r
  pub le : r.low ≤ r.high

upto_found : (first : ℕ) (rising : Bool) (ts : List Lexeme) (r : Range) (rest : List Lexeme) → upto first rising ts ≡ fits r rest → FoundUpto first rising ts r rest
upto_found first rising ts r rest e =
    let b = bound (number ts) (λ second after. ordered (in_order first second rising) ts after) r rest e in
    let n = keyword_found whole_number ts b.x b.more b.first in
    let o = ordered_found (in_order first b.x rising) ts b.more r rest b.next in
    let d = order_found first b.x rising r o.0 in
    record { second = n.token; split = cc (n.split, o.1); is = n.is ∙ ap (λ (z : ℕ). Some z) d.1; first-is = d.0; le = d.2 }

abbrev behind_range : Range → List Lexeme → Read (Option Range)
behind_range r d = mark closing d >>= λ k e. fits (Some r) e

abbrev behind_way : ℕ → Bool → List Lexeme → Read (Option Range)
behind_way first rising c = upto first rising c >>= behind_range

abbrev behind_first : ℕ → List Lexeme → Read (Option Range)
behind_first first b = keyword is_rising b >>= behind_way first

abbrev behind_opening : Lexeme → List Lexeme → Read (Option Range)
behind_opening m a = number a >>= behind_first

-- a range that is given
abbrev pub IsGivenRange : Option Range → List Lexeme → Type 0
IsGivenRange None ts = ⊥
IsGivenRange (Some r) ts = IsRange r ts

range_found : Finds range IsGivenRange
range_found ts o rest e =
    let b1 = bound (mark opening ts) behind_opening o rest e in
    let m = mark_found opening ts b1.x b1.more b1.first in
    let b2 = bound (number b1.more) behind_first o rest b1.next in
    let n = keyword_found whole_number b1.more b2.x b2.more b2.first in
    let b3 = bound (keyword is_rising b2.more) (behind_way b2.x) o rest b2.next in
    let w = keyword_found is_rising b2.more b3.x b3.more b3.first in
    let b4 = bound (upto b2.x b3.x b3.more) behind_range o rest b3.next in
    let u = upto_found b2.x b3.x b3.more b4.x b4.more b4.first in
    let b5 = bound (mark closing b4.more) (λ k e. fits (Some b4.x) e) o rest b4.next in
    let k = mark_found closing b4.more b5.x b5.more b5.first in
    let s = same_read (Some b4.x) o b5.more rest b5.next in
    subst (λ x. Found IsGivenRange x ts rest) s.0
    (record {
      front = b1.x ∷ n.token ∷ w.token ∷ u.second ∷ b5.x ∷ [];
      split = cc (m.0, n.split, w.split, u.split, k.0, s.1);
      is = (b1.x, n.token, w.token, u.second, b5.x, b3.x, refl, m.1, n.is ∙ ap (λ (z : ℕ). Some z) u.first-is, w.is, u.is, k.1, u.le);
    })

range_read : Reads range IsGivenRange Anything
range_read front None rest h tokens b = absurd h
range_read front (Some r) rest h tokens b =
    subst (λ us. range (us ++ rest) ≡ fits (Some r) rest) (sym h.6)
    (rw (mark_is opening h.0 h.7, h.8, h.9, h.10, order_read h.5 r h.12, mark_is closing h.4 h.11) refl)

-- ---- kinds

kind_by : (vector : Bool) (a : List Lexeme) (o : Option Range) (rest : List Lexeme) (t : Lexeme) → StandsFor is_vector vector t → cond vector (range a) (fits None a) ≡ fits o rest → Found IsKind o (t ∷ a) rest
kind_by true a o rest t is e = given o (range_found a o rest e)
  where
    given : (o : Option Range) → Found IsGivenRange o a rest → Found IsKind o (t ∷ a) rest
    given None f = absurd f.is
    given (Some r) f = record { front = t ∷ f.front; split = ap (λ (us : List Lexeme). t ∷ us) f.split; is = (t, f.front, refl, is, f.is) }
kind_by false a o rest t is e =
    let s = same_read None o a rest e in
    subst (λ x. Found IsKind x (t ∷ a) rest) s.0 (record { front = t ∷ []; split = ap (λ (us : List Lexeme). t ∷ us) s.1; is = (t, refl, is) })

kind_found : Finds kind_of_port IsKind
kind_found ts o rest e =
    let b = bound (keyword is_vector ts) (λ vector a. cond vector (range a) (fits None a)) o rest e in
    let k = keyword_found is_vector ts b.x b.more b.first in
    subst (λ us. Found IsKind o us rest) (sym k.split) (kind_by b.x b.more o rest k.token k.is b.next)

kind_read : Reads kind_of_port IsKind Anything
kind_read front None rest h tokens b = subst (λ us. kind_of_port (us ++ rest) ≡ fits None rest) (sym h.1) (rw h.2 refl)
kind_read front (Some r) rest h tokens b =
    let all = subst AreTokens h.2 tokens in
    subst (λ us. kind_of_port (us ++ rest) ≡ fits (Some r) rest) (sym h.2) (rw (h.3, range_read h.1 (Some r) rest h.4 all.1 tt) refl)

-- ---- groups

abbrev of_group : List Lexeme → PortMode → Option Range → List Port
of_group names mode r = map (λ n. record { name = n; mode = mode; range = r }) names

abbrev behind_mode : List Lexeme → PortMode → List Lexeme → Read (List Port)
behind_mode names mode c = kind_of_port c >>= λ r d. fits (of_group names mode r) d

abbrev behind_colon : List Lexeme → Lexeme → List Lexeme → Read (List Port)
behind_colon names m b = keyword mode_of b >>= behind_mode names

abbrev behind_names : List Lexeme → List Lexeme → Read (List Port)
behind_names names a = mark colon a >>= behind_colon names

group_found : Finds port_group IsGroup
group_found ts ps rest e =
    let b1 = bound (joined_by word comma ts) behind_names ps rest e in
    let f = joined_found word IsOneWord comma one_word_found ts b1.x b1.more b1.first in
    let b2 = bound (mark colon b1.more) (behind_colon b1.x) ps rest b1.next in
    let m = mark_found colon b1.more b2.x b2.more b2.first in
    let b3 = bound (keyword mode_of b2.more) (behind_mode b1.x) ps rest b2.next in
    let w = keyword_found mode_of b2.more b3.x b3.more b3.first in
    let b4 = bound (kind_of_port b3.more) (λ r d. fits (of_group b1.x b3.x r) d) ps rest b3.next in
    let k = kind_found b3.more b4.x b4.more b4.first in
    let s = same_read (of_group b1.x b3.x b4.x) ps b4.more rest b4.next in
    let behind : b1.more ≡ (b2.x ∷ w.token ∷ k.front) ++ rest = cc (m.0, w.split, k.split, s.1) in
    record {
      front = f.front ++ b2.x ∷ w.token ∷ k.front;
      split = joined_split ts f.front b1.more (b2.x ∷ w.token ∷ k.front) rest f.split behind;
      is = (b1.x, b3.x, b4.x, f.front, k.front, b2.x, w.token, refl, f.is, m.1, w.is, k.is, sym s.0);
    }

group_read : Reads port_group IsGroup Anything
group_read front ps rest h tokens b =
    let names = h.0 in
    let mode = h.1 in
    let r = h.2 in
    let listed = h.3 in
    let kind = h.4 in
    let m = h.5 in
    let w = h.6 in
    let all = subst AreTokens h.7 tokens in
    let behind = back_tokens listed (m ∷ w ∷ kind) all in
    let none : stands comma (m ∷ w ∷ (kind ++ rest)) ≡ false = other_mark colon comma m h.9 refl in
    let here : joined_by word comma (listed ++ m ∷ w ∷ (kind ++ rest)) ≡ fits names (m ∷ w ∷ (kind ++ rest)) =
    joined_read word IsOneWord Anything comma one_word_read (λ s ts i. tt) listed names (m ∷ w ∷ (kind ++ rest)) h.8 (front_tokens listed (m ∷ w ∷ kind) all) none tt in
    let last : kind_of_port (kind ++ rest) ≡ fits r rest = kind_read kind r rest h.11 behind.1.1 tt in
    let whole : port_group (listed ++ m ∷ w ∷ (kind ++ rest)) ≡ fits (of_group names mode r) rest = rw (here, mark_is colon m h.9, h.10, last) refl in
    subst (λ us. port_group (us ++ rest) ≡ fits ps rest) (sym h.7)
    (ap port_group (append_assoc listed (m ∷ w ∷ kind) rest) ∙ whole ∙ ap (λ (qs : List Port). fits qs rest) (sym h.12))

-- names begin with no mark
pub names_open : (c : ℕ) (names listed ts : List Lexeme) → begins_word c ≡ false → IsChain IsOneWord comma names listed → AreTokens listed → stands c (listed ++ ts) ≡ false
names_open c [] listed ts none h tokens = absurd h
names_open c (n ∷ names) listed ts none h tokens =
    let split : listed ≡ n ∷ h.1 = h.2 ∙ ap (λ (us : List Lexeme). us ++ h.1) h.3.0 in
    let all = subst AreTokens split tokens in
    subst (λ us. stands c (us ++ ts) ≡ false) (sym split) (word_no_mark c n all.0 h.3.1 none)

group_opens : (ps : List Port) (front ts : List Lexeme) → IsGroup ps front → AreTokens front → stands closing (front ++ ts) ≡ false
group_opens ps front ts h tokens =
    let all = subst AreTokens h.7 tokens in
    subst (λ us. stands closing (us ++ ts) ≡ false) (sym h.7)
    (ap (stands closing) (append_assoc h.3 (h.5 ∷ h.6 ∷ h.4) ts) ∙ names_open closing h.0 h.3 (h.5 ∷ h.6 ∷ (h.4 ++ ts)) refl h.8 (front_tokens h.3 (h.5 ∷ h.6 ∷ h.4) all))

-- ---- ports

abbrev behind_close : List (List Port) → Lexeme → List Lexeme → Read (List Port)
behind_close groups k d = mark semi d >>= λ s e. fits (concat groups) e

abbrev behind_groups : List (List Port) → List Lexeme → Read (List Port)
behind_groups groups c = mark closing c >>= behind_close groups

abbrev behind_open : Lexeme → List Lexeme → Read (List Port)
behind_open m b = separated port_group semi (stands closing) b >>= behind_groups

abbrev behind_port : Bool → List Lexeme → Read (List Port)
behind_port p a = mark opening a >>= behind_open

pub ports_found : Finds ports IsPorts
ports_found ts ps rest e =
    let b1 = bound (this_word (codes "PORT") ts) behind_port ps rest e in
    let p = this_found (codes "PORT") ts b1.x b1.more b1.first in
    let b2 = bound (mark opening b1.more) behind_open ps rest b1.next in
    let m = mark_found opening b1.more b2.x b2.more b2.first in
    let b3 = bound (separated port_group semi (stands closing) b2.more) behind_groups ps rest b2.next in
    let f = separated_found port_group IsGroup semi group_found (stands closing) b2.more b3.x b3.more b3.first in
    let b4 = bound (mark closing b3.more) (behind_close b3.x) ps rest b3.next in
    let k = mark_found closing b3.more b4.x b4.more b4.first in
    let b5 = bound (mark semi b4.more) (λ s e. fits (concat b3.x) e) ps rest b4.next in
    let s = mark_found semi b4.more b5.x b5.more b5.first in
    let same = same_read (concat b3.x) ps b5.more rest b5.next in
    let end : b3.more ≡ (b4.x ∷ b5.x ∷ []) ++ rest = cc (k.0, s.0, same.1) in
    let inner : b2.more ≡ (f.front ++ b4.x ∷ b5.x ∷ []) ++ rest = joined_split b2.more f.front b3.more (b4.x ∷ b5.x ∷ []) rest f.split end in
    record {
      front = p.token ∷ b2.x ∷ (f.front ++ b4.x ∷ b5.x ∷ []);
      split = p.split ∙ ap (λ (us : List Lexeme). p.token ∷ us) (m.0 ∙ ap (λ (us : List Lexeme). b2.x ∷ us) inner);
      is = (p.token, b2.x, b4.x, b5.x, b3.x, f.front, refl, p.is, m.1, f.is, k.1, s.1, sym same.0);
    }

pub ports_read : Reads ports IsPorts Anything
ports_read front ps rest h tokens b =
    let p = h.0 in
    let m = h.1 in
    let k = h.2 in
    let s = h.3 in
    let groups = h.4 in
    let listed = h.5 in
    let all = subst AreTokens h.6 tokens in
    let parts : (s : Lexeme) (ts : List Lexeme) → IsMark semi s → stands closing (s ∷ ts) ≡ false = λ s ts i. other_mark semi closing s i refl in
    let here : separated port_group semi (stands closing) (listed ++ k ∷ s ∷ rest) ≡ fits groups (k ∷ s ∷ rest) =
    separated_read port_group IsGroup Anything semi group_read (λ s ts i. tt) (stands closing) parts group_opens listed groups (k ∷ s ∷ rest) h.9 (front_tokens listed (k ∷ s ∷ []) all.1.1) (mark_is closing k h.10) tt in
    let whole : ports (p ∷ m ∷ (listed ++ k ∷ s ∷ rest)) ≡ fits (concat groups) rest = rw (h.7, mark_is opening m h.8, here, mark_is closing k h.10, mark_is semi s h.11) refl in
    subst (λ us. ports (us ++ rest) ≡ fits ps rest) (sym h.6)
    (ap (λ (us : List Lexeme). ports (p ∷ m ∷ us)) (append_assoc listed (k ∷ s ∷ []) rest) ∙ whole ∙ ap (λ (qs : List Port). fits qs rest) (sym h.12))
