-- Every range that a text declares runs from its lowest index to its highest.
use Rattle.std.specs.Prelude.{⊤}
use Rattle.std.proofs.Common.{◌≡◌, ◌≤◌, ℕ, zero, suc, Bool, true, false, min, max, nat_le, List, [], ◌∷◌, ◌++◌, length, map, refl, subst, arith}
use Rattle.std.specs.Prelude.{Option, Some, None, Result, Ok, Err, codes, if◌then◌else◌, nat_lt}
use Rattle.std.specs.List.{AllByRecursion}
use Rattle.bsdl_device.specs.declared.PortMode.{PortMode}
use Rattle.bsdl_text.specs.Cutting.{Lexeme, bad_place, cuts_of, tokens}
use Rattle.bsdl_text.specs.Marks.{closing, colon, comma, opening, semi}
use Rattle.bsdl_text.specs.Reading.{Read, fits, misfit, ◌>>=◌, further, joined_by, keyword, mark, number, refused_at, separated, stands, word}
use Rattle.bsdl_entity.specs.Keywords.{is_rising, is_vector, mode_of, this_word}
use Rattle.bsdl_entity.specs.Scalars.{is_scalar}
use Rattle.bsdl_entity.specs.Ports.{Port, Range, concat, kind_of_port, ordered, port_group, ports, range, upto}
use Rattle.bsdl_values.specs.declared.Attribute.{Attribute}
use Rattle.bsdl_values.specs.declared.Attribute.TheVariants.{InstructionLength, BoundaryLength, InstructionOpcode, InstructionCapture, BoundaryRegister}
use Rattle.bsdl_entity.specs.Entity.{File, ending, file, heading, items}
use Rattle.bsdl_description.specs.FirstValues.{as_cells, as_count, as_opcodes, as_pattern, value_given}
use Rattle.bsdl_description.specs.Describing.{Description, Refusal, described, need, taps_given, too_large, ◌>>?◌}
use Rattle.bsdl.specs.Form.{read_form, text_form, text_limit, tokens_form}

abbrev pub IsOrdered : Option Range → Type 0
IsOrdered None = ⊤
IsOrdered (Some r) = r.low ≤ r.high

abbrev pub AreOrdered : List Port → Type 0
AreOrdered ps = AllByRecursion (λ p. IsOrdered p.range) ps

-- what is read has this property
abbrev Reads : {A : Type 0} → (A → Type 0) → Read A → Type 0
Reads P (fits x rest) = P x
Reads P (misfit at) = ⊤

-- ---- one after the other

bind : {A B : Type 0} (P : A → Type 0) (Q : B → Type 0) (r : Read A) (f : A → List Lexeme → Read B) → Reads P r → ((x : A) (rest : List Lexeme) → P x → Reads Q (f x rest)) → Reads Q (r >>= f)
bind P Q (fits x rest) f here next = next x rest here
bind P Q (misfit at) f here next = tt

behind : {A B : Type 0} (Q : B → Type 0) (r : Read A) (f : A → List Lexeme → Read B) → ((x : A) (rest : List Lexeme) → Reads Q (f x rest)) → Reads Q (r >>= f)
behind Q (fits x rest) f next = next x rest
behind Q (misfit at) f next = tt

choose : {A : Type 0} (P : A → Type 0) (b : Bool) (r s : Read A) → Reads P r → Reads P s → Reads P (if b then r else s)
choose P true r s first second = first
choose P false r s first second = second

further_read : {A : Type 0} (P : A → Type 0) (item : List Lexeme → Read A) (separator : ℕ) (closes : List Lexeme → Bool) → ((ts : List Lexeme) → Reads P (item ts))
    → (n : ℕ) (ts : List Lexeme) → Reads (λ xs. AllByRecursion P xs) (further item separator closes n ts)
unfolding further
further_read P item separator closes each zero ts = choose (λ xs. AllByRecursion P xs) (closes ts) (fits [] ts) (refused_at ts) tt tt
further_read P item separator closes each (suc n) ts =
    choose (λ xs. AllByRecursion P xs) (closes ts) (fits [] ts) _ tt
    (behind (λ xs. AllByRecursion P xs) (mark separator ts) _
    (λ m rest. choose (λ xs. AllByRecursion P xs) (closes rest) (fits [] rest) _ tt
    (bind P (λ xs. AllByRecursion P xs) (item rest) _ (each rest)
    (λ x more here. bind (λ xs. AllByRecursion P xs) (λ xs. AllByRecursion P xs) (further item separator closes n more) _ (further_read P item separator closes each n more)
    (λ xs after there. (here, there))))))

separated_read : {A : Type 0} (P : A → Type 0) (item : List Lexeme → Read A) (separator : ℕ) (closes : List Lexeme → Bool) → ((ts : List Lexeme) → Reads P (item ts))
    → (ts : List Lexeme) → Reads (λ xs. AllByRecursion P xs) (separated item separator closes ts)
separated_read P item separator closes each ts =
    bind P (λ xs. AllByRecursion P xs) (item ts) _ (each ts)
    (λ x rest here. bind (λ xs. AllByRecursion P xs) (λ xs. AllByRecursion P xs) (further item separator closes (length rest) rest) _ (further_read P item separator closes each (length rest) rest)
    (λ xs after there. (here, there)))

-- ---- ports

ordered_read : (b : Bool) (first second : ℕ) (ts rest : List Lexeme) → Reads (λ r. IsOrdered (Some r)) (ordered (if b then Some (record { low = min first second; high = max first second }) else None) ts rest)
ordered_read true first second ts rest = omega arith
ordered_read false first second ts rest = tt

upto_read : (first : ℕ) (rising : Bool) (ts : List Lexeme) → Reads (λ r. IsOrdered (Some r)) (upto first rising ts)
upto_read first rising ts = behind (λ r. IsOrdered (Some r)) (number ts) _ (λ second rest. ordered_read (if rising then nat_le first second else nat_le second first) first second ts rest)

range_read : (ts : List Lexeme) → Reads IsOrdered (range ts)
range_read ts =
    behind IsOrdered (mark opening ts) _ (λ m a. behind IsOrdered (number a) _
    (λ first b. behind IsOrdered (keyword is_rising b) _ (λ rising c. bind (λ r. IsOrdered (Some r)) IsOrdered (upto first rising c) _ (upto_read first rising c)
    (λ r d here. behind IsOrdered (mark closing d) _ (λ k e. here)))))

kind_read : (ts : List Lexeme) → Reads IsOrdered (kind_of_port ts)
kind_read ts = behind IsOrdered (keyword is_vector ts) _ (λ vector a. choose IsOrdered vector (range a) (fits None a) (range_read a) tt)

named : (names : List Lexeme) (mode : PortMode) (r : Option Range) → IsOrdered r → AreOrdered (map (λ n. record { name = n; mode = mode; range = r }) names)
named [] mode r here = tt
named (n ∷ names) mode r here = (here, named names mode r here)

group_read : (ts : List Lexeme) → Reads AreOrdered (port_group ts)
group_read ts =
    behind AreOrdered (joined_by word comma ts) _ (λ names a. behind AreOrdered (mark colon a) _
    (λ m b. behind AreOrdered (keyword mode_of b) _ (λ mode c. bind IsOrdered AreOrdered (kind_of_port c) _ (kind_read c) (λ r d here. named names mode r here))))

pub all_of_both : {A : Type 0} (P : A → Type 0) (xs ys : List A) → AllByRecursion P xs → AllByRecursion P ys → AllByRecursion P (xs ++ ys)
all_of_both P [] ys first second = second
all_of_both P (x ∷ xs) ys first second = (first.0, all_of_both P xs ys first.1 second)

joined : (groups : List (List Port)) → AllByRecursion AreOrdered groups → AreOrdered (concat groups)
joined [] all = tt
joined (g ∷ groups) all = all_of_both (λ p. IsOrdered p.range) g (concat groups) all.0 (joined groups all.1)

ports_read : (ts : List Lexeme) → Reads AreOrdered (ports ts)
ports_read ts =
    behind AreOrdered (this_word (codes "PORT") ts) _ (λ p a. behind AreOrdered (mark opening a) _
    (λ m b. bind (λ gs. AllByRecursion AreOrdered gs) AreOrdered (separated port_group semi (stands closing) b) _ (separated_read AreOrdered port_group semi (stands closing) group_read b)
    (λ groups c here. behind AreOrdered (mark closing c) _ (λ k d. behind AreOrdered (mark semi d) _ (λ s e. joined groups here)))))

-- ---- a file, and what it describes

abbrev HasOrdered : File → Type 0
HasOrdered f = AreOrdered f.ports

file_read : (ts : List Lexeme) → Reads HasOrdered (file ts)
file_read ts =
    behind HasOrdered (heading ts) _ (λ g d. bind AreOrdered HasOrdered (ports d) _ (ports_read d)
    (λ ps e here. behind HasOrdered (items (is_scalar ps) (length e) e) _ (λ gs f. behind HasOrdered (ending f) _ (λ o h. here))))

pub same_ok : {A : Type 0} (x y : A) → ◌≡◌ {A = Result A Refusal} (Ok x) (Ok y) → x ≡ y
same_ok x y e = cc

form_ordered : (m : ℕ) (r : Read File) (f : File) → Reads HasOrdered r → read_form m r ≡ Ok f → HasOrdered f
form_ordered m (misfit at) f here e = absurd cc
form_ordered m (fits g rest) f here e = subst HasOrdered (same_ok g f e) here

tokens_ordered : (m : ℕ) (bad : Option ℕ) (ts : List Lexeme) (f : File) → tokens_form m bad ts ≡ Ok f → HasOrdered f
tokens_ordered m (Some place) ts f e = absurd cc
tokens_ordered m None ts f e = form_ordered m (file ts) f (file_read ts) e

pub text_ordered : (text : List ℕ) (f : File) → text_form text ≡ Ok f → AreOrdered f.ports
text_ordered text f e = by_test (nat_lt text_limit (length text)) refl
  where
    by_test : (b : Bool) → nat_lt text_limit (length text) ≡ b → AreOrdered f.ports
    by_test true is =
        let refused : Err too_large ≡ Ok f = rw is at e in
        absurd cc
    by_test false is =
        let told : tokens_form (length text) (bad_place (cuts_of false text)) (tokens (cuts_of false text)) ≡ Ok f = rw is at e in
        tokens_ordered (length text) (bad_place (cuts_of false text)) (tokens (cuts_of false text)) f told

pub needed : {A B : Type 0} (P : B → Type 0) (a : Attribute) (o : Option A) (g : A → Result B Refusal) → ((x : A) → o ≡ Some x → (d : B) → g x ≡ Ok d → P d) → (d : B) → (need a o >>? g) ≡ Ok d → P d
needed P a None g each d e = absurd cc
needed P a (Some x) g each d e = each x refl d e

pub passed : {A B : Type 0} (P : B → Type 0) (x : Result A Refusal) (g : A → Result B Refusal) → ((a : A) → x ≡ Ok a → (d : B) → g a ≡ Ok d → P d) → (d : B) → (x >>? g) ≡ Ok d → P d
passed P (Err r) g each d e = absurd cc
passed P (Ok a) g each d e = each a refl d e

abbrev DescribesOrdered : Description → Type 0
DescribesOrdered d = AreOrdered d.ports

pub described_ordered : (f : File) → AreOrdered f.ports → (d : Description) → described f ≡ Ok d → AreOrdered d.ports
described_ordered f here d e =
    passed DescribesOrdered (taps_given f.given) _ (λ taps are.
    needed DescribesOrdered InstructionLength (as_count (value_given InstructionLength f.given)) _ (λ len is-1.
    needed DescribesOrdered BoundaryLength (as_count (value_given BoundaryLength f.given)) _ (λ cells_len is-2.
    needed DescribesOrdered InstructionOpcode (as_opcodes (value_given InstructionOpcode f.given)) _ (λ opcodes is-3.
    needed DescribesOrdered InstructionCapture (as_pattern (value_given InstructionCapture f.given)) _ (λ capture is-4.
    needed DescribesOrdered BoundaryRegister (as_cells (value_given BoundaryRegister f.given)) _ (λ cells is-5 v last.
    subst DescribesOrdered (same_ok _ v last) here)))))) d e
