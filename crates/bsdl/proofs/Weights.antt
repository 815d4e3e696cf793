-- What reading gives weighs no more than the tokens that it takes, and tokens no more than their text.
use Rattle.std.specs.Prelude.{⊤}
use Rattle.std.proofs.Common.{◌≡◌, ◌≤◌, ℕ, zero, suc, ◌+◌, ◌-◌, Bool, true, false, List, [], ◌∷◌, length, drop, refl, ap, arith}
use Rattle.std.specs.Prelude.{Option, Some, None, if◌then◌else◌}
use Rattle.std.proofs.lemmas.List.{length-append, length-drop, length-take-le}
use Rattle.bsdl_text.specs.Cutting.{Lexeme, bad_place, cuts_of, tokens}
pub use Rattle.bsdl_text.proofs.Heft.{heft, size, tokens_weigh}
use Rattle.bsdl_text.specs.Words.{inner, text_within}
use Rattle.bsdl_text.specs.Reading.{Read, fits, misfit, ◌>>=◌, chain, complete, further, joined_by, joined_text, keyword, separated, mark, meant, one, quoted_value, refused_at, stands, string}
use Rattle.bsdl.specs.Small.{total}

-- what is read and what stands behind it weigh no more than this
abbrev pub Weighs : {A : Type 0} → (A → ℕ) → ℕ → Read A → Type 0
Weighs w n (fits x rest) = w x + size rest ≤ n
Weighs w n (misfit at) = ⊤

-- ---- one after the other

pub bind : {A B : Type 0} (w : A → ℕ) (v : B → ℕ) (n m : ℕ) (r : Read A) (f : A → List Lexeme → Read B) → Weighs w n r → ((x : A) (rest : List Lexeme) → w x + size rest ≤ n → Weighs v m (f x rest)) → Weighs v m (r >>= f)
bind w v n m (fits x rest) f here next = next x rest here
bind w v n m (misfit at) f here next = tt

pub weaker : {A : Type 0} (w : A → ℕ) (n m : ℕ) (r : Read A) → n ≤ m → Weighs w n r → Weighs w m r
weaker w n m (fits x rest) more here = omega (arith, more, here)
weaker w n m (misfit at) more here = tt

pub choose : {A : Type 0} (w : A → ℕ) (n : ℕ) (b : Bool) (r s : Read A) → Weighs w n r → Weighs w n s → Weighs w n (if b then r else s)
choose w n true r s first second = first
choose w n false r s first second = second

-- ---- tokens

pub one_weighs : (test : Lexeme → Bool) (ts : List Lexeme) → Weighs (λ t. heft t.text) (size ts) (one test ts)
one_weighs test [] = tt
one_weighs test (t ∷ ts) = choose (λ x. heft x.text) (heft t.text + size ts) (test t) (fits t ts) (misfit (Some t.start)) (omega arith) tt

pub meant_weighs : {A : Type 0} (w : A → ℕ) (n : ℕ) (o : Option A) (place : ℕ) (rest : List Lexeme) → ((x : A) → o ≡ Some x → w x + size rest ≤ n) → Weighs w n (meant o place rest)
meant_weighs w n None place rest each = tt
meant_weighs w n (Some x) place rest each = each x refl

pub keyword_weighs : {A : Type 0} (meaning : List ℕ → Option A) (ts : List Lexeme) → Weighs (λ _. 0) (size ts) (keyword meaning ts)
keyword_weighs meaning [] = tt
keyword_weighs meaning (t ∷ ts) = meant_weighs (λ _. 0) (heft t.text + size ts) (meaning t.text) t.start ts (λ x is. omega arith)

pub dropped : (ts : List Lexeme) → size (drop 1 ts) ≤ size ts
dropped [] = omega arith
dropped (t ∷ ts) = omega arith

-- ---- lists

pub further_weighs : {A : Type 0} (w : A → ℕ) (item : List Lexeme → Read A) (separator : ℕ) (closes : List Lexeme → Bool) → ((ts : List Lexeme) → Weighs w (size ts) (item ts))
    → (n : ℕ) (ts : List Lexeme) → Weighs (total w) (size ts) (further item separator closes n ts)
unfolding further
further_weighs w item separator closes each zero ts = choose (total w) (size ts) (closes ts) (fits [] ts) (refused_at ts) (omega arith) tt
further_weighs w item separator closes each (suc n) ts =
    choose (total w) (size ts) (closes ts) (fits [] ts) _ (omega arith)
    (bind (λ t. heft t.text) (total w) (size ts) (size ts) (mark separator ts) _ (one_weighs _ ts)
    (λ m rest behind. choose (total w) (size ts) (closes rest) (fits [] rest) _ (omega (arith, behind))
    (bind w (total w) (size rest) (size ts) (item rest) _ (each rest)
    (λ x more less. bind (total w) (total w) (size more) (size ts) (further item separator closes n more) _ (further_weighs w item separator closes each n more)
    (λ xs after last. omega (arith, behind, less, last))))))

pub listed_weighs : {A : Type 0} (w : A → ℕ) (item : List Lexeme → Read A) (separator : ℕ) (closes : List Lexeme → Bool) → ((ts : List Lexeme) → Weighs w (size ts) (item ts))
    → (ts : List Lexeme) → Weighs (total w) (size ts) (separated item separator closes ts)
listed_weighs w item separator closes each ts =
    bind w (total w) (size ts) (size ts) (item ts) _ (each ts)
    (λ x rest less. bind (total w) (total w) (size rest) (size ts) (further item separator closes (length rest) rest) _ (further_weighs w item separator closes each (length rest) rest)
    (λ xs after last. omega (arith, less, last)))

pub chain_weighs : {A : Type 0} (w : A → ℕ) (item : List Lexeme → Read A) (separator : ℕ) → ((ts : List Lexeme) → Weighs w (size ts) (item ts))
    → (n : ℕ) (ts : List Lexeme) → Weighs (total w) (size ts) (chain item separator n ts)
unfolding chain
chain_weighs w item separator each zero ts = omega arith
chain_weighs w item separator each (suc n) ts =
    choose (total w) (size ts) (stands separator ts) _ (fits [] ts)
    (bind (λ t. heft t.text) (total w) (size ts) (size ts) (mark separator ts) _ (one_weighs _ ts)
    (λ m rest behind. bind w (total w) (size rest) (size ts) (item rest) _ (each rest)
    (λ x more less. bind (total w) (total w) (size more) (size ts) (chain item separator n more) _ (chain_weighs w item separator each n more)
    (λ xs after last. omega (arith, behind, less, last)))))
    (omega arith)

pub joined_weighs : {A : Type 0} (w : A → ℕ) (item : List Lexeme → Read A) (separator : ℕ) → ((ts : List Lexeme) → Weighs w (size ts) (item ts))
    → (ts : List Lexeme) → Weighs (total w) (size ts) (joined_by item separator ts)
joined_weighs w item separator each ts =
    bind w (total w) (size ts) (size ts) (item ts) _ (each ts)
    (λ x rest less. bind (total w) (total w) (size rest) (size ts) (chain item separator (length rest) rest) _ (chain_weighs w item separator each (length rest) rest)
    (λ xs after last. omega (arith, less, last)))

-- ---- a text and its tokens

inner_len : (t : Lexeme) → length (inner t) ≤ heft t.text
inner_len t = omega (arith, length-take-le (length t.text - 2) (drop 1 t.text), length-drop 1 t.text)

joined_len : (strings : List Lexeme) → length (text_within strings) ≤ total (λ t. heft t.text) strings
joined_len [] = omega arith
joined_len (t ∷ ts) = omega (arith, length-append (inner t) (text_within ts), inner_len t, joined_len ts)

pub joined_text_weighs : (ts : List Lexeme) → Weighs length (size ts) (joined_text ts)
joined_text_weighs ts =
    bind (total (λ t. heft t.text)) length (size ts) (size ts) (joined_by string 38 ts) _ (joined_weighs (λ t. heft t.text) string 38 (λ us. one_weighs _ us) ts)
    (λ strings rest less. omega (arith, less, joined_len strings))

complete_weighs : {A : Type 0} (w : A → ℕ) (n : ℕ) (bad : Option ℕ) (r : Read A) (x : A) → Weighs w n r → complete bad r ≡ Some x → w x ≤ n
complete_weighs w n None (fits y []) x here e =
    let same : y ≡ x = cc in
    omega (arith, here, ap w same)
complete_weighs w n None (fits y (t ∷ ts)) x here e = absurd cc
complete_weighs w n None (misfit at) x here e = absurd cc
complete_weighs w n (Some place) r x here e = absurd cc

pub quoted_value_weighs : {A : Type 0} (w : A → ℕ) (item : List Lexeme → Read A) → ((ts : List Lexeme) → Weighs w (size ts) (item ts)) → (text : List ℕ) (x : A) → quoted_value item text ≡ Some x → w x ≤ length text
quoted_value_weighs w item each text x e =
    let here = complete_weighs w (size (tokens (cuts_of true text))) (bad_place (cuts_of true text)) (item (tokens (cuts_of true text))) x (each (tokens (cuts_of true text))) e in
    omega (arith, here, tokens_weigh true text)
