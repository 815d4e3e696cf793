-- Ports one group after another.
use Rattle.std.proofs.Common.{◌≡◌, ◌<◌, ℕ, suc, Bool, true, false, ◌&&◌, ◌+◌, ◌-◌, min, List, [], ◌∷◌, ◌++◌, length, refl, ap, sym, ◌∙◌, drop, get_or, map, arith}
use Rattle.std.specs.Prelude.{nat_le, Option, Some, None, Result, Ok, Err}
use Rattle.std.specs.List.{list_all, sum_by}
use Rattle.std.proofs.lemmas.Bool.{and_parts}
use Rattle.std.proofs.lemmas.List.{at_drop_more}
use Rattle.std.proofs.lemmas.List.Folds.{list_all-append}
use Rattle.std.proofs.lemmas.List.Sums.{sum_by_push}
use Rattle.std.proofs.lemmas.Bool.Decides.{nat_tests}
use Rattle.jt_limits.specs.Limits.{limits, subscript_limit}
use Rattle.bsdl_text.specs.Cutting.{Lexeme}
use Rattle.bsdl_text.specs.WordView.{word_lexeme}
use Rattle.bsdl_text.specs.declared.names.Word.{Word}
use Rattle.bsdl_device.specs.declared.PortMode.{PortMode}
use Rattle.bsdl_entity.specs.Ports.{Port, Range}
use Rattle.bsdl_entity.specs.PortBits.{highest, width}
use Rattle.bsdl_entity.specs.PortsView as view
use Rattle.bsdl_rules.specs.Limits.{ports_fit}
use Rattle.bsdl_entity.specs.declared.ports.Group as declared_group
use Rattle.bsdl_sizes.specs.Counting.{bits_left, left_behind, names_behind, width_within}
use Rattle.bsdl_sizes.specs.Limits.{port_beyond}

abbrev pub then_left : Result ℕ ℕ → List Port → Result ℕ ℕ
then_left (Ok n) ps = left_behind n ps
then_left (Err start) ps = Err start

-- those of a list and then those of another
pub left_behind-append : (most : ℕ) (ps qs : List Port) → left_behind most (ps ++ qs) ≡ then_left (left_behind most ps) qs
left_behind-append most [] qs = refl
left_behind-append most (p ∷ ps) qs = by_bits (bits_left most (width_within p.range)) refl (λ left. left_behind-append left ps qs)
  where
    by_bits : (o : Option ℕ) → bits_left most (width_within p.range) ≡ o → ((left : ℕ) → left_behind left (ps ++ qs) ≡ then_left (left_behind left ps) qs)
        → left_behind most (p ∷ (ps ++ qs)) ≡ then_left (left_behind most (p ∷ ps)) qs
    by_bits None is behind = rw is refl
    by_bits (Some left) is behind = rw is (behind left)

-- a group and those behind it
pub group_left : (gs : List declared_group.Group) (i : ℕ) (g : declared_group.Group) (most : ℕ) → i < length gs → g ≡ get_or gs i g
    → left_behind most (view.ports (drop i gs)) ≡ then_left (left_behind most (view.group g)) (view.ports (drop (i + 1) gs))
group_left gs i g most h is =
    at_drop_more (λ xs. left_behind most (view.ports xs)) gs i g h
    ∙ left_behind-append most (view.group (get_or gs i g)) (view.ports (drop (i + 1) gs))
    ∙ ap (λ (k : declared_group.Group). then_left (left_behind most (view.group k)) (view.ports (drop (i + 1) gs))) (sym is)

abbrev pub place_of : Result ℕ ℕ → Option ℕ
place_of (Ok left) = None
place_of (Err start) = Some start

-- ---- the bits that are left, and the ports that fit

abbrev pub is_small : Port → Bool
is_small p = nat_le (highest p.range) subscript_limit

abbrev pub bits : Port → ℕ
bits p = width p.range

one_more : (sum more left most : ℕ) → sum + left ≡ most → nat_le (sum + more) most ≡ nat_le more left
one_more sum more left most h = grind (arith, nat_tests, h)

-- whether a port more fits, by the bits that those before it leave
pub fits_more : (before : List Port) (p : Port) (left : ℕ) → ports_fit before ≡ true → sum_by bits before + left ≡ limits.port_bits
    → ports_fit (before ++ p ∷ []) ≡ (is_small p && nat_le (bits p) left)
fits_more before p left fit sum =
    let small : list_all is_small before ≡ true = (and_parts (list_all is_small before) (nat_le (sum_by bits before) limits.port_bits) fit).0 in
    rw (list_all-append is_small before (p ∷ [])) (rw small (rw (sum_by_push bits before p) (by (is_small p))))
  where
    by : (b : Bool) → ((b && true) && nat_le (sum_by bits before + bits p) limits.port_bits) ≡ (b && nat_le (bits p) left)
    by true = one_more (sum_by bits before) (bits p) left limits.port_bits sum
    by false = refl

-- the first port that is too large is that at which the others end
pub beyond_from : (before ps : List Port) (left : ℕ) → ports_fit before ≡ true → sum_by bits before + left ≡ limits.port_bits
    → place_of (left_behind left ps) ≡ port_beyond before ps
beyond_from before [] left fit sum = refl
beyond_from before (p ∷ ps) left fit sum = by (is_small p) refl (nat_le (bits p) left) refl (fits_more before p left fit sum) (beyond_from (before ++ p ∷ []) ps (left - bits p))
  where
    by : (a : Bool) → is_small p ≡ a → (b : Bool) → nat_le (bits p) left ≡ b → ports_fit (before ++ p ∷ []) ≡ (is_small p && nat_le (bits p) left)
        → (ports_fit (before ++ p ∷ []) ≡ true → sum_by bits (before ++ p ∷ []) + (left - bits p) ≡ limits.port_bits → place_of (left_behind (left - bits p) ps) ≡ port_beyond (before ++ p ∷ []) ps)
        → place_of (left_behind left (p ∷ ps)) ≡ port_beyond before (p ∷ ps)
    by false x b y more behind = let none : ports_fit (before ++ p ∷ []) ≡ false = more ∙ rw x refl in rw none (rw x refl)
    by true x false y more behind = let none : ports_fit (before ++ p ∷ []) ≡ false = more ∙ rw x (rw y refl) in rw none (rw x (rw y refl))
    by true x true y more behind =
        let fits : ports_fit (before ++ p ∷ []) ≡ true = more ∙ rw x (rw y refl) in
        let all : sum_by bits (before ++ p ∷ []) + (left - bits p) ≡ limits.port_bits = rw (sum_by_push bits before p) (grind (arith, nat_tests, y, sum)) in
        rw fits (rw x (rw y (behind fits all)))

pub beyond_by : (ps : List Port) (r : Result ℕ ℕ) → r ≡ left_behind limits.port_bits ps → place_of r ≡ port_beyond [] ps
beyond_by ps r is = rw is (beyond_from [] ps limits.port_bits refl refl)

-- the bits of a range whose indices are within their limit
pub width_by : (r : Range) (high low bits : ℕ) → nat_le r.high subscript_limit ≡ true → high ≡ min r.high (suc subscript_limit) → low ≡ min r.low (suc subscript_limit) → bits ≡ high - low
    → Some (bits + 1) ≡ width_within (Some r)
width_by r high low bits within high_is low_is bits_is =
    let same : bits + 1 ≡ r.high - r.low + 1 = grind (arith, nat_tests, within, high_is, low_is, bits_is) in
    rw within (ap (λ (n : ℕ). Some n) same)

-- one name more
pub name_left : (width : Option ℕ) (names : List Word) (i left fewer : ℕ) → i < length names → bits_left left width ≡ Some fewer
    → names_behind left width (map word_lexeme (drop i names)) ≡ names_behind fewer width (map word_lexeme (drop (i + 1) names))
name_left width [] i left fewer h is = absurd (omega (arith, h))
name_left width (x ∷ xs) i left fewer h is =
    at_drop_more (λ ns. names_behind left width (map word_lexeme ns)) (x ∷ xs) i x h ∙ rw is refl

-- the ports of these names
pub of_names : (mode : PortMode) (range : Option Range) (most : ℕ) (ns : List Lexeme) → names_behind most (width_within range) ns
    ≡ left_behind most (map (λ (n : Lexeme). record { name = n; mode = mode; range = range }) ns)
of_names mode range most [] = refl
of_names mode range most (n ∷ ns) = by_bits (bits_left most (width_within range)) refl (λ left. of_names mode range left ns)
  where
    by_bits : (o : Option ℕ) → bits_left most (width_within range) ≡ o
        → ((left : ℕ) → names_behind left (width_within range) ns ≡ left_behind left (map (λ (n : Lexeme). record { name = n; mode = mode; range = range }) ns))
        → names_behind most (width_within range) (n ∷ ns) ≡ left_behind most (map (λ (n : Lexeme). record { name = n; mode = mode; range = range }) (n ∷ ns))
    by_bits None is behind = rw is refl
    by_bits (Some left) is behind = rw is (behind left)
