-- How many bits ports have.
use Rattle.std.proofs.Common.{suc, ◌≡◌, ◌≢◌, ℕ, ◌+◌, ◌*◌, ◌≤◌, ◌<◌, min, Bool, true, false, ◌&&◌, List, [], ◌∷◌, length, drop, get_or, refl, sym, ap, ◌∙◌, arith}
use Rattle.std.specs.Prelude.{Option, Some, None, option_map, nat_le}
use Rattle.std.specs.List.{list_all, sum_by}
use Rattle.std.proofs.Math.Nat.{add_comm, mul-zero, mul-suc}
use Rattle.std.proofs.lemmas.Bool.Decides.{nat_tests}
use Rattle.std.proofs.lemmas.List.{at_drop_more}
use Rattle.std.proofs.lemmas.List.Sums.{sum_by-append, sum_by-cons}
use Rattle.bsdl_device.specs.declared.PortMode.{PortMode}
use Rattle.bsdl_text.specs.WordView.{word_lexeme}
use Rattle.bsdl_text.specs.declared.names.Word.{Word}
use Rattle.bsdl_entity.specs.declared.ports.Range as declared_range
use Rattle.bsdl_entity.specs.declared.ports.Group.{Group}
use Rattle.bsdl_entity.specs.Ports.{Port, Range}
use Rattle.bsdl_entity.specs.PortsView as view
use Rattle.jt_limits.specs.Limits.{limits, subscript_limit}
use Rattle.bsdl_entity.specs.PortBits.{highest, width}
use Rattle.bsdl_rules.specs.Widths.{capped_width}
use Rattle.bsdl_entity.proofs.PortsNamed.{ports_named}

abbrev pub total : List Port → ℕ
total ps = sum_by (λ p. capped_width p.range) ps

pub capped_more : (count w s : ℕ) → min (min (count + w) (suc limits.port_bits) + s) (suc limits.port_bits) ≡ min (count + (w + s)) (suc limits.port_bits)
capped_more count w s = grind arith

one_more : (mode : PortMode) (r : Option declared_range.Range) (w : Word) (ws : List Word) → total (ports_named mode r (w ∷ ws)) ≡ capped_width (option_map view.range r) + total (ports_named mode r ws)
one_more mode r w ws = sum_by-cons (λ (p : Port). capped_width p.range) (record { name = word_lexeme w; mode = mode; range = option_map view.range r }) (ports_named mode r ws)

-- the ports of a group have equally many bits, and the same highest index
pub named_total : (mode : PortMode) (r : Option declared_range.Range) (ws : List Word) → total (ports_named mode r ws) ≡ capped_width (option_map view.range r) * length ws
named_total mode r [] = sym (mul-zero (capped_width (option_map view.range r)))
named_total mode r (w ∷ ws) =
    let width = capped_width (option_map view.range r) in
    one_more mode r w ws ∙ ap (λ (n : ℕ). width + n) (named_total mode r ws) ∙ add_comm width (width * length ws) ∙ sym (mul-suc width (length ws))

pub named_within : (mode : PortMode) (r : Option declared_range.Range) (ws : List Word) → length ws ≢ 0
    → list_all (λ p. nat_le (highest p.range) subscript_limit) (ports_named mode r ws) ≡ nat_le (highest (option_map view.range r)) subscript_limit
named_within mode r [] some = absurd (some refl)
named_within mode r (w ∷ []) some = and_true (nat_le (highest (option_map view.range r)) subscript_limit)
  where
    and_true : (b : Bool) → (b && true) ≡ b
    and_true true = refl
    and_true false = refl
named_within mode r (w ∷ v ∷ ws) some =
    ap (λ (b : Bool). nat_le (highest (option_map view.range r)) subscript_limit && b) (named_within mode r (v ∷ ws) (λ e. absurd (omega (arith, e)))) ∙ and_same (nat_le (highest (option_map view.range r)) subscript_limit)
  where
    and_same : (b : Bool) → (b && b) ≡ b
    and_same true = refl
    and_same false = refl

pub groups_more : (g : Group) (gs : List Group) → total (view.ports (g ∷ gs)) ≡ total (view.group g) + total (view.ports gs)
groups_more g gs = sum_by-append (λ (p : Port). capped_width p.range) (view.group g) (view.ports gs)

-- where no index is above 65,535, that is the number of bits
exact : (r : Option Range) → nat_le (highest r) subscript_limit ≡ true → capped_width r ≡ width r
exact None within = refl
exact (Some r) within =
    let high : r.high ≤ subscript_limit = grind (arith, nat_tests) in
    omega arith

pub all_exact : (ps : List Port) → list_all (λ p. nat_le (highest p.range) subscript_limit) ps ≡ true → total ps ≡ sum_by (λ p. width p.range) ps
all_exact [] within = refl
all_exact (p ∷ ps) within =
    let parts = both (nat_le (highest p.range) subscript_limit) (list_all (λ q. nat_le (highest q.range) subscript_limit) ps) within in
    sum_by-cons (λ (q : Port). capped_width q.range) p ps ∙ ap (λ (n : ℕ). n + total ps) (exact p.range parts.0) ∙ ap (λ (n : ℕ). width p.range + n) (all_exact ps parts.1)
    ∙ sym (sum_by-cons (λ (q : Port). width q.range) p ps)
  where
    both : (a b : Bool) → (a && b) ≡ true → (a ≡ true) × (b ≡ true)
    both true b h = (refl, h)
    both false b h = absurd cc

pub ports_by : (ps : List Port) → (list_all (λ p. nat_le (highest p.range) subscript_limit) ps && nat_le (total ps) limits.port_bits)
    ≡ (list_all (λ p. nat_le (highest p.range) subscript_limit) ps && nat_le (sum_by (λ p. width p.range) ps) limits.port_bits)
ports_by ps = by_test (list_all (λ p. nat_le (highest p.range) subscript_limit) ps) refl
  where
    by_test : (b : Bool) → list_all (λ p. nat_le (highest p.range) subscript_limit) ps ≡ b → (list_all (λ p. nat_le (highest p.range) subscript_limit) ps && nat_le (total ps) limits.port_bits)
        ≡ (list_all (λ p. nat_le (highest p.range) subscript_limit) ps && nat_le (sum_by (λ p. width p.range) ps) limits.port_bits)
    by_test true is = ap (λ (n : ℕ). list_all (λ p. nat_le (highest p.range) subscript_limit) ps && nat_le n limits.port_bits) (all_exact ps is)
    by_test false is = rw is refl

-- ---- the count, one port and one group more

pub group_counted : (gs : List Group) (i : ℕ) (g : Group) (count next : ℕ) → i < length gs → g ≡ get_or gs i g → next ≡ min (count + total (view.group g)) (suc limits.port_bits)
    → min (next + total (view.ports (drop (i + 1) gs))) (suc limits.port_bits) ≡ min (count + total (view.ports (drop i gs))) (suc limits.port_bits)
group_counted gs i g count next h is next_is =
    let rest = total (view.ports (drop (i + 1) gs)) in
    let whole : total (view.ports (drop i gs)) ≡ total (view.group g) + rest =
    at_drop_more (λ xs. total (view.ports xs)) gs i g h ∙ groups_more (get_or gs i g) (drop (i + 1) gs) ∙ ap (λ (k : Group). total (view.group k) + rest) (sym is) in
    ap (λ (n : ℕ). min (n + rest) (suc limits.port_bits)) next_is ∙ capped_more count (total (view.group g)) rest ∙ ap (λ (n : ℕ). min (count + n) (suc limits.port_bits)) (sym whole)

pub is_counted : (count total : ℕ) → count ≤ (suc limits.port_bits) → min (count + 0) (suc limits.port_bits) ≡ min total (suc limits.port_bits) → count ≡ min total (suc limits.port_bits)
is_counted count total small e = omega arith

pub counted : (before product total bits added result : ℕ) → product ≡ total → bits ≡ min product 18446744073709551615 → added ≡ min (before + bits) 18446744073709551615
    → result ≡ min added (suc limits.port_bits) → result ≡ min (before + total) (suc limits.port_bits)
counted before product total bits added result product_is bits_is added_is result_is = omega arith
