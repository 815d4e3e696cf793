-- Ports that are single bits, one port more.
use Rattle.std.proofs.Common.{◌≡◌, ℕ, zero, suc, ◌+◌, ◌<◌, Bool, true, false, cond, List, [], ◌∷◌, ◌++◌, length, map, take, get_or, refl, sym, ap, ◌∙◌, arith}
use Rattle.std.specs.Option.{option_or}
use Rattle.std.specs.Prelude.{Option, Some, None, is_none, is_some, not, option_map, bytes_eq}
use Rattle.std.proofs.lemmas.Slice.Eq.{bytes_eq-Decides}
use Rattle.std.proofs.Common.{String, Global}
use Rattle.std.specs.BTreeMap.{BTreeMap, get_by_text}
use Rattle.std.proofs.Math.Path.{fun_ext}
use Rattle.bsdl_text.specs.Words.{upper}
use Rattle.bsdl_text.specs.WordView.{word_lexeme}
use Rattle.bsdl_text.specs.declared.names.Word.{Word}
use Rattle.bsdl_device.specs.declared.PortMode.{PortMode}
use Rattle.bsdl_entity.specs.declared.ports.Range as declared_range
use Rattle.bsdl_entity.specs.declared.ports.Group.{Group}
use Rattle.bsdl_entity.specs.Scalars.{is_single, is_scalar}
use Rattle.bsdl_entity.specs.Ports.{Port, Range}
use Rattle.bsdl_entity.specs.Scalars.{first_scalar, is_true, scalar_at, tells}
use Rattle.bsdl_entity.specs.PortsView as view

-- the first of words, each a port of this kind
abbrev pub scalar_names : List Word → Bool → List ℕ → Option Bool
scalar_names [] scalar q = None
scalar_names (w ∷ ws) scalar q = option_or (scalar_at (upper w.text.now) scalar q) (scalar_names ws scalar q)

option_or-none : (o : Option Bool) → option_or o None ≡ o
option_or-none None = refl
option_or-none (Some b) = refl

option_or-assoc : (a b c : Option Bool) → option_or (option_or a b) c ≡ option_or a (option_or b c)
option_or-assoc None b c = refl
option_or-assoc (Some x) b c = refl

names_next : (ws : List Word) (i : ℕ) (d : Word) (scalar : Bool) (q : List ℕ) → i < length ws
    → scalar_names (take (suc i) ws) scalar q ≡ option_or (scalar_names (take i ws) scalar q) (scalar_at (upper (get_or ws i d).text.now) scalar q)
names_next [] i d scalar q h = absurd (omega arith)
names_next (w ∷ ws) zero d scalar q h = option_or-none (scalar_at (upper w.text.now) scalar q)
names_next (w ∷ ws) (suc i) d scalar q h =
    ap (option_or (scalar_at (upper w.text.now) scalar q)) (names_next ws i d scalar q (omega arith))
    ∙ sym (option_or-assoc (scalar_at (upper w.text.now) scalar q) (scalar_names (take i ws) scalar q) (scalar_at (upper (get_or ws i d).text.now) scalar q))

ranged : (r : Option declared_range.Range) → is_none (option_map view.range r) ≡ is_none r
ranged None = refl
ranged (Some r) = refl

names_along : (ws : List Word) (mode : PortMode) (r : Option declared_range.Range) (q : List ℕ)
    → scalar_names ws (is_none r) q ≡ first_scalar (map (λ n. record { name = n; mode = mode; range = option_map view.range r }) (map word_lexeme ws)) q
names_along [] mode r q = refl
names_along (w ∷ ws) mode r q = rw (ranged r, names_along ws mode r q) refl

pub names_all : (g : Group) (q : List ℕ) → scalar_names g.names.items (is_none g.range) q ≡ first_scalar (view.group g) q
names_all g q = names_along g.names.items g.mode g.range q

pub first_both : (ps more : List Port) (q : List ℕ) → first_scalar (ps ++ more) q ≡ option_or (first_scalar ps q) (first_scalar more q)
first_both [] more q = refl
first_both (p ∷ ps) more q =
    ap (option_or (scalar_at (upper p.name.text) (is_none p.range) q)) (first_both ps more q)
    ∙ sym (option_or-assoc (scalar_at (upper p.name.text) (is_none p.range) q) (first_scalar ps q) (first_scalar more q))

groups_next : (gs : List Group) (i : ℕ) (d : Group) (q : List ℕ) → i < length gs
    → first_scalar (view.ports (take (suc i) gs)) q ≡ option_or (first_scalar (view.ports (take i gs)) q) (first_scalar (view.group (get_or gs i d)) q)
groups_next [] i d q h = absurd (omega arith)
groups_next (g ∷ gs) zero d q h = first_both (view.group g) [] q ∙ option_or-none (first_scalar (view.group g) q)
groups_next (g ∷ gs) (suc i) d q h =
    first_both (view.group g) (view.ports (take (suc i) gs)) q
    ∙ ap (option_or (first_scalar (view.group g) q)) (groups_next gs i d q (omega arith))
    ∙ sym (option_or-assoc (first_scalar (view.group g) q) (first_scalar (view.ports (take i gs)) q) (first_scalar (view.group (get_or gs i d)) q))
    ∙ ap (λ o. option_or o (first_scalar (view.group (get_or gs i d)) q)) (sym (first_both (view.group g) (view.ports (take i gs)) q))

pub names_more : (ws : List Word) (i : ℕ) (d : Word) (scalar : Bool) (q : List ℕ) → i < length ws
    → scalar_names (take (i + 1) ws) scalar q ≡ option_or (scalar_names (take i ws) scalar q) (scalar_at (upper (get_or ws i d).text.now) scalar q)
names_more ws i d scalar q h =
    let e : i + 1 ≡ suc i = omega arith in
    ap (λ (k : ℕ). scalar_names (take k ws) scalar q) e ∙ names_next ws i d scalar q h

pub groups_more : (gs : List Group) (i : ℕ) (d : Group) (q : List ℕ) → i < length gs
    → first_scalar (view.ports (take (i + 1) gs)) q ≡ option_or (first_scalar (view.ports (take i gs)) q) (first_scalar (view.group (get_or gs i d)) q)
groups_more gs i d q h =
    let e : i + 1 ≡ suc i = omega arith in
    ap (λ (k : ℕ). first_scalar (view.ports (take k gs)) q) e ∙ groups_next gs i d q h

-- a name that is new
added : (old : List ℕ → Option Bool) (name : List ℕ) (scalar : Bool) (q : List ℕ) → old name ≡ None → cond (bytes_eq name q) (Some scalar) (old q) ≡ option_or (old q) (scalar_at name scalar q)
added old name scalar q new = further (bytes_eq name q) refl
  where
    further : (b : Bool) → bytes_eq name q ≡ b → cond (bytes_eq name q) (Some scalar) (old q) ≡ option_or (old q) (scalar_at name scalar q)
    further true is =
        let here : old q ≡ None = ap old (sym ((bytes_eq-Decides name q).0 is)) ∙ new in
        rw (is, here) refl
    further false is = rw (is, option_or-none) refl

none_is : (o : Option Bool) → is_some o ≡ false → o ≡ None
none_is None none = refl
none_is (Some b) none = absurd cc

-- one more behind those so far
pub one_after : (before now after so_far new more : Option Bool) → after ≡ option_or now new → now ≡ option_or before so_far → more ≡ option_or so_far new → after ≡ option_or before more
one_after before now after so_far new more e f g =
    e ∙ ap (λ o. option_or o new) f ∙ option_or-assoc before so_far new ∙ ap (option_or before) (sym g)

-- all of them
pub name_is_new : (old : List ℕ → Option Bool) (key name : List ℕ) (scalar : Bool) (q : List ℕ) → key ≡ name → is_some (old key) ≡ false
    → cond (bytes_eq key q) (Some scalar) (old q) ≡ option_or (old q) (scalar_at name scalar q)
name_is_new old key name scalar q same none =
    added old key scalar q (none_is (old key) none) ∙ ap (λ (n : List ℕ). option_or (old q) (scalar_at n scalar q)) same

pub turned : (b : Bool) (r : Option declared_range.Range) → is_some r ≡ not b → b ≡ is_none r
turned true None e = refl
turned true (Some r) e = absurd cc
turned false None e = absurd cc
turned false (Some r) e = refl

-- the test by what is kept of the ports is that by the ports
ranged_as : (r : Option Range) → is_true (Some (is_none r)) ≡ is_single (Some r)
ranged_as None = refl
ranged_as (Some r) = refl

one_port : (p : Port) (ps : List Port) (name : List ℕ) (b : Bool) → bytes_eq (upper p.name.text) (upper name) ≡ b → is_true (first_scalar ps (upper name)) ≡ is_scalar ps name
    → is_true (first_scalar (p ∷ ps) (upper name)) ≡ is_scalar (p ∷ ps) name
one_port p ps name true is rest = rw is (ranged_as p.range)
one_port p ps name false is rest = rw is rest

single_by : (ps : List Port) (name : List ℕ) → is_true (first_scalar ps (upper name)) ≡ is_scalar ps name
single_by [] name = refl
single_by (p ∷ ps) name = one_port p ps name (bytes_eq (upper p.name.text) (upper name)) refl (single_by ps name)

pub tells_all : (m : BTreeMap (String Global) Bool) (ps : List Port) → ((q : List ℕ) → get_by_text m q ≡ first_scalar ps q) → tells m ≡ is_scalar ps
tells_all m ps all = fun_ext (λ name. ap is_true (all (upper name)) ∙ single_by ps name)
