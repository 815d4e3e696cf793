-- Ports by their names, one more.
use Rattle.std.proofs.Common.{◌≡◌, ℕ, suc, ◌+◌, Bool, true, false, List, [], ◌∷◌, ◌++◌, length, refl, sym, ap, ◌∙◌, arith}
use Rattle.std.specs.Option.{option_or}
use Rattle.std.specs.Prelude.{Option, Some, None, is_some, option_map, bytes_eq}
use Rattle.bsdl_text.specs.Words.{upper}
use Rattle.bsdl_entity.specs.declared.ports.Group.{Group}
use Rattle.bsdl_entity.specs.Ports.{Port, Range}
use Rattle.bsdl_entity.specs.PortsView as view
use Rattle.bsdl_lookup.specs.NamedPorts.{at_name, find_port}

pub or_none : {A : Type 0} (o : Option A) → option_or o None ≡ o
or_none None = refl
or_none (Some x) = refl

or_assoc : {A : Type 0} (a b c : Option A) → option_or (option_or a b) c ≡ option_or a (option_or b c)
or_assoc None b c = refl
or_assoc (Some x) b c = refl

-- a port more
one_port : (n : ℕ) (p : Port) (ps : List Port) (q : List ℕ) → find_port n (p ∷ ps) q ≡ option_or (at_name (upper p.name.text) (n, p.range) q) (find_port (suc n) ps q)
one_port n p ps q = by_test (bytes_eq (upper p.name.text) q) refl
  where
    by_test : (b : Bool) → bytes_eq (upper p.name.text) q ≡ b → find_port n (p ∷ ps) q ≡ option_or (at_name (upper p.name.text) (n, p.range) q) (find_port (suc n) ps q)
    by_test true is = rw is refl
    by_test false is = rw is refl

pub ports_both : (n : ℕ) (ps more : List Port) (q : List ℕ) → find_port n (ps ++ more) q ≡ option_or (find_port n ps q) (find_port (n + length ps) more q)
ports_both n [] more q = ap (λ (k : ℕ). find_port k more q) (omega arith)
ports_both n (p ∷ ps) more q =
    let e : suc n + length ps ≡ n + length (p ∷ ps) = omega arith in
    one_port n p (ps ++ more) q ∙ ap (option_or (at_name (upper p.name.text) (n, p.range) q)) (ports_both (suc n) ps more q)
    ∙ sym (or_assoc (at_name (upper p.name.text) (n, p.range) q) (find_port (suc n) ps q) (find_port (suc n + length ps) more q))
    ∙ ap (λ o. option_or o (find_port (suc n + length ps) more q)) (sym (one_port n p ps q)) ∙ ap (λ (k : ℕ). option_or (find_port n (p ∷ ps) q) (find_port k more q)) e

pub group_kept : (before after : List ℕ → Option (ℕ × Option Range)) (n next : ℕ) (g : Group) (gs : List Group) (q : List ℕ) → next ≡ n + length (view.group g)
    → ((q : List ℕ) → after q ≡ option_or (before q) (find_port n (view.group g) q))
    → option_or (after q) (find_port next (view.ports gs) q) ≡ option_or (before q) (find_port n (view.ports (g ∷ gs)) q)
group_kept before after n next g gs q is step =
    ap (λ (k : ℕ). option_or (after q) (find_port k (view.ports gs) q)) is ∙ ap (λ o. option_or o (find_port (n + length (view.group g)) (view.ports gs) q)) (step q)
    ∙ or_assoc (before q) (find_port n (view.group g) q) (find_port (n + length (view.group g)) (view.ports gs) q) ∙ ap (option_or (before q)) (sym (ports_both n (view.group g) (view.ports gs) q))

pub some_mapped : {A B : Type 0} (f : A → B) (o : Option A) → is_some (option_map f o) ≡ is_some o
some_mapped f None = refl
some_mapped f (Some x) = refl
