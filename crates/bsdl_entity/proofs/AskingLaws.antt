-- Ports that are asked by name, group by group.
use Rattle.std.proofs.Common.{◌≡◌, ℕ, ◌+◌, ◌<◌, Bool, true, false, true≢false, List, [], ◌∷◌, ◌++◌, length, map, drop, get_or, refl, sym, ap, ◌∙◌}
use Rattle.std.specs.Prelude.{Option, Some, None, is_none, option_map}
use Rattle.std.specs.List.{list_any}
use Rattle.std.proofs.lemmas.List.{at_drop_more}
use Rattle.bsdl_text.specs.Words.{same_name}
use Rattle.bsdl_text.specs.WordView.{word_lexeme}
use Rattle.bsdl_text.specs.declared.names.Word.{Word}
use Rattle.bsdl_device.specs.declared.PortMode.{PortMode}
use Rattle.bsdl_entity.specs.declared.ports.Range as declared_range
use Rattle.bsdl_entity.specs.declared.ports.Group.{Group}
use Rattle.bsdl_entity.specs.Ports.{Port}
use Rattle.bsdl_entity.specs.PortsView as view
use Rattle.bsdl_entity.specs.Scalars.{is_single, is_scalar}

-- the ports of these words
abbrev ports_of : List Word → PortMode → Option declared_range.Range → List Port
ports_of ws mode r = map (λ n. record { name = n; mode = mode; range = option_map view.range r }) (map word_lexeme ws)

ranged : (r : Option declared_range.Range) → is_single (Some (option_map view.range r)) ≡ is_none r
ranged None = refl
ranged (Some r) = refl

found : (ws : List Word) (mode : PortMode) (r : Option declared_range.Range) (more : List Port) (name : List ℕ) → list_any (λ w. same_name w.text.now name) ws ≡ true
    → is_scalar (ports_of ws mode r ++ more) name ≡ is_none r
found [] mode r more name has = absurd (true≢false (sym has))
found (w ∷ ws) mode r more name has = by_test (same_name w.text.now name) refl (λ h. found ws mode r more name h)
  where
    by_test : (b : Bool) → same_name w.text.now name ≡ b → (list_any (λ w. same_name w.text.now name) ws ≡ true → is_scalar (ports_of ws mode r ++ more) name ≡ is_none r)
        → is_scalar (ports_of (w ∷ ws) mode r ++ more) name ≡ is_none r
    by_test true is behind = rw is (ranged r)
    by_test false is behind = rw is (behind (rw is at has))

passed : (ws : List Word) (mode : PortMode) (r : Option declared_range.Range) (more : List Port) (name : List ℕ) → list_any (λ w. same_name w.text.now name) ws ≡ false
    → is_scalar (ports_of ws mode r ++ more) name ≡ is_scalar more name
passed [] mode r more name has = refl
passed (w ∷ ws) mode r more name has = by_test (same_name w.text.now name) refl (λ h. passed ws mode r more name h)
  where
    by_test : (b : Bool) → same_name w.text.now name ≡ b → (list_any (λ w. same_name w.text.now name) ws ≡ false → is_scalar (ports_of ws mode r ++ more) name ≡ is_scalar more name)
        → is_scalar (ports_of (w ∷ ws) mode r ++ more) name ≡ is_scalar more name
    by_test true is behind = absurd (true≢false (rw is at has))
    by_test false is behind = rw is (behind (rw is at has))

pub group_found : (g : Group) (gs : List Group) (name : List ℕ) → list_any (λ w. same_name w.text.now name) g.names.items ≡ true → is_scalar (view.ports (g ∷ gs)) name ≡ is_none g.range
group_found g gs name has = found g.names.items g.mode g.range (view.ports gs) name has

pub group_passed : (g : Group) (gs : List Group) (name : List ℕ) → list_any (λ w. same_name w.text.now name) g.names.items ≡ false → is_scalar (view.ports (g ∷ gs)) name ≡ is_scalar (view.ports gs) name
group_passed g gs name has = passed g.names.items g.mode g.range (view.ports gs) name has

-- the group that stands next
pub here : (gs : List Group) (i : ℕ) (g : Group) (name : List ℕ) → i < length gs → g ≡ get_or gs i g → is_scalar (view.ports gs) name ≡ is_scalar (view.ports (drop i gs)) name
    → is_scalar (view.ports gs) name ≡ is_scalar (view.ports (g ∷ drop (i + 1) gs)) name
here gs i g name inside is so_far =
    so_far ∙ at_drop_more (λ (hs : List Group). is_scalar (view.ports hs) name) gs i g inside ∙ ap (λ (x : Group). is_scalar (view.ports (x ∷ drop (i + 1) gs)) name) (sym is)
