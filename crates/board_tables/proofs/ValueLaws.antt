-- Tests over items as tests over the values that they are.
use Rattle.std.proofs.Common.{◌≡◌, Bool, not, ◌&&◌, ◌==◌, List, [], ◌∷◌, length, ℕ, Option, Some, None, is_some, option_map, string_bytes, nat_cmp, refl, ap, ◌∙◌, arith}
use Rattle.std.proofs.lemmas.Bool.Decides.{nat_tests}
use Rattle.std.specs.List.{list_all}
use Rattle.std.specs.Cmp.Lexicographic.{slice_cmp}
use Rattle.std.specs.Map.{lookup}
use Rattle.std.specs.BTreeMap.{is_at}
use Rattle.toml.proofs.Views.{Entry, view-lookup}
use Rattle.toml.specs.Data.{Data, get_member}
use Rattle.toml.specs.View.{view, items_view, members_view}
use Rattle.toml.specs.declared.value.Value.{Value}
use Rattle.board_tables.specs.Fields.{items_all, has_item}

pub items_all_of : (test : Data → Bool) (vs : List Value) → items_all test (items_view vs) ≡ list_all (λ v. test (view v)) vs
items_all_of test [] = refl
items_all_of test (v ∷ vs) = ap (λ b. test (view v) && b) (items_all_of test vs)

pub has_item_of : (vs : List Value) → has_item (items_view vs) ≡ not (length vs == 0)
has_item_of [] = refl
has_item_of (v ∷ vs) = grind (arith, nat_tests)

pub same_some : {A B : Type 0} (f : A → B) (o : Option A) → is_some o ≡ is_some (option_map f o)
same_some f None = refl
same_some f (Some x) = refl

-- a key that the map finds is one that the members have
pub has_member : (k : List ℕ) (es : List Entry) → is_some (lookup (is_at (λ x. slice_cmp nat_cmp k (string_bytes x))) es) ≡ is_some (get_member k (members_view es))
has_member k es = same_some view _ ∙ ap is_some (view-lookup k es)
