-- First values, one giving more, and one value less.
use Rattle.std.proofs.Common.{◌≡◌, ℕ, zero, suc, ◌+◌, ◌<◌, Bool, true, false, cond, nat_eq, List, [], ◌∷◌, ◌++◌, length, map, take, drop, get_or, refl, sym, ap, ◌∙◌, Option, None, Some, arith}
use Rattle.std.specs.Prelude.{is_some}
use Rattle.std.proofs.Math.Path.{fun_ext}
use Rattle.std.specs.List.{position, position_or_len, remove}
use Rattle.std.specs.Option.{option_or}
use Rattle.std.proofs.lemmas.Bool.Decides.{nat_tests}
use Rattle.std.proofs.lemmas.List.Quantifiers.{position-Some}
use Rattle.bsdl_values.specs.declared.Attribute.{Attribute}
use Rattle.bsdl_values.specs.declared.values.Value as declared_value
use Rattle.bsdl_values.specs.Values.{Value}
use Rattle.bsdl_values.specs.View.{value}
use Rattle.bsdl_entity.specs.Entity.{Given}
use Rattle.bsdl_entity.specs.GivenView.{first_unsaid, given}
use Rattle.bsdl_entity.specs.OutlineView.{outline}
use Rattle.bsdl_entity.specs.declared.entity.Outline.{Outline}
use Rattle.bsdl_description.specs.Describing.{described, described_by, ◌>>?◌}
use Rattle.bsdl_description.specs.View.{spelt, spelt_by}
use Rattle.bsdl_description.specs.FirstValues.{is_attribute, number_of, value_given}
use Rattle.bsdl_description.specs.FirstView.{kept, with_first}
use Rattle.bsdl_description.specs.declared.first_values.FirstValue.{FirstValue}

-- an attribute that is the same as another is found where that is
same_tests : (a b c : Attribute) → is_attribute a b ≡ true → is_attribute a c ≡ is_attribute b c
same_tests a b c is = let same : number_of a ≡ number_of b = grind (arith, nat_tests) in ap (λ n. nat_eq n (number_of c)) same

same_kept : (fs : List FirstValue) (a b : Attribute) → is_attribute a b ≡ true → kept fs a ≡ kept fs b
same_kept [] a b is = refl
same_kept (f ∷ fs) a b is =
    ap (λ c. cond c (Some (value f.value)) (kept fs a)) (same_tests a b f.attribute is) ∙ ap (λ (o : Option Value). cond (is_attribute b f.attribute) (Some (value f.value)) o) (same_kept fs a b is)

-- one of another attribute is no value of this one
other_test : (a b c : Attribute) → is_attribute a b ≡ false → is_attribute b c ≡ true → is_attribute a c ≡ false
other_test a b c apart is = let same : number_of b ≡ number_of c = grind (arith, nat_tests) in ap (λ n. nat_eq (number_of a) n) (sym same) ∙ apart

-- ---- one giving more

kept_more : (fs : List FirstValue) (f : FirstValue) (a : Attribute) → kept (fs ++ f ∷ []) a ≡ option_or (kept fs a) (cond (is_attribute a f.attribute) (Some (value f.value)) None)
kept_more [] f a = refl
kept_more (g ∷ fs) f a = by_test (is_attribute a g.attribute) (kept_more fs f a)
  where
    by_test : (b : Bool) → kept (fs ++ f ∷ []) a ≡ option_or (kept fs a) (cond (is_attribute a f.attribute) (Some (value f.value)) None)
        → cond b (Some (value g.value)) (kept (fs ++ f ∷ []) a) ≡ option_or (cond b (Some (value g.value)) (kept fs a)) (cond (is_attribute a f.attribute) (Some (value f.value)) None)
    by_test true rest = refl
    by_test false rest = rest

with_old : (o : Option Value) (fs gs : List FirstValue) → is_some o ≡ true → cond (is_some o) fs gs ≡ fs
with_old o fs gs some = rw some refl

with_new : (o : Option Value) (fs gs : List FirstValue) → o ≡ None → cond (is_some o) fs gs ≡ gs
with_new o fs gs none = rw none refl

either_none : (o p : Option Value) → option_or (option_or o None) p ≡ option_or o p
either_none None p = refl
either_none (Some x) p = refl

pub or_none : (o : Option Value) → option_or o None ≡ o
or_none None = refl
or_none (Some x) = refl

pub one_more : (fs : List FirstValue) (gs : List Given) (g : Given) (v : declared_value.Value) (a : Attribute) → g.value ≡ value v
    → option_or (kept fs a) (value_given a (g ∷ gs)) ≡ option_or (kept (with_first g.attribute v fs) a) (value_given a gs)
one_more fs gs g v a says = by_kept (kept fs g.attribute) refl
  where
    f : FirstValue
    f = record { attribute = g.attribute; value = v }

    by_test_new : (b : Bool) → is_attribute a g.attribute ≡ b → kept fs g.attribute ≡ None
        → option_or (kept fs a) (cond b (Some g.value) (value_given a gs)) ≡ option_or (option_or (kept fs a) (cond b (Some (value v)) None)) (value_given a gs)
    by_test_new true is none =
        let new : kept fs a ≡ None = same_kept fs a g.attribute is ∙ none in
        rw new (ap Some says)
    by_test_new false is none = sym (either_none (kept fs a) (value_given a gs))

    by_test_old : (b : Bool) (w : Value) → is_attribute a g.attribute ≡ b → kept fs g.attribute ≡ Some w
        → option_or (kept fs a) (cond b (Some g.value) (value_given a gs)) ≡ option_or (kept fs a) (value_given a gs)
    by_test_old true w is some = let old : kept fs a ≡ Some w = same_kept fs a g.attribute is ∙ some in rw old refl
    by_test_old false w is some = refl

    by_kept : (o : Option Value) → kept fs g.attribute ≡ o → option_or (kept fs a) (value_given a (g ∷ gs)) ≡ option_or (kept (with_first g.attribute v fs) a) (value_given a gs)
    by_kept None none =
        by_test_new (is_attribute a g.attribute) refl none
        ∙ ap (λ o. option_or o (value_given a gs)) (sym (kept_more fs f a))
        ∙ ap (λ l. option_or (kept l a) (value_given a gs)) (sym (with_new (kept fs g.attribute) fs (fs ++ f ∷ []) none))
    by_kept (Some w) some =
        by_test_old (is_attribute a g.attribute) w refl some
        ∙ ap (λ l. option_or (kept l a) (value_given a gs)) (sym (with_old (kept fs g.attribute) fs (fs ++ f ∷ []) (ap is_some some)))

-- ---- one value less

without : (fs : List FirstValue) (i : ℕ) (d : FirstValue) (a : Attribute) → i < length fs → is_attribute a (get_or fs i d).attribute ≡ false → kept (take i fs ++ drop (suc i) fs) a ≡ kept fs a
without [] i d a within other = absurd (omega arith)
without (f ∷ fs) zero d a within other = rw other refl
without (f ∷ fs) (suc i) d a within other = ap (λ (o : Option Value). cond (is_attribute a f.attribute) (Some (value f.value)) o) (without fs i d a (omega (arith, within)) other)

pub others_stay : (fs : List FirstValue) (i : ℕ) (d : FirstValue) (a b : Attribute) → position (λ f. is_attribute b f.attribute) fs ≡ Some i → is_attribute a b ≡ false → kept (remove fs i) a ≡ kept fs a
others_stay fs i d a b found apart =
    let (within, is, before) = position-Some (λ f. is_attribute b f.attribute) fs i d found in
    without fs i d a within (other_test a b (get_or fs i d).attribute apart is)

first_at : (fs : List FirstValue) (i : ℕ) (d : FirstValue) (a : Attribute) → i < length fs → is_attribute a (get_or fs i d).attribute ≡ true
    → ((k : ℕ) → k < i → is_attribute a (get_or fs k d).attribute ≡ false) → kept fs a ≡ Some (value (get_or fs i d).value)
first_at [] i d a within is before = absurd (omega arith)
first_at (f ∷ fs) zero d a within is before = rw is refl
first_at (f ∷ fs) (suc i) d a within is before =
    rw (before 0 (omega arith)) (first_at fs i d a (omega (arith, within)) is (λ k less. before (suc k) (omega (arith, less))))

pub taken : (fs : List FirstValue) (i : ℕ) (d : FirstValue) (a : Attribute) → position (λ f. is_attribute a f.attribute) fs ≡ Some i → kept fs a ≡ Some (value (get_or fs i d).value)
taken fs i d a found =
    let (within, is, before) = position-Some (λ f. is_attribute a f.attribute) fs i d found in
    first_at fs i d a within is before

pub none_there : (fs : List FirstValue) (a : Attribute) → position (λ f. is_attribute a f.attribute) fs ≡ None → kept fs a ≡ None
none_there [] a none = refl
none_there (f ∷ fs) a none = by_test (is_attribute a f.attribute) refl (none_there fs a)
  where
    by_test : (b : Bool) → is_attribute a f.attribute ≡ b → (position (λ f. is_attribute a f.attribute) fs ≡ None → kept fs a ≡ None) → cond b (Some (value f.value)) (kept fs a) ≡ None
    by_test true is later = absurd (let first : position_or_len (λ f. is_attribute a f.attribute) (f ∷ fs) ≡ 0 = rw is refl in grind (arith, nat_tests))
    by_test false is later =
        let onward : position_or_len (λ f. is_attribute a f.attribute) (f ∷ fs) ≡ 1 + position_or_len (λ f. is_attribute a f.attribute) fs = rw is refl in
        let rest : position (λ f. is_attribute a f.attribute) fs ≡ None = grind (arith, nat_tests) in
        later rest

-- ---- what is described

pub described_is : (o : Outline) (firsts : List FirstValue) → first_unsaid o.given.items ≡ None → ((a : Attribute) → kept firsts a ≡ value_given a (map given o.given.items))
    → (spelt o >>? described) ≡ described_by (kept firsts) (outline o)
described_is o firsts none same =
    ap (λ (u : Option ℕ). spelt_by u (outline o) >>? described) none ∙ ap (λ (says : Attribute → Option Value). described_by says (outline o)) (fun_ext (λ a. sym (same a)))
