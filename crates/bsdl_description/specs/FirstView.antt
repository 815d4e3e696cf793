-- What the first values of the code stand for.
use Rattle.std.specs.Prelude.{◌≡◌, ℕ, is_some, if◌then◌else◌, List, [], ◌∷◌, ◌++◌, map, Option, Some, None}
use Rattle.std.specs.Prelude.{Result, Ok, Err}
use Rattle.std.specs.Global.{Vec}
use Rattle.bsdl_values.specs.declared.Attribute.{Attribute}
use Rattle.bsdl_values.specs.declared.values.Value as declared_value
use Rattle.bsdl_values.specs.Values.{Value}
use Rattle.bsdl_values.specs.View.{value}
use Rattle.bsdl_entity.specs.GivenView.{first_unsaid, given}
use Rattle.bsdl_entity.specs.declared.items.Given as declared_given
use Rattle.bsdl_description.specs.FirstValues.{is_attribute, value_given}
use Rattle.bsdl_description.specs.declared.first_values.FirstValue.{FirstValue}

-- what is kept of an attribute
abbrev pub kept : List FirstValue → Attribute → Option Value
kept [] a = None
kept (f ∷ fs) a = if is_attribute a f.attribute then Some (value f.value) else kept fs a

-- with the value of one giving more, which counts where there was none of its attribute
abbrev pub with_first : Attribute → declared_value.Value → List FirstValue → List FirstValue
with_first a v fs = if is_some (kept fs a) then fs else fs ++ record { attribute = a; value = v } ∷ []

-- what is kept of attributes is what their first givings say, where each text says something
abbrev pub AreFirst : Result (Vec FirstValue) ℕ → List declared_given.Given → Type 0
AreFirst (Ok firsts) gs =
    (first_unsaid gs ≡ None) × ((a : Attribute) → kept firsts.items a ≡ value_given a (map given gs))
AreFirst (Err place) gs = first_unsaid gs ≡ Some place
