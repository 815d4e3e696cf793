-- What stands in a table of the board file, as TOML data.
use Rattle.std.specs.Prelude.{ℕ, Bool, true, false, ◌&&◌, List, [], ◌∷◌, codes, bytes_eq, Option}
use Rattle.std.specs.Prelude.{Some, None, unwrap_or, option_and_then, is_some}
use Rattle.std.specs.List.{list_any}
use Rattle.toml.specs.Data.{Data, string, table, Items, no_items, item, Members, get_member, as_str, as_array, as_table}

-- there is a value, and it passes the test
abbrev pub passes : {A : Type 0} → (A → Bool) → Option A → Bool
passes test None = false
passes test (Some x) = test x

-- whether the value is a text, and a text that passes a test
abbrev pub is_text : Data → Bool
is_text d = is_some (as_str d)

abbrev pub is_text_that : (List ℕ → Bool) → Data → Bool
is_text_that test d = passes test (as_str d)

-- one of these words
abbrev pub is_one_of : List (List ℕ) → Data → Bool
is_one_of words d = is_text_that (λ s. list_any (bytes_eq s) words) d

abbrev pub is_table : Data → Bool
is_table d = is_some (as_table d)

abbrev pub items_all : (Data → Bool) → Items → Bool
items_all test no_items = true
items_all test (item d ds) = test d && items_all test ds

-- whether the value is an array of such values
abbrev pub is_array_of : (Data → Bool) → Data → Bool
is_array_of test d = passes (items_all test) (as_array d)

abbrev pub has_item : Items → Bool
has_item no_items = false
has_item (item d ds) = true

-- and one that is not empty
abbrev pub is_some_of : (Data → Bool) → Data → Bool
is_some_of test d = passes (λ ds. has_item ds && items_all test ds) (as_array d)

-- the tables of an array, and its texts
abbrev pub tables_in : Items → List Members
tables_in no_items = []
tables_in (item (table ms) ds) = ms ∷ tables_in ds
tables_in (item _ ds) = tables_in ds

abbrev pub texts_in : Items → List (List ℕ)
texts_in no_items = []
texts_in (item (string s) ds) = s ∷ texts_in ds
texts_in (item _ ds) = texts_in ds

-- the text at a key, if there is one; the tables and the texts of the array there
abbrev pub text_at : List ℕ → Members → Option (List ℕ)
text_at key t = option_and_then as_str (get_member key t)

abbrev pub items_at : List ℕ → Members → Items
items_at key t = unwrap_or (option_and_then as_array (get_member key t)) no_items

abbrev pub tables_at : List ℕ → Members → List Members
tables_at key t = tables_in (items_at key t)

abbrev pub texts_at : List ℕ → Members → List (List ℕ)
texts_at key t = texts_in (items_at key t)

-- the name that a device or a net gives itself
abbrev pub name_at : Members → List ℕ
name_at t = unwrap_or (text_at (codes "name") t) []
