-- The tables of an array, counted.
use Rattle.std.proofs.Common.{◌≡◌, suc, cond, List, [], ◌∷◌, length, filter, refl, ap}
use Rattle.toml.specs.Data.{Data, string, integer, float, boolean, datetime, array, table, Items, item}
use Rattle.toml.specs.View.{view, items_view}
use Rattle.toml.specs.declared.value.Value.{Value}
use Rattle.board_tables.specs.Fields.{is_table, tables_in}

one_more : (v : Value) (vs : List Value) (d : Data) (items : Items) → length vs ≡ length (tables_in items) → length (cond (is_table d) (v ∷ vs) vs) ≡ length (tables_in (item d items))
one_more v vs (table ms) items h = ap suc h
one_more v vs (string s) items h = h
one_more v vs (integer i) items h = h
one_more v vs (float f) items h = h
one_more v vs (boolean b) items h = h
one_more v vs (datetime d) items h = h
one_more v vs (array ds) items h = h

-- the values that are tables are as many as the tables
pub tables_counted : (vs : List Value) → length (filter (λ v. is_table (view v)) vs) ≡ length (tables_in (items_view vs))
tables_counted [] = refl
tables_counted (v ∷ vs) = one_more v (filter (λ v. is_table (view v)) vs) (view v) (items_view vs) (tables_counted vs)
