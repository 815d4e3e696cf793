-- Names in tables and sets.
use Rattle.std.proofs.Common.{◌≡◌, ℕ, Bool, true, false, cond, ◌||◌, List, [], ◌∷◌, map, refl, ap, ◌∙◌}
use Rattle.std.specs.Prelude.{Some, is_some, bytes_eq}
use Rattle.std.specs.List.{list_any}
use Rattle.bsdl_text.specs.Words.{upper, stands_for}

in_row : (b : Bool) (table : List (List ℕ × Bool)) (word : List ℕ) (rest : Bool) → is_some (stands_for table word) ≡ rest → is_some (cond b (Some true) (stands_for table word)) ≡ b || rest
in_row true table word rest e = refl
in_row false table word rest e = e

pub in_table : (names : List (List ℕ)) (word : List ℕ) → is_some (stands_for (map (λ n. (n, true)) names) word) ≡ list_any (λ n. bytes_eq (upper word) (upper n)) names
in_table [] word = refl
in_table (n ∷ names) word = in_row (bytes_eq (upper word) (upper n)) (map (λ n. (n, true)) names) word (list_any (λ n. bytes_eq (upper word) (upper n)) names) (in_table names word)

pub put_name : (key name q : List ℕ) (before : Bool) → key ≡ name → cond (bytes_eq key q) true before ≡ (before || bytes_eq name q)
put_name key name q before same = either (bytes_eq key q) before ∙ ap (λ (n : List ℕ). before || bytes_eq n q) same
  where
    either : (b before : Bool) → cond b true before ≡ before || b
    either true true = refl
    either true false = refl
    either false true = refl
    either false false = refl
