use Rattle.std.proofs.Common.{◌≡◌, Bool, true, false, cond, ◌||◌, List, ℕ, refl, ap, ◌∙◌}
use Rattle.std.specs.Prelude.{bytes_eq}
use Rattle.std.specs.BTreeSet.{contains_by}
use Rattle.name_keys.specs.Keys.{key_order}
use Rattle.name_keys.specs.OrderLaws.{key_order_is}
use Rattle.bsdl_text.specs.Words.{upper}
use Rattle.bsdl_rules.proofs.naming.add_key.Goals as goal

put : (key name q : List ℕ) (before : Bool) → key ≡ name → cond (bytes_eq key q) true before ≡ (before || bytes_eq name q)
put key name q before same = either (bytes_eq key q) before ∙ ap (λ (n : List ℕ). before || bytes_eq n q) same
  where
    either : (b before : Bool) → cond b true before ≡ before || b
    either true true = refl
    either true false = refl
    either false true = refl
    either false false = refl

pub returns-clause-known : goal.returns-clause-known
returns-clause-known c = λ q.
    let key = c.new-key.result in
    let before = contains_by (key_order q) c.args.known.now in
    c.in_ok-is_new.ensures.updates.0 q ∙ ap (λ b. cond b true before) (key_order_is key q)
    ∙ put key (upper c.args.name.text.now) q before c.new-key.ensures
