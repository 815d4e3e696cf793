use Rattle.std.proofs.Common.{◌≡◌, map, drop, fold, option_map}
use Rattle.toml.specs.View.{table_view}
use Rattle.board_tables.specs.Keys.{earlier, missing}
use Rattle.board_tables.proofs.keys.first_missing.Given as goal

-- the first so far, with the missing ones to come, is the first of all
abbrev pub invariant-loop-key : goal.invariant-loop-key
invariant-loop-key l =
    fold earlier (option_map (λ k. k.now) l.first) (missing (map (λ k. k.now) (drop l.key-index l.needed)) (table_view l.table))
    ≡ fold earlier (option_map (λ k. k.now) l.fn.before) (missing (map (λ k. k.now) l.needed) (table_view l.table))
