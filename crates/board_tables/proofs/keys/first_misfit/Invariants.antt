use Rattle.std.proofs.Common.{◌≡◌, fold, option_map}
use Rattle.toml.specs.View.{table_view, members_view}
use Rattle.board_tables.specs.Keys.{earlier, earliest, misfits, fits_one}
use Rattle.board_tables.specs.View.{keys_of}
use Rattle.board_tables.proofs.keys.first_misfit.Given as goal

-- the first so far, with the misfits to come, is the first of all
abbrev pub invariant-loop-key : goal.invariant-loop-key
invariant-loop-key l =
    fold earlier (option_map (λ k. k.now) l.first) (misfits (fits_one (keys_of l.keys)) (members_view l.key-iterator))
    ≡ earliest (misfits (fits_one (keys_of l.keys)) (table_view l.table))
