use Rattle.std.proofs.Common.{◌≡◌, ◌++◌, drop, map, string_bytes}
use Rattle.board_tables.specs.WordView.{texts_of}
use Rattle.board_tables.proofs.files.owned.Given as goal

-- the texts so far, with those to come, are all
abbrev pub invariant-loop-name : goal.invariant-loop-name
invariant-loop-name l = map string_bytes l.all.items ++ texts_of (drop l.name-index l.names) ≡ texts_of l.names
