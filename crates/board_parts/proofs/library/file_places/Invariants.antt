use Rattle.std.proofs.Common.{◌≡◌, ◌++◌, drop, map}
use Rattle.board_tables.specs.WordView.{texts_of}
use Rattle.board_parts.proofs.library.file_places.Given as goal

-- the names so far, with those to come, are all
abbrev pub invariant-loop-name : goal.invariant-loop-name
invariant-loop-name l = texts_of l.places ++ map (λ f. f.0.now) (drop l.name-index l.files) ≡ map (λ f. f.0.now) l.files
