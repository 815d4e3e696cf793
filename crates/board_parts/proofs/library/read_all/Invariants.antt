use Rattle.std.proofs.Common.{◌≡◌, ◌++◌, ℕ, List, Option, drop, map, option_map}
use Rattle.std.specs.Option.{option_or}
use Rattle.board_tables.specs.WordView.{texts_of}
use Rattle.board_parts.specs.Files.{described, missing_in, refused_in}
use Rattle.board_parts.specs.LibraryView.{AreKnown, IsFirstRefusal, files_of}
use Rattle.board_parts.proofs.library.read_all.Given as goal

-- what was found so far, with what is to come, is what was found before with all
abbrev pub invariant-loop-name : goal.invariant-loop-name
invariant-loop-name g l =
    let says = g.R.Describe.says in
    let files = files_of l.files in
    let rest = texts_of (drop l.name-index l.names) in
    let all = texts_of l.names in
    record {
      known : AreKnown says l.known;
      devices : l.library.devices.items ++ map (described says files) rest ≡ l.initial.library.devices.items ++ map (described says files) all;
      missing : option_or (option_map (λ n. n.now) l.library.missing) (missing_in files rest) ≡ option_or (option_map (λ n. n.now) l.initial.library.missing) (missing_in files all);
      refused : (whole : Option (List ℕ)) → IsFirstRefusal g.R.Describe.refuses l.initial.library.refused (refused_in says files all) whole → IsFirstRefusal g.R.Describe.refuses l.library.refused (refused_in says files rest) whole;
    }
