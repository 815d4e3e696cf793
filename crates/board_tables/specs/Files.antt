-- Which descriptions a board file names.
use Rattle.std.specs.Prelude.{◌≡◌, ℕ, List, [], map, fold, codes}
use Rattle.std.specs.Prelude.{Some, None, unwrap_or, Result, Ok, Err, IsUtf8}
use Rattle.toml.specs.Data.{Members}
use Rattle.toml.specs.Parse.{parse_document}
use Rattle.board_tables.specs.Fields.{text_at, tables_at}
use Rattle.board_tables.specs.FirstPlaces.{with_name}
use Rattle.board_tables.specs.Faults.{unfit}

-- ---- the board file's own text

-- the text is this TOML table
abbrev pub Reads : List ℕ → Members → Type 0
Reads text t = IsUtf8 text × (parse_document text ≡ Some t)

-- the text is no TOML
abbrev pub IsBadToml : List ℕ → Type 0
IsBadToml text = (t : Members) → ¬ Reads text t

-- ---- the files that it names

-- the description that a device names
abbrev pub file_at : Members → List ℕ
file_at t = unwrap_or (text_at (codes "bsdl") t) []

-- each name once, in the order of the first devices that have them
abbrev pub distinct : List (List ℕ) → List (List ℕ)
distinct texts = fold with_name [] texts

abbrev pub file_names : Members → List (List ℕ)
file_names t = distinct (map file_at (tables_at (codes "device") t))

-- the names of the descriptions, or the first key that is at fault as far as that can be told without them
abbrev pub names_of : Members → Result (List (List ℕ)) (List ℕ)
names_of t = elim (unfit [] t) [ None ↦ Ok (file_names t) | Some k ↦ Err k ]
