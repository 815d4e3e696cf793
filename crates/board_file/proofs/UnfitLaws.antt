-- The table in which a key is at fault, by what stands in the library.
use Rattle.std.proofs.Common.{◌≡◌, ℕ, List, [], map, codes, Option, ap, sym, ◌∙◌, subst}
use Rattle.toml.specs.Data.{Members}
use Rattle.bsdl_device.specs.Device.{Device}
use Rattle.board_tables.specs.Fields.{tables_at}
use Rattle.board_tables.specs.Faults.{unfit_table}
use Rattle.board_tables.specs.Files.{file_names}
use Rattle.board_parts.specs.Files.{File, described}
use Rattle.board_parts.specs.Parts.{known_in}
use Rattle.board_file.specs.Wiring.{known_at}
use Rattle.board_file.proofs.DescribedLaws.{Named, named_from, same_known}

pub same_table : (says : List ℕ → Option Device) (files : List File) (t : Members) (names : List (List ℕ)) (ds : List (Option Device))
    → names ≡ file_names t → ds ≡ map (described says files) names
    → unfit_table (map (known_in names ds) (tables_at (codes "device") t)) t ≡ unfit_table (map (known_at says files) (tables_at (codes "device") t)) t
same_table says files t names ds names_is ds_is =
    let devices = tables_at (codes "device") t in
    let named : Named names devices = subst (λ ns. Named ns devices) (sym names_is) (named_from [] devices) in
    ap (λ ds. unfit_table (map (known_in names ds) devices) t) ds_is ∙ ap (λ known. unfit_table known t) (same_known says files names devices named)
