-- The first key of a board file that is at fault: those of the file, then of each device, then of each net.
use Rattle.std.specs.Prelude.{ℕ, suc, List, [], ◌∷◌, ◌++◌, drop, codes, Option, Some, None, is_some, if◌then◌else◌}
use Rattle.std.specs.Option.{option_or}
use Rattle.toml.specs.Data.{Members}
use Rattle.board_tables.specs.declared.keys.Known.{Known}
use Rattle.board_tables.specs.declared.fields.BoardTable.{BoardTable}
use Rattle.board_tables.specs.declared.fields.BoardTable.TheVariants.{File, Device, Net}
use Rattle.board_tables.specs.Fields.{name_at, tables_at}
use Rattle.board_tables.specs.Keys.{top_keys, device_keys, net_keys, unfit_key}

-- what is known of the first device
abbrev pub first_known : List (Option Known) → Option Known
first_known [] = None
first_known (k ∷ ks) = k

-- of these devices, given the names before them, and what is known of them
abbrev pub unfit_device : List (List ℕ) → List (Option Known) → List Members → Option (List ℕ)
unfit_device names known [] = None
unfit_device names known (t ∷ ts) =
    option_or (unfit_key (device_keys names (first_known known)) t)
    (unfit_device (names ++ name_at t ∷ []) (drop 1 known) ts)

-- of these nets, given the names before them
abbrev pub unfit_net : List (List ℕ) → List Members → Option (List ℕ)
unfit_net names [] = None
unfit_net names (t ∷ ts) = option_or (unfit_key (net_keys names) t) (unfit_net (names ++ name_at t ∷ []) ts)

-- of the whole
abbrev pub unfit : List (Option Known) → Members → Option (List ℕ)
unfit known t =
    option_or (unfit_key top_keys t)
    (option_or (unfit_device [] known (tables_at (codes "device") t)) (unfit_net [] (tables_at (codes "net") t)))

-- ---- in which table it stands

-- how many of these devices stand before the first with a key at fault, given the names before them
abbrev pub devices_before : List (List ℕ) → List (Option Known) → List Members → ℕ
devices_before names known [] = 0
devices_before names known (t ∷ ts) =
    if is_some (unfit_key (device_keys names (first_known known)) t) then 0
    else suc (devices_before (names ++ name_at t ∷ []) (drop 1 known) ts)

-- how many of these nets
abbrev pub nets_before : List (List ℕ) → List Members → ℕ
nets_before names [] = 0
nets_before names (t ∷ ts) =
    if is_some (unfit_key (net_keys names) t) then 0 else suc (nets_before (names ++ name_at t ∷ []) ts)

-- the table in which the first key at fault stands: the file's own, or that of a device or of a net, counted from 1
abbrev pub unfit_table : List (Option Known) → Members → Option BoardTable
unfit_table known t =
    let devices = tables_at (codes "device") t in
    let nets = tables_at (codes "net") t in
    if is_some (unfit_key top_keys t) then Some File
    else if is_some (unfit_device [] known devices) then Some (Device (suc (devices_before [] known devices)))
    else if is_some (unfit_net [] nets) then Some (Net (suc (nets_before [] nets)))
    else None
