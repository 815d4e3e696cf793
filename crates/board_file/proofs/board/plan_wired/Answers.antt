use Rattle.std.proofs.Common.{◌∙◌, sym, ap, subst, map, option_map, unwrap_or, codes, is_none, None, Some}
use Rattle.std.specs.List.{position}
use Rattle.std.proofs.lemmas.Result.{err_from_is_err_and}
use Rattle.toml.specs.View.{table_view}
use Rattle.board_tables.specs.Fields.{tables_in, tables_at}
use Rattle.board_tables.specs.WordView.{texts_of}
use Rattle.board_tables.specs.Files.{file_at, distinct}
use Rattle.board_parts.specs.Files.{described, missing_in, refused_in, refused_place}
use Rattle.board_parts.specs.LibraryView.{files_of, IsFirstRefusal}
use Rattle.board_file.specs.Refusals.{RefusesAt}
use Rattle.board_file.specs.View.{PlansBoard}
use Rattle.board_file.proofs.BoardLaws.{keys_fault, missing_fault, refused_fault, planned}
use Rattle.board_file.proofs.FitLaws.{told_files, told_fits, told_said}
use Rattle.board_file.proofs.RefusedLaws.{refused_there, undescribed}
use Rattle.board_file.proofs.board.plan_wired.Goals as goal

pub returns-in_err-check_keys-clause-told : goal.returns-in_err-check_keys-clause-told
returns-in_err-check_keys-clause-told g c =
    let says = g.R.Describe.says in
    let files = files_of c.args.files.now in
    let t = table_view c.args.table.now in
    let refuses = RefusesAt says g.R.Describe.refuses files t in
    let names = texts_of c.in_ok-names.names in
    let names_is = c.in_ok-names.ensures ∙ ap (λ items. distinct (map file_at (tables_in items))) c.items_at.ensures in
    let ds_is = c.deref.ensures.value ∙ c.in_ok-devices.ensures.devices ∙ ap (λ ks. map (described says files) (texts_of ks)) c.keys.ensures in
    let stop = err_from_is_err_and c.from_residual-in_err-check_keys.result c.from_residual-in_err-check_keys.ensures.1 in
    rw (stop.1, stop.2) (keys_fault refuses says files t names c.deref.result.now names_is ds_is c.in_err-check_keys.field-0.0 c.in_err-check_keys.ensures)

pub returns-in-Some-clause-told : goal.returns-in-Some-clause-told
returns-in-Some-clause-told g c =
    let says = g.R.Describe.says in
    let files = files_of c.args.files.now in
    let t = table_view c.args.table.now in
    let refuses = RefusesAt says g.R.Describe.refuses files t in
    let names = texts_of c.in_ok-names.names in
    let names_is = c.in_ok-names.ensures ∙ ap (λ items. distinct (map file_at (tables_in items))) c.items_at.ensures in
    let ds_is = c.deref.ensures.value ∙ c.in_ok-devices.ensures.devices ∙ ap (λ ks. map (described says files) (texts_of ks)) c.keys.ensures in
    let missing_is = ap (λ ks. missing_in files (texts_of ks)) (sym c.keys.ensures) ∙ sym c.in_ok-devices.ensures.missing in
    missing_fault refuses says files t names c.deref.result.now names_is ds_is c.in_ok-check_keys.ensures c.unknown_file.result c.in-Some.name.now
    (missing_is ∙ ap (option_map (λ n. n.now)) c.in-Some.is) c.unknown_file.ensures

pub returns-in-Some-refused-clause-told : goal.returns-in-Some-refused-clause-told
returns-in-Some-refused-clause-told g c =
    let says = g.R.Describe.says in
    let files = files_of c.args.files.now in
    let t = table_view c.args.table.now in
    let refuses = RefusesAt says g.R.Describe.refuses files t in
    let names = texts_of c.in_ok-names.names in
    let names_is = c.in_ok-names.ensures ∙ ap (λ items. distinct (map file_at (tables_in items))) c.items_at.ensures in
    let ds_is = c.deref.ensures.value ∙ c.in_ok-devices.ensures.devices ∙ ap (λ ks. map (described says files) (texts_of ks)) c.keys.ensures in
    let missing_is = ap (λ ks. missing_in files (texts_of ks)) (sym c.keys.ensures) ∙ sym c.in_ok-devices.ensures.missing in
    let refused_is = ap (λ ks. refused_in says files (texts_of ks)) (sym c.keys.ensures) in
    let (text, is, why) = subst (λ o. IsFirstRefusal g.R.Describe.refuses o None (refused_in says files (texts_of c.keys.result.now))) c.in-Some-refused.is c.in_ok-devices.ensures.refused in
    let missing = missing_is ∙ ap (option_map (λ n. n.now)) c.in_default.is in
    let there = refused_there says files names text (refused_is ∙ is) in
    let all = c.deref-in-Some-refused.ensures.value ∙ sym c.deref.ensures.value ∙ ds_is in
    let found = c.undescribed_place.ensures ∙ ap (position is_none) all ∙ undescribed says files names missing ∙ there.1 in
    let place = c.unwrap_or-place.ensures ∙ ap (λ o. unwrap_or o 0) found in
    refused_fault refuses says files t names c.deref.result.now names_is ds_is c.in_ok-check_keys.ensures missing
    (record { place = c.unwrap_or-place.result; fault = c.in-Some-refused.fault }) text (refused_is ∙ is)
    (why, ap (refused_place says files) (sym names_is) ∙ there.1 ∙ ap Some (sym place))

pub returns-clause-told : goal.returns-clause-told
returns-clause-told g c =
    let says = g.R.Describe.says in
    let files = files_of c.args.files.now in
    let t = table_view c.args.table.now in
    let refuses = RefusesAt says g.R.Describe.refuses files t in
    let names = texts_of c.in_ok-names.names in
    let names_is = c.in_ok-names.ensures ∙ ap (λ items. distinct (map file_at (tables_in items))) c.items_at.ensures in
    let ds_is = c.deref.ensures.value ∙ c.in_ok-devices.ensures.devices ∙ ap (λ ks. map (described says files) (texts_of ks)) c.keys.ensures in
    let missing_is = ap (λ ks. missing_in files (texts_of ks)) (sym c.keys.ensures) ∙ sym c.in_ok-devices.ensures.missing in
    let refused_is = ap (λ ks. refused_in says files (texts_of ks)) (sym c.keys.ensures) in
    let none = subst (λ o. IsFirstRefusal g.R.Describe.refuses o None (refused_in says files (texts_of c.keys.result.now))) c.in_default-refused.is c.in_ok-devices.ensures.refused in
    planned refuses says files t names c.deref.result.now names_is ds_is c.in_ok-check_keys.ensures (missing_is ∙ ap (option_map (λ n. n.now)) c.in_default.is)
    (refused_is ∙ sym none) c.plan_described.result
    (subst (λ ds. PlansBoard c.plan_described.result names ds (tables_at (codes "device") t) (tables_at (codes "net") t)) (c.deref-2.ensures.value ∙ sym c.deref.ensures.value) c.plan_described.ensures.board)

pub returns-clause-fits : goal.returns-clause-fits
returns-clause-fits g c = told_fits (RefusesAt g.R.Describe.says g.R.Describe.refuses (files_of c.args.files.now) (table_view c.args.table.now)) g.R.Describe.says (files_of c.args.files.now) (table_view c.args.table.now) c.plan_described.result (returns-clause-told g c)

pub returns-clause-said : goal.returns-clause-said
returns-clause-said g c = told_said (RefusesAt g.R.Describe.says g.R.Describe.refuses (files_of c.args.files.now) (table_view c.args.table.now)) g.R.Describe.says (files_of c.args.files.now) (table_view c.args.table.now) c.plan_described.result (returns-clause-told g c)

pub returns-clause-files : goal.returns-clause-files
returns-clause-files g c =
    let says = g.R.Describe.says in
    let files = files_of c.args.files.now in
    let t = table_view c.args.table.now in
    let names = texts_of c.in_ok-names.names in
    let names_is = c.in_ok-names.ensures ∙ ap (λ items. distinct (map file_at (tables_in items))) c.items_at.ensures in
    let ds_is = c.deref-2.ensures.value ∙ c.in_ok-devices.ensures.devices ∙ ap (λ ks. map (described says files) (texts_of ks)) c.keys.ensures in
    told_files (RefusesAt says g.R.Describe.refuses files t) says files t names c.deref-2.result.now names_is ds_is c.plan_described.result (returns-clause-told g c) c.plan_described.ensures.files
