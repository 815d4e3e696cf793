use Rattle.std.proofs.Common.{◌≡◌, ◌<◌, suc, length, ◌+◌, ◌++◌, ◌∷◌, [], ℕ, List, ap, sym, ◌∙◌, map, take, drop, get_or}
use Rattle.std.specs.Prelude.{option_map}
use Rattle.std.specs.BTreeMap.{get_by_text}
use Rattle.std.proofs.Math.Seq.{drop-cons}
use Rattle.std.proofs.lemmas.List.{take_all, take-append-drop, take_more, map-append}
use Rattle.bsdl_text.specs.NumberView.{value}
use Rattle.bsdl_values.specs.InstructionView.{access_row}
use Rattle.bsdl_values.specs.declared.instructions.names.AccessRow.{AccessRow}
use Rattle.bsdl_rules.specs.Lengths.{agree}
use Rattle.bsdl_rules.proofs.AgreeLaws.{all_agree, row_differs, row_known}
use Rattle.bsdl_rules.proofs.agreeing.agree.Goals as goal

parted : (rows : List AccessRow) (i : ℕ) (r : AccessRow) → r ≡ get_or rows i r → i < length rows → map access_row rows ≡ map access_row (take i rows) ++ access_row r ∷ map access_row (drop (suc i) rows)
parted rows i r is h =
    ap (map access_row) (sym (take-append-drop i rows) ∙ ap (λ ds. take i rows ++ ds) (drop-cons rows i r h))
    ∙ map-append access_row (take i rows) (get_or rows i r ∷ drop (suc i) rows)
    ∙ ap (λ (s : AccessRow). map access_row (take i rows) ++ access_row s ∷ map access_row (drop (suc i) rows)) (sym is)

pub returns : goal.returns
returns c =
    all_agree (λ q. option_map value (get_by_text c.loop-row.lengths q)) (map access_row (take c.loop-row.row-index c.args.rows.now)) c.loop-row.invariant
    ∙ ap (λ rows. agree (map access_row rows)) (take_all c.loop-row.row-index c.args.rows.now c.loop-row-test.false)

taken : (rows : List AccessRow) (i : ℕ) (r : AccessRow) → r ≡ get_or rows i r → i < length rows → map access_row (take (i + 1) rows) ≡ map access_row (take i rows) ++ access_row r ∷ []
taken rows i r is h =
    ap (map access_row) (take_more rows i r h) ∙ map-append access_row (take i rows) (get_or rows i r ∷ [])
    ∙ ap (λ (s : AccessRow). map access_row (take i rows) ++ access_row s ∷ []) (sym is)

pub returns-then-not-branch : goal.returns-then-not-branch
returns-then-not-branch c =
    let rows = c.args.rows.now in
    let i = c.loop-row.row-index in
    row_differs (λ q. option_map value (get_by_text c.loop-row.lengths q)) (map access_row (take i rows)) (map access_row (drop (suc i) rows)) (access_row c.row-item.result)
    (sym c.in_ok-put_row.ensures.known ∙ c.if-not-branch.true) c.loop-row.invariant
    ∙ ap agree (sym (parted rows i c.row-item.result c.row-item.is c.loop-row-test.true))

pub loop-row-preserved : goal.loop-row-preserved
loop-row-preserved c =
    let rows = c.args.rows.now in
    let i = c.loop-row.row-index in
    rw (taken rows i c.row-item.result c.row-item.is c.loop-row-test.true)
    (row_known (λ q. option_map value (get_by_text c.loop-row.lengths q)) (λ q. option_map value (get_by_text c.put_row.new.lengths q)) (map access_row (take i rows)) (access_row c.row-item.result)
    (sym c.in_ok-put_row.ensures.known ∙ c.if-not-branch.false) c.in_ok-put_row.ensures.noted c.loop-row.invariant)
