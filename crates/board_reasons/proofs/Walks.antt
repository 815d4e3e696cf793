-- Where the joined registers of a chain are walked from TDO on.
use Rattle.std.proofs.Common.{◌≡◌, Bool, ℕ, suc, ◌+◌, ◌-◌, ◌<◌, ◌≤◌, List, ◌∷◌, length, drop, Option, Some, option_map, slice_get, sym, ap, ◌∙◌, arith}
use Rattle.std.specs.Prelude.{false, if◌then◌else◌, unwrap_or}
use Rattle.std.proofs.lemmas.Bool.{lt-ltb, le-ltb}
use Rattle.std.proofs.lemmas.List.{drop_all, drop_more}
use Rattle.std.proofs.lemmas.Option.{get_or_from_slice_get, slice_get-map, slice_get_within}
use Rattle.jt_tap.specs.declared.Column.{Column}
use Rattle.board_model.specs.Cells.{Member}
use Rattle.board_model.specs.Chain.{ChipState, members}
use Rattle.board_model.specs.Whole.{selected_bits_of}
use Rattle.pin_nets.specs.Wired.{Net}
use Rattle.board_reasons.specs.declared.origins.Holder.{Holder}
use Rattle.board_reasons.specs.declared.origins.Origin.{Origin}
use Rattle.board_reasons.specs.declared.origins.Origin.TheVariants.{Register, Tdi}
use Rattle.board_plan.specs.declared.plan.PlannedDevice.{PlannedDevice}
use Rattle.board_reasons.specs.Origins.{origin_from}
use Rattle.board_reasons.specs.Planned.{CaptureAlike, updates_at}

pub member_there : (chips : List ChipState) (i : ℕ) (s : ChipState) → slice_get chips i ≡ Some s → slice_get (members chips) i ≡ Some s.member
member_there chips i s here = slice_get-map (λ (c : ChipState). c.member) chips i ∙ ap (option_map (λ (c : ChipState). c.member)) here

parted : (ms : List Member) (i : ℕ) (m : Member) → slice_get ms i ≡ Some m → drop i ms ≡ m ∷ drop (i + 1) ms
parted ms i m here =
    drop_more ms i m (slice_get_within ms i m here) ∙ ap (λ (x : Member). x ∷ drop (i + 1) ms) (get_or_from_slice_get ms i m m here)

module _ (column : Column) (ms : List Member) (i rest : ℕ) (m : Member) (here : slice_get ms i ≡ Some m) where
  by_test : (b : Bool) → Origin
  by_test b = if b then Register i rest else origin_from column (suc i) (drop (i + 1) ms) (rest - length (selected_bits_of column m))

  pub found_here : rest < length (selected_bits_of column m) → origin_from column i (drop i ms) rest ≡ Register i rest
  unfolding by_test
  found_here inside = ap (λ (l : List Member). origin_from column i l rest) (parted ms i m here) ∙ ap by_test (lt-ltb rest (length (selected_bits_of column m)) inside)

  pub further_on : length (selected_bits_of column m) ≤ rest
      → origin_from column i (drop i ms) rest ≡ origin_from column (i + 1) (drop (i + 1) ms) (rest - length (selected_bits_of column m))
  unfolding by_test
  further_on past =
      let next : suc i ≡ i + 1 = omega arith in
      ap (λ (l : List Member). origin_from column i l rest) (parted ms i m here) ∙ ap by_test (le-ltb rest (length (selected_bits_of column m)) past)
      ∙ ap (λ (d : ℕ). origin_from column d (drop (i + 1) ms) (rest - length (selected_bits_of column m))) next

pub past_all : (column : Column) (ms : List Member) (i rest : ℕ) → length ms ≤ i → origin_from column i (drop i ms) rest ≡ Tdi rest
past_all column ms i rest past = ap (λ (l : List Member). origin_from column i l rest) (drop_all i ms past)

-- ---- what a bit of a device is held by

module _ (nets : List Net) (chips : List ChipState) (device bit : ℕ) where
  there : (s : ChipState) → slice_get chips device ≡ Some s → slice_get (members chips) device ≡ Some s.member
  there s here = member_there chips device s here

  -- bits that every device would hold alike
  pub held_alike : (s : ChipState) (f : Member → Holder) (h : Holder) → slice_get chips device ≡ Some s → f s.member ≡ h → option_map f (slice_get (members chips) device) ≡ Some h
  held_alike s f h here same = ap (option_map f) (there s here) ∙ ap (λ x. Some x) same

-- ---- which devices capture their update stages under EXTEST

pub alike_at : (devices : List PlannedDevice) (ms : List Member) (k : ℕ) (m : Member) → CaptureAlike devices ms → slice_get ms k ≡ Some m → updates_at devices k ≡ m.extest_update
alike_at devices ms k m alike here =
    let planned = λ (p : PlannedDevice). p.extest_update in
    let mine = λ (x : Member). x.extest_update in
    ap (λ (o : Option Bool). unwrap_or o false)
    (sym (slice_get-map planned devices k) ∙ ap (λ (l : List Bool). slice_get l k) alike ∙ slice_get-map mine ms k ∙ ap (option_map mine) here)
