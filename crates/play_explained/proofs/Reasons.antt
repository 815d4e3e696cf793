-- What is told of a reason hangs on the nets, and on the names and descriptions of the devices.
use Rattle.std.proofs.Common.{◌≡◌, ℕ, List, map, Option, Some, None, option_map, slice_get, refl, sym, ap, ◌∙◌}
use Rattle.std.specs.Prelude.{unwrap_or, codes, ◌++◌, []}
use Rattle.std.proofs.lemmas.Option.{slice_get-map}
use Rattle.scan_vectors.specs.declared.failures.Mismatch.{Mismatch}
use Rattle.pin_nets.specs.Wired.{Net}
use Rattle.board_model.specs.Cells.{Member}
use Rattle.board_reasons.specs.Lines.{from_device, from_line, of_device, of_member, wanted_line}
use Rattle.board_reasons.specs.Reasons.{reason_lines}
use Rattle.board_reasons.specs.declared.origins.Holder.{Holder}
use Rattle.board_reasons.specs.declared.origins.Holder.TheVariants.{Bypass, Identification, User, Instruction, Cell, Tdi}
use Rattle.board_reasons.specs.declared.origins.Reason.{Reason}
use Rattle.play_explained.specs.declared.explaining.Explained.{Explained}
use Rattle.play_explained.specs.Kept.{Plate, plate, plates}
use Rattle.play_explained.specs.Lines.{lines_found, lines_on_board, reason_of}

on_plate : List Net → Holder → Plate → List ℕ
on_plate nets h p = from_device nets h p.name p.device

by_plates : (nets : List Net) (ms : List Member) (h : Holder) (i : ℕ)
    → of_device nets ms h i ≡ unwrap_or (option_map (on_plate nets h) (slice_get (plates ms) i)) []
unfolding on_plate
by_plates nets ms h i =
    ap (λ (o : Option (List ℕ)). unwrap_or o []) (mapped (slice_get ms i) ∙ sym (ap (option_map (on_plate nets h)) (slice_get-map plate ms i)))
  where
    mapped : (o : Option Member) → option_map (of_member nets h) o ≡ option_map (on_plate nets h) (option_map plate o)
    mapped None = refl
    mapped (Some m) = refl

module _ (nets : List Net) (ms ns : List Member) (same : plates ms ≡ plates ns) where
  device_same : (h : Holder) (i : ℕ) → of_device nets ms h i ≡ of_device nets ns h i
  device_same h i =
      by_plates nets ms h i ∙ ap (λ ps. unwrap_or (option_map (on_plate nets h) (slice_get ps i)) []) same ∙ sym (by_plates nets ns h i)

  from_same : (h : Holder) → from_line nets ms h ≡ from_line nets ns h
  from_same (Tdi part bit) = refl
  from_same (Bypass device by) = device_same (Bypass device by) device
  from_same (Identification device bit) = device_same (Identification device bit) device
  from_same (User device k bit) = device_same (User device k bit) device
  from_same (Instruction device bit) = device_same (Instruction device bit) device
  from_same (Cell device cell captured) = device_same (Cell device cell captured) device

  found_same : (found : Option Reason) → lines_found nets ms found ≡ lines_found nets ns found
  found_same None = refl
  found_same (Some r) = ap (λ l. wanted_line r.wanted ++ l) (from_same r.holder)

  pub lines_same : (explained : List Explained) (f : Mismatch) → lines_on_board nets ms explained f ≡ lines_on_board nets ns explained f
  lines_same explained f = found_same (reason_of explained f)
