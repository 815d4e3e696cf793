-- A report that grows line by line.
use Rattle.std.proofs.Common.{◌≡◌, Bool, true, false, ℕ, ◌+◌, List, [], ◌∷◌, ◌++◌, map, sym, ap, ◌∙◌, refl, get_or, option_map, Option, None, Some}
use Rattle.std.specs.Prelude.{slice_get, flat_map}
use Rattle.std.proofs.lemmas.Option.{get_or_from_slice_get, none-some, same_Some}
use Rattle.std.specs.List.{filter}
use Rattle.bsdl_device.specs.Device.{Device, Opcode}
use Rattle.board_plan.specs.LeftOut.{is_left_out}
use Rattle.jt_board.specs.LeftOut.{left_out_line, name_lines}
use Rattle.pin_nets.specs.declared.Level.{Level}
use Rattle.pin_nets.specs.declared.Pull.TheVariants.{Free}
use Rattle.pin_nets.specs.declared.Rule.TheVariants.{Counted}
use Rattle.pin_nets.specs.Wired.{Net}
use Rattle.board_chain.specs.Cells.{Member}
use Rattle.board_chain.specs.Nets.{level}
use Rattle.jt_board.specs.Report.{level_line, net_line}

pub nowhere : Net
nowhere = record { name = []; pull = Free; rule = Counted; pins = [] }

-- the line of a net, by its name and its level
pub net_said : (ms : List Member) (nets : List Net) (k : ℕ) (name : List ℕ) (l : Level) → option_map (λ n. n.name) (slice_get nets k) ≡ Some name
    → option_map (level nets ms) (slice_get nets k) ≡ Some l → level_line name l ≡ net_line nets ms (get_or nets k nowhere)
net_said ms nets k name l named is = by (slice_get nets k) refl
  where
    by : (o : Option Net) → slice_get nets k ≡ o → level_line name l ≡ net_line nets ms (get_or nets k nowhere)
    by None at = absurd (none-some name (sym (ap (option_map (λ (n : Net). n.name)) at) ∙ named))
    by (Some n) at =
        let name-is : n.name ≡ name = same_Some _ _ (sym (ap (option_map (λ (n : Net). n.name)) at) ∙ named) in
        let level-is : level nets ms n ≡ l = same_Some _ _ (sym (ap (option_map (level nets ms)) at) ∙ is) in
        sym (ap (λ (x : List ℕ). level_line x l) name-is) ∙ sym (ap (level_line n.name) level-is) ∙ sym (ap (net_line nets ms) (get_or_from_slice_get nets k n nowhere at))

-- ---- instructions that are left out

-- of an opcode row
abbrev pub row_lines : List ℕ → Device → Opcode → List ℕ
row_lines device d o = name_lines device d o.name

-- the lines of the rows, one after another, are those of the instructions that are left out
pub lines_by_rows : (device : List ℕ) (d : Device) (rows : List Opcode)
    → flat_map (row_lines device d) rows ≡ flat_map (left_out_line device) (filter (is_left_out d) (map (λ (o : Opcode). o.name) rows))
lines_by_rows device d [] = refl
lines_by_rows device d (o ∷ rows) = by (is_left_out d o.name) refl (lines_by_rows device d rows)
  where
    by : (b : Bool) → is_left_out d o.name ≡ b
        → flat_map (row_lines device d) rows ≡ flat_map (left_out_line device) (filter (is_left_out d) (map (λ (o : Opcode). o.name) rows))
        → flat_map (row_lines device d) (o ∷ rows) ≡ flat_map (left_out_line device) (filter (is_left_out d) (map (λ (o : Opcode). o.name) (o ∷ rows)))
    by true is rest = rw is (ap (λ (l : List ℕ). left_out_line device o.name ++ l) rest)
    by false is rest = rw is rest
