use Rattle.std.proofs.Common.{◌≡◌, List, [], ◌∷◌, length, Option, Some, None, refl, sym, ap, ◌∙◌, arith}
use Rattle.std.specs.Prelude.{slice_get, unwrap_or}
use Rattle.board_model.specs.Chain.{ChipState}
use Rattle.board_chips.specs.WiredChips.{chip_state}
use Rattle.wave_files.specs.Values.{first_tdo}
use Rattle.wave_files.proofs.shown.tdo_of.Goals as goal

none_first : (cs : List ChipState) → length cs ≡ 0 → None ≡ first_tdo cs
none_first [] e = refl
none_first (c ∷ cs) e = absurd (omega (arith, e))

first_is : (cs : List ChipState) (c : ChipState) → slice_get cs 0 ≡ Some c → c.tdo ≡ first_tdo cs
first_is [] c e = cc
first_is (d ∷ cs) c e = ap (λ (o : Option ChipState). (unwrap_or o d).tdo) (sym e)

pub returns-then-devices-eq0 : goal.returns-then-devices-eq0
returns-then-devices-eq0 c = none_first c.args.chain.now.chips (sym c.devices.ensures ∙ c.if-devices-eq0.true)

pub returns : goal.returns
returns c = c.tdo.ensures ∙ first_is c.args.chain.now.chips (chip_state c.chip.result.now) c.chip.ensures
