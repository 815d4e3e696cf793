-- What all devices become at once; and the chain is settled behind that, in a vector that holds them.
use Rattle.std.proofs.Common.{◌≡◌, ◌∙◌, Bool, true, List, map, refl, sym, ap, subst, if◌then◌else◌}
use Rattle.std.proofs.lemmas.List.{with_items_is}
use Rattle.std.specs.Global.{Vec}
use Rattle.std.specs.Vec.{with_items}
use Rattle.jt_tap.specs.declared.Column.{Column}
use Rattle.jt_tap.specs.declared.State.{State}
use Rattle.jt_tap.specs.declared.State.TheVariants.{Reset}
use Rattle.pin_nets.specs.Wired.{Net}
use Rattle.board_model.specs.Cells.{Member}
use Rattle.board_model.specs.Chain as chain
use Rattle.board_model.specs.Chain.{ChipState, members}
use Rattle.board_model.specs.Nets as nets
use Rattle.board_model.specs.Resting.{chip_at_rest}
use Rattle.board_model.specs.Whole.{capture_all, settled_member, trst_member}
use Rattle.board_chips.specs.DrivingTable.{DrivingTable}
use Rattle.board_chips.specs.Strings.{less_core}
use Rattle.board_chips.specs.WiredChips.{AllTold, WiredChipValue, chip_state, held_of, member_of}
use Rattle.board_chips.specs.WiringValues.{WiringValue}
use Rattle.board_chips.specs.Wires.{IsWired}
use Rattle.board_chips.specs.declared.strings.WiredString.{WiredString}
use Rattle.board_chain.specs.AtRest.{AssertsTrst, CapturesAt, Changes, Stands, in_registers}
use Rattle.board_chain.specs.Settled.{Becomes, IsSettled, Keeps, WasSettled, as_told}
use Rattle.board_chain.specs.Sweeping.{EachFrom, Falls, Rises, TakesTrst, Still}
use Rattle.board_chain.proofs.ChainLaws.{all_chips, all_told, rises_chips, trst_chips, trst_told}
use Rattle.board_chain.proofs.RestLaws.{Cut, PutSome, asserted_chips, asserted_told, captured_chips, changed_chips, cut_each, shifted_told, stood_chips}
use Rattle.board_chain.proofs.SettledLaws.{keeps, quiet_settled, same_chips, same_long, same_told}
use Rattle.board_chain.proofs.SweepLaws.{each_long}

-- in other registers they are what f makes of them, and were told the level of TRST that the one before leads to
pub record AreChanged (trst : Bool → Bool) (f : List ChipState → List ChipState) (old new : List WiredChipValue) : Type 0 where
  pub each : EachFrom Keeps 0 old new
  pub chips : map chip_state new ≡ f (map chip_state old)
  pub told : (level : Bool) → AllTold level old → AllTold (trst level) new

-- ---- each change

pub risen : (w : WiringValue) (tms tdi trst : Bool) (old new : List WiredChipValue) → IsWired old w → nets.in_force w.nets (map member_of old) ≡ map held_of old
    → AllTold trst old → EachFrom (Rises w tms tdi old) 0 old new
    → AreChanged as_told (chain.rise_all trst tms tdi (nets.told w.nets (members (map chip_state old))) 0) old new
risen w tms tdi trst old new wired force told each = record {
  each = keeps (Rises w tms tdi old) (λ i s t r. r.kept) 0 old new each;
  chips = rises_chips w tms tdi old wired trst new each told force;
  told = λ level. all_told (Rises w tms tdi old) (λ i s t r. r.trst) level 0 old new each;
}

pub fallen : (old new : List WiredChipValue) → EachFrom Falls 0 old new → AreChanged as_told (map chain.fall) old new
fallen old new each = record {
  each = keeps Falls (λ i s t r. r.kept) 0 old new each;
  chips = all_chips Falls chain.fall (λ i s t r. r.chip) 0 old new each;
  told = λ level. all_told Falls (λ i s t r. r.trst) level 0 old new each;
}

pub told_trst : (trst : Bool) (old new : List WiredChipValue) → EachFrom (TakesTrst trst) 0 old new
    → AreChanged (λ level. trst) (λ chips. if trst then map chain.assert_trst chips else chips) old new
told_trst trst old new each = record {
  each = keeps (TakesTrst trst) (λ i s t r. r.kept) 0 old new each;
  chips = trst_chips trst old new each;
  told = λ level told. trst_told trst 0 old new each;
}

pub captured : (w : WiringValue) (column : Column) (old new : List WiredChipValue) → IsWired old w → nets.in_force w.nets (map member_of old) ≡ map held_of old
    → EachFrom (CapturesAt w column) 0 old new
    → AreChanged as_told (in_registers (capture_all column (nets.told w.nets (members (map chip_state old))) 0)) old new
captured w column old new wired force each = record {
  each = keeps (CapturesAt w column) (λ i s t r. r.kept) 0 old new each;
  chips = captured_chips w column old wired new each force;
  told = λ level. all_told (CapturesAt w column) (λ i s t r. r.trst) level 0 old new each;
}

pub changed : (f : Member → Member) (old new : List WiredChipValue) → EachFrom (Changes f) 0 old new → AreChanged as_told (in_registers (map f)) old new
changed f old new each = record {
  each = keeps (Changes f) (λ i s t r. r.kept) 0 old new each;
  chips = changed_chips f old new each;
  told = λ level. all_told (Changes f) (λ i s t r. r.trst) level 0 old new each;
}

pub stood : (state : State) (old new : List WiredChipValue) → EachFrom (Stands state) 0 old new
    → AreChanged as_told (λ chips. map (chip_at_rest state) (members chips)) old new
stood state old new each = record {
  each = keeps (Stands state) (λ i s t r. r.kept) 0 old new each;
  chips = stood_chips state old new each;
  told = λ level. all_told (Stands state) (λ i s t r. r.trst) level 0 old new each;
}

pub asserted : (rests : State) (old new : List WiredChipValue) → EachFrom (AssertsTrst rests) 0 old new
    → AreChanged (λ level. true) (λ chips. map (chip_at_rest Reset) (map (trst_member (settled_member rests)) (members chips))) old new
asserted rests old new each = record {
  each = keeps (AssertsTrst rests) (λ i s t r. r.kept) 0 old new each;
  chips = asserted_chips rests old new each;
  told = λ level told. asserted_told rests 0 old new each;
}

pub cut : (column : Column) (f : List ChipState → List ChipState) (bits : List Bool) (old new : List WiredChipValue) → Cut column bits old new
    → map chip_state new ≡ f (map chip_state old) → AreChanged as_told f old new
cut column f bits old new is chips = record {
  each = keeps (PutSome column) (λ i s t r. r.is.kept) 0 old new (cut_each column 0 bits old new is);
  chips = chips;
  told = λ level. shifted_told column level bits old new is;
}

-- ---- in a vector

kept_is : (v : Vec WiredChipValue) (mid : List WiredChipValue) → EachFrom Keeps 0 v.items mid → (with_items v mid).items ≡ mid
kept_is v mid each = with_items_is v mid (each_long Keeps 0 v.items mid each ∙ sym v.ok.0)

-- where nothing is driven anew
pub quiet_holds : (v : Vec WiredChipValue) (mid : List WiredChipValue) (w : WiringValue) (d : DrivingTable) (strings : List WiredString)
    → IsSettled v.items w d strings → EachFrom Keeps 0 v.items mid → EachFrom Still 0 v.items mid → IsSettled (with_items v mid).items w d strings
quiet_holds v mid w d strings is each still =
    subst (λ (l : List WiredChipValue). IsSettled l w d strings) (sym (kept_is v mid each)) (quiet_settled v.items mid w d strings is each still)

module _ (trst : Bool → Bool) (f : List ChipState → List ChipState) (v : Vec WiredChipValue) (mid : List WiredChipValue) (change : AreChanged trst f v.items mid) where
  mid_is : (with_items v mid).items ≡ mid
  mid_is = kept_is v mid change.each

  pub quiet_becomes : (ns : List Net) → Becomes trst f (record { nets = ns; chips = v.items }) (record { nets = ns; chips = (with_items v mid).items })
  quiet_becomes ns = record {
    chips = ap (map chip_state) mid_is ∙ change.chips;
    told = λ level told. subst (AllTold (trst level)) (sym mid_is) (change.told level told);
    nets = refl;
  }

  -- where all is put anew behind it, for the devices that the vector lends
  module _ (lent : List WiredChipValue) (lends : lent ≡ (with_items v mid).items) where
    pub anew_was : (w : WiringValue) (d : DrivingTable) (strings : List WiredString) → IsSettled v.items w d strings → WasSettled lent w d strings
    anew_was w d strings is = record {
      before = v.items;
      settled = is;
      kept = subst (λ (l : List WiredChipValue). EachFrom Keeps 0 v.items l) (sym (lends ∙ mid_is)) change.each;
    }

    module _ (new : List WiredChipValue) (less : map less_core new ≡ map less_core lent) where
      same : map less_core new ≡ map less_core mid
      same = less ∙ ap (map less_core) (lends ∙ mid_is)

      new_is : (with_items (with_items v mid) new).items ≡ new
      new_is = with_items_is (with_items v mid) new (same_long new mid same ∙ each_long Keeps 0 v.items mid change.each ∙ sym v.ok.0)

      pub anew_holds : (w : WiringValue) (d : DrivingTable) (strings : List WiredString) → IsSettled new w d strings
          → IsSettled (with_items (with_items v mid) new).items w d strings
      anew_holds w d strings is = subst (λ (l : List WiredChipValue). IsSettled l w d strings) (sym new_is) is

      pub anew_becomes : (before after : List Net) → after ≡ before
          → Becomes trst f (record { nets = before; chips = v.items }) (record { nets = after; chips = (with_items (with_items v mid) new).items })
      anew_becomes before after kept = record {
        chips = ap (map chip_state) new_is ∙ same_chips new mid same ∙ change.chips;
        told = λ level told. subst (AllTold (trst level)) (sym new_is) (same_told (trst level) new mid same (change.told level told));
        nets = kept;
      }
