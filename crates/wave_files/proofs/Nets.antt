-- What is said of a net, by its name and its levels.
use Rattle.std.proofs.Common.{◌≡◌, ℕ, List, Some, option_map, sym, ap, subst, ◌∙◌}
use Rattle.std.specs.Prelude.{slice_get}
use Rattle.pin_nets.specs.declared.Level.{Level}
use Rattle.pin_nets.specs.Wired.{Net}
use Rattle.board_model.specs.Chain.{ChipState, members}
use Rattle.board_model.specs.Nets.{level}
use Rattle.wave_files.specs.Changes.{net_change}
use Rattle.wave_files.specs.Heading.{net_line, variable}
use Rattle.wave_files.specs.Values.{byte_change, byte_line, level_byte}
use Rattle.wave_files.proofs.Numbers.{there_is}

-- the net at a place, of which this is said
pub record NetSaid (nets : List Net) (k : ℕ) (said : Net → List ℕ) (bytes : List ℕ) : Type 0 where
  pub net : Net
  pub is : slice_get nets k ≡ Some net
  pub text : bytes ≡ said net

pub line_said : (nets : List Net) (cs : List ChipState) (k m : ℕ) (l : Level) (b : ℕ) → option_map (level nets (members cs)) (slice_get nets k) ≡ Some l
    → b ≡ level_byte l → NetSaid nets k (net_line nets cs m) (byte_line m b)
line_said nets cs k m l b at byte =
    let it = there_is (level nets (members cs)) (slice_get nets k) l at in
    record { net = it.thing; is = it.is; text = ap (byte_line m) (byte ∙ ap level_byte (sym it.says)) }

pub variable_said : (nets : List Net) (k m : ℕ) (kind name : List ℕ) → option_map (λ (n : Net). n.name) (slice_get nets k) ≡ Some name
    → NetSaid nets k (λ (n : Net). variable kind m n.name) (variable kind m name)
variable_said nets k m kind name at =
    let it = there_is (λ (n : Net). n.name) (slice_get nets k) name at in
    record { net = it.thing; is = it.is; text = ap (variable kind m) (sym it.says) }

pub change_said : (nets other : List Net) (before after : List ChipState) (k m : ℕ) (l o : Level) (b d : ℕ) → other ≡ nets
    → option_map (level nets (members before)) (slice_get nets k) ≡ Some l → option_map (level other (members after)) (slice_get other k) ≡ Some o
    → b ≡ level_byte l → d ≡ level_byte o → NetSaid nets k (net_change nets before after m) (byte_change m b d)
change_said nets other before after k m l o b d same at next byte byte_next =
    let it = there_is (level nets (members before)) (slice_get nets k) l at in
    let moved : option_map (level nets (members after)) (slice_get nets k) ≡ Some o =
    subst (λ (ns : List Net). option_map (level ns (members after)) (slice_get ns k) ≡ Some o) same next in
    let said : level nets (members after) it.thing ≡ o = then_says nets after it.thing o (ap (option_map (level nets (members after))) (sym it.is) ∙ moved) in
    record {
      net = it.thing;
      is = it.is;
      text = λ i. byte_change m ((byte ∙ ap level_byte (sym it.says)) i) ((byte_next ∙ ap level_byte (sym said)) i);
    }
  where
    then_says : (ns : List Net) (cs : List ChipState) (n : Net) (r : Level) → option_map (level ns (members cs)) (Some n) ≡ Some r → level ns (members cs) n ≡ r
    then_says ns cs n r e = cc
