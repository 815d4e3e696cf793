-- A board at rest stays one when its registers are taken whole.
use Rattle.std.proofs.Common.{◌≡◌, ◌≢◌, ◌<◌, ◌≤◌, ℕ, zero, suc, Bool, true, false, List, [], ◌∷◌, ◌++◌, length, map}
use Rattle.std.proofs.Common.{drop, slice_get, Some, refl, sym, ap, subst, ◌∙◌, arith}
use Rattle.std.specs.Prelude.{if◌then◌else◌}
use Rattle.std.proofs.lemmas.List.{length-append, length-drop, length-map}
use Rattle.jt_limits.specs.Limits.{limits}
use Rattle.jt_tap.specs.declared.Column.{Column}
use Rattle.jt_tap.specs.declared.Column.TheVariants.{Dr, Ir}
use Rattle.jt_tap.specs.Controller.{is_at}
use Rattle.jt_tap.specs.declared.State.{State}
use Rattle.jt_tap.specs.declared.State.TheVariants.{DrPause, IrPause, Reset}
use Rattle.pin_nets.specs.Wired.{Net}
use Rattle.board_model.specs.Cells.{Member, Told}
use Rattle.board_model.specs.Chain.{BoardState, ChipState, members}
use Rattle.board_model.specs.Nets.{told}
use Rattle.board_model.specs.Resting.{IsAtRest, chip_at_rest}
use Rattle.board_model.specs.Sound.{AllSound, IsChain, IsSound}
use Rattle.board_model.specs.Whole.{AtRest, arrive, capture, capture_all, joined_bits, reset_all}
use Rattle.board_model.specs.Whole.{reset_member, settle, settled_member, shift, trst_asserted, trst_member, update}
use Rattle.board_model.specs.Whole.{update_member}
use Rattle.board_model.proofs.ShiftCycles.{count-cut_back}
use Rattle.board_model.proofs.Sound.{Sound-capture_all, Sound-cut_back, Sound-reset, Sound-update, sound-other}
use Rattle.board_model.proofs.Sound.{sound-updated}
use Rattle.board_chain.specs.AtRest.{as_members, chain_as, shifted_through}
use Rattle.board_chain.specs.Chains.{ChainValue}
use Rattle.jt_board.specs.Made.{board_at}

-- ---- members and chips

count-members : (cs : List ChipState) → length (members cs) ≡ length cs
count-members cs = length-map cs (λ (c : ChipState). c.member)

members-as : (ms : List Member) (cs : List ChipState) → length ms ≡ length cs → members (as_members ms cs) ≡ ms
members-as [] [] long = refl
members-as [] (c ∷ cs) long = refl
members-as (m ∷ ms) [] long = absurd (omega (arith, long))
members-as (m ∷ ms) (c ∷ cs) long = ap (λ (r : List Member). m ∷ r) (members-as ms cs (omega (arith, long)))

count-as : (ms : List Member) (cs : List ChipState) → length ms ≡ length cs → length (as_members ms cs) ≡ length cs
count-as [] [] long = refl
count-as [] (c ∷ cs) long = absurd (omega (arith, long))
count-as (m ∷ ms) [] long = absurd (omega (arith, long))
count-as (m ∷ ms) (c ∷ cs) long = ap (λ (n : ℕ). suc n) (count-as ms cs (omega (arith, long)))

-- a chain in other sound registers is one
pub chain-as : (ms : List Member) (cs : List ChipState) → length ms ≡ length (members cs) → AllSound ms → IsChain cs
    → IsChain (as_members ms cs)
chain-as ms cs long sound is =
    let same : length ms ≡ length cs = long ∙ count-members cs in
    record {
      some = subst (λ (n : ℕ). 0 < n) (sym (count-as ms cs same)) is.some;
      most = subst (λ (n : ℕ). n ≤ limits.devices) (sym (count-as ms cs same)) is.most;
      sound = subst AllSound (sym (members-as ms cs same)) sound;
    }

standing-members : (state : State) (ms : List Member) → members (map (chip_at_rest state) ms) ≡ ms
standing-members state [] = refl
standing-members state (m ∷ ms) = ap (λ (r : List Member). m ∷ r) (standing-members state ms)

-- a chain whose controllers all stand is one
pub chain-stands : (state : State) (cs : List ChipState) → IsChain cs → IsChain (map (chip_at_rest state) (members cs))
chain-stands state cs is =
    let long : length (map (chip_at_rest state) (members cs)) ≡ length cs = length-map (members cs) (chip_at_rest state)
    ∙ count-members cs in
    record {
      some = subst (λ (n : ℕ). 0 < n) (sym long) is.some;
      most = subst (λ (n : ℕ). n ≤ limits.devices) (sym long) is.most;
      sound = subst AllSound (sym (standing-members state (members cs))) is.sound;
    }

-- ---- each action keeps a chain

count-captured : (column : Column) (about : ℕ → Told) (k : ℕ) (ms : List Member)
    → length (capture_all column about k ms) ≡ length ms
count-captured column about k [] = refl
count-captured column about k (m ∷ ms) = ap (λ (n : ℕ). suc n) (count-captured column about (suc k) ms)

pub chain-captured : (column : Column) (nets : List Net) (cs : List ChipState) → IsChain cs
    → IsChain (as_members (capture_all column (told nets (members cs)) 0 (members cs)) cs)
chain-captured column nets cs is =
    let about = told nets (members cs) in
    chain-as (capture_all column about 0 (members cs)) cs (count-captured column about 0 (members cs))
    (Sound-capture_all column about 0 (members cs) is.sound) is

pub chain-updated : (column : Column) (cs : List ChipState) → IsChain cs
    → IsChain (as_members (map (update_member column) (members cs)) cs)
chain-updated column cs is =
    chain-as (map (update_member column) (members cs)) cs (length-map (members cs) (update_member column))
    (Sound-update column (members cs) is.sound) is

pub chain-reset : (cs : List ChipState) → IsChain cs → IsChain (as_members (map reset_member (members cs)) cs)
chain-reset cs is =
    chain-as (map reset_member (members cs)) cs (length-map (members cs) reset_member)
    (Sound-reset (members cs) is.sound) is

pub chain-shifted : (column : Column) (t : List Bool) (cs : List ChipState) → IsChain cs
    → IsChain (as_members (shifted_through column t (members cs)) cs)
chain-shifted column t cs is =
    let left = drop (length t) (joined_bits column (members cs) ++ t) in
    let long : length left ≡ length (joined_bits column (members cs)) =
    omega (
      arith,
      length-drop (length t) (joined_bits column (members cs) ++ t),
      length-append
          (joined_bits column (members cs)) t,
    ) in
    chain-as (shifted_through column t (members cs)) cs (count-cut_back column left (members cs))
    (Sound-cut_back column left (members cs) is.sound long) is

-- ---- each action on a board at rest

as-standing : (state : State) (ms ns : List Member) → length ns ≡ length ms
    → as_members ns (map (chip_at_rest state) ms) ≡ map (chip_at_rest state) ns
as-standing state [] [] long = refl
as-standing state [] (n ∷ ns) long = absurd (omega (arith, long))
as-standing state (m ∷ ms) [] long = absurd (omega (arith, long))
as-standing state (m ∷ ms) (n ∷ ns) long =
    ap (λ (r : List ChipState). chip_at_rest state n ∷ r) (as-standing state ms ns (omega (arith, long)))

-- what the chain became, by its members
abbrev pub became : Bool → (List Net → List Member → List Member) → ChainValue → BoardState
became tck f c = board_at tck (chain_as (f c.nets (members c.chips)) c)

pub rests_as : (f : List Net → List Member → List Member)
    → ((nets : List Net) (ms : List Member) → length (f nets ms) ≡ length ms)
    → (tck : Bool) (c : ChainValue) (m : AtRest) → IsAtRest (board_at tck c) m
    → IsAtRest (became tck f c) (record m { members = f m.nets m.members })
rests_as f long tck c m is =
    let same : members c.chips ≡ m.members = ap (λ (b : BoardState). members b.chips) is
    ∙ standing-members m.place m.members in
    (λ i. record {
      tck = (is i).tck;
      trst = (is i).trst;
      nets = (is i).nets;
      chips = as_members (f (is i).nets (same i)) (is i).chips;
    })
    ∙ (λ i. record {
      tck = false;
      trst = m.trst;
      nets = m.nets;
      chips = as-standing m.place m.members (f m.nets m.members) (long m.nets m.members) i;
    })

pub rests_standing : (state : State) (tck : Bool) (c : ChainValue) (m : AtRest) → IsAtRest (board_at tck c) m
    → IsAtRest (board_at tck (record c { chips = map (chip_at_rest state) (members c.chips) }))
    (record m { place = state })
rests_standing state tck c m is =
    let same : members c.chips ≡ m.members = ap (λ (b : BoardState). members b.chips) is
    ∙ standing-members m.place m.members in
    λ i. record {
      tck = (is i).tck;
      trst = (is i).trst;
      nets = (is i).nets;
      chips = map (chip_at_rest state) (same i);
    }

pub rests_captured : (column : Column) (tck : Bool) (c : ChainValue) (m : AtRest) → IsAtRest (board_at tck c) m
    → IsAtRest (board_at tck (chain_as (capture_all column (told c.nets (members c.chips)) 0 (members c.chips)) c))
    (capture column m)
rests_captured column tck c m is =
    rests_as (λ nets ms. capture_all column (told nets ms) 0 ms)
    (λ nets ms. count-captured column (told nets ms) 0 ms) tck c m is

pub rests_updated : (column : Column) (tck : Bool) (c : ChainValue) (m : AtRest) → IsAtRest (board_at tck c) m
    → IsAtRest (board_at tck (chain_as (map (update_member column) (members c.chips)) c)) (update column m)
rests_updated column tck c m is =
    rests_as (λ nets ms. map (update_member column) ms) (λ nets ms. length-map ms (update_member column)) tck c m is

pub rests_reset : (tck : Bool) (c : ChainValue) (m : AtRest) → IsAtRest (board_at tck c) m
    → IsAtRest (board_at tck (chain_as (map reset_member (members c.chips)) c)) (reset_all m)
rests_reset tck c m is = rests_as (λ nets ms. map reset_member ms) (λ nets ms. length-map ms reset_member) tck c m is

pub rests_shifted : (column : Column) (t : List Bool) (tck : Bool) (c : ChainValue) (m : AtRest)
    → IsAtRest (board_at tck c) m
    → IsAtRest (board_at tck (chain_as (shifted_through column t (members c.chips)) c)) (shift column t m)
rests_shifted column t tck c m is =
    rests_as (λ nets ms. shifted_through column t ms)
    (λ nets ms. count-cut_back column (drop (length t) (joined_bits column ms ++ t)) ms) tck c m is

-- the members of a board at rest
pub rests_members : (b : BoardState) (m : AtRest) → IsAtRest b m → members b.chips ≡ m.members
rests_members b m is = ap (λ (x : BoardState). members x.chips) is ∙ standing-members m.place m.members

-- the state in which any of its controllers stands
pub rests_place : (b : BoardState) (m : AtRest) (k : ℕ) (c : ChipState) → IsAtRest b m → slice_get b.chips k ≡ Some c
    → c.state ≡ m.place
rests_place b m k c is at = by m.members k (sym (ap (λ (x : BoardState). slice_get x.chips k) is) ∙ at)
  where
    by : (ms : List Member) (k : ℕ) → slice_get (map (chip_at_rest m.place) ms) k ≡ Some c → c.state ≡ m.place
    by [] k at = absurd (cc)
    by (x ∷ ms) zero at = let same : chip_at_rest m.place x ≡ c = cc in sym (ap (λ (y : ChipState). y.state) same)
    by (x ∷ ms) (suc k) at = by ms k at

-- ---- TRST

sound-either : (which : Bool) (m n : Member) → IsSound m → IsSound n → IsSound (if which then m else n)
sound-either true m n first second = first
sound-either false m n first second = second

sound-settled : (place : State) (m : Member) → IsSound m → IsSound (settled_member place m)
sound-settled place m sound =
    let updated : (column : Column) → IsSound (update_member column m) =
    λ column. record { it = sound-updated m.device column m.registers sound.it } in
    sound-either (is_at place DrPause) (update_member Dr m) _ (updated Dr)
    (sound-either (is_at place IrPause) (update_member Ir m) m (updated Ir) sound)

sound-asserted : (place : State) (ms : List Member) → AllSound ms
    → AllSound (map (trst_member (settled_member place)) ms)
sound-asserted place [] sound = tt
sound-asserted place (m ∷ ms) sound =
    let before = sound-either m.device.has_trst m (settled_member place m) sound.0 (sound-settled place m sound.0) in
    let one = if m.device.has_trst then m else settled_member place m in (
      record {
        it =
            sound-other one.device _ one.registers.stage _ one.registers before.it.stage before.it;
      },
      sound-asserted place ms sound.1,
    )

pub chain-asserted : (place : State) (cs : List ChipState) → IsChain cs
    → IsChain (map (chip_at_rest Reset) (map (trst_member (settled_member place)) (members cs)))
chain-asserted place cs is =
    let ms = map (trst_member (settled_member place)) (members cs) in
    let long : length (map (chip_at_rest Reset) ms) ≡ length cs =
    length-map ms (chip_at_rest Reset) ∙ length-map (members cs) (trst_member (settled_member place))
    ∙ count-members cs in
    record {
      some = subst (λ (n : ℕ). 0 < n) (sym long) is.some;
      most = subst (λ (n : ℕ). n ≤ limits.devices) (sym long) is.most;
      sound = subst AllSound (sym (standing-members Reset ms)) (sound-asserted place (members cs) is.sound);
    }

pub rests_asserted : (place : State) (tck : Bool) (c : ChainValue) (m : AtRest) → IsAtRest (board_at tck c) m
    → place ≡ m.place
    → IsAtRest
    (board_at tck
    (record c {
      trst = true;
      chips =
          map (chip_at_rest Reset) (map (trst_member (settled_member place)) (members c.chips));
    })) (trst_asserted m)
rests_asserted place tck c m is at =
    let same : members c.chips ≡ m.members = ap (λ (b : BoardState). members b.chips) is
    ∙ standing-members m.place m.members in
    λ i. record {
      tck = (is i).tck;
      trst = true;
      nets = (is i).nets;
      chips = map (chip_at_rest Reset) (map (trst_member (settled_member (at i))) (same i));
    }

pub rests_released : (tck : Bool) (c : ChainValue) (m : AtRest) → IsAtRest (board_at tck c) m
    → IsAtRest (board_at tck (record c { trst = false })) (record m { trst = false })
rests_released tck c m is = ap (λ (b : BoardState). record b { trst = false }) is

-- ---- what is pending

module _ (place : State) (trst : Bool) (nets : List Net) (ms : List Member) where
  abbrev here : AtRest
  here = record { place = place; trst = trst; nets = nets; members = ms }

settles-dr : (place : State) (trst : Bool) (nets : List Net) (ms : List Member) → place ≡ DrPause
    → settle (here place trst nets ms) ≡ update Dr (here place trst nets ms)
settles-dr DrPause trst nets ms is = refl
settles-dr _ trst nets ms is = absurd (cc)

settles-ir : (place : State) (trst : Bool) (nets : List Net) (ms : List Member) → place ≡ IrPause
    → settle (here place trst nets ms) ≡ update Ir (here place trst nets ms)
settles-ir IrPause trst nets ms is = refl
settles-ir _ trst nets ms is = absurd (cc)

settles-none : (place : State) (trst : Bool) (nets : List Net) (ms : List Member) → place ≢ DrPause → place ≢ IrPause
    → settle (here place trst nets ms) ≡ here place trst nets ms
settles-none DrPause trst nets ms not_dr not_ir = absurd (not_dr refl)
settles-none IrPause trst nets ms not_dr not_ir = absurd (not_ir refl)
settles-none _ trst nets ms not_dr not_ir = refl

pub settle_in_dr : (m : AtRest) → m.place ≡ DrPause → settle m ≡ update Dr m
settle_in_dr m is = settles-dr m.place m.trst m.nets m.members is

pub settle_in_ir : (m : AtRest) → m.place ≡ IrPause → settle m ≡ update Ir m
settle_in_ir m is = settles-ir m.place m.trst m.nets m.members is

pub settle_else : (m : AtRest) → m.place ≢ DrPause → m.place ≢ IrPause → settle m ≡ m
settle_else m not_dr not_ir = settles-none m.place m.trst m.nets m.members not_dr not_ir

-- ---- arriving

pub arrive_in_reset : (s : State) (m : AtRest) → s ≡ Reset → arrive s m ≡ record (reset_all m) { place = s }
arrive_in_reset Reset m is = refl
arrive_in_reset _ m is = absurd (cc)

pub arrive_in_dr : (s : State) (m : AtRest) → s ≡ DrPause → arrive s m ≡ record (capture Dr m) { place = s }
arrive_in_dr DrPause m is = refl
arrive_in_dr _ m is = absurd (cc)

pub arrive_in_ir : (s : State) (m : AtRest) → s ≡ IrPause → arrive s m ≡ record (capture Ir m) { place = s }
arrive_in_ir IrPause m is = refl
arrive_in_ir _ m is = absurd (cc)

pub arrive_else : (s : State) (m : AtRest) → s ≢ Reset → s ≢ DrPause → s ≢ IrPause
    → arrive s m ≡ record m { place = s }
arrive_else Reset m not_reset not_dr not_ir = absurd (not_reset refl)
arrive_else DrPause m not_reset not_dr not_ir = absurd (not_dr refl)
arrive_else IrPause m not_reset not_dr not_ir = absurd (not_ir refl)
arrive_else _ m not_reset not_dr not_ir = refl
