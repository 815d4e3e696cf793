-- Which net depends on which, and which order of strings is one, does not hang on the registers.
use Rattle.std.proofs.Common.{◌≡◌, ◌<◌, ℕ, zero, suc, List, [], ◌∷◌, length, slice_get, Option, Some, unwrap_or, true, refl, sym, ap, subst, ◌∙◌}
use Rattle.bsdl_device.specs.Device.{Device}
use Rattle.pin_nets.specs.declared.Pin.{Pin}
use Rattle.pin_nets.specs.Wired.{Net}
use Rattle.pin_nets.specs.declared.Follow.{Follow}
use Rattle.board_model.specs.Cells.{Member}
use Rattle.board_model.specs.Nets.{net_of}
use Rattle.board_model.specs.Following.{AreAll, DependsOn, HasNoCircle, InSteps, IsAmong, IsFreeOf, IsInOrder, IsOfBoard, IsOrderOf, InOtherRegisters, Placed, takes_from}

-- the device that stands at a place in the other list
record Other (ms : List Member) (i : ℕ) (n : Member) : Type 0 where
  m : Member
  at : slice_get ms i ≡ Some m
  device : n.device ≡ m.device
  follows : n.follows ≡ m.follows
  core : n.core ≡ m.core

other-of : (ms : List Member) (i : ℕ) (m n : Member) → slice_get ms i ≡ Some m → n ≡ record m { registers = n.registers } → Other ms i n
other-of ms i m n at same = record {
  m = m;
  at = at;
  device = ap (λ (x : Member). x.device) same;
  follows = ap (λ (x : Member). x.follows) same;
  core = ap (λ (x : Member). x.core) same;
}

later : (x : Member) (ms : List Member) (i : ℕ) (n : Member) → Other ms i n → Other (x ∷ ms) (suc i) n
later x ms i n o = record { m = o.m; at = o.at; device = o.device; follows = o.follows; core = o.core }

back : (ms ns : List Member) (i : ℕ) (n : Member) → InOtherRegisters ms ns → slice_get ns i ≡ Some n → Other ms i n
back [] [] i n are at = absurd (cc)
back [] (y ∷ ns) i n are at = absurd are
back (x ∷ ms) [] i n are at = absurd are
back (x ∷ ms) (y ∷ ns) zero n are at =
    let e : y ≡ n = ap (λ (o : Option Member). unwrap_or o y) at in
    other-of (x ∷ ms) 0 x n refl (subst (λ (z : Member). z ≡ record x { registers = z.registers }) e are.0)
back (x ∷ ms) (y ∷ ns) (suc i) n are at = later x ms i n (back ms ns i n are.1 at)

pub turned : (ms ns : List Member) → InOtherRegisters ms ns → InOtherRegisters ns ms
turned [] [] are = tt
turned [] (y ∷ ns) are = absurd are
turned (x ∷ ms) [] are = absurd are
turned (x ∷ ms) (y ∷ ns) are = (sym (ap (λ (z : Member). record z { registers = x.registers }) are.0), turned ms ns are.1)

depends : (nets : List Net) (ms ns : List Member) → InOtherRegisters ms ns → (net source : Net) → DependsOn nets ns net source → DependsOn nets ms net source
depends nets ms ns are net source d =
    let o = back ms ns d.pin.device d.member are d.stands in
    record {
      pin = d.pin;
      member = o.m;
      string = d.string;
      on_net = d.on_net;
      stands = o.at;
      follows = subst (λ (fs : List Follow). IsAmong d.string fs) o.follows d.follows;
      takes = subst (λ (x : Device). takes_from d.pin.port d.string.cell 0 x.cells ≡ true) o.device d.takes;
      its_net = d.its_net;
    }

steps : (nets : List Net) (ms ns : List Member) → InOtherRegisters ms ns → (k : ℕ) (net source : Net)
    → InSteps (DependsOn nets ns) k net source → InSteps (DependsOn nets ms) k net source
steps nets ms ns are zero net source s = s
steps nets ms ns are (suc k) net source s = (s.0, depends nets ms ns are net s.0 s.1, steps nets ms ns are k s.0 source s.2)

pub circles_stand : (nets : List Net) (ms ns : List Member) → InOtherRegisters ms ns → HasNoCircle nets ms → HasNoCircle nets ns
circles_stand nets ms ns are free net k loop = free net k (steps nets ms ns are (suc k) net net loop)

free-stands : (ms ns : List Member) → InOtherRegisters ms ns → (net : Net) (s : Placed) → IsFreeOf ms net s → IsFreeOf ns net s
free-stands ms ns are net s free pin among here n at takes =
    let o = back ms ns pin.device n are at in
    free pin among here o.m o.at (subst (λ (x : Device). takes_from pin.port s.string.cell 0 x.cells ≡ true) o.device takes)

board-stands : (ms ns : List Member) → InOtherRegisters ms ns → (s : Placed) → IsOfBoard ms s → IsOfBoard ns s
board-stands ms ns are s of =
    let o = back ns ms s.device of.member (turned ms ns are) of.stands in
    record {
      member = o.m;
      stands = o.at;
      follows = subst (λ (fs : List Follow). IsAmong s.string fs) o.follows of.follows;
      there = subst (λ (n : ℕ). s.string.cell < n) (ap length o.core) of.there;
    }

pub order_stands : (nets : List Net) (ms ns : List Member) → InOtherRegisters ms ns → (order : List Placed) → IsInOrder nets ms order → IsInOrder nets ns order
order_stands nets ms ns are [] is = tt
order_stands nets ms ns are (s ∷ ss) is = (
  board-stands ms ns are s is.0,
  λ t among. free-stands ms ns are (net_of nets s.device s.string.source) t (is.1 t among),
  is.2,
  order_stands nets ms ns are ss is.3,
)

pub all_stand : (ms ns : List Member) → InOtherRegisters ms ns → (order : List Placed) → AreAll ms order → AreAll ns order
all_stand ms ns are order all place n f at among =
    let o = back ms ns place n are at in
    all place o.m f o.at (subst (λ (fs : List Follow). IsAmong f fs) o.follows among)

-- an order of work is one in other registers too
pub order_of_stands : (nets : List Net) (ms ns : List Member) (order : List Placed) → InOtherRegisters ms ns → IsOrderOf nets ms order → IsOrderOf nets ns order
order_of_stands nets ms ns order are is = record {
  free = circles_stand nets ms ns are is.free;
  ordered = order_stands nets ms ns are order is.ordered;
  all = all_stand ms ns are order is.all;
}
