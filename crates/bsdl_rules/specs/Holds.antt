-- What is known of a description.
use Rattle.std.specs.Prelude.{suc, ◌≡◌, ◌≤◌, ℕ}
use Rattle.std.specs.List.{list_any}
use Rattle.std.specs.BTreeSet.{BTreeSet, contains_by}
use Rattle.std.specs.Ordering.{nat_cmp}
use Rattle.jt_limits.specs.Limits.{subscript_limit}
use Rattle.bsdl_description.specs.Describing.{Description}
use Rattle.bsdl_description.specs.View.{taps}
use Rattle.bsdl_rules.specs.declared.keyed.KnownByKey as declared_known_by_key
use Rattle.bsdl_lookup.specs.declared.port_index.PortIndex.{PortIndex}
use Rattle.bsdl_lookup.specs.Controls.{controls_as}
use Rattle.bsdl_lookup.specs.Drivers.{driver_at, drives_below, is_below}
use Rattle.bsdl_lookup.specs.Keyed.{AreKeyed}

-- the numbers of the cells that control others
abbrev pub AreControls : BTreeSet ℕ → Description → Type 0
AreControls s d = (n : ℕ) → n ≤ subscript_limit → contains_by (nat_cmp n) s ≡ list_any (controls_as n) d.cells

-- what is known of a description, where the ports are found by the keys of their names
pub record HoldsByKey (k : declared_known_by_key.KnownByKey) (d : Description) : Type 0 where
  pub keyed : AreKeyed k.keyed d.ports
  pub drivers : (s : PortIndex) (n : ℕ) → n ≤ suc subscript_limit → is_below (driver_at k.drivers s) n
      ≡ list_any (drives_below d.ports s n) d.cells
  pub controls : AreControls k.controls d
  pub taps_are : taps k.taps ≡ d.taps
