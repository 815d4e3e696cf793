use Rattle.std.proofs.Common.{ℕ, List, cond, Bool, ap, ◌∙◌}
use Rattle.std.specs.Prelude.{Some}
use Rattle.std.specs.BTreeMap.{get_by}
use Rattle.std.specs.Ordering.{nat_cmp, ordering_then}
use Rattle.std.specs.Cmp.Lexicographic.{slice_cmp}
use Rattle.bsdl_lookup.specs.Drivers.{driver_at, is_below}
use Rattle.bsdl_lookup.proofs.DriverLaws.{driver_put, same_key}
use Rattle.bsdl_lookup.proofs.drivers.add_driver.Goals as goal

pub returns : goal.returns
returns c = λ s n.
    let old = λ (p : ℕ) (ds : List ℕ). get_by (λ y. ordering_then (nat_cmp p y.0) (slice_cmp nat_cmp ds y.1.now)) c.args.drivers.now.lowest in
    let port_index = c.args.port_index in
    let lowest = c.lowest_with-lowest.result in
    ap (λ o. is_below o n) (c.in_ok-insert.ensures.updates.0 (s.port, s.index.digits) ∙ ap (λ (b : Bool). cond b (Some lowest) (driver_at c.args.drivers.now s)) (same_key port_index.port s.port port_index.index.digits.now s.index.digits.now))
    ∙ driver_put old port_index.port s.port port_index.index.digits.now s.index.digits.now lowest c.args.number n c.lowest_with-lowest.ensures
