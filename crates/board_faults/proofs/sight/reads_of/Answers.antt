use Rattle.std.proofs.Common.{◌≡◌, ℕ, Bool, false, List, length, map, replicate, get_or, Option, Some, sym, ap, subst, ◌∙◌, arith, rules}
use Rattle.std.specs.Vec.{with_items}
use Rattle.std.proofs.lemmas.List.{with_items_is, get_or-replicate, length-replicate}
use Rattle.bsdl_device.specs.declared.Cell.{Cell}
use Rattle.bsdl_device.specs.Device.{Device}
use Rattle.boundary.specs.Masks.{sighted_port}
use Rattle.pin_nets.specs.declared.Follow.{Follow}
use Rattle.board_faults.specs.Sights.{Marks}
use Rattle.board_faults.proofs.Marking.{read_is}
use Rattle.board_faults.proofs.sight.reads_of.Goals as goal

pub returns : goal.returns
returns c =
    let d = c.args.device.now in
    let v = c.in_ok-read.read in
    let seen = c.mark_cells.new.read in
    let all = c.mark_sources.new.read in
    let f : Cell → Option ℕ = λ x. sighted_port x.port x.function in
    let g : Follow → Option ℕ = λ x. Some x.source in
    let long_seen : length seen ≡ length v.items = c.mark_cells.ensures.long ∙ ap length c.deref_mut.ensures.value in
    let first = with_items_is v seen (long_seen ∙ sym v.ok.0) in
    let long_all : length all ≡ length (with_items v seen).items = c.mark_sources.ensures.long ∙ ap length c.deref_mut-2.ensures.value in
    let second = with_items_is (with_items v seen) all (long_all ∙ sym (with_items v seen).ok.0) in
    let count : length v.items ≡ length d.device.ports = omega (arith, v.ok.0, c.in_ok-read.ensures.len, c.port_count.ensures, ap (λ (x : Device). length x.ports) c.get-its.ensures) in
    let start : v.items ≡ replicate c.port_count.result false = search rules in
    let one : Marks v.items seen (map f d.device.cells) =
    subst (λ (a : List Bool). Marks a seen (map f d.device.cells)) c.deref_mut.ensures.value
    (subst (λ (cs : List Cell). Marks c.deref_mut.result.now seen (map f cs)) (c.cells.ensures ∙ ap (λ (x : Device). x.cells) c.get-its.ensures) c.mark_cells.ensures) in
    let more : Marks seen all (map g d.follows.items) =
    subst (λ (b : List Bool). Marks b all (map g d.follows.items)) (c.deref_mut-2.ensures.value ∙ first)
    (subst (λ (fs : List Follow). Marks c.deref_mut-2.result.now all (map g fs)) c.deref.ensures.value c.mark_sources.ensures) in
    record {
      long = ap length second ∙ long_all ∙ ap length first ∙ long_seen ∙ count;
      each = λ p h.
          ap (λ (l : List Bool). get_or l p false) second
          ∙ read_is f g d.device.cells d.follows.items v.items seen all p (omega (arith, h, count))
          (ap (λ (l : List Bool). get_or l p false) start ∙ get_or-replicate c.port_count.result p false false (omega (arith, h, count, ap length start, length-replicate c.port_count.result false)))
          one more;
    }
