use Rattle.std.proofs.Common.{◌++◌, ◌∷◌, [], List, refl, sym, ap, subst, ◌∙◌, append_assoc}
use Rattle.board_faults.specs.declared.kinds.Fault.{Fault}
use Rattle.board_faults.specs.Listing.{left_of}
use Rattle.fault_serving.specs.declared.sifting.Counts.{Counts}
use Rattle.fault_serving.specs.Sifting.{AreCounted, AreSifted, ComesBy}
use Rattle.fault_serving.proofs.SiftingLaws.{more_are, none_are, one_counted, one_kept}
use Rattle.fault_serving.proofs.sifting.sift.Goals as goal

pub faults-init : goal.faults-init
faults-init c = record {
  first = [];
  are = refl;
  sifted = λ ns is. (c.requires.none, refl);
  counted = none_are c.args.sieve.now.counting;
}

pub faults-preserved-in-Some-counted : goal.faults-preserved-in-Some-counted
faults-preserved-in-Some-counted c =
    let s = c.args.sieve.now in
    let i = c.faults.invariant in
    let f = c.in-Some.fault in
    let o = c.in-Some-counted.outcome in
    record {
      first = i.first ++ f ∷ [];
      are = i.are ∙ ap (λ (l : List Fault). i.first ++ l) c.in-Some.ensures.steps
          ∙ sym (append_assoc i.first (f ∷ []) (left_of c.next.new.self));
      sifted = λ ns is.
          subst (λ (n : Counts). AreSifted (ComesBy s ns) (i.first ++ f ∷ []) c.faults.kept.items n) (sym c.in_ok-counts.ensures)
          (one_counted (ComesBy s ns) f o i.first c.faults.kept.items c.faults.counts (c.in-Some-counted.ensures.comes ns is) (i.sifted ns is));
      counted = subst (AreCounted s.counting) (sym c.in_ok-counts.ensures) (more_are s.counting o c.faults.counts c.in-Some-counted.ensures.may i.counted);
    }

pub faults-preserved : goal.faults-preserved
faults-preserved c =
    let s = c.args.sieve.now in
    let i = c.faults.invariant in
    let f = c.in-Some.fault in
    record {
      first = i.first ++ f ∷ [];
      are = i.are ∙ ap (λ (l : List Fault). i.first ++ l) c.in-Some.ensures.steps
          ∙ sym (append_assoc i.first (f ∷ []) (left_of c.next.new.self));
      sifted = λ ns is.
          subst (λ (l : List Fault). AreSifted (ComesBy s ns) (i.first ++ f ∷ []) l c.faults.counts) (sym c.in_ok-push.ensures.items)
          (one_kept (ComesBy s ns) f i.first c.faults.kept.items c.faults.counts (i.sifted ns is));
      counted = i.counted;
    }
