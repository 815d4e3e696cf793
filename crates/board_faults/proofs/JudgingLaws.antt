-- What is judged of faults.
use Rattle.std.proofs.Common.{◌≡◌, ◌<◌, ◌≤◌, ◌+◌, ◌-◌, ℕ, zero, suc, List, [], ◌∷◌, ◌++◌, length, map, drop, slice_get, Some, refl, sym, ap, subst, inl, inr, arith}
use Rattle.std.specs.List.{AllByRecursion, range_with_len}
use Rattle.std.proofs.lemmas.Option.{same_Some}
use Rattle.pin_nets.specs.declared.Pull.{Pull}
use Rattle.pin_nets.specs.declared.Pull.TheVariants.{Up, Down, Free}
use Rattle.pin_nets.specs.Levels.{one}
use Rattle.pin_nets.specs.Wired.{Net}
use Rattle.svf_programs.specs.Steps.{Program}
use Rattle.board_plan.specs.declared.plan.Plan.{Plan}
use Rattle.board_plan.specs.Planned.{IsPinOf, Wiring, all_pins}
use Rattle.board_plan.specs.View.{wiring}
use Rattle.board_loops.specs.Depending.{dependencies}
use Rattle.board_loops.specs.Loops.{IsInOrder}
use Rattle.board_model.specs.Following.{IsAmong}
use Rattle.board_chain.specs.Ready.{IsReady}
use Rattle.play_direct.specs.Made.{IsSoundWiring, PowersUp}
use Rattle.board_faults.specs.declared.judging.Judged.{Judged}
use Rattle.board_faults.specs.declared.judging.JudgedWay.{JudgedWay}
use Rattle.board_faults.specs.declared.judging.Verdict.{Verdict}
use Rattle.board_faults.specs.declared.kinds.Fault.{Fault}
use Rattle.board_faults.specs.declared.kinds.Fault.TheVariants as fault
use Rattle.board_faults.specs.declared.kinds.Way.{Way}
use Rattle.board_faults.specs.Faults.{IsFaultOf, IsWayOf, behind_opens, behind_pull, bridges, faults, faults_from, faults_of, pull_faults, with_way}
use Rattle.board_faults.specs.Faulty.{CanBeJudged}
use Rattle.board_faults.specs.Judging.{HasMeaning, Judges, JudgesAll, JudgesEach, JudgesFault, ways_of, wiring_with}
use Rattle.board_faults.specs.Sight.{MayHaveFaults}
use Rattle.board_faults.proofs.Apart.{faulty_apart, faulty_pins}

-- ---- a board with a fault powers up

all-among : {X : Type 0} (P : X → Type 0) (xs : List X) → AllByRecursion P xs → (x : X) → IsAmong x xs → P x
all-among P [] all x among = absurd among
all-among P (y ∷ ys) all x (inl e) = subst P e all.0
all-among P (y ∷ ys) all x (inr later) = all-among P ys all.1 x later

all-from : {X : Type 0} (P : X → Type 0) (xs : List X) → ((x : X) → IsAmong x xs → P x) → AllByRecursion P xs
all-from P [] each = tt
all-from P (x ∷ xs) each = (each x (inl refl), all-from P xs (λ y among. each y (inr among)))

pub may_have : (w : Wiring) → CanBeJudged w → MayHaveFaults w
may_have w can = record { pins = can.ready.chips.pins; apart = can.ready.apart; counted = can.counted }

pub ready_with : (w : Wiring) (its_way : Way) → CanBeJudged w → IsWayOf w.nets its_way → HasMeaning w its_way → IsReady (wiring_with its_way w)
ready_with w its_way can its meaning = record {
  chips = record {
    cores = can.ready.chips.cores;
    pins = all-from (IsPinOf w.members) (all_pins (with_way its_way w.nets))
        (λ q among. all-among (IsPinOf w.members) (all_pins w.nets) can.ready.chips.pins q (faulty_pins w.nets its_way its q among));
    formed = can.ready.chips.formed;
  };
  apart = faulty_apart w.nets its_way its can.ready.apart;
  strings = can.ready.strings;
  controls = can.ready.controls;
  no_loop = meaning;
}

pub powers_with : (w : Wiring) (its_way : Way) (bench : Plan) → CanBeJudged w → IsWayOf w.nets its_way → HasMeaning w its_way
    → wiring bench ≡ wiring_with its_way w → IsInOrder (dependencies (wiring_with its_way w)) bench.order.items → PowersUp bench
powers_with w its_way bench can its meaning is ordered = record {
  ready = subst IsReady (sym is) (ready_with w its_way can its meaning);
  sound = subst IsSoundWiring (sym is) (record { some = can.sound.some; most = can.sound.most; sound = can.sound.sound });
  ordered = subst (λ (v : Wiring). IsInOrder (dependencies v) bench.order.items) (sym is) ordered;
}

-- ---- ways, one after another

pub among_slice : {X : Type 0} (xs : List X) (k : ℕ) (x : X) → Some x ≡ slice_get xs k → IsAmong x xs
among_slice [] k x e = absurd (cc)
among_slice (y ∷ ys) zero x e = inl (sym (same_Some x y e))
among_slice (y ∷ ys) (suc k) x e = inr (among_slice ys k x e)

pub judges_more : (program : Program) (w : Wiring) (ways : List Way) (vs : List JudgedWay) (its_way : Way) (v : Verdict) → JudgesEach program w ways vs
    → HasMeaning w its_way → Judges program w its_way v → JudgesEach program w (ways ++ its_way ∷ []) (vs ++ record { way = its_way; verdict = v } ∷ [])
judges_more program w [] [] its_way v all meaning is = (refl, meaning, is, tt)
judges_more program w [] (x ∷ vs) its_way v all meaning is = absurd all
judges_more program w (y ∷ ways) [] its_way v all meaning is = absurd all
judges_more program w (y ∷ ways) (x ∷ vs) its_way v all meaning is = (all.0, all.1, all.2, judges_more program w ways vs its_way v all.3 meaning is)

pub faults_more : (program : Program) (w : Wiring) (fs : List Fault) (js : List Judged) (f : Fault) (j : Judged) → JudgesAll program w fs js
    → j.fault ≡ f → JudgesFault program w f (ways_of j) → JudgesAll program w (fs ++ f ∷ []) (js ++ j ∷ [])
faults_more program w [] [] f j all same is = (same, is, tt)
faults_more program w [] (x ∷ js) f j all same is = absurd all
faults_more program w (y ∷ fs) [] f j all same is = absurd all
faults_more program w (y ∷ fs) (x ∷ js) f j all same is = (all.0, all.1, faults_more program w fs js f j all.2 same is)

-- ---- every fault of nets is one that they have

module _ (nets : List Net) where
  abbrev Its : Fault → Type 0
  Its f = IsFaultOf nets f

  both-all : (P : Fault → Type 0) (fs gs : List Fault) → AllByRecursion P fs → AllByRecursion P gs → AllByRecursion P (fs ++ gs)
  both-all P [] gs one other = other
  both-all P (f ∷ fs) gs one other = (one.0, both-all P fs gs one.1 other)

  map-all : (P : Fault → Type 0) (f : ℕ → Fault) (ks : List ℕ) → ((k : ℕ) → IsAmong k ks → P (f k)) → AllByRecursion P (map f ks)
  map-all P f [] each = tt
  map-all P f (k ∷ ks) each = (each k (inl refl), map-all P f ks (λ j among. each j (inr among)))

among-range : (a m q : ℕ) → IsAmong q (range_with_len a m) → (a ≤ q) × (q < a + m)
among-range a zero q among = absurd among
among-range a (suc m) q (inl e) = (omega (arith, e), omega (arith, e))
among-range a (suc m) q (inr later) = let its = among-range (a + 1) m q later in (omega (arith, its.0), omega (arith, its.1))

next-of : {X : Type 0} (xs : List X) (k : ℕ) (x : X) (rest : List X) → drop k xs ≡ x ∷ rest → (slice_get xs k ≡ Some x) × (drop (suc k) xs ≡ rest) × (k < length xs)
next-of [] zero x rest e = absurd (cc)
next-of [] (suc k) x rest e = absurd (cc)
next-of (y ∷ xs) zero x rest e = (ap Some (head-is y x xs rest e), tail-is y x xs rest e, omega arith)
  where
    head-is : {X : Type 0} (a b : X) (us vs : List X) → a ∷ us ≡ b ∷ vs → a ≡ b
    head-is a b us vs e = cc

    tail-is : {X : Type 0} (a b : X) (us vs : List X) → a ∷ us ≡ b ∷ vs → us ≡ vs
    tail-is a b us vs e = cc
next-of (y ∷ xs) (suc k) x rest e = let its = next-of xs k x rest e in (its.0, its.1, omega (arith, its.2))

module _ (nets : List Net) (k : ℕ) (n : Net) (at : slice_get nets k ≡ Some n) (inside : k < length nets) where
  opens-all : AllByRecursion (IsFaultOf nets) (map (fault.Open k) (range_with_len 0 (length n.pins)))
  opens-all = map-all nets (IsFaultOf nets) (fault.Open k) (range_with_len 0 (length n.pins))
      (λ pin among.
      let below : pin < length n.pins = let r = among-range 0 (length n.pins) pin among in omega (arith, r.1) in
      ((n, at, below), ((n, at, below), tt)))

  pulls-all : (p : Pull) → AllByRecursion (IsFaultOf nets) (pull_faults k p)
  pulls-all Free = tt
  pulls-all Up = ((inside, tt), tt)
  pulls-all Down = ((inside, tt), tt)

  bridges-all : AllByRecursion (IsFaultOf nets) (bridges (length nets) k)
  bridges-all = map-all nets (IsFaultOf nets) (fault.Short k) (range_with_len (k + 1) (length nets - (k + 1)))
      (λ other among.
      let r = among-range (k + 1) (length nets - (k + 1)) other among in
      let low : k < other = omega (arith, r.0) in
      let high : other < length nets = omega (arith, r.1, inside) in
      ((low, high), ((low, high), ((low, high), ((low, high), tt)))))

  net-all : AllByRecursion (IsFaultOf nets) (faults_of (length nets) k n)
  net-all =
      both-all nets (IsFaultOf nets) (map (fault.Open k) (range_with_len 0 (length n.pins))) (behind_opens (length nets) k n.pull) opens-all
      (both-all nets (IsFaultOf nets) (pull_faults k n.pull) (behind_pull (length nets) k) (pulls-all n.pull)
      ((inside, tt), ((inside, tt), bridges-all)))

from-all : (nets : List Net) (k : ℕ) (ns : List Net) → drop k nets ≡ ns → AllByRecursion (IsFaultOf nets) (faults_from (length nets) k ns)
from-all nets k [] e = tt
from-all nets k (n ∷ ns) e =
    let its = next-of nets k n ns e in
    both-all nets (IsFaultOf nets) (faults_of (length nets) k n) (faults_from (length nets) (suc k) ns) (net-all nets k n its.0 its.2) (from-all nets (suc k) ns its.1)

pub every_fault : (nets : List Net) → AllByRecursion (IsFaultOf nets) (faults nets)
every_fault nets = from-all nets 0 nets refl

pub fault_there : (nets : List Net) (done : List Fault) (f : Fault) (rest : List Fault) → faults nets ≡ done ++ f ∷ rest → IsFaultOf nets f
fault_there nets done f rest e = all-among (IsFaultOf nets) (done ++ f ∷ rest) (subst (AllByRecursion (IsFaultOf nets)) e (every_fault nets)) f (here done)
  where
    here : (ds : List Fault) → IsAmong f (ds ++ f ∷ rest)
    here [] = inl refl
    here (d ∷ ds) = inr (here ds)
