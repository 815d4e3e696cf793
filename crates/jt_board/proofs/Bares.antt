-- Boards of sound devices, and bare ones.
use Rattle.std.proofs.Common.{◌≡◌, ◌<◌, ◌≤◌, ℕ, zero, suc, List, [], ◌∷◌, length, map, refl, sym, ap, subst, ◌∙◌, arith}
use Rattle.std.specs.List.{AllByRecursion}
use Rattle.std.proofs.lemmas.List.{length-map}
use Rattle.std.proofs.lemmas.List.Sorted.{IsPermutation-refl}
use Rattle.std.proofs.lemmas.Option.{none-some}
use Rattle.jt_limits.specs.Limits.{limits}
use Rattle.jt_tap.specs.declared.State.TheVariants.{Reset}
use Rattle.bsdl_device.specs.Sound.{IsSoundDevice}
use Rattle.chip_instructions.specs.Fitting.{IsFormed}
use Rattle.pin_nets.specs.declared.Rule.TheVariants.{Counted}
use Rattle.pin_nets.specs.Wired.{Net}
use Rattle.board_plan.specs.Planned.{HasCore}
use Rattle.board_plan.specs.Planned as planned
use Rattle.board_model.specs.Bare.{bare, bare_board, bare_from}
use Rattle.board_model.specs.Cells.{Member}
use Rattle.board_model.specs.Chain.{members}
use Rattle.board_model.specs.Resting.{power_up, board_at_rest, chip_at_rest}
use Rattle.board_model.specs.Sound.{AllSound, IsChain}
use Rattle.board_model.proofs.Powered.{powered_sound}
use Rattle.board_parts.specs.Strings.{HasStrings}
use Rattle.board_loops.proofs.DependingLaws.{no_loop}
use Rattle.board_loops.specs.Depending.{dependencies, dependencies_from}
use Rattle.board_loops.specs.Loops.{IsInOrder}
use Rattle.board_loops.specs.declared.net_loops.Dependency.{Dependency}
use Rattle.board_plan.specs.View.{wiring}
use Rattle.board_plan.specs.declared.plan.Plan.{Plan}
use Rattle.board_model.specs.Following.{FollowsNoOtherControl}
use Rattle.board_model.specs.Planned.{powered_up}
use Rattle.board_chain.specs.Ready.{IsReady}
use Rattle.jt_board.specs.Made.{IsReadyPlan, IsSoundWiring, board_of}
use Rattle.jt_board.specs.Bares.{bare_at, bare_planned, bare_wiring}

-- ---- sound devices

all-sound : (ms : List planned.Member) → AllByRecursion (λ (m : planned.Member). IsSoundDevice m.device) ms → AllSound (members (map (chip_at_rest Reset) (map powered_up ms)))
all-sound [] all = tt
all-sound (m ∷ ms) all = (powered_sound m.name m.device m.core m.follows m.extest_update all.0, all-sound ms all.1)

pub sound_chain : (w : planned.Wiring) → IsSoundWiring w → IsChain (map (chip_at_rest Reset) (map powered_up w.members))
sound_chain w is =
    let long : length (map (chip_at_rest Reset) (map powered_up w.members)) ≡ length w.members = length-map (map powered_up w.members) (chip_at_rest Reset) ∙ length-map w.members powered_up in
    record {
      some = subst (λ (n : ℕ). 0 < n) (sym long) is.some;
      most = subst (λ (n : ℕ). n ≤ limits.devices) (sym long) is.most;
      sound = all-sound w.members is.sound;
    }

-- ---- bare devices

bare-length : (k n : ℕ) → length (bare_planned k n) ≡ n
bare-length k zero = refl
bare-length k (suc n) = let rest = bare-length (suc k) n in omega (arith, rest)

bare-formed : IsFormed bare
bare-formed = record {
  instruction = omega arith;
  capture = refl;
  cells = omega arith;
  reset = refl;
  idcode = λ code e. absurd (none-some code e);
  usercode = λ code e. absurd (none-some code e);
  accesses = λ k a e. absurd (none-some a e);
}

bare-sound : IsSoundDevice bare
bare-sound = record { instruction = omega arith; capture = omega arith; cells = omega arith; idcode = tt; usercode = tt; accesses = tt }

cores : (k n : ℕ) → AllByRecursion HasCore (bare_planned k n)
cores k zero = tt
cores k (suc n) = (refl, cores (suc k) n)

formed : (k n : ℕ) → AllByRecursion (λ (m : planned.Member). IsFormed m.device) (bare_planned k n)
formed k zero = tt
formed k (suc n) = (bare-formed, formed (suc k) n)

sound : (k n : ℕ) → AllByRecursion (λ (m : planned.Member). IsSoundDevice m.device) (bare_planned k n)
sound k zero = tt
sound k (suc n) = (bare-sound, sound (suc k) n)

strings : (k n : ℕ) → AllByRecursion HasStrings (bare_planned k n)
strings k zero = tt
strings k (suc n) = (record { each = tt; one = tt }, strings (suc k) n)

controls : (k n : ℕ) → AllByRecursion (λ (m : Member). FollowsNoOtherControl m) (map powered_up (bare_planned k n))
controls k zero = tt
controls k (suc n) = ((λ f among. absurd among), controls (suc k) n)

no_strings : (k n : ℕ) → AllByRecursion (λ (m : planned.Member). m.follows ≡ []) (bare_planned k n)
no_strings k zero = tt
no_strings k (suc n) = (refl, no_strings (suc k) n)

pub bare_ready : (n : ℕ) → IsReady (bare_wiring n)
bare_ready n = record {
  chips = record { cores = cores 1 n; pins = tt; formed = formed 1 n };
  apart = λ i j d below inside. absurd (omega (arith, inside));
  strings = strings 1 n;
  controls = controls 1 n;
  no_loop = no_loop (bare_wiring n) (no_strings 1 n);
}

pub bare_sound : (n : ℕ) → 0 < n → n ≤ limits.devices → IsSoundWiring (bare_wiring n)
bare_sound n some most = record {
  some = subst (λ (m : ℕ). 0 < m) (sym (bare-length 1 n)) some;
  most = subst (λ (m : ℕ). m ≤ limits.devices) (sym (bare-length 1 n)) most;
  sound = sound 1 n;
}

powered-bares : (k n : ℕ) → map powered_up (bare_planned k n) ≡ bare_from k n
powered-bares k zero = refl
powered-bares k (suc n) = ap (λ (r : List Member). powered_up (bare_at k) ∷ r) (powered-bares (suc k) n)

no-dependencies : (w : planned.Wiring) (place k n : ℕ) → dependencies_from w place (bare_planned k n) ≡ []
no-dependencies w place k zero = refl
no-dependencies w place k (suc n) = no-dependencies w (suc place) (suc k) n

none-in-order : IsInOrder [] []
none-in-order = record { each_once = IsPermutation-refl []; before = λ i j one other at there same. absurd (none-some one at) }

-- the plan of bare devices, whose order has nothing
pub bare_plan_ready : (n : ℕ) → 0 < n → n ≤ limits.devices → (p : Plan) → wiring p ≡ bare_wiring n → p.order.items ≡ [] → IsReadyPlan p
bare_plan_ready n some most p is none = record {
  powers_up = record {
    ready = subst IsReady (sym is) (bare_ready n);
    sound = subst IsSoundWiring (sym is) (bare_sound n some most);
    ordered =
        subst (λ (o : List ℕ). IsInOrder (dependencies (wiring p)) o) (sym none)
        (subst (λ (w : planned.Wiring). IsInOrder (dependencies w) []) (sym is)
        (subst (λ (ds : List Dependency). IsInOrder ds []) (sym (no-dependencies (bare_wiring n) 0 1 n)) none-in-order));
  };
  nets = subst (λ (w : planned.Wiring). length w.nets ≤ limits.nets) (sym is) (omega arith);
  counted = subst (λ (w : planned.Wiring). AllByRecursion (λ (n : Net). n.rule ≡ Counted) w.nets) (sym is) tt;
}

pub bare_is : (n : ℕ) → board_of (bare_wiring n) ≡ bare_board n
bare_is n = ap (λ (ms : List Member). board_at_rest (power_up [] ms)) (powered-bares 1 n)
