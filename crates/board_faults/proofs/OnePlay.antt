-- One play of the good board serves all faults, as long as the same bits stay.
use Rattle.std.proofs.Common.{◌≡◌, false, ℕ, List, [], ◌∷◌, map, Option, Some, None, refl, sym, ap, ◌∙◌}
use Rattle.jt_tap.specs.declared.State.{State}
use Rattle.jt_tap.specs.declared.State.TheVariants as state
use Rattle.bitbang_protocol.specs.Cycles.{opening}
use Rattle.scan_vectors.specs.declared.part.Part.{Part}
use Rattle.svf_programs.specs.Legal.{IsLegalProgram}
use Rattle.svf_programs.specs.Steps.{Numbered, Program}
use Rattle.pin_nets.specs.Wired.{Net}
use Rattle.board_plan.specs.Planned.{Wiring}
use Rattle.board_model.specs.Cells.{Member}
use Rattle.board_model.specs.Chain.{hear, members}
use Rattle.board_model.specs.Planned.{members_of}
use Rattle.board_model.specs.Resting.{board_at_rest, chip_at_rest, power_up}
use Rattle.board_model.specs.Whole.{AtRest, reset_member}
use Rattle.board_model.proofs.BoardLaws.{opening_settles}
use Rattle.play_model.proofs.DescribedPlays.{means_from_opening}
use Rattle.play_direct.specs.Made.{IsSoundWiring, board_of}
use Rattle.play_direct.proofs.Bares.{sound_chain}
use Rattle.play_model.specs.declared.ending.Ending.{Ending}
use Rattle.play_model.specs.declared.ending.Ending.TheVariants.{Fail}
use Rattle.play_model.specs.DirectPlay.{opened_state}
use Rattle.play_model.specs.Meaning.{Outcome, after_step, failure, outcome}
use Rattle.play_model.specs.Play.{play}
use Rattle.board_faults.specs.declared.kinds.Way.{Way}
use Rattle.board_faults.specs.Faults.{with_way}
use Rattle.board_faults.specs.Judging.{wiring_with}
use Rattle.board_faults.specs.OnePlay.{OnePlayServesAllFaults, OneRunServesOtherNets, first_failure}
use Rattle.board_faults.specs.Staying.{with_nets}
use Rattle.board_faults.proofs.Staying.{registers_differ}

-- ---- programs

-- how a program ends whose first step fails so, and whose others end so
abbrev pub pick : ℕ → Option (Part × ℕ) → Ending → Ending
pick n None ending = ending
pick n (Some f) ending = Fail n f.0 f.1

pub picked : (s : Numbered) (ss : List Numbered) (m : AtRest) → (outcome (s ∷ ss) m).ending ≡ pick s.number (failure s.what m) (outcome ss (after_step s.what m)).ending
picked s ss m = by (failure s.what m)
  where
    by : (o : Option (Part × ℕ))
        → (elim o as (λ _. Outcome) [
          | None ↦ outcome ss (after_step s.what m)
          | Some f ↦ record { ending = Fail s.number f.0 f.1; after = after_step s.what m }
        ]).ending ≡ pick s.number o (outcome ss (after_step s.what m)).ending
    by None = refl
    by (Some f) = refl

-- the same of the fold along the good board's states
picked-along : (s : Numbered) (ss : List Numbered) (m : AtRest) (nets : List Net)
    → first_failure (s ∷ ss) m nets ≡ pick s.number (failure s.what (with_nets nets m)) (first_failure ss (after_step s.what m) nets)
picked-along s ss m nets = by (failure s.what (with_nets nets m))
  where
    by : (o : Option (Part × ℕ))
        → (elim o as (λ _. Ending) [ None ↦ first_failure ss (after_step s.what m) nets | Some f ↦ Fail s.number f.0 f.1 ])
        ≡ pick s.number o (first_failure ss (after_step s.what m) nets)
    by None = refl
    by (Some f) = refl

-- how the others end matters only where the first step passes
pick-same : (n : ℕ) (o : Option (Part × ℕ)) (one other : Ending) → (o ≡ None → one ≡ other) → pick n o one ≡ pick n o other
pick-same n None one other same = same refl
pick-same n (Some f) one other same = refl

pub one_run : OneRunServesOtherNets
one_run [] m nets alike = refl
one_run (s ∷ ss) m nets alike =
    picked s ss (with_nets nets m)
    ∙ pick-same s.number (failure s.what (with_nets nets m)) (outcome ss (after_step s.what (with_nets nets m))).ending
    (first_failure ss (after_step s.what m) nets)
    (λ passes.
    ap (λ (x : AtRest). (outcome ss x).ending) (registers_differ s.what m nets (alike passes).0)
    ∙ one_run ss (after_step s.what m) nets (alike passes).1)
    ∙ sym (picked-along s ss m nets)

-- ---- from power-up

members-at-rest : (s : State) (ms : List Member) → members (map (chip_at_rest s) ms) ≡ ms
members-at-rest s [] = refl
members-at-rest s (m ∷ ms) = ap (λ (ns : List Member). m ∷ ns) (members-at-rest s ms)

-- the devices behind the opening, whatever the nets are
pub opened-members : (nets : List Net) (ms : List Member) → members (hear opening (board_at_rest (power_up nets ms))).board.chips ≡ map reset_member ms
opened-members nets ms =
    ap (λ h. members h.board.chips) (opening_settles (power_up nets ms) refl) ∙ members-at-rest state.Reset (map reset_member ms)

pub opened-same : (w : Wiring) (its_way : Way)
    → opened_state (board_of (wiring_with its_way w)) ≡ with_nets (with_way its_way w.nets) (opened_state (board_of w))
opened-same w its_way =
    ap (λ (ms : List Member). record { place = state.Reset; trst = false; nets = with_way its_way w.nets; members = ms })
    (opened-members (with_way its_way w.nets) (members_of w) ∙ sym (opened-members w.nets (members_of w)))

pub means : (program : Program) → IsLegalProgram program.steps → (w : Wiring) → IsSoundWiring w
    → (play program (board_of w)).ending ≡ (outcome program.steps (opened_state (board_of w))).ending
means program legal w sound =
    let chain = sound_chain w sound in
    (means_from_opening program (board_of w) chain.sound chain.some legal).1

pub means_with : (program : Program) → IsLegalProgram program.steps → (w : Wiring) → IsSoundWiring w → (its_way : Way)
    → (play program (board_of (wiring_with its_way w))).ending
    ≡ (outcome program.steps (with_nets (with_way its_way w.nets) (opened_state (board_of w)))).ending
means_with program legal w sound its_way =
    means program legal (wiring_with its_way w) (record { some = sound.some; most = sound.most; sound = sound.sound })
    ∙ ap (λ (m : AtRest). (outcome program.steps m).ending) (opened-same w its_way)

pub one_play : OnePlayServesAllFaults
one_play program legal w sound its_way alike =
    means_with program legal w sound its_way ∙ one_run program.steps (opened_state (board_of w)) (with_way its_way w.nets) alike
