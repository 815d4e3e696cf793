-- What is invisible is missed by every program.
use Rattle.std.proofs.Common.{◌≡◌, ℕ, suc, Bool, true, false, List, [], ◌∷◌, map, length, drop, if◌then◌else◌, refl, sym, ap, subst, ◌∙◌}
use Rattle.jt_tap.specs.declared.Column.{Column}
use Rattle.jt_tap.specs.declared.Column.TheVariants.{Dr, Ir}
use Rattle.jt_tap.specs.declared.State.{State}
use Rattle.jt_tap.specs.declared.State.TheVariants as state
use Rattle.jt_tap.specs.declared.Work.{Work}
use Rattle.jt_tap.specs.declared.Work.TheVariants.{Resets, Captures, Shifts, Updates, Waits}
use Rattle.jt_tap.specs.Controller.{is_at, pause, work}
use Rattle.svf_words.specs.declared.keywords.TrstWord.TheVariants.{On, Off, Z, Absent}
use Rattle.scan_vectors.specs.Vector.{judge, tdis}
use Rattle.svf_programs.specs.Steps.{Numbered, Step, Scan, Go, Path, Run, Trst}
use Rattle.pin_nets.specs.Wired.{Net}
use Rattle.board_plan.specs.Planned as planned
use Rattle.board_plan.specs.Planned.{Wiring}
use Rattle.board_model.specs.Cells.{Member}
use Rattle.board_model.specs.Planned.{members_of, powered_up}
use Rattle.board_model.specs.Whole.{AtRest, along, arrive, capture, capture_all, cut_back, out, pass, reset_all, reset_member, selected_bits_of, settle, settled_member, shift, trst_member, update, update_member}
use Rattle.play_direct.specs.Made.{board_of}
use Rattle.play_model.specs.DirectPlay.{opened_state}
use Rattle.play_model.specs.Meaning.{after_step, failure, move_to, move_unless_there, outcome, scan_end}
use Rattle.board_faults.specs.Alike.{AreOf}
use Rattle.board_faults.specs.declared.kinds.Way.{Way}
use Rattle.board_faults.specs.Faults.{with_way}
use Rattle.board_faults.specs.Missed.{EveryProgramMissesWhatIsInvisible}
use Rattle.board_faults.specs.Sight.{IsInvisible}
use Rattle.board_faults.proofs.Alike.{not_captured}
use Rattle.board_faults.proofs.OnePlay.{means, means_with, opened-members, pick, picked}

-- ---- the devices stay those of the plan

kept-map : (f : Member → Member) → ((m : Member) → ((f m).device ≡ m.device) × ((f m).follows ≡ m.follows)) → (ps : List planned.Member) (ms : List Member)
    → AreOf ps ms → AreOf ps (map f ms)
kept-map f same [] [] of = tt
kept-map f same [] (m ∷ ms) of = absurd of
kept-map f same (p ∷ ps) [] of = absurd of
kept-map f same (p ∷ ps) (m ∷ ms) of = ((same m).0 ∙ of.0, (same m).1 ∙ of.1, kept-map f same ps ms of.2)

kept-capture : (column : Column) (about : ℕ → _) (k : ℕ) (ps : List planned.Member) (ms : List Member) → AreOf ps ms → AreOf ps (capture_all column about k ms)
kept-capture column about k [] [] of = tt
kept-capture column about k [] (m ∷ ms) of = absurd of
kept-capture column about k (p ∷ ps) [] of = absurd of
kept-capture column about k (p ∷ ps) (m ∷ ms) of = (of.0, of.1, kept-capture column about (suc k) ps ms of.2)

kept-cut : (column : Column) (bits : List Bool) (ps : List planned.Member) (ms : List Member) → AreOf ps ms → AreOf ps (cut_back column bits ms)
kept-cut column bits [] [] of = tt
kept-cut column bits [] (m ∷ ms) of = absurd of
kept-cut column bits (p ∷ ps) [] of = absurd of
kept-cut column bits (p ∷ ps) (m ∷ ms) of = (of.0, of.1, kept-cut column (drop (length (selected_bits_of column m)) bits) ps ms of.2)

-- ---- the same registers, on the board and on the one with the fault

module _ (w : Wiring) (its_way : Way) (unseen : IsInvisible w its_way) where
  abbrev faulty : List Net
  faulty = with_way its_way w.nets

  -- the state of the board, its nets being those with the fault
  abbrev with-fault : AtRest → AtRest
  with-fault m = record m { nets = faulty }

  pub record Stays (m : AtRest) : Type 0 where
    pub nets : m.nets ≡ w.nets
    pub of : AreOf w.members m.members

  capture-same : (column : Column) (m : AtRest) → Stays m → capture column (with-fault m) ≡ with-fault (capture column m)
  capture-same column m is =
      let all = λ (ns : List Net). capture_all column (Rattle.board_model.specs.Nets.told ns m.members) 0 m.members in
      ap (λ (ms : List Member). record m { nets = faulty; members = ms }) (sym (not_captured w its_way unseen m.members is.of column) ∙ sym (ap all is.nets))

  capture-stays : (column : Column) (m : AtRest) → Stays m → Stays (capture column m)
  capture-stays column m is = record { nets = is.nets; of = kept-capture column _ 0 w.members m.members is.of }

  update-stays : (column : Column) (m : AtRest) → Stays m → Stays (update column m)
  update-stays column m is = record { nets = is.nets; of = kept-map (update_member column) (λ x. (refl, refl)) w.members m.members is.of }

  shift-stays : (column : Column) (t : List Bool) (m : AtRest) → Stays m → Stays (shift column t m)
  shift-stays column t m is = record { nets = is.nets; of = kept-cut column _ w.members m.members is.of }

  reset-stays : (m : AtRest) → Stays m → Stays (reset_all m)
  reset-stays m is = record { nets = is.nets; of = kept-map reset_member (λ x. (refl, refl)) w.members m.members is.of }

  -- what a state comes to on both
  pub record Both (f : AtRest → AtRest) (m : AtRest) : Type 0 where
    pub same : f (with-fault m) ≡ with-fault (f m)
    pub stays : Stays (f m)

  -- one after another
  then-both : (f g : AtRest → AtRest) (m : AtRest) → Both f m → Both g (f m) → Both (λ x. g (f x)) m
  then-both f g m one more = record { same = ap g one.same ∙ more.same; stays = more.stays }

  place-both : (s : State) (m : AtRest) → Stays m → Both (λ x. record x { place = s }) m
  place-both s m is = record { same = refl; stays = record { nets = is.nets; of = is.of } }

  settle-at : (s : State) (trst : Bool) (nets : List Net) (ms : List Member) → Stays (record { place = s; trst = trst; nets = nets; members = ms })
      → Both settle (record { place = s; trst = trst; nets = nets; members = ms })
  settle-at state.Reset trst nets ms is = record { same = refl; stays = is }
  settle-at state.Idle trst nets ms is = record { same = refl; stays = is }
  settle-at state.DrSelect trst nets ms is = record { same = refl; stays = is }
  settle-at state.DrCapture trst nets ms is = record { same = refl; stays = is }
  settle-at state.DrShift trst nets ms is = record { same = refl; stays = is }
  settle-at state.DrExit1 trst nets ms is = record { same = refl; stays = is }
  settle-at state.DrPause trst nets ms is = record { same = refl; stays = update-stays Dr _ is }
  settle-at state.DrExit2 trst nets ms is = record { same = refl; stays = is }
  settle-at state.DrUpdate trst nets ms is = record { same = refl; stays = is }
  settle-at state.IrSelect trst nets ms is = record { same = refl; stays = is }
  settle-at state.IrCapture trst nets ms is = record { same = refl; stays = is }
  settle-at state.IrShift trst nets ms is = record { same = refl; stays = is }
  settle-at state.IrExit1 trst nets ms is = record { same = refl; stays = is }
  settle-at state.IrPause trst nets ms is = record { same = refl; stays = update-stays Ir _ is }
  settle-at state.IrExit2 trst nets ms is = record { same = refl; stays = is }
  settle-at state.IrUpdate trst nets ms is = record { same = refl; stays = is }

  settle-both : (m : AtRest) → Stays m → Both settle m
  settle-both m is = settle-at m.place m.trst m.nets m.members is

  arrive-both : (s : State) (m : AtRest) → Stays m → Both (arrive s) m
  arrive-both state.Reset m is = record { same = refl; stays = record { nets = is.nets; of = (reset-stays m is).of } }
  arrive-both state.Idle m is = place-both state.Idle m is
  arrive-both state.DrSelect m is = place-both state.DrSelect m is
  arrive-both state.DrCapture m is = place-both state.DrCapture m is
  arrive-both state.DrShift m is = place-both state.DrShift m is
  arrive-both state.DrExit1 m is = place-both state.DrExit1 m is
  arrive-both state.DrPause m is = record {
    same = ap (λ (x : AtRest). record x { place = state.DrPause }) (capture-same Dr m is);
    stays = record { nets = is.nets; of = (capture-stays Dr m is).of };
  }
  arrive-both state.DrExit2 m is = place-both state.DrExit2 m is
  arrive-both state.DrUpdate m is = place-both state.DrUpdate m is
  arrive-both state.IrSelect m is = place-both state.IrSelect m is
  arrive-both state.IrCapture m is = place-both state.IrCapture m is
  arrive-both state.IrShift m is = place-both state.IrShift m is
  arrive-both state.IrExit1 m is = place-both state.IrExit1 m is
  arrive-both state.IrPause m is = record {
    same = ap (λ (x : AtRest). record x { place = state.IrPause }) (capture-same Ir m is);
    stays = record { nets = is.nets; of = (capture-stays Ir m is).of };
  }
  arrive-both state.IrExit2 m is = place-both state.IrExit2 m is
  arrive-both state.IrUpdate m is = place-both state.IrUpdate m is

  pass-both : (work : Work) (m : AtRest) → Stays m → Both (pass work) m
  pass-both Resets m is = record { same = refl; stays = reset-stays m is }
  pass-both (Captures column) m is = record { same = capture-same column m is; stays = capture-stays column m is }
  pass-both (Shifts column) m is = record { same = refl; stays = shift-stays column (false ∷ []) m is }
  pass-both (Updates column) m is = record { same = refl; stays = update-stays column m is }
  pass-both Waits m is = record { same = refl; stays = is }

  along-both : (path : List State) (m : AtRest) → Stays m → Both (along path) m
  along-both [] m is = record { same = refl; stays = is }
  along-both (s ∷ path) m is =
      let one = pass-both (work s) m is in
      let two = place-both s (pass (work s) m) one.stays in
      let first = then-both (pass (work s)) (λ x. record x { place = s }) m one two in
      then-both (λ x. record (pass (work s) x) { place = s }) (along path) m first (along-both path (record (pass (work s) m) { place = s }) two.stays)

  -- what a test of the place chooses
  if-both : (b : Bool) (f g : AtRest → AtRest) (m : AtRest) → Both f m → Both g m → Both (λ x. if b then f x else g x) m
  if-both true f g m one other = one
  if-both false f g m one other = other

  scan-end-both : (column : Column) (end : State) (m : AtRest) → Stays m → Both (scan_end column end) m
  scan-end-both column end m is =
      if-both (is_at end (pause column)) (λ x. record x { place = end }) (λ x. arrive end (update column x)) m
      (place-both end m is)
      (then-both (update column) (arrive end) m (record { same = refl; stays = update-stays column m is }) (arrive-both end (update column m) (update-stays column m is)))

  move-to-both : (s : State) (m : AtRest) → Stays m → Both (move_to s) m
  move-to-both s m is = let one = settle-both m is in then-both settle (arrive s) m one (arrive-both s (settle m) one.stays)

  move-both : (s : State) (m : AtRest) → Stays m → Both (move_unless_there s) m
  move-both s m is = by (is_at m.place s) refl
    where
      by : (b : Bool) → is_at m.place s ≡ b → Both (move_unless_there s) m
      by true e = record {
        same = ap (λ (b : Bool). if b then with-fault m else move_to s (with-fault m)) e ∙ sym (ap (λ (b : Bool). with-fault (if b then m else move_to s m)) e);
        stays = subst (λ (b : Bool). Stays (if b then m else move_to s m)) (sym e) is;
      }
      by false e =
          let moved = move-to-both s m is in
          record {
            same =
                ap (λ (b : Bool). if b then with-fault m else move_to s (with-fault m)) e ∙ moved.same
                ∙ sym (ap (λ (b : Bool). with-fault (if b then m else move_to s m)) e);
            stays = subst (λ (b : Bool). Stays (if b then m else move_to s m)) (sym e) moved.stays;
          }

  settled-same : (place : State) (m : Member) → ((settled_member place m).device ≡ m.device) × ((settled_member place m).follows ≡ m.follows)
  settled-same place m = by (is_at place (pause Dr)) (is_at place (pause Ir))
    where
      by : (a b : Bool)
          → ((if a then update_member Dr m else if b then update_member Ir m else m).device ≡ m.device)
          × ((if a then update_member Dr m else if b then update_member Ir m else m).follows ≡ m.follows)
      by true b = (refl, refl)
      by false true = (refl, refl)
      by false false = (refl, refl)

  asserted-same : (place : State) (m : Member)
      → ((trst_member (settled_member place) m).device ≡ m.device) × ((trst_member (settled_member place) m).follows ≡ m.follows)
  asserted-same place m = by m.device.has_trst (settled-same place m)
    where
      by : (b : Bool) → ((settled_member place m).device ≡ m.device) × ((settled_member place m).follows ≡ m.follows)
          → ((reset_member (if b then m else settled_member place m)).device ≡ m.device)
          × ((reset_member (if b then m else settled_member place m)).follows ≡ m.follows)
      by true is = (refl, refl)
      by false is = is

  step-both : (step : Step) (m : AtRest) → Stays m → Both (after_step step) m
  step-both (Scan column v end) m is =
      let settled = settle-both m is in
      let captured = then-both settle (capture column) m settled
      (record { same = capture-same column (settle m) settled.stays; stays = capture-stays column (settle m) settled.stays }) in
      let shifted = then-both (λ x. capture column (settle x)) (shift column (tdis v)) m captured
      (record { same = refl; stays = shift-stays column (tdis v) (capture column (settle m)) captured.stays }) in
      then-both (λ x. shift column (tdis v) (capture column (settle x))) (scan_end column end) m shifted
      (scan-end-both column end (shift column (tdis v) (capture column (settle m))) shifted.stays)
  step-both (Go s) m is = move-to-both s m is
  step-both (Path path) m is = along-both path m is
  step-both (Run run n end) m is =
      let one = move-both run m is in
      then-both (move_unless_there run) (move_unless_there end) m one (move-both end (move_unless_there run m) one.stays)
  step-both (Trst On) m is = record {
    same = refl;
    stays = record { nets = is.nets; of = kept-map (trst_member (settled_member m.place)) (asserted-same m.place) w.members m.members is.of };
  }
  step-both (Trst Off) m is = record { same = refl; stays = record { nets = is.nets; of = is.of } }
  step-both (Trst Z) m is = record { same = refl; stays = record { nets = is.nets; of = is.of } }
  step-both (Trst Absent) m is = record { same = refl; stays = is }

  failure-same : (step : Step) (m : AtRest) → Stays m → failure step (with-fault m) ≡ failure step m
  failure-same (Scan column v end) m is =
      let settled = settle-both m is in
      let captured = then-both settle (capture column) m settled
      (record { same = capture-same column (settle m) settled.stays; stays = capture-stays column (settle m) settled.stays }) in
      ap (λ (x : AtRest). judge v (out column (tdis v) x)) captured.same
  failure-same (Go s) m is = refl
  failure-same (Path path) m is = refl
  failure-same (Run run n end) m is = refl
  failure-same (Trst word) m is = refl

  outcome-same : (steps : List Numbered) (m : AtRest) → Stays m → (outcome steps (with-fault m)).ending ≡ (outcome steps m).ending
  outcome-same [] m is = refl
  outcome-same (s ∷ ss) m is =
      let both = step-both s.what m is in
      picked s ss (with-fault m)
      ∙ (λ i. pick s.number (failure-same s.what m is i) (outcome ss (both.same i)).ending)
      ∙ ap (pick s.number (failure s.what m)) (outcome-same ss (after_step s.what m) both.stays)
      ∙ sym (picked s ss m)

-- ---- from power-up

powered-of : (ps : List planned.Member) → AreOf ps (map powered_up ps)
powered-of [] = tt
powered-of (p ∷ ps) = (refl, refl, powered-of ps)

opened-stays : (w : Wiring) (its_way : Way) (unseen : IsInvisible w its_way) → Stays w its_way unseen (opened_state (board_of w))
opened-stays w its_way unseen = record {
  nets = refl;
  of = subst (AreOf w.members) (sym (opened-members w.nets (members_of w))) (kept-map reset_member (λ x. (refl, refl)) w.members (members_of w) (powered-of w.members));
}

pub every_program_misses : EveryProgramMissesWhatIsInvisible
every_program_misses program legal w sound its_way unseen =
    means_with program legal w sound its_way
    ∙ outcome-same w its_way unseen program.steps (opened_state (board_of w)) (opened-stays w its_way unseen)
    ∙ sym (means program legal w sound)
