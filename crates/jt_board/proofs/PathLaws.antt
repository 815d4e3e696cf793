-- Paths over nets are paths over their numbers.
use Rattle.std.proofs.Common.{◌≡◌, ℕ, zero, suc, ◌+◌, slice_get, Some, ap, sym, subst, ◌∙◌, arith}
use Rattle.pin_nets.specs.Wired.{Net}
use Rattle.board_parts.specs.Cells.{driver_from}
use Rattle.board_loops.specs.Loops as numbers
use Rattle.board_plan.specs.Planned.{Wiring}
use Rattle.board_loops.specs.Depending.{dependencies, net_number}
use Rattle.board_loops.proofs.DependingLaws.{port_of_driver}
use Rattle.board_model.specs.Cells.{Member as MeantMember}
use Rattle.board_model.specs.Following.{HasNoLoop, InSteps, IsAmong, StringBetween}
use Rattle.board_model.specs.Nets.{net_of}
use Rattle.board_model.specs.Planned.{members_of}
use Rattle.jt_board.proofs.NetLaws.{same_number}
use Rattle.jt_board.proofs.PlacedLaws.{powered_at, string_there}

-- ---- paths

module _ (w : Wiring) where
  -- a string between nets is one between their numbers
  string_between : (net source : Net) (st : StringBetween w.nets (members_of w) net source)
      → (k : ℕ) × (slice_get (dependencies w) k ≡ Some (record { target = net_number w st.place st.target; source = net_number w st.place st.string.source }))
  string_between net source st =
      let it = powered_at w.members st.place st.member st.stands in
      let m = it.0 in
      let follows : IsAmong st.string m.follows = subst (λ (p : MeantMember). IsAmong st.string p.follows) (sym it.2) st.follows in
      let driver : driver_from st.target 0 m.device.cells ≡ Some st.string.cell = subst (λ (p : MeantMember). driver_from st.target 0 p.device.cells ≡ Some st.string.cell) (sym it.2) st.drives in
      let there = string_there w 0 w.members st.place m st.string it.1 follows in
      let place : 0 + st.place ≡ st.place = omega arith in
      let port = port_of_driver st.target m.device.cells st.string.cell driver in
      (there.0, there.2 ∙ (λ j. Some (record { target = net_number w (place j) (port j); source = net_number w (place j) st.string.source })))

  -- a path over nets is one over their numbers
  pub steps_between : (n : ℕ) (net source : Net) (p a q b : ℕ) → net ≡ net_of w.nets p a → source ≡ net_of w.nets q b → InSteps (StringBetween w.nets (members_of w)) n net source
      → numbers.InSteps (dependencies w) n (net_number w p a) (net_number w q b)
  steps_between zero net source p a q b at-net at-source path = same_number w p a q b (sym at-net ∙ path ∙ at-source)
  steps_between (suc n) net source p a q b at-net at-source path =
      let st = path.1 in
      let one = string_between net path.0 st in
      let target : net_number w st.place st.target ≡ net_number w p a = same_number w st.place st.target p a (sym st.target_net ∙ at-net) in
      let next = net_number w st.place st.string.source in
      let there : slice_get (dependencies w) one.0 ≡ Some (record { target = net_number w p a; source = next }) = one.1 ∙ ap (λ (x : ℕ). Some (record { target = x; source = next })) target in
      (next, (one.0, there), steps_between n path.0 source st.place st.string.source q b st.source_net at-source path.2)

  -- where by numbers nothing is on a loop, no net depends on itself
  pub no_loop_over_nets : numbers.HasNoLoop (dependencies w) → HasNoLoop w.nets (members_of w)
  no_loop_over_nets free net n path =
      let st = path.1 in
      let one = string_between net path.0 st in
      free one.0 (record {
        string = record { target = net_number w st.place st.target; source = net_number w st.place st.string.source };
        stands = one.1;
        back = (n, steps_between n path.0 net st.place st.string.source st.place st.target st.source_net st.target_net path.2);
      })
