-- Loops by the numbers of nets are circles over the nets.
use Rattle.std.proofs.Common.{◌≡◌, ◌<◌, ℕ, zero, suc, length, slice_get, Some, refl, ap, sym, subst, ◌∙◌, inl, inr, arith}
use Rattle.std.specs.List.{AllByRecursion}
use Rattle.std.proofs.lemmas.Option.{same_Some, slice_get_cases, slice_get_within}
use Rattle.board_parts.specs.Cells.{driver_from}
use Rattle.pin_nets.specs.Wired.{Net}
use Rattle.board_loops.specs.Loops as numbers
use Rattle.board_loops.specs.declared.net_loops.Dependency.{Dependency}
use Rattle.board_plan.specs.Planned.{Member, Wiring}
use Rattle.board_parts.specs.Strings.{HasStrings, IsStringOf}
use Rattle.board_loops.specs.Depending.{dependencies, dependency, net_number, port_of}
use Rattle.board_loops.proofs.DependingLaws.{port_of_driver}
use Rattle.board_model.specs.Cells.{Member as MeantMember}
use Rattle.board_model.specs.Following.{InSteps, Placed, StringBetween}
use Rattle.board_model.specs.Nets.{net_of}
use Rattle.board_model.specs.Planned.{members_of, powered_up}
use Rattle.jt_board.specs.Circles.{IsCircled, LoopsAreCircles, placed_strings}
use Rattle.jt_board.proofs.Lists.{each_among, each_at}
use Rattle.jt_board.proofs.NetLaws.{same_net}
use Rattle.jt_board.proofs.PathLaws.{steps_between}
use Rattle.jt_board.proofs.PlacedLaws.{as_many, placed_at, powered_at, there_powered}

module _ (w : Wiring) (fit : AllByRecursion HasStrings w.members) where
  -- a string at a place, between nets and between their numbers
  record IsThere (k : ℕ) (s : Placed) : Type 0 where
    member : Member
    stands : slice_get w.members s.device ≡ Some member
    target : ℕ
    inside : target < length member.device.ports
    source_inside : s.string.source < length member.device.ports
    between : StringBetween w.nets (members_of w) (net_of w.nets s.device target) (net_of w.nets s.device s.string.source)
    its_place : between.place ≡ s.device
    its_string : between.string ≡ s.string
    depends : slice_get (dependencies w) k ≡ Some (record { target = net_number w s.device target; source = net_number w s.device s.string.source })

  is_there : (k : ℕ) (s : Placed) → slice_get (placed_strings w.members) k ≡ Some s → IsThere k s
  is_there k s at =
      let it = placed_at w 0 w.members k s at in
      let device : it.index ≡ s.device = omega (arith, it.device) in
      let stands : slice_get w.members s.device ≡ Some it.member = ap (slice_get w.members) (sym device) ∙ it.stands in
      let fits : HasStrings it.member = each_at HasStrings w.members it.index it.member fit it.stands in
      let mine : IsStringOf it.member.device s.string = each_among (IsStringOf it.member.device) it.member.follows s.string fits.each it.follows in
      let port = port_of_driver mine.target it.member.device.cells s.string.cell mine.drives in
      record {
        member = it.member;
        stands = stands;
        target = mine.target;
        inside = mine.inside;
        source_inside = mine.source;
        between = record {
          place = s.device;
          member = powered_up it.member;
          string = s.string;
          target = mine.target;
          stands = there_powered w.members s.device it.member stands;
          follows = it.follows;
          drives = mine.drives;
          target_net = refl;
          source_net = refl;
        };
        its_place = refl;
        its_string = refl;
        depends = it.depends ∙ ap (λ (p : ℕ). Some (record { target = net_number w s.device p; source = net_number w s.device s.string.source })) port;
      }

  -- each dependency is a string's
  string_of : (k : ℕ) (d : Dependency) → slice_get (dependencies w) k ≡ Some d → (s : Placed) × (slice_get (placed_strings w.members) k ≡ Some s)
  string_of k d at = elim (slice_get_cases (placed_strings w.members) k).1 [
    | inl found ↦ (found.0, found.2)
    | inr past ↦ absurd (omega (arith, past.0, as_many w 0 w.members, slice_get_within (dependencies w) k d at))
  ]

  -- a path over numbers is one over nets
  steps_of : (n p a q b : ℕ) (m o : Member) → slice_get w.members p ≡ Some m → slice_get w.members q ≡ Some o → a < length m.device.ports → b < length o.device.ports
      → numbers.InSteps (dependencies w) n (net_number w p a) (net_number w q b) → InSteps (StringBetween w.nets (members_of w)) n (net_of w.nets p a) (net_of w.nets q b)
  steps_of zero p a q b m o at-p at-q in-a in-b path = same_net w p a q b m o at-p at-q in-a in-b path
  steps_of (suc n) p a q b m o at-p at-q in-a in-b path =
      let here : Dependency = record { target = net_number w p a; source = path.0 } in
      let string = string_of path.1.0 here path.1.1 in
      let it = is_there path.1.0 string.0 string.1 in
      let d = string.0.device in
      let is : record { target = net_number w d it.target; source = net_number w d string.0.string.source } ≡ here = same_Some _ here (sym it.depends ∙ path.1.1) in
      let net : net_of w.nets d it.target ≡ net_of w.nets p a = same_net w d it.target p a it.member m it.stands at-p it.inside in-a (ap (λ (x : Dependency). x.target) is) in
      let rest : numbers.InSteps (dependencies w) n (net_number w d string.0.string.source) (net_number w q b) =
      subst (λ (x : ℕ). numbers.InSteps (dependencies w) n x (net_number w q b)) (sym (ap (λ (x : Dependency). x.source) is)) path.2 in (
        net_of w.nets d string.0.string.source,
        subst (λ (x : Net). StringBetween w.nets (members_of w) x (net_of w.nets d string.0.string.source)) net it.between,
        steps_of n d string.0.string.source q b it.member o it.stands at-q it.source_inside in-b rest,
      )

  circled : (place : ℕ) (s : Placed) → slice_get (placed_strings w.members) place ≡ Some s → numbers.IsOnLoop (dependencies w) place → IsCircled w s
  circled place s at loop =
      let it = is_there place s at in
      let mine : Dependency = record { target = net_number w s.device it.target; source = net_number w s.device s.string.source } in
      let is : loop.string ≡ mine = same_Some loop.string mine (sym loop.stands ∙ it.depends) in
      let back : numbers.DependsOn (dependencies w) mine.source mine.target = subst (λ (x : Dependency). numbers.DependsOn (dependencies w) x.source x.target) is loop.back in
      record {
        target = net_of w.nets s.device it.target;
        source = net_of w.nets s.device s.string.source;
        circle = record {
          string = it.between;
          steps = back.0;
          back = steps_of back.0 s.device s.string.source s.device it.target it.member it.member it.stands it.stands it.source_inside it.inside back.1;
        };
        device = it.its_place;
        string = it.its_string;
      }

  on_loop : (place : ℕ) (s : Placed) → slice_get (placed_strings w.members) place ≡ Some s → IsCircled w s → numbers.IsOnLoop (dependencies w) place
  on_loop place s at c =
      let st = c.circle.string in
      let path = steps_between w c.circle.steps c.source c.target st.place st.string.source st.place st.target st.source_net st.target_net c.circle.back in
      let it = placed_at w 0 w.members place s at in
      let device : it.index ≡ s.device = omega (arith, it.device) in
      let mine = powered_at w.members st.place st.member st.stands in
      let same : mine.0 ≡ it.member = same_Some mine.0 it.member (sym mine.1 ∙ ap (slice_get w.members) (c.device ∙ sym device) ∙ it.stands) in
      let drives : driver_from st.target 0 mine.0.device.cells ≡ Some st.string.cell = subst (λ (m : MeantMember). driver_from st.target 0 m.device.cells ≡ Some st.string.cell) (sym mine.2) st.drives in
      let port : port_of mine.0.device.cells st.string.cell ≡ st.target = port_of_driver st.target mine.0.device.cells st.string.cell drives in
      let is : dependency w s.device it.member.device.cells s.string ≡ record { target = net_number w st.place st.target; source = net_number w st.place st.string.source } =
      (λ j. dependency w (sym c.device j) (sym same j).device.cells (sym c.string j)) ∙ ap (λ (p : ℕ). record { target = net_number w st.place p; source = net_number w st.place st.string.source }) port in
      record {
        string = record { target = net_number w st.place st.target; source = net_number w st.place st.string.source };
        stands = it.depends ∙ ap Some is;
        back = (c.circle.steps, path);
      }

pub loops_are_circles : LoopsAreCircles
loops_are_circles w place s fit at = (circled w fit place s at, on_loop w fit place s at)
