-- Boards whose cores follow what their pins see.
use Rattle.std.specs.Prelude.{◌≡◌, Bool, true, false, ℕ, List, [], ◌∷◌, codes, map}
use Rattle.pin_nets.specs.Wired.{Net}
use Rattle.pin_nets.specs.declared.Pull.{Pull}
use Rattle.pin_nets.specs.declared.Pull.TheVariants.{Down, Free}
use Rattle.pin_nets.specs.declared.Rule.TheVariants.{Counted}
use Rattle.pin_nets.specs.declared.Pin.{Pin}
use Rattle.pin_nets.specs.declared.Level.TheVariants.{Zero, One}
use Rattle.pin_nets.specs.declared.Follow.{Follow}
use Rattle.board_model.specs.Cells.{Member, powered}
use Rattle.board_model.specs.Nets.{in_force, net_of, rounds}
use Rattle.std.specs.List.{AllByRecursion}
use Rattle.board_model.specs.Following.{AreFit, EveryStringHolds, HasNoCircle, HasNoLoop, IsOnCircle, Placed}
use Rattle.board_model.specs.Following.{after_strings}
use Rattle.board_model.specs.Whole.{AtRest}
use Rattle.board_model.specs.Resting.{power_up, board_at_rest}
use Rattle.svf_programs.specs.Steps.{Numbered}
use Rattle.play_model.specs.declared.ending.Ending.TheVariants.{Pass}
use Rattle.worked_examples.specs.PlaySamples.{bits, pin_q, pin_d, sample_device, sir, sdr, tdi, tdo}
use Rattle.worked_examples.specs.Agree.{Row, played}
use Rattle.worked_examples.specs.Plays.{net_levels}

-- pin Q follows pin D of the same device, or its opposite
abbrev pub q_follows_d : (inverted : Bool) → Follow
q_follows_d inverted = record { cell = 0; source = 5; inverted = inverted }

abbrev pub following_device : (inverted : Bool) → Member
following_device inverted = powered (codes "U") sample_device (bits 3 2) (q_follows_d inverted ∷ []) false

abbrev pub named_net : List ℕ → Pull → List Pin → Net
named_net name pull pins = record { name = name; pull = pull; rule = Counted; pins = pins }

-- M pulled down at the first device's D, N from its Q to the second's D, V at the second's Q
abbrev pub two_following : AtRest
two_following = power_up
    (named_net (codes "M") Down (pin_d 0 ∷ []) ∷ named_net (codes "N") Free (pin_q 0 ∷ pin_d 1 ∷ [])
    ∷ named_net (codes "V") Free (pin_q 1 ∷ []) ∷ [])
    (following_device true ∷ following_device false ∷ [])

-- the first device under EXTEST drives 0, where its core has 1; it captures its core bits in force and its pull
abbrev pub driven_over : List Numbered
driven_over = sir 1 (tdi 4 0xC) ∷ sdr 2 (tdo 4 2 3) ∷ []

-- the net of Q and D of one device that follows itself
abbrev pub joined_to_itself : List Net
joined_to_itself = named_net (codes "N") Free (pin_q 0 ∷ pin_d 0 ∷ []) ∷ []

-- the nets of two devices, each Q to the other's D
abbrev pub crossed : List Net
crossed = named_net (codes "N") Free (pin_q 0 ∷ pin_d 1 ∷ []) ∷ named_net (codes "V") Free (pin_q 1 ∷ pin_d 0 ∷ []) ∷ []

abbrev pub cores_of : List Member → List (List Bool)
cores_of ms = map (λ m. m.core) ms

abbrev pub first_string : Placed
first_string = record { device = 0; string = q_follows_d true }

abbrev pub second_string : Placed
second_string = record { device = 1; string = q_follows_d false }

pub record FollowingRows : Type 0 where
  pub at_power_up : net_levels (board_at_rest two_following) ≡ Zero ∷ One ∷ One ∷ []
  pub cores : map (λ m. m.core) (in_force two_following.nets two_following.members) ≡ bits 3 3 ∷ bits 3 3 ∷ []
  pub empty_text : Row two_following [] (codes "r26262626260Q") Pass
  pub empty_text_levels : net_levels (played two_following []).board ≡ Zero ∷ One ∷ One ∷ []
  pub following : Row two_following driven_over
      (codes "r26262626260042626040404041537260402604040R41R50R42R626040Q") Pass
  pub following_levels : net_levels (played two_following driven_over).board ≡ Zero ∷ Zero ∷ Zero ∷ []
  -- one round fewer leaves the second device as its constant has it
  pub one_round_only : map (λ m. m.core) (rounds 1 two_following.nets two_following.members two_following.members)
      ≡ bits 3 3 ∷ bits 3 2 ∷ []
  -- no string of this board is on a circle
  pub no_loop : HasNoLoop two_following.nets two_following.members
  -- so none depends on itself, its strings fit, and each of them holds under the bits in force
  pub fit : AllByRecursion (λ m. AreFit m) two_following.members
  pub no_circle : HasNoCircle two_following.nets two_following.members
  pub each_holds : EveryStringHolds two_following.nets two_following.members
      (in_force two_following.nets two_following.members)
  pub itself : IsOnCircle joined_to_itself (following_device false ∷ []) (net_of joined_to_itself 0 4)
      (net_of joined_to_itself 0 5)
  pub each_other : IsOnCircle crossed (following_device false ∷ following_device false ∷ []) (net_of crossed 0 4)
      (net_of crossed 0 5)
  -- strings put in order, and the other way round
  pub in_order : cores_of (after_strings two_following.nets (first_string ∷ second_string ∷ []) two_following.members)
      ≡ bits 3 3 ∷ bits 3 3 ∷ []
  pub out_of_order : cores_of
      (after_strings two_following.nets (second_string ∷ first_string ∷ []) two_following.members)
      ≡ bits 3 3 ∷ bits 3 2 ∷ []
