-- The laws' premises can be met, and a connection that is not open can stop a play for good.
use Rattle.std.specs.Prelude.{◌≡◌, true, false, ℕ, List, [], ◌∷◌, ◌++◌, length, Some}
use Rattle.board_model.specs.Chain.{BoardState}
use Rattle.scan_vectors.specs.declared.part.Part.TheVariants.{Data}
use Rattle.play_model.specs.declared.ending.Ending.TheVariants.{Fail}
use Rattle.play_model.specs.Events.{Put, Serve, Take, World, Known, ending_of_world}
use Rattle.play_model.specs.Play.{turns}
use Rattle.bitbang.specs.Steps.{Numbered}
use Rattle.play_model.specs.LegalSamples.{board_without_nets, lone_scan, mixed}
use Rattle.play_model.specs.Fair.{one_each}
use Rattle.play_model.specs.ScheduleLaws.{Connection, after_events, bound, full, moves_in}
use Rattle.play_model.specs.declared.kind.Kind.TheVariants.{Stops, PlaysOn}
use Rattle.play_model.specs.PlayingOn.{failures}

abbrev pub connection : (window down_room up_room : ℕ) → Connection
connection window down_room up_room = record { kind = Stops; window = window; down_room = down_room; up_room = up_room }

-- a board of two devices, and a scan that wants one bit
abbrev pub sample : BoardState
sample = board_without_nets mixed

abbrev pub after_a_while : Connection → World Known
after_a_while l = after_events l lone_scan sample (Put 64 ∷ Serve 64 ∷ Take 64 ∷ Put 64 ∷ Serve 64 ∷ [])

-- Nothing moves, though the play has neither ended nor been lost.
pub record IsStuck (l : Connection) : Type 0 where
  pub quit : (after_a_while l).quit ≡ false
  pub lost : (after_a_while l).lost ≡ false
  pub put : moves_in l lone_scan (Put 1) (after_a_while l) ≡ 0
  pub serve : moves_in l lone_scan (Serve 1) (after_a_while l) ≡ 0
  pub take : moves_in l lone_scan (Take 1) (after_a_while l) ≡ 0

-- the scan twice: the second answer differs too
abbrev pub two_scans : List Numbered
two_scans = lone_scan ++ lone_scan

abbrev pub plays_on : Connection
plays_on = record { kind = PlaysOn; window = 256; down_room = 3; up_room = 1 }

pub record ConnectionsMustBeOpen : Type 0 where
  pub window : IsStuck (connection 0 64 64)
  pub down_room : IsStuck (connection 1 0 64)
  pub up_room : IsStuck (connection 1 64 0)
  -- with one of each it ends, as the full play does
  pub is_open : ending_of_world 1 (turns lone_scan)
      (after_events (connection 1 1 1) lone_scan sample (one_each (bound (connection 1 1 1) lone_scan sample)))
      ≡ Some (full Stops lone_scan sample).ending
  pub ending : (full Stops lone_scan sample).ending ≡ Fail 1 Data 0
  pub stops : length (full Stops two_scans sample).answers ≡ 1
  -- a player that plays on is answered in both scans, and finds both
  pub goes_on : length (failures (turns two_scans) (after_events plays_on two_scans sample (one_each 90)).player.got)
      ≡ 2
  pub all : (after_events plays_on two_scans sample (one_each 90)).quit ≡ true
