-- The laws of the board, from those of cycles and paths.
use Rattle.std.proofs.Common.{◌≡◌, false, refl, List, [], ◌∷◌, map}
use Rattle.board_model.specs.Cells.{Member}
use Rattle.board_model.specs.Whole.{reset_member}
use Rattle.board_model.specs.Chain.{after_message}
use Rattle.bitbang_protocol.specs.declared.Message.TheVariants.{Lines}
use Rattle.board_model.specs.Laws.{FiveOnesRest, OpeningRests, OpeningSettles, DefaultPathsSettleAndArrive}
use Rattle.board_model.proofs.FiveOnes.{five-ones, opening-rests, reset_from_here}
use Rattle.board_model.proofs.Resets.{opening-law, reset-twice}
use Rattle.board_model.proofs.Walks.{go-law}

pub resets-kept : (ms : List Member) → map reset_member (map reset_member ms) ≡ map reset_member ms
resets-kept [] = refl
resets-kept (m ∷ ms) = λ i. reset-twice m i ∷ resets-kept ms i

pub five_ones_rest : FiveOnesRest
five_ones_rest b released = (reset_from_here b, five-ones b released, record { place = refl; registers = resets-kept _ })

pub opening_rests : OpeningRests
opening_rests b = (reset_from_here (after_message (Lines false false) b), opening-rests b, record { place = refl; registers = resets-kept _ }, refl)

pub opening_settles : OpeningSettles
opening_settles m stable = opening-law m.place m.trst m.nets m.members stable

pub default_paths : DefaultPathsSettleAndArrive
default_paths m to here there free = go-law m.place to m.trst m.nets m.members here there free
