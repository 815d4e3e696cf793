-- Laws over all texts and all boards in use, which public functions ensure.
use Rattle.std.specs.Prelude.{◌≡◌, ℕ, List, Ok}
use Rattle.bsdl_device.specs.Device.{Device}
use Rattle.chip_instructions.specs.Fitting.{IsFormed}
use Rattle.bsdl.specs.Judging.{text_says}
use Rattle.board_model.specs.Chain.{BoardState}
use Rattle.board_model.specs.Sound.{IsChain}
use Rattle.jt_board.specs.InUse.{IsInUse}

-- every device that a text says can be made a chip
abbrev pub EveryDeviceReadIsFormed : Type 0
EveryDeviceReadIsFormed = (text : List ℕ) (d : Device) → text_says text ≡ Ok d → IsFormed d

-- Every board in use has a device or more, no more than the limit, and in each of them the registers that an
-- instruction can place between TDI and TDO have at least one bit.
abbrev pub EveryBoardInUseIsSound : Type 0
EveryBoardInUseIsSound = (b : BoardState) → IsInUse b → IsChain b.chips
