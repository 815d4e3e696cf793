use Rattle.std.proofs.Common.{refl}
use Rattle.board_chips.proofs.SlotLaws.{opened, opened_room}
use Rattle.board_chips.proofs.driving.open_empty.Goals as goal

pub returns-clause-room : goal.returns-clause-room
returns-clause-room c = opened_room c.args.blocks.now.items c.push.new.self.items c.args.it c.in_ok-push.ensures.items

pub returns-clause-slots : goal.returns-clause-slots
returns-clause-slots c = λ n es h s.
    opened es n c.args.blocks.now.items c.push.new.self.items c.args.pins.now.items c.extend_from_slice.new.self.items _ c.args.it
    c.in_ok-push.ensures.items c.in_ok-extend_from_slice.ensures.items refl h s
