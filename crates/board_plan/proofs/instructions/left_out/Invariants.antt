use Rattle.std.proofs.Common.{◌≡◌, drop, filter, map, slice_get}
use Rattle.chip_instructions.specs.Device.{Opcode}
use Rattle.board_plan.specs.LeftOut.{is_left_out, left_out}
use Rattle.board_plan.proofs.instructions.left_out.Given as goal

-- what is left is counted as the whole is
abbrev pub invariant-loop-opcode : goal.invariant-loop-opcode
invariant-loop-opcode l =
    slice_get (filter (is_left_out l.device) (map (λ (o : Opcode). o.name) (drop l.opcode-index l.opcode-items))) l.before ≡ slice_get (left_out l.device) l.fn.k
