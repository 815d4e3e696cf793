use Rattle.std.proofs.Common.{length, arith}
use Rattle.svf_words.proofs.Digits.{room_at_start}
use Rattle.svf_words.proofs.numbers.length_value.Goals as goal

pub digits_after-requires-clause-room : goal.digits_after-requires-clause-room
digits_after-requires-clause-room c = room_at_start (length c.args.word.now) (omega arith)
