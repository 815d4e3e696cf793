use Rattle.std.proofs.Common.{◌≡◌, ◌++◌, take}
use Rattle.std.specs.Prelude.{flat_map}
use Rattle.board_plan.specs.View.{wiring}
use Rattle.play_coverage.specs.Lines.{way_line}
use Rattle.play_coverage.proofs.ways.put_ways.Given as goal

-- those before this one are told
abbrev pub invariant-loop-judged : goal.invariant-loop-judged
invariant-loop-judged l = l.text.items ≡ l.initial.text.items ++ flat_map (way_line (wiring l.plan) l.fault) (take l.judged-index l.ways)
