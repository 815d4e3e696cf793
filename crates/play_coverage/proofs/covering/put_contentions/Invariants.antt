use Rattle.std.proofs.Common.{◌≡◌, ◌++◌, take}
use Rattle.std.specs.Prelude.{flat_map}
use Rattle.board_plan.specs.View.{wiring}
use Rattle.play_coverage.specs.Lines.{contention_line}
use Rattle.play_coverage.proofs.covering.put_contentions.Given as goal

-- those before this one are told
abbrev pub invariant-loop-contention : goal.invariant-loop-contention
invariant-loop-contention l = l.text.items ≡ l.initial.text.items ++ flat_map (contention_line (wiring l.plan)) (take l.contention-index l.contending)
