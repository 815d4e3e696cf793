use Rattle.std.proofs.Common.{◌≡◌, ◌≤◌, ◌++◌, length, map, take}
use Rattle.scan_vectors.specs.Held.{bits}
use Rattle.board_model.specs.Chain.{members}
use Rattle.play_explained.specs.Explaining.{explained_of}
use Rattle.play_explained.proofs.explaining.explain_each.Given as goal

-- those before the place are explained behind what was listed
abbrev pub invariant-loop-failure : goal.invariant-loop-failure
invariant-loop-failure l = record {
  told : l.list.items
      ≡ take l.most (l.initial.list.items ++ map (explained_of l.chain.nets (members l.chain.chips) l.column (bits l.vector)) (take l.failure-index l.failures));
  listed : length l.list.items ≤ l.most;
}
