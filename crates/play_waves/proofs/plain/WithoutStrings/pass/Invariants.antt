use Rattle.std.proofs.Common.{◌≡◌, take}
use Rattle.std.specs.Io.KnownBytes.{Appends}
use Rattle.play_waves.specs.Plain.{held, passed}
use Rattle.play_waves.proofs.plain.WithoutStrings.pass.Given as goal

-- the bytes before the place are taken
abbrev pub invariant-loop-byte : goal.invariant-loop-byte
invariant-loop-byte g l = record {
  handed : Appends (g.W.Write.contents l.initial.self.inner) (g.W.Write.contents l.self.inner) (passed l.initial.self.line (take l.byte-index l.piece));
  line : l.self.line ≡ held l.initial.self.line (take l.byte-index l.piece);
}
