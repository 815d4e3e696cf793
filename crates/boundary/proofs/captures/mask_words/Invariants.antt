use Rattle.boundary.specs.Masks.{inner_cells, sighted_cells}
use Rattle.boundary.specs.Plain.{plain_cells}
use Rattle.boundary.specs.Resets.{reset_cells}
use Rattle.boundary.proofs.MaskLaws.{HasFirst}
use Rattle.boundary.proofs.captures.mask_words.Given as goal

abbrev pub invariant-loop-j : goal.invariant-loop-j
invariant-loop-j l = record {
  sighted : HasFirst (sighted_cells l.cells) l.j l.words.sighted;
  inner : HasFirst (inner_cells l.cells) l.j l.words.inner;
  plain : HasFirst (plain_cells l.cells) l.j l.words.plain;
  reset : HasFirst (reset_cells l.cells) l.j l.words.reset;
}
