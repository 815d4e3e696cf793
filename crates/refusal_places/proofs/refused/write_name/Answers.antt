use Rattle.std.proofs.Common.{refl, ◌∷◌, ◌++◌, []}
use Rattle.byte_streams.proofs.Fronts.{WritesAll-then, WritesAll-stopped}
use Rattle.output_words.specs.Names.{shown}
use Rattle.refusal_places.proofs.refused.write_name.Goals as goal

pub returns-in_err-put_all : goal.returns-in_err-put_all
returns-in_err-put_all g c =
    WritesAll-stopped (shown c.args.name.now ++ 10 ∷ []) c.in_err-put_all.ensures.writes refl c.from_residual.ensures.0

pub returns-in_err-write_shown : goal.returns-in_err-write_shown
returns-in_err-write_shown g c =
    WritesAll-then c.in_ok-put_all.ensures.writes refl
    (WritesAll-stopped (10 ∷ []) c.in_err-write_shown.ensures refl c.from_residual-in_err-write_shown.ensures.0)

pub returns : goal.returns
returns g c = WritesAll-then c.in_ok-put_all.ensures.writes refl (WritesAll-then c.in_ok-write_shown.ensures refl c.put_all-2.ensures.writes)
