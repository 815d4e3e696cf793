use Rattle.std.proofs.Common.{◌≡◌, List, ◌∷◌, ℕ, drop, slice_index_or, sym, subst}
use Rattle.svf_programs.specs.Sizes.{program_of}
use Rattle.player.specs.Taking.{TakesFirst}
use Rattle.player.proofs.Pieced.{drop-index}
use Rattle.player.proofs.Taking.{takes-next}
use Rattle.player.proofs.hearing.hear_some.Goals as goal

pub returns-clause-takes : goal.returns-clause-takes
returns-clause-takes c =
    let program = program_of c.args.program.now in
    let bytes = c.args.bytes.now in
    let byte = slice_index_or bytes 0 0 in
    let cut : bytes ≡ byte ∷ drop 1 bytes = drop-index 0 bytes c.requires.some in
    let e = c.hear_one.ensures in
    subst (λ (l : List ℕ). TakesFirst program c.args.p c.args.kept.now l c.hear_one.result c.hear_one.new.kept 1) (sym cut)
    (takes-next program c.args.p c.hear_one.result c.args.kept.now c.hear_one.new.kept byte (drop 1 bytes) c.requires.stands c.requires.good c.requires.owed
    c.requires.keeps e.stands e.keeps e.at e.taken e.bad e.state)
