use Rattle.std.proofs.Common.{ℕ, suc, List, ◌++◌, map, drop, slice_index_or, refl, ap, ◌∙◌, arith}
use Rattle.bitbang_protocol.specs.Cycles.{opening}
use Rattle.bitbang_protocol.specs.Protocol.{encode}
use Rattle.svf_programs.specs.Sizes.{program_of}
use Rattle.player.proofs.Pieced.{drop-index, gives-one, opening-on, opening-state, opening-waits}
use Rattle.player.proofs.PlayerPlaces.{in-opening}
use Rattle.player.proofs.pieces.opening_piece.Goals as goal

pub returns : goal.returns
returns c =
    let program = program_of c.args.program.now in
    let p = c.args.p in
    let n = c.args.n in
    let waits = opening-waits program p n c.requires.is c.requires.stands in
    gives-one program p (record p { phase = _ }) c.args.buffer.now _ (slice_index_or (map encode opening) n 0) (drop (suc n) (map encode opening) ++ waits.0)
    (opening-on program p n c.requires.is c.requires.stands c.requires.left) (in-opening program p n c.requires.is c.requires.stands).bad (in-opening program p n c.requires.is c.requires.stands).owed
    (opening-state program p n c.requires.is c.requires.stands c.requires.left)
    (waits.1 ∙ ap (λ (l : List ℕ). l ++ waits.0) (drop-index n (map encode opening) c.requires.left))
    (grind (arith, c.is_empty.ensures, c.if-is_empty.false)) refl
