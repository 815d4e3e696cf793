use Rattle.std.proofs.Common.{[], ◌∷◌, map, drop, refl, ap, ◌∙◌, arith}
use Rattle.bitbang_protocol.specs.declared.Message.TheVariants.{Quit}
use Rattle.bitbang_protocol.specs.Protocol.{encode, value}
use Rattle.svf_programs.specs.Sizes.{program_of}
use Rattle.player.proofs.Pieced.{gives-none, gives-one, is-over, quit-on, quit-state, quit-waits}
use Rattle.player.proofs.pieces.quit_piece.Goals as goal

pub returns-then-out : goal.returns-then-out
returns-then-out c =
    let program = program_of c.args.program.now in
    let p = c.args.p in
    gives-none program p c.args.buffer.now c.requires.stands (is-over program p c.args.out c.requires.is c.requires.stands).bad (is-over program p c.args.out c.requires.is c.requires.stands).owed
    (λ room. quit-waits program p c.args.out c.requires.is c.requires.stands ∙ ap (λ b. map encode (drop (value b) (Quit ∷ []))) c.if-out.true)

pub returns-then-is_empty : goal.returns-then-is_empty
returns-then-is_empty c =
    let program = program_of c.args.program.now in
    let p = c.args.p in
    gives-none program p c.args.buffer.now c.requires.stands (is-over program p c.args.out c.requires.is c.requires.stands).bad (is-over program p c.args.out c.requires.is c.requires.stands).owed
    (λ room. absurd (grind (arith, room, c.is_empty.ensures, c.if-is_empty.true)))

pub returns : goal.returns
returns c =
    let program = program_of c.args.program.now in
    let p = c.args.p in
    gives-one program p (record p { phase = _ }) c.args.buffer.now _ 81 []
    (quit-on program p c.args.out c.requires.is c.requires.stands) (is-over program p c.args.out c.requires.is c.requires.stands).bad (is-over program p c.args.out c.requires.is c.requires.stands).owed
    (quit-state program p c.args.out c.requires.is c.requires.stands c.if-out.false)
    (quit-waits program p c.args.out c.requires.is c.requires.stands ∙ ap (λ b. map encode (drop (value b) (Quit ∷ []))) c.if-out.false)
    (grind (arith, c.is_empty.ensures, c.if-is_empty.false)) refl
