use Rattle.std.proofs.Common.{refl}
use Rattle.svf_programs.specs.Sizes.{program_of}
use Rattle.jt_player.specs.Running.{IsRunOf, no_memory, played, played_run, refused}
use Rattle.jt_player.proofs.RunLaws.{happens-out, refused-or-memory}
use Rattle.jt_player.proofs.run.run_kind.Goals as goal

pub returns-in-Ok : goal.returns-in-Ok
returns-in-Ok g c =
    let before = c.args.board.now in
    let program = program_of c.in-Ok.program in
    let run = played_run c.args.kind c.args.bytes program before in (
      run,
      played program c.in-Ok.ensures.found c.run_program.ensures.means,
      happens-out g.W.Write.contents g.E.Write.contents run before c.run_program.new.board c.args.out.now c.run_program.new.out c.args.err.now
          c.run_program.result refl c.requires.err_whole c.run_program.ensures.writes c.run_program.ensures.status c.run_program.ensures.left
          c.run_program.ensures.board,
    )

pub returns-in-Err : goal.returns-in-Err
returns-in-Err g c =
    let before = c.args.board.now in
    let told = refused-or-memory g.W.Write.contents g.E.Write.contents c.args.svf.now before (IsRunOf c.args.kind c.args.svf.now c.args.bytes before) no_memory refused
    c.in-Err.fault c.args.out.now c.args.err.now c.refuse_text.new.err c.refuse_text.result c.requires.out_whole c.in-Err.ensures.refused c.refuse_text.ensures in
    (told.run, told.is, told.happens)
