use Rattle.std.proofs.Common.{◌≡◌, refl, inl}
use Rattle.svf_programs.specs.Sizes.{program_of}
use Rattle.jt_player.specs.Running.{IsCheckOf, accepted, accepted_run, no_memory_check, refused_check}
use Rattle.jt_player.proofs.RunLaws.{happens-out, on_ok, refused-or-memory}
use Rattle.jt_player.proofs.run.run_check.Goals as goal

pub returns-in-Ok : goal.returns-in-Ok
returns-in-Ok g c =
    let before = c.args.board.now in
    let program = program_of c.in-Ok.program in
    let run = accepted_run program before in (
      run,
      accepted program c.in-Ok.ensures.found,
      happens-out g.W.Write.contents g.E.Write.contents run before before c.args.out.now c.check_program.new.out c.args.err.now
          c.check_program.result refl c.requires.err_whole c.check_program.ensures.writes c.check_program.ensures.is_status
          (on_ok c.check_program.result (before ≡ before) refl) (inl refl),
    )

pub returns-in-Err : goal.returns-in-Err
returns-in-Err g c =
    let before = c.args.board.now in
    let told = refused-or-memory g.W.Write.contents g.E.Write.contents c.args.svf.now before (IsCheckOf c.args.svf.now before) no_memory_check refused_check
    c.in-Err.fault c.args.out.now c.args.err.now c.refuse_text.new.err c.refuse_text.result c.requires.out_whole c.in-Err.ensures.refused c.refuse_text.ensures in
    (told.run, told.is, told.happens)
