use Rattle.std.proofs.Common.{◌-◌, length, drop, ap₂, ◌∙◌, arith, length-drop}
use Rattle.std.proofs.lemmas.List.{take_all}
use Rattle.play_links.specs.Leaving.{left_behind}
use Rattle.play_links.specs.Serves.{serve_bytes}
use Rattle.play_links.proofs.IdleServes.{behind_left, behind_served}
use Rattle.play_links.proofs.serving.behind_idle.Goals as goal

pub returns-clause-served : goal.returns-clause-served
returns-clause-served c =
    let bytes = c.args.bytes.now in let n = c.idle-idle.result in
    ap₂ serve_bytes (take_all (length bytes - n) (drop n bytes) (omega (arith, length-drop n bytes))) c.idle-idle.ensures.board
    ∙ behind_served bytes n c.args.board.now c.idle-idle.ensures.few c.idle-idle.ensures.idle

pub returns-clause-left : goal.returns-clause-left
returns-clause-left c =
    let bytes = c.args.bytes.now in let n = c.idle-idle.result in
    ap₂ left_behind (take_all (length bytes - n) (drop n bytes) (omega (arith, length-drop n bytes))) c.idle-idle.ensures.board
    ∙ behind_left bytes n c.args.board.now c.idle-idle.ensures.few c.idle-idle.ensures.idle
