use Rattle.std.proofs.Common.{◌≡◌, ap, sym, ◌∙◌, slice_get, Some}
use Rattle.pin_nets.specs.declared.Drive.{Drive as TheDrive}
use Rattle.board_chips.specs.WiringValues.{WiringValue}
use Rattle.board_chips.proofs.LevelLaws.{set-same}
use Rattle.board_chips.proofs.wiring.Wiring.put.Goals as goal

pub returns-then-is_same : goal.returns-then-is_same
returns-then-is_same c =
    let now = c.args.self.now in
    let there : slice_get now.drives c.args.pin ≡ Some c.args.drive =
    ap (λ (w : WiringValue). slice_get w.drives c.args.pin) (sym c.self.view_is) ∙ c.drive.ensures
    ∙ ap (λ (d : TheDrive). Some d) (c.is_same.ensures.same c.if-is_same.true) in
    ap (λ ds. record now { drives = ds }) (sym (set-same now.drives c.args.pin c.args.drive there))
