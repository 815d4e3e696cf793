use Rattle.std.proofs.Common.{◌∙◌, refl, sym, ap, length}
use Rattle.board_tables.proofs.PlaceLaws.{one_more}
use Rattle.board_tables.proofs.places.Places.push.Goals as goal

pub invariant_of-self-in-Ok : goal.invariant_of-self-in-Ok
invariant_of-self-in-Ok g c =
    let inside = c.self.inside in
    rw c.in_ok-push.ensures.items
    (one_more g.K.Ord.cmp g.met.K.Ord.total inside.first inside.keys.items c.self.invariant c.args.key c.enter.new.first
    c.len-place.result _ (c.len-place.ensures ∙ ap (λ ks. length ks) (sym c.self.view_is)) refl c.in-Ok.ensures.entered)
