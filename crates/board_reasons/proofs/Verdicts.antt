-- What a scan's verdict hangs on.
use Rattle.std.proofs.Common.{◌≡◌, Bool, true, false, not, ◌<◌, List, ◌++◌, length, take, refl, sym, ap, ◌∙◌, arith, slice_get, Option, Some, None, length-take}
use Rattle.std.proofs.lemmas.Option.{slice_get_within}
use Rattle.jt_tap.specs.declared.Column.{Column}
use Rattle.scan_vectors.specs.Vector.{differs}
use Rattle.board_model.specs.Cells.{Member}
use Rattle.board_model.specs.Whole.{joined_bits, out_of_members}
use Rattle.board_reasons.specs.declared.origins.Origin.{Origin}
use Rattle.board_reasons.specs.declared.origins.Origin.TheVariants.{Register, Tdi}
use Rattle.board_reasons.specs.Origins.{origin}
use Rattle.board_reasons.specs.Laws.{ComesFromOrigin, TurningItTurnsThatBit, NoOtherTurnsIt, VerdictTurnsOnIt, out_turned}
use Rattle.board_reasons.specs.Turned.{members_turned, tdi_turned}
use Rattle.board_reasons.proofs.Lists.{get_taken, turned_taken, turned_long, turned_at}
use Rattle.board_reasons.proofs.Streams.{stream, there, turns, others_stay}

pub comes : ComesFromOrigin
unfolding stream
comes column ms t k inside = get_taken (length t) (stream column ms t) k inside ∙ there column ms t k

tdi_long : (o : Origin) (t : List Bool) → length (tdi_turned o t) ≡ length t
tdi_long (Register device bit) t = refl
tdi_long (Tdi bit) t = turned_long bit t

out_is : (column : Column) (o : Origin) (t : List Bool) (ms : List Member)
    → out_turned column o t ms ≡ take (length t) (stream column (members_turned column o ms) (tdi_turned o t))
unfolding stream
out_is column o t ms = ap (λ n. take n (stream column (members_turned column o ms) (tdi_turned o t))) (tdi_long o t)

pub turning : TurningItTurnsThatBit
unfolding stream
turning column ms t k inside =
    out_is column (origin column ms k) t ms ∙ ap (take (length t)) (turns column ms t k) ∙ turned_taken (length t) (stream column ms t) k inside

pub no_other : NoOtherTurnsIt
unfolding stream
no_other column ms t k o inside other =
    ap (λ l. slice_get l k) (out_is column o t ms) ∙ get_taken (length t) (stream column (members_turned column o ms) (tdi_turned o t)) k inside
    ∙ others_stay column ms t k o other ∙ sym (get_taken (length t) (stream column ms t) k inside)

-- a bit that differs is wanted, and its opposite does not differ
right_turned : (w : Option Bool) (b : Bool) → differs w b ≡ true → differs w (not b) ≡ true → ⊥
right_turned None b e f = absurd cc
right_turned (Some true) true e f = absurd cc
right_turned (Some true) false e f = absurd cc
right_turned (Some false) true e f = absurd cc
right_turned (Some false) false e f = absurd cc

some_is : {A : Type 0} → (x y : A) → Some x ≡ Some y → x ≡ y
some_is x y e = cc

pub verdict : VerdictTurnsOnIt
verdict column ms t k v wrong =
    let came = out_of_members column t ms in
    let inside : k < length t = omega (arith, slice_get_within came k wrong.bit wrong.came_out, length-take (length t) (joined_bits column ms ++ t)) in (
      λ still.
          let same_want : wrong.wants ≡ still.wants = some_is wrong.wants still.wants (sym wrong.wanted ∙ still.wanted) in
          let flipped : not wrong.bit ≡ still.bit =
          some_is (not wrong.bit) still.bit (sym (ap (λ l. slice_get l k) (turning column ms t k inside) ∙ turned_at k came wrong.bit wrong.came_out) ∙ still.came_out) in
          right_turned wrong.wants.wanted wrong.bit wrong.differ
          (ap (λ w. differs w.wanted (not wrong.bit)) same_want ∙ ap (differs still.wants.wanted) flipped ∙ still.differ),
      λ o other. record {
        wants = wrong.wants;
        bit = wrong.bit;
        wanted = wrong.wanted;
        came_out = no_other column ms t k o inside other ∙ wrong.came_out;
        differ = wrong.differ;
      },
    )
