use Rattle.std.proofs.Common.{◌≡◌, ◌++◌, List, ℕ, refl, sym, ap, ◌∙◌, append_assoc}
use Rattle.std.proofs.KnownBytes.{Appends-trans}
use Rattle.byte_streams.proofs.Fronts.{WritesAll-lost}
use Rattle.output_words.specs.Names.{shown}
use Rattle.output_words.specs.Told.{told}
use Rattle.output_words.proofs.names.write_shown.Goals as goal

-- what was told before, the next piece, and what stands behind
next : (all sent piece rest behind : List ℕ) → all ≡ sent ++ rest → rest ≡ piece ++ behind → all ≡ (sent ++ piece) ++ behind
next all sent piece rest behind before is =
    before ∙ ap (λ (l : List ℕ). sent ++ l) is ∙ sym (append_assoc sent piece behind)

pub loop-first-preserved : goal.loop-first-preserved
loop-first-preserved g c =
    let piece = told c.in-Some.first in
    let so = c.loop-first.invariant.sent in
    record {
      none_lost = c.in_ok-write_told.ensures.ok.0 refl;
      sent = record {
        sent = so.sent ++ piece;
        split = next (shown c.args.name.now) so.sent piece (shown c.loop-first.rest.now) (shown c.in-Some.behind.now) so.split c.in-Some.ensures.told;
        appends = Appends-trans _ _ _ so.sent piece so.appends c.in_ok-write_told.ensures.whole;
      };
    }

pub returns-in_err-write_told : goal.returns-in_err-write_told
returns-in_err-write_told g c =
    let piece = told c.in-Some.first in
    let so = c.loop-first.invariant.sent in
    WritesAll-lost (shown c.args.name.now) so.sent (shown c.in-Some.behind.now)
    (next (shown c.args.name.now) so.sent piece (shown c.loop-first.rest.now) (shown c.in-Some.behind.now) so.split c.in-Some.ensures.told)
    so.appends c.in_err-write_told.ensures refl c.from_residual.ensures.0
