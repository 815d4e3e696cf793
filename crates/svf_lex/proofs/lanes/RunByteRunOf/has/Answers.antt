use Rattle.std.proofs.Common.{◌≡◌, ℕ, ◌<◌, false, get_or, refl, ap, ◌∙◌}
use Rattle.std.proofs.lemmas.Bool.{agree_below_at}
use Rattle.svf_lex.specs.declared.lanes.TheConstants.{IS_RUN}
use Rattle.svf_lex.specs.Bytes.{is_run}
use Rattle.svf_lex.proofs.lanes.RunByteRunOf.has.Goals as goal

table : (byte : ℕ) → byte < 256 → get_or IS_RUN byte false ≡ is_run byte
table byte lt = agree_below_at (λ b. get_or IS_RUN b false) is_run 256 byte refl lt

pub returns : goal.returns
returns c = ap (λ b. get_or IS_RUN b false) c.from.ensures ∙ table c.args.byte c.ranges.byte.fits
