use Rattle.std.proofs.Common.{◌∷◌, [], sym, ◌∙◌, arith}
use Rattle.scan_vectors.proofs.Listing.{keep-more}
use Rattle.play_explained.proofs.Explanations.{keep_full}
use Rattle.play_explained.proofs.explaining.keep.Goals as goal

pub returns-then-len-most : goal.returns-then-len-most
returns-then-len-most c =
    sym (keep_full c.args.most c.args.list.now.items (c.args.more ∷ []) c.requires.listed (omega (arith, c.if-len-most.true, c.len.ensures.value)))

pub returns : goal.returns
returns c =
    c.push.ensures.items ∙ sym (keep-more c.args.most c.args.list.now.items c.args.more (omega (arith, c.if-len-most.false, c.len.ensures.value)))
