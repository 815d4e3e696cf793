use Rattle.std.proofs.Common.{◌∙◌, ℕ, List, ap}
use Rattle.bsdl_text.specs.NumberView.{value}
use Rattle.bsdl_values.specs.InstructionValues.{pattern_of}
use Rattle.bsdl_rules.specs.Lengths.{has_len}
use Rattle.bsdl_sizes.proofs.lengths.capture_has_len.Goals as goal

pub returns : goal.returns
returns c =
    c.has_len.ensures (value c.args.len) c.size.ensures ∙ ap (λ (ds : List ℕ). has_len (value c.args.len) (pattern_of ds)) c.deref.ensures.value
