-- A text is judged in one way.
use Rattle.std.proofs.Common.{◌≡◌, ℕ, List, Result, Ok, Err, refl, sym, ◌∙◌, inl, inr, ◌⊎◌}
use Rattle.svf_words.specs.declared.fault.SvfFault.{SvfFault}
use Rattle.svf_parse.specs.Judging.{Said}
use Rattle.svf_parse.specs.Reading.{text_says}
use Rattle.svf_parse.specs.Spelling.{TextSpells, TextRefuses}
use Rattle.svf_parse.specs.Judged.{EachIsJudged, SpellsOne, RefusesOne, NeverBoth}
use Rattle.svf_parse.proofs.TextLaws.{text_found, text_again}
use Rattle.svf_parse.proofs.RefusalLaws.{text_refused, text_refused_again, no_long}

judged_by : (text : List ℕ) (says : Result (List Said) SvfFault) → text_says text ≡ says → ((ss : List Said) × TextSpells text ss) ⊎ ((f : SvfFault) × TextRefuses text f)
judged_by text (Ok ss) is = inl (ss, text_found text ss (no_long text ss is) is)
judged_by text (Err f) is = inr (f, text_refused text f is)

pub each_is_judged : EachIsJudged
each_is_judged text = judged_by text (text_says text) refl

abbrev saying : List Said → Result (List Said) SvfFault
saying ss = Ok ss

abbrev refusing : SvfFault → Result (List Said) SvfFault
refusing f = Err f

same_said : (ss ts : List Said) → saying ss ≡ saying ts → ss ≡ ts
same_said ss ts e = cc

same_refusal : (f g : SvfFault) → refusing f ≡ refusing g → f ≡ g
same_refusal f g e = cc

not_both : (ss : List Said) (f : SvfFault) → saying ss ≡ refusing f → ⊥
not_both ss f e = cc

pub spells_one : SpellsOne
spells_one text ss ts h k = same_said ss ts (sym (text_again text ss h) ∙ text_again text ts k)

pub refuses_one : RefusesOne
refuses_one text f g h k = same_refusal f g (sym (text_refused_again text f h) ∙ text_refused_again text g k)

pub never_both : NeverBoth
never_both text ss f h k = not_both ss f (sym (text_again text ss h) ∙ text_refused_again text f k)
