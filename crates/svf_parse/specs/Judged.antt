-- Laws over every text, which public functions ensure.
use Rattle.std.specs.Prelude.{◌≡◌, ℕ, ◌⊎◌, List}
use Rattle.svf_words.specs.declared.fault.SvfFault.{SvfFault}
use Rattle.svf_parse.specs.Judging.{Said}
use Rattle.svf_parse.specs.Spelling.{TextSpells, TextRefuses}

-- each text spells statements, or has a first refusal
abbrev pub EachIsJudged : Type 0
EachIsJudged = (text : List ℕ) → ((ss : List Said) × TextSpells text ss) ⊎ ((f : SvfFault) × TextRefuses text f)

-- it spells one list of statements at most
abbrev pub SpellsOne : Type 0
SpellsOne = (text : List ℕ) (ss ts : List Said) → TextSpells text ss → TextSpells text ts → ss ≡ ts

-- it has one first refusal at most
abbrev pub RefusesOne : Type 0
RefusesOne = (text : List ℕ) (f g : SvfFault) → TextRefuses text f → TextRefuses text g → f ≡ g

-- and never both
abbrev pub NeverBoth : Type 0
NeverBoth = (text : List ℕ) (ss : List Said) (f : SvfFault) → TextSpells text ss → ¬ TextRefuses text f
