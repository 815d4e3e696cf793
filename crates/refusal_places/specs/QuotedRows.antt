-- Descriptions with the token at fault within their quotes, by the place that their refusal tells.
use Rattle.std.specs.Prelude.{◌≡◌, ℕ, List, [], ◌∷◌, ◌++◌, codes, None}
use Rattle.bsdl.specs.declared.fault.BsdlFault.TheVariants as bsdl
use Rattle.bsdl_sizes.specs.declared.spots.Spot.TheVariants.{Outside, Inside}
use Rattle.refusal_places.specs.QuotedPlaces.{unfit_place, spot_place}
use Rattle.bsdl_sizes.specs.declared.sizes.Refused.TheVariants as refused
use Rattle.refusal_places.specs.Places.{size_place, word_told}

abbrev pub quote : List ℕ
quote = 34 ∷ []

-- the value of INSTRUCTION_CAPTURE begins at 47, that of INSTRUCTION_OPCODE and INSTRUCTION_LENGTH at 46
abbrev pub capture : List ℕ → List ℕ
capture value = codes "attribute INSTRUCTION_CAPTURE of K : entity is " ++ value ++ codes ";"

-- two strings, joined by `&`
abbrev pub joined : List ℕ → List ℕ → List ℕ
joined a b = quote ++ a ++ quote ++ codes " & " ++ quote ++ b ++ quote

abbrev pub opcodes : List ℕ → List ℕ
opcodes value = codes "attribute INSTRUCTION_OPCODE of K : entity is " ++ value ++ codes ";"

pub record QuotedRows : Type 0 where
  pub bad_digits : unfit_place (capture (quote ++ codes "0Z" ++ quote)) 47 ≡ 48
  pub second_string : unfit_place (capture (joined (codes "0 ") (codes "1Z"))) 47 ≡ 55
  pub over_both : unfit_place (capture (joined (codes "0") (codes "1Z"))) 47 ≡ 48
  pub bad_byte : unfit_place (capture (quote ++ codes "01 #" ++ quote)) 47 ≡ 51
  pub ends_early : unfit_place (opcodes (quote ++ codes "BYPASS" ++ quote)) 46 ≡ 53
  pub ends_early_behind : unfit_place (opcodes (quote ++ codes "A (1" ++ quote ++ codes "&" ++ quote ++ quote)) 46 ≡ 54
  pub no_bracket : unfit_place (opcodes (quote ++ codes "A (1), B 0)" ++ quote)) 46 ≡ 56
  pub no_text : unfit_place (codes "attribute INSTRUCTION_LENGTH of K : entity is " ++ quote ++ codes "2" ++ quote) 46
      ≡ 46
  pub spot_in_the_text : spot_place (opcodes (joined (codes "A (1), ") (codes "B (0)"))) (Outside 10) ≡ 10
  pub spot_in_a_string : spot_place (opcodes (joined (codes "A (1), ") (codes "B (0)"))) (Inside 46 7) ≡ 59
  pub no_description : size_place refused.TooLarge [] ≡ None
  pub named : word_told (opcodes (quote ++ codes "EXTEST(0)" ++ quote)) 47 bsdl.BadLength ≡ codes " name EXTEST"
  pub unnamed : word_told (opcodes (quote ++ codes "EXTEST(0)" ++ quote)) 47 (bsdl.BadForm 47) ≡ []
  pub elsewhere : unfit_place (opcodes (quote ++ codes "BYPASS" ++ quote)) 10 ≡ 10
