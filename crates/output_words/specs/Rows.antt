-- Words worked out.
use Rattle.std.specs.Prelude.{◌≡◌, true, false, [], ◌∷◌, codes}
use Rattle.output_words.specs.Digits.{digits}
use Rattle.output_words.specs.Lines.{position_line, total_line}
use Rattle.output_words.specs.Names.{shown}

pub record WordRows : Type 0 where
  pub line_feed_in_a_name : shown (codes "a\nb") ≡ codes "a\\x0ab"
  pub backslash_in_a_name : shown (codes "a\\x0ab") ≡ codes "a\\x5cx0ab"
  pub delete_in_a_name : shown (127 ∷ []) ≡ codes "\\x7f"
  pub other_bytes_stay : shown (195 ∷ 164 ∷ 32 ∷ []) ≡ 195 ∷ 164 ∷ 32 ∷ []
  pub first_high_control_in_a_name : shown (97 ∷ 194 ∷ 128 ∷ 98 ∷ []) ≡ codes "a\\xc2\\x80b"
  pub last_high_control_in_a_name : shown (194 ∷ 159 ∷ 10 ∷ []) ≡ codes "\\xc2\\x9f\\x0a"
  pub blank_behind_them_stays : shown (194 ∷ 160 ∷ []) ≡ 194 ∷ 160 ∷ []
  pub same_byte_elsewhere_stays : shown (195 ∷ 155 ∷ []) ≡ 195 ∷ 155 ∷ []
  pub highest_bit_first : digits (false ∷ true ∷ true ∷ []) ≡ codes "110"
  pub position : position_line (record { line = 3; column = 1 }) ≡ codes "at line 3 column 1\n"
  pub total : total_line 3 ≡ codes "failures 3\n"
