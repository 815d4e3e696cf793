-- Each text says what an independent reader says of it.
use Rattle.std.proofs.Common.{◌≡◌, refl}
use Rattle.bsdl.specs.Judging.{text_says}
use Rattle.bsdl_text.specs.Cutting.{cut}
use Rattle.bsdl_text.specs.Reading.{chain, further}
use Rattle.bsdl_values.specs.InstructionValues.{digits_on}
use Rattle.bsdl_entity.specs.Attributes.{attribute_of}
use Rattle.bsdl_values.specs.Passing.{past_closing, past_semi}
use Rattle.bsdl_entity.specs.Entity.{items}
use Rattle.worked_examples.specs.Texts as text
use Rattle.worked_examples.specs.Expected as expected

pub row_k : text_says text.k ≡ expected.k
unfolding cut chain further items attribute_of past_closing past_semi digits_on
row_k = refl

pub row_k_lower : text_says text.k_lower ≡ expected.k_lower
unfolding cut chain further items attribute_of past_closing past_semi digits_on
row_k_lower = refl

pub row_kt : text_says text.kt ≡ expected.kt
unfolding cut chain further items attribute_of past_closing past_semi digits_on
row_kt = refl

pub row_p : text_says text.p ≡ expected.p
unfolding cut chain further items attribute_of past_closing past_semi digits_on
row_p = refl

pub row_ku : text_says text.ku ≡ expected.ku
unfolding cut chain further items attribute_of past_closing past_semi digits_on
row_ku = refl

pub row_kuc : text_says text.kuc ≡ expected.kuc
unfolding cut chain further items attribute_of past_closing past_semi digits_on
row_kuc = refl

pub row_no_clock : text_says text.no_clock ≡ expected.no_clock
unfolding cut chain further items attribute_of past_closing past_semi digits_on
row_no_clock = refl

pub row_bypass_twice : text_says text.bypass_twice ≡ expected.bypass_twice
unfolding cut chain further items attribute_of past_closing past_semi digits_on
row_bypass_twice = refl

pub row_idcode_ones : text_says text.idcode_ones ≡ expected.idcode_ones
unfolding cut chain further items attribute_of past_closing past_semi digits_on
row_idcode_ones = refl

pub row_sample_1x : text_says text.sample_1x ≡ expected.sample_1x
unfolding cut chain further items attribute_of past_closing past_semi digits_on
row_sample_1x = refl

pub row_length_3 : text_says text.length_3 ≡ expected.length_3
unfolding cut chain further items attribute_of past_closing past_semi digits_on
row_length_3 = refl

pub row_capture_x1 : text_says text.capture_x1 ≡ expected.capture_x1
unfolding cut chain further items attribute_of past_closing past_semi digits_on
row_capture_x1 = refl

pub row_row_tms : text_says text.row_tms ≡ expected.row_tms
unfolding cut chain further items attribute_of past_closing past_semi digits_on
row_row_tms = refl

pub row_capture_10 : text_says text.capture_10 ≡ expected.capture_10
unfolding cut chain further items attribute_of past_closing past_semi digits_on
row_capture_10 = refl

pub row_id_0 : text_says text.id_0 ≡ expected.id_0
unfolding cut chain further items attribute_of past_closing past_semi digits_on
row_id_0 = refl

pub row_boundary_4 : text_says text.boundary_4 ≡ expected.boundary_4
unfolding cut chain further items attribute_of past_closing past_semi digits_on
row_boundary_4 = refl

pub row_cut_100 : text_says text.cut_100 ≡ expected.cut_100
unfolding cut chain further items attribute_of past_closing past_semi digits_on
row_cut_100 = refl

pub row_hash : text_says text.hash ≡ expected.hash
unfolding cut chain further items attribute_of past_closing past_semi digits_on
row_hash = refl

pub row_whole : text_says text.whole ≡ expected.whole
unfolding cut chain further items attribute_of past_closing past_semi digits_on
row_whole = refl
