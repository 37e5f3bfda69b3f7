-- The worked lines compute.
use Rattle.std.proofs.Common.{refl}
use Rattle.std.specs.Fmt.{digits}
use Rattle.std.specs.Float.{is_sign_negative}
use Rattle.std.specs.Float.Ieee.{of_bits}
use Rattle.k_real.specs.Texts as real
use Rattle.k_shaped.specs.Letters.{is_signed, is_based, is_whole, is_fixed, is_scientific, is_real, is_capital, is_number}
use Rattle.k_shaped.specs.Padding.{padded}
use Rattle.k_shaped.specs.Texts.{sign, prefix, some_digits, based_digits, raised, at_least, number_text, decimal_text, based_text, byte_text, real_digits, in_case, real_text, text}
use Rattle.k_shaped.specs.Accepted.{is_small, is_letter, have_flags, has_precision, has_length, stands_alone, is_accepted}
use Rattle.k_shaped.specs.Spelling.{is_flag}
use Rattle.k_shaped.specs.Reading.{number, flagged, behind_flags, behind_digits, precision, behind_precision, begins, length_from, length_at, bytes_of, shape_of, kept, ended, with_length, read}
use Rattle.k_shaped.specs.ShapedLaws.{WorkedLines}

pub worked_lines : WorkedLines
unfolding digits is_sign_negative of_bits real.digits real.count_within real.unsigned_text is_signed is_based is_whole is_fixed is_scientific is_real is_capital is_number padded sign prefix some_digits based_digits raised at_least number_text decimal_text based_text byte_text real_digits in_case real_text text is_small is_letter have_flags has_precision has_length stands_alone is_accepted is_flag number flagged behind_flags behind_digits precision behind_precision begins length_from length_at bytes_of shape_of kept ended with_length read
worked_lines = (refl, refl, refl, refl, refl, refl, refl, refl, refl, refl, refl, refl, refl, refl, refl, refl)
