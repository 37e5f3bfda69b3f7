-- A text has as many bytes as its width says, or more.
use Rattle.std.specs.Prelude.{◌≤◌, ℕ, Bool, true, false, ◌==◌, if◌then◌else◌, List, length, ℤ}
use Rattle.std.proofs.Common.{arith, rules}
use Rattle.std.proofs.lemmas.List.{length-append, length-replicate}
use Rattle.k_num.specs.Kind.{remainder}
use Rattle.k_num.specs.declared.numbers.Kind.TheVariants.{U8, U64}
use Rattle.k_shaped.specs.declared.shape.Shape.{Shape}
use Rattle.k_shaped.specs.Letters.{is_based, is_real}
use Rattle.k_shaped.specs.Padding.{padded}
use Rattle.k_shaped.specs.Texts.{number_text, decimal_text, based_text, byte_text, real_text, text, string_text}
use Rattle.k_shaped.specs.ShapedLaws.{NumbersAreWide, StringsAreWide}

pub padded_width : (left zeros : Bool) (width : ℕ) (head body : List ℕ) → width ≤ length (padded left zeros width head body)
unfolding padded
padded_width true zeros width head body = simp (length-append, length-replicate) (omega arith)
padded_width false true width head body = simp (length-append, length-replicate) (omega arith)
padded_width false false width head body = simp (length-append, length-replicate) (omega arith)

chosen : (P : List ℕ → Type 0) (b : Bool) (x y : List ℕ) → P x → P y → P (if b then x else y)
chosen P true x y p q = p
chosen P false x y p q = q

real_width : (s : Shape) (a : ℕ) → s.width ≤ length (real_text s a)
unfolding real_text
real_width s a = search (rules, padded_width)

byte_width : (s : Shape) (a : ℕ) → s.width ≤ length (byte_text s a)
unfolding byte_text
byte_width s a = search (rules, padded_width)

number_width : (s : Shape) (head : List ℕ) (many : ℕ) (ds : List ℕ) → s.width ≤ length (number_text s head many ds)
unfolding number_text
number_width s head many ds = search (rules, padded_width)

based_width : (s : Shape) (a : ℕ) → s.width ≤ length (based_text s a)
unfolding based_text
based_width s a = search (rules, number_width)

decimal_width : (s : Shape) (a : ℤ) → s.width ≤ length (decimal_text s a)
unfolding decimal_text
decimal_width s a = search (rules, number_width)

pub numbers_are_wide : NumbersAreWide
unfolding text
numbers_are_wide s a =
    let P : List ℕ → Type 0 = λ t. s.width ≤ length t in
    let whole : P (if is_based s.conversion then based_text s (remainder U64 a) else decimal_text s a) =
    chosen P (is_based s.conversion) (based_text s (remainder U64 a)) (decimal_text s a) (based_width s (remainder U64 a)) (decimal_width s a) in
    let small : P (if s.conversion == 99 then byte_text s (remainder U8 a) else if is_based s.conversion then based_text s (remainder U64 a) else decimal_text s a) =
    chosen P (s.conversion == 99) (byte_text s (remainder U8 a)) (if is_based s.conversion then based_text s (remainder U64 a) else decimal_text s a) (byte_width s (remainder U8 a)) whole in
    chosen P (is_real s.conversion) (real_text s (remainder U64 a)) (if s.conversion == 99 then byte_text s (remainder U8 a) else if is_based s.conversion then based_text s (remainder U64 a) else decimal_text s a)
    (real_width s (remainder U64 a)) small

pub strings_are_wide : StringsAreWide
unfolding string_text
strings_are_wide s bytes = search (rules, padded_width)
