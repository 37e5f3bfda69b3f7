-- Believed with the theorem on the top call.
-- Which sentence tells of a token that can't stand at its place, by that token.
use Rattle.std.specs.Prelude.{ℕ, Bool, ◌&&◌, ◌==◌, nat_eq, if◌then◌else◌, List, [], ◌∷◌, take, drop, unwrap_or, Option, Some, None, codes}
use Rattle.std.specs.Cmp.Lexicographic.{pointwise}
use Rattle.k_refusal.specs.declared.sentence.Sentence.{Sentence}
use Rattle.k_refusal.specs.declared.sentence.Sentence.TheVariants as says
use Rattle.k_refusal.specs.declared.sentence.StrayMark.TheVariants as stray_mark_says
use Rattle.k_refusal.specs.declared.sentence.StrayWord.TheVariants as stray_word_says
use Rattle.k_refusal.specs.Fronts.{behind_blanks, behind_closing, first_byte, is_digit, word_at}
use Rattle.k_refusal.specs.Tables.{accepted_words, left_out_words, look_up, marks}

-- a name or a number
abbrev pub of_name : ℕ → Sentence
of_name first = if is_digit first then says.StrayWord stray_word_says.StrayNumber else says.StrayWord stray_word_says.StrayName

-- a keyword that is accepted elsewhere, or another word
abbrev pub of_accepted : Option Sentence → ℕ → Sentence
of_accepted (Some sentence) first = sentence
of_accepted None first = of_name first

-- a keyword that is left out, or another word
abbrev pub of_left_out : Option Sentence → List ℕ → Sentence
of_left_out (Some sentence) word = sentence
of_left_out None word = of_accepted (look_up accepted_words word) (first_byte word)

-- the declarator of a pointer to an array: `(*`, and `[` behind the first `)`
abbrev pub is_array_pointer : List ℕ → Bool
is_array_pointer rest = first_byte rest == 40 && (first_byte (behind_blanks (drop 1 rest)) == 42 && first_byte (behind_blanks (behind_closing rest)) == 91)

-- a mark or a literal
abbrev pub of_other_mark : List ℕ → Sentence
of_other_mark rest =
    if is_array_pointer rest then says.StrayMark stray_mark_says.PointerToArray else unwrap_or (look_up marks (take 1 rest)) (says.StrayMark stray_mark_says.StrayToken)

-- the same behind this byte: `->` is no mark
abbrev pub of_mark : ℕ → List ℕ → Sentence
of_mark before rest = if before == 45 && first_byte rest == 62 then says.StrayMark stray_mark_says.Arrow else of_other_mark rest

-- a word behind this byte: `static` directly behind `[` is of a size
abbrev pub of_word : ℕ → List ℕ → Sentence
of_word before word =
    if before == 91 && pointwise nat_eq word (codes "static") then says.StrayWord stray_word_says.StaticSize else of_left_out (look_up left_out_words word) word

-- a token: a word, or else a mark or a literal behind this byte
abbrev pub of_token : ℕ → List ℕ → List ℕ → Sentence
of_token before rest [] = of_mark before rest
of_token before rest (b ∷ word) = of_word before (b ∷ word)

-- what stands at the place, behind this byte: the end of the source, or a token
abbrev pub of_syntax : ℕ → List ℕ → Sentence
of_syntax before [] = says.StrayWord stray_word_says.EndsEarly
of_syntax before (b ∷ rest) = of_token before (b ∷ rest) (word_at (b ∷ rest))
