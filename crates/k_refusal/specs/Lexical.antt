-- Believed with the theorem on the top call.
-- Which sentence tells of a fault of the tokens, by what stands at its place.
use Rattle.std.specs.Prelude.{ℕ, Bool, ◌&&◌, ◌||◌, not, nat_le, nat_eq, ◌==◌, if◌then◌else◌, List, drop, unwrap_or, codes}
use Rattle.std.specs.List.{list_any}
use Rattle.std.specs.Cmp.Lexicographic.{pointwise}
use Rattle.k_refusal.specs.declared.sentence.Sentence.{Sentence}
use Rattle.k_refusal.specs.declared.sentence.Sentence.TheVariants as says
use Rattle.k_refusal.specs.declared.sentence.Directive.TheVariants as directive_says
use Rattle.k_refusal.specs.declared.sentence.Header.TheVariants as header_says
use Rattle.k_refusal.specs.declared.sentence.Token.TheVariants as token_says
use Rattle.k_refusal.specs.Fronts.{behind_blanks, behind_word, first_byte, word_at}
use Rattle.k_refusal.specs.Tables.{directives, headers, look_up}

-- a byte that begins no token: `.`, a backslash or the `?` of the trigraph for one, `#`, a byte of 128 or more, or another one
abbrev pub of_byte : ℕ → Sentence
of_byte b =
    if b == 46 then says.Token token_says.Member else if b == 92 || b == 63 then says.Token token_says.Backslash else if b == 35 then says.Token token_says.LateHash
    else if nat_le 128 b then says.Token token_says.NotAscii else says.Token token_says.StrayByte

-- a literal that is not closed: a string, or a character constant
abbrev pub of_literal : ℕ → Sentence
of_literal b = if b == 34 then says.Token token_says.OpenString else says.Token token_says.NotOneCharacter

-- a letter stands in a word, in either case
abbrev pub has_letter : ℕ → ℕ → List ℕ → Bool
has_letter small capital word = list_any (λ b. b == small || b == capital) word

-- a number with an exponent: with an e, and with no x
abbrev pub has_exponent : List ℕ → Bool
has_exponent word = has_letter 101 69 word && not (has_letter 120 88 word)

-- a number with a point or an exponent
abbrev pub has_point : List ℕ → Bool
has_point rest = first_byte (behind_word rest) == 46 || has_exponent (word_at rest)

-- a number
abbrev pub of_number : List ℕ → Sentence
of_number rest = if has_point rest then says.Token token_says.PointInNumber else says.Token token_says.NoConstant

-- a macro, by what stands behind `define`: it has parameters where `(` stands directly behind its name
abbrev pub of_macro : List ℕ → Sentence
of_macro behind = if first_byte (behind_word (behind_blanks behind)) == 40 then says.Directive directive_says.MacroParameters else says.Directive directive_says.DefineForm

-- a directive, by what stands behind its `#`
abbrev pub of_directive : List ℕ → Sentence
of_directive behind =
    if pointwise nat_eq (word_at behind) (codes "define") then of_macro (behind_word behind)
    else unwrap_or (look_up directives (word_at behind)) (says.Directive directive_says.OtherDirective)

-- a header
abbrev pub of_header : List ℕ → Sentence
of_header rest = if first_byte rest == 34 then says.Header header_says.OwnHeader else unwrap_or (look_up headers (word_at (drop 1 rest))) (says.Header header_says.OtherHeader)
