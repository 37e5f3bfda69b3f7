-- Believed with the theorem on the top call.
-- Which sentence tells of a fault in names and types, by what stands at its place.
use Rattle.std.specs.Prelude.{ℕ, Bool, false, ◌&&◌, ◌||◌, ◌==◌, nat_eq, if◌then◌else◌, List, [], ◌∷◌, drop, unwrap_or, Option, Some, None, codes}
use Rattle.std.specs.Cmp.Lexicographic.{pointwise}
use Rattle.k_refusal.specs.declared.sentence.Sentence.{Sentence}
use Rattle.k_refusal.specs.declared.sentence.Sentence.TheVariants as says
use Rattle.k_refusal.specs.declared.sentence.Kinds.TheVariants as kinds_says
use Rattle.k_refusal.specs.declared.sentence.Library.TheVariants as library_says
use Rattle.k_refusal.specs.declared.sentence.Name.TheVariants as name_says
use Rattle.k_refusal.specs.declared.sentence.Usage.TheVariants as usage_says
use Rattle.k_refusal.specs.Fronts.{behind_blanks, behind_word, first_byte, in_word, is_blank, is_digit, word_at}
use Rattle.k_refusal.specs.Tables.{library, look_up, more_library, words_of_kinds}

-- a name that the source does not declare: one of the library's, or another
abbrev pub of_unknown : Option Sentence → List ℕ → Sentence
of_unknown (Some sentence) name = sentence
of_unknown None name = unwrap_or (look_up more_library name) (says.Name name_says.UnknownName)

-- the same, with the text from five bytes before it on: NULL within `time(NULL)` is told as the time
abbrev pub of_unknown_behind : List ℕ → List ℕ → Sentence
of_unknown_behind call name =
    if pointwise nat_eq name (codes "NULL") && pointwise nat_eq (word_at call) (codes "time") then says.Library library_says.RandomOrTime
    else of_unknown (look_up library name) name

-- how many stars stand in a row, one more byte behind them: none, one, or two and more
abbrev pub star_more : ℕ → ℕ → ℕ
star_more stars b = if b == 42 then (if stars == 0 then 1 else 2) else if is_blank b then stars else 0

-- how many stars stand in a row at the end of a text, blanks between them and behind them left aside
abbrev pub stars_at_end : ℕ → List ℕ → ℕ
stars_at_end stars [] = stars
stars_at_end stars (b ∷ text) = stars_at_end (star_more stars b) text

-- an initialiser of 0
abbrev pub is_zero : List ℕ → Bool
is_zero behind = first_byte behind == 61 && pointwise nat_eq (word_at (behind_blanks (drop 1 behind))) (codes "0")

-- a byte directly behind the name of a declarator that is no array: `;`, `,` or `=`
abbrev pub is_behind_declarator : ℕ → Bool
is_behind_declarator b = b == 59 || (b == 44 || b == 61)

-- a declarator behind one star, by what stands behind its name
abbrev pub of_pointer : List ℕ → Sentence
of_pointer behind =
    if first_byte behind == 91 then says.Kinds kinds_says.ArrayOfPointers else if is_zero behind then says.Library library_says.NullPointer
    else if is_behind_declarator (first_byte behind) then says.Kinds kinds_says.PointerElsewhere else says.Kinds kinds_says.KindsOther

-- a byte behind which a declaration may begin: `;`, `{` or `}`
abbrev pub ends_before : ℕ → Bool
ends_before b = b == 59 || (b == 123 || b == 125)

-- what stands behind the last such byte of a text, else this
abbrev pub behind_last : List ℕ → List ℕ → List ℕ
behind_last found [] = found
behind_last found (b ∷ text) = behind_last (if ends_before b then text else found) text

-- the declaration that is open at the end of a text begins with `static`
abbrev pub is_static : List ℕ → Bool
is_static back = pointwise nat_eq (word_at (behind_blanks (behind_last back back))) (codes "static")

-- the first byte of a number or of a character constant, at which types do not fit in braces alone
abbrev pub begins_item : ℕ → Bool
begins_item b = is_digit b || b == 39

-- an operator, by its first byte and the next one
abbrev pub of_operator : ℕ → ℕ → Sentence
of_operator first next =
    if first == 61 then says.Kinds kinds_says.SidesDiffer
    else if first == 33 then (if next == 61 then says.Kinds kinds_says.SidesDiffer else says.Kinds kinds_says.NotOfPointer) else says.Kinds kinds_says.KindsOther

-- types that do not fit at a place behind no star
abbrev pub of_place : List ℕ → List ℕ → Sentence
of_place back rest =
    if begins_item (first_byte rest) then says.Kinds kinds_says.ItemOfBraces
    else if in_word (first_byte rest) && is_static back then says.Kinds kinds_says.StaticVariable
    else of_operator (first_byte rest) (first_byte (drop 1 rest))

-- types that do not fit at a place behind so many stars
abbrev pub of_stars : ℕ → List ℕ → List ℕ → Sentence
of_stars stars back rest =
    if stars == 2 then says.Kinds kinds_says.PointerToPointer else if stars == 1 then of_pointer (behind_blanks (behind_word rest))
    else of_place back rest

-- what stands behind `const` and blanks, where `const` stands first
abbrev pub behind_const : List ℕ → List ℕ
behind_const text = if pointwise nat_eq (word_at text) (codes "const") then behind_blanks (behind_word text) else text

-- the type of a pointer to void stands first: `void *`, `const void *` or `void const *`
abbrev pub is_void_pointer : List ℕ → Bool
is_void_pointer text =
    pointwise nat_eq (word_at (behind_const text)) (codes "void")
    && first_byte (behind_const (behind_blanks (behind_word (behind_const text)))) == 42

-- types that do not fit, by the word at the place and by what stands round it
unfoldable pub of_kinds : List ℕ → List ℕ → Sentence
of_kinds back rest =
    if is_void_pointer rest then says.Kinds kinds_says.PointerToVoid
    else unwrap_or (look_up words_of_kinds (word_at rest)) (of_stars (stars_at_end 0 back) back rest)

-- what is no place, by the operator
abbrev pub of_no_place : ℕ → Sentence
of_no_place first = if first == 38 then says.Usage usage_says.AddressOf else says.Usage usage_says.NotAPlace

-- `%s` stands in a text
abbrev pub has_text_piece : List ℕ → Bool
has_text_piece [] = false
has_text_piece (b ∷ text) = (b == 37 && first_byte text == 115) || has_text_piece text

-- a format that does not fit, or none, by what stands from the call's name on
abbrev pub of_format : List ℕ → Sentence
of_format rest =
    if pointwise nat_eq (word_at rest) (codes "puts") then says.Usage usage_says.PutsOfArray
    else if has_text_piece rest then says.Usage usage_says.TextInFormat else says.Usage usage_says.BadFormat
