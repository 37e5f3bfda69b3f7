-- Believed with the theorem on the top call.
-- The types that specifiers name (C17 6.7.1 to 6.7.3, 6.7.7).
use Rattle.std.specs.Prelude.{ℕ, ◌+◌, nat_eq, nat_le, Bool, true, ◌&&◌, if◌then◌else◌, List, [], ◌∷◌, Option, Some, None}
use Rattle.k_num.specs.declared.numbers.Kind.TheVariants.{I8, U8, I16, U16, I32, U32, I64, U64}
use Rattle.k_tree.specs.declared.tokens.word.Word.{Word}
use Rattle.k_tree.specs.declared.tokens.word.Word.TheVariants as word
use Rattle.k_tree.specs.contracts.tokens.word.WordPartialEq.TheImpl as words
use Rattle.k_types_meaning.specs.declared.types.Base.{Base}
use Rattle.k_types_meaning.specs.declared.types.Base.TheVariants as base
use Rattle.k_types_meaning.specs.declared.types.CType.{CType}
use Rattle.k_types_meaning.specs.declared.types.CType.TheVariants as ctype

-- how often a word stands in a list
abbrev pub count_word : Word → List Word → ℕ
count_word w [] = 0
count_word w (x ∷ xs) = if words.ghosts.eq x w then 1 + count_word w xs else count_word w xs

-- the words that name a type
abbrev pub type_words : List Word
type_words = word.Void ∷ word.Char ∷ word.Short ∷ word.Int ∷ word.Long ∷ word.Signed ∷ word.Unsigned ∷ []

-- two lists have each of these words equally often
abbrev pub agree_on : List Word → List Word → List Word → Bool
agree_on [] xs ys = true
agree_on (w ∷ ws) xs ys = nat_eq (count_word w xs) (count_word w ys) && agree_on ws xs ys

-- C17 6.7.2p2: the lists of words that name a type, in any order, with the type
abbrev pub lists : List (List Word × Base)
lists =
    (word.Void ∷ [], base.Void) ∷
    (word.Char ∷ [], base.Of I8) ∷
    (word.Signed ∷ word.Char ∷ [], base.Of I8) ∷
    (word.Unsigned ∷ word.Char ∷ [], base.Of U8) ∷
    (word.Short ∷ [], base.Of I16) ∷
    (word.Short ∷ word.Int ∷ [], base.Of I16) ∷
    (word.Signed ∷ word.Short ∷ [], base.Of I16) ∷
    (word.Signed ∷ word.Short ∷ word.Int ∷ [], base.Of I16) ∷
    (word.Unsigned ∷ word.Short ∷ [], base.Of U16) ∷
    (word.Unsigned ∷ word.Short ∷ word.Int ∷ [], base.Of U16) ∷
    (word.Int ∷ [], base.Of I32) ∷
    (word.Signed ∷ [], base.Of I32) ∷
    (word.Signed ∷ word.Int ∷ [], base.Of I32) ∷
    (word.Unsigned ∷ [], base.Of U32) ∷
    (word.Unsigned ∷ word.Int ∷ [], base.Of U32) ∷
    (word.Long ∷ [], base.Of I64) ∷
    (word.Long ∷ word.Int ∷ [], base.Of I64) ∷
    (word.Signed ∷ word.Long ∷ [], base.Of I64) ∷
    (word.Signed ∷ word.Long ∷ word.Int ∷ [], base.Of I64) ∷
    (word.Long ∷ word.Long ∷ [], base.Of I64) ∷
    (word.Long ∷ word.Long ∷ word.Int ∷ [], base.Of I64) ∷
    (word.Signed ∷ word.Long ∷ word.Long ∷ [], base.Of I64) ∷
    (word.Signed ∷ word.Long ∷ word.Long ∷ word.Int ∷ [], base.Of I64) ∷
    (word.Unsigned ∷ word.Long ∷ [], base.Of U64) ∷
    (word.Unsigned ∷ word.Long ∷ word.Int ∷ [], base.Of U64) ∷
    (word.Unsigned ∷ word.Long ∷ word.Long ∷ [], base.Of U64) ∷
    (word.Unsigned ∷ word.Long ∷ word.Long ∷ word.Int ∷ [], base.Of U64) ∷
    []

-- the type of the first list that has the type words of these specifiers
abbrev pub base_in : List (List Word × Base) → List Word → Option Base
base_in [] specs = None
base_in (entry ∷ entries) specs = if agree_on type_words entry.0 specs then Some entry.1 else base_in entries specs

-- C17 6.7.3p2: the specifiers say const
abbrev pub says_const : List Word → Bool
says_const specs = nat_eq (count_word word.Const specs) 1

-- C17 6.7.1: the specifiers say static
abbrev pub says_static : List Word → Bool
says_static specs = nat_le 1 (count_word word.Static specs)

-- the type that specifiers name; none where no list has them, or const stands in them twice
unfoldable pub base_of : List Word → Option Base
base_of specs = if nat_le (count_word word.Const specs) 1 then base_in lists specs else None

-- C17 6.7.6: the type of a `*` list behind a base, of which const says whether it is const: one `*` behind a kind at most
abbrev pub starred : Bool → Base → List Bool → Option CType
starred fixed base.Void [] = Some ctype.Void
starred fixed base.Void (star ∷ stars) = None
starred fixed (base.Of kind) [] = Some (ctype.Number kind)
starred fixed (base.Of kind) (star ∷ []) = Some (ctype.Pointer (record { kind = kind; dims = []; fixed = fixed }))
starred fixed (base.Of kind) (star ∷ other ∷ stars) = None

-- a base that may be none
abbrev pub starred_option : Bool → Option Base → List Bool → Option CType
starred_option fixed None stars = None
starred_option fixed (Some b) stars = starred fixed b stars

-- C17 6.7.7: the type that specifiers and stars name in a cast, behind sizeof, and as a function's result; static names none
abbrev pub type_named : List Word → List Bool → Option CType
type_named specs stars = if says_static specs then None else starred_option (says_const specs) (base_of specs) stars
