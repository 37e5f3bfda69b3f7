-- Believed with a public law.
-- The constants that stand in a source are numbers of their kinds, and its objects begin with numbers of theirs.
use Rattle.std.specs.Prelude.{ℕ, ◌≡◌, Bool, true, ◌&&◌, IsTrue, ℤ, List, [], ◌∷◌, slice_get, Some, All}
use Rattle.k_num.specs.declared.initial.Initial.{Initial}
use Rattle.k_num.specs.declared.numbers.Kind.{Kind}
use Rattle.k_num.specs.declared.numbers.Kind.TheVariants.{I32}
use Rattle.k_num.specs.Kind.{is_held}
use Rattle.k_tree.specs.declared.tokens.TokenKind.{TokenKind}
use Rattle.k_tree.specs.declared.tokens.TokenKind.TheVariants as token
use Rattle.k_tree.specs.declared.tree.unit.Unit as source
use Rattle.k_tree.specs.Spelling.{spelling}
use Rattle.k_types_meaning.specs.declared.tree.unit.TObject.{TObject}
use Rattle.k_types_meaning.specs.declared.tree.unit.TUnit.{TUnit}
use Rattle.k_types_meaning.specs.declared.types.TType.{TType}
use Rattle.k_types_meaning.specs.declared.types.TType.TheVariants as ttype
use Rattle.k_evaluation_laws.specs.Kinds.{sort_of, kind_in}

-- all of these are so
abbrev pub all_stand : List Bool → Bool
all_stand [] = true
all_stand (s ∷ ss) = s && all_stand ss

-- a constant is a number of its kind
abbrev pub is_in_range : TType → ℤ → Bool
is_in_range ttype.Void z = true
is_in_range (ttype.Number kind) z = is_held kind z
is_in_range (ttype.Pointer target) z = true

-- C17 6.4.4.4p10: where a token is a character constant, an int holds its value
abbrev pub CharacterIsHeld : TokenKind → Type 0
CharacterIsHeld (token.Char value) = IsTrue (is_held I32 value)
CharacterIsHeld _ = Unit {0}

-- each character constant of a source is an int
abbrev pub CharactersOfUnitAreHeld : source.Unit → Type 0
CharactersOfUnitAreHeld unit = All CharacterIsHeld (spelling unit)

-- the numbers with which elements begin are of their kind
abbrev pub initials_in_range : Kind → List Initial → Bool
initials_in_range kind [] = true
initials_in_range kind (i ∷ items) = is_held kind i.number && initials_in_range kind items

-- each object of a source begins with numbers of its kind
abbrev pub ObjectsAreInRange : TUnit → Type 0
ObjectsAreInRange unit = (n : ℕ) (o : TObject) → slice_get unit.objects n ≡ Some o → initials_in_range (kind_in (sort_of o.of)) o.first ≡ true
