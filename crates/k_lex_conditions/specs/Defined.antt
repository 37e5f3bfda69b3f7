-- For contracts between crates: nobody has to believe it.
-- `defined` in the line of a condition, before macros are replaced (C17 6.10.1p1).
use Rattle.std.specs.Prelude.{ℕ, ◌≡◌, Bool, false, nat_eq, if◌then◌else◌, IsTrue, IsFalse, List, [], ◌∷◌, Option, Some, None, codes}
use Rattle.std.specs.Cmp.Lexicographic.{pointwise}
use Rattle.k_num.specs.declared.numbers.Kind.TheVariants.{I32}
use Rattle.k_num.specs.declared.place.Place.{Place}
use Rattle.k_tree.specs.declared.tokens.Token.{Token}
use Rattle.k_tree.specs.declared.tokens.TokenKind.{TokenKind}
use Rattle.k_tree.specs.declared.tokens.TokenKind.TheVariants as token
use Rattle.k_tree.specs.declared.tokens.mark.Mark.TheVariants as mark

-- the name `defined`
abbrev pub is_defined : TokenKind → Bool
is_defined (token.Name name) = pointwise nat_eq name (codes "defined")
is_defined _ = false

-- whether `defined` finds this name, where it finds those; no keyword is found, and other tokens are no names
abbrev pub found : (List ℕ → Bool) → TokenKind → Option Bool
found names (token.Name name) = Some (names name)
found names (token.Word word) = Some false
found names _ = None

-- 1 or 0, at the place of the name
abbrev pub number_at : Bool → Place → Token
number_at known place = record { what = token.Number I32 (if known then 1 else 0); place = place }

-- each `defined NAME` and `defined(NAME)` of the tokens is 1 or 0 in the others, and what else stands there is kept
pub data Replaced (names : List ℕ → Bool) : List Token → List Token → Type 0 where
  nothing : Replaced names [] []
  kept : (t : Token) (ts us : List Token) → IsFalse (is_defined t.what) → Replaced names ts us → Replaced names (t ∷ ts) (t ∷ us)
  bare : (d t : Token) (known : Bool) (ts us : List Token) → IsTrue (is_defined d.what) → found names t.what ≡ Some known
      → Replaced names ts us → Replaced names (d ∷ t ∷ ts) (number_at known t.place ∷ us)
  parted : (d l t r : Token) (known : Bool) (ts us : List Token) → IsTrue (is_defined d.what) → l.what ≡ token.Mark mark.LeftParen
      → found names t.what ≡ Some known → r.what ≡ token.Mark mark.RightParen
      → Replaced names ts us → Replaced names (d ∷ l ∷ t ∷ r ∷ ts) (number_at known t.place ∷ us)

-- the tokens with each `defined` replaced, or that one has not its form
abbrev pub IsReplaced : (List ℕ → Bool) → List Token → Option (List Token) → Type 0
IsReplaced names ts (Some us) = Replaced names ts us
IsReplaced names ts None = (us : List Token) → Replaced names ts us → ⊥
