-- Believed with a public law.
-- *HTML*: texts in which markup stands only as elements of this page's own tags and attributes.
use Rattle.std.specs.Prelude.{ℕ, ◌≡◌, false, List, [], ◌∷◌, ◌++◌}
use Rattle.k_page.specs.Escapes.{is_mark, name_of}
use Rattle.k_page.specs.Markup.{element, valued}
use Rattle.k_page.specs.declared.markup.Attribute.{Attribute}
use Rattle.k_page.specs.declared.markup.Tag.{Tag}

-- A TEXT in which `&`, `<`, `>` and both quotes stand only in the names of such bytes: each byte is none of the five, or a name stands in its place
pub data IsText : List ℕ → Type 0 where
  ended : IsText []
  plain : (b : ℕ) (text : List ℕ) → is_mark b ≡ false → IsText text → IsText (b ∷ text)
  named : (b : ℕ) (text : List ℕ) → IsText text → IsText (name_of b ++ text)

-- attributes, each with a text as its value
pub data AreAttributes : List ℕ → Type 0 where
  none : AreAttributes []
  one : (a : Attribute) (value : List ℕ) → IsText value → AreAttributes (valued a value)
  both : (front back : List ℕ) → AreAttributes front → AreAttributes back → AreAttributes (front ++ back)

-- HTML: texts, and elements that are ended
pub data IsHtml : List ℕ → Type 0 where
  told : (text : List ℕ) → IsText text → IsHtml text
  inside : (t : Tag) (attributes inner : List ℕ) → AreAttributes attributes → IsHtml inner → IsHtml (element t attributes inner)
  beside : (front back : List ℕ) → IsHtml front → IsHtml back → IsHtml (front ++ back)
