-- Pieces of a page that are text, attributes or HTML.
use Rattle.std.proofs.Common.{ℕ, ℤ, pos, negsuc, zero, suc, ◌+◌, ◌/◌, ◌%◌, ◌<◌, ◌≡◌, ◌==◌, Bool, true, false, not, ◌&&◌, if◌then◌else◌, List, [], ◌∷◌, ◌++◌, Option, Some, None, append-nil, arith, refl, sym, ap, ◌∙◌, subst}
use Rattle.std.proofs.lemmas.Bool.{and_parts, false≢true}
use Rattle.std.proofs.lemmas.Bool.Decides.{nat_tests}
use Rattle.std.specs.Fmt.{decimal, digit_glyph, digits, digits_onto, signed_decimal}
use Rattle.std.specs.List.{flat_map, list_all}
use Rattle.k_optab.specs.declared.region.Region.{Region}
use Rattle.k_selfpar.specs.declared.context.Context.{Context}
use Rattle.k_text.specs.Texts.{written}
use Rattle.k_page.specs.Escapes.{is_mark}
use Rattle.k_page.specs.Html.{AreAttributes, IsHtml, IsText, beside, ended, inside, none, one, plain, told}
use Rattle.k_page.specs.Lists.{written_of}
use Rattle.k_page.specs.Markup as markup
use Rattle.k_page.specs.Markup.{bare, begun, behind_attributes, element, started, started_with, texted, valued, with_one}
use Rattle.k_page.specs.declared.markup.Attribute.{Attribute}
use Rattle.k_page.specs.declared.markup.Tag.{Tag}
use Rattle.k_page.proofs.Escaping.{text_beside}

-- no byte of a text is a mark
abbrev pub has_no_mark : List ℕ → Bool
has_no_mark [] = true
has_no_mark (b ∷ text) = not (is_mark b) && has_no_mark text

not_mark : (b : ℕ) (is : Bool) → is_mark b ≡ is → not is ≡ true → is_mark b ≡ false
not_mark b true is other = absurd (false≢true other)
not_mark b false is other = is

-- so it is text
pub text_of : (text : List ℕ) → has_no_mark text ≡ true → IsText text
text_of [] is = ended
text_of (b ∷ text) is =
    let parts = and_parts (not (is_mark b)) (has_no_mark text) is in plain b text (not_mark b (is_mark b) refl parts.0) (text_of text parts.1)

-- a digit is no mark
digit_plain : (d : ℕ) → d < 10 → is_mark (digit_glyph false d) ≡ false
digit_plain d low = let is : digit_glyph false d ≡ 48 + d = grind (arith, nat_tests) in grind (arith, nat_tests)

digits_by : (k n : ℕ) (is : Bool) (acc : List ℕ) → IsText (digit_glyph false (n % 10) ∷ acc) → IsText (digits_onto k 10 false (n / 10) (digit_glyph false (n % 10) ∷ acc))
    → IsText (if is then digit_glyph false (n % 10) ∷ acc else digits_onto k 10 false (n / 10) (digit_glyph false (n % 10) ∷ acc))
digits_by k n true acc last more = last
digits_by k n false acc last more = more

digits_text : (k n : ℕ) (acc : List ℕ) → IsText acc → IsText (digits_onto k 10 false n acc)
digits_text zero n acc is = is
digits_text (suc k) n acc is =
    let low : n % 10 < 10 = omega arith in
    let last : IsText (digit_glyph false (n % 10) ∷ acc) = plain (digit_glyph false (n % 10)) acc (digit_plain (n % 10) low) is in
    digits_by k n (n / 10 == 0) acc last (digits_text k (n / 10) (digit_glyph false (n % 10) ∷ acc) last)

-- numbers are text
pub number_text : (n : ℕ) → IsText (decimal n)
unfolding digits
number_text n = digits_text 64 n [] ended

pub signed_text : (z : ℤ) → IsText (signed_decimal z)
signed_text (pos n) = number_text n
signed_text (negsuc n) = plain 45 (decimal (suc n)) refl (number_text (suc n))

-- ELEMENTS
pub bare_html : (t : Tag) (inner : List ℕ) → IsHtml inner → IsHtml (bare t inner)
unfolding started
bare_html t inner is = subst IsHtml (ap (λ front. front ++ behind_attributes ++ inner ++ markup.ended t) (append-nil (begun t))) (inside t [] inner none is)

pub one_html : (t : Tag) (a : Attribute) (value inner : List ℕ) → IsText value → IsHtml inner → IsHtml (with_one t a value inner)
unfolding started_with
one_html t a value inner text is = inside t (valued a value) inner (one a value text) is

pub texted_html : (t : Tag) (words : List ℕ) → IsText words → IsHtml (texted t words)
unfolding texted
texted_html t words is = bare_html t words (told words is)

-- lists of pieces, and pieces of what may be missing
pub each_html : {X : Type 0} (f : X → List ℕ) → ((x : X) → IsHtml (f x)) → (xs : List X) → IsHtml (flat_map f xs)
each_html f each [] = told [] ended
each_html f each (x ∷ xs) = beside (f x) (flat_map f xs) (each x) (each_html f each xs)

pub each_text : {X : Type 0} (f : X → List ℕ) → ((x : X) → IsText (f x)) → (xs : List X) → IsText (flat_map f xs)
each_text f each [] = ended
each_text f each (x ∷ xs) = text_beside (f x) (flat_map f xs) (each x) (each_text f each xs)

pub region_html : (f : Region → List ℕ) → ((r : Region) → IsHtml (f r)) → (o : Option Region) → IsHtml (written f o)
region_html f each None = told [] ended
region_html f each (Some r) = each r

pub context_html : (f : Context → List ℕ) → ((c : Context) → IsHtml (f c)) → (o : Option Context) → IsHtml (written_of f o)
context_html f each None = told [] ended
context_html f each (Some c) = each c
