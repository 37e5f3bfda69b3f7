-- What a reader makes of texts and of HTML.
use Rattle.std.proofs.Common.{ℕ, zero, suc, ◌≡◌, ◌==◌, Bool, true, false, if◌then◌else◌, List, [], ◌∷◌, ◌++◌, take, codes, arith, refl, ap, ◌∙◌}
use Rattle.std.proofs.lemmas.Bool.Decides.{nat_tests}
use Rattle.std.proofs.lemmas.Grind.{common_steps}
use Rattle.k_page.specs.Escapes.{is_mark, name_of}
use Rattle.k_page.specs.Html.{AreAttributes, IsText, beside, both, ended, inside, named, none, one, plain, told}
use Rattle.k_page.specs.Laws.{HtmlIsEnded, TextIsNoMarkup}
use Rattle.k_page.specs.Markup as markup
use Rattle.k_page.specs.Markup.{attribute_name, before_value, begun, behind_attributes, behind_value, element, tag_name, valued}
use Rattle.k_page.specs.Reader.{Stand, in_tag, in_text, in_value, read, step}
use Rattle.k_page.specs.declared.markup.Attribute.{Attribute}
use Rattle.k_page.specs.declared.markup.Attribute.TheVariants as attribute
use Rattle.k_page.specs.declared.markup.Tag.{Tag}
use Rattle.k_page.specs.declared.markup.Tag.TheVariants as tag

read_append : (s : Stand) (a b : List ℕ) → read s (a ++ b) ≡ read (read s a) b
read_append s [] b = refl
read_append s (x ∷ a) b = read_append (step s x) a b

-- each byte keeps the reader where it stands
AllKeep : Stand → List ℕ → Type 0
AllKeep s [] = Unit {0}
AllKeep s (b ∷ text) = (step s b ≡ s) × AllKeep s text

keep_append : (s : Stand) (a b : List ℕ) → AllKeep s a → AllKeep s b → AllKeep s (a ++ b)
unfolding AllKeep
keep_append s [] b x y = y
keep_append s (c ∷ a) b x y = (x.0, keep_append s a b x.1 y)

stays : (s : Stand) (text : List ℕ) → AllKeep s text → (k : ℕ) → read s (take k text) ≡ s
unfolding AllKeep
stays s [] keep zero = refl
stays s [] keep (suc k) = refl
stays s (b ∷ text) keep zero = refl
stays s (b ∷ text) keep (suc k) = ap (λ other. read other (take k text)) keep.0 ∙ stays s text keep.1 k

whole : (s : Stand) (text : List ℕ) → AllKeep s text → read s text ≡ s
unfolding AllKeep
whole s [] keep = refl
whole s (b ∷ text) keep = ap (λ other. read other text) keep.0 ∙ whole s text keep.1

text_step : (b : ℕ) → is_mark b ≡ false → step in_text b ≡ in_text
text_step b free = let other : b == 60 ≡ false = grind (arith, nat_tests, common_steps) in rw other refl

value_step : (b : ℕ) → is_mark b ≡ false → step in_value b ≡ in_value
value_step b free = let other : b == 34 ≡ false = grind (arith, nat_tests, common_steps) in rw other refl

-- the names of bytes have neither brackets nor quotes
by_tests_text : (a b c d e f : Bool) → AllKeep in_text (if a then codes "&amp;" else if b then codes "&lt;" else if c then codes "&gt;" else if d then codes "&quot;"
    else if e then codes "&#39;" else if f then codes " " else codes "&#65533;")
unfolding AllKeep
by_tests_text true b c d e f = (refl, (refl, (refl, (refl, (refl, tt)))))
by_tests_text false true c d e f = (refl, (refl, (refl, (refl, tt))))
by_tests_text false false true d e f = (refl, (refl, (refl, (refl, tt))))
by_tests_text false false false true e f = (refl, (refl, (refl, (refl, (refl, (refl, tt))))))
by_tests_text false false false false true f = (refl, (refl, (refl, (refl, (refl, tt)))))
by_tests_text false false false false false true = (refl, tt)
by_tests_text false false false false false false = (refl, (refl, (refl, (refl, (refl, (refl, (refl, (refl, tt))))))))

by_tests_value : (a b c d e f : Bool) → AllKeep in_value (if a then codes "&amp;" else if b then codes "&lt;" else if c then codes "&gt;" else if d then codes "&quot;"
    else if e then codes "&#39;" else if f then codes " " else codes "&#65533;")
unfolding AllKeep
by_tests_value true b c d e f = (refl, (refl, (refl, (refl, (refl, tt)))))
by_tests_value false true c d e f = (refl, (refl, (refl, (refl, tt))))
by_tests_value false false true d e f = (refl, (refl, (refl, (refl, tt))))
by_tests_value false false false true e f = (refl, (refl, (refl, (refl, (refl, (refl, tt))))))
by_tests_value false false false false true f = (refl, (refl, (refl, (refl, (refl, tt)))))
by_tests_value false false false false false true = (refl, tt)
by_tests_value false false false false false false = (refl, (refl, (refl, (refl, (refl, (refl, (refl, (refl, tt))))))))

name_text : (b : ℕ) → AllKeep in_text (name_of b)
unfolding name_of
name_text b = by_tests_text (b == 38) (b == 60) (b == 62) (b == 34) (b == 39) (b == 13)

name_value : (b : ℕ) → AllKeep in_value (name_of b)
unfolding name_of
name_value b = by_tests_value (b == 38) (b == 60) (b == 62) (b == 34) (b == 39) (b == 13)

text_keeps : (text : List ℕ) → IsText text → AllKeep in_text text
unfolding AllKeep
text_keeps _ ended = tt
text_keeps _ (plain b text free is) = (text_step b free, text_keeps text is)
text_keeps _ (named b text is) = keep_append in_text (name_of b) text (name_text b) (text_keeps text is)

value_keeps : (text : List ℕ) → IsText text → AllKeep in_value text
unfolding AllKeep
value_keeps _ ended = tt
value_keeps _ (plain b text free is) = (value_step b free, value_keeps text is)
value_keeps _ (named b text is) = keep_append in_value (name_of b) text (name_value b) (value_keeps text is)

pub text_is_no_markup : TextIsNoMarkup
text_is_no_markup text is = (stays in_text text (text_keeps text is), stays in_value text (value_keeps text is))

-- TAGS AND ATTRIBUTES
begun_read : (t : Tag) → read in_text (begun t) ≡ in_tag
unfolding begun tag_name
begun_read tag.Title = refl
begun_read tag.Heading = refl
begun_read tag.Chapter = refl
begun_read tag.Paragraph = refl
begun_read tag.Table = refl
begun_read tag.Caption = refl
begun_read tag.Row = refl
begun_read tag.HeadCell = refl
begun_read tag.Cell = refl
begun_read tag.Link = refl
begun_read tag.Code = refl
begun_read tag.Meter = refl
begun_read tag.Strong = refl
begun_read tag.Picture = refl
begun_read tag.Description = refl
begun_read tag.Shape = refl
begun_read tag.Label = refl

ended_read : (t : Tag) → read in_text (markup.ended t) ≡ in_text
unfolding markup.ended tag_name
ended_read tag.Title = refl
ended_read tag.Heading = refl
ended_read tag.Chapter = refl
ended_read tag.Paragraph = refl
ended_read tag.Table = refl
ended_read tag.Caption = refl
ended_read tag.Row = refl
ended_read tag.HeadCell = refl
ended_read tag.Cell = refl
ended_read tag.Link = refl
ended_read tag.Code = refl
ended_read tag.Meter = refl
ended_read tag.Strong = refl
ended_read tag.Picture = refl
ended_read tag.Description = refl
ended_read tag.Shape = refl
ended_read tag.Label = refl

before_read : (a : Attribute) → read in_tag (before_value a) ≡ in_value
unfolding before_value attribute_name
before_read attribute.Class = refl
before_read attribute.Scope = refl
before_read attribute.Target = refl
before_read attribute.Name = refl
before_read attribute.Role = refl
before_read attribute.Left = refl
before_read attribute.Top = refl
before_read attribute.Width = refl
before_read attribute.Height = refl
before_read attribute.View = refl
before_read attribute.Most = refl
before_read attribute.Amount = refl
before_read attribute.LabelledBy = refl

behind_read : read in_value behind_value ≡ in_tag
unfolding behind_value
behind_read = refl

attributes_end : read in_tag behind_attributes ≡ in_text
unfolding behind_attributes
attributes_end = refl

valued_read : (a : Attribute) (value : List ℕ) → IsText value → read in_tag (valued a value) ≡ in_tag
unfolding valued
valued_read a value is =
    read_append in_tag (before_value a ++ value) behind_value
    ∙ ap (λ s. read s behind_value) (read_append in_tag (before_value a) value ∙ ap (λ s. read s value) (before_read a) ∙ whole in_value value (value_keeps value is)) ∙ behind_read

attributes_read : (text : List ℕ) → AreAttributes text → read in_tag text ≡ in_tag
attributes_read _ none = refl
attributes_read _ (one a value is) = valued_read a value is
attributes_read _ (both front back x y) = read_append in_tag front back ∙ ap (λ s. read s back) (attributes_read front x) ∙ attributes_read back y

element_read : (t : Tag) (attributes inner : List ℕ) → read in_tag attributes ≡ in_tag → read in_text inner ≡ in_text → read in_text (element t attributes inner) ≡ in_text
element_read t attributes inner x y =
    read_append in_text (begun t ++ attributes ++ behind_attributes ++ inner) (markup.ended t)
    ∙ ap (λ s. read s (markup.ended t)) (read_append in_text (begun t ++ attributes ++ behind_attributes) inner
    ∙ ap (λ s. read s inner) (read_append in_text (begun t ++ attributes) behind_attributes
    ∙ ap (λ s. read s behind_attributes) (read_append in_text (begun t) attributes ∙ ap (λ s. read s attributes) (begun_read t) ∙ x) ∙ attributes_end) ∙ y)
    ∙ ended_read t

pub html_is_ended : HtmlIsEnded
html_is_ended _ (told text is) = whole in_text text (text_keeps text is)
html_is_ended _ (inside t attributes inner x y) = element_read t attributes inner (attributes_read attributes x) (html_is_ended inner y)
html_is_ended _ (beside front back x y) = read_append in_text front back ∙ ap (λ s. read s back) (html_is_ended front x) ∙ html_is_ended back y
