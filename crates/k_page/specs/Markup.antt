-- Believed with the theorem on the top call.
-- *Elements* of a page: tags, attributes, and what stands between.
use Rattle.std.specs.Prelude.{ℕ, List, [], ◌++◌, codes}
use Rattle.k_page.specs.declared.markup.Attribute.{Attribute}
use Rattle.k_page.specs.declared.markup.Attribute.TheVariants as attribute
use Rattle.k_page.specs.declared.markup.Tag.{Tag}
use Rattle.k_page.specs.declared.markup.Tag.TheVariants as tag

-- the name of a tag
unfoldable pub tag_name : Tag → List ℕ
tag_name tag.Title = codes "title"
tag_name tag.Heading = codes "h1"
tag_name tag.Chapter = codes "h2"
tag_name tag.Paragraph = codes "p"
tag_name tag.Table = codes "table"
tag_name tag.Caption = codes "caption"
tag_name tag.Row = codes "tr"
tag_name tag.HeadCell = codes "th"
tag_name tag.Cell = codes "td"
tag_name tag.Link = codes "a"
tag_name tag.Code = codes "code"
tag_name tag.Meter = codes "meter"
tag_name tag.Strong = codes "strong"
tag_name tag.Picture = codes "svg"
tag_name tag.Description = codes "desc"
tag_name tag.Shape = codes "rect"
tag_name tag.Label = codes "text"

-- the name of an attribute
unfoldable pub attribute_name : Attribute → List ℕ
attribute_name attribute.Class = codes "class"
attribute_name attribute.Scope = codes "scope"
attribute_name attribute.Target = codes "href"
attribute_name attribute.Name = codes "id"
attribute_name attribute.Role = codes "role"
attribute_name attribute.Left = codes "x"
attribute_name attribute.Top = codes "y"
attribute_name attribute.Width = codes "width"
attribute_name attribute.Height = codes "height"
attribute_name attribute.View = codes "viewBox"
attribute_name attribute.Most = codes "max"
attribute_name attribute.Amount = codes "value"
attribute_name attribute.LabelledBy = codes "aria-labelledby"

-- the front of a tag, up to its attributes
unfoldable pub begun : Tag → List ℕ
begun t = codes "<" ++ tag_name t

-- what ends a tag, behind its attributes
unfoldable pub behind_attributes : List ℕ
behind_attributes = codes ">"

-- the tag that ends an element, and with it a line of the page
unfoldable pub ended : Tag → List ℕ
ended t = codes "</" ++ tag_name t ++ codes ">\n"

-- an attribute, up to its value
unfoldable pub before_value : Attribute → List ℕ
before_value a = codes " " ++ attribute_name a ++ codes "=\""

-- what ends a value
unfoldable pub behind_value : List ℕ
behind_value = codes "\""

-- an attribute with its value
unfoldable pub valued : Attribute → List ℕ → List ℕ
valued a value = before_value a ++ value ++ behind_value

-- AN ELEMENT with these attributes
abbrev pub element : Tag → List ℕ → List ℕ → List ℕ
element t attributes inner = begun t ++ attributes ++ behind_attributes ++ inner ++ ended t

-- a tag without attributes
unfoldable pub started : Tag → List ℕ
started t = begun t ++ behind_attributes

-- a tag with one attribute
unfoldable pub started_with : Tag → Attribute → List ℕ → List ℕ
started_with t a value = begun t ++ valued a value ++ behind_attributes

-- AN ELEMENT without attributes
abbrev pub bare : Tag → List ℕ → List ℕ
bare t inner = started t ++ inner ++ ended t

-- AN ELEMENT with one attribute
abbrev pub with_one : Tag → Attribute → List ℕ → List ℕ → List ℕ
with_one t a value inner = started_with t a value ++ inner ++ ended t

-- an element without attributes whose text is this
unfoldable pub texted : Tag → List ℕ → List ℕ
texted t words = bare t words
