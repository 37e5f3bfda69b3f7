-- Believed with the theorem on the top call.
-- Names, places and the cells of tables.
use Rattle.std.specs.Prelude.{ℕ, List, ◌++◌, codes}
use Rattle.std.specs.Fmt.{decimal}
use Rattle.k_optab.specs.declared.region.Region.{Region}
use Rattle.k_text.specs.Texts.{kind_text}
use Rattle.k_page.specs.Escapes.{escaped}
use Rattle.k_page.specs.Markup.{bare, element, valued, with_one}
use Rattle.k_page.specs.declared.markup.Attribute.TheVariants as attribute
use Rattle.k_page.specs.declared.markup.Tag.TheVariants as tag

-- the kind and the function of a region
unfoldable pub name : Region → List ℕ
name region = kind_text region.kind ++ codes " " ++ escaped region.func

-- the head of a column
unfoldable pub head_cell : List ℕ → List ℕ
head_cell words = with_one tag.HeadCell attribute.Scope (codes "col") words

-- a cell of a text
unfoldable pub text_cell : List ℕ → List ℕ
text_cell text = bare tag.Cell text

-- a link to a line of the source
unfoldable pub line_link : ℕ → List ℕ
line_link line = element tag.Link (valued attribute.Target (codes "#L" ++ decimal line)) (decimal line)

-- a cell of such a link
unfoldable pub line_cell : ℕ → List ℕ
line_cell line = bare tag.Cell (line_link line)

-- the head of a line: the region that it is about
unfoldable pub name_cell : Region → List ℕ
name_cell region = with_one tag.HeadCell attribute.Scope (codes "row") (name region)
