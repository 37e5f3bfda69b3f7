-- Believed with a public law.
-- What holds of pages: the statements of the laws.
use Rattle.std.specs.Prelude.{ℕ, ℤ, ◌≡◌, List, ◌++◌, Option}
use Rattle.k_optab.specs.declared.region.Region.{Region}
use Rattle.k_dict_entries.specs.declared.entry.Entry.{Entry}
use Rattle.k_plan.specs.declared.advice.Advice.{Advice}
use Rattle.k_selfpar.specs.declared.context.Context.{Context}
use Rattle.k_selfpar.specs.declared.row.Row.{Row}
use Rattle.k_page.specs.Escapes.{escaped}
use Rattle.k_page.specs.Html.{IsHtml, IsText}
use Rattle.k_page.specs.Page.{large_page_text, page_text}
use Rattle.k_page.specs.Prose.{closing, opening}
use Rattle.k_page.specs.Reader.{Stays, in_text, in_value, read}

-- whatever bytes are, escaped they are text
abbrev pub EscapedIsText : Type 0
EscapedIsText = (bytes : List ℕ) → IsText (escaped bytes)

-- whatever a page is made of, it is the opening, HTML of its own tags, and the end
abbrev pub PageIsHtml : Type 0
PageIsHtml = (name source : List ℕ) (exit : ℤ) (ops whole path : ℕ) (regions : List Region) (rows : List Row) (dict : Option (List Entry))
    (contexts : List Context) (plan : Option Advice)
    → (inner : List ℕ) × IsHtml inner × (page_text name source exit ops whole path regions rows dict contexts plan ≡ opening ++ inner ++ closing)

-- and so is the page of a run without a profile
abbrev pub LargePageIsHtml : Type 0
LargePageIsHtml = (name : List ℕ) (exit : ℤ) (ops : ℕ) → (inner : List ℕ) × IsHtml inner × (large_page_text name exit ops ≡ opening ++ inner ++ closing)

-- in a text, and in one that is a value, a reader meets nothing that begins or ends a tag or a value
abbrev pub TextIsNoMarkup : Type 0
TextIsNoMarkup = (text : List ℕ) → IsText text → Stays in_text text × Stays in_value text

-- behind HTML a reader stands in a text, as before it: each tag and each value is ended
abbrev pub HtmlIsEnded : Type 0
HtmlIsEnded = (text : List ℕ) → IsHtml text → read in_text text ≡ in_text
