-- Believed with the theorem on the top call.
-- A profile as one page of HTML.
use Rattle.std.specs.Prelude.{ℕ, ℤ, List, [], ◌++◌, Option, Some, None, codes}
use Rattle.k_optab.specs.declared.region.Region.{Region}
use Rattle.k_dict_entries.specs.declared.entry.Entry.{Entry}
use Rattle.k_plan.specs.declared.advice.Advice.{Advice}
use Rattle.k_plan.specs.declared.advice.Pick.{Pick}
use Rattle.k_selfpar.specs.declared.context.Context.{Context}
use Rattle.k_selfpar.specs.declared.row.Row.{Row}
use Rattle.k_page.specs.Escapes.{escaped}
use Rattle.k_page.specs.Facts.{facts_table, large_facts}
use Rattle.k_page.specs.Lists.{dictionary_part, plan_part, rows_table}
use Rattle.k_page.specs.Markup.{bare, texted}
use Rattle.k_page.specs.Picture.{legend, picture}
use Rattle.k_page.specs.Prose.{closing, opening, words}
use Rattle.k_page.specs.Source.{source_table}
use Rattle.k_page.specs.Tiles.{tiles}
use Rattle.k_page.specs.declared.markup.Tag.TheVariants as tag
use Rattle.k_page.specs.declared.prose.Prose.TheVariants as prose

-- the picks of a plan, where there is one
abbrev pub picks_of : Option Advice → List Pick
picks_of None = []
picks_of (Some advice) = advice.picks

-- the title of the page
unfoldable pub title : List ℕ → List ℕ
title name = bare tag.Title (escaped name)

-- the head of the page
unfoldable pub heading : List ℕ → List ℕ
heading name = bare tag.Heading (words prose.Heading ++ escaped name)

-- the title, the head, and what the run comes to
unfoldable pub head_part : List ℕ → ℤ → ℕ → ℕ → ℕ → Option Advice → List ℕ
head_part name exit ops whole path plan = title name ++ heading name ++ facts_table name exit ops whole path plan

-- the plan and the picture
unfoldable pub views_part : List Region → ℕ → List Context → Option Advice → List ℕ
views_part regions whole contexts plan =
    texted tag.Chapter (codes "Plan") ++ plan_part regions contexts whole plan
    ++ texted tag.Chapter (codes "Picture") ++ legend ++ picture regions (picks_of plan) whole (tiles contexts)

-- the source, the rows and the dictionary
unfoldable pub texts_part : List ℕ → List Region → ℕ → List Row → Option (List Entry) → List Context → Option Advice → List ℕ
texts_part source regions whole rows dict contexts plan =
    texted tag.Chapter (codes "Source") ++ source_table regions contexts (picks_of plan) whole rows source
    ++ texted tag.Chapter (codes "Rows") ++ rows_table regions whole rows ++ dictionary_part regions dict

-- what the numbers mean, in five paragraphs
unfoldable pub explanations : List ℕ
explanations =
    texted tag.Paragraph (words prose.Work) ++ texted tag.Paragraph (words prose.Parallel) ++ texted tag.Paragraph (words prose.Saving)
    ++ texted tag.Paragraph (words prose.Picture) ++ texted tag.Paragraph (words prose.OneRun)

-- what the numbers mean
unfoldable pub meaning_part : List ℕ
meaning_part = texted tag.Chapter (words prose.Meaning) ++ explanations

-- all that stands between the opening and the end
unfoldable pub body_part : List ℕ → List ℕ → ℤ → ℕ → ℕ → ℕ → List Region → List Row → Option (List Entry) → List Context → Option Advice → List ℕ
body_part name source exit ops whole path regions rows dict contexts plan =
    head_part name exit ops whole path plan ++ views_part regions whole contexts plan ++ texts_part source regions whole rows dict contexts plan ++ meaning_part

-- THE PAGE of a run of this work and path as a whole
abbrev pub page_text : List ℕ → List ℕ → ℤ → ℕ → ℕ → ℕ → List Region → List Row → Option (List Entry) → List Context → Option Advice → List ℕ
page_text name source exit ops whole path regions rows dict contexts plan =
    opening ++ body_part name source exit ops whole path regions rows dict contexts plan ++ closing

-- what stands between the opening and the end where there is no profile
unfoldable pub large_part : List ℕ → ℤ → ℕ → List ℕ
large_part name exit ops = title name ++ heading name ++ large_facts name exit ops ++ texted tag.Paragraph (words prose.Large)

-- THE PAGE of a run whose profile is over the limits of its dictionary
abbrev pub large_page_text : List ℕ → ℤ → ℕ → List ℕ
large_page_text name exit ops = opening ++ large_part name exit ops ++ closing
