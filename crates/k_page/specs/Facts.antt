-- Believed with the theorem on the top call.
-- The head of a page: the file, and what its run comes to as a whole.
use Rattle.std.specs.Prelude.{ℕ, ℤ, List, [], ◌++◌, Option, Some, None, codes}
use Rattle.std.specs.Fmt.{decimal, signed_decimal}
use Rattle.k_plan.specs.declared.advice.Advice.{Advice}
use Rattle.k_page.specs.Amounts.{share}
use Rattle.k_page.specs.Cells.{text_cell}
use Rattle.k_page.specs.Escapes.{escaped}
use Rattle.k_page.specs.Markup.{bare, texted, with_one}
use Rattle.k_page.specs.declared.markup.Attribute.TheVariants as attribute
use Rattle.k_page.specs.declared.markup.Tag.TheVariants as tag

-- the head of a line: what it is about
unfoldable pub fact_head : List ℕ → List ℕ
fact_head words = with_one tag.HeadCell attribute.Scope (codes "row") words

-- a number with what it is
unfoldable pub fact : List ℕ → List ℕ → List ℕ
fact words number = bare tag.Row (fact_head words ++ text_cell number)

-- the name of the file in its cell
unfoldable pub file_cell : List ℕ → List ℕ
file_cell name = with_one tag.Cell attribute.Class (codes "w") (escaped name)

-- the name of the file, with what it is
unfoldable pub file_fact : List ℕ → List ℕ
file_fact name = bare tag.Row (fact_head (codes "file") ++ file_cell name)

-- what a plan saves of the work
unfoldable pub total : ℕ → ℕ → List ℕ
total saved whole = decimal saved ++ codes " of " ++ decimal whole ++ codes ", " ++ share saved whole

-- what a plan saves in its cell
unfoldable pub total_cell : ℕ → ℕ → List ℕ
total_cell saved whole = bare tag.Cell (total saved whole)

-- a plan as a whole
unfoldable pub advice_fact : ℕ → Advice → List ℕ
advice_fact whole advice = bare tag.Row (fact_head (codes "the plan saves") ++ total_cell advice.total whole)

-- the plan as a whole, where there is one
abbrev pub plan_fact : ℕ → Option Advice → List ℕ
plan_fact whole None = []
plan_fact whole (Some advice) = advice_fact whole advice

-- what main returned, and how many operations were made
unfoldable pub run_facts : ℤ → ℕ → List ℕ
run_facts exit ops = fact (codes "exit") (signed_decimal exit) ++ fact (codes "operations") (decimal ops)

-- what the operations come to
unfoldable pub work_facts : ℕ → ℕ → List ℕ
work_facts whole path = fact (codes "work") (decimal whole) ++ fact (codes "path") (decimal path)

-- all these numbers
unfoldable pub number_facts : ℤ → ℕ → ℕ → ℕ → List ℕ
number_facts exit ops whole path = run_facts exit ops ++ work_facts whole path

-- THE HEAD
unfoldable pub facts_table : List ℕ → ℤ → ℕ → ℕ → ℕ → Option Advice → List ℕ
facts_table name exit ops whole path plan =
    bare tag.Table (texted tag.Caption (codes "The run") ++ file_fact name ++ number_facts exit ops whole path ++ plan_fact whole plan)

-- THE HEAD where there is no profile
unfoldable pub large_facts : List ℕ → ℤ → ℕ → List ℕ
large_facts name exit ops = bare tag.Table (texted tag.Caption (codes "The run") ++ file_fact name ++ run_facts exit ops)
