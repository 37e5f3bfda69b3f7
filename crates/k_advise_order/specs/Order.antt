-- Believed with a public law.
-- Loops in which statements run beside one that keeps the least or the greatest: whether they run depends on the order of the iterations.
use Rattle.std.specs.Prelude.{ℕ, ◌+◌, ◌||◌, nat_le, Bool, List, [], ◌∷◌, ◌++◌, length, map, filter, Option, Some, None, unwrap_or, if◌then◌else◌}
use Rattle.std.specs.List.{flat_map, list_any}
use Rattle.k_types_meaning.specs.declared.tree.expression.TExpr.{TExpr}
use Rattle.k_types_meaning.specs.declared.tree.statement.TStmt.{TStmt, fold-TStmt}
use Rattle.k_types_meaning.specs.declared.tree.statement.TPart.TheOpen.{TPart-F, TStmt-F}
use Rattle.k_types_meaning.specs.declared.tree.unit.TFunc.{TFunc}
use Rattle.k_wide_meaning.specs.declared.occurrences.Occurrence.{Occurrence}
use Rattle.k_wide_meaning.specs.declared.occurrences.Occurrence.TheVariants.{Reduces}
use Rattle.k_wide_meaning.specs.declared.occurrences.Scalar.{Scalar}
use Rattle.k_wide_meaning.specs.declared.occurrences.WideGroup.TheVariants.{Least, Greatest}
use Rattle.k_wide_meaning.specs.Calls.{is_object, leads_to}
use Rattle.k_wide_meaning.specs.Contents.{WideLoop}
use Rattle.k_wide_meaning.specs.Loops.{Around, is_reduced}
use Rattle.k_wide_meaning.specs.Reductions.{kept_if}

-- WHAT A STATEMENT LEADS: the scalars of which it keeps the least or the greatest with further statements beside that, and those that the bodies of its
-- loops lead, in text order. Beside that its expression, where it is an expression statement, and those of its statements, where it is a block
pub record Led : Type 0 where
  pub action : Option TExpr
  pub actions : Option (List (Option TExpr))
  pub scalars : List Scalar
  pub loops : List (List Scalar)

-- a statement that is neither an expression statement nor a block
abbrev pub led_as : List Scalar → List (List Scalar) → Led
led_as scalars loops = record { action = None; actions = None; scalars = scalars; loops = loops }

-- nothing
abbrev pub nothing : Led
nothing = led_as ([]) ([])

-- one part behind another
abbrev pub both : Led → Led → Led
both a b = led_as (a.scalars ++ b.scalars) (a.loops ++ b.loops)

-- several parts, one behind another
abbrev pub row : List Led → Led
row [] = nothing
row (a ∷ rest) = both a (row rest)

-- the scalar that what happens reduces, if it does
abbrev pub reduced : Occurrence → List Scalar
reduced (Reduces r) = r.scalar ∷ []
reduced _ = []

-- the scalar of which a statement keeps the least or the greatest, by what then happens: its reduction is the first of it
abbrev pub kept_scalar : Option (List Occurrence) → List Scalar
kept_scalar None = []
kept_scalar (Some []) = []
kept_scalar (Some (o ∷ os)) = reduced o

-- the statements of an arm: those of a block, or the arm itself
abbrev pub arm : Led → List (Option TExpr)
arm s = unwrap_or s.actions (s.action ∷ [])

-- THE SCALARS THAT AN ARM LEADS behind a test: those of which it keeps the least or the greatest, where it holds more than the statement that does
abbrev pub led_by : TExpr → List (Option TExpr) → List Scalar
led_by test actions = if nat_le (length actions) 1 then [] else flat_map (λ (action : Option TExpr). kept_scalar (kept_if test action)) actions

-- what an `if` leads; with `else` it keeps nothing
abbrev pub if_leads : TExpr → Led → Option Led → Led
if_leads test a None = led_as (led_by test (arm a) ++ a.scalars) a.loops
if_leads test a (Some b) = both a b

-- a loop with this body
abbrev pub a_loop : Led → Led
a_loop body = led_as body.scalars (body.scalars ∷ body.loops)

-- what a statement leads, of whose statements and parts it is known
abbrev pub led_step : TStmt-F Led Led → Led
led_step (TStmt-F.Expr spot e) = record { action = Some e; actions = None; scalars = []; loops = [] }
led_step (TStmt-F.Block spot parts) =
    record { action = None; actions = Some (map (λ (s : Led). s.action) parts); scalars = (row parts).scalars; loops = (row parts).loops }
led_step (TStmt-F.If spot test a b) = if_leads test a b
led_step (TStmt-F.While spot turns test body) = a_loop body
led_step (TStmt-F.DoWhile spot turns body test) = a_loop body
led_step (TStmt-F.For spot turns start test step body) = a_loop body
led_step (TStmt-F.Switch spot kind on parts) = row parts
led_step _ = nothing

-- what a part of a switch leads, of whose statement it is known
abbrev pub part_step : TPart-F Led Led → Led
part_step (TPart-F.Case p value) = nothing
part_step (TPart-F.Default p) = nothing
part_step (TPart-F.Does p s) = s

-- what a statement leads
abbrev pub led : TStmt → Led
led = fold-TStmt Led Led part_step led_step

-- what a function leads; its loops are those of `function_seen`, in the same order
abbrev pub function_led : TFunc → Led
function_led f = row (map led f.body)

-- the functions of which it is known that they can be called lead these file objects, where the first has this number
abbrev pub led_from : ℕ → (ℕ → Bool) → List TFunc → List Scalar
led_from n can [] = []
led_from n can (f ∷ fs) = (if can n then filter is_object (function_led f).scalars else []) ++ led_from (n + 1) can fs

-- the file objects that the functions lead which can be called from a text that does this
abbrev pub led_beyond : List TFunc → (ℕ → ℕ → Bool) → List Occurrence → List Scalar
led_beyond fs called text = led_from 0 (λ g. list_any (leads_to called g) text) fs

-- a loop keeps the least or the greatest of this scalar
abbrev pub keeps : Around → WideLoop → Scalar → Bool
keeps around l s = is_reduced around l s Least || is_reduced around l s Greatest

-- THE ORDER OF ITERATIONS TELLS in a loop whose body leads these scalars, itself or by functions that it can call: it keeps the least or the greatest of one of
-- them, so the reads by which it does are broken, and the statements beside it run or not by which iteration comes first. Such a loop is not free, and none
-- that may be marked
unfoldable pub order_tells : Around → WideLoop → List Scalar → Bool
order_tells around l led = list_any (keeps around l) led
