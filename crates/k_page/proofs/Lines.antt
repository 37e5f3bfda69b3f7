-- The first line of a text, and those behind it.
use Rattle.std.proofs.Common.{ℕ, suc, ◌+◌, ◌<◌, ◌≤◌, ◌≡◌, ◌==◌, Bool, true, false, if◌then◌else◌, List, [], ◌∷◌, ◌++◌, append_assoc, take, drop, length, ap, arith, refl, sym, ◌∙◌}
use Rattle.k_optab.specs.declared.region.Region.{Region}
use Rattle.k_plan.specs.declared.advice.Pick.{Pick}
use Rattle.k_selfpar.specs.declared.context.Context.{Context}
use Rattle.k_selfpar.specs.declared.row.Row.{Row}
use Rattle.k_page.specs.Source.{behind_line, count_to, line_row, line_rows, line_span, lines, put_first}

-- by whether the first byte is a newline
by_byte : (b : ℕ) (text : List ℕ) (is : Bool) → (0 < length text → lines text ≡ take (line_span text) text ∷ lines (behind_line text))
    → (if is then [] ∷ lines text else put_first b (lines text))
    ≡ take (if is then 0 else suc (line_span text)) (b ∷ text) ∷ lines (if is then text else behind_line text)
by_byte b text true rest = refl
by_byte b [] false rest = refl
by_byte b (c ∷ text) false rest = let here : 0 < length (c ∷ text) = omega arith in ap (put_first b) (rest here)

-- a text that is not empty begins with its first line
pub lines_step : (text : List ℕ) → 0 < length text → lines text ≡ take (line_span text) text ∷ lines (behind_line text)
lines_step [] some = absurd (omega arith)
lines_step (b ∷ text) some = by_byte b text (b == 10) (lines_step text)

shorter_by : (text : List ℕ) (is : Bool) → length (behind_line text) ≤ length text → length (if is then text else behind_line text) ≤ length text
shorter_by text true rest = omega arith
shorter_by text false rest = rest

behind_within : (text : List ℕ) → length (behind_line text) ≤ length text
behind_within [] = omega arith
behind_within (b ∷ text) = let here = shorter_by text (b == 10) (behind_within text) in omega (arith, here)

-- what stands behind it is shorter
pub behind_shorter : (text : List ℕ) → 0 < length text → length (behind_line text) < length text
behind_shorter [] some = absurd (omega arith)
behind_shorter (b ∷ text) some = let here = shorter_by text (b == 10) (behind_within text) in omega (arith, here)

-- what is written of a line, and of those behind it, is that of all
pub line_written : (regions : List Region) (contexts : List Context) (picks : List Pick) (whole number : ℕ) (rows : List Row) (rest text all : List ℕ) → 0 < length rest
    → text ++ line_rows regions contexts picks whole number rows (lines rest) ≡ all
    → (text ++ line_row regions contexts picks whole number (take (count_to regions number rows) rows) (take (line_span rest) rest))
    ++ line_rows regions contexts picks whole (number + 1) (drop (count_to regions number rows) rows) (lines (behind_line rest)) ≡ all
line_written regions contexts picks whole number rows rest text all some is =
    append_assoc text (line_row regions contexts picks whole number (take (count_to regions number rows) rows) (take (line_span rest) rest))
    (line_rows regions contexts picks whole (number + 1) (drop (count_to regions number rows) rows) (lines (behind_line rest)))
    ∙ ap (λ l. text ++ line_rows regions contexts picks whole number rows l) (sym (lines_step rest some)) ∙ is
