-- Believed with a public law.
-- The lines of a source, put into groups (C17 6.10.1p6).
use Rattle.std.specs.Prelude.{Bool, ◌&&◌, not, List, [], ◌∷◌, ◌++◌}
use Rattle.k_num.specs.declared.place.Place.{Place}

-- a line: one of the directives that part lines into groups, with whether its condition holds, or any other
pub data Line : Type 0 where
  if_line : Place → Bool → Line
  elif_line : Bool → Line
  else_line : Line
  endif_line : Line
  other_line : Line

mutual
  -- lines, one behind another: a line of another kind, or an `#if` with its group and what follows it up to its `#endif`
  pub data Block : Type 0 where
    empty : Block
    line : Block → Block
    section : Place → Bool → Block → Rest → Block → Block

  -- what follows a group: `#endif`, `#else` with its group and `#endif`, or `#elif` with its group and what follows that
  pub data Rest : Type 0 where
    endif : Rest
    final : Block → Rest
    elif : Bool → Block → Rest → Rest

abbrev mutual
  -- the lines of a block
  pub lines : Block → List Line
  lines empty = []
  lines (line b) = other_line ∷ lines b
  lines (section place holds b r c) = if_line place holds ∷ (lines b ++ (rest_lines r ++ lines c))

  pub rest_lines : Rest → List Line
  rest_lines endif = endif_line ∷ []
  rest_lines (final b) = else_line ∷ (lines b ++ endif_line ∷ [])
  rest_lines (elif holds b r) = elif_line holds ∷ (lines b ++ rest_lines r)

abbrev mutual
  -- which lines of another kind are read, in order, in a block that is read or not: of each section the first group whose condition
  -- holds, else that of `#else`, else none
  pub reads : Bool → Block → List Bool
  reads on empty = []
  reads on (line b) = on ∷ reads on b
  reads on (section place holds b r c) = reads (on && holds) b ++ (rest_reads (on && not holds) r ++ reads on c)

  -- the same of what follows a group, where a group may still be read or not
  pub rest_reads : Bool → Rest → List Bool
  rest_reads waits endif = []
  rest_reads waits (final b) = reads waits b
  rest_reads waits (elif holds b r) = reads (waits && holds) b ++ rest_reads (waits && not holds) r
