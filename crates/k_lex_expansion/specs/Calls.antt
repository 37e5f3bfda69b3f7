-- Believed with a public law.
-- The arguments of a call (C17 6.10.3p11).
use Rattle.std.specs.Prelude.{ℕ, zero, suc, ◌+◌, Bool, true, false, ◌&&◌, ◌||◌, ◌==◌, List, [], ◌∷◌, Option, Some, None, if◌then◌else◌, length, option_map, codes}
use Rattle.k_lex_expansion.specs.declared.tokens.Listed.{Listed}
use Rattle.k_lex_expansion.specs.Listing.{is_spelled}

-- a list of arguments, of which there is one at least, each as it is written; the names that its `)` hides; and how many tokens it takes up to there
pub record Gathered : Type 0 where
  pub first : List Listed
  pub more : List (List Listed)
  pub hidden : List (List ℕ)
  pub size : ℕ

-- the arguments
abbrev pub arguments : Gathered → List (List Listed)
arguments g = g.first ∷ g.more

-- with one token more in front
abbrev pub with_token : Listed → Gathered → Gathered
with_token t g = record { first = t ∷ g.first; more = g.more; hidden = g.hidden; size = g.size + 1 }

-- with a comma in front
abbrev pub with_comma : Gathered → Gathered
with_comma g = record { first = []; more = g.first ∷ g.more; hidden = g.hidden; size = g.size + 1 }

-- the `)` of a call
abbrev pub closed_by : Listed → Gathered
closed_by t = record { first = []; more = []; hidden = t.hidden; size = 1 }

-- how many parentheses are open behind a token, where these are
abbrev pub depth_behind : Listed → ℕ → ℕ
depth_behind t zero = if is_spelled (codes "(") t then 1 else 0
depth_behind t (suc depth) = if is_spelled (codes ")") t then depth else (if is_spelled (codes "(") t then suc (suc depth) else suc depth)

-- the token is that mark, and no parenthesis within the call is open
abbrev pub is_outside : List ℕ → Listed → ℕ → Bool
is_outside mark t depth = depth == 0 && is_spelled mark t

-- What is behind the `(` of a call, up to the `)` that matches it, if there is one: the arguments are parted by the commas that no parentheses hold.
abbrev pub gathered : List Listed → ℕ → Option Gathered
gathered [] depth = None
gathered (t ∷ ts) depth =
    if is_outside (codes ")") t depth then Some (closed_by t)
    else (if is_outside (codes ",") t depth then option_map with_comma (gathered ts depth)
    else option_map (with_token t) (gathered ts (depth_behind t depth)))

-- there is one argument, without tokens
abbrev pub is_one_empty : List (List Listed) → Bool
is_one_empty ([] ∷ []) = true
is_one_empty _ = false

-- There are as many arguments as parameters. With no parameter one empty argument is none.
abbrev pub fits : ℕ → List (List Listed) → Bool
fits count arguments = length arguments == count || (count == 0 && is_one_empty arguments)
