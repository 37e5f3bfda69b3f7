-- For contracts between crates: nobody has to believe it.
-- What the code tells of `defined`.
use Rattle.std.specs.Prelude.{◌≡◌, ℕ, ◌+◌, ◌≤◌, Bool, List, ◌++◌, Option, Some, None, drop, option_map}
use Rattle.k_lex_lines.specs.declared.lines.Placed.{Placed}
use Rattle.k_lex_lines.specs.Directives.{number_for, with_first, found, found_behind, found_inside}

-- what comes of a `defined`, where it is so and so many tokens behind it are its own
abbrev pub replaced : (List ℕ → Bool) → Placed → Option (Bool × ℕ) → List Placed → Option (List Placed)
replaced names d None ts = None
replaced names d (Some (known, count)) ts = with_first (number_for known d) (found names (drop count ts))

-- behind `defined`
abbrev pub Follows : (List ℕ → Bool) → Option (Bool × ℕ) → List Placed → Type 0
Follows names told ts = (d : Placed) → found_behind names d ts ≡ replaced names d told ts

-- behind `defined (`
abbrev pub FollowsInside : (List ℕ → Bool) → Option (Bool × ℕ) → List Placed → Type 0
FollowsInside names told ts = (d : Placed) → found_inside names d ts ≡ replaced names d told ts

-- tokens before others
abbrev pub all_before : List Placed → Option (List Placed) → Option (List Placed)
all_before us ts = option_map (λ (vs : List Placed). us ++ vs) ts
