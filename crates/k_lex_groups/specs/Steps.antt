-- Believed with a public law.
-- What is open where a line stands, line by line (C17 6.10.1p6).
use Rattle.std.specs.Prelude.{Bool, true, false, ◌&&◌, not, if◌then◌else◌, List, [], ◌∷◌, ◌++◌, Option, Some, None}
use Rattle.k_num.specs.declared.place.Place.{Place}
use Rattle.k_lex_groups.specs.declared.groups.Group.{Group}
use Rattle.k_lex_groups.specs.Blocks.{Line, if_line, elif_line, else_line, endif_line, other_line}

-- the `#if`s that are open, the innermost first
abbrev pub Opens : Type 0
Opens = List Group

-- the line is read
abbrev pub is_read : Opens → Bool
is_read [] = true
is_read (g ∷ s) = g.reads

-- the condition of an `#elif` is looked at
abbrev pub asks : Opens → Bool
asks [] = false
asks (g ∷ s) = g.waits

-- the place of the innermost `#if`
abbrev pub innermost : Opens → Option Place
innermost [] = None
innermost (g ∷ s) = Some g.place

-- behind an `#if`
abbrev pub opened : Place → Bool → Opens → Opens
opened place holds s = record { place = place; waits = is_read s && not holds; reads = is_read s && holds; ends = false } ∷ s

-- behind an `#elif`: none can stand without `#if`, nor behind `#else`
abbrev pub another : Bool → Opens → Option Opens
another holds [] = None
another holds (g ∷ s) =
    if g.ends then None else Some (record { place = g.place; waits = g.waits && not holds; reads = g.waits && holds; ends = false } ∷ s)

-- behind an `#else`: none can stand without `#if`, nor behind another
abbrev pub otherwise : Opens → Option Opens
otherwise [] = None
otherwise (g ∷ s) = if g.ends then None else Some (record { place = g.place; waits = false; reads = g.waits; ends = true } ∷ s)

-- behind an `#endif`: none can stand without `#if`
abbrev pub closed : Opens → Option Opens
closed [] = None
closed (g ∷ s) = Some s

-- behind a line
abbrev pub step : Line → Opens → Option Opens
step (if_line place holds) s = Some (opened place holds s)
step (elif_line holds) s = another holds s
step else_line s = otherwise s
step endif_line s = closed s
step other_line s = Some s

-- whether a line of another kind is read
abbrev pub seen : Line → Opens → List Bool
seen other_line s = is_read s ∷ []
seen _ s = []

-- flags in front of others
abbrev pub in_front : List Bool → Option (Opens × List Bool) → Option (Opens × List Bool)
in_front xs None = None
in_front xs (Some (s, ys)) = Some (s, xs ++ ys)

-- goes on where a line isn't refused
abbrev pub follow : {A : Type 0} → (Opens → Option A) → Option Opens → Option A
follow f None = None
follow f (Some s) = f s

-- what is open behind these lines, and which of those of another kind are read; none where a line is refused
abbrev pub outcome : Opens → List Line → Option (Opens × List Bool)
outcome s [] = Some (s, [])
outcome s (t ∷ ts) = follow (λ new. in_front (seen t s) (outcome new ts)) (step t s)
