-- Believed with a public law.
-- The topmost item of a stack.
use Rattle.std.specs.Prelude.{List, [], ◌∷◌, Option, Some, None}

-- the topmost item, if there is one
abbrev pub top : {A : Type 0} → List A → Option A
top [] = None
top (x ∷ xs) = Some x
