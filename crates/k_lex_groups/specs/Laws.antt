-- Believed with a public law.
-- What the steps over lines mean: the statements of the laws.
use Rattle.std.specs.Prelude.{◌≡◌, Bool, true, List, [], ◌++◌, Some, None}
use Rattle.k_lex_groups.specs.Blocks.{Line, Block, lines, reads}
use Rattle.k_lex_groups.specs.Steps.{Opens, outcome}

-- the lines of a block are refused nowhere, leave nothing open, and those are read that its groups give
abbrev pub BlocksAreRead : Type 0
BlocksAreRead = (b : Block) → outcome [] (lines b) ≡ Some ([], reads true b)

-- lines that are refused nowhere and leave nothing open are those of a block
abbrev pub EndedAreBlocks : Type 0
EndedAreBlocks = (ts : List Line) (flags : List Bool) → outcome [] ts ≡ Some ([], flags) → (b : Block) × (lines b ≡ ts)

-- where a line is refused no block begins with the lines up to it
abbrev pub RefusedIsNone : Type 0
RefusedIsNone = (ts us : List Line) (b : Block) → outcome [] ts ≡ None → lines b ≡ ts ++ us → ⊥

-- where none is refused some block begins with the lines
abbrev pub OpenGoesOn : Type 0
OpenGoesOn = (ts : List Line) (s : Opens) (flags : List Bool) → outcome [] ts ≡ Some (s, flags) → (b : Block) × (us : List Line) × (lines b ≡ ts ++ us)
