-- A worked example of the definitions: a loop of six turns, of which every second one does more.
use Rattle.std.proofs.Common.{◌≡◌, ℕ, List, [], ◌∷◌, refl}
use Rattle.k_optab.specs.declared.node.Node.{Node}
use Rattle.k_dict_entries.specs.Entries.{expansion}
use Rattle.k_dict_entries.specs.Gathering.{gathered}
use Rattle.k_dict_entries.specs.declared.entry.Entry.{Entry}

-- its entries: two kinds of turns, the loop and the function
abbrev odd_sum : List Entry
odd_sum =
    record { region = 2; work = 2; path = 2; runs = [] } ∷ record { region = 2; work = 3; path = 3; runs = [] }
    ∷ record { region = 1; work = 35; path = 4; runs = record { entry = 0; count = 3 } ∷ record { entry = 1; count = 3 } ∷ [] }
    ∷ record { region = 0; work = 35; path = 4; runs = record { entry = 2; count = 1 } ∷ [] } ∷ []

-- a turn
abbrev turn : ℕ → Node
turn work = record { region = 2; work = work; path = work; depth = 2 }

-- the tree that the last entry stands for
expanded : expansion odd_sum 3 ≡ record { region = 0; work = 35; path = 4; depth = 0 } ∷ record { region = 1; work = 35; path = 4; depth = 1 }
    ∷ turn 2 ∷ turn 2 ∷ turn 2 ∷ turn 3 ∷ turn 3 ∷ turn 3 ∷ []
expanded = refl

-- the entries of the run's own tree, in which the turns take each other's place
taken : (gathered (record { region = 0; work = 35; path = 4; depth = 0 } ∷ record { region = 1; work = 35; path = 4; depth = 1 }
    ∷ turn 2 ∷ turn 3 ∷ turn 2 ∷ turn 3 ∷ turn 2 ∷ turn 3 ∷ [])).dict ≡ odd_sum
taken = refl

-- entries of which the third has the first two as children, and the fourth the second and the third
abbrev renumbered : List Entry
renumbered =
    record { region = 0; work = 1; path = 1; runs = [] } ∷ record { region = 0; work = 2; path = 2; runs = [] }
    ∷ record { region = 1; work = 3; path = 3; runs = record { entry = 0; count = 1 } ∷ record { entry = 1; count = 1 } ∷ [] }
    ∷ record { region = 2; work = 5; path = 5; runs = record { entry = 1; count = 1 } ∷ record { entry = 2; count = 1 } ∷ [] } ∷ []

-- what they expand to begins with the second entry, which so comes first in the dictionary of the expansion
other_numbers : (gathered (expansion renumbered 3)).dict
    ≡ record { region = 0; work = 2; path = 2; runs = [] } ∷ record { region = 0; work = 1; path = 1; runs = [] }
    ∷ record { region = 1; work = 3; path = 3; runs = record { entry = 0; count = 1 } ∷ record { entry = 1; count = 1 } ∷ [] }
    ∷ record { region = 2; work = 5; path = 5; runs = record { entry = 0; count = 1 } ∷ record { entry = 2; count = 1 } ∷ [] } ∷ []
other_numbers = refl
