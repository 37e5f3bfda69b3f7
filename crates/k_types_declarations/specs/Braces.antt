-- For contracts between crates: nobody has to believe it.
-- What judging the items of braces gives, and what it puts behind the items before them.
use Rattle.std.specs.Prelude.{◌≡◌, ℕ, Bool, true, false, List, [], ◌++◌, Result, Ok, Err}
use Rattle.std.specs.List.{concat}
use Rattle.k_types_meaning.specs.declared.fault.TypeFault.{TypeFault}
use Rattle.k_types_meaning.specs.declared.tree.declaration.TItem.{TItem}
use Rattle.k_types_meaning.specs.Initialisers.{Items}
use Rattle.k_types_meaning.specs.Made.{Made, Fine}
use Rattle.k_types_rules.specs.Views.{Refuses}
use Rattle.k_types_declarations.specs.declared.braces.FilledItems.{FilledItems}

-- what is kept of items: all or none
abbrev pub kept_items : Bool → List TItem → List TItem
kept_items true items = items
kept_items false items = []

-- Items were judged, and those that are kept and the variables to which `&` is applied in them were put behind those before them; or they
-- have a fault first.
abbrev pub Puts : Result (Unit {0}) TypeFault → Bool → FilledItems → FilledItems → Made Items → Type 0
Puts (Ok done) kept older newer m =
    (found : Items)
    × (m ≡ Fine found)
    × (newer.items ≡ older.items ++ kept_items kept found.items)
    × (newer.taken ≡ older.taken ++ found.taken)
Puts (Err f) kept older newer m = Refuses f m

-- An item with these variables to which `&` is applied was judged, and if it is kept put behind those before it; or it has a fault first.
abbrev pub PutsItem : Result (Unit {0}) TypeFault → Bool → List ℕ → List TItem → List TItem → Made Items → Type 0
PutsItem (Ok done) kept taken older newer m =
    (items : List TItem) × (m ≡ Fine (record { items = items; taken = taken })) × (newer ≡ older ++ kept_items kept items)
PutsItem (Err f) kept taken older newer m = Refuses f m

-- An initialiser for what is not known was judged, and the variables to which `&` is applied in it were put behind the older ones; or it
-- has a fault first.
abbrev pub GivesTaken : Result (Unit {0}) TypeFault → List ℕ → List ℕ → Made (List ℕ) → Type 0
GivesTaken (Ok done) older newer m = (taken : List ℕ) × (m ≡ Fine taken) × (newer ≡ older ++ taken)
GivesTaken (Err f) older newer m = Refuses f m

-- the same of several initialisers
abbrev pub GivesAllTaken : Result (Unit {0}) TypeFault → List ℕ → List ℕ → Made (List (List ℕ)) → Type 0
GivesAllTaken (Ok done) older newer m = (all : List (List ℕ)) × (m ≡ Fine all) × (newer ≡ older ++ concat all)
GivesAllTaken (Err f) older newer m = Refuses f m
