-- Believed with a public law.
-- A WORKED EXAMPLE, with numbers that were found by hand: the run of `int main(void){int i,s; s=0; for(i=0;i<6;i++) if(i&1) s+=i; return s;}`, a
-- loop of six turns, of which every second one adds.
use Rattle.std.specs.Prelude.{ℕ, List, [], ◌∷◌}
use Rattle.k_optab.specs.declared.region.Region.{Region}
use Rattle.k_optab.specs.declared.region.RegionKind.{RegionKind}
use Rattle.k_optab.specs.declared.region.RegionKind.TheVariants.{Func, Loop, Body}
use Rattle.k_dict_entries.specs.Dictionary.{IsDictionary}
use Rattle.k_dict_entries.specs.Trees.{Forest, Label, Tree, bare, grown, list_of}
use Rattle.k_dict_entries.specs.declared.entry.Entry.{Entry}
use Rattle.k_dict_entries.specs.declared.entry.Run.{Run}
use Rattle.k_selfpar.specs.Contexts.{AreContexts}
use Rattle.k_selfpar.specs.Rows.{AreRows}
use Rattle.k_selfpar.specs.declared.context.Context.{Context}
use Rattle.k_selfpar.specs.declared.row.Row.{Row}

-- an instance of a region, with its work and its path
abbrev pub label : ℕ → ℕ → ℕ → Label
label region work path = record { region = region; work = work; path = path }

-- a turn that only tests, and one that adds, before others
abbrev pub two_turns : Forest → Forest
two_turns later = grown (label 2 2 2) bare (grown (label 2 3 3) bare later)

-- the six turns
abbrev pub turns : Forest
turns = two_turns (two_turns (two_turns bare))

-- the run: a function, in it the loop, and in that the turns
abbrev pub odd_sum : Tree
odd_sum = record { label = label 0 35 4; inner = grown (label 1 35 4) turns bare }

-- an entry of a dictionary
abbrev pub entry : ℕ → ℕ → ℕ → List Run → Entry
entry region work path runs = record { region = region; work = work; path = path; runs = runs }

-- so many children of an entry
abbrev pub run : ℕ → ℕ → Run
run n count = record { entry = n; count = count }

-- two kinds of turns, the loop, with three of each, and the function
abbrev pub entries : List Entry
entries = entry 2 2 2 [] ∷ entry 2 3 3 [] ∷ entry 1 35 4 (run 0 3 ∷ run 1 3 ∷ []) ∷ entry 0 35 4 (run 2 1 ∷ []) ∷ []

-- a row: a region, its instances, their work and path, and their self-parallelism as a fraction
abbrev pub row : ℕ → ℕ → ℕ → ℕ → ℕ → ℕ → Row
row region instances work path num den = record { region = region; instances = instances; work = work; path = path; sp = (num, den) }

-- the loop could be 35/4 times as fast, the function and a turn not faster
abbrev pub rows : List Row
rows = row 0 1 35 4 1 1 ∷ row 1 1 35 4 35 4 ∷ row 2 6 15 15 1 1 ∷ []

-- a region of a kind
abbrev pub region : RegionKind → Region
region kind = record { kind = kind; func = []; place = record { line = 1; column = 1 } }

-- the function, the loop and its body
abbrev pub regions : List Region
regions = region Func ∷ region Loop ∷ region Body ∷ []

-- a context: its parent, its region, the count of its instances and of their turns, and what a row has
abbrev pub context : ℕ → ℕ → RegionKind → ℕ → ℕ → ℕ → ℕ → ℕ → ℕ → Context
context parent region kind instances turns work path num den =
    record { parent = parent; region = region; kind = kind; instances = instances; turns = turns; work = work; path = path; sp = (num, den) }

-- one context for each region
abbrev pub contexts : List Context
contexts = context 0 0 Func 1 0 35 4 1 1 ∷ context 0 1 Loop 1 6 35 4 35 4 ∷ context 1 2 Body 6 0 15 15 1 1 ∷ []

-- these entries are the dictionary of the run
abbrev pub HasEntries : Type 0
HasEntries = IsDictionary (list_of odd_sum) entries

-- so are these its rows
abbrev pub HasRows : Type 0
HasRows = AreRows (list_of odd_sum) rows

-- and these its contexts
abbrev pub HasContexts : Type 0
HasContexts = AreContexts regions (list_of odd_sum) contexts
