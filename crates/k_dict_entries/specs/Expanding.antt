-- For contracts between crates: nobody has to believe it.
-- What is given of an entry's instances, and what is still owed.
use Rattle.std.specs.Prelude.{ℕ, ◌+◌, ◌-◌, ◌<◌, ◌≤◌, ◌≡◌, List, [], ◌∷◌, ◌++◌, length, Result, Ok, Err, map, nat_lt, if◌then◌else◌, slice_index_or}
use Rattle.k_optab.specs.declared.node.Node.{Node}
use Rattle.k_dict_entries.specs.Trees.{Tree, bare, nodes_of}
use Rattle.k_dict_entries.specs.Entries.{copies, expansion, no_tree}
use Rattle.k_dict_entries.specs.declared.entry.Entry.{Entry}
use Rattle.k_dict_entries.specs.declared.entry.Run.{Run}
use Rattle.k_dict_entries.specs.declared.expansion.ExpandFault.{ExpandFault}
use Rattle.k_dict_entries.specs.declared.expansion.ExpandFault.TheVariants.{Large, Memory}
use Rattle.k_dict_entries.specs.declared.expansion.Pending.{Pending}

-- what `expand` answers
abbrev pub Expands : List Entry → ℕ → ℕ → Result (List Node) ExpandFault → Type 0
Expands entries root limit (Ok nodes) = (nodes ≡ expansion entries root) × (length nodes ≤ limit)
Expands entries root limit (Err Large) = limit < length (expansion entries root)
Expands entries root limit (Err Memory) = Unit {0}

-- a run at this depth
abbrev pub pending_at : ℕ → Run → Pending
pending_at depth run = record { run = run; depth = depth }

-- the instances of the runs that are pending
abbrev pub owed : List Tree → List Pending → List Node
owed trees [] = []
owed trees (p ∷ pending) = nodes_of p.depth (copies p.run.count (slice_index_or trees p.run.entry no_tree) bare) ++ owed trees pending

-- the runs have counts of at least 1, and lie no deeper than the root's number allows
abbrev pub AreShallow : ℕ → List Pending → Type 0
AreShallow root [] = Unit {0}
AreShallow root (p ∷ pending) = (p.depth + p.run.entry ≤ root) × (1 ≤ p.run.count) × AreShallow root pending

-- the run without one instance, where it has more
abbrev pub less_one : Pending → List Pending
less_one p = if nat_lt 1 p.run.count then record { run = record { entry = p.run.entry; count = p.run.count - 1 }; depth = p.depth } ∷ [] else []

-- the runs that are pending once an instance of this one is given
abbrev pub visited : Pending → Entry → List Pending → List Pending
visited p e pending = map (pending_at (p.depth + 1)) e.runs ++ (less_one p ++ pending)
