-- Believed with the theorem on the top call.
-- *Dictionary*: the entries of a tree of instances.
use Rattle.std.specs.Prelude.{ℕ, ◌+◌, ◌≤◌, ◌≡◌, List, [], ◌∷◌, ◌++◌, length, slice_get, Option, Some, None, nat_le, nat_lt, if◌then◌else◌}
use Rattle.k_optab.specs.declared.node.Node.{Node}
use Rattle.k_optab.specs.Tree.{EachWith}
use Rattle.k_dict_entries.specs.Trees.{Tree, SameShape, alone, list_of, post_order}
use Rattle.k_dict_entries.specs.Entries.{NameEarlier, trees_of}
use Rattle.k_dict_entries.specs.declared.entry.Entry.{Entry}
use Rattle.k_dict_entries.specs.declared.dict.Which.{Which}
use Rattle.k_dict_entries.specs.declared.dict.Which.TheVariants.{Entries, AllRuns}

-- the trees kept so far, then the trees of a list, and then all that are kept: of the trees that are the same the first
pub data Firsts (Same : Tree → Tree → Type 0) : List Tree → List Tree → List Tree → Type 0 where
  ended : (kept : List Tree) → Firsts Same kept [] kept
  again : (t : Tree) (kept trees all : List Tree) → (n : ℕ) (k : Tree) → slice_get kept n ≡ Some k → Same t k → Firsts Same kept trees all
      → Firsts Same kept (t ∷ trees) all
  anew : (t : Tree) (kept trees all : List Tree) → ((n : ℕ) (k : Tree) → slice_get kept n ≡ Some k → ¬ Same t k)
      → Firsts Same (kept ++ t ∷ []) trees all → Firsts Same kept (t ∷ trees) all

-- the entries of a tree: one for each shape of its instances, in post-order, with the first of each shape kept; each stands
-- for its shape, with its children as runs by rising place, each place once
pub record IsDictionaryOf (t : Tree) (entries : List Entry) : Type 0 where
  pub shapes : List Tree
  pub firsts : Firsts SameShape [] (post_order (alone t)) shapes
  pub stands : EachWith SameShape shapes (trees_of entries)
  pub earlier : NameEarlier entries

-- the entries of the tree that is listed so
abbrev pub IsDictionary : List Node → List Entry → Type 0
IsDictionary nodes entries = (t : Tree) × (nodes ≡ list_of t) × IsDictionaryOf t entries

-- the limit that is passed first, where entries are added to so many entries with so many runs
abbrev pub refusal : ℕ → ℕ → List Entry → Option Which
refusal count runs [] = None
refusal count runs (e ∷ entries) =
    if nat_le 1048576 count then Some Entries
    else (if nat_lt 16777216 (runs + length e.runs) then Some AllRuns
    else refusal (count + 1) (runs + length e.runs) entries)
