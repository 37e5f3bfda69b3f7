-- Believed with a public law.
-- The entries of format 1 as those of a dictionary.
use Rattle.std.specs.Prelude.{ℕ, ◌^◌, ◌<◌, ◌≡◌, List, [], ◌∷◌, Some, slice_get, slice_index_or}
use Rattle.k_optab.specs.Tree.{EachWith}
use Rattle.k_dict_entries.specs.Dictionary.{Firsts}
use Rattle.k_dict_entries.specs.Entries.{NameEarlier, trees_of}
use Rattle.k_dict_entries.specs.Tallies.{counted, total}
use Rattle.k_dict_entries.specs.Trees.{SameShape, Tree}
use Rattle.k_dict_entries.specs.declared.entry.Entry.{Entry}
use Rattle.k_dict_entries.specs.declared.entry.Run.{Run}

-- runs so far, with those of these children, where each entry has that number
abbrev pub renumbered : List ℕ → List Run → List Run → List Run
renumbered numbers [] so_far = so_far
renumbered numbers (run ∷ runs) so_far = renumbered numbers runs (counted (slice_index_or numbers run.entry 0) run.count so_far)

-- an entry whose children have these numbers
abbrev pub renumbered_entry : List ℕ → Entry → Entry
renumbered_entry numbers e = record { region = e.region; work = e.work; path = e.path; runs = renumbered numbers e.runs [] }

-- no entry has more children than can be counted
abbrev pub HaveFewChildren : List Entry → Type 0
HaveFewChildren entries = (n : ℕ) (e : Entry) → slice_get entries n ≡ Some e → total e.runs < 2 ^ 64

-- the entries of these trees: one for each shape, in the order in which they first occur
pub record AreOfShapes (trees : List Tree) (entries : List Entry) : Type 0 where
  pub shapes : List Tree
  pub firsts : Firsts SameShape [] trees shapes
  pub stands : EachWith SameShape shapes (trees_of entries)
  pub earlier : NameEarlier entries
