-- Believed with a public law.
-- The order of the entries in the file of a sum. It depends on what the entries tell, and not on the order in which runs were put together.
use Rattle.std.specs.Prelude.{ℕ, ◌+◌, ◌<◌, ◌≡◌, max, List, [], ◌∷◌, length, Some, slice_get, slice_index_or}
use Rattle.std.specs.Cmp.Lexicographic.{slice_cmp}
use Rattle.std.specs.Ordering.{nat_cmp}
use Rattle.std.specs.declared.cmp.Ordering.TheVariants.{Less}
use Rattle.k_dict_entries.specs.declared.entry.Entry.{Entry}
use Rattle.k_dict_entries.specs.declared.entry.Run.{Run}
use Rattle.k_dict_saved.specs.Migration.{renumbered, renumbered_entry}
use Rattle.k_sum.specs.declared.sum.Sum.{Sum}

-- how many entries are the fewest that stand before one with these runs: those up to the last that they name
abbrev pub behind : List Run → ℕ
behind [] = 0
behind (run ∷ runs) = max (run.entry + 1) (behind runs)

-- the numbers of runs, as they stand in a line
abbrev pub run_numbers : List Run → List ℕ
run_numbers [] = []
run_numbers (run ∷ runs) = run.entry ∷ run.count ∷ run_numbers runs

-- the numbers by which entries are ordered: how many are the fewest that stand before this one, and then the numbers of its line
abbrev pub key_of : Entry → List ℕ
key_of e = behind e.runs ∷ e.region ∷ e.work ∷ e.path ∷ run_numbers e.runs

-- an entry comes before another: where their numbers first differ its own is lower, or it has no more
abbrev pub ComesBefore : Entry → Entry → Type 0
ComesBefore d e = slice_cmp nat_cmp (key_of d) (key_of e) ≡ Less

-- each entry comes before those behind it
abbrev pub AreInOrder : List Entry → Type 0
AreInOrder entries = (m n : ℕ) (d e : Entry) → m < n → slice_get entries m ≡ Some d → slice_get entries n ≡ Some e → ComesBefore d e

-- the entries of a dictionary in order, where each of them has that number: it names others by their new numbers, and no other entry is there
pub record AreOrdered (entries : List Entry) (numbers : List ℕ) (ordered : List Entry) : Type 0 where
  pub count : length numbers ≡ length entries
  pub order : AreInOrder ordered
  pub each : (n : ℕ) (e : Entry) → slice_get entries n ≡ Some e → slice_get ordered (slice_index_or numbers n 0) ≡ Some (renumbered_entry numbers e)
  pub no_other : (k : ℕ) (d : Entry) → slice_get ordered k ≡ Some d → (n : ℕ) × (n < length entries) × (slice_index_or numbers n 0 ≡ k)

-- a sum with its entries in order: what it tells of runs stays
pub record IsOrdered (sum ordered : Sum) : Type 0 where
  pub numbers : List ℕ
  pub dict : AreOrdered sum.dict numbers ordered.dict
  pub roots : ordered.roots ≡ renumbered numbers sum.roots []
  pub runs : ordered.runs ≡ sum.runs
  pub exits : ordered.exits ≡ sum.exits
  pub ops : ordered.ops ≡ sum.ops
  pub work : ordered.work ≡ sum.work
  pub regions : ordered.regions ≡ sum.regions
