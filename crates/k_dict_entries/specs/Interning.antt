-- For contracts between crates: nobody has to believe it.
-- What the calls of a dictionary answer.
use Rattle.std.specs.Prelude.{ℕ, ◌+◌, ◌<◌, ◌≤◌, ◌≡◌, ◌⊎◌, List, [], ◌∷◌, ◌++◌, length, Some, slice_get, Contains, Result, Ok, Err}
use Rattle.k_optab.specs.declared.node.Node.{Node}
use Rattle.k_dict_entries.specs.Dictionary.{IsDictionary, refusal}
use Rattle.k_dict_entries.specs.Entries.{AreRuns, all_runs}
use Rattle.k_dict_entries.specs.declared.entry.Entry.{Entry}
use Rattle.k_dict_entries.specs.declared.dict.DictFault.{DictFault}
use Rattle.k_dict_entries.specs.declared.dict.DictFault.TheVariants.{Full, Memory}
use Rattle.k_dict_entries.specs.declared.dict.Which.TheVariants.{Entries, AllRuns}

-- the entry's runs name entries that are there, by rising number, each once, with counts of at least 1
abbrev pub CanIntern : List Entry → Entry → Type 0
CanIntern entries e = AreRuns 0 (length entries) e.runs

-- an entry is in the list with that number, and was there before or stands last
pub record HasNumber (old new : List Entry) (e : Entry) (n : ℕ) : Type 0 where
  pub at : slice_get new n ≡ Some e
  pub list : (Contains old e × (new ≡ old)) ⊎ ((¬ Contains old e) × (new ≡ old ++ e ∷ []))

-- what `intern` answers, by the entries before it and after it
abbrev pub Interns : List Entry → Entry → Result ℕ DictFault → List Entry → Type 0
Interns old e (Ok n) new = HasNumber old new e n
Interns old e (Err (Full Entries)) new = (¬ Contains old e) × (length old ≡ 1048576) × (new ≡ old)
Interns old e (Err (Full AllRuns)) new = (¬ Contains old e) × (length old < 1048576) × (16777216 < all_runs old + length e.runs) × (new ≡ old)
Interns old e (Err Memory) new = new ≡ old

-- what `gather` answers: the dictionary of the tree, or the limit that its entries pass first, in their order
abbrev pub Gathers : List Node → Result (List Entry) DictFault → Type 0
Gathers nodes (Ok dict) = IsDictionary nodes dict
Gathers nodes (Err (Full which)) = (entries : List Entry) × IsDictionary nodes entries × (refusal 0 0 entries ≡ Some which)
Gathers nodes (Err Memory) = Unit {0}
