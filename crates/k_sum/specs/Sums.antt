-- Believed with a public law.
-- *Sum*: what many runs of one program come to together.
use Rattle.std.specs.Prelude.{◌+◌, ◌-◌, ◌*◌, ◌^◌, ◌<◌, ◌≤◌, ◌≡◌, ◌≢◌, ◌⊎◌, List, [], ◌∷◌, length, Some, Result, Ok, Err}
use Rattle.k_dict_entries.specs.Dictionary.{refusal}
use Rattle.k_dict_entries.specs.Entries.{AreRuns}
use Rattle.k_dict_entries.specs.Rules.{entry_of}
use Rattle.k_dict_entries.specs.Tallies.{total}
use Rattle.k_dict_entries.specs.declared.dict.DictFault.{DictFault}
use Rattle.k_dict_entries.specs.declared.dict.DictFault.TheVariants.{Full, Memory}
use Rattle.k_dict_entries.specs.declared.entry.Entry.{Entry}
use Rattle.k_dict_entries.specs.declared.entry.Run.{Run}
use Rattle.k_dict_saved.specs.Migration.{HaveFewChildren, renumbered}
use Rattle.k_dict_saved.specs.declared.saved.Saved.{Saved}
use Rattle.k_sum.specs.Exits.{with_exits}
use Rattle.k_sum.specs.Exits as ends
use Rattle.k_sum.specs.declared.exits.Exit.{Exit}
use Rattle.k_sum.specs.Joining.{GoesOn, counted_all, joined}
use Rattle.k_sum.specs.declared.sum.Sum.{Sum}
use Rattle.k_sum.specs.declared.sum.SumFault.{SumFault}
use Rattle.k_sum.specs.declared.sum.SumFault.TheVariants.{Other, Large, Dict}

-- the sum of one run
abbrev pub sum_of : Saved → Sum
sum_of saved = record {
  runs = 1;
  exits = record { value = saved.exit; runs = 1 } ∷ [];
  ops = saved.ops;
  work = (entry_of saved.dict (length saved.dict - 1)).work;
  regions = saved.regions;
  dict = saved.dict;
  roots = record { entry = length saved.dict - 1; count = 1 } ∷ [];
}

-- the roots of runs, and of others whose entries were joined
abbrev pub all_roots : Sum → Sum → List Run
all_roots one other = renumbered (joined one.dict other.dict).numbers other.roots (counted_all one.roots [])

-- the runs of two sums together: numbers add up, the entries of the second stand behind those of the first where they are not
-- there, and each entry is as often a root as in both
abbrev pub both : Sum → Sum → Sum
both one other = record {
  runs = one.runs + other.runs;
  exits = with_exits (with_exits [] one.exits) other.exits;
  ops = one.ops + other.ops;
  work = one.work + other.work;
  regions = one.regions;
  dict = (joined one.dict other.dict).dict;
  roots = all_roots one other;
}

-- the numbers of a sum are small, and its roots are its runs
pub record HasBounds (sum : Sum) : Type 0 where
  pub runs : sum.runs < 2 ^ 32
  pub ops : sum.ops ≤ 1000000000 * sum.runs
  pub work : sum.work < 2 ^ 62
  pub exits : ends.total sum.exits ≡ sum.runs
  pub count : total sum.roots ≡ sum.runs
  pub roots : AreRuns 0 (length sum.dict) sum.roots
  pub children : HaveFewChildren sum.dict

-- two sums together pass a limit
abbrev pub IsLarge : Sum → Sum → Type 0
IsLarge one other = (2 ^ 32 ≤ one.runs + other.runs) ⊎ (2 ^ 62 ≤ one.work + other.work)

-- what `add` answers: both sums together, or why they are not put together, and then nothing is changed
abbrev pub AddsTo : Sum → Sum → Result (Unit {0}) SumFault → Sum → Type 0
AddsTo old other (Ok x) new = (old.regions ≡ other.regions) × (¬ IsLarge old other) × (new ≡ both old other) × HasBounds new
AddsTo old other (Err Other) new = (old.regions ≢ other.regions) × (new ≡ old)
AddsTo old other (Err Large) new = (old.regions ≡ other.regions) × IsLarge old other × (new ≡ old)
AddsTo old other (Err (Dict (Full which))) new =
    (old.regions ≡ other.regions) × (¬ IsLarge old other) × (refusal 0 0 (both old other).dict ≡ Some which) × (new ≡ old)
AddsTo old other (Err (Dict Memory)) new = new ≡ old

-- exit values and roots can be counted together with those of a sum
pub record CanJoin (ended : List Exit) (begun : List Run) (other : Sum) : Type 0 where
  pub exits : ends.total ended + other.runs < 2 ^ 64
  pub roots : total begun + other.runs < 2 ^ 64

-- what joining the parts answers
abbrev pub Joins : List Entry → List Exit → List Run → Sum → Result (List Exit × List Run) DictFault → List Entry → Type 0
Joins old list roots other (Ok found) new =
    (new ≡ (joined old other.dict).dict) × (found.0 ≡ with_exits (with_exits [] list) other.exits)
    × (found.1 ≡ renumbered (joined old other.dict).numbers other.roots (counted_all roots [])) × GoesOn old new
Joins old list roots other (Err (Full which)) new = (refusal 0 0 (joined old other.dict).dict ≡ Some which) × GoesOn old new
Joins old list roots other (Err Memory) new = GoesOn old new
