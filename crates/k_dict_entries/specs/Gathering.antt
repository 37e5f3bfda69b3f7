-- Believed with a public law.
-- Where a gathering stands, and what each node of the list makes of it.
use Rattle.std.specs.Prelude.{ℕ, zero, suc, ◌+◌, ◌-◌, ◌^◌, ◌<◌, ◌≡◌, ◌≤◌, Bool, true, false, ◌&&◌, nat_eq, List, [], ◌∷◌, ◌++◌, length, Result, Ok, Err, Some, if◌then◌else◌}
use Rattle.std.specs.Cmp.Lexicographic.{pointwise}
use Rattle.k_optab.specs.declared.node.Node.{Node}
use Rattle.k_dict_entries.specs.Dictionary.{refusal}
use Rattle.k_dict_entries.specs.Entries.{AreRuns}
use Rattle.k_dict_entries.specs.Tallies.{count_of, counted, total}
use Rattle.k_dict_entries.specs.declared.entry.Entry.{Entry}
use Rattle.k_dict_entries.specs.declared.entry.Run.{Run}
use Rattle.k_dict_entries.specs.declared.dict.DictFault.{DictFault}
use Rattle.k_dict_entries.specs.declared.dict.DictFault.TheVariants.{Full, Memory}
use Rattle.k_dict_entries.specs.declared.gathering.Level.{Level}
use Rattle.k_dict_entries.specs.declared.gathering.Gathering.{Gathering}

-- whether two runs are one
abbrev pub is_run : Run → Run → Bool
is_run one other = nat_eq one.entry other.entry && nat_eq one.count other.count

-- whether two entries are one
abbrev pub is_entry : Entry → Entry → Bool
is_entry one other = nat_eq one.region other.region && (nat_eq one.work other.work && (nat_eq one.path other.path && pointwise is_run one.runs other.runs))

-- the number of an entry, which is that of the next one where it is not there
abbrev pub number_of : List Entry → Entry → ℕ
number_of [] e = 0
number_of (d ∷ entries) e = if is_entry e d then 0 else suc (number_of entries e)

-- the entries with this one
abbrev pub with_entry : List Entry → Entry → List Entry
with_entry [] e = e ∷ []
with_entry (d ∷ entries) e = if is_entry e d then d ∷ entries else d ∷ with_entry entries e

-- the entries so far, and the open instances, the innermost first
pub record State : Type 0 where
  pub dict : List Entry
  pub levels : List Level

-- where a gathering stands
abbrev pub state : Gathering → State
state g = record { dict = g.dict; levels = g.levels }

-- the entry of an instance that is closed
abbrev pub summary : Level → Entry
summary l = record { region = l.region; work = l.work; path = l.path; runs = l.children }

-- one more child for the innermost open instance
abbrev pub with_child : ℕ → List Level → List Level
with_child n [] = []
with_child n (l ∷ levels) = record l { children = counted n 1 l.children } ∷ levels

-- behind the end of the innermost open instance
abbrev pub closed_of : List Entry → List Level → State
closed_of dict [] = record { dict = dict; levels = [] }
closed_of dict (l ∷ levels) = record { dict = with_entry dict (summary l); levels = with_child (number_of dict (summary l)) levels }

-- the same, of a state
abbrev pub closed : State → State
closed s = closed_of s.dict s.levels

-- behind the ends of so many
abbrev pub closed_times : ℕ → State → State
closed_times zero s = s
closed_times (suc n) s = closed_times n (closed s)

-- behind the ends of all open instances but so many
abbrev pub closed_to : ℕ → State → State
closed_to depth s = closed_times (length s.levels - depth) s

-- behind the entry of an instance
abbrev pub opened : Node → State → State
opened n s = record s { levels = record { region = n.region; work = n.work; path = n.path; children = [] } ∷ s.levels }

-- behind these nodes
abbrev pub taken : List Node → State → State
taken [] s = s
taken (n ∷ nodes) s = taken nodes (opened n (closed_to n.depth s))

-- the children of these open instances are runs of entries below a number
abbrev pub HaveRuns : ℕ → List Level → Type 0
HaveRuns high [] = Unit {0}
HaveRuns high (l ∷ levels) = AreRuns 0 high l.children × HaveRuns high levels

-- how many instances are open or counted as children of open ones
abbrev pub weight : List Level → ℕ
weight [] = 0
weight (l ∷ levels) = (1 + total l.children) + weight levels

-- the numbers of a gathering are small enough, and its children are runs of its entries
pub record IsSound (s : State) : Type 0 where
  pub small : weight s.levels < 2 ^ 64
  pub runs : HaveRuns (length s.dict) s.levels

-- the call leads to this state, or its entries pass that limit first
abbrev pub Leads : {T : Type 0} → Result T DictFault → State → State → Type 0
Leads (Ok x) new target = new ≡ target
Leads (Err (Full which)) new target = refusal 0 0 target.dict ≡ Some which
Leads (Err Memory) new target = Unit {0}

-- a gathering of these nodes gives these entries, or they pass that limit first
abbrev pub LeadsTo : Result (List Entry) DictFault → State → Type 0
LeadsTo (Ok dict) target = dict ≡ target.dict
LeadsTo (Err (Full which)) target = refusal 0 0 target.dict ≡ Some which
LeadsTo (Err Memory) target = Unit {0}

-- before the first node
abbrev pub start : State
start = record { dict = []; levels = [] }

-- behind all nodes, with all instances closed
abbrev pub gathered : List Node → State
gathered nodes = closed_to 0 (taken nodes start)

-- one more child of that number does not pass the greatest count
abbrev pub CanCount : ℕ → List Level → Type 0
CanCount n [] = Unit {0}
CanCount n (l ∷ levels) = count_of n l.children + 1 < 2 ^ 64
