-- For contracts between crates: nobody has to believe it.
-- Several levels are closed one behind the other.
use Rattle.std.specs.Prelude.{ℕ, Bool, true, false, ◌≡◌, ◌<◌, ◌≤◌, List, [], ◌∷◌, ◌++◌, length, take, Option, Some, None, Result, Ok, Err}
use Rattle.k_dict_entries.specs.Entries.{AreRuns}
use Rattle.k_dict_entries.specs.Tallies.{counted, total}
use Rattle.k_dict_entries.specs.declared.entry.Entry.{Entry}
use Rattle.k_dict_entries.specs.declared.dict.DictFault.{DictFault}
use Rattle.k_dict_entries.specs.declared.dict.DictFault.TheVariants.{Full, Memory}
use Rattle.k_hcpa_meaning.specs.Summing.{Opened, Summing, with_child, innermost_closed}

-- an open instance with one child more, where there is one
abbrev pub with_last : Option ℕ → Opened → Opened
with_last None l = l
with_last (Some child) l = record l { runs = counted child 1 l.runs }

-- the levels with one child more for the innermost, where there is one
abbrev pub pending : Option ℕ → List Opened → List Opened
pending None levels = levels
pending (Some child) levels = with_child child levels

-- the levels, the innermost first, and the entries
pub record Part : Type 0 where
  pub levels : List Opened
  pub dict : Option (List Entry)

-- with that work and no count of instances
abbrev pub summing_at : ℕ → Part → Summing
summing_at work p = record { levels = p.levels; opened = 0; entered = 0; work = work; dict = p.dict }

-- what a closed level changes
abbrev pub part_of : Summing → Part
part_of s = record { levels = s.levels; dict = s.dict }

-- the innermost level is closed, with that path
abbrev pub closed_once : ℕ → ℕ → Part → Part
closed_once work path p = part_of (innermost_closed path p.levels (summing_at work p))

-- the innermost levels are closed, with these paths, the innermost first
abbrev pub closed_each : ℕ → List ℕ → Part → Part
closed_each work [] p = p
closed_each work (path ∷ paths) p = closed_each work paths (closed_once work path p)

-- what interning these levels, the innermost first, answers: the number of the last entry, which is to be counted in the level behind, whichever
-- levels there are; or the entries are over the limits
abbrev pub Closes : ℕ → List ℕ → List Opened → List Entry → Result (Option ℕ) DictFault → List Entry → Type 0
Closes work paths levels old (Ok last) new =
    (outer : List Opened) → closed_each work paths (record { levels = levels ++ outer; dict = Some old }) ≡ record { levels = pending last outer; dict = Some new }
Closes work paths levels old (Err (Full which)) new =
    (outer : List Opened) → closed_each work paths (record { levels = levels ++ outer; dict = Some old }) ≡ record { levels = outer; dict = None }
Closes work paths levels old (Err Memory) new = Unit {0}

-- these levels have runs of entries below a number, and few children
abbrev pub AreOpen : ℕ → List Opened → Type 0
AreOpen high [] = Unit {0}
AreOpen high (l ∷ levels) = AreRuns 0 high l.runs × (total l.runs ≤ 4611686018427387904) × AreOpen high levels

-- the entries go on
pub record GoesOn (old new : List Entry) : Type 0 where
  pub longer : length old ≤ length new
  pub kept : take (length old) new ≡ old

-- a child is one of so many entries
abbrev pub IsBelow : ℕ → Option ℕ → Type 0
IsBelow high None = Unit {0}
IsBelow high (Some child) = child < high

-- each of these levels has few children
abbrev pub AreFew : List Opened → Type 0
AreFew [] = Unit {0}
AreFew (l ∷ levels) = (total l.runs ≤ 4611686018427387904) × AreFew levels

-- closing levels leads to these, and to these entries if they are kept
abbrev pub ClosesTo : ℕ → List ℕ → List Opened → List Entry → Bool → List Opened → List Entry → Type 0
ClosesTo work paths levels old true outer new = closed_each work paths (record { levels = levels; dict = Some old }) ≡ record { levels = outer; dict = Some new }
ClosesTo work paths levels old false outer new = closed_each work paths (record { levels = levels; dict = Some old }) ≡ record { levels = outer; dict = None }

-- where the entries are kept, the levels are open among them
abbrev pub AreOpenIn : Option (List Entry) → List Opened → Type 0
AreOpenIn None levels = Unit {0}
AreOpenIn (Some entries) levels = AreOpen (length entries) levels

-- behind levels that are closed with these paths, the innermost first, where so much work was done in all and so many instances stay open
abbrev pub left_open : ℕ → ℕ → List ℕ → Summing → Summing
left_open work opened paths s = record {
  levels = (closed_each work paths (part_of s)).levels;
  opened = opened;
  entered = s.entered;
  work = work;
  dict = (closed_each work paths (part_of s)).dict;
}
