-- Believed with a public law.
-- What the summaries that a machine keeps mean: they are the dictionary of the closed tracked instances so far, and tell of each open one which
-- children of it are closed.
use Rattle.std.specs.Prelude.{ℕ, zero, suc, ◌≡◌, ◌<◌, ◌⊎◌, true, false, List, [], ◌∷◌, ◌++◌, length, take, reverse, Option, Some, None, All}
use Rattle.k_optab.specs.declared.event.Event.{Event}
use Rattle.k_optab.specs.declared.closed.Closed.{Closed}
use Rattle.k_optab.specs.Events.{Operation, operations, total_latency}
use Rattle.k_optab.specs.Graph.{work}
use Rattle.k_optab.specs.Instances.{tracked}
use Rattle.k_optab.specs.Open.{Open, open_after}
use Rattle.k_optab.specs.Tree.{EachWith, IsNodeOf}
use Rattle.k_dict_entries.specs.Dictionary.{Firsts}
use Rattle.k_dict_entries.specs.Entries.{AreApart, AreRuns, NameEarlier, laid, trees_of}
use Rattle.k_dict_entries.specs.Trees.{Forest, bare, alone, Tree, SameShape, Alike, nodes_of, post_order}
use Rattle.k_dict_entries.specs.declared.entry.Entry.{Entry}
use Rattle.k_dict_entries.specs.declared.entry.Run.{Run}
use Rattle.k_hcpa_meaning.specs.Summing.{Opened, Summing, is_over}

-- closed instances that were entered since this open one are those of a forest, whose outermost ones have this depth
pub record AreWithin (ops : List Operation) (o : Open) (depth : ℕ) (inside : List Closed) (f : Forest) : Type 0 where
  pub entered : All (λ i. o.enter < i.enter) inside
  pub nodes : EachWith (IsNodeOf ops) inside (nodes_of depth f)

-- closed instances, in order of entry, are those of forests: the first one has those within the innermost open instance, each other one those within
-- the next open instance around it, and the last one those that lie in no open instance
abbrev pub AreClosedIn : List Operation → List Open → List Closed → List Forest → Type 0
AreClosedIn ops opens closed [] = ⊥
AreClosedIn ops [] closed (f ∷ []) = EachWith (IsNodeOf ops) closed (nodes_of 0 f)
AreClosedIn ops [] closed (f ∷ g ∷ outer) = ⊥
AreClosedIn ops (o ∷ opens) closed (f ∷ outer) =
    (before : List Closed) × (inside : List Closed) × (closed ≡ before ++ inside) × All (λ i. i.exit < o.enter) before
    × AreWithin ops o (length outer) inside f × AreClosedIn ops opens before outer

-- the closed instances with all within them, in the order in which they were left
abbrev pub trees_in : List Forest → List Tree
trees_in [] = []
trees_in (f ∷ outer) = trees_in outer ++ post_order f

-- the entries of closed instances: one for each shape, in the order in which the first of each was left
pub record AreEntriesOf (forests : List Forest) (entries : List Entry) : Type 0 where
  pub shapes : List Tree
  pub firsts : Firsts SameShape [] (trees_in forests) shapes
  pub stands : EachWith SameShape shapes (trees_of entries)
  pub earlier : NameEarlier entries
  pub apart : AreApart entries

-- runs tell how often each entry occurs among these instances: what they stand for is alike
pub record AreRunsOf (entries : List Entry) (f : Forest) (runs : List Run) : Type 0 where
  pub rising : AreRuns 0 (length entries) runs
  pub alike : Alike (laid (trees_of entries) runs) f

-- the runs of each level are those of the closed children of its instance
abbrev pub HaveChildren : List Entry → List Forest → List Opened → Type 0
HaveChildren entries [] levels = Unit {0}
HaveChildren entries (f ∷ outer) [] = Unit {0}
HaveChildren entries (f ∷ outer) (l ∷ levels) = AreRunsOf entries f l.runs × HaveChildren entries outer levels

-- the entries are kept, and each level's runs; or they are over the limits
abbrev pub AreKept : List Forest → List Opened → Option (List Entry) → Type 0
AreKept forests levels None = (entries : List Entry) × AreEntriesOf forests entries × (is_over entries ≡ true)
AreKept forests levels (Some entries) = AreEntriesOf forests entries × (is_over entries ≡ false) × HaveChildren entries forests levels

-- a level is that of this open instance
pub record IsLevelOf (ops : List Operation) (o : Open) (l : Opened) : Type 0 where
  pub region : l.region ≡ o.region
  pub before : l.before ≡ work ops 0 o.start

-- the last forest has no instance
abbrev pub HasNoRoot : List Forest → Type 0
HasNoRoot [] = Unit {0}
HasNoRoot (f ∷ []) = f ≡ bare
HasNoRoot (f ∷ g ∷ outer) = HasNoRoot (g ∷ outer)

-- while so many instances are open no outermost one is closed; where none is open, nothing has happened, or the run was one outermost instance
abbrev pub HasRoot : List Event → ℕ → List Forest → Type 0
HasRoot events zero forests = ((events ≡ []) × (forests ≡ bare ∷ [])) ⊎ ((t : Tree) × (forests ≡ alone t ∷ []))
HasRoot events (suc opened) forests = HasNoRoot forests

-- the open instances below a depth, the innermost first
abbrev pub open_below : ℕ → List Event → List Open
open_below depth events = reverse (take depth (open_after events))

-- SUMMARIES ARE THE DICTIONARY SO FAR: the levels are those of the open instances below the depth, the innermost first; and the closed ones below the
-- depth, each with its work and its heaviest path, are the instances of forests whose entries are kept
pub record IsSummed (depth : ℕ) (events : List Event) (s : Summing) : Type 0 where
  pub opened : s.opened ≡ length (open_after events)
  pub work : s.work ≡ total_latency (operations events)
  pub levels : EachWith (IsLevelOf (operations events)) (open_below depth events) s.levels
  pub forests : List Forest
  pub instances : AreClosedIn (operations events) (open_below depth events) (tracked depth events) forests
  pub kept : AreKept forests s.levels s.dict
  pub root : HasRoot events s.opened forests
