-- For contracts between crates: nobody has to believe it.
-- What stands between the items of a dictionary and the contexts of the tree that it stands for.
use Rattle.std.specs.Prelude.{ℕ, ◌+◌, ◌*◌, ◌^◌, ◌≡◌, ◌<◌, ◌≤◌, if◌then◌else◌, List, [], ◌∷◌, ◌++◌, length, Some, slice_get, option_map, Result, Ok, Err}
use Rattle.k_optab.specs.declared.region.Region.{Region}
use Rattle.k_dict_entries.specs.Trees.{Alike, Forest, bare, size}
use Rattle.k_dict_entries.specs.Entries.{copies, tree_at}
use Rattle.k_dict_entries.specs.Tallies.{counted}
use Rattle.k_dict_entries.specs.declared.entry.Entry.{Entry}
use Rattle.k_dict_entries.specs.declared.entry.Run.{Run}
use Rattle.k_selfpar.specs.Contexts.{AreUnder, inner_forest, has_turns}
use Rattle.k_selfpar.specs.Items.{AreItems, Rise, item_of}
use Rattle.k_selfpar.specs.Ratio.{IsRatio}
use Rattle.k_selfpar.specs.Sums.{outer_works}
use Rattle.k_selfpar.specs.declared.context.Context.{Context}
use Rattle.k_selfpar.specs.declared.context.ContextFault.{ContextFault}
use Rattle.k_selfpar.specs.declared.context.ContextFault.TheVariants.{Wide, Memory}
use Rattle.k_selfpar.specs.declared.item.Item.{Item}
use Rattle.k_selfpar.specs.declared.sums.Sums.{Sums}

-- the instances that items stand for: of each entry as many as it is counted, each with those within it
abbrev pub standing : List Entry → List Item → Forest
standing entries [] = bare
standing entries (i ∷ items) = copies i.run.count (tree_at entries i.run.entry) (standing entries items)

-- a run with the region of its entry
abbrev pub item_for : List Entry → Run → Item
item_for entries run = item_of entries run.entry run.count

-- runs by rising number, with the children that so many instances have by other runs
abbrev pub tallied : ℕ → List Run → List Run → List Run
tallied count [] known = known
tallied count (run ∷ runs) known = tallied count runs (counted run.entry (count * run.count) known)

-- the instances of items come to little enough
pub record Fits (entries : List Entry) (items : List Item) : Type 0 where
  pub works : outer_works (standing entries items) ≤ 2 ^ 44
  pub few : size (standing entries items) ≤ 2 ^ 59

-- items that stand for the children of the instances of others, in order of their regions
pub record AreChildren (entries : List Entry) (items children : List Item) : Type 0 where
  pub are : AreItems entries children
  pub rise : Rise 0 children
  pub stand : Alike (standing entries children) (inner_forest (standing entries items))

-- a context tells these sums of its region, and so many turns where the region has turns
pub record IsContextOf (regions : List Region) (parent region : ℕ) (s : Sums) (turns : ℕ) (c : Context) : Type 0 where
  pub parent_is : c.parent ≡ parent
  pub region_is : c.region ≡ region
  pub kind : option_map (λ (r : Region). r.kind) (slice_get regions region) ≡ Some c.kind
  pub instances : c.instances ≡ s.instances
  pub turns_are : c.turns ≡ (if has_turns regions region then turns else 0)
  pub work : c.work ≡ s.work
  pub path : c.path ≡ s.path
  pub sp : IsRatio s.serial s.path c.sp.0 c.sp.1

-- the contexts of items whose parents are in one context are added to others, or there are too many with them
abbrev pub AddsContexts : List Region → List Entry → ℕ → List Item → List Context → Result (Unit {0}) ContextFault → List Context → Type 0
AddsContexts regions entries parent items old (Ok done) new =
    (more : List Context) × (new ≡ old ++ more) × AreUnder regions parent (length old) (standing entries items) more × (length new ≤ 65536)
AddsContexts regions entries parent items old (Err Wide) new =
    (more : List Context) × AreUnder regions parent (length old) (standing entries items) more × (65536 < length old + length more)
AddsContexts regions entries parent items old (Err Memory) new = Unit {0}
