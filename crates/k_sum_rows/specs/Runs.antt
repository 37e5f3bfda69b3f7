-- For contracts between crates: nobody has to believe it.
-- The trees of runs, side by side: a root stands for as many of them as there were runs with it.
use Rattle.std.specs.Prelude.{ℕ, ◌<◌, ◌≤◌, ◌≡◌, List, length, Result, Ok, Err}
use Rattle.k_optab.specs.declared.region.Region.{Region}
use Rattle.k_dict_entries.specs.Entries.{AreRuns, laid, trees_of}
use Rattle.k_dict_entries.specs.Rules.{child_works}
use Rattle.k_dict_entries.specs.Tallies.{total}
use Rattle.k_dict_entries.specs.Trees.{Forest, size}
use Rattle.k_dict_entries.specs.declared.entry.Entry.{Entry}
use Rattle.k_dict_entries.specs.declared.entry.Run.{Run}
use Rattle.k_selfpar.specs.Contexts.{AreUnder}
use Rattle.k_selfpar.specs.Counts.{Adds, dot, weighed}
use Rattle.k_selfpar.specs.Items.{AreItems, Rise}
use Rattle.k_selfpar.specs.Items as items_spec
use Rattle.k_selfpar.specs.declared.context.Context.{Context}
use Rattle.k_selfpar.specs.declared.context.ContextFault.{ContextFault}
use Rattle.k_selfpar.specs.declared.context.ContextFault.TheVariants.{Wide, Memory}
use Rattle.k_selfpar.specs.declared.item.Item.{Item}

-- the trees of runs whose roots are these
abbrev pub run_trees : List Entry → List Run → Forest
run_trees entries roots = laid (trees_of entries) roots

-- the roots of runs: entries by rising number, of which there are some; their works are at most 2 ^ 44 together and their instances at
-- most 2 ^ 59, as those of one profile
pub record AreRunRoots (entries : List Entry) (roots : List Run) : Type 0 where
  pub rise : AreRuns 0 (length entries) roots
  pub some : 0 < total roots
  pub works : child_works entries roots ≤ 17592186044416
  pub few : size (run_trees entries roots) ≤ 576460752303423488

-- what `contexts` answers: the contexts of trees side by side, or that they are too many
abbrev pub GivesRunContexts : List Region → Forest → Result (List Context) ContextFault → Type 0
GivesRunContexts regions f (Ok contexts) = AreUnder regions 0 0 f contexts × (length contexts ≤ 65536)
GivesRunContexts regions f (Err Wide) = (contexts : List Context) × AreUnder regions 0 0 f contexts × (65536 < length contexts)
GivesRunContexts regions f (Err Memory) = Unit {0}

-- these numbers tell how often each entry occurs in the trees of runs: whatever entries give, what they give of their own, as often as they
-- are counted, is what the roots give
pub record AreRunCounts (entries : List Entry) (roots : List Run) (counts : List ℕ) : Type 0 where
  pub count : length counts ≡ length entries
  pub adds : (own f : ℕ → ℕ) → Adds entries own f → dot 0 counts own ≡ weighed f roots

-- these items stand for the instances of runs, in order of their regions
pub record AreItemsOfRuns (entries : List Entry) (roots : List Run) (items : List Item) : Type 0 where
  pub are : AreItems entries items
  pub rise : Rise 0 items
  pub gives : (own f : ℕ → ℕ) → Adds entries own f → items_spec.total own items ≡ weighed f roots
