-- What items come to, one after the other.
use Rattle.std.proofs.Common.{◌≡◌, ℕ, ◌+◌, ◌-◌, ◌*◌, ◌^◌, ◌<◌, ◌≤◌, List, [], ◌∷◌, Some, slice_get, sym, ap, ◌∙◌, subst, arith}
use Rattle.std.proofs.lemmas.List.Elements.{All-head, All-tail}
use Rattle.k_dict_entries.specs.Trees.{Label, Forest, Tree}
use Rattle.k_dict_entries.specs.Entries.{AreRuns, NameEarlier, label_of, laid, tree_at, tree_of, trees_of}
use Rattle.k_dict_entries.specs.declared.entry.Entry.{Entry}
use Rattle.k_dict_entries.specs.declared.entry.Run.{Run}
use Rattle.k_dict_entries.proofs.EntryTrees.{tree_is}
use Rattle.k_selfpar.specs.Counts.{weighed}
use Rattle.k_selfpar.specs.Items.{AreItems, IsItem, sums_with, total, totals}
use Rattle.k_selfpar.specs.Sums.{AreSmall, HasChildren, inner_paths, inner_works, one, own_of, path, path_at, region_at, serial_in, work, work_at}
use Rattle.k_selfpar.specs.declared.item.Item.{Item}
use Rattle.k_selfpar.specs.declared.sums.Sums.{Sums}
use Rattle.k_selfpar.proofs.Giving.{outer_paths-laid, outer_works-laid}

module _ (entries : List Entry) (earlier : NameEarlier entries) (n : ℕ) (e : Entry) (at : slice_get entries n ≡ Some e) where
  tree_of_e : tree_at entries n ≡ tree_of (trees_of entries) e
  tree_of_e = tree_is entries n e at (earlier n e at)

  -- what is told of the entry's instances
  pub label_at : (tree_at entries n).label ≡ label_of e
  label_at = ap (λ (t : Tree). t.label) tree_of_e

  pub region_is : region_at entries n ≡ e.region
  region_is = ap (λ (l : Label). l.region) label_at

  pub work_is : work_at entries n ≡ e.work
  work_is = ap (λ (l : Label). l.work) label_at

  pub path_is : path_at entries n ≡ e.path
  path_is = ap (λ (l : Label). l.path) label_at

  own_is : (own : Label → Forest → ℕ) → own_of own entries n ≡ own (label_of e) (laid (trees_of entries) e.runs)
  own_is own = ap (λ (t : Tree). own t.label t.inner) tree_of_e

  pub paths_is : own_of inner_paths entries n ≡ weighed (path_at entries) e.runs
  paths_is = own_is inner_paths ∙ outer_paths-laid (trees_of entries) e.runs

  pub works_is : own_of inner_works entries n ≡ weighed (work_at entries) e.runs
  works_is = own_is inner_works ∙ outer_works-laid (trees_of entries) e.runs

  pub serial_is : own_of serial_in entries n ≡ weighed (path_at entries) e.runs + (e.work - weighed (work_at entries) e.runs)
  serial_is =
      own_is serial_in
      ∙ ap (λ x. x + (e.work - inner_works (label_of e) (laid (trees_of entries) e.runs))) (outer_paths-laid (trees_of entries) e.runs)
      ∙ ap (λ x. weighed (path_at entries) e.runs + (e.work - x)) (outer_works-laid (trees_of entries) e.runs)

  pub paths_small : HasChildren entries n → weighed (path_at entries) e.runs < 2 ^ 62
  paths_small has = subst (λ x. x < 2 ^ 62) paths_is has.paths

  pub works_small : HasChildren entries n → weighed (work_at entries) e.runs < 2 ^ 62
  works_small has = subst (λ x. x < 2 ^ 62) works_is has.works

  pub works_part : HasChildren entries n → weighed (work_at entries) e.runs ≤ e.work
  works_part has = subst (λ x. x ≤ e.work) works_is (subst (λ x. own_of inner_works entries n ≤ x) work_is has.part)

  pub runs_are : AreRuns 0 n e.runs
  runs_are = earlier n e at

-- runs of entries below a number are runs of entries below a greater one
pub runs_wider : (low high more : ℕ) (runs : List Run) → high ≤ more → AreRuns low high runs → AreRuns low more runs
runs_wider low high more [] wider are = tt
runs_wider low high more (run ∷ runs) wider are =
    let below : run.entry < high = are.1 in (are.0, omega arith, are.2, runs_wider (run.entry + 1) high more runs wider are.3)

-- one more run is added
pub run_step : (g : ℕ → ℕ) (sum all : ℕ) (rest later : List Run) (run : Run) (x : ℕ) → rest ≡ run ∷ later → g run.entry ≡ x → sum + weighed g rest ≡ all
    → (sum + run.count * x) + weighed g later ≡ all
run_step g sum all rest later run x first is whole =
    let a : weighed g rest ≡ run.count * g run.entry + weighed g later = ap (weighed g) first in
    let b : run.count * g run.entry ≡ run.count * x = ap (λ y. run.count * y) is in
    omega arith

-- what an item gives, in the entry's numbers
pub item_adds : (count a b s : ℕ) → a ≡ b → s + count * a ≡ s + count * b
item_adds count a b s e = ap (λ x. s + count * x) e

pub counted_once : (count s : ℕ) → s + count ≡ s + count * 1
counted_once count s = omega arith

-- the sums so far, of the items before the rest
pub record Summing (entries : List Entry) (items rest : List Item) (sums : Sums) : Type 0 where
  pub left : AreItems entries rest
  pub instances : sums.instances + total (own_of one entries) rest ≡ total (own_of one entries) items
  pub work : sums.work + total (own_of work entries) rest ≡ total (own_of work entries) items
  pub path : sums.path + total (own_of path entries) rest ≡ total (own_of path entries) items
  pub serial : sums.serial + total (own_of serial_in entries) rest ≡ total (own_of serial_in entries) items

module _ (entries : List Entry) (items rest : List Item) (sums : Sums) where
  pub none_summed : AreItems entries items → rest ≡ items → sums ≡ record { instances = 0; work = 0; path = 0; serial = 0 } → Summing entries items rest sums
  none_summed are whole is = record {
    left = subst (AreItems entries) (sym whole) are;
    instances = at (own_of one entries) sums.instances (ap (λ s. s.instances) is);
    work = at (own_of work entries) sums.work (ap (λ s. s.work) is);
    path = at (own_of path entries) sums.path (ap (λ s. s.path) is);
    serial = at (own_of serial_in entries) sums.serial (ap (λ s. s.serial) is);
  }
    where
      at : (g : ℕ → ℕ) (x : ℕ) → x ≡ 0 → x + total g rest ≡ total g items
      at g x none = let e : total g rest ≡ total g items = ap (total g) whole in omega arith

  pub all_summed : rest ≡ [] → Summing entries items rest sums → sums ≡ totals entries items
  all_summed is h = λ i. record {
    instances = ends (own_of one entries) sums.instances h.instances i;
    work = ends (own_of work entries) sums.work h.work i;
    path = ends (own_of path entries) sums.path h.path i;
    serial = ends (own_of serial_in entries) sums.serial h.serial i;
  }
    where
      ends : (g : ℕ → ℕ) (x : ℕ) → x + total g rest ≡ total g items → x ≡ total g items
      ends g x whole = let e : total g rest ≡ 0 = ap (total g) is in omega arith

  module _ (i : Item) (later : List Item) (first : rest ≡ i ∷ later) (h : Summing entries items rest sums) where
    next : (g : ℕ → ℕ) → total g rest ≡ i.run.count * g i.run.entry + total g later
    next g = ap (total g) first

    pub next_item : IsItem entries i
    next_item = All-head (IsItem entries) i later (subst (AreItems entries) first h.left)

    pub next_small : AreSmall (totals entries items) → AreSmall (sums_with entries i sums)
    next_small small = record {
      instances = part (own_of one entries) sums.instances h.instances small.instances;
      work = part (own_of work entries) sums.work h.work small.work;
      path = part (own_of path entries) sums.path h.path small.path;
      serial = part (own_of serial_in entries) sums.serial h.serial small.serial;
    }
      where
        part : (g : ℕ → ℕ) (x : ℕ) → x + total g rest ≡ total g items → total g items < 2 ^ 62 → x + i.run.count * g i.run.entry < 2 ^ 62
        part g x whole lt = let e = next g in omega arith

    pub more_summed : (new : Sums) → new ≡ sums_with entries i sums → Summing entries items later new
    more_summed new is = record {
      left = All-tail (IsItem entries) i later (subst (AreItems entries) first h.left);
      instances = on (own_of one entries) sums.instances new.instances (ap (λ s. s.instances) is) h.instances;
      work = on (own_of work entries) sums.work new.work (ap (λ s. s.work) is) h.work;
      path = on (own_of path entries) sums.path new.path (ap (λ s. s.path) is) h.path;
      serial = on (own_of serial_in entries) sums.serial new.serial (ap (λ s. s.serial) is) h.serial;
    }
      where
        on : (g : ℕ → ℕ) (x y : ℕ) → y ≡ x + i.run.count * g i.run.entry → x + total g rest ≡ total g items → y + total g later ≡ total g items
        on g x y e whole = let f = next g in omega arith
