-- Contexts from items: what is counted of their children, and what is listed so far.
use Rattle.std.proofs.Common.{◌≡◌, ℕ, suc, ◌+◌, ◌*◌, ◌^◌, ◌<◌, ◌≤◌, ◌==◌, max, List, [], ◌∷◌, ◌++◌, length, map, Some, Ok, Err, slice_get, refl, sym, ap, ◌∙◌, subst, arith, append_assoc, append-nil, length-append, if◌then◌else◌}
use Rattle.std.specs.Prelude.{All}
use Rattle.std.specs.List.Sorted.{IsPermutation}
use Rattle.std.proofs.Math.Nat.{mul-add}
use Rattle.std.proofs.lemmas.List.Elements.{All-cons, All-head, All-nil, All-tail, All-weaker, filter-append}
use Rattle.std.proofs.lemmas.List.Sorted.{All-permutation}
use Rattle.k_optab.specs.declared.region.Region.{Region}
use Rattle.k_dict_entries.specs.Trees.{Alike, Forest, Tree, bare, further, grown, height, size}
use Rattle.k_dict_entries.specs.Entries.{AreRuns, NameEarlier, laid, tree_at, trees_of}
use Rattle.k_dict_entries.specs.Rules.{AreProfile, NameRegions}
use Rattle.k_dict_entries.specs.Tallies.{counted, count_of, total as count_all}
use Rattle.k_dict_entries.specs.declared.entry.Entry.{Entry}
use Rattle.k_dict_entries.specs.declared.entry.Run.{Run}
use Rattle.k_dict_entries.proofs.EntryTrees.{tree_is}
use Rattle.k_dict_entries.proofs.Forests.{Alike-refl, Alike-size}
use Rattle.k_dict_entries.proofs.Sound.{count_of-total, total-counted}
use Rattle.k_selfpar.specs.declared.context.Context.{Context}
use Rattle.k_selfpar.specs.declared.context.ContextFault.{ContextFault}
use Rattle.k_selfpar.specs.declared.context.ContextFault.TheVariants.{Wide, Memory}
use Rattle.k_selfpar.specs.declared.item.Item.{Item}
use Rattle.k_selfpar.specs.Contexts.{AreUnder, IsContext, NoneBelow, inner_forest, chosen, count_in, group, has_turns, none as nothing, others, with_beside}
use Rattle.k_selfpar.specs.Grouping.{AddsContexts, AreChildren, Fits, IsContextOf, item_for, standing, tallied}
use Rattle.k_selfpar.specs.Items.{AreItems, BeginsElsewhere, IsItem, Rise, item_of, items_in, total, totals}
use Rattle.k_selfpar.specs.Ratio.{IsRatio}
use Rattle.k_selfpar.specs.Sums.{AreSmall, one, outer, outer_paths, outer_works, own_of, path, serial_in, work}
use Rattle.k_selfpar.proofs.Adding.{runs_wider}
use Rattle.k_selfpar.proofs.Besides.{chosen_alike, count-below-size, count_alike, height-beside, height-children, height_alike, size-beside, size-children, with_beside_left, works-beside, works_alike}
use Rattle.k_selfpar.proofs.ItemLists.{all_back, all_front, front_some, items_in-none, items_in-same, rise_all, rise_behind, rise_first, total_some}
use Rattle.k_selfpar.proofs.Profile.{Bounded, paths_at_most_works, serial_at_most, work_small}
use Rattle.k_selfpar.proofs.Standing.{beside-bare, bounded_standing, children-copies, chosen-standing, count-beside, count-laid, count-repeated, items-runs, laid_tallied, names_standing, none_below, others-standing, outer-standing, repeated, repeated_moved, runs-tallied, standing-append, standing-permutation, standing-runs}
use Rattle.k_selfpar.proofs.Under.{has_contexts, names_region, opened, under_alike}

-- the children counted so far, of the items before the rest
pub record Tallying (entries : List Entry) (items rest : List Item) (tally : List Run) : Type 0 where
  pub left : AreItems entries rest
  pub runs : AreRuns 0 (length entries) tally
  pub stand : Alike (with_beside (laid (trees_of entries) tally) (inner_forest (standing entries rest))) (inner_forest (standing entries items))

pub none_tallied : (entries : List Entry) (items : List Item) (tally : List Run) → AreItems entries items → tally ≡ [] → Tallying entries items items tally
none_tallied entries items tally are none =
    subst (λ (l : List Run). Tallying entries items items l) (sym none)
    (record { left = are; runs = tt; stand = Alike-refl (inner_forest (standing entries items)) })

module _ (entries : List Entry) (earlier : NameEarlier entries) (items rest : List Item) (tally : List Run) (h : Tallying entries items rest tally) (i : Item)
    (later : List Item) (first : rest ≡ i ∷ later) (e : Entry) (at : slice_get entries i.run.entry ≡ Some e) where
  is_item : IsItem entries i
  is_item = All-head (IsItem entries) i later (subst (AreItems entries) first h.left)

  rest_children : inner_forest (standing entries rest) ≡ repeated i.run.count (laid (trees_of entries) e.runs) (inner_forest (standing entries later))
  rest_children =
      ap (λ l. inner_forest (standing entries l)) first
      ∙ children-copies i.run.count (tree_at entries i.run.entry) (standing entries later)
      ∙ ap (λ (t : Tree). repeated i.run.count t.inner (inner_forest (standing entries later))) (tree_is entries i.run.entry e at (earlier i.run.entry e at))

  pub can_tally : size (standing entries items) ≤ 2 ^ 59 → count_all tally + i.run.count * count_all e.runs < 2 ^ 64
  can_tally few =
      let a = count_alike (with_beside (laid (trees_of entries) tally) (inner_forest (standing entries rest))) (inner_forest (standing entries items)) h.stand in
      let b = count-beside (laid (trees_of entries) tally) (inner_forest (standing entries rest)) in
      let c = count-laid (trees_of entries) tally in
      let d : outer one (inner_forest (standing entries rest)) ≡ outer one (repeated i.run.count (laid (trees_of entries) e.runs) (inner_forest (standing entries later))) =
      ap (outer one) rest_children in
      let f = count-repeated i.run.count (laid (trees_of entries) e.runs) (inner_forest (standing entries later)) in
      let g : i.run.count * outer one (laid (trees_of entries) e.runs) ≡ i.run.count * count_all e.runs =
      ap (λ x. i.run.count * x) (count-laid (trees_of entries) e.runs) in
      let k = count-below-size (inner_forest (standing entries items)) in
      let l = size-children (standing entries items) in
      omega arith

  pub more_tallied : (new : List Run) → new ≡ tallied i.run.count e.runs tally → Tallying entries items later new
  more_tallied new is =
      let trees : List Tree = trees_of entries in
      let c : Forest = inner_forest (standing entries later) in
      let s : Forest = inner_forest (standing entries items) in
      let once : Forest = laid trees e.runs in
      let known : Forest = laid trees tally in
      let within : i.run.entry < length entries = is_item.entry in
      subst (λ (l : List Run). Tallying entries items later l) (sym is)
      (record {
        left = All-tail (IsItem entries) i later (subst (AreItems entries) first h.left);
        runs = runs-tallied (length entries) i.run.count 0 e.runs tally is_item.count
            (runs_wider 0 i.run.entry (length entries) e.runs (omega arith) (earlier i.run.entry e at)) h.runs;
        stand = further (with_beside (laid trees (tallied i.run.count e.runs tally)) c) (with_beside (repeated i.run.count once known) c) s
            (with_beside_left (laid trees (tallied i.run.count e.runs tally)) (repeated i.run.count once known) c (laid_tallied trees i.run.count e.runs tally))
            (further (with_beside (repeated i.run.count once known) c) (with_beside known (repeated i.run.count once c)) s
            (repeated_moved i.run.count once known c)
            (subst (λ x. Alike (with_beside known x) s) rest_children h.stand));
      })

-- what is counted of all items, in order of regions, stands for their children
pub all_tallied : (entries : List Entry) (items rest : List Item) (tally runs : List Run) (listed children : List Item) → Tallying entries items rest tally → rest ≡ []
    → runs ≡ tally → listed ≡ map (item_for entries) runs → IsPermutation listed children → Rise 0 children → AreChildren entries items children
all_tallied entries items rest tally runs listed children h none told listed_is same rise = record {
  are = All-permutation (IsItem entries) listed children same (subst (AreItems entries) (sym is) (items-runs entries 0 tally h.runs));
  rise = rise;
  stand = further (standing entries children) (standing entries listed) (inner_forest (standing entries items))
      (standing-permutation entries listed children same)
      (subst (λ l. Alike (standing entries l) (inner_forest (standing entries items))) (sym is)
      (subst (λ x. Alike x (inner_forest (standing entries items))) (sym (standing-runs entries tally))
      (subst (λ x. Alike x (inner_forest (standing entries items))) (beside-bare (laid (trees_of entries) tally))
      (subst (λ l. Alike (with_beside (laid (trees_of entries) tally) (inner_forest (standing entries l))) (inner_forest (standing entries items))) none h.stand))));
}
  where
    is : listed ≡ map (item_for entries) tally
    is = listed_is ∙ ap (map (item_for entries)) told

-- the loop that counts runs
pub room_behind : (tally : List Run) (count : ℕ) (run : Run) (later rest : List Run) → rest ≡ run ∷ later → count_all tally + count * count_all rest < 2 ^ 64
    → (count_all (counted run.entry (count * run.count) tally) + count * count_all later < 2 ^ 64) × (count_of run.entry tally + count * run.count < 2 ^ 64)
room_behind tally count run later rest first room =
    let a = total-counted run.entry (count * run.count) tally in
    let b = count_of-total run.entry tally in
    let c : count * count_all rest ≡ count * (run.count + count_all later) = ap (λ l. count * count_all l) first in
    let d = mul-add count run.count (count_all later) in
    (omega (arith, a, c, d, room), omega (arith, b, c, d, room))

-- parts of items that fit do so
module _ (entries : List Entry) (front back : List Item) where
  works_are : outer_works (standing entries (front ++ back)) ≡ outer_works (standing entries front) + outer_works (standing entries back)
  works_are = ap outer_works (standing-append entries front back) ∙ works-beside (standing entries front) (standing entries back)

  sizes_are : size (standing entries (front ++ back)) ≡ size (standing entries front) + size (standing entries back)
  sizes_are = ap size (standing-append entries front back) ∙ size-beside (standing entries front) (standing entries back)

  heights_are : height (standing entries (front ++ back)) ≡ max (height (standing entries front)) (height (standing entries back))
  heights_are = ap height (standing-append entries front back) ∙ height-beside (standing entries front) (standing entries back)

  fits_front : Fits entries (front ++ back) → Fits entries front
  fits_front fits = record {
    works = let a = works_are in let b = fits.works in omega arith;
    few = let a = sizes_are in let b = fits.few in omega arith;
  }

  fits_back : Fits entries (front ++ back) → Fits entries back
  fits_back fits = record {
    works = let a = works_are in let b = fits.works in omega arith;
    few = let a = sizes_are in let b = fits.few in omega arith;
  }

works_of_children : (f : Forest) → Bounded f → outer_works (inner_forest f) ≤ outer_works f
works_of_children bare bounded = omega arith
works_of_children (grown x i l) bounded =
    let a = works-beside i (inner_forest l) in let b : outer_works i ≤ x.work = bounded.0.part in let c = works_of_children l bounded.2 in omega arith

serial_within : (f : Forest) → Bounded f → outer serial_in f ≤ outer_works f
serial_within bare bounded = omega arith
serial_within (grown x i l) bounded =
    let here : serial_in x i ≤ x.work = serial_at_most (outer_paths i) (outer_works i) x.work bounded.0.part (paths_at_most_works i bounded.1) in
    let rest = serial_within l bounded.2 in omega arith

-- what items that fit come to is small, and their children fit
module _ (entries : List Entry) (profile : AreProfile entries) (items : List Item) (are : AreItems entries items) (fits : Fits entries items) where
  bounded : Bounded (standing entries items)
  bounded = bounded_standing entries profile items are

  pub fitting_small : AreSmall (totals entries items)
  fitting_small = record {
    instances = let a = outer-standing one entries items in let b = count-below-size (standing entries items) in let c = fits.few in omega arith;
    work = let a = outer-standing work entries items in let b = fits.works in omega arith;
    path = let a = outer-standing path entries items in let b = paths_at_most_works (standing entries items) bounded in let c = fits.works in omega arith;
    serial = let a = outer-standing serial_in entries items in let b = serial_within (standing entries items) bounded in let c = fits.works in omega arith;
  }

  module _ (children : List Item) (of : AreChildren entries items children) where
    pub children_fit : Fits entries children
    children_fit = record {
      works = let a = works_alike (standing entries children) (inner_forest (standing entries items)) of.stand in
          let b = works_of_children (standing entries items) bounded in let c = fits.works in omega arith;
      few = let a = Alike-size (standing entries children) (inner_forest (standing entries items)) of.stand in
          let b = size-children (standing entries items) in let c = fits.few in omega arith;
    }

    pub children_few : total (λ n. 1) children < 2 ^ 64
    children_few =
        let a : outer one (standing entries children) ≡ total (λ n. 1) children = outer-standing one entries children in
        let b = count-below-size (standing entries children) in let c = children_fit.few in omega arith

-- a context of sums is one of the instances that items stand for
context_is : (regions : List Region) (entries : List Entry) (parent region : ℕ) (items children : List Item) (c : Context) → AreItems entries items
    → AreChildren entries items children → IsContextOf regions parent region (totals entries items) (total (λ n. 1) (items_in (region + 1) children)) c
    → IsContext regions parent region (standing entries items) c
context_is regions entries parent region items children c are of is = record {
  parent_is = is.parent_is;
  region_is = is.region_is;
  kind = is.kind;
  instances = is.instances ∙ sym (outer-standing one entries items);
  turns = is.turns_are ∙ ap (λ n. if has_turns regions region then n else 0) turns;
  work = is.work ∙ sym (outer-standing work entries items);
  path = is.path ∙ sym (outer-standing path entries items);
  sp = subst (λ n. IsRatio n (outer_paths (standing entries items)) c.sp.0 c.sp.1) (sym (outer-standing serial_in entries items))
      (subst (λ n. IsRatio (total (own_of serial_in entries) items) n c.sp.0 c.sp.1) (sym (outer-standing path entries items)) is.sp);
}
  where
    turns : total (λ n. 1) (items_in (region + 1) children) ≡ count_in (region + 1) (inner_forest (standing entries items))
    turns =
        sym (outer-standing one entries (items_in (region + 1) children))
        ∙ ap (outer one) (sym (chosen-standing entries (region + 1) children of.are))
        ∙ count_alike (chosen (region + 1) (standing entries children)) (chosen (region + 1) (inner_forest (standing entries items)))
        (chosen_alike (region + 1) (standing entries children) (inner_forest (standing entries items)) of.stand)

-- the contexts listed so far, of the items before the rest
pub record Listing (regions : List Region) (entries : List Entry) (parent : ℕ) (items rest : List Item) (old contexts : List Context) : Type 0 where
  pub from : ℕ
  pub rise : Rise from rest
  pub left : AreItems entries rest
  pub fits : Fits entries rest
  pub lower : height (standing entries rest) ≤ height (standing entries items)
  pub room : length contexts ≤ 65536
  pub done : List Context
  pub whole : contexts ≡ old ++ done
  pub leads : (more : List Context) → AreUnder regions parent (length contexts) (standing entries rest) more
      → AreUnder regions parent (length old) (standing entries items) (done ++ more)

pub none_listed : (regions : List Region) (entries : List Entry) (parent : ℕ) (items : List Item) (old : List Context) → AreItems entries items → Rise 0 items
    → Fits entries items → length old ≤ 65536 → Listing regions entries parent items items old old
none_listed regions entries parent items old are rise fits room = record {
  from = 0;
  rise = rise;
  left = are;
  fits = fits;
  lower = omega arith;
  room = room;
  done = [];
  whole = sym (append-nil old);
  leads = λ more under. under;
}

-- once no item is left, all are listed
pub all_listed : (regions : List Region) (entries : List Entry) (parent : ℕ) (items rest : List Item) (old contexts : List Context)
    → Listing regions entries parent items rest old contexts → rest ≡ [] → AddsContexts regions entries parent items old (Ok tt) contexts
all_listed regions entries parent items rest old contexts h none = (
  h.done,
  h.whole,
  subst (λ l. AreUnder regions parent (length old) (standing entries items) l) (append-nil h.done)
      (h.leads [] (subst (λ l. AreUnder regions parent (length contexts) (standing entries l) []) (sym none) (nothing regions parent (length contexts)))),
  h.room,
)

module _ (regions : List Region) (entries : List Entry) (parent : ℕ) (items rest : List Item) (old contexts : List Context)
    (h : Listing regions entries parent items rest old contexts) (first : Item) (others_are : List Item) (begins : rest ≡ first ∷ others_are)
    (front later : List Item) (split : rest ≡ front ++ later) (same : All (λ (i : Item). i.region ≡ first.region) front)
    (other : BeginsElsewhere first.region later) where
  all_items : AreItems entries (front ++ later)
  all_items = subst (AreItems entries) split h.left

  rises : Rise first.region rest
  rises = subst (Rise first.region) (sym begins) (rise_first h.from first others_are (subst (Rise h.from) begins h.rise))

  later_rise : Rise (first.region + 1) later
  later_rise = rise_behind first.region front later same other (subst (Rise first.region) split rises)

  later_others : All (λ (i : Item). ¬ (i.region ≡ first.region)) later
  later_others =
      All-weaker (λ (i : Item). first.region + 1 ≤ i.region) (λ (i : Item). ¬ (i.region ≡ first.region)) (λ i le at. absurd (omega arith)) later
      (rise_all (first.region + 1) later later_rise)

  pub front_items : AreItems entries front
  front_items = all_front (IsItem entries) front later all_items

  later_items : AreItems entries later
  later_items = all_back (IsItem entries) front later all_items

  pub front_fits : Fits entries front
  front_fits = fits_front entries front later (subst (Fits entries) split h.fits)

  later_fits : Fits entries later
  later_fits = fits_back entries front later (subst (Fits entries) split h.fits)

  front_count : 0 < outer one (standing entries front)
  front_count =
      let a : outer one (standing entries front) ≡ total (λ n. 1) front = outer-standing one entries front in
      let b = total_some entries front front_items (front_some first others_are front later rest begins split other) in
      omega arith

  pub shorter : length later < length rest
  shorter =
      let some = front_some first others_are front later rest begins split other in
      let e : length rest ≡ length front + length later = ap length split ∙ length-append front later in omega arith

  chosen_is : chosen first.region (standing entries rest) ≡ standing entries front
  chosen_is =
      ap (λ l. chosen first.region (standing entries l)) split
      ∙ chosen-standing entries first.region (front ++ later) all_items
      ∙ ap (standing entries) (filter-append (λ (i : Item). i.region == first.region) front later
      ∙ ap (λ l. l ++ items_in first.region later) (items_in-same first.region front same)
      ∙ ap (λ l. front ++ l) (items_in-none first.region later later_others)
      ∙ append-nil front)

  others_is : others first.region (standing entries rest) ≡ standing entries later
  others_is = ap (λ l. others first.region (standing entries l)) split ∙ others-standing entries first.region front later all_items same later_others

  some_here : 0 < count_in first.region (standing entries rest)
  some_here = subst (λ f. 0 < outer one f) (sym chosen_is) front_count

  none_lower : NoneBelow first.region (standing entries rest)
  none_lower = none_below entries first.region first.region rest (omega arith) h.left rises

  heights : height (standing entries rest) ≡ max (height (standing entries front)) (height (standing entries later))
  heights = ap (λ l. height (standing entries l)) split ∙ heights_are entries front later

  -- the region is in the list
  pub region_there : NameEarlier entries → NameRegions (length regions) entries → first.region < length regions
  region_there earlier names =
      names_region (length regions) first.region (standing entries rest) (names_standing entries earlier (length regions) names rest h.left) some_here

  module _ (children : List Item) (of : AreChildren entries front children) where
    -- the children have a level less than all items
    pub children_lower : height (standing entries children) < height (standing entries items)
    children_lower =
        let a = height_alike (standing entries children) (inner_forest (standing entries front)) of.stand in
        let b = height-children (standing entries front) front_count in
        let c = heights in let d = h.lower in omega arith

    module _ (c : Context)
        (is : IsContextOf regions parent first.region (totals entries front) (total (λ n. 1) (items_in (first.region + 1) children)) c) where
      context_here : IsContext regions parent first.region (chosen first.region (standing entries rest)) c
      context_here =
          subst (λ f. IsContext regions parent first.region f c) (sym chosen_is)
          (context_is regions entries parent first.region front children c front_items of is)

      -- the contexts of the rest, from those of the children and of what is behind
      joined : (below more : List Context) → AreUnder regions (length contexts) (length contexts + 1) (standing entries children) below
          → AreUnder regions parent ((length contexts + 1) + length below) (standing entries later) more
          → AreUnder regions parent (length old) (standing entries items) (h.done ++ (c ∷ (below ++ more)))
      joined below more under behind =
          h.leads (c ∷ (below ++ more))
          (group regions parent (length contexts) first.region (standing entries rest) c below more some_here none_lower context_here
          (subst (λ f. AreUnder regions (length contexts) (length contexts + 1) (inner_forest f) below) (sym chosen_is)
          (under_alike regions (length contexts) (length contexts + 1) (standing entries children) (inner_forest (standing entries front)) below under of.stand))
          (subst (λ f. AreUnder regions parent ((length contexts + 1) + length below) f more) (sym others_is) behind))

      pub more_listed : (pushed new below : List Context) → pushed ≡ contexts ++ c ∷ [] → new ≡ pushed ++ below
          → AreUnder regions (length contexts) (length pushed) (standing entries children) below → length new ≤ 65536
          → Listing regions entries parent items later old new
      more_listed pushed new below push add under room = record {
        from = first.region + 1;
        rise = later_rise;
        left = later_items;
        fits = later_fits;
        lower = let a = heights in let b = h.lower in omega arith;
        room = room;
        done = h.done ++ (c ∷ below);
        whole = add ∙ ap (λ l. l ++ below) (push ∙ ap (λ l. l ++ c ∷ []) h.whole) ∙ grouped old h.done c below;
        leads = λ more behind.
            subst (λ l. AreUnder regions parent (length old) (standing entries items) l) (sym (append_assoc h.done (c ∷ below) more))
            (joined below more (subst (λ n. AreUnder regions (length contexts) n (standing entries children) below) count under)
            (subst (λ n. AreUnder regions parent n (standing entries later) more) size_is behind));
      }
        where
          count : length pushed ≡ length contexts + 1
          count = ap length push ∙ length-append contexts (c ∷ [])

          size_is : length new ≡ (length contexts + 1) + length below
          size_is = ap length add ∙ length-append pushed below ∙ ap (λ n. n + length below) count

          grouped : (a b : List Context) (x : Context) (d : List Context) → ((a ++ b) ++ x ∷ []) ++ d ≡ a ++ (b ++ (x ∷ d))
          grouped a b x d = append_assoc (a ++ b) (x ∷ []) d ∙ append_assoc a b (x ∷ d)

      -- where the children have too many, so has the whole
      pub wide_below : NameEarlier entries → NameRegions (length regions) entries → (pushed below : List Context) → pushed ≡ contexts ++ c ∷ []
          → AreUnder regions (length contexts) (length pushed) (standing entries children) below → 65536 < length pushed + length below
          → (more : List Context) × AreUnder regions parent (length old) (standing entries items) more × (65536 < length old + length more)
      wide_below earlier names pushed below push under wide =
          let count : length pushed ≡ length contexts + 1 = ap length push ∙ length-append contexts (c ∷ []) in
          let behind = has_contexts regions (suc (size (standing entries later))) (standing entries later) (omega arith)
          (names_standing entries earlier (length regions) names later later_items) parent ((length contexts + 1) + length below) in
          let all : List Context = h.done ++ (c ∷ (below ++ behind.0)) in
          let a : length all ≡ length h.done + suc (length (below ++ behind.0)) = length-append h.done (c ∷ (below ++ behind.0)) in
          let b = length-append below behind.0 in
          let d : length contexts ≡ length old + length h.done = ap length h.whole ∙ length-append old h.done in
          (all, joined below behind.0 (subst (λ n. AreUnder regions (length contexts) n (standing entries children) below) count under) behind.1, omega arith)

      -- what a call for the children answers
      pub ok_below : (number : ℕ) → number ≡ length contexts → (pushed new : List Context) → pushed ≡ contexts ++ c ∷ []
          → AddsContexts regions entries number children pushed (Ok tt) new → Listing regions entries parent items later old new
      ok_below number is_number pushed new push adds =
          more_listed pushed new adds.0 push adds.1 (subst (λ n. AreUnder regions n (length pushed) (standing entries children) adds.0) is_number adds.2) adds.3

      pub err_below : NameEarlier entries → NameRegions (length regions) entries → (number : ℕ) → number ≡ length contexts → (pushed new after : List Context)
          → pushed ≡ contexts ++ c ∷ [] → (fault : ContextFault) → AddsContexts regions entries number children pushed (Err fault) new
          → AddsContexts regions entries parent items old (Err fault) after
      err_below earlier names number is_number pushed new after push Wide adds =
          wide_below earlier names pushed adds.0 push (subst (λ n. AreUnder regions n (length pushed) (standing entries children) adds.0) is_number adds.1) adds.2
      err_below earlier names number is_number pushed new after push Memory adds = tt

  -- where as many contexts are listed as may be, there are too many
  pub wide_here : NameEarlier entries → NameRegions (length regions) entries → length contexts ≡ 65536
      → (more : List Context) × AreUnder regions parent (length old) (standing entries items) more × (65536 < length old + length more)
  wide_here earlier names full =
      let rest_has = has_contexts regions (suc (size (standing entries rest))) (standing entries rest) (omega arith)
      (names_standing entries earlier (length regions) names rest h.left) parent (length contexts) in
      let outermost : 0 < outer one (standing entries rest) =
      (let a : outer one (standing entries rest) ≡ total (λ n. 1) rest = outer-standing one entries rest in
      let b = total_some entries rest h.left (let e : length rest ≡ suc (length others_are) = ap length begins in omega arith) in omega arith) in
      let opens = opened regions parent (length contexts) (standing entries rest) rest_has.0 rest_has.1 outermost in
      let some : length rest_has.0 ≡ suc (length (opens.below ++ opens.later)) = ap length opens.whole in
      let a = length-append h.done rest_has.0 in
      let d : length contexts ≡ length old + length h.done = ap length h.whole ∙ length-append old h.done in
      (h.done ++ rest_has.0, h.leads rest_has.0 rest_has.1, omega arith)

-- the root's item stands for the tree
module _ (entries : List Entry) (profile : AreProfile entries) (root : ℕ) (lt : root < length entries) where
  pub root_items : AreItems entries (item_of entries root 1 ∷ [])
  root_items = All-cons (IsItem entries) (item_of entries root 1) [] (record { entry = lt; region = refl; count = omega arith }) (All-nil (IsItem entries))

  pub root_fits : Fits entries (item_of entries root 1 ∷ [])
  root_fits = record {
    works = let a = work_small entries profile root lt in omega arith;
    few = profile.instances root lt;
  }
