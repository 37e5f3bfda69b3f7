-- The contexts of a region add up to its row.
use Rattle.std.proofs.Common.{◌≡◌, ℕ, ◌+◌, ◌<◌, inl, inr, Bool, true, false, cond, ◌==◌, List, [], ◌∷◌, ◌++◌, length, map, refl, sym, ap, ◌∙◌, subst, arith, if◌then◌else◌}
use Rattle.std.specs.Prelude.{sum_by}
use Rattle.std.proofs.lemmas.Bool.{cases_eq, eq-eqb, ne_eqb}
use Rattle.std.proofs.lemmas.List.Sums.{sum_by-cons}
use Rattle.k_optab.specs.declared.region.Region.{Region}
use Rattle.k_optab.specs.Meaning.{serial_of}
use Rattle.k_optab.specs.Tree.{EachWith}
use Rattle.k_dict_entries.specs.Trees.{Forest, Label, Tree, alone, bare, grown, list_of}
use Rattle.k_dict_entries.proofs.Lists.{same_tree}
use Rattle.k_selfpar.specs.Contexts.{AreUnder, IsContext, NoneBelow, inner_forest, chosen, group, none, others, with_beside}
use Rattle.k_selfpar.specs.Laws.{at_regions}
use Rattle.k_selfpar.specs.Ratio.{IsRatio}
use Rattle.k_selfpar.specs.Rows.{IsRow}
use Rattle.k_selfpar.specs.Sums.{one, outer, path, serial_in, sum_of, within, work}
use Rattle.k_selfpar.specs.declared.context.Context.{Context}
use Rattle.k_selfpar.specs.declared.row.Row.{Row}
use Rattle.k_selfpar.proofs.Listed.{instances_are, paths_are, serials_are, works_are}
use Rattle.k_selfpar_laws.specs.Laws.{IsSumOf, RowsAreSums, Tells, at_path, contexts_of, given_by}
use Rattle.k_selfpar_laws.proofs.ByPaths.{above, at-others, each-map, some-path, tells-joined}

sum-beside : (own : Label → Forest → ℕ) (f g : Forest) → sum_of own (with_beside f g) ≡ sum_of own f + sum_of own g
sum-beside own bare g = omega arith
sum-beside own (grown x i l) g = let e = sum-beside own l g in omega arith

-- what a forest gives, in three parts: the outermost instances of a region, all within these, and those of other regions
sum-parts : (own : Label → Forest → ℕ) (region : ℕ) (f : Forest)
    → sum_of own f ≡ outer own (chosen region f) + (sum_of own (inner_forest (chosen region f)) + sum_of own (others region f))
sum-parts own region bare = refl
sum-parts own region (grown x i l) = by (x.region == region) (chosen region l) (others region l) (sum-parts own region l)
  where
    by : (b : Bool) (c o : Forest) → sum_of own l ≡ outer own c + (sum_of own (inner_forest c) + sum_of own o)
        → own x i + (sum_of own i + sum_of own l)
        ≡ outer own (if b then grown x i c else c) + (sum_of own (inner_forest (if b then grown x i c else c)) + sum_of own (if b then o else grown x i o))
    by true c o e = let s = sum-beside own i (inner_forest c) in omega arith
    by false c o e = omega arith

-- instances of one region give all or nothing for a region
chosen-within : (own : Label → Forest → ℕ) (r region : ℕ) (f : Forest)
    → outer (within r own) (chosen region f) ≡ (if region == r then outer own (chosen region f) else 0)
chosen-within own r region bare = nothing (region == r) 0
  where
    nothing : (b : Bool) (n : ℕ) → n ≡ (if b then n else n)
    nothing true n = refl
    nothing false n = refl
chosen-within own r region (grown x i l) =
    let P : Bool → Type 0 = λ b. outer (within r own) (if b then grown x i (chosen region l) else chosen region l)
    ≡ (if region == r then outer own (if b then grown x i (chosen region l) else chosen region l) else 0) in
    elim (cases_eq x.region region) [
      | inl is ↦ subst P (sym (eq-eqb x.region region is))
          (ap (λ s. (if s == r then own x i else 0) + outer (within r own) (chosen region l)) is
          ∙ ap (λ n. (if region == r then own x i else 0) + n) (chosen-within own r region l)
          ∙ both_parts (region == r) (own x i) (outer own (chosen region l)))
      | inr ne ↦ subst P (sym (ne_eqb x.region region ne)) (chosen-within own r region l)
    ]
  where
    both_parts : (b : Bool) (m n : ℕ) → (if b then m else 0) + (if b then n else 0) ≡ (if b then m + n else 0)
    both_parts true m n = refl
    both_parts false m n = refl

-- what is given by contexts one behind another
given-append : (R : List ℕ → Context → Type 0) (own : Label → Forest → ℕ) (f : Forest) (r : ℕ) (ps qs : List (List ℕ)) (cs ds : List Context) → EachWith R ps cs
    → given_by own f r (ps ++ qs) (cs ++ ds) ≡ given_by own f r ps cs + given_by own f r qs ds
given-append R own f r [] qs [] ds each = omega arith
given-append R own f r [] qs (c ∷ cs) ds each = absurd each
given-append R own f r (p ∷ ps) qs [] ds each = absurd each
given-append R own f r (p ∷ ps) qs (c ∷ cs) ds each = let e = given-append R own f r ps qs cs ds each.1 in omega arith

-- by those within a region's instances
given-inside : (regions : List Region) (own : Label → Forest → ℕ) (r region : ℕ) (f : Forest) (ps : List (List ℕ)) (cs : List Context)
    → EachWith (Tells regions (inner_forest (chosen region f))) ps cs
    → given_by own f r (map (λ p. region ∷ p) ps) cs ≡ given_by own (inner_forest (chosen region f)) r ps cs
given-inside regions own r region f [] [] each = refl
given-inside regions own r region f [] (c ∷ cs) each = absurd each
given-inside regions own r region f (p ∷ ps) [] each = absurd each
given-inside regions own r region f ([] ∷ ps) (c ∷ cs) each =
    absurd (let some = some-path regions (inner_forest (chosen region f)) [] c each.0 in omega arith)
given-inside regions own r region f ((s ∷ p) ∷ ps) (c ∷ cs) each =
    ap (λ n. (if c.region == r then outer own (at_regions s p (inner_forest (chosen region f))) else 0) + n)
    (given-inside regions own r region f ps cs each.1)

-- by those of other regions
given-others : (regions : List Region) (own : Label → Forest → ℕ) (r region : ℕ) (f : Forest) → NoneBelow region f → (ps : List (List ℕ)) (cs : List Context)
    → EachWith (Tells regions (others region f)) ps cs → given_by own f r ps cs ≡ given_by own (others region f) r ps cs
given-others regions own r region f least [] [] each = refl
given-others regions own r region f least [] (c ∷ cs) each = absurd each
given-others regions own r region f least (p ∷ ps) [] each = absurd each
given-others regions own r region f least ([] ∷ ps) (c ∷ cs) each =
    absurd (let some = some-path regions (others region f) [] c each.0 in omega arith)
given-others regions own r region f least ((s ∷ p) ∷ ps) (c ∷ cs) each =
    let lt : region < s = above region s p f least (some-path regions (others region f) (s ∷ p) c each.0) in
    let same : at_regions s p (others region f) ≡ at_regions s p f = at-others region s p f (λ is. absurd (omega arith)) in
    ap (λ g. (if c.region == r then outer own g else 0) + given_by own f r ps cs) (sym same)
    ∙ ap (λ n. (if c.region == r then outer own (at_regions s p (others region f)) else 0) + n)
    (given-others regions own r region f least ps cs each.1)

-- contexts with their paths, which give what the instances of each region give
record Summed (regions : List Region) (f : Forest) (cs : List Context) : Type 0 where
  paths : List (List ℕ)
  each : EachWith (Tells regions f) paths cs
  sums : (own : Label → Forest → ℕ) (r : ℕ) → given_by own f r paths cs ≡ sum_of (within r own) f

summed : (regions : List Region) (parent number : ℕ) (f : Forest) (cs : List Context) → AreUnder regions parent number f cs → Summed regions f cs
summed regions parent number _ _ (none _ _ _) = record { paths = []; each = tt; sums = λ own r. refl }
summed regions parent number f _ (group _ _ _ region _ c below later some least is under behind) =
    joined (summed regions number (number + 1) (inner_forest (chosen region f)) below under)
    (summed regions parent ((number + 1) + length below) (others region f) later behind)
  where
    joined : Summed regions (inner_forest (chosen region f)) below → Summed regions (others region f) later → Summed regions f (c ∷ (below ++ later))
    joined inner rest = record {
      paths = (region ∷ []) ∷ (inside ++ rest.paths);
      each = tells;
      sums = sums;
    }
      where
        inside : List (List ℕ)
        inside = map (λ p. region ∷ p) inner.paths

        tells : EachWith (Tells regions f) ((region ∷ []) ∷ (inside ++ rest.paths)) (c ∷ (below ++ later))
        tells = tells-joined regions parent region f c inner.paths rest.paths below later some least is inner.each rest.each

        lengths : EachWith (λ (p : List ℕ) (d : Context). Unit {0}) inside below
        lengths = each-map (Tells regions (inner_forest (chosen region f))) (λ (p : List ℕ) (d : Context). Unit {0}) (λ p. region ∷ p) (λ p d of. tt) inner.paths below inner.each

        sums : (own : Label → Forest → ℕ) (r : ℕ)
            → (if c.region == r then outer own (chosen region f) else 0) + given_by own f r (inside ++ rest.paths) (below ++ later) ≡ sum_of (within r own) f
        sums own r =
            let first : (if c.region == r then outer own (chosen region f) else 0) ≡ outer (within r own) (chosen region f) =
            ap (λ s. if s == r then outer own (chosen region f) else 0) is.region_is ∙ sym (chosen-within own r region f) in
            let more : given_by own f r (inside ++ rest.paths) (below ++ later)
            ≡ sum_of (within r own) (inner_forest (chosen region f)) + sum_of (within r own) (others region f) =
            given-append (λ (p : List ℕ) (d : Context). Unit {0}) own f r inside rest.paths below later lengths
            ∙ ap (λ n. n + given_by own f r rest.paths later) (given-inside regions own r region f inner.paths below inner.each ∙ inner.sums own r)
            ∙ ap (λ n. sum_of (within r own) (inner_forest (chosen region f)) + n)
            (given-others regions own r region f least rest.paths later rest.each ∙ rest.sums own r) in
            ap (λ n. n + given_by own f r (inside ++ rest.paths) (below ++ later)) first
            ∙ ap (λ n. outer (within r own) (chosen region f) + n) more
            ∙ sym (sum-parts (within r own) region f)

-- values that contexts tell
sum_is : (regions : List Region) (own : Label → Forest → ℕ) (value : Context → ℕ)
    → ((parent region : ℕ) (g : Forest) (c : Context) → IsContext regions parent region g c → outer own g ≡ value c)
    → (f : Forest) (r : ℕ) (ps : List (List ℕ)) (cs : List Context) → EachWith (Tells regions f) ps cs → given_by own f r ps cs ≡ sum_by value (contexts_of r cs)
sum_is regions own value so f r [] [] each = refl
sum_is regions own value so f r [] (c ∷ cs) each = absurd each
sum_is regions own value so f r (p ∷ ps) [] each = absurd each
sum_is regions own value so f r (p ∷ ps) (c ∷ cs) each =
    ap (λ n. (if c.region == r then n else 0) + given_by own f r ps cs) (so c.parent c.region (at_path p f) c each.0.1)
    ∙ ap (λ n. (if c.region == r then value c else 0) + n) (sum_is regions own value so f r ps cs each.1)
    ∙ by (c.region == r)
  where
    by : (b : Bool) → (if b then value c else 0) + sum_by value (contexts_of r cs) ≡ sum_by value (cond b (c ∷ contexts_of r cs) (contexts_of r cs))
    by true = sym (sum_by-cons value c (contexts_of r cs))
    by false = omega arith

module _ (regions : List Region) (t : Tree) (contexts : List Context) (by : Summed regions (alone t) contexts) where
  told : (own : Label → Forest → ℕ) (value : Context → ℕ)
      → ((parent region : ℕ) (g : Forest) (c : Context) → IsContext regions parent region g c → outer own g ≡ value c)
      → (r : ℕ) → sum_of (within r own) (alone t) ≡ sum_by value (contexts_of r contexts)
  told own value so r = sym (by.sums own r) ∙ sum_is regions own value so (alone t) r by.paths contexts by.each

  row_is_sum : (row : Row) → IsRow (list_of t) row → IsSumOf (alone t) by.paths contexts row
  row_is_sum row is = record {
    instances = is.instances ∙ instances_are row.region t ∙ told one (λ c. c.instances) (λ parent region g c of. sym of.instances) row.region;
    work = is.work ∙ works_are row.region t ∙ told work (λ c. c.work) (λ parent region g c of. sym of.work) row.region;
    path = is.path ∙ paths_are row.region t ∙ told path (λ c. c.path) (λ parent region g c of. sym of.path) row.region;
    sp = subst (λ n. IsRatio n row.path row.sp.0 row.sp.1) (serials_are row.region t ∙ sym (by.sums serial_in row.region))
        (subst (λ n. IsRatio (serial_of row.region (list_of t)) n row.sp.0 row.sp.1) (sym is.path) is.sp);
  }

pub rows_are_sums : RowsAreSums
rows_are_sums regions t contexts rows are are_rows =
    let is : are.0 ≡ t = same_tree are.0 t (sym are.1) in
    let by : Summed regions (alone t) contexts =
    summed regions 0 0 (alone t) contexts (subst (λ (u : Tree). AreUnder regions 0 0 (alone u) contexts) is are.2) in
    record { paths = by.paths; each = by.each; sums = λ k row at. row_is_sum regions t contexts by row (are_rows.each k row at) }
