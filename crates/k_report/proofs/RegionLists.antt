-- The lists of regions from the root: what each context adds, and how one is read from its end.
use Rattle.std.proofs.Common.{◌≡◌, ℕ, zero, suc, ◌+◌, ◌<◌, ◌≤◌, List, [], ◌∷◌, ◌++◌, length, reverse, Some, slice_get, fold, arith, refl, ap, sym, subst, ◌∙◌, add-zero, length-append, zero-add, append_assoc}
use Rattle.std.proofs.lemmas.List.{get_or_append_left, reverse-append}
use Rattle.std.proofs.Math.Seq.{get_or-append_seam}
use Rattle.std.proofs.lemmas.Option.{none-some, same_Some}
use Rattle.k_optab.specs.declared.region.Region.{Region}
use Rattle.k_selfpar.specs.declared.context.Context.{Context}
use Rattle.k_plan.specs.Plan.{ParentsComeFirst, StandBehindParents}
use Rattle.k_text.specs.Texts.{name_text}
use Rattle.k_report.specs.PlanLines.{loop_text, region_lists, regions_at, regions_to, with_regions}

-- one list more
longer : (lists : List (List ℕ)) (c : Context) → length (with_regions lists c) ≡ length lists + 1
longer lists c = length-append lists ((regions_at lists c.parent ++ c.region ∷ []) ∷ [])

-- a list stays where further contexts follow
kept : (lists : List (List ℕ)) (contexts : List Context) (k : ℕ) → k < length lists → regions_at (fold with_regions lists contexts) k ≡ regions_at lists k
kept lists [] k low = refl
kept lists (c ∷ contexts) k low =
    let more : k < length (with_regions lists c) = omega (arith, longer lists c) in
    kept (with_regions lists c) contexts k more ∙ get_or_append_left lists ((regions_at lists c.parent ++ c.region ∷ []) ∷ []) [] k low

-- the list of the context that comes next
own : (lists : List (List ℕ)) (c : Context) (later : List Context)
    → regions_at (fold with_regions (with_regions lists c) later) (length lists) ≡ regions_at lists c.parent ++ c.region ∷ []
own lists c later =
    let within : length lists < length (with_regions lists c) = omega (arith, longer lists c) in
    kept (with_regions lists c) later (length lists) within ∙ get_or-append_seam lists (regions_at lists c.parent ++ c.region ∷ []) [] []

-- the list of a context is that of its parent, and its own region behind it
list_of : (lists : List (List ℕ)) (contexts : List Context) (j : ℕ) (c : Context) → slice_get contexts j ≡ Some c → c.parent < length lists + j
    → regions_at (fold with_regions lists contexts) (length lists + j) ≡ regions_at (fold with_regions lists contexts) c.parent ++ c.region ∷ []
list_of lists [] j c h low = absurd (none-some c h)
list_of lists (x ∷ contexts) zero c h low =
    let P : Context → Type 0 = λ y. regions_at (fold with_regions (with_regions lists x) contexts) (length lists + 0)
    ≡ regions_at (fold with_regions (with_regions lists x) contexts) y.parent ++ y.region ∷ [] in
    let same : x ≡ c = same_Some x c h in
    let before : x.parent < length lists = omega (arith, add-zero (length lists), subst (λ (y : Context). y.parent < length lists + 0) (sym same) low) in
    let above : regions_at (fold with_regions (with_regions lists x) contexts) x.parent ≡ regions_at lists x.parent = kept lists (x ∷ contexts) x.parent before in
    subst P same
    (ap (regions_at (fold with_regions (with_regions lists x) contexts)) (add-zero (length lists)) ∙ own lists x contexts ∙ ap (λ l. l ++ x.region ∷ []) (sym above))
list_of lists (x ∷ contexts) (suc j) c h low =
    let same : length (with_regions lists x) + j ≡ length lists + suc j = omega (arith, longer lists x) in
    subst (λ n. regions_at (fold with_regions (with_regions lists x) contexts) n ≡ regions_at (fold with_regions (with_regions lists x) contexts) c.parent ++ c.region ∷ []) same
    (list_of (with_regions lists x) contexts j c h (omega arith))

-- each of the contexts behind the root stands behind its parent
behind : (k : ℕ) (contexts : List Context) → StandBehindParents k contexts → (j : ℕ) (c : Context) → slice_get contexts j ≡ Some c → c.parent < k + j
behind k [] stand j c h = absurd (none-some c h)
behind k (x ∷ contexts) stand zero c h = let P : Context → Type 0 = λ y. y.parent < k + 0 in subst P (same_Some x c h) (omega (arith, stand.0))
behind k (x ∷ contexts) stand (suc j) c h = let low : c.parent < (k + 1) + j = behind (k + 1) contexts stand.1 j c h in omega arith

-- a context's parent has a lower number
pub parent_before : (contexts : List Context) → ParentsComeFirst contexts → (k : ℕ) (c : Context) → 0 < k → slice_get contexts k ≡ Some c → c.parent < k
parent_before [] first k c some h = absurd (none-some c h)
parent_before (root ∷ contexts) first zero c some h = absurd (omega arith)
parent_before (root ∷ contexts) first (suc j) c some h = let low : c.parent < 1 + j = behind 1 contexts first.1 j c h in omega arith

-- the regions to a context are those to its parent, and its own
pub regions_below : (contexts : List Context) → ParentsComeFirst contexts → (k : ℕ) (c : Context) → 0 < k → slice_get contexts k ≡ Some c
    → regions_to contexts k ≡ regions_to contexts c.parent ++ c.region ∷ []
unfolding region_lists
regions_below contexts first k c some h =
    let before : c.parent < k = parent_before contexts first k c some h in
    ap (regions_to contexts) (sym (zero-add k)) ∙ list_of [] contexts k c h (omega arith)

-- the regions to the root are its own
pub regions_root : (contexts : List Context) (root : Context) → slice_get contexts 0 ≡ Some root → regions_to contexts 0 ≡ root.region ∷ []
unfolding region_lists
regions_root [] root h = absurd (none-some root h)
regions_root (x ∷ contexts) root h = own [] x contexts ∙ (λ i. (same_Some x root h i).region ∷ [])

-- going up by one context
pub gone_up : (front own rest items : List ℕ) (region : ℕ) → own ≡ front ++ region ∷ [] → own ++ reverse items ≡ rest
    → front ++ reverse (items ++ region ∷ []) ≡ rest
gone_up front own rest items region is so_far =
    ap (λ l. front ++ l) (reverse-append items (region ∷ [])) ∙ sym (append_assoc front (region ∷ []) (reverse items)) ∙ ap (λ l. l ++ reverse items) (sym is) ∙ so_far

-- the way up has ended at the root
pub at_root : (contexts : List Context) (at : ℕ) (root : Context) (rest items : List ℕ) → at ≤ 0 → slice_get contexts 0 ≡ Some root
    → regions_to contexts at ++ reverse items ≡ rest → reverse (items ++ root.region ∷ []) ≡ rest
at_root contexts at root rest items low found so_far =
    let zero_is : 0 ≡ at = omega arith in
    reverse-append items (root.region ∷ []) ∙ ap (λ l. l ++ reverse items) (sym (regions_root contexts root found)) ∙ ap (λ k. regions_to contexts k ++ reverse items) zero_is ∙ so_far

-- what is written of the region of a context that is there, whose region is there
pub loop_found : (regions : List Region) (contexts : List Context) (k : ℕ) (context : Context) (region : Region) → slice_get contexts k ≡ Some context
    → slice_get regions context.region ≡ Some region → loop_text regions contexts k ≡ name_text region
loop_found regions contexts k context region one two = rw (one, two) refl
