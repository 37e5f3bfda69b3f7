-- The picks so far, from the first context on.
use Rattle.std.proofs.Common.{◌≡◌, ℕ, zero, suc, ◌+◌, ◌<◌, ◌^◌, inl, inr, Bool, true, false, not, ◌&&◌, ◌||◌, List, [], ◌∷◌, ◌++◌, length, get_or, length-append, Some, slice_get, refl, sym, ap, ◌∙◌, arith, append_assoc, if◌then◌else◌}
use Rattle.std.proofs.lemmas.List.{append-nil}
use Rattle.std.proofs.lemmas.Bool.{cases_eq}
use Rattle.k_plan.specs.declared.advice.Pick.{Pick}
use Rattle.k_selfpar.specs.declared.context.Context.{Context}
use Rattle.k_plan.specs.declared.limits.Limits.{Limits}
use Rattle.k_plan.specs.Best.{AreBest, best_below, best_choice, is_free, taken, takes, takes_some, with_pick}
use Rattle.k_selfpar.specs.Contexts.{root_work}
use Rattle.k_plan.specs.Plan.{CanPlan, behind_root, pick_of, picks_from}
use Rattle.k_plan.proofs.Above.{are_behind, covered, covered_by_parent, first_is_free}
use Rattle.k_plan.proofs.Summing.{place_behind}

-- the contexts before the rest are marked, and their picks are there
pub record Chosen (limits : Limits) (contexts rest : List Context) (free : List Bool) (picks : List Pick) : Type 0 where
  pub before : List Context
  pub parts : contexts ≡ before ++ rest
  pub count : length free ≡ length before
  pub marks : (k : ℕ) → k < length before → get_or free k false ≡ not (taken limits contexts k || covered (taken limits contexts) contexts k)
  pub made : picks ++ picks_from (length free) (best_choice limits contexts) rest ≡ picks_from 0 (best_choice limits contexts) contexts

pub none_chosen : (limits : Limits) (contexts : List Context) → Chosen limits contexts contexts [] []
none_chosen limits contexts = record {
  before = [];
  parts = refl;
  count = refl;
  marks = λ k lt. absurd (omega arith);
  made = refl;
}

pub all_chosen : (limits : Limits) (contexts rest : List Context) (free : List Bool) (picks : List Pick) → rest ≡ [] → Chosen limits contexts rest free picks
    → picks ≡ picks_from 0 (best_choice limits contexts) contexts
all_chosen limits contexts rest free picks is h =
    sym (append-nil picks) ∙ ap (λ l. picks ++ picks_from (length free) (best_choice limits contexts) l) (sym is) ∙ h.made

-- the root's work is small
pub root_small : (contexts : List Context) → CanPlan contexts → root_work contexts < 2 ^ 50
root_small [] can = omega arith
root_small (root ∷ inner) can = can.small 0 root refl

with_one : (b : Bool) (k : ℕ) (c : Context) (picks later : List Pick) → with_pick b k c picks ++ later ≡ picks ++ (if b then pick_of k c ∷ later else later)
with_one true k c picks later = append_assoc picks (pick_of k c ∷ []) later
with_one false k c picks later = refl

kept : (free : List Bool) (b : Bool) (k : ℕ) → k < length free → get_or (free ++ b ∷ []) k false ≡ get_or free k false
kept [] b k lt = absurd (omega arith)
kept (x ∷ free) b zero lt = refl
kept (x ∷ free) b (suc k) lt = kept free b k (omega arith)

last : (free : List Bool) (b : Bool) (k : ℕ) → k ≡ length free → get_or (free ++ b ∷ []) k false ≡ b
last [] b k is = ap (λ n. get_or (b ∷ []) n false) is
last (x ∷ free) b zero is = absurd (omega arith)
last (x ∷ free) b (suc k) is = last free b k (omega arith)

module _ (limits : Limits) (contexts rest later : List Context) (free : List Bool) (picks : List Pick) (c : Context) (h : Chosen limits contexts rest free picks)
    (first : rest ≡ c ∷ later) (can : CanPlan contexts) where
  abbrev t : ℕ → Bool
  t = taken limits contexts

  abbrev cov : ℕ → Bool
  cov = covered (taken limits contexts) contexts

  whole : contexts ≡ h.before ++ c ∷ later
  whole = h.parts ∙ ap (λ l. h.before ++ l) first

  pub number_within : length free < length contexts
  number_within =
      let e : length contexts ≡ length h.before + length (c ∷ later) = ap length whole ∙ length-append h.before (c ∷ later) in
      let n : length (c ∷ later) ≡ suc (length later) = refl in let count = h.count in omega arith

  pub here : slice_get contexts (length free) ≡ Some c
  here = ap (λ n. slice_get contexts n) h.count ∙ ap (λ l. slice_get l (length h.before)) whole ∙ place_behind h.before later c

  pub parent_within : 0 < length free → c.parent < length free
  parent_within some = are_behind contexts can.parents (length free) c some here

  pub work_small : c.work < 2 ^ 50
  work_small = can.small (length free) c here

  -- no context above this one is taken where its parent tells so
  above_is : is_free free c.parent ≡ not (cov (length free))
  above_is = by free refl
    where
      by : (marks : List Bool) → free ≡ marks → is_free marks c.parent ≡ not (cov (length free))
      by [] is = ap not (sym (first_is_free t contexts)) ∙ ap (λ n. not (cov n)) (sym (ap length is))
      by (m ∷ marks) is =
          let n : length free ≡ suc (length marks) = ap length is in
          let some : 0 < length free = omega arith in
          let lt : c.parent < length free = parent_within some in
          let count = h.count in
          ap (λ l. get_or l c.parent false) (sym is) ∙ h.marks c.parent (omega arith)
          ∙ ap not (sym (covered_by_parent t contexts (are_behind contexts can.parents) (length free) c some here))

  module _ (below : List ℕ) (best : AreBest limits (root_work contexts) (behind_root contexts) below) where
    pub below_within : length free < length below
    below_within =
        let e : length (behind_root contexts) + 1 ≡ length contexts = behind contexts (length free) number_within in
        let w = number_within in let count = best.count in omega arith
      where
        behind : (l : List Context) (n : ℕ) → n < length l → length (behind_root l) + 1 ≡ length l
        behind [] n lt = absurd (omega arith)
        behind (x ∷ l) n lt = omega arith

    -- the context is taken where it saves as much as the choices below it
    taken_is : takes limits (root_work contexts) c (get_or below (length free) 0) ≡ t (length free)
    taken_is =
        let within = below_within in let count = best.count in
        ap (takes limits (root_work contexts) c) (best.totals (length free) (omega arith))
        ∙ ap (takes_some limits (root_work contexts) (best_below limits contexts (length free))) (sym here)

    module _ (above its : Bool) (is_above : above ≡ is_free free c.parent) (is_its : its ≡ takes limits (root_work contexts) c (get_or below (length free) 0)) where
      picked : (its && above) ≡ best_choice limits contexts (length free)
      picked = ap (λ b. b && above) (is_its ∙ taken_is) ∙ ap (λ b. t (length free) && b) (is_above ∙ above_is)

      marked : (above && not its) ≡ not (t (length free) || cov (length free))
      marked = ap (λ b. b && not its) (is_above ∙ above_is) ∙ ap (λ b. not (cov (length free)) && not b) (is_its ∙ taken_is) ∙ turned (t (length free)) (cov (length free))
        where
          turned : (x y : Bool) → (not y && not x) ≡ not (x || y)
          turned true true = refl
          turned true false = refl
          turned false true = refl
          turned false false = refl

      pub more_chosen : (new_free : List Bool) (new_picks : List Pick) → new_free ≡ free ++ (above && not its) ∷ []
          → new_picks ≡ with_pick (its && above) (length free) c picks → Chosen limits contexts later new_free new_picks
      more_chosen new_free new_picks is put = record {
        before = h.before ++ c ∷ [];
        parts = whole ∙ sym (append_assoc h.before (c ∷ []) later);
        count = longer ∙ ap (λ n. n + 1) h.count ∙ sym (length-append h.before (c ∷ []));
        marks = λ k lt. elim (cases_eq k (length free)) [
          | inl same ↦
              ap (λ l. get_or l k false) is ∙ last free (above && not its) k same ∙ marked
              ∙ ap (λ n. not (t n || cov n)) (sym same)
          | inr other ↦
              let e = length-append h.before (c ∷ []) in let count = h.count in
              ap (λ l. get_or l k false) is ∙ kept free (above && not its) k (omega arith) ∙ h.marks k (omega arith)
        ];
        made =
            ap (λ l. l ++ picks_from (length new_free) (best_choice limits contexts) later) put
            ∙ with_one (its && above) (length free) c picks (picks_from (length new_free) (best_choice limits contexts) later)
            ∙ ap (λ n. picks ++ (if its && above then pick_of (length free) c ∷ picks_from n (best_choice limits contexts) later
            else picks_from n (best_choice limits contexts) later)) longer
            ∙ ap (λ b. picks ++ (if b then pick_of (length free) c ∷ picks_from (length free + 1) (best_choice limits contexts) later
            else picks_from (length free + 1) (best_choice limits contexts) later)) picked
            ∙ ap (λ l. picks ++ picks_from (length free) (best_choice limits contexts) l) (sym first)
            ∙ h.made;
      }
        where
          longer : length new_free ≡ length free + 1
          longer = ap length is ∙ length-append free ((above && not its) ∷ [])
