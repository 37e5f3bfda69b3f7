-- Where each context stands, told one behind the other.
use Rattle.std.proofs.Common.{ℕ, zero, suc, ◌+◌, ◌≡◌, ◌≢◌, ◌⊎◌, ◌<◌, ◌^◌, nat_eq, Bool, true, false, List, [], ◌∷◌, ◌++◌, length, Option, Some, None, slice_get, arith, refl, sym, ap, ◌∙◌, subst, inl, inr}
use Rattle.std.specs.Prelude.{if◌then◌else◌, slice_index_or}
use Rattle.std.proofs.lemmas.Bool.{true≢false}
use Rattle.std.proofs.lemmas.Bool.Decides.{eqb_tells}
use Rattle.std.proofs.lemmas.List.{append-nil}
use Rattle.std.proofs.lemmas.Option.{none-some, same_Some}
use Rattle.k_selfpar.specs.declared.context.Context.{Context}
use Rattle.k_plan.specs.Choices.{Choice, IsAbove, next, further}
use Rattle.k_plan.specs.Plan.{ParentsComeFirst}
use Rattle.k_plan.proofs.Above.{AreBehind, above_parent, are_behind}
use Rattle.k_advise_plan.specs.declared.plan.ThreadedPick.{ThreadedPick}
use Rattle.k_advise_plan.specs.declared.team.Team.{Team}
use Rattle.k_advise_plan.specs.Plan.{pick_with, picks_from}
use Rattle.k_advise_plan.specs.Recast.{AreSmall}
use Rattle.k_advise_verdicts.specs.declared.placing.Placed.{Placed}
use Rattle.k_advise_verdicts.specs.Placing.{ArePlaced, IsPlaced, IsUnder, behind, is_first, pick_of, placed_at, placed_by, unplaced}
use Rattle.k_advise_verdicts.specs.Standings.{IsUnderPick}

pub get_there : {X : Type 0} (xs : List X) (n : ℕ) (d : X) → n < length xs → slice_get xs n ≡ Some (slice_index_or xs n d)
get_there [] n d low = absurd (omega (arith, low))
get_there (x ∷ xs) zero d low = refl
get_there (x ∷ xs) (suc n) d low = get_there xs n d (omega (arith, low))

-- an item between others
get_between : {X : Type 0} (xs ys : List X) (x : X) → slice_get (xs ++ x ∷ ys) (length xs) ≡ Some x
get_between [] ys x = refl
get_between (y ∷ xs) ys x = get_between xs ys x

-- the last item, or one before it
get_pushed : {X : Type 0} (xs : List X) (x : X) (k : ℕ) (p : X) → slice_get (xs ++ x ∷ []) k ≡ Some p → (slice_get xs k ≡ Some p) ⊎ ((k ≡ length xs) × (p ≡ x))
get_pushed [] x zero p is = inr (refl, sym (same_Some x p is))
get_pushed [] x (suc k) p is = absurd (none-some p is)
get_pushed (y ∷ xs) x zero p is = inl is
get_pushed (y ∷ xs) x (suc k) p is = elim (get_pushed xs x k p is) [
  | inl before ↦ inl before
  | inr (at, same) ↦ inr (ap (λ (n : ℕ). suc n) at, same)
]

length_pushed : {X : Type 0} (xs : List X) (x : X) → length (xs ++ x ∷ []) ≡ length xs + 1
length_pushed [] x = refl
length_pushed (y ∷ xs) x = let e : length (xs ++ x ∷ []) ≡ length xs + 1 = length_pushed xs x in omega arith

same_number : (n : ℕ) → nat_eq n n ≡ true
same_number n = elim (eqb_tells n n) [
  | inl is ↦ is.0
  | inr is ↦ absurd (is.1 refl)
]

other_number : (j k : ℕ) → k < j → nat_eq j k ≡ false
other_number j k less = elim (eqb_tells j k) [
  | inl is ↦ let e : j ≡ k = is.1 in absurd (omega arith)
  | inr is ↦ is.0
]

module _ (team : Team) (plan : Choice) where
  -- no pick of later contexts is of an earlier one
  none_first : (j k : ℕ) (contexts : List Context) → k < j → is_first (picks_from team j plan contexts) k ≡ false
  none_first j k [] less = refl
  none_first j k (c ∷ contexts) less = by (plan j) (none_first (j + 1) k contexts (omega arith))
    where
      by : (b : Bool) → is_first (picks_from team (j + 1) plan contexts) k ≡ false
          → is_first (if b then pick_with team j c ∷ picks_from team (j + 1) plan contexts else picks_from team (j + 1) plan contexts) k ≡ false
      by true later = other_number j k less
      by false later = later

  -- a context is a pick if it is that of the first of the picks that are left
  pub first_tells : (n : ℕ) (c : Context) (later : List Context) → is_first (picks_from team n plan (c ∷ later)) n ≡ plan n
  first_tells n c later = by (plan n)
    where
      by : (b : Bool) → is_first (if b then pick_with team n c ∷ picks_from team (n + 1) plan later else picks_from team (n + 1) plan later) n ≡ b
      by true = same_number n
      by false = none_first (n + 1) n later (omega arith)

  -- and then the others are left
  pub left_behind : (n : ℕ) (c : Context) (later : List Context) → behind (plan n) (picks_from team n plan (c ∷ later)) ≡ picks_from team (n + 1) plan later
  left_behind n c later = by (plan n)
    where
      by : (b : Bool) → behind b (if b then pick_with team n c ∷ picks_from team (n + 1) plan later else picks_from team (n + 1) plan later)
          ≡ picks_from team (n + 1) plan later
      by true = refl
      by false = refl

  module _ (contexts : List Context) where
    -- these stand where they are told to stand
    abbrev pub EachPlaced : List Placed → Type 0
    EachPlaced placed = (k : ℕ) (p : Placed) → slice_get placed k ≡ Some p → IsPlaced team contexts plan k p

    -- the first context is under no pick
    root_free : (n : ℕ) → n ≡ 0 → ¬ IsUnderPick contexts plan n
    root_free n first under = by n under.pick first under.above
      where
        by : (k a : ℕ) → k ≡ 0 → IsAbove contexts a k → ⊥
        by _ _ zero_is (next a k c some at is) = absurd (omega arith)
        by _ _ zero_is (further a k c some at up) = absurd (omega arith)

    -- under a pick above its parent
    from_above : (n : ℕ) (c : Context) → 0 < n → slice_get contexts n ≡ Some c → (o : Option ℕ) → plan c.parent ≡ false → IsUnder contexts plan c.parent o
        → IsUnder contexts plan n o
    from_above n c some at None free not_under = λ under. elim (above_parent contexts under.pick n c at under.above) [
      | inl same ↦ absurd (true≢false (sym under.picked ∙ ap plan (sym same) ∙ free))
      | inr up ↦ not_under (record { pick = under.pick; picked = under.picked; above = up })
    ]
    from_above n c some at (Some of) free (under, its) =
        (record { pick = under.pick; picked = under.picked; above = further under.pick n c some at under.above }, its)

    -- under a pick that is its parent, or is above that
    from_parent : (n : ℕ) (c : Context) → 0 < n → slice_get contexts n ≡ Some c → (q : Placed) → IsPlaced team contexts plan c.parent q → IsUnder contexts plan n (pick_of q)
    from_parent n c some at q placed = by q.picked placed.picked
      where
        by : (b : Bool) → b ≡ plan c.parent → IsUnder contexts plan n (if b then Some q.region else q.under)
        by true is = (
          record { pick = c.parent; picked = sym is; above = next c.parent n c some at refl },
          record { c = placed.c; at = placed.at; of = sym placed.region },
        )
        by false is = from_above n c some at q.under (sym is) placed.under

    -- the next one stands there too
    pub next_under : AreBehind contexts → (placed : List Placed) (c : Context) → EachPlaced placed → slice_get contexts (length placed) ≡ Some c
        → IsUnder contexts plan (length placed) (pick_of (placed_at placed c.parent))
    next_under parents [] c each at = root_free 0 refl
    next_under parents (p ∷ placed) c each at =
        let n : ℕ = length (p ∷ placed) in
        let some : 0 < n = omega arith in
        let less : c.parent < n = parents n c some at in
        from_parent n c some at (placed_at (p ∷ placed) c.parent) (each c.parent (placed_at (p ∷ placed) c.parent) (get_there (p ∷ placed) c.parent unplaced less))

    pub next_placed : AreBehind contexts → (placed : List Placed) (c : Context) (picked : Bool) → EachPlaced placed → slice_get contexts (length placed) ≡ Some c
        → picked ≡ plan (length placed) → IsPlaced team contexts plan (length placed) (placed_by team picked c placed)
    next_placed parents placed c picked each at is = record {
      c = c;
      at = at;
      region = refl;
      picked = is;
      under = next_under parents placed c each at;
      saves = refl;
    }

    pub each_pushed : (placed : List Placed) (x : Placed) → EachPlaced placed → IsPlaced team contexts plan (length placed) x → EachPlaced (placed ++ x ∷ [])
    each_pushed placed x each is k p at = elim (get_pushed placed x k p at) [
      | inl before ↦ each k p before
      | inr (here, same) ↦
          subst (λ (m : ℕ). IsPlaced team contexts plan m p) (sym here) (subst (λ (q : Placed). IsPlaced team contexts plan (length placed) q) (sym same) is)
    ]

module _ (team : Team) (contexts : List Context) (picks : List ThreadedPick) where
  -- so far they stand there, in each plan of these picks, and its later picks are left
  pub record Planned (plan : Choice) (placed : List Placed) (left : List ThreadedPick) (rest : List Context) : Type 0 where
    pub each : EachPlaced team plan contexts placed
    pub left_is : left ≡ picks_from team (length placed) plan rest

  -- and these contexts are left
  pub record Placing (placed : List Placed) (left : List ThreadedPick) (rest : List Context) : Type 0 where
    pub done : List Context
    pub all : contexts ≡ done ++ rest
    pub count : length placed ≡ length done
    pub planned : (plan : Choice) → picks ≡ picks_from team 0 plan contexts → Planned plan placed left rest

  pub none_placed : (placed : List Placed) → placed ≡ [] → Placing placed picks contexts
  none_placed placed is = record {
    done = [];
    all = refl;
    count = ap (λ (l : List Placed). length l) is;
    planned = λ plan of. record {
      each = λ k p at. absurd (none-some p (ap (λ (l : List Placed). slice_get l k) (sym is) ∙ at));
      left_is = of ∙ ap (λ (l : List Placed). picks_from team (length l) plan contexts) (sym is);
    };
  }

  -- the first that is left is the next context
  pub next_is : (placed : List Placed) (left : List ThreadedPick) (rest later : List Context) (c : Context) → Placing placed left rest → rest ≡ c ∷ later
      → slice_get contexts (length placed) ≡ Some c
  next_is placed left rest later c h is =
      ap (λ (n : ℕ). slice_get contexts n) h.count ∙ ap (λ (l : List Context). slice_get l (length h.done)) (h.all ∙ ap (λ (l : List Context). h.done ++ l) is)
      ∙ get_between h.done later c

  pub more_placed : ParentsComeFirst contexts → (placed new : List Placed) (left behind' : List ThreadedPick) (rest later : List Context) (c : Context)
      (picked : Bool) (x : Placed) → Placing placed left rest → rest ≡ c ∷ later → picked ≡ is_first left (length placed)
      → x ≡ placed_by team picked c placed → new ≡ placed ++ x ∷ [] → behind' ≡ behind picked left → Placing new behind' later
  more_placed parents placed new left behind' rest later c picked x h is first made pushed goes = record {
    done = h.done ++ c ∷ [];
    all = h.all ∙ ap (λ (l : List Context). h.done ++ l) is ∙ between h.done;
    count = longer ∙ ap (λ (n : ℕ). n + 1) h.count ∙ sym (length_pushed h.done c);
    planned = λ plan of. goes_on plan (h.planned plan of);
  }
    where
      between : (l : List Context) → l ++ c ∷ later ≡ (l ++ c ∷ []) ++ later
      between [] = refl
      between (d ∷ l) = ap (λ (m : List Context). d ∷ m) (between l)

      longer : length new ≡ length placed + 1
      longer = ap (λ (l : List Placed). length l) pushed ∙ length_pushed placed x

      goes_on : (plan : Choice) → Planned plan placed left rest → Planned plan new behind' later
      goes_on plan p = record {
        each = subst (λ (l : List Placed). EachPlaced team plan contexts l) (sym pushed) (each_pushed team plan contexts placed x p.each
            (subst (λ (q : Placed). IsPlaced team contexts plan (length placed) q) (sym made)
            (next_placed team plan contexts (are_behind contexts parents) placed c picked p.each (next_is placed left rest later c h is) tells)));
        left_is = goes ∙ ap (λ (b : Bool). behind b left) tells ∙ ap (λ (l : List ThreadedPick). behind (plan (length placed)) l) here
            ∙ left_behind team plan (length placed) c later ∙ ap (λ (n : ℕ). picks_from team n plan later) (sym longer);
      }
        where
          here : left ≡ picks_from team (length placed) plan (c ∷ later)
          here = p.left_is ∙ ap (λ (l : List Context). picks_from team (length placed) plan l) is

          tells : picked ≡ plan (length placed)
          tells = first ∙ ap (λ (l : List ThreadedPick). is_first l (length placed)) here ∙ first_tells team plan (length placed) c later

  pub all_placed : (placed : List Placed) (left : List ThreadedPick) (rest : List Context) → Placing placed left rest → rest ≡ []
      → (plan : Choice) → picks ≡ picks_from team 0 plan contexts → ArePlaced team contexts plan placed
  all_placed placed left rest h is plan of = record {
    all = h.count ∙ ap (λ (l : List Context). length l) (sym (h.all ∙ ap (λ (l : List Context). h.done ++ l) is ∙ append-nil h.done));
    each = (h.planned plan of).each;
  }

  pub work_small : (placed : List Placed) (left : List ThreadedPick) (rest later : List Context) (c : Context) → AreSmall contexts → Placing placed left rest
      → rest ≡ c ∷ later → c.work < 2 ^ 50
  work_small placed left rest later c small h is = small (length placed) c (next_is placed left rest later c h is)
