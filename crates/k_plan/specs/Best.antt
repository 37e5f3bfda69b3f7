-- For contracts between crates: nobody has to believe it.
-- The greatest totals below contexts, from the last context to the first.
use Rattle.std.specs.Prelude.{ℕ, zero, suc, ◌+◌, ◌^◌, ◌<◌, ◌≡◌, ◌==◌, ◌&&◌, ◌||◌, Bool, true, false, nat_le, max, not, List, [], ◌∷◌, ◌++◌, length, Option, Some, None, slice_get, slice_index_or, if◌then◌else◌}
use Rattle.k_selfpar.specs.declared.context.Context.{Context}
use Rattle.k_plan.specs.declared.limits.Limits.{Limits}
use Rattle.k_plan.specs.declared.advice.Pick.{Pick}
use Rattle.k_selfpar.specs.Contexts.{root_work}
use Rattle.k_plan.specs.Plan.{StandBehindParents, behind_root, pick_of}
use Rattle.k_plan.specs.Saving.{passes, saving}

-- what those of these contexts give together whose parent is a; they are numbered from k on, and f tells what one gives, by its
-- number, itself, and what its children give
abbrev pub given : (ℕ → Context → ℕ → ℕ) → List Context → ℕ → ℕ → ℕ
given f [] k a = 0
given f (c ∷ contexts) k a = (if c.parent == a then f k c (given f contexts (k + 1) k) else 0) + given f contexts (k + 1) a

-- the best total at a context and below it, where that of the choices below it is `below`
abbrev pub best : Limits → ℕ → Context → ℕ → ℕ
best limits root c below = max (if passes limits root c then saving c else 0) below

-- a context is taken: it is a passing loop, and no choice below it saves more
abbrev pub takes : Limits → ℕ → Context → ℕ → Bool
takes limits root c below = passes limits root c && nat_le below (saving c)

-- these numbers are the best totals below the contexts
pub record AreBest (limits : Limits) (root : ℕ) (contexts : List Context) (below : List ℕ) : Type 0 where
  pub count : length below ≡ length contexts + 1
  pub totals : (a : ℕ) → a < length contexts + 1 → slice_index_or below a 0 ≡ given (λ _. best limits root) contexts 1 a

-- the best total of the choices below context k
abbrev pub best_below : Limits → List Context → ℕ → ℕ
best_below limits contexts k = given (λ _. best limits (root_work contexts)) (behind_root contexts) 1 k

-- a context that is there is taken
abbrev pub takes_some : Limits → ℕ → ℕ → Option Context → Bool
takes_some limits root below None = false
takes_some limits root below (Some c) = takes limits root c below

-- context k is taken
abbrev pub taken : Limits → List Context → ℕ → Bool
taken limits contexts k = takes_some limits (root_work contexts) (best_below limits contexts k) (slice_get contexts k)

-- the parent of a context that is there
abbrev pub parent_in : Option Context → ℕ
parent_in None = 0
parent_in (Some c) = c.parent

-- some context above context k passes a test, where so many steps are gone
unfoldable pub any_above : (ℕ → Bool) → List Context → ℕ → ℕ → Bool
any_above test contexts zero k = false
any_above test contexts (suc steps) k =
    if k == 0 then false else (test (parent_in (slice_get contexts k)) || any_above test contexts steps (parent_in (slice_get contexts k)))

-- some context above context k is taken
abbrev pub is_covered : Limits → List Context → ℕ → Bool
is_covered limits contexts k = any_above (taken limits contexts) contexts k k

-- the contexts that are taken and have none above them that is
abbrev pub best_choice : Limits → List Context → ℕ → Bool
best_choice limits contexts k = taken limits contexts k && not (is_covered limits contexts k)

-- what these contexts give below them fits
pub record CanSum (limits : Limits) (root : ℕ) (contexts : List Context) : Type 0 where
  pub root_work : root < 2 ^ 50
  pub sp : limits.sp < 2 ^ 62
  pub parents : StandBehindParents 1 contexts
  pub small : (k : ℕ) (c : Context) → slice_get contexts k ≡ Some c → c.work < 2 ^ 50
  pub few : length contexts < 65536
  pub fits : (a : ℕ) → a < length contexts + 1 → given (λ _. best limits root) contexts 1 a < 2 ^ 64

-- one pick more, where the context is picked
abbrev pub with_pick : Bool → ℕ → Context → List Pick → List Pick
with_pick false k c picks = picks
with_pick true k c picks = picks ++ pick_of k c ∷ []

-- where `free` tells of each context before whether neither it nor one above it is taken: whether no context above one with this
-- parent is; the first context has none above it
abbrev pub is_free : List Bool → ℕ → Bool
is_free [] parent = true
is_free (first ∷ free) parent = slice_index_or (first ∷ free) parent false
