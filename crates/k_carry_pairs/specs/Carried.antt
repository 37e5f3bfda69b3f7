-- Believed with the theorem on the top call.
-- *Carried pairs*: the dependences that the instances of loops carry from turn to turn.
use Rattle.std.specs.Prelude.{ℕ, zero, suc, ◌≡◌, ◌+◌, ◌<◌, ◌⊎◌, ◌&&◌, ◌||◌, nat_eq, nat_lt, Bool, true, false, if◌then◌else◌, List, [], ◌∷◌, take, reverse, slice_get, Option, Some, None}
use Rattle.k_num.specs.declared.place.Place.{Place}
use Rattle.k_optab.specs.declared.event.Event.{Event}
use Rattle.k_optab.specs.declared.event.Event.TheVariants.{Op, Exit}
use Rattle.k_optab.specs.declared.region.Region.{Region}
use Rattle.k_optab.specs.Events.{Operation, ListsUnbroken, made_before}
use Rattle.k_optab.specs.Open.{Open, open_after}
use Rattle.k_optab.specs.Regions.{is_loop}
use Rattle.k_carry_pairs.specs.declared.pairs.LoopPairs.{LoopPairs}
use Rattle.k_carry_pairs.specs.declared.pairs.Pair.{Pair}

-- x is one of these
abbrev pub IsAmong : {X : Type 0} → X → List X → Type 0
IsAmong x [] = ⊥
IsAmong x (y ∷ ys) = (y ≡ x) ⊎ IsAmong x ys

-- the event at this place lies in the instance, which is open before it
abbrev pub LiesIn : List Event → ℕ → Open → Type 0
LiesIn events at o = IsAmong o (open_after (take at events))

-- the innermost of the open instances, here the first, is a body of this one: it is of the next region number, and this is the next one around it
abbrev pub is_body_of : Open → List Open → Bool
is_body_of o (body ∷ around ∷ outer) = nat_eq around.enter o.enter && nat_eq body.region (o.region + 1)
is_body_of o (body ∷ []) = false
is_body_of o [] = false

-- a body of the instance ends by an event before which these are open, in order of entry
abbrev pub ends_body : Open → List Open → Option Event → Bool
ends_body o opened (Some Exit) = is_body_of o (reverse opened)
ends_body o opened event = false

-- THE TURN of what lies in an instance at this place among the events: how many of its bodies ended before
abbrev pub turn : List Event → Open → ℕ → ℕ
turn events o zero = 0
turn events o (suc at) = if ends_body o (open_after (take at events)) (slice_get events at) then suc (turn events o at) else turn events o at

-- this operation stands at this place among the events
abbrev pub StandsAt : List Event → ℕ → Operation → Type 0
StandsAt events at op = slice_get events at ≡ Some (Op op.class op.latency op.sources op.place)

-- THE INSTANCE CARRIES a dependence between operations of these places of the source: the later one lists the earlier one as an unbroken source, both
-- lie in the instance, and the earlier one lies in an earlier turn.
pub record Carries (events : List Event) (o : Open) (pair : Pair) : Type 0 where
  pub j : ℕ
  pub k : ℕ
  pub earlier : Operation
  pub later : Operation
  pub made : StandsAt events j earlier
  pub depends : StandsAt events k later
  pub listed : ListsUnbroken later.sources (made_before j events)
  pub begins_in : LiesIn events j o
  pub ends_in : LiesIn events k o
  pub turns : turn events o j < turn events o k
  pub from : earlier.place ≡ pair.from
  pub to : later.place ≡ pair.to

-- an instance of this region, closed or still open, which is tracked
pub record IsTracked (depth : ℕ) (events : List Event) (region : ℕ) (o : Open) : Type 0 where
  pub at : ℕ
  pub opened : LiesIn events at o
  pub of : o.region ≡ region
  pub shallow : o.depth < depth

-- the pairs of a region: what its tracked instances carry
abbrev pub IsPair : ℕ → List Event → ℕ → Pair → Type 0
IsPair depth events region pair = (o : Open) × IsTracked depth events region o × Carries events o pair

-- the region is a loop
abbrev pub is_loop_kind : Option Region → Bool
is_loop_kind None = false
is_loop_kind (Some region) = is_loop region.kind

-- so is the region of this number among these
abbrev pub is_loop_at : List Region → ℕ → Bool
is_loop_at regions n = is_loop_kind (slice_get regions n)

-- one place stands before the other, by line and column
abbrev pub place_before : Place → Place → Bool
place_before a b = nat_lt a.line b.line || (nat_eq a.line b.line && nat_lt a.column b.column)

-- they are one place
abbrev pub same_place : Place → Place → Bool
same_place a b = nat_eq a.line b.line && nat_eq a.column b.column

-- one pair stands before the other, by the place from which it leads, then by that to which it leads
abbrev pub pair_before : Pair → Pair → Bool
pair_before a b = place_before a.from b.from || (same_place a.from b.from && place_before a.to b.to)

-- the test holds of each
abbrev pub AllPass : {X : Type 0} → (X → Bool) → List X → Type 0
AllPass test [] = Unit {0}
AllPass test (x ∷ xs) = (test x ≡ true) × AllPass test xs

-- each stands before all behind it, so none stands there twice
abbrev pub AreSorted : {X : Type 0} → (X → X → Bool) → List X → Type 0
AreSorted before [] = Unit {0}
AreSorted before (x ∷ xs) = AllPass (before x) xs × AreSorted before xs

-- what is told of a loop: it has a tracked instance, and these are its pairs, sorted
pub record IsLoopOf (regions : List Region) (depth : ℕ) (events : List Event) (l : LoopPairs) : Type 0 where
  pub is_loop : is_loop_at regions l.region ≡ true
  pub tracked : (o : Open) × IsTracked depth events l.region o
  pub sorted : AreSorted pair_before l.pairs
  pub sound : (pair : Pair) → IsAmong pair l.pairs → IsPair depth events l.region pair
  pub complete : (pair : Pair) → IsPair depth events l.region pair → IsAmong pair l.pairs

-- one loop stands before the other, by its region
abbrev pub loop_before : LoopPairs → LoopPairs → Bool
loop_before a b = nat_lt a.region b.region

-- CARRIED PAIRS: in order of region, each loop with a tracked instance, with its pairs
pub record AreCarried (regions : List Region) (depth : ℕ) (events : List Event) (loops : List LoopPairs) : Type 0 where
  pub sorted : AreSorted loop_before loops
  pub sound : (l : LoopPairs) → IsAmong l loops → IsLoopOf regions depth events l
  pub complete : (region : ℕ) → is_loop_at regions region ≡ true → ((o : Open) × IsTracked depth events region o)
      → (l : LoopPairs) × IsAmong l loops × (l.region ≡ region)
