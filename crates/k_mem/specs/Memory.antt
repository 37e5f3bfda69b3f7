-- Believed with the theorem on the top call.
-- *Memory*: the live objects of a running program.
use Rattle.std.specs.Prelude.{ℕ, ◌≡◌, ◌+◌, ◌^◌, ◌≤◌, ◌==◌, Bool, List, [], ◌∷◌, length, sum_by, find, Option, ℤ}

-- a live object of the program (C17 6.2.4)
pub record Object : Type 0 where
  -- its number, which no other object has
  pub number : ℕ
  -- the number of its first element
  pub first : ℕ
  -- whether it may be written
  pub writable : Bool
  -- the value of each of its elements, None where it is unset
  pub elements : List (Option ℤ)

-- the live objects, oldest first, and how many objects were ever made
pub record Memory : Type 0 where
  pub live : List Object
  pub made : ℕ

-- the live object of that number
abbrev pub object_of : Memory → ℕ → Option Object
object_of m number = find (λ o. o.number == number) m.live

-- how many elements are live
abbrev pub live_elements : Memory → ℕ
live_elements m = sum_by (λ o. length o.elements) m.live

-- the elements of these objects are numbered from `start` on without gaps, in the order of the objects
abbrev pub FollowOn : ℕ → List Object → Type 0
FollowOn start [] = Unit {0}
FollowOn start (o ∷ objects) = (o.first ≡ start) × FollowOn (start + length o.elements) objects

-- the objects' numbers rise, from `low` on, and are below `made`
abbrev pub Rise : ℕ → List Object → ℕ → Type 0
Rise low [] made = low ≤ made
Rise low (o ∷ objects) made = (low ≤ o.number) × Rise (o.number + 1) objects made

-- what holds of the memory after every call
pub record IsLaidOut (m : Memory) : Type 0 where
  -- elements are numbered without gaps, in the order of their objects
  pub follow_on : FollowOn 0 m.live
  -- no two objects have one number, since numbers rise in the order of the objects
  pub rise : Rise 0 m.live m.made
  -- there are at most 4,194,304 live elements
  pub few_elements : live_elements m ≤ 4194304
  -- there were at most 2^62 objects
  pub few_objects : m.made ≤ 2 ^ 62
