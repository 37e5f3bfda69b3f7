-- Believed with a public law.
-- *Shadow content*: what is seen of a shadow, and what each call makes of it.
use Rattle.std.specs.Prelude.{ℕ, zero, suc, ◌+◌, ◌-◌, ◌%◌, ◌^◌, ◌==◌, ◌&&◌, max, nat_lt, nat_le, if◌then◌else◌, List, [], ◌∷◌, ◌++◌, length, take, map, slice_index, slice_index_or}

-- a list with one finite map from location to time for each live level, outermost first (an absent location has
-- time 0); how many levels were entered so far; and the limit below which every location lies
pub record Content : Type 0 where
  pub levels : List (ℕ → ℕ)
  pub entries : ℕ
  pub limit : ℕ

-- no level is live, and none was entered
abbrev pub empty : ℕ → Content
empty limit = record { levels = []; entries = 0; limit = limit }

-- how many levels are live
abbrev pub depth : Content → ℕ
depth c = length c.levels

-- the time of a location at a level
abbrev pub time_at : Content → ℕ → ℕ → ℕ
time_at c level loc = slice_index_or c.levels level (λ _. 0) loc

-- an empty map is added at the end
abbrev pub entered : Content → Content
entered c = record c { levels = c.levels ++ (λ _. 0) ∷ []; entries = c.entries + 1 }

-- the last map is taken away
abbrev pub level_dropped : Content → Content
level_dropped c = record c { levels = take (length c.levels - 1) c.levels }

-- a map with that time at that location
abbrev pub with_time : ℕ → ℕ → (ℕ → ℕ) → ℕ → ℕ
with_time loc time level = λ at. if at == loc then time else level at

-- these maps, each with that location set to the time of its level
abbrev pub set_times : ℕ → List ℕ → List (ℕ → ℕ) → List (ℕ → ℕ)
set_times loc [] levels = levels
set_times loc (time ∷ times) [] = []
set_times loc (time ∷ times) (level ∷ levels) = with_time loc time level ∷ set_times loc times levels

-- the location is set to the time of its level in every live map
abbrev pub written : ℕ → List ℕ → Content → Content
written loc times c = record c { levels = set_times loc times c.levels }

-- a map without the `count` locations from `first` on
abbrev pub without : ℕ → ℕ → (ℕ → ℕ) → ℕ → ℕ
without first count level = λ at. if nat_le first at && nat_lt at (first + count) then 0 else level at

-- the time of the `count` locations from `first` on is 0 in every live map
abbrev pub cleared : ℕ → ℕ → Content → Content
cleared first count c = record c { levels = map (without first count) c.levels }

-- the time of an operation with two operands and a control entry of these times: the latest, and the latency more,
-- modulo 2^64
abbrev pub time_after : ℕ → ℕ → ℕ → ℕ → ℕ
time_after left right control latency = (max (max left right) control + latency) % 2 ^ 64

-- what f gives for each of the n outermost levels
unfoldable pub at_levels : ℕ → (ℕ → ℕ) → List ℕ
at_levels zero f = []
at_levels (suc n) f = f 0 ∷ at_levels n (λ k. f (k + 1))

-- the time of an operation at a level, where what it waits for has these times: that time, and the latency more,
-- modulo 2^64
abbrev pub after_none : List ℕ → ℕ → ℕ → ℕ
after_none before latency level = (slice_index before level + latency) % 2 ^ 64

-- the same, with a location as an operand
abbrev pub after_one : Content → ℕ → List ℕ → ℕ → ℕ → ℕ
after_one c from before latency level = (max (time_at c level from) (slice_index before level) + latency) % 2 ^ 64

-- the same, with two locations as operands
abbrev pub after_two : Content → ℕ → ℕ → List ℕ → ℕ → ℕ → ℕ
after_two c left right before latency level = time_after (time_at c level left) (time_at c level right) (slice_index before level) latency

-- the location is set to the time of each level that f gives
abbrev pub written_by : ℕ → (ℕ → ℕ) → Content → Content
written_by loc f c = written loc (at_levels (length c.levels) f) c
