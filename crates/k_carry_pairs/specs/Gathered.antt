-- For contracts between crates: nobody has to believe it.
-- What is gathered of a run, event by event, and what it means.
use Rattle.std.specs.Prelude.{ℕ, ◌≡◌, ◌+◌, ◌<◌, ◌≤◌, ◌⊎◌, ◌&&◌, ◌||◌, nat_eq, nat_lt, nat_le, Bool, true, false, not, if◌then◌else◌, List, [], ◌∷◌, length, map, replicate, reverse, slice_get, slice_set, Option, Some, None}
use Rattle.k_num.specs.declared.place.Place.{Place}
use Rattle.k_optab.specs.declared.event.Event.{Event}
use Rattle.k_optab.specs.declared.event.Src.{Src}
use Rattle.k_optab.specs.declared.region.Region.{Region}
use Rattle.k_optab.specs.Events.{Operation, ListsUnbroken, made_before, operations}
use Rattle.k_optab.specs.Open.{Open, open_after}
use Rattle.k_carry_pairs.specs.declared.found.Found.{Found}
use Rattle.k_carry_pairs.specs.declared.levels.Level.{Level}
use Rattle.k_carry_pairs.specs.declared.origin.Origin.{Origin}
use Rattle.k_carry_pairs.specs.declared.pairs.LoopPairs.{LoopPairs}
use Rattle.k_carry_pairs.specs.declared.pairs.Pair.{Pair}
use Rattle.k_carry_pairs.specs.Carried.{AreSorted, IsAmong, IsPair, IsTracked, LiesIn, StandsAt, is_loop_at, pair_before, turn}

-- The program's regions; how deep instances are tracked; the regions of the open instances, the innermost first; of those that are tracked loops a level
-- each, the innermost first; which loops had a tracked instance; and the pairs so far, in order of their regions.
pub record Gathered : Type 0 where
  pub regions : List Region
  pub depth : ℕ
  pub opened : List ℕ
  pub levels : List Level
  pub seen : List Bool
  pub found : List Found

-- nothing has happened
abbrev pub nothing : List Region → ℕ → Gathered
nothing regions depth = record { regions = regions; depth = depth; opened = []; levels = []; seen = replicate (length regions) false; found = [] }

-- one pair stands before the other: by region, then as pairs of one region do
abbrev pub found_before : Found → Found → Bool
found_before a b = nat_lt a.region b.region || (nat_eq a.region b.region && pair_before a.pair b.pair)

-- the regions that were seen have numbers of 32 bits
abbrev pub HaveNumbers : List Bool → Type 0
HaveNumbers seen = (region : ℕ) → slice_get seen region ≡ Some true → region < 4294967296

-- each region has a mark whether it was seen, those that were have numbers of 32 bits, and the pairs are sorted
pub record IsWhole (regions : List Region) (seen : List Bool) (found : List Found) : Type 0 where
  pub size : length seen ≡ length regions
  pub few : HaveNumbers seen
  pub sorted : AreSorted found_before found

-- the sorted pairs with one more, unless it is there
abbrev pub put : Found → List Found → List Found
put f [] = f ∷ []
put f (g ∷ found) = if found_before g f then g ∷ put f found else (if found_before f g then f ∷ g ∷ found else g ∷ found)

-- of these pairs those below the place stand before this one, and no others do
pub record IsPlaceFor (new : Found) (found : List Found) (at : ℕ) : Type 0 where
  pub below : (k : ℕ) (f : Found) → k < at → slice_get found k ≡ Some f → found_before f new ≡ true
  pub behind : (k : ℕ) (f : Found) → at ≤ k → slice_get found k ≡ Some f → found_before f new ≡ false

-- there is one that does not stand behind
abbrev pub not_behind : Option Found → Found → Bool
not_behind None new = false
not_behind (Some old) new = not (found_before new old)

-- at this place there is one that does not stand behind
abbrev pub stands_at : List Found → ℕ → Found → Bool
stands_at found at new = not_behind (slice_get found at) new

-- an instance of a loop is entered that is tracked
abbrev pub loop_entered : ℕ → ℕ → Gathered → Gathered
loop_entered region made g = record g {
  opened = region ∷ g.opened;
  levels = record { region = region; depth = length g.opened; first = made; turn = 0 } ∷ g.levels;
  seen = slice_set g.seen region true;
}

-- an instance of this region is entered, behind so many operations
abbrev pub entered : ℕ → ℕ → Gathered → Gathered
entered region made g =
    if nat_lt (length g.opened) g.depth && is_loop_at g.regions region then loop_entered region made g
    else record g { opened = region ∷ g.opened }

-- the levels without that of an instance of this depth, which could be the innermost
abbrev pub without_level : ℕ → List Level → List Level
without_level depth [] = []
without_level depth (l ∷ levels) = if nat_eq l.depth depth then levels else l ∷ levels

-- an instance of this region and depth is a body of a loop whose level is the innermost around it
abbrev pub is_turned : ℕ → ℕ → Level → Bool
is_turned region depth l = nat_eq depth (l.depth + 1) && nat_eq region (l.region + 1)

-- in the innermost level a turn begins, behind so many operations
abbrev pub with_turn : ℕ → List Level → List Level
with_turn made [] = []
with_turn made (l ∷ levels) = record l { turn = made } ∷ levels

-- a body of this region ended at this depth, behind so many operations: if the innermost level is that of its loop, a turn begins there
abbrev pub turned : ℕ → ℕ → ℕ → List Level → List Level
turned made region depth [] = []
turned made region depth (l ∷ levels) =
    (if is_turned region depth l then record l { turn = made } else l) ∷ levels

-- the innermost of the open instances is left, behind so many operations
abbrev pub left_of : ℕ → List ℕ → Gathered → Gathered
left_of made [] g = g
left_of made (region ∷ outer) g = record g {
  opened = outer;
  levels = turned made region (length outer) (without_level (length outer) g.levels);
}

-- the innermost instance is left
abbrev pub left : ℕ → Gathered → Gathered
left made g = left_of made g.opened g

-- the operation of this number lies in the level's instance, and in an earlier turn
abbrev pub is_carried : ℕ → Level → Bool
is_carried number l = nat_le l.first number && nat_lt number l.turn

-- one of these levels carries the operation of this number
abbrev pub some_carries : ℕ → List Level → Bool
some_carries number [] = false
some_carries number (l ∷ levels) = is_carried number l || some_carries number levels

-- an operation at this place depends on this one: each level that carries this has the pair
abbrev pub depended : List Level → Origin → Place → List Found → List Found
depended [] origin to found = found
depended (l ∷ levels) origin to found =
    depended levels origin to
    (if is_carried origin.number l then put (record { region = l.region; pair = record { from = origin.place; to = to } }) found else found)

-- it depends on all these
abbrev pub found_all : List Level → List Origin → Place → List Found → List Found
found_all levels [] to found = found
found_all levels (origin ∷ origins) to found = found_all levels origins to (depended levels origin to found)

-- so do the levels, outermost first
abbrev pub depended_all : List Origin → Place → Gathered → Gathered
depended_all origins to g = record g { found = found_all (reverse g.levels) origins to g.found }

-- the pairs of a region among all
abbrev pub pairs_of : ℕ → List Found → List Pair
pairs_of region [] = []
pairs_of region (f ∷ found) = if nat_eq f.region region then f.pair ∷ pairs_of region found else pairs_of region found

-- the loops that had a tracked instance, of those from this region on, with their pairs
abbrev pub loops_from : ℕ → List Bool → List Found → List LoopPairs
loops_from region [] found = []
loops_from region (true ∷ seen) found = record { region = region; pairs = pairs_of region found } ∷ loops_from (region + 1) seen found
loops_from region (false ∷ seen) found = loops_from (region + 1) seen found

-- the open instances, the innermost first
abbrev pub inner : List Event → List Open
inner events = reverse (open_after events)

-- a level is that of this open instance: operations from its first one on lie in the instance, those before its turn in earlier turns
pub record IsLevelOf (events : List Event) (o : Open) (l : Level) : Type 0 where
  pub region : l.region ≡ o.region
  pub depth : l.depth ≡ o.depth
  pub first : l.first ≡ o.start
  pub begun : l.turn ≤ length (operations events)
  pub lies : (at : ℕ) (op : Operation) → StandsAt events at op → l.first ≤ made_before at events → LiesIn events at o
  pub earlier : (at : ℕ) (op : Operation) → StandsAt events at op → made_before at events < l.turn → turn events o at < turn events o (length events)
  pub only : (at : ℕ) (op : Operation) → StandsAt events at op → turn events o at < turn events o (length events) → made_before at events < l.turn

-- the instance is one of a loop, and tracked
abbrev pub is_kept : List Region → ℕ → Open → Bool
is_kept regions depth o = nat_lt o.depth depth && is_loop_at regions o.region

-- the levels are those of the open instances that are tracked loops
abbrev pub AreLevelsOf : List Region → ℕ → List Event → List Open → List Level → Type 0
AreLevelsOf regions depth events [] levels = levels ≡ []
AreLevelsOf regions depth events (o ∷ outer) levels =
    ((is_kept regions depth o ≡ true) × ((l : Level) × ((rest : List Level) × (levels ≡ l ∷ rest) × IsLevelOf events o l × AreLevelsOf regions depth events outer rest)))
    ⊎ ((is_kept regions depth o ≡ false) × AreLevelsOf regions depth events outer levels)

-- WHAT IS GATHERED is that of these events
pub record Gathers (events : List Event) (g : Gathered) : Type 0 where
  pub opened : g.opened ≡ map (λ (o : Open). o.region) (inner events)
  pub levels : AreLevelsOf g.regions g.depth events (inner events) g.levels
  pub size : length g.seen ≡ length g.regions
  pub seen : (region : ℕ) → slice_get g.seen region ≡ Some true
      → (is_loop_at g.regions region ≡ true) × ((o : Open) × IsTracked g.depth events region o)
  pub all_seen : (region : ℕ) (o : Open) → is_loop_at g.regions region ≡ true → IsTracked g.depth events region o → slice_get g.seen region ≡ Some true
  pub sorted : AreSorted found_before g.found
  pub sound : (f : Found) → IsAmong f g.found → (is_loop_at g.regions f.region ≡ true) × IsPair g.depth events f.region f.pair
  pub complete : (f : Found) → is_loop_at g.regions f.region ≡ true → IsPair g.depth events f.region f.pair → IsAmong f g.found

-- these are the unbroken ones of the sources of an operation behind these events, each with its place
pub record AreOrigins (events : List Event) (sources : List Src) (origins : List Origin) : Type 0 where
  pub listed : (x : Origin) → IsAmong x origins → ListsUnbroken sources x.number
  pub placed : (x : Origin) (op : Operation) → IsAmong x origins → slice_get (operations events) x.number ≡ Some op → op.place ≡ x.place
  pub all : (j : ℕ) → ListsUnbroken sources j → (x : Origin) × IsAmong x origins × (x.number ≡ j)
