-- The laws of *Shadow content* that crates above cite: how many levels are live after each call, and which times
-- are read then.
use Rattle.std.proofs.Common.{◌≡◌, ℕ, ◌+◌, ◌-◌, ◌<◌, zero, suc, List, [], ◌∷◌, length, get_or, ◌==◌, ◌&&◌, nat_le, nat_lt, refl, ap, arith, length-append}
use Rattle.std.specs.Prelude.{slice_index, if◌then◌else◌}
use Rattle.std.proofs.lemmas.List.{length-map, length-take, get_or_append_left, get_or_push, get_or-take, get_or-map}
use Rattle.k_shadow.specs.Content.{Content, depth, time_at, entered, level_dropped, with_time, set_times, written, without, cleared}

pub depth_entered : (c : Content) → depth (entered c) ≡ depth c + 1
depth_entered c = omega (arith, length-append c.levels ((λ _. 0) ∷ []))

pub depth_left : (c : Content) → 0 < depth c → depth (level_dropped c) + 1 ≡ depth c
depth_left c h = omega (arith, length-take (length c.levels - 1) c.levels)

length-set_times : (loc : ℕ) (times : List ℕ) (levels : List (ℕ → ℕ)) → length (set_times loc times levels) ≡ length levels
length-set_times loc [] levels = refl
length-set_times loc (t ∷ ts) [] = refl
length-set_times loc (t ∷ ts) (m ∷ ms) = ap (λ n. suc n) (length-set_times loc ts ms)

pub depth_written : (loc : ℕ) (times : List ℕ) (c : Content) → depth (written loc times c) ≡ depth c
depth_written loc times c = length-set_times loc times c.levels

pub depth_cleared : (first count : ℕ) (c : Content) → depth (cleared first count c) ≡ depth c
depth_cleared first count c = length-map c.levels (without first count)

-- a level that was entered has no times
pub time_at_entered_level : (c : Content) (loc : ℕ) → time_at (entered c) (depth c) loc ≡ 0
time_at_entered_level c loc = ap (λ (m : ℕ → ℕ). m loc) (get_or_push c.levels (λ _. 0) (λ _. 0) (length c.levels) refl)

-- the levels around it keep theirs
pub time_at_entered : (c : Content) (level loc : ℕ) → level < depth c → time_at (entered c) level loc ≡ time_at c level loc
time_at_entered c level loc h = ap (λ (m : ℕ → ℕ). m loc) (get_or_append_left c.levels ((λ _. 0) ∷ []) (λ _. 0) level h)

-- so do the levels around one that was left
pub time_at_left : (c : Content) (level loc : ℕ) → level + 1 < depth c → time_at (level_dropped c) level loc ≡ time_at c level loc
time_at_left c level loc h = ap (λ (m : ℕ → ℕ). m loc) (get_or-take (length c.levels - 1) c.levels level (λ _. 0) (omega arith))

get_or-set_times : (loc : ℕ) (times : List ℕ) (levels : List (ℕ → ℕ)) (level : ℕ) (d : ℕ → ℕ) → length times ≡ length levels → level < length levels → get_or (set_times loc times levels) level d ≡ with_time loc (slice_index times level) (get_or levels level d)
get_or-set_times loc [] [] level d same h = absurd (omega arith)
get_or-set_times loc [] (m ∷ ms) level d same h = absurd (omega arith)
get_or-set_times loc (t ∷ ts) [] level d same h = absurd (omega arith)
get_or-set_times loc (t ∷ ts) (m ∷ ms) zero d same h = refl
get_or-set_times loc (t ∷ ts) (m ∷ ms) (suc level) d same h = get_or-set_times loc ts ms level d (omega arith) (omega arith)

-- a location that was written has the time of each level
pub time_at_written : (loc : ℕ) (times : List ℕ) (c : Content) (level at : ℕ) → length times ≡ depth c → level < depth c → time_at (written loc times c) level at ≡ (if at == loc then slice_index times level else time_at c level at)
time_at_written loc times c level at same h = ap (λ (m : ℕ → ℕ). m at) (get_or-set_times loc times c.levels level (λ _. 0) same h)

-- a location that was cleared has time 0 at each level
pub time_at_cleared : (first count : ℕ) (c : Content) (level at : ℕ) → level < depth c → time_at (cleared first count c) level at ≡ (if nat_le first at && nat_lt at (first + count) then 0 else time_at c level at)
time_at_cleared first count c level at h = ap (λ (m : ℕ → ℕ). m at) (get_or-map (without first count) c.levels level (λ _. 0) (λ _. 0) h)
