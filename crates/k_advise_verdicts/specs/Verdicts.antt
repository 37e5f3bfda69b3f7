-- Believed with a public law.
-- *Verdicts*: what is told of a loop in one word, with its reason. Each word has its test, and the first that fits is told.
use Rattle.std.specs.Prelude.{ℕ, ◌&&◌, Bool, true, false, not, List, [], ◌∷◌, slice_get, Option, Some, None, option_map, if◌then◌else◌}
use Rattle.k_carry_pairs.specs.declared.pairs.Pair.{Pair}
use Rattle.k_carry_storage_pairs.specs.declared.pairs.Shared.{Shared}
use Rattle.k_selfpar.specs.declared.row.Row.{Row}
use Rattle.k_advise_verdicts.specs.declared.facts.LoopFacts.{LoopFacts}
use Rattle.k_advise_verdicts.specs.declared.standing.Standing.{Standing}
use Rattle.k_advise_verdicts.specs.declared.word.FirstPairs.{FirstPairs}
use Rattle.k_advise_verdicts.specs.declared.word.FirstShared.{FirstShared}
use Rattle.k_advise_verdicts.specs.declared.word.InCommon.{InCommon}
use Rattle.k_advise_verdicts.specs.declared.word.Verdict.{Verdict}
use Rattle.k_advise_verdicts.specs.declared.word.Verdict.TheVariants as verdict
use Rattle.k_advise_verdicts.specs.Figures.{is_uneven, tenths}

-- there are none of these
abbrev pub has_none : {X : Type 0} → List X → Bool
has_none [] = true
has_none (x ∷ xs) = false

-- there is one
abbrev pub is_there : {X : Type 0} → Option X → Bool
is_there None = false
is_there (Some x) = true

-- the first three of the pairs that a loop carries
abbrev pub first_pairs : List Pair → Option FirstPairs
first_pairs [] = None
first_pairs (p ∷ ps) = Some (record { first = p; second = slice_get ps 0; third = slice_get ps 1 })

-- the first three of its storage pairs
abbrev pub first_shared : List Shared → Option FirstShared
first_shared [] = None
first_shared (s ∷ ss) = Some (record { first = s; second = slice_get ss 0; third = slice_get ss 1 })

-- a loop may run in parallel: its text may be marked, each instance was looked at, and it has neither carried pairs nor storage pairs
abbrev pub may_run : LoopFacts → List Pair → List Shared → Bool
may_run f carried shared = (f.markable && not f.deep) && (has_none carried && has_none shared)

-- PARALLEL: the plan picks it, and it may run in parallel
abbrev pub parallel : LoopFacts → Standing → List Pair → List Shared → Option Verdict
parallel f standing carried shared =
    if standing.picked && may_run f carried shared then Some (verdict.Parallel (is_uneven f.turns.count f.turns.work f.turns.greatest)) else None

-- INSIDE: a pick is above it in each of its contexts
abbrev pub inside : Standing → Option Verdict
inside standing = option_map verdict.Inside standing.inside

-- CHAIN: it has carried pairs
abbrev pub chain : List Pair → Option Verdict
chain carried = option_map verdict.Chain (first_pairs carried)

-- what the turns of a loop would share
abbrev pub all_in_common : LoopFacts → List Shared → InCommon
all_in_common f shared = record { pairs = first_shared shared; own = f.own; variable = f.kept_in_common }

-- they would share something
abbrev pub in_common : LoopFacts → List Shared → Option InCommon
in_common f shared = if has_none shared && not (is_there f.kept_in_common) then None else Some (all_in_common f shared)

-- SHARED: it has storage pairs, or a register variable that is not private
abbrev pub shares : LoopFacts → List Shared → Option Verdict
shares f shared = option_map verdict.Shared (in_common f shared)

-- UNCOUNTED: Wide does not count it
abbrev pub uncounted : LoopFacts → Option Verdict
uncounted f = option_map verdict.Uncounted f.uncounted

-- LEAVES: its body holds a jump that leaves it
abbrev pub leaves : LoopFacts → Option Verdict
leaves f = option_map verdict.Leaves f.leaves

-- SMALL: it saves nothing where a start has this price
abbrev pub small : ℕ → LoopFacts → Standing → Option Verdict
small start f standing = if standing.saves then None else Some (verdict.Small (tenths f.turns.work f.turns.count) start)

-- the first of these that is there, or the last
abbrev pub first_of_them : List (Option Verdict) → Verdict → Verdict
first_of_them [] last = last
first_of_them (None ∷ rest) last = first_of_them rest last
first_of_them (Some v ∷ rest) last = v

-- THE VERDICT on a loop: the first that fits, or SERIAL, with its self-parallelism
abbrev pub verdict_of : ℕ → Row → LoopFacts → Standing → List Pair → List Shared → Verdict
verdict_of start row f standing carried shared =
    first_of_them (parallel f standing carried shared ∷ inside standing ∷ chain carried ∷ shares f shared ∷ uncounted f ∷ leaves f ∷ small start f standing ∷ [])
    (verdict.Serial row.sp)

-- the same where a loop is neither parallel nor inside, and shares nothing
abbrev pub verdict_alone : ℕ → Row → LoopFacts → Standing → Verdict
verdict_alone start row f standing = first_of_them (uncounted f ∷ leaves f ∷ small start f standing ∷ []) (verdict.Serial row.sp)
