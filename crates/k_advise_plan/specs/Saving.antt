-- Believed with a public law.
-- *Threaded saving*: what a loop saves with a team of threads, and which loops are worth making parallel for them.
use Rattle.std.specs.Prelude.{ℕ, ◌-◌, ◌*◌, Bool, false, ◌&&◌, not, nat_lt, nat_le, List, slice_index_or, if◌then◌else◌}
use Rattle.std.specs.Int.{div_ceil}
use Rattle.k_optab.specs.Regions.{is_loop}
use Rattle.k_selfpar.specs.declared.context.Context.{Context}
use Rattle.k_advise_plan.specs.declared.team.Team.{Team}

-- the lesser of a number and a ratio, as numerator and denominator
abbrev pub lesser : ℕ → ℕ × ℕ → ℕ × ℕ
lesser n ratio = if nat_le (n * ratio.1) ratio.0 then (n, 1) else ratio

-- what is saved of work that is shared by r, at a price: the work less the work divided by r, rounded up, and less the price; nothing
-- where that is negative, or r is below 1
abbrev pub saved_by : ℕ × ℕ → ℕ → ℕ → ℕ
saved_by r work price = if nat_lt r.0 r.1 then 0 else (work - div_ceil (work * r.1) r.0) - price

-- what a loop saves with a team: shared by the lesser of the threads and its self-parallelism, at the price of a start for each instance
abbrev pub threaded_saving : Team → Context → ℕ
threaded_saving team c = saved_by (lesser team.threads c.sp) c.work (c.instances * team.start)

-- a region's loop is told to carry a pair, in a list of what is told of each region
abbrev pub carried_in : List Bool → ℕ → Bool
carried_in carries region = slice_index_or carries region false

-- a context is a loop that saves something, and no less than a thousandth of the total work, and carries no pair
abbrev pub passes : Team → (ℕ → Bool) → ℕ → Context → Bool
passes team carries total c =
    is_loop c.kind && (nat_lt 0 (threaded_saving team c) && (nat_le total (1000 * threaded_saving team c) && not (carries c.region)))
