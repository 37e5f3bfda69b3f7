-- Believed with the theorem on the top call.
-- What a loop saves, and which loops are worth making parallel.
use Rattle.std.specs.Prelude.{ℕ, ◌-◌, ◌*◌, Bool, true, false, ◌&&◌, nat_lt, nat_le, if◌then◌else◌}
use Rattle.std.specs.Int.{div_ceil}
use Rattle.k_optab.specs.Regions.{is_loop}
use Rattle.k_selfpar.specs.declared.context.Context.{Context}
use Rattle.k_plan.specs.declared.limits.Limits.{Limits}

-- what a loop must reach: a self-parallelism of 5, and savings of one thousandth of the work where its turns look independent, else of 30
abbrev pub standard_limits : Limits
standard_limits = record { sp = 5; doall = 1; doacross = 30 }

-- what a loop saves: its work less its work divided by its self-parallelism, rounded up; nothing where that is below 1
abbrev pub saving : Context → ℕ
saving c = if nat_lt c.sp.0 c.sp.1 then 0 else c.work - div_ceil (c.work * c.sp.1) c.sp.0

-- a loop's turns look independent: its self-parallelism is at least three quarters of its turns for each instance
abbrev pub is_doall : Context → Bool
is_doall c = nat_lt 0 c.turns && nat_le (3 * (c.sp.1 * c.turns)) (4 * (c.sp.0 * c.instances))

-- the thousandths of the root's work that a loop has to save
abbrev pub threshold : Limits → Context → ℕ
threshold limits c = if is_doall c then limits.doall else limits.doacross

-- a context is a loop with self-parallelism enough that saves enough of this work of the root
abbrev pub passes : Limits → ℕ → Context → Bool
passes limits root c = is_loop c.kind && (nat_le (limits.sp * c.sp.1) c.sp.0 && nat_le (root * threshold limits c) (1000 * saving c))
