-- For contracts between crates: nobody has to believe it.
-- Contexts that save by their self-parallelism alone what others save with a team of threads, and what their plan says.
use Rattle.std.specs.Prelude.{ℕ, ◌≡◌, ◌<◌, ◌^◌, Bool, List, Some, slice_get}
use Rattle.k_optab.specs.Regions.{is_loop}
use Rattle.k_optab.specs.Tree.{EachWith}
use Rattle.k_selfpar.specs.declared.context.Context.{Context}
use Rattle.k_plan.specs.declared.advice.Pick.{Pick}
use Rattle.k_plan.specs.Saving.{saving}
use Rattle.k_advise_plan.specs.declared.plan.ThreadedPick.{ThreadedPick}
use Rattle.k_advise_plan.specs.declared.team.Team.{Team}
use Rattle.k_advise_plan.specs.Plan.{threaded_pick}
use Rattle.k_advise_plan.specs.Saving.{passes, threaded_saving}

-- d stands where c does and has its work, is a loop or none, and saves so much by its self-parallelism
pub record IsRecast (loop : Bool) (saved : ℕ) (c d : Context) : Type 0 where
  pub parent : d.parent ≡ c.parent
  pub work : d.work ≡ c.work
  pub kind : is_loop d.kind ≡ loop
  pub saves : saving d ≡ saved

-- each of the others is a loop where one of these passes, and saves what that one saves with the team
abbrev pub AreRecast : Team → (ℕ → Bool) → ℕ → List Context → List Context → Type 0
AreRecast team carries total contexts recasts = EachWith (λ c d. IsRecast (passes team carries total c) (threaded_saving team c) c d) contexts recasts

-- works are small
abbrev pub AreSmall : List Context → Type 0
AreSmall contexts = (k : ℕ) (c : Context) → slice_get contexts k ≡ Some c → c.work < 2 ^ 50

-- a pick without whether its turns look independent
abbrev pub without_doall : Pick → ThreadedPick
without_doall pick = threaded_pick pick.context pick.saves
