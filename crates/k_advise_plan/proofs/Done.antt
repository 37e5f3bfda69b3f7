-- Contexts that are recast one after the other.
use Rattle.std.proofs.Common.{◌≡◌, ℕ, ◌<◌, ◌^◌, Bool, List, [], ◌∷◌, ◌++◌, length, slice_get, refl, sym, ap, ◌∙◌, subst, append_assoc}
use Rattle.std.proofs.lemmas.List.{append-nil}
use Rattle.k_selfpar.specs.declared.context.Context.{Context}
use Rattle.k_plan.proofs.Summing.{place_behind}
use Rattle.k_advise_plan.specs.declared.team.Team.{Team}
use Rattle.k_advise_plan.specs.Recast.{AreRecast, AreSmall, IsRecast}
use Rattle.k_advise_plan.specs.Saving.{passes, threaded_saving}

-- those before the rest are recast
pub record Done (team : Team) (carries : ℕ → Bool) (work : ℕ) (contexts rest recasts : List Context) : Type 0 where
  pub before : List Context
  pub parts : contexts ≡ before ++ rest
  pub are : AreRecast team carries work before recasts

module _ (team : Team) (carries : ℕ → Bool) (work : ℕ) (contexts : List Context) where
  pub none_done : Done team carries work contexts contexts []
  none_done = record { before = []; parts = refl; are = tt }

  pub all_done : (rest recasts : List Context) → rest ≡ [] → Done team carries work contexts rest recasts → AreRecast team carries work contexts recasts
  all_done rest recasts is h =
      subst (λ l. AreRecast team carries work l recasts) (sym (h.parts ∙ ap (λ l. h.before ++ l) is ∙ append-nil h.before)) h.are

  one_more : (before recasts : List Context) (c d : Context) → AreRecast team carries work before recasts
      → IsRecast (passes team carries work c) (threaded_saving team c) c d → AreRecast team carries work (before ++ c ∷ []) (recasts ++ d ∷ [])
  one_more [] [] c d are is = (is, tt)
  one_more [] (y ∷ recasts) c d are is = absurd are
  one_more (x ∷ before) [] c d are is = absurd are
  one_more (x ∷ before) (y ∷ recasts) c d are is = (are.0, one_more before recasts c d are.1 is)

  module _ (rest later recasts : List Context) (c : Context) (h : Done team carries work contexts rest recasts) (first : rest ≡ c ∷ later) where
    whole : contexts ≡ h.before ++ c ∷ later
    whole = h.parts ∙ ap (λ l. h.before ++ l) first

    pub work_small : AreSmall contexts → c.work < 2 ^ 50
    work_small small = small (length h.before) c (ap (λ l. slice_get l (length h.before)) whole ∙ place_behind h.before later c)

    pub more_done : (d : Context) (new : List Context) → IsRecast (passes team carries work c) (threaded_saving team c) c d → new ≡ recasts ++ d ∷ []
        → Done team carries work contexts later new
    more_done d new is put = record {
      before = h.before ++ c ∷ [];
      parts = whole ∙ sym (append_assoc h.before (c ∷ []) later);
      are = subst (λ l. AreRecast team carries work (h.before ++ c ∷ []) l) (sym put) (one_more h.before recasts c d h.are is);
    }

-- a context is recast by what is told of it
pub recast_as : (loop test : Bool) (saved saves : ℕ) (c d : Context) → loop ≡ test → saved ≡ saves → IsRecast loop saved c d → IsRecast test saves c d
recast_as loop test saved saves c d e f is = record { parent = is.parent; work = is.work; kind = is.kind ∙ e; saves = is.saves ∙ f }
