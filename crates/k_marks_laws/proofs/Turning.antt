-- The turns of a loop, one by one: where they end, there is a last test.
use Rattle.std.proofs.Common.{◌≡◌, ℕ, zero, suc, ◌<◌, Option, Bool, true, false, not, if◌then◌else◌, refl, sym, ◌∙◌, ap, subst, arith}
use Rattle.k_world.specs.declared.value.Held.{Held}
use Rattle.k_evaluation.specs.declared.flow.Flow.{Flow}
use Rattle.k_evaluation.specs.declared.flow.Flow.TheVariants.{Normal, Broke, Continued, Returned}
use Rattle.k_evaluation.specs.States.{State, Outcome, Goes, Stops, Part, follow, ◌>>=◌, gives, settles}
use Rattle.k_evaluation.specs.Meanings.{holds}
use Rattle.k_evaluation.specs.Loops.{LoopParts, turn_of, starts, stays_behind_body, step_or_end, behind_body, turn, turn_if, turns}
use Rattle.k_marks_laws.specs.Turns.{tested_turn, IsBeforeTest}
use Rattle.k_marks_laws.proofs.Flows.{MayJump, IsAllowed, GivesAt, Gives}
use Rattle.k_marks_laws.proofs.Tested.{At, follow_at, at_goes}

-- what follows where another test comes
abbrev pub next_or : Outcome Flow → Part Flow → Outcome Flow
next_or (Goes Normal t) next = Goes Normal t
next_or (Goes Broke t) next = Goes Broke t
next_or (Goes Continued t) next = next t
next_or (Goes (Returned v) t) next = Goes (Returned v) t
next_or (Stops end w) next = Stops end w

or_follow : {A : Type 0} (o : Outcome A) (f g : A → Part Flow) (next : Part Flow) → ((a : A) (t : State) → f a t ≡ next_or (g a t) next) → follow o f ≡ next_or (follow o g) next
or_follow (Goes a t) f g next each = each a t
or_follow (Stops end w) f g next each = refl

module _ (l : LoopParts) (before : Option ℕ) (next : Part Flow) where
  step_or : (flow : Flow) (s : State) → step_or_end l before next (turn_of flow) s ≡ next_or (step_or_end l before (gives Continued) (turn_of flow) s) next
  step_or Normal s = or_follow (starts l before l.step s) (λ done. next) (λ done. gives Continued) next (λ done t. refl)
  step_or Broke s = refl
  step_or Continued s = or_follow (starts l before l.step s) (λ done. next) (λ done. gives Continued) next (λ done t. refl)
  step_or (Returned v) s = refl

  turn_or : (last : Option ℕ) (s : State) → turn l before next last s ≡ next_or (turn l before (gives Continued) last s) next
  turn_or last s =
      or_follow (starts l before l.body s) (behind_body l before next last) (behind_body l before (gives Continued) last) next
      (λ flow t. or_follow (settles (stays_behind_body l.jumps) last t) (λ done. step_or_end l before next (turn_of flow))
      (λ done. step_or_end l before (gives Continued) (turn_of flow)) next (λ done u. step_or flow u))

  if_or : (test : Held) (s : State) → turn_if l before next test s ≡ next_or (turn_if l before (gives Continued) test s) next
  if_or test s = by (holds test)
    where
      by : (b : Bool) → (if b then turn l before next test.source else gives Normal) s ≡ next_or ((if b then turn l before (gives Continued) test.source else gives Normal) s) next
      by true = turn_or test.source s
      by false = refl

  -- a turn and what follows it is the turn alone, and then what follows where another test comes
  pub tested_or : (s : State) → (starts l before l.test >>= turn_if l before next) s ≡ next_or (tested_turn l before s) next
  tested_or s = or_follow (starts l before l.test s) (turn_if l before next) (turn_if l before (gives Continued)) next if_or

-- a loop's last turn gives no `Continued`
abbrev pub IsEnd : Flow → Type 0
IsEnd Normal = Unit {0}
IsEnd Broke = Unit {0}
IsEnd Continued = ⊥
IsEnd (Returned v) = Unit {0}

-- where turns that begin in a state ended so: a last test, to which turns lead
pub record Ended (l : LoopParts) (before : Option ℕ) (s : State) (flow : Flow) (t : State) : Type 0 where
  pub count : ℕ
  pub last : State
  pub reached : IsBeforeTest l before count s last
  pub ended : tested_turn l before last ≡ Goes flow t
  pub is_end : IsEnd flow

-- what a turn comes to, by what its test found
abbrev pub IsSo : Bool → Flow → Type 0
IsSo true flow = flow ≡ Continued
IsSo false flow = flow ≡ Normal

-- a turn was tested, and came to what its test found
abbrev pub WasTested : LoopParts → Option ℕ → State → Flow → State → Type 0
WasTested l before s flow t = (test : Held) × (u : State) × (starts l before l.test s ≡ Goes test u) × IsSo (holds test) flow

module _ (l : LoopParts) (before : Option ℕ) where
  abbrev EndsSo : Outcome Flow → Type 0
  EndsSo (Goes flow t) = IsEnd flow
  EndsSo (Stops end w) = ⊥

  turn_ends : (next : Part Flow) (s : State) (flow : Flow) (t : State) → ((u : State) → next u ≡ Goes flow t → Ended l before u flow t)
      → (o : Outcome Flow) → tested_turn l before s ≡ o → next_or o next ≡ Goes flow t → Ended l before s flow t
  turn_ends next s flow t rest (Goes Normal u) at_it is = record { count = 0; last = s; reached = refl; ended = at_it ∙ is; is_end = subst EndsSo is tt }
  turn_ends next s flow t rest (Goes Broke u) at_it is = record { count = 0; last = s; reached = refl; ended = at_it ∙ is; is_end = subst EndsSo is tt }
  turn_ends next s flow t rest (Goes Continued u) at_it is =
      let more = rest u is in record { count = suc more.count; last = more.last; reached = (u, at_it, more.reached); ended = more.ended; is_end = more.is_end }
  turn_ends next s flow t rest (Goes (Returned v) u) at_it is = record { count = 0; last = s; reached = refl; ended = at_it ∙ is; is_end = subst EndsSo is tt }
  turn_ends next s flow t rest (Stops end w) at_it is = absurd cc

  -- THE TURNS OF A LOOP THAT ENDED
  pub turns_end : (n : ℕ) (s : State) (flow : Flow) (t : State) → turns n l before s ≡ Goes flow t → Ended l before s flow t
  unfolding turns
  turns_end zero s flow t is = absurd cc
  turns_end (suc n) s flow t is =
      turn_ends (turns n l before) s flow t (λ u h. turns_end n u flow t h) (tested_turn l before s) refl (sym (tested_or l before (turns n l before) s) ∙ is)

  -- a test before the last one was passed
  pub passed : (k : ℕ) (s last : State) → IsBeforeTest l before k s last → (j : ℕ) → j < k
      → (v : State) × (u : State) × IsBeforeTest l before j s v × (tested_turn l before v ≡ Goes Continued u)
  passed zero s last is j low = absurd (omega (arith, low))
  passed (suc k) s last is zero low = (s, is.0, refl, is.1)
  passed (suc k) s last is (suc j) low =
      let found = passed k is.0 last is.2 j (omega (arith, low)) in (found.0, found.1, (is.0, is.1, found.2), found.3)

  -- the first test was made
  pub first_made : (k : ℕ) (s last : State) (flow : Flow) (t : State) → IsBeforeTest l before k s last → tested_turn l before last ≡ Goes flow t
      → (f : Flow) × (u : State) × (tested_turn l before s ≡ Goes f u)
  first_made zero s last flow t is ended = (flow, t, ap (tested_turn l before) (sym is) ∙ ended)
  first_made (suc k) s last flow t is ended = (Continued, is.0, is.1)

  -- WHERE NO `break` AND NO `return` COMES OUT OF ITS BODY, a turn whose test holds goes on
  module _ (j : MayJump) (body : Gives (IsAllowed j) l.body) (no_break : j.breaks ≡ false) (no_return : j.returns ≡ false) where
    abbrev GoesOn : Flow → State → Type 0
    GoesOn flow t = flow ≡ Continued

    ended_goes_on : (flow : Flow) → IsAllowed j flow → (s : State) → At GoesOn (step_or_end l before (gives Continued) (turn_of flow) s)
    ended_goes_on Normal p s = follow_at GoesOn (starts l before l.step s) (λ done. gives Continued) (λ done t is. refl)
    ended_goes_on Broke p s = absurd cc
    ended_goes_on Continued p s = follow_at GoesOn (starts l before l.step s) (λ done. gives Continued) (λ done t is. refl)
    ended_goes_on (Returned v) p s = absurd cc

    body_allowed : (stays : Bool) (s : State) → At (λ flow t. IsAllowed j flow) ((settles stays before >>= λ ready. l.body) s)
    body_allowed true s = allowed (l.body s) (body s)
      where
        allowed : (o : Outcome Flow) → GivesAt (IsAllowed j) o → At (λ flow t. IsAllowed j flow) o
        allowed (Goes flow t) h = h
        allowed (Stops end w) h = tt
    body_allowed false s = body (record s { world = record s.world { control = before } })

    turn_goes_on : (last : Option ℕ) (s : State) → At GoesOn (turn l before (gives Continued) last s)
    turn_goes_on last s =
        follow_at GoesOn (starts l before l.body s) (behind_body l before (gives Continued) last) (λ flow t is.
        let p : IsAllowed j flow = at_goes (λ flow t. IsAllowed j flow) (starts l before l.body s) flow t (body_allowed (not l.counted) s) is in
        follow_at GoesOn (settles (stays_behind_body l.jumps) last t) (λ done. step_or_end l before (gives Continued) (turn_of flow)) (λ done u is_too. ended_goes_on flow p u))

    if_so : (test : Held) (b : Bool) → (s : State) → At (λ flow t. IsSo b flow) ((if b then turn l before (gives Continued) test.source else gives Normal) s)
    if_so test true s = turn_goes_on test.source s
    if_so test false s = refl

    pub was_tested : (s : State) → At (WasTested l before s) (tested_turn l before s)
    was_tested s = follow_at (WasTested l before s) (starts l before l.test s) (turn_if l before (gives Continued)) each
      where
        each : (test : Held) (u : State) → starts l before l.test s ≡ Goes test u → At (WasTested l before s) (turn_if l before (gives Continued) test u)
        each test u is = weaker (turn_if l before (gives Continued) test u) (if_so test (holds test) u)
          where
            weaker : (o : Outcome Flow) → At (λ flow t. IsSo (holds test) flow) o → At (WasTested l before s) o
            weaker (Goes flow t) h = (test, u, is, h)
            weaker (Stops end w) h = tt
