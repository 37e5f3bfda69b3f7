-- What statements return: a value, or none, as their function does.
use Rattle.std.proofs.Common.{◌≡◌, ℕ, zero, suc, ◌+◌, List, [], ◌∷◌, Option, None, Some, Bool, true, false, if◌then◌else◌}
use Rattle.k_num.specs.declared.numbers.Kind.{Kind}
use Rattle.k_world.specs.declared.value.Held.{Held}
use Rattle.k_evaluation.specs.declared.operand.Operand.{Operand}
use Rattle.k_evaluation.specs.declared.flow.Flow.{Flow}
use Rattle.k_evaluation.specs.declared.flow.Flow.TheVariants.{Normal, Broke, Continued, Returned}
use Rattle.k_evaluation.specs.Flows.{Doing, goes_on, unless_left, in_order}
use Rattle.k_evaluation.specs.Loops.{LoopParts, turn_of, resets, starts, stays_behind_body, stays_behind_loop, step_or_end, behind_body, turn, turn_if, turns, all_turns, begins, inside_loop, loop}
use Rattle.k_evaluation.specs.Meanings.{holds}
use Rattle.k_evaluation.specs.Objects.{live, keeps, block}
use Rattle.k_evaluation.specs.States.{Program, State, Outcome, Goes, Stops, Part, follow, ◌>>=◌, gives, control, settles, settled, region, enters, exits}
use Rattle.k_evaluation.specs.Switches.{PartDoing, ACase, ADefault, AStatement, statements_of, behind_default, selects, chooses, behind_switch, runs_chosen, switches}

-- there is a value
abbrev pub has_value : Option Held → Bool
has_value None = false
has_value (Some held) = true

module _ (valued : Bool) where
  -- an end that returns, returns a value where that is so
  abbrev pub Fits : Flow → Type 0
  Fits Normal = Unit {0}
  Fits Broke = Unit {0}
  Fits Continued = Unit {0}
  Fits (Returned v) = has_value v ≡ valued

  abbrev pub OutcomeFits : Outcome Flow → Type 0
  OutcomeFits (Goes flow t) = Fits flow
  OutcomeFits (Stops end w) = Unit {0}

  -- A PART RETURNS SO, in whatever state it begins
  pub record Hands (part : Part Flow) : Type 0 where
    pub hands : (s : State) → OutcomeFits (part s)

  -- behind any part
  pub behind_hands : {A : Type 0} (part : Part A) (next : A → Part Flow) → ((a : A) → Hands (next a)) → Hands (part >>= next)
  behind_hands {A} part next h = record { hands = λ s. by (part s) }
    where
      by : (o : Outcome A) → OutcomeFits (follow o next)
      by (Goes a t) = (h a).hands t
      by (Stops end w) = tt

  -- behind one that ends so itself
  pub then_hands : (part : Part Flow) (next : Flow → Part Flow) → Hands part → ((flow : Flow) → Fits flow → Hands (next flow)) → Hands (part >>= next)
  then_hands part next own h = record { hands = λ s. by (part s) (own.hands s) }
    where
      by : (o : Outcome Flow) → OutcomeFits o → OutcomeFits (follow o next)
      by (Goes flow t) fits = (h flow fits).hands t
      by (Stops end w) fits = tt

  pub gives_hands : (flow : Flow) → Fits flow → Hands (gives flow)
  gives_hands flow fits = record { hands = λ s. fits }

  pub goes_on_hands : (part : Part (Unit {0})) → Hands (goes_on part)
  goes_on_hands part = behind_hands part (λ done. gives Normal) (λ done. gives_hands Normal tt)

  unless_hands : (next : Part Flow) → Hands next → (flow : Flow) → Fits flow → Hands (unless_left next flow)
  unless_hands next h Normal fits = h
  unless_hands next h Broke fits = gives_hands Broke tt
  unless_hands next h Continued fits = gives_hands Continued tt
  unless_hands next h (Returned v) fits = gives_hands (Returned v) fits

  abbrev pub AllHand : List Doing → Type 0
  AllHand [] = Unit {0}
  AllHand (d ∷ ds) = Hands d.does × AllHand ds

  pub in_order_hands : (ds : List Doing) → AllHand ds → Hands (in_order ds)
  in_order_hands [] h = gives_hands Normal tt
  in_order_hands (d ∷ ds) h = then_hands d.does (unless_left (in_order ds)) h.0 (unless_hands (in_order ds) (in_order_hands ds h.1))

  -- the end is given on
  given_on : {A : Type 0} (part : Part Flow) (last : Part A) → Hands part → Hands (part >>= λ flow. last >>= λ done. gives flow)
  given_on part last h = then_hands part (λ flow. last >>= λ done. gives flow) h (λ flow fits. behind_hands last (λ done. gives flow) (λ done. gives_hands flow fits))

  pub block_hands : (part : Part Flow) → Hands part → Hands (block part)
  block_hands part h = behind_hands live (λ count. part >>= λ a. keeps count >>= λ kept. gives a) (λ count. given_on part (keeps count) h)

  pub region_hands : (number : ℕ) (part : Part Flow) → Hands part → Hands (region number part)
  region_hands number part h = behind_hands (enters number) (λ entered. part >>= λ a. exits >>= λ left. gives a) (λ entered. given_on part exits h)

  pub settled_hands : (stays : Bool) (part : Part Flow) → Hands part → Hands (settled stays part)
  settled_hands stays part h = behind_hands control (λ c. part >>= λ a. settles stays c >>= λ done. gives a) (λ c. given_on part (settles stays c) h)

  pub chosen_hands : (b : Bool) (one other : Part Flow) → Hands one → Hands other → Hands (if b then one else other)
  chosen_hands true one other h k = h
  chosen_hands false one other h k = k

  -- LOOPS
  module _ (l : LoopParts) (h : Hands l.body) (before : Option ℕ) where
    step_or_end_hands : (next : Part Flow) → Hands next → (flow : Flow) → Fits flow → Hands (step_or_end l before next (turn_of flow))
    step_or_end_hands next k Normal fits = behind_hands (starts l before l.step) (λ done. next) (λ done. k)
    step_or_end_hands next k Broke fits = gives_hands Normal tt
    step_or_end_hands next k Continued fits = behind_hands (starts l before l.step) (λ done. next) (λ done. k)
    step_or_end_hands next k (Returned v) fits = gives_hands (Returned v) fits

    turn_hands : (next : Part Flow) → Hands next → (last : Option ℕ) → Hands (turn l before next last)
    turn_hands next k last =
        then_hands (starts l before l.body) (behind_body l before next last) (behind_hands (resets l.counted before) (λ ready. l.body) (λ ready. h))
        (λ flow fits. behind_hands (settles (stays_behind_body l.jumps) last) (λ done. step_or_end l before next (turn_of flow)) (λ done. step_or_end_hands next k flow fits))

    turns_hand : (n : ℕ) → Hands (turns n l before)
    unfolding turns
    turns_hand zero = record { hands = λ s. tt }
    turns_hand (suc n) = record {
      hands = (behind_hands (starts l before l.test) (turn_if l before (turns n l before))
          (λ test. chosen_hands (holds test) (turn l before (turns n l before) test.source) (gives Normal) (turn_hands (turns n l before) (turns_hand n) test.source) (gives_hands Normal tt))).hands;
    }

    all_turns_hand : Hands (all_turns l before)
    all_turns_hand = record { hands = λ s. (turns_hand (s.world.left + 1)).hands s }

    begins_hands : (tested : Bool) → Hands (begins l tested before)
    begins_hands true = all_turns_hand
    begins_hands false = turn_hands (all_turns l before) all_turns_hand before

  pub loop_hands : (l : LoopParts) (number : ℕ) (tested : Bool) → Hands l.body → Hands (loop l number tested)
  loop_hands l number tested h =
      behind_hands control (λ before. inside_loop l number tested before >>= λ flow. settles (stays_behind_loop l.counted l.jumps) before >>= λ done. gives flow)
      (λ before. given_on (inside_loop l number tested before) (settles (stays_behind_loop l.counted l.jumps) before) (region_hands number (begins l tested before) (begins_hands l h before tested)))

  -- SWITCHES
  abbrev pub PartsHand : List PartDoing → Type 0
  PartsHand [] = Unit {0}
  PartsHand (ACase place z ∷ parts) = PartsHand parts
  PartsHand (ADefault ∷ parts) = PartsHand parts
  PartsHand (AStatement d ∷ parts) = Hands d.does × PartsHand parts

  statements_hand : (parts : List PartDoing) → PartsHand parts → AllHand (statements_of parts)
  statements_hand [] h = tt
  statements_hand (ACase place z ∷ parts) h = statements_hand parts h
  statements_hand (ADefault ∷ parts) h = statements_hand parts h
  statements_hand (AStatement d ∷ parts) h = (h.0, statements_hand parts h.1)

  default_hands : (parts : List PartDoing) → PartsHand parts → AllHand (behind_default parts)
  default_hands [] h = tt
  default_hands (ACase place z ∷ parts) h = default_hands parts h
  default_hands (ADefault ∷ parts) h = statements_hand parts h
  default_hands (AStatement d ∷ parts) h = default_hands parts h.1

  out_hands : (flow : Flow) → Fits flow → Hands (gives (behind_switch flow))
  out_hands Normal fits = gives_hands Normal tt
  out_hands Broke fits = gives_hands Normal tt
  out_hands Continued fits = gives_hands Continued tt
  out_hands (Returned v) fits = gives_hands (Returned v) fits

  runs_chosen_hands : (chosen : List Doing) → AllHand chosen → Hands (runs_chosen chosen)
  runs_chosen_hands chosen h = then_hands (in_order chosen) (λ flow. gives (behind_switch flow)) (in_order_hands chosen h) out_hands

  -- what is chosen returns so
  abbrev ChosenHands : Outcome (List Doing) → Type 0
  ChosenHands (Goes chosen t) = AllHand chosen
  ChosenHands (Stops end w) = Unit {0}

  chooses_hand : (program : Program) (kind : Kind) (on : Operand) (default : List Doing) (parts : List PartDoing) → AllHand default → PartsHand parts
      → (s : State) → ChosenHands (chooses program kind on default parts s)
  chooses_hand program kind on default [] h k s = h
  chooses_hand program kind on default (ADefault ∷ parts) h k s = chooses_hand program kind on default parts h k s
  chooses_hand program kind on default (AStatement d ∷ parts) h k s = chooses_hand program kind on default parts h k.1 s
  chooses_hand program kind on default (ACase place z ∷ parts) h k s = by (selects program kind place z on s) (chooses_hand program kind on default parts h k)
    where
      by_truth : (b : Bool) (t : State) → ChosenHands (chooses program kind on default parts t) → ChosenHands ((if b then gives (statements_of parts) else chooses program kind on default parts) t)
      by_truth true t more = statements_hand parts k
      by_truth false t more = more

      by : (o : Outcome Held) → ((t : State) → ChosenHands (chooses program kind on default parts t))
          → ChosenHands (follow o (λ select. if holds select then gives (statements_of parts) else chooses program kind on default parts))
      by (Goes held t) more = by_truth (holds held) t (more t)
      by (Stops end w) more = tt

  pub switches_hand : (program : Program) (kind : Kind) (parts : List PartDoing) (on : Operand) → PartsHand parts → Hands (switches program kind parts on)
  switches_hand program kind parts on h = record { hands = λ s. by (chooses program kind on (behind_default parts) parts s) (chooses_hand program kind on (behind_default parts) parts (default_hands parts h) h s) }
    where
      by : (o : Outcome (List Doing)) → ChosenHands o → OutcomeFits (follow o runs_chosen)
      by (Goes chosen t) k = (runs_chosen_hands chosen k).hands t
      by (Stops end w) k = tt
