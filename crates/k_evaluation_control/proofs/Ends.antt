-- How statements end, part by part: by which jumps, and under which control source.
use Rattle.std.proofs.Common.{ℕ, zero, suc, ◌+◌, ℤ, List, [], ◌∷◌, Option, Bool, true, false, not, ◌||◌, if◌then◌else◌, ◌≡◌, refl, ap, ◌∙◌}
use Rattle.std.proofs.lemmas.Bool.{or_left, or_parts, or_right}
use Rattle.k_num.specs.declared.place.Place.{Place}
use Rattle.k_num.specs.declared.numbers.Kind.{Kind}
use Rattle.k_num.specs.declared.numbers.Bin.TheVariants as bin
use Rattle.k_optab.specs.declared.class.Class.TheVariants as class
use Rattle.k_marks_meaning.specs.declared.jumps.Jumps.{Jumps}
use Rattle.k_marks_meaning.specs.Jumps.{no_jumps, jumps_of_both, out_of_loop, out_of_switch, is_left}
use Rattle.k_world.specs.declared.act.Act.TheVariants as act
use Rattle.k_world.specs.declared.value.Held.{Held}
use Rattle.k_world.specs.declared.value.Value.TheVariants as value
use Rattle.k_evaluation.specs.declared.operand.Operand.{Operand}
use Rattle.k_evaluation.specs.declared.operand.Operand.TheVariants.{Constant}
use Rattle.k_evaluation.specs.declared.flow.Flow.{Flow}
use Rattle.k_evaluation.specs.declared.flow.Flow.TheVariants.{Normal, Broke, Continued, Returned}
use Rattle.k_evaluation.specs.States.{Program, State, Outcome, Goes, Stops, Part, follow, ◌>>=◌, gives, settles, settled, region, enters, exits}
use Rattle.k_evaluation.specs.Objects.{live, keeps, block}
use Rattle.k_evaluation.specs.Meanings.{holds}
use Rattle.k_evaluation.specs.Flows.{Doing, goes_on, unless_left, in_order, jumps_of_all}
use Rattle.k_evaluation.specs.Loops.{LoopParts, turn_of, resets, starts, stays_behind_body, stays_behind_loop, step_or_end, behind_body, turn, turn_if, turns, all_turns, begins, inside_loop, loop}
use Rattle.k_evaluation.specs.Switches.{PartDoing, ACase, ADefault, AStatement, statements_of, behind_default, selects, chooses, behind_switch, runs_chosen, switches}
use Rattle.k_evaluation_control.specs.Laws.{IsTidy, Allows}
use Rattle.k_evaluation_control.proofs.Kept.{Does, Keeps, Leaves, then_does, tidies, live_keeps, keeps_keeps, enters_keeps, exits_keeps, settles_tidies, makes_keeps, computes_keeps}

-- JUMPS of two texts
pub allows_left : (j k : Jumps) (flow : Flow) → Allows j flow → Allows (jumps_of_both j k) flow
allows_left j k Normal h = tt
allows_left j k Broke h = or_left j.breaks k.breaks h
allows_left j k Continued h = or_left j.continues k.continues h
allows_left j k (Returned v) h = or_left j.returns k.returns h

pub allows_right : (j k : Jumps) (flow : Flow) → Allows k flow → Allows (jumps_of_both j k) flow
allows_right j k Normal h = tt
allows_right j k Broke h = or_right j.breaks k.breaks h
allows_right j k Continued h = or_right j.continues k.continues h
allows_right j k (Returned v) h = or_right j.returns k.returns h

-- a text that is not left has none of the three
record NoJump (j : Jumps) : Type 0 where
  breaks : j.breaks ≡ false
  continues : j.continues ≡ false
  returns : j.returns ≡ false

no_jump : (j : Jumps) → is_left j ≡ false → NoJump j
no_jump j is =
    let rest = (or_parts j.breaks (j.continues || j.returns) is).1 in
    record { breaks = (or_parts j.breaks (j.continues || j.returns) is).0; continues = (or_parts j.continues j.returns rest).0; returns = (or_parts j.continues j.returns rest).1 }

has_none : (j : Jumps) → NoJump j → is_left j ≡ false
has_none j none = ap (λ b. b || (j.continues || j.returns)) none.breaks ∙ ap (λ b. b || j.returns) none.continues ∙ none.returns

pub left_of_both : (j k : Jumps) → is_left (jumps_of_both j k) ≡ false → (is_left j ≡ false) × (is_left k ≡ false)
left_of_both j k is =
    let none = no_jump (jumps_of_both j k) is in (
      has_none j (record {
        breaks = (or_parts j.breaks k.breaks none.breaks).0;
        continues = (or_parts j.continues k.continues none.continues).0;
        returns = (or_parts j.returns k.returns none.returns).0;
      }),
      has_none k (record {
        breaks = (or_parts j.breaks k.breaks none.breaks).1;
        continues = (or_parts j.continues k.continues none.continues).1;
        returns = (or_parts j.returns k.returns none.returns).1;
      }),
    )

-- what comes of a statement that began under this control source: it ends as its jumps allow, and where Q is so that source is as before
abbrev pub EndsAs : ℕ → Type 0 → Jumps → Option ℕ → Outcome Flow → Type 0
EndsAs n Q j before (Goes flow t) = IsTidy n t.world × Allows j flow × (Q → t.world.control ≡ before)
EndsAs n Q j before (Stops end w) = Unit {0}

-- a part ends so, in whatever tidy world it begins
pub record Ends (Q : Type 0) (j : Jumps) (part : Part Flow) : Type 0 where
  pub ends : (n : ℕ) (s : State) → IsTidy n s.world → EndsAs n Q j s.world.control (part s)

ends_from : (n : ℕ) (P Q R : Type 0) (j : Jumps) (a b : Option ℕ) (o : Outcome Flow) → (R → P) → (R → Q) → (P → b ≡ a) → EndsAs n Q j b o → EndsAs n R j a o
ends_from n P Q R j a b (Goes flow t) first second same h = (h.0, h.1, λ r. h.2 (second r) ∙ same (first r))
ends_from n P Q R j a b (Stops end w) first second same h = tt

-- one part behind another
pub ends_then : (P Q R : Type 0) (j k : Jumps) (part : Part Flow) (next : Flow → Part Flow) → (R → P) → (R → Q) → Ends P j part → ((flow : Flow) → Allows j flow → Ends Q k (next flow))
    → Ends R k (part >>= next)
ends_then P Q R j k part next first second h more = record { ends = λ n s tidy. by n s.world.control (part s) (h.ends n s tidy) }
  where
    by : (n : ℕ) (before : Option ℕ) (o : Outcome Flow) → EndsAs n P j before o → EndsAs n R k before (follow o next)
    by n before (Goes flow t) h = ends_from n P Q R k before t.world.control (next flow t) first second h.2 ((more flow h.1).ends n t h.0)
    by n before (Stops end w) h = tt

-- behind a part that keeps the control source
pub keeps_then : {A : Type 0} (Q : Type 0) (j : Jumps) (part : Part A) (next : A → Part Flow) → Keeps part → ((a : A) → Ends Q j (next a)) → Ends Q j (part >>= next)
keeps_then {A} Q j part next h more = record { ends = λ n s tidy. by n s.world.control (part s) (h.leaves n s tidy) }
  where
    by : (n : ℕ) (before : Option ℕ) (o : Outcome A) → Leaves n true before o → EndsAs n Q j before (follow o next)
    by n before (Goes a t) h = ends_from n Q Q Q j before t.world.control (next a t) (λ q. q) (λ q. q) (λ q. h.1) ((more a).ends n t h.0)
    by n before (Stops end w) h = tt

-- behind any other, where nothing is asked of the control source
pub tidies_then : {A : Type 0} (j : Jumps) (part : Part A) (next : A → Part Flow) → Does false part → ((a : A) → Ends ⊥ j (next a)) → Ends ⊥ j (part >>= next)
tidies_then {A} j part next h more = record { ends = λ n s tidy. by n s.world.control (part s) (h.leaves n s tidy) }
  where
    by : (n : ℕ) (before : Option ℕ) (o : Outcome A) → Leaves n false before o → EndsAs n ⊥ j before (follow o next)
    by n before (Goes a t) h = ends_from n ⊥ ⊥ ⊥ j before t.world.control (next a t) (λ q. q) (λ q. q) (λ q. absurd q) ((more a).ends n t h.0)
    by n before (Stops end w) h = tt

pub gives_ends : (Q : Type 0) (j : Jumps) (flow : Flow) → Allows j flow → Ends Q j (gives flow)
gives_ends Q j flow h = record { ends = λ n s tidy. (tidy, h, λ q. refl) }

-- more jumps, and more that is needed
pub ends_more : (P Q : Type 0) (j k : Jumps) (part : Part Flow) → (Q → P) → ((flow : Flow) → Allows j flow → Allows k flow) → Ends P j part → Ends Q k part
ends_more P Q j k part less more h = record { ends = λ n s tidy. by n s.world.control (part s) (h.ends n s tidy) }
  where
    by : (n : ℕ) (before : Option ℕ) (o : Outcome Flow) → EndsAs n P j before o → EndsAs n Q k before o
    by n before (Goes flow t) h = (h.0, more flow h.1, λ q. h.2 (less q))
    by n before (Stops end w) h = tt

pub goes_on_ends : (Q : Type 0) (j : Jumps) (part : Part (Unit {0})) → Keeps part → Ends Q j (goes_on part)
goes_on_ends Q j part h = keeps_then Q j part (λ done. gives Normal) h (λ done. gives_ends Q j Normal tt)

-- a part behind what goes on, as a statement behind a statement
pub keeps_ends : (Q : Type 0) (j : Jumps) (start : Part (Unit {0})) (part : Part Flow) → Keeps start → Ends Q j part → Ends Q j (goes_on start >>= unless_left part)
keeps_ends Q j start part h k = record { ends = λ n s tidy. by n s.world.control (start s) (h.leaves n s tidy) }
  where
    by : (n : ℕ) (before : Option ℕ) (o : Outcome (Unit {0})) → Leaves n true before o → EndsAs n Q j before (follow (follow o (λ done. gives Normal)) (unless_left part))
    by n before (Goes a t) h = ends_from n Q Q Q j before t.world.control (part t) (λ q. q) (λ q. q) (λ q. h.1) (k.ends n t h.0)
    by n before (Stops end w) h = tt

-- A STATEMENT: where no jump leaves it, the control source is as before
abbrev pub DoingEnds : Doing → Type 0
DoingEnds d = Ends (is_left d.jumps ≡ false) d.jumps d.does

abbrev pub AllEnd : List Doing → Type 0
AllEnd [] = Unit {0}
AllEnd (s ∷ ss) = DoingEnds s × AllEnd ss

pub in_order_ends : (ss : List Doing) → AllEnd ss → Ends (is_left (jumps_of_all ss) ≡ false) (jumps_of_all ss) (in_order ss)
in_order_ends [] h = gives_ends (is_left no_jumps ≡ false) no_jumps Normal tt
in_order_ends (s ∷ ss) h =
    ends_then (is_left s.jumps ≡ false) (is_left (jumps_of_all ss) ≡ false) (is_left all ≡ false) s.jumps all s.does (unless_left (in_order ss))
    (λ is. (left_of_both s.jumps (jumps_of_all ss) is).0) (λ is. (left_of_both s.jumps (jumps_of_all ss) is).1) h.0 (rest (in_order_ends ss h.1))
  where
    all : Jumps
    all = jumps_of_both s.jumps (jumps_of_all ss)

    rest : Ends (is_left (jumps_of_all ss) ≡ false) (jumps_of_all ss) (in_order ss) → (flow : Flow) → Allows s.jumps flow → Ends (is_left (jumps_of_all ss) ≡ false) all (unless_left (in_order ss) flow)
    rest more Normal allowed =
        ends_more (is_left (jumps_of_all ss) ≡ false) (is_left (jumps_of_all ss) ≡ false) (jumps_of_all ss) all (in_order ss) (λ is. is) (allows_right s.jumps (jumps_of_all ss)) more
    rest more Broke allowed = gives_ends (is_left (jumps_of_all ss) ≡ false) all Broke (allows_left s.jumps (jumps_of_all ss) Broke allowed)
    rest more Continued allowed = gives_ends (is_left (jumps_of_all ss) ≡ false) all Continued (allows_left s.jumps (jumps_of_all ss) Continued allowed)
    rest more (Returned v) allowed = gives_ends (is_left (jumps_of_all ss) ≡ false) all (Returned v) (allows_left s.jumps (jumps_of_all ss) (Returned v) allowed)

-- a part around another: the end is given on
around : {A B : Type 0} (Q : Type 0) (j : Jumps) (first : Part A) (part : Part Flow) (last : A → Part B) → Keeps first → Ends Q j part → ((a : A) → Keeps (last a))
    → Ends Q j (first >>= λ a. part >>= λ flow. last a >>= λ done. gives flow)
around Q j first part last h k l =
    keeps_then Q j first (λ a. part >>= λ flow. last a >>= λ done. gives flow) h
    (λ a. ends_then Q Q Q j j part (λ flow. last a >>= λ done. gives flow) (λ q. q) (λ q. q) k
    (λ flow allowed. keeps_then Q j (last a) (λ done. gives flow) (l a) (λ done. gives_ends Q j flow allowed)))

pub block_ends : (Q : Type 0) (j : Jumps) (part : Part Flow) → Ends Q j part → Ends Q j (block part)
block_ends Q j part h = around Q j live part (λ count. keeps count) live_keeps h keeps_keeps

pub region_ends : (Q : Type 0) (j : Jumps) (number : ℕ) (part : Part Flow) → Ends Q j part → Ends Q j (region number part)
region_ends Q j number part h = around Q j (enters number) part (λ entered. exits) (enters_keeps number) h (λ entered. exits_keeps)

-- THE CONTROL SOURCE BEHIND A PART is as before where it doesn't stay
settles_ends : (n : ℕ) (Q : Type 0) (j : Jumps) (stays : Bool) (before : Option ℕ) (o : Outcome Flow) → (Q → stays ≡ false) → EndsAs n ⊥ j before o
    → EndsAs n Q j before (follow o (λ flow. settles stays before >>= λ done. gives flow))
settles_ends n Q j true before (Goes flow t) not_so h = (h.0, h.1, λ q. absurd (cc (not_so q)))
settles_ends n Q j false before (Goes flow t) not_so h = (record { laid = h.0.laid; origins = h.0.origins; calls = h.0.calls }, h.1, λ q. refl)
settles_ends n Q j stays before (Stops end w) not_so h = tt

pub settled_ends : (Q : Type 0) (j : Jumps) (stays : Bool) (part : Part Flow) → (Q → stays ≡ false) → Ends ⊥ j part → Ends Q j (settled stays part)
settled_ends Q j stays part not_so h = record { ends = λ n s tidy. settles_ends n Q j stays s.world.control (part s) not_so (h.ends n s tidy) }

-- LOOPS
pub record LoopEnds (l : LoopParts) : Type 0 where
  pub test : Does false l.test
  pub step : Does false l.step
  pub body : Ends ⊥ l.jumps l.body

module _ (l : LoopParts) (h : LoopEnds l) (before : Option ℕ) where
  abbrev out : Jumps
  out = out_of_loop l.jumps

  starts_tidies : {A : Type 0} (part : Part A) → Does false part → Does false (starts l before part)
  starts_tidies part k = then_does false (resets l.counted before) (λ ready. part) (settles_tidies (not l.counted) before) (λ ready. k)

  step_or_end_ends : (next : Part Flow) → Ends ⊥ out next → (flow : Flow) → Allows l.jumps flow → Ends ⊥ out (step_or_end l before next (turn_of flow))
  step_or_end_ends next k Normal allowed = tidies_then out (starts l before l.step) (λ done. next) (starts_tidies l.step h.step) (λ done. k)
  step_or_end_ends next k Broke allowed = gives_ends ⊥ out Normal tt
  step_or_end_ends next k Continued allowed = tidies_then out (starts l before l.step) (λ done. next) (starts_tidies l.step h.step) (λ done. k)
  step_or_end_ends next k (Returned v) allowed = gives_ends ⊥ out (Returned v) allowed

  turn_ends : (next : Part Flow) → Ends ⊥ out next → (last : Option ℕ) → Ends ⊥ out (turn l before next last)
  turn_ends next k last =
      ends_then ⊥ ⊥ ⊥ l.jumps out (starts l before l.body) (behind_body l before next last) (λ q. q) (λ q. q)
      (tidies_then l.jumps (resets l.counted before) (λ ready. l.body) (settles_tidies (not l.counted) before) (λ ready. h.body))
      (λ flow allowed. tidies_then out (settles (stays_behind_body l.jumps) last) (λ done. step_or_end l before next (turn_of flow)) (settles_tidies (stays_behind_body l.jumps) last)
      (λ done. step_or_end_ends next k flow allowed))

  turn_if_ends : (next : Part Flow) → Ends ⊥ out next → (test : Held) → Ends ⊥ out (turn_if l before next test)
  turn_if_ends next k test = by (holds test)
    where
      by : (b : Bool) → Ends ⊥ out (if b then turn l before next test.source else gives Normal)
      by true = turn_ends next k test.source
      by false = gives_ends ⊥ out Normal tt

  turns_end : (n : ℕ) → Ends ⊥ out (turns n l before)
  unfolding turns
  turns_end zero = record { ends = λ n s tidy. tt }
  turns_end (suc n) = record {
    ends = (tidies_then out (starts l before l.test) (turn_if l before (turns n l before)) (starts_tidies l.test h.test) (turn_if_ends (turns n l before) (turns_end n))).ends;
  }

  all_turns_end : Ends ⊥ out (all_turns l before)
  all_turns_end = record { ends = λ n s tidy. (turns_end (s.world.left + 1)).ends n s tidy }

  pub begins_ends : (tested : Bool) → Ends ⊥ out (begins l tested before)
  begins_ends true = all_turns_end
  begins_ends false = turn_ends (all_turns l before) all_turns_end before

-- a text that isn't left behind its loop holds no `return`, so the control source is taken back
behind_loop : (counted : Bool) (j : Jumps) → is_left (out_of_loop j) ≡ false → stays_behind_loop counted j ≡ false
behind_loop true j is = refl
behind_loop false j is = is

pub loop_ends : (l : LoopParts) (number : ℕ) (tested : Bool) → LoopEnds l → Ends (is_left (out_of_loop l.jumps) ≡ false) (out_of_loop l.jumps) (loop l number tested)
loop_ends l number tested h = record {
  ends = λ n s tidy. settles_ends n (is_left (out_of_loop l.jumps) ≡ false) (out_of_loop l.jumps) (stays_behind_loop l.counted l.jumps) s.world.control
      (inside_loop l number tested s.world.control s) (behind_loop l.counted l.jumps)
      ((region_ends ⊥ (out_of_loop l.jumps) number (begins l tested s.world.control) (begins_ends l h s.world.control tested)).ends n s tidy);
}

-- SWITCHES: each statement ends as the jumps of all allow
module _ (all : Jumps) where
  abbrev EachEnds : List Doing → Type 0
  EachEnds [] = Unit {0}
  EachEnds (s ∷ ss) = Ends ⊥ all s.does × EachEnds ss

  each_in_order : (ss : List Doing) → EachEnds ss → Ends ⊥ all (in_order ss)
  each_in_order [] h = gives_ends ⊥ all Normal tt
  each_in_order (s ∷ ss) h = ends_then ⊥ ⊥ ⊥ all all s.does (unless_left (in_order ss)) (λ q. q) (λ q. q) h.0 (rest (each_in_order ss h.1))
    where
      rest : Ends ⊥ all (in_order ss) → (flow : Flow) → Allows all flow → Ends ⊥ all (unless_left (in_order ss) flow)
      rest more Normal allowed = more
      rest more Broke allowed = gives_ends ⊥ all Broke allowed
      rest more Continued allowed = gives_ends ⊥ all Continued allowed
      rest more (Returned v) allowed = gives_ends ⊥ all (Returned v) allowed

  abbrev PartEnds : PartDoing → Type 0
  PartEnds (ACase place z) = Unit {0}
  PartEnds ADefault = Unit {0}
  PartEnds (AStatement s) = Ends ⊥ all s.does

  abbrev PartsEnd : List PartDoing → Type 0
  PartsEnd [] = Unit {0}
  PartsEnd (p ∷ parts) = PartEnds p × PartsEnd parts

  statements_end : (parts : List PartDoing) → PartsEnd parts → EachEnds (statements_of parts)
  statements_end [] h = tt
  statements_end (ACase place z ∷ parts) h = statements_end parts h.1
  statements_end (ADefault ∷ parts) h = statements_end parts h.1
  statements_end (AStatement s ∷ parts) h = (h.0, statements_end parts h.1)

  default_ends : (parts : List PartDoing) → PartsEnd parts → EachEnds (behind_default parts)
  default_ends [] h = tt
  default_ends (ACase place z ∷ parts) h = default_ends parts h.1
  default_ends (ADefault ∷ parts) h = statements_end parts h.1
  default_ends (AStatement s ∷ parts) h = default_ends parts h.1

  -- what is chosen ends so
  abbrev Chosen : ℕ → Outcome (List Doing) → Type 0
  Chosen n (Goes chosen t) = IsTidy n t.world × EachEnds chosen
  Chosen n (Stops end w) = Unit {0}

  record Chooses (part : Part (List Doing)) : Type 0 where
    chooses : (n : ℕ) (s : State) → IsTidy n s.world → Chosen n (part s)

  choice_behind : (n : ℕ) (before : Option ℕ) (o : Outcome Held) (next : Held → Part (List Doing)) → Leaves n false before o → ((a : Held) → Chooses (next a)) → Chosen n (follow o next)
  choice_behind n before (Goes a t) next h k = (k a).chooses n t h.0
  choice_behind n before (Stops end w) next h k = tt

  selects_tidies : (program : Program) (kind : Kind) (place : Place) (z : ℤ) (on : Operand) → Does false (selects program kind place z on)
  selects_tidies program kind place z on =
      then_does false _ _ (tidies _ (computes_keeps program class.Simple place (act.Binary bin.Eq kind) (on ∷ Constant (value.Number z) ∷ [])))
      (λ same. makes_keeps program class.Select place act.Test (same ∷ []))

  gives_choice : (chosen : List Doing) → EachEnds chosen → Chooses (gives chosen)
  gives_choice chosen h = record { chooses = λ n s tidy. (tidy, h) }

  choose_by : (program : Program) (kind : Kind) (on : Operand) (default : List Doing) (parts : List PartDoing) (b : Bool) → EachEnds (statements_of parts)
      → Chooses (chooses program kind on default parts) → Chooses (if b then gives (statements_of parts) else chooses program kind on default parts)
  choose_by program kind on default parts true h k = gives_choice (statements_of parts) h
  choose_by program kind on default parts false h k = k

  chooses_ends : (program : Program) (kind : Kind) (on : Operand) (default : List Doing) (parts : List PartDoing) → EachEnds default → PartsEnd parts
      → Chooses (chooses program kind on default parts)
  chooses_ends program kind on default [] h k = gives_choice default h
  chooses_ends program kind on default (ACase place z ∷ parts) h k = record {
    chooses = λ n s tidy. choice_behind n s.world.control (selects program kind place z on s)
        (λ select. if holds select then gives (statements_of parts) else chooses program kind on default parts)
        ((selects_tidies program kind place z on).leaves n s tidy)
        (λ select. choose_by program kind on default parts (holds select) (statements_end parts k.1) (chooses_ends program kind on default parts h k.1));
  }
  chooses_ends program kind on default (ADefault ∷ parts) h k = chooses_ends program kind on default parts h k.1
  chooses_ends program kind on default (AStatement s ∷ parts) h k = chooses_ends program kind on default parts h k.1

  out_of : (flow : Flow) → Allows all flow → Allows (out_of_switch all) (behind_switch flow)
  out_of Normal allowed = tt
  out_of Broke allowed = tt
  out_of Continued allowed = allowed
  out_of (Returned v) allowed = allowed

  runs_chosen_ends : (chosen : List Doing) → EachEnds chosen → Ends ⊥ (out_of_switch all) (runs_chosen chosen)
  runs_chosen_ends chosen h =
      ends_then ⊥ ⊥ ⊥ all (out_of_switch all) (in_order chosen) (λ flow. gives (behind_switch flow)) (λ q. q) (λ q. q) (each_in_order chosen h)
      (λ flow allowed. gives_ends ⊥ (out_of_switch all) (behind_switch flow) (out_of flow allowed))

  choice_runs : (n : ℕ) (before : Option ℕ) (o : Outcome (List Doing)) → Chosen n o → EndsAs n ⊥ (out_of_switch all) before (follow o runs_chosen)
  choice_runs n before (Goes chosen t) h = ends_from n ⊥ ⊥ ⊥ (out_of_switch all) before t.world.control (runs_chosen chosen t) (λ q. q) (λ q. q) (λ q. absurd q) ((runs_chosen_ends chosen h.1).ends n t h.0)
  choice_runs n before (Stops end w) h = tt

  pub switches_ends : (program : Program) (kind : Kind) (parts : List PartDoing) (on : Operand) → PartsEnd parts → Ends ⊥ (out_of_switch all) (switches program kind parts on)
  switches_ends program kind parts on h = record {
    ends = λ n s tidy. choice_runs n s.world.control (chooses program kind on (behind_default parts) parts s)
        ((chooses_ends program kind on (behind_default parts) parts (default_ends parts h) h).chooses n s tidy);
  }

-- the parts of a switch, each of which ends as its own text
abbrev pub PartsOwn : List PartDoing → Type 0
PartsOwn [] = Unit {0}
PartsOwn (ACase place z ∷ parts) = PartsOwn parts
PartsOwn (ADefault ∷ parts) = PartsOwn parts
PartsOwn (AStatement s ∷ parts) = DoingEnds s × PartsOwn parts

-- end as the jumps of all
pub parts_end : (all : Jumps) (parts : List PartDoing) → PartsOwn parts → ((flow : Flow) → Allows (jumps_of_all (statements_of parts)) flow → Allows all flow) → PartsEnd all parts
parts_end all [] h more = tt
parts_end all (ACase place z ∷ parts) h more = (tt, parts_end all parts h more)
parts_end all (ADefault ∷ parts) h more = (tt, parts_end all parts h more)
parts_end all (AStatement s ∷ parts) h more = (
  ends_more (is_left s.jumps ≡ false) ⊥ s.jumps all s.does (λ q. absurd q) (λ flow allowed. more flow (allows_left s.jumps (jumps_of_all (statements_of parts)) flow allowed)) h.0,
  parts_end all parts h.1 (λ flow allowed. more flow (allows_right s.jumps (jumps_of_all (statements_of parts)) flow allowed)),
)
