-- What every part of a run keeps: good states stay good, events and output grow, and a greater budget changes nothing but where the run is
-- cut off.
use Rattle.std.proofs.Common.{◌≡◌, ℕ, ◌+◌, ◌≤◌, List, [], ◌∷◌, ◌++◌, Option, Some, None, refl, sym, ◌∙◌, subst, ap, arith, append_assoc}
use Rattle.std.proofs.lemmas.List.{append-nil}
use Rattle.k_num.specs.declared.place.Place.{Place}
use Rattle.k_optab.specs.declared.class.Class.{Class}
use Rattle.k_optab.specs.declared.event.Src.{Src}
use Rattle.k_optab.specs.declared.event.Event.{Event}
use Rattle.k_optab.specs.declared.event.Event.TheVariants.{Op, Enter, Exit}
use Rattle.k_optab.specs.Instances.{Balanced, nothing, operation, instance}
use Rattle.k_ending.specs.declared.ending.End.TheVariants as ending
use Rattle.k_world.specs.declared.value.Held.{Held}
use Rattle.k_world.specs.Operands.{source_in}
use Rattle.k_world.specs.Worlds.{World}
use Rattle.k_world.specs.WorldLaws.{IsMade, IsEarly, IsSound}
use Rattle.k_evaluation.specs.declared.operand.Operand.{Operand}
use Rattle.k_evaluation.specs.declared.operand.Operand.TheVariants.{Constant, Holding, Register}
use Rattle.k_evaluation.specs.States.{Program, State, Outcome, Goes, Stops, Part, follow, ◌>>=◌}
use Rattle.k_evaluation.specs.Laws.{Begins, AreAtMost}

-- A program, and a bound on its latencies.
pub record Setting : Type 0 where
  pub program : Program
  pub most : ℕ
  pub short : AreAtMost most program.latencies

-- what these hold came from the first operations, so many of which were made
abbrev pub SlotsCome : ℕ → List (Option Held) → Type 0
SlotsCome made [] = Unit {0}
SlotsCome made (slot ∷ slots) = IsMade made (source_in slot) × SlotsCome made slots

-- what an operand holds came from them
abbrev pub OperandComes : ℕ → Operand → Type 0
OperandComes made (Constant v) = Unit {0}
OperandComes made (Holding held) = IsMade made held.source
OperandComes made (Register n broken) = Unit {0}

-- what these operands hold came from them
abbrev pub OperandsCome : ℕ → List Operand → Type 0
OperandsCome made [] = Unit {0}
OperandsCome made (a ∷ as_) = OperandComes made a × OperandsCome made as_

pub source_later : (a b : ℕ) (source : Option ℕ) → a ≤ b → IsMade a source → IsMade b source
source_later a b None low h = tt
source_later a b (Some number) low h = omega (arith, low, h)

pub slots_later : (a b : ℕ) (slots : List (Option Held)) → a ≤ b → SlotsCome a slots → SlotsCome b slots
slots_later a b [] low h = tt
slots_later a b (slot ∷ slots) low h = (source_later a b (source_in slot) low h.0, slots_later a b slots low h.1)

pub operand_later : (a b : ℕ) (operand : Operand) → a ≤ b → OperandComes a operand → OperandComes b operand
operand_later a b (Constant v) low h = tt
operand_later a b (Holding held) low h = source_later a b held.source low h
operand_later a b (Register n broken) low h = tt

pub operands_later : (a b : ℕ) (operands : List Operand) → a ≤ b → OperandsCome a operands → OperandsCome b operands
operands_later a b [] low h = tt
operands_later a b (x ∷ xs) low h = (operand_later a b x low h.0, operands_later a b xs low h.1)

pub operands_both : (made : ℕ) (xs ys : List Operand) → OperandsCome made xs → OperandsCome made ys → OperandsCome made (xs ++ ys)
operands_both made [] ys h k = k
operands_both made (x ∷ xs) ys h k = (h.0, operands_both made xs ys h.1 k)

-- events behind balanced ones
pub balanced_both : (xs ys : List Event) → Balanced xs → Balanced ys → Balanced (xs ++ ys)
balanced_both _ ys nothing k = k
balanced_both _ ys (operation class latency sources place events h) k = operation class latency sources place (events ++ ys) (balanced_both events ys h k)
balanced_both _ ys (instance region inside events h g) k =
    subst Balanced (sym (append_assoc (Enter region ∷ inside) (Exit ∷ events) ys))
    (instance region inside (events ++ ys) h (balanced_both events ys g k))

-- an operation alone is balanced
pub op_alone : (class : Class) (latency : ℕ) (sources : List Src) (place : Place) → Balanced (Op class latency sources place ∷ [])
op_alone class latency sources place = operation class latency sources place [] nothing

-- so are the events of an instance
pub region_events : (region : ℕ) (inside : List Event) → Balanced inside → Balanced ((Enter region ∷ inside) ++ Exit ∷ [])
region_events region inside h = instance region inside [] h nothing

abbrev pub begins_both : {A : Type 0} (xs ys zs : List A) → Begins xs ys → Begins ys zs → Begins xs zs
begins_both {A = A} xs ys zs h k = (h.0 ++ k.0, k.1 ∙ ap (λ (e : List A). e ++ k.0) h.1 ∙ append_assoc xs h.0 k.0)

abbrev pub begins_itself : {A : Type 0} (xs : List A) → Begins xs xs
begins_itself xs = ([], sym (append-nil xs))

-- so many operations more were made, and events and output have grown
pub record HasGrown (before after : World) : Type 0 where
  pub made : before.made ≤ after.made
  pub events : Begins before.events after.events
  pub output : Begins before.output after.output

-- and each region that was entered since was left
pub record HasPassed (before after : World) : Type 0 where
  pub grown : HasGrown before after
  pub balanced : Balanced (grown.events.0)

abbrev pub grown_both : (u v w : World) → HasGrown u v → HasGrown v w → HasGrown u w
grown_both u v w h k = record {
  made = let a : u.made ≤ v.made = h.made in let b : v.made ≤ w.made = k.made in omega (arith, a, b);
  events = begins_both u.events v.events w.events h.events k.events;
  output = begins_both u.output v.output w.output h.output k.output;
}

pub passed_both : (u v w : World) → HasPassed u v → HasPassed v w → HasPassed u w
passed_both u v w h k = record {
  grown = grown_both u v w h.grown k.grown;
  balanced = balanced_both h.grown.events.0 k.grown.events.0 h.balanced k.balanced;
}

-- a state whose world is sound, and whose variables hold what came from operations that were made
pub record IsGood (most budget : ℕ) (s : State) : Type 0 where
  pub sound : IsSound budget most s.world
  pub held : SlotsCome s.world.made s.vars

-- the same world, in which so many operations more may be made
abbrev pub more_world : ℕ → World → World
more_world k w = record w { left = w.left + k }

-- the same state
abbrev pub more : ℕ → State → State
more k s = record s { world = more_world k s.world }

-- it has grown from a world
abbrev pub Grows : {A : Type 0} → World → Outcome A → Type 0
Grows w (Goes a t) = HasGrown w t.world
Grows w (Stops end v) = HasGrown w v

-- A part that began in a state goes on in a good one and gives what it should, or ends the run early in a sound world.
abbrev pub Fine : {A : Type 0} → ℕ → ℕ → (ℕ → A → Type 0) → World → Outcome A → Type 0
Fine most budget P before (Goes a t) = IsGood most budget t × P t.world.made a × HasPassed before t.world
Fine most budget P before (Stops end w) = IsEarly end × IsSound budget most w × HasGrown before w

-- What comes of a part, and what comes of it where so many operations more may be made: the same; or the one is cut off and the other goes
-- further.
abbrev pub Cut : {A : Type 0} → ℕ → Outcome A → Outcome A → Type 0
Cut k (Goes a t) other = other ≡ Goes a (more k t)
Cut k (Stops (ending.Trapped trap place) w) other = other ≡ Stops (ending.Trapped trap place) (more_world k w)
Cut k (Stops (ending.Returned v) w) other = Unit {0}
Cut k (Stops ending.OutOfSteps w) other = (w.left ≡ 0) × Grows w other

-- a part is so in this state
abbrev pub Keeps : {A : Type 0} → ℕ → ℕ → (ℕ → A → Type 0) → Part A → State → Type 0
Keeps most budget P part s = Fine most budget P s.world (part s) × ((k : ℕ) → Cut k (part s) (part (more k s)))

-- A PART IS LAWFUL: it is so in every good state where W holds of the number of operations made
abbrev pub Lawful : {A : Type 0} → Setting → (ℕ → Type 0) → (ℕ → A → Type 0) → Part A → Type 0
Lawful g W P part = (budget : ℕ) (s : State) → IsGood g.most budget s → W s.world.made → Keeps g.most budget P part s

-- it stays true when more operations are made
abbrev pub Lasts : (ℕ → Type 0) → Type 0
Lasts W = (a b : ℕ) → a ≤ b → W a → W b

pub passed_itself : (w : World) → HasPassed w w
passed_itself w = record {
  grown = record { made = omega arith; events = begins_itself w.events; output = begins_itself w.output };
  balanced = nothing;
}

pub grown_itself : (w : World) → HasGrown w w
grown_itself w = record { made = omega arith; events = begins_itself w.events; output = begins_itself w.output }

pub more_good : (most budget k : ℕ) (s : State) → IsGood most budget s → IsGood most (budget + k) (more k s)
more_good most budget k s good = record {
  sound = record {
    earlier = good.sound.earlier;
    counted = good.sound.counted;
    steps = let steps : s.world.made + s.world.left ≡ budget = good.sound.steps in omega (arith, steps);
    work = good.sound.work;
    control = good.sound.control;
    in_cell = good.sound.in_cell;
    out_cell = good.sound.out_cell;
    elements = good.sound.elements;
  };
  held = good.held;
}

pub fine_grows : {A : Type 0} (most budget : ℕ) (P : ℕ → A → Type 0) (w : World) (o : Outcome A) → Fine most budget P w o → Grows w o
fine_grows most budget P w (Goes a t) h = h.2.grown
fine_grows most budget P w (Stops end v) h = h.2

pub grows_from : {A : Type 0} (u v : World) (o : Outcome A) → HasGrown u v → Grows v o → Grows u o
grows_from u v (Goes a t) h k = grown_both u v t.world h k
grows_from u v (Stops end w) h k = grown_both u v w h k

-- what has grown from a world has grown from the same with fewer operations left
pub grows_less : {A : Type 0} (k : ℕ) (w : World) (o : Outcome A) → Grows (more_world k w) o → Grows w o
grows_less k w (Goes a t) h = record { made = h.made; events = h.events; output = h.output }
grows_less k w (Stops end v) h = record { made = h.made; events = h.events; output = h.output }

-- what is fine behind a state is fine behind the one before it
pub fine_from : {A : Type 0} (most budget : ℕ) (P : ℕ → A → Type 0) (u v : World) (o : Outcome A) → HasPassed u v → Fine most budget P v o → Fine most budget P u o
fine_from most budget P u v (Goes a t) h k = (k.0, k.1, passed_both u v t.world h k.2)
fine_from most budget P u v (Stops end w) h k = (k.0, k.1, grown_both u v w h.grown k.2)

pub fine_follow : {A B : Type 0} (most budget : ℕ) (P : ℕ → A → Type 0) (Q : ℕ → B → Type 0) (w : World) (o : Outcome A) (next : A → Part B)
    → Fine most budget P w o
    → ((a : A) (t : State) → IsGood most budget t → P t.world.made a → HasPassed w t.world → Fine most budget Q t.world (next a t))
    → Fine most budget Q w (follow o next)
fine_follow most budget P Q w (Goes a t) next h k = fine_from most budget Q w t.world (next a t) h.2 (k a t h.0 h.1 h.2)
fine_follow most budget P Q w (Stops end v) next h k = h

grows_follow : {A B : Type 0} (w : World) (o : Outcome A) (next : A → Part B) → Grows w o
    → ((a : A) (t : State) → o ≡ Goes a t → Grows t.world (next a t)) → Grows w (follow o next)
grows_follow w (Goes a t) next grown on = grows_from w t.world (next a t) grown (on a t refl)
grows_follow w (Stops end v) next grown on = grown

-- what comes of a part and what follows it, where the two of them may be followed by different parts
pub cut_follow : {A B : Type 0} (k : ℕ) (o other : Outcome A) (next then_ : A → Part B)
    → Cut k o other
    → ((a : A) (t : State) → o ≡ Goes a t → Cut k (next a t) (then_ a (more k t)))
    → ((a : A) (t : State) → other ≡ Goes a t → Grows t.world (then_ a t))
    → Cut k (follow o next) (follow other then_)
cut_follow {A = A} k (Goes a t) other next then_ same on grows = subst (λ (x : Outcome A). Cut k (next a t) (follow x then_)) (sym same) (on a t refl)
cut_follow {A = A} k (Stops (ending.Trapped trap place) w) other next then_ same on grows = ap (λ (x : Outcome A). follow x then_) same
cut_follow k (Stops (ending.Returned v) w) other next then_ same on grows = tt
cut_follow k (Stops ending.OutOfSteps w) other next then_ same on grows = (same.0, grows_follow w other then_ same.1 grows)

-- what a part that went on gave
gone_on : {A : Type 0} (most budget : ℕ) (P : ℕ → A → Type 0) (w : World) (o : Outcome A) (a : A) (t : State) → o ≡ Goes a t → Fine most budget P w o
    → IsGood most budget t × P t.world.made a × HasPassed w t.world
gone_on most budget P w o a t is h = subst (Fine most budget P w) is h

-- ONE PART BEHIND ANOTHER
pub bind : {A B : Type 0} (g : Setting) (W : ℕ → Type 0) (P : ℕ → A → Type 0) (Q : ℕ → B → Type 0) (part : Part A) (next : A → Part B)
    → Lasts W
    → Lawful g W P part
    → ((a : A) → Lawful g (λ made. W made × P made a) Q (next a))
    → Lawful g W Q (part >>= next)
bind g W P Q part next lasts first second budget s good w = (
  fine_follow g.most budget P Q s.world (part s) next (first budget s good w).0
      (λ a t well gave passed. (second a budget t well (lasts s.world.made t.world.made passed.grown.made w, gave)).0),
  λ k. cut_follow k (part s) (part (more k s)) next next ((first budget s good w).1 k)
      (λ a t is.
      let here = gone_on g.most budget P s.world (part s) a t is (first budget s good w).0 in
      (second a budget t here.0 (lasts s.world.made t.world.made here.2.grown.made w, here.1)).1 k)
      (λ a t is.
      let there = gone_on g.most (budget + k) P (more k s).world (part (more k s)) a t is (first (budget + k) (more k s) (more_good g.most budget k s good) w).0 in
      fine_grows g.most (budget + k) Q t.world (next a t)
      (second a (budget + k) t there.0 (lasts s.world.made t.world.made there.2.grown.made w, there.1)).0),
)

-- what is fine in one way is fine in each that follows from it
pub fine_so : {A : Type 0} (most budget : ℕ) (P Q : ℕ → A → Type 0) (w : World) (o : Outcome A) → ((made : ℕ) (a : A) → P made a → Q made a)
    → Fine most budget P w o → Fine most budget Q w o
fine_so most budget P Q w (Goes a t) from h = (h.0, from t.world.made a h.1, h.2)
fine_so most budget P Q w (Stops end v) from h = h

-- TWO PARTS, of which the first runs with a budget and the second with so many operations more: what comes of them where W holds, and what
-- comes of the second alone where V holds.
abbrev pub Pair : {A : Type 0} → Setting → ℕ → ℕ → (ℕ → Type 0) → (ℕ → Type 0) → (ℕ → A → Type 0) → Part A → Part A → Type 0
Pair g budget k W V P part other =
    ((s : State) → IsGood g.most budget s → W s.world.made → Fine g.most budget P s.world (part s) × Cut k (part s) (other (more k s)))
    × ((s : State) → IsGood g.most (budget + k) s → V s.world.made → Fine g.most (budget + k) P s.world (other s))

-- a lawful part is a pair with itself
pub pair_of : {A : Type 0} (g : Setting) (budget k : ℕ) (W V X : ℕ → Type 0) (P : ℕ → A → Type 0) (part : Part A)
    → ((made : ℕ) → W made → X made) → ((made : ℕ) → V made → X made) → Lawful g X P part → Pair g budget k W V P part part
pair_of g budget k W V X P part first second lawful = (
  λ s good w. (let kept = lawful budget s good (first s.world.made w) in (kept.0, kept.1 k)),
  λ s good v. (lawful (budget + k) s good (second s.world.made v)).0,
)

-- a part that is a pair with itself, whatever the budgets, is lawful
pub lawful_of : {A : Type 0} (g : Setting) (W : ℕ → Type 0) (P : ℕ → A → Type 0) (part : Part A)
    → ((budget k : ℕ) → Pair g budget k W W P part part) → Lawful g W P part
lawful_of g W P part pairs budget s good w = (((pairs budget 0).0 s good w).0, λ k. ((pairs budget k).0 s good w).1)

-- one pair behind another
pub pair_bind : {A B : Type 0} (g : Setting) (budget k : ℕ) (W V : ℕ → Type 0) (P : ℕ → A → Type 0) (Q : ℕ → B → Type 0) (part other : Part A) (next then_ : A → Part B)
    → Lasts W → Lasts V → ((made : ℕ) → W made → V made)
    → Pair g budget k W V P part other
    → ((a : A) → Pair g budget k (λ made. W made × P made a) (λ made. V made × P made a) Q (next a) (then_ a))
    → Pair g budget k W V Q (part >>= next) (other >>= then_)
pair_bind g budget k W V P Q part other next then_ lasts lasts_too weaker first second = (
  λ s good w.
      let here = first.0 s good w in (
        fine_follow g.most budget P Q s.world (part s) next here.0
            (λ a t well gave passed. ((second a).0 t well (lasts s.world.made t.world.made passed.grown.made w, gave)).0),
        cut_follow k (part s) (other (more k s)) next then_ here.1
            (λ a t is.
            let got = gone_on g.most budget P s.world (part s) a t is here.0 in
            ((second a).0 t got.0 (lasts s.world.made t.world.made got.2.grown.made w, got.1)).1)
            (λ a t is.
            let got = gone_on g.most (budget + k) P (more k s).world (other (more k s)) a t is (first.1 (more k s) (more_good g.most budget k s good) (weaker s.world.made w)) in
            fine_grows g.most (budget + k) Q t.world (then_ a t)
            ((second a).1 t got.0 (lasts_too s.world.made t.world.made got.2.grown.made (weaker s.world.made w), got.1))),
      ),
  λ s good v.
      fine_follow g.most (budget + k) P Q s.world (other s) then_ (first.1 s good v)
      (λ a t well gave passed. (second a).1 t well (lasts_too s.world.made t.world.made passed.grown.made v, gave)),
)
