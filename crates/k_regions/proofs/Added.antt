-- The events that the parts of a run add: where a part goes on, each region that was entered since was left; each region that was entered is one
-- that the policy allows; and each entry is paid for by an operation, but for those on credit. A part may have some to spare for what follows.
use Rattle.std.proofs.Common.{◌≡◌, ℕ, ◌+◌, ◌*◌, ◌≤◌, List, [], ◌∷◌, ◌++◌, map, length, Option, Some, None, Bool, true, false, refl, sym, ◌∙◌, ap, subst, append_assoc, mul-add, arith}
use Rattle.std.proofs.lemmas.List.{append-nil, length-append}
use Rattle.k_num.specs.declared.initial.Initial.{Initial}
use Rattle.k_num.specs.declared.place.Place.{Place}
use Rattle.k_optab.specs.declared.class.Class.{Class}
use Rattle.k_optab.specs.declared.event.Event.{Event}
use Rattle.k_optab.specs.declared.event.Event.TheVariants.{Op, Enter, Exit}
use Rattle.k_optab.specs.Events.{operations}
use Rattle.k_optab.specs.Instances.{Balanced, nothing}
use Rattle.k_optab.specs.Latencies.{latency}
use Rattle.k_optab.proofs.Trees.{operations-append}
use Rattle.k_ending.specs.declared.ending.Trap.{Trap}
use Rattle.k_mem.specs.declared.start.Start.{Start}
use Rattle.k_mem.specs.Memory.{Memory}
use Rattle.k_mem.specs.Calls.{push_of}
use Rattle.k_world.specs.declared.act.Act.{Act}
use Rattle.k_world.specs.declared.value.Held.{Held}
use Rattle.k_world.specs.declared.value.Value.{Value}
use Rattle.k_world.specs.declared.value.Value.TheVariants as value
use Rattle.k_world.specs.Changes.{with_elements}
use Rattle.k_world.specs.Operands.{values_of}
use Rattle.k_world.specs.Operations.{Made, Gives, Ends, counted, event_of, operation}
use Rattle.k_world.specs.Worlds.{World}
use Rattle.k_world.specs.WorldLaws.{IsEarly}
use Rattle.k_world.proofs.Effects.{effect_frame}
use Rattle.k_world.proofs.Sound.{operation_cases}
use Rattle.k_evaluation.specs.declared.operand.Operand.{Operand}
use Rattle.k_evaluation.specs.declared.operand.Operand.TheVariants.{Holding}
use Rattle.k_evaluation.specs.States.{Program, State, Outcome, Goes, Stops, Part, follow, ◌>>=◌, gives, traps, read, made, makes, computes, sets, region, control, settles, settled, exits}
use Rattle.k_evaluation.specs.Objects.{made_object, makes_object, with_items_at, fills, live, keeps, block, with_string, makes_string}
use Rattle.k_regions.specs.Laws.{entries}
use Rattle.k_evaluation.proofs.Kept.{balanced_both, op_alone, region_events}

-- each region that is entered among these events is one of which P holds
abbrev pub EachEntered : (ℕ → Type 0) → List Event → Type 0
EachEntered P [] = Unit {0}
EachEntered P (Op class latency sources place ∷ events) = EachEntered P events
EachEntered P (Enter region ∷ events) = P region × EachEntered P events
EachEntered P (Exit ∷ events) = EachEntered P events

pub each_both : (P : ℕ → Type 0) (xs ys : List Event) → EachEntered P xs → EachEntered P ys → EachEntered P (xs ++ ys)
each_both P [] ys h k = k
each_both P (Op class latency sources place ∷ xs) ys h k = each_both P xs ys h k
each_both P (Enter region ∷ xs) ys h k = (h.0, each_both P xs ys h.1 k)
each_both P (Exit ∷ xs) ys h k = each_both P xs ys h k

-- what is asked of a run: the regions that it may enter, and for how many entries each of its operations pays
pub record Policy : Type 1 where
  pub Allows : ℕ → Type 0
  pub price : ℕ

-- how many operations there are among events
abbrev pub made_of : List Event → ℕ
made_of events = length (operations events)

made-append : (xs ys : List Event) → made_of (xs ++ ys) ≡ made_of xs + made_of ys
made-append xs ys = ap length (operations-append xs ys) ∙ length-append (operations xs) (operations ys)

entries-append : (xs ys : List Event) → entries (xs ++ ys) ≡ entries xs + entries ys
entries-append [] ys = omega arith
entries-append (Op class latency sources place ∷ xs) ys = entries-append xs ys
entries-append (Enter region ∷ xs) ys = let rest : entries (xs ++ ys) ≡ entries xs + entries ys = entries-append xs ys in omega (arith, rest)
entries-append (Exit ∷ xs) ys = entries-append xs ys

-- these events have so many entries on credit, and so many to spare: all others are paid for by their operations
abbrev pub ArePaid : Policy → ℕ → ℕ → List Event → Type 0
ArePaid P credit back events = entries events + back ≤ credit + P.price * made_of events

-- events were added, of which that holds
pub record Added (P : Policy) (credit back : ℕ) (before after : List Event) : Type 0 where
  pub events : List Event
  pub is : after ≡ before ++ events
  pub each : EachEntered P.Allows events
  pub paid : ArePaid P credit back events

-- what two parts have on credit and to spare comes to what both have: c and b, d and q, w and r
pub record AddsUp (c b d q w r : ℕ) : Type 0 where
  pub first : c ≤ w
  pub second : c + d ≤ w + b
  pub both : (c + d) + r ≤ w + (b + q)

-- neither has any
pub all_free : AddsUp 0 0 0 0 0 0
all_free = record { first = omega arith; second = omega arith; both = omega arith }

-- both have some on credit
pub on_credit : (c d w : ℕ) → c + d ≤ w → AddsUp c 0 d 0 w 0
on_credit c d w le = record { first = omega (arith, le); second = omega (arith, le); both = omega (arith, le) }

-- the first pays for the second
pub pays : (b : ℕ) → AddsUp 0 b b 0 0 0
pays b = record { first = omega arith; second = omega arith; both = omega arith }

-- the second has some to spare
pub to_spare : (b : ℕ) → AddsUp 0 0 0 b 0 b
to_spare b = record { first = omega arith; second = omega arith; both = omega arith }

-- the first has some to spare
pub spared : (b : ℕ) → AddsUp 0 b 0 0 0 b
spared b = record { first = omega arith; second = omega arith; both = omega arith }

-- what the first has to spare is not needed
pub spent_behind : (w b : ℕ) → AddsUp 0 b w 0 w 0
spent_behind w b = record { first = omega arith; second = omega arith; both = omega arith }

sums : (price e f m n c b d q w r : ℕ) → (c + d) + r ≤ w + (b + q) → e + b ≤ c + price * m → f + q ≤ d + price * n → (e + f) + r ≤ w + price * (m + n)
sums price e f m n c b d q w r up h k = let both : price * (m + n) ≡ price * m + price * n = mul-add price m n in omega (arith, up, h, k, both)

pub paid_both : (P : Policy) (c b d q w r : ℕ) (xs ys : List Event) → (c + d) + r ≤ w + (b + q) → ArePaid P c b xs → ArePaid P d q ys → ArePaid P w r (xs ++ ys)
paid_both P c b d q w r xs ys up h k =
    subst (λ n. n + r ≤ w + P.price * made_of (xs ++ ys)) (sym (entries-append xs ys))
    (subst (λ n. entries xs + entries ys + r ≤ w + P.price * n) (sym (made-append xs ys))
    (sums P.price (entries xs) (entries ys) (made_of xs) (made_of ys) c b d q w r up h k))

abbrev pub added_both : (P : Policy) (c b d q w r : ℕ) (u v x : List Event) → (c + d) + r ≤ w + (b + q) → Added P c b u v → Added P d q v x → Added P w r u x
added_both P c b d q w r u v x up h k = record {
  events = h.events ++ k.events;
  is = k.is ∙ ap (λ (e : List Event). e ++ k.events) h.is ∙ append_assoc u h.events k.events;
  each = each_both P.Allows h.events k.events h.each k.each;
  paid = paid_both P c b d q w r h.events k.events up h.paid k.paid;
}

-- more on credit, or less to spare
abbrev pub weaker : (P : Policy) (c b w r : ℕ) (u v : List Event) → c + r ≤ w + b → Added P c b u v → Added P w r u v
weaker P c b w r u v less h =
    let paid : entries h.events + b ≤ c + P.price * made_of h.events = h.paid in
    record { events = h.events; is = h.is; each = h.each; paid = omega (arith, paid, less) }

abbrev pub none_added : (P : Policy) (u v : List Event) → v ≡ u → Added P 0 0 u v
none_added P u v same = record { events = []; is = same ∙ sym (append-nil u); each = tt; paid = omega arith }

-- what comes of a part that began behind these events: where the run ends in it, main did not return, and nothing is to spare
abbrev pub Leaves : {A : Type 0} → Policy → ℕ → ℕ → List Event → Outcome A → Type 0
Leaves P credit back before (Goes a t) = (h : Added P credit back before t.world.events) × Balanced h.events
Leaves P credit back before (Stops end w) = IsEarly end × Added P credit 0 before w.events

-- a part adds such events, in whatever state it begins
pub record Spends {A : Type 0} (P : Policy) (credit back : ℕ) (part : Part A) : Type 0 where
  pub adds : (s : State) → Leaves P credit back s.world.events (part s)

-- nothing is on credit, and nothing to spare
abbrev pub Adds : {A : Type 0} → Policy → Part A → Type 0
Adds P part = Spends P 0 0 part

-- what comes of a part that leaves the events as they are
abbrev pub Stays : {A : Type 0} → List Event → Outcome A → Type 0
Stays before (Goes a t) = t.world.events ≡ before
Stays before (Stops end w) = IsEarly end × (w.events ≡ before)

-- a part leaves the events as they are
pub record IsStill {A : Type 0} (part : Part A) : Type 0 where
  pub still : (s : State) → Stays s.world.events (part s)

stays_from : {A : Type 0} (u v : List Event) (o : Outcome A) → v ≡ u → Stays v o → Stays u o
stays_from u v (Goes a t) h same = same ∙ h
stays_from u v (Stops end w) h same = (same.0, same.1 ∙ h)

still_follow : {A B : Type 0} (before : List Event) (o : Outcome A) (next : A → Part B) → Stays before o → ((a : A) → IsStill (next a)) → Stays before (follow o next)
still_follow before (Goes a t) next h k = stays_from before t.world.events (next a t) h ((k a).still t)
still_follow before (Stops end w) next h k = h

pub then_still : {A B : Type 0} (part : Part A) (next : A → Part B) → IsStill part → ((a : A) → IsStill (next a)) → IsStill (part >>= next)
then_still part next h k = record { still = λ s. still_follow s.world.events (part s) next (h.still s) k }

pub gives_still : {A : Type 0} (a : A) → IsStill (gives a)
gives_still a = record { still = λ s. refl }

object_still : (place : Place) (count : ℕ) (s : State) (m : Option Memory) → Stays s.world.events (made_object place s (with_elements count s.world m))
object_still place count s None = (tt, refl)
object_still place count s (Some m) = refl

pub makes_object_still : (place : Place) (start : Start) (count : ℕ) → IsStill (makes_object place start count)
makes_object_still place start count = record { still = λ s. object_still place count s (push_of s.world.memory start count) }

pub makes_string_still : (place : Place) (bytes : List ℕ) → IsStill (makes_string place bytes)
makes_string_still place bytes = record {
  still = λ s. object_still place (length (bytes ++ 0 ∷ [])) s (with_string s.world.memory (bytes ++ 0 ∷ []));
}

filled_same : (v : Value) (items : List Initial) (w : World) → (with_items_at v items w).events ≡ w.events
filled_same (value.Number z) items w = refl
filled_same (value.Pointer p) items w = refl

pub fills_still : (home : Held) (items : List Initial) → IsStill (fills home items)
fills_still home items = record { still = λ s. filled_same home.value items s.world }

settles_still : (stays : Bool) (c : Option ℕ) → IsStill (settles stays c)
settles_still true c = record { still = λ s. refl }
settles_still false c = record { still = λ s. refl }

module _ (P : Policy) where
  pub leaves_from : {A : Type 0} {c b d q w r : ℕ} → AddsUp c b d q w r → (u v : List Event) (o : Outcome A) → (h : Added P c b u v) → Balanced h.events → Leaves P d q v o
      → Leaves P w r u o
  leaves_from {c} {b} {d} {q} {w} {r} up u v (Goes a t) h balanced k =
      (added_both P c b d q w r u v t.world.events up.both h k.0, balanced_both h.events k.0.events balanced k.1)
  leaves_from {c} {b} {d} {q} {w} {r} up u v (Stops end x) h balanced k =
      let second : c + d ≤ w + b = up.second in
      (k.0, added_both P c b d 0 w 0 u v x.events (omega (arith, second)) h k.1)

  -- one part behind another
  pub then_spends : {A B : Type 0} {c b d q w r : ℕ} (up : AddsUp c b d q w r) (part : Part A) (next : A → Part B) → Spends P c b part → ((a : A) → Spends P d q (next a))
      → Spends P w r (part >>= next)
  then_spends {A} {B} {c} {b} {d} {q} {w} {r} up part next h k = record { adds = λ s. by s.world.events (part s) (h.adds s) }
    where
      by : (u : List Event) (o : Outcome A) → Leaves P c b u o → Leaves P w r u (follow o next)
      by u (Goes a t) h = leaves_from up u t.world.events (next a t) h.0 h.1 ((k a).adds t)
      by u (Stops end x) h = let first : c ≤ w = up.first in (h.0, weaker P c 0 w 0 u x.events (omega (arith, first)) h.1)

  pub then_adds : {A B : Type 0} (part : Part A) (next : A → Part B) → Adds P part → ((a : A) → Adds P (next a)) → Adds P (part >>= next)
  then_adds part next h k = then_spends all_free part next h k

  -- more on credit, or less to spare
  pub less_spends : {A : Type 0} (c b w r : ℕ) (part : Part A) → c ≤ w → c + r ≤ w + b → Spends P c b part → Spends P w r part
  less_spends {A} c b w r part first both h = record { adds = λ s. by s.world.events (part s) (h.adds s) }
    where
      by : (u : List Event) (o : Outcome A) → Leaves P c b u o → Leaves P w r u o
      by u (Goes a t) h = (weaker P c b w r u t.world.events both h.0, h.1)
      by u (Stops end x) h = (h.0, weaker P c 0 w 0 u x.events (omega (arith, first)) h.1)

  pub more_spends : {A : Type 0} (c w : ℕ) (part : Part A) → c ≤ w → Spends P c 0 part → Spends P w 0 part
  more_spends c w part le h = less_spends c 0 w 0 part le (omega (arith, le)) h

  -- what needs no credit has some
  pub credited : {A : Type 0} (w : ℕ) (part : Part A) → Adds P part → Spends P w 0 part
  credited w part h = more_spends 0 w part (omega arith) h

  stays_leaves : {A : Type 0} (u : List Event) (o : Outcome A) → Stays u o → Leaves P 0 0 u o
  stays_leaves u (Goes a t) h = (none_added P u t.world.events h, nothing)
  stays_leaves u (Stops end w) h = (h.0, none_added P u w.events h.1)

  pub still_adds : {A : Type 0} (part : Part A) → IsStill part → Adds P part
  still_adds part h = record { adds = λ s. stays_leaves s.world.events (part s) (h.still s) }

  pub gives_adds : {A : Type 0} (a : A) → Adds P (gives a)
  gives_adds a = still_adds (gives a) (gives_still a)

  pub traps_adds : {A : Type 0} (trap : Trap) (place : Place) → Adds P (traps {A = A} trap place)
  traps_adds {A} trap place = still_adds (traps {A = A} trap place) (record { still = λ s. (tt, refl) })

  pub sets_adds : (n : ℕ) (slot : Option Held) → Adds P (sets n slot)
  sets_adds n slot = still_adds (sets n slot) (record { still = λ s. refl })

  pub control_adds : Adds P control
  control_adds = still_adds control (record { still = λ s. refl })

  pub settles_adds : (stays : Bool) (c : Option ℕ) → Adds P (settles stays c)
  settles_adds stays c = still_adds (settles stays c) (settles_still stays c)

  pub makes_object_adds : (place : Place) (start : Start) (count : ℕ) → Adds P (makes_object place start count)
  makes_object_adds place start count = still_adds (makes_object place start count) (makes_object_still place start count)

  pub fills_adds : (home : Held) (items : List Initial) → Adds P (fills home items)
  fills_adds home items = still_adds (fills home items) (fills_still home items)

  -- what stands between two parts that need no credit
  pub between_spends : {A B C : Type 0} (w : ℕ) (first : Part A) (middle : A → Part B) (last : A → B → Part C) → Adds P first → ((a : A) → Spends P w 0 (middle a))
      → ((a : A) (b : B) → Adds P (last a b)) → Spends P w 0 (first >>= λ a. middle a >>= λ b. last a b >>= λ done. gives b)
  between_spends w first middle last h k l =
      then_spends (on_credit 0 w w (omega arith)) first (λ a. middle a >>= λ b. last a b >>= λ done. gives b) h
      (λ a. then_spends (on_credit w 0 w (omega arith)) (middle a) (λ b. last a b >>= λ done. gives b) (k a)
      (λ b. then_adds (last a b) (λ done. gives b) (l a b) (λ done. gives_adds b)))

  pub settled_spends : {A : Type 0} (w : ℕ) (stays : Bool) (part : Part A) → Spends P w 0 part → Spends P w 0 (settled stays part)
  settled_spends w stays part h = between_spends w control (λ c. part) (λ c a. settles stays c) control_adds (λ c. h) (λ c a. settles_adds stays c)

  pub settled_adds : {A : Type 0} (stays : Bool) (part : Part A) → Adds P part → Adds P (settled stays part)
  settled_adds stays part h = settled_spends 0 stays part h

  pub block_spends : {A : Type 0} (w : ℕ) (part : Part A) → Spends P w 0 part → Spends P w 0 (block part)
  block_spends w part h =
      between_spends w live (λ count. part) (λ count a. keeps count) (still_adds live (record { still = λ s. refl })) (λ count. h)
      (λ count a. still_adds (keeps count) (record { still = λ s. refl }))

  -- A REGION around a part is an entry on credit
  entered : (number : ℕ) (u : List Event) → P.Allows number → Added P 1 0 u (u ++ Enter number ∷ [])
  entered number u one = record { events = Enter number ∷ []; is = refl; each = (one, tt); paid = omega arith }

  pub region_paid : (number c b : ℕ) (events : List Event) → ArePaid P c b events → ArePaid P (1 + c) b ((Enter number ∷ events) ++ Exit ∷ [])
  region_paid number c b events h =
      let paid : entries events + b ≤ c + P.price * made_of events = h in
      paid_both P (1 + c) b 0 0 (1 + c) b (Enter number ∷ events) (Exit ∷ []) (omega arith) (let e : entries (Enter number ∷ events) + b ≤ (1 + c) + P.price * made_of events = omega (arith, paid) in e)
      (omega arith)

  region_leaves : {A : Type 0} (number c b : ℕ) (u : List Event) (o : Outcome A) → P.Allows number → Leaves P c b (u ++ Enter number ∷ []) o
      → Leaves P (1 + c) b u (follow o (λ a. exits >>= λ left. gives a))
  region_leaves number c b u (Goes a t) one h = (
    record {
      events = (Enter number ∷ h.0.events) ++ Exit ∷ [];
      is =
          ap (λ (e : List Event). e ++ Exit ∷ []) (h.0.is ∙ append_assoc u (Enter number ∷ []) h.0.events)
          ∙ append_assoc u (Enter number ∷ h.0.events) (Exit ∷ []);
      each = (one, each_both P.Allows h.0.events (Exit ∷ []) h.0.each tt);
      paid = region_paid number c b h.0.events h.0.paid;
    },
    region_events number h.0.events h.1,
  )
  region_leaves number c b u (Stops end w) one h =
      (h.0, added_both P 1 0 c 0 (1 + c) 0 u (u ++ Enter number ∷ []) w.events (omega arith) (entered number u one) h.1)

  pub region_spends : {A : Type 0} (number c b : ℕ) (part : Part A) → P.Allows number → Spends P c b part → Spends P (1 + c) b (region number part)
  region_spends number c b part one h = record {
    adds = λ s. region_leaves number c b s.world.events (part (record s { world = record s.world { events = s.world.events ++ Enter number ∷ [] } })) one
        (h.adds (record s { world = record s.world { events = s.world.events ++ Enter number ∷ [] } }));
  }

  -- AN OPERATION pays for what follows
  abbrev MadeAdds : List Event → Made → Type 0
  MadeAdds u (Gives held w) = (h : Added P 0 P.price u w.events) × Balanced h.events
  MadeAdds u (Ends end w) = IsEarly end × Added P 0 0 u w.events

  made_leaves : (s : State) (u : List Event) (m : Made) → MadeAdds u m → Leaves P 0 P.price u (made s m)
  made_leaves s u (Gives held w) h = h
  made_leaves s u (Ends end w) h = h

  module _ (program : Program) (class : Class) (place : Place) (what : Act) (operands : List Operand) where
    pub makes_spends : Spends P 0 P.price (makes program class place what operands)
    makes_spends = record {
      adds =
          λ s.
          let takes : ℕ = latency program.latencies class in
          let reads = map (read s) operands in
          made_leaves s s.world.events (operation class takes place what reads s.world)
          (operation_cases (MadeAdds s.world.events) class takes place what reads s.world (λ end early. (early, none_added P s.world.events s.world.events refl))
          (λ some v. (
            record {
              events = event_of class takes place what reads s.world ∷ [];
              is = ap (λ (w : World). w.events) (effect_frame what s.world.made (values_of reads) (counted class takes place what reads s.world));
              each = tt;
              paid = omega arith;
            },
            op_alone class takes _ place,
          )));
    }

    pub makes_adds : Adds P (makes program class place what operands)
    makes_adds = less_spends 0 P.price 0 0 (makes program class place what operands) (omega arith) (omega arith) makes_spends

    pub computes_adds : Adds P (computes program class place what operands)
    computes_adds = then_adds (makes program class place what operands) (λ held. gives (Holding held)) makes_adds (λ held. gives_adds (Holding held))
