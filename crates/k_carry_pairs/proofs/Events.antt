-- Operations, turns and open instances before places among events, and with one event more.
use Rattle.std.proofs.Common.{ℕ, zero, suc, ◌≡◌, ◌+◌, ◌-◌, ◌<◌, ◌≤◌, ◌&&◌, nat_eq, Bool, true, false, List, [], ◌∷◌, ◌++◌, length, take, reverse, slice_get, Option, Some, None, arith, refl, sym, subst, ap, inl, inr, ◌∙◌}
use Rattle.std.specs.Prelude.{if◌then◌else◌}
use Rattle.std.proofs.lemmas.List.{append-nil, length_push, length-take-le}
use Rattle.std.proofs.lemmas.List.{length-reverse}
use Rattle.std.proofs.lemmas.Option.{slice_get_within}
use Rattle.k_num.specs.declared.place.Place.{Place}
use Rattle.k_optab.specs.declared.class.Class.{Class}
use Rattle.k_optab.specs.declared.event.Event.{Event}
use Rattle.k_optab.specs.declared.event.Event.TheVariants.{Op, Enter, Exit}
use Rattle.k_optab.specs.declared.event.Src.{Src}
use Rattle.k_optab.specs.Events.{Operation, operations, made_before}
use Rattle.k_optab.specs.Open.{Open, open_after}
use Rattle.k_optab.specs.OpenLaws.{next_open}
use Rattle.k_optab.proofs.Leaving.{exits_close_the_last}
use Rattle.k_optab.proofs.Opening.{operations_keep, enters_open, idle_exits_keep}
use Rattle.k_optab.proofs.Trees.{operations-append}
use Rattle.k_carry_pairs.specs.Carried.{IsAmong, LiesIn, StandsAt, ends_body, is_body_of, turn}
use Rattle.k_carry_pairs.specs.Gathered.{inner}
use Rattle.k_carry_pairs.proofs.Lists.{among_reverse, get_front, get_none, last_or_none, reverse_push, take_front, take_next, take_whole}

-- the operation of an event
abbrev operation_at : Class → ℕ → List Src → Place → Operation
operation_at class latency sources place = record { class = class; latency = latency; sources = sources; place = place }

-- the fields of an event of an operation
same_operation : (class : Class) (latency : ℕ) (sources : List Src) (place : Place) (op : Operation)
    → Op class latency sources place ≡ Op op.class op.latency op.sources op.place → operation_at class latency sources place ≡ op
same_operation class latency sources place op is =
    let a : class ≡ op.class = cc is in
    let b : latency ≡ op.latency = cc is in
    let c : sources ≡ op.sources = cc is in
    let d : place ≡ op.place = cc is in
    (λ i. record { class = a i; latency = b i; sources = c i; place = d i })

-- an operation of a number stands at a place, before which so many were made
pub stands : (events : List Event) (j : ℕ) (op : Operation) → slice_get (operations events) j ≡ Some op
    → (at : ℕ) × (StandsAt events at op × (made_before at events ≡ j))
stands [] j op is = absurd (cc is)
stands (Op class latency sources place ∷ events) zero op is =
    let same : operation_at class latency sources place ≡ op = cc is in
    (zero, (ap (λ (x : Operation). Some (Op x.class x.latency x.sources x.place)) same, refl))
stands (Op class latency sources place ∷ events) (suc j) op is =
    let rest = stands events j op is in
    (suc rest.0, (rest.1.0, ap (λ (n : ℕ). suc n) rest.1.1))
stands (Enter region ∷ events) j op is = let rest = stands events j op is in (suc rest.0, (rest.1.0, rest.1.1))
stands (Exit ∷ events) j op is = let rest = stands events j op is in (suc rest.0, (rest.1.0, rest.1.1))

-- and it has that number
pub numbered : (events : List Event) (at : ℕ) (op : Operation) → StandsAt events at op → slice_get (operations events) (made_before at events) ≡ Some op
numbered [] at op is = absurd (cc is)
numbered (Op class latency sources place ∷ events) zero op is =
    let event : Op class latency sources place ≡ Op op.class op.latency op.sources op.place = cc is in
    ap (λ (x : Operation). Some x) (same_operation class latency sources place op event)
numbered (Op class latency sources place ∷ events) (suc at) op is = numbered events at op is
numbered (Enter region ∷ events) zero op is = absurd (cc is)
numbered (Enter region ∷ events) (suc at) op is = numbered events at op is
numbered (Exit ∷ events) zero op is = absurd (cc is)
numbered (Exit ∷ events) (suc at) op is = numbered events at op is

pub numbered_below : (events : List Event) (at : ℕ) (op : Operation) → StandsAt events at op → made_before at events < length (operations events)
numbered_below events at op is = slice_get_within (operations events) (made_before at events) op (numbered events at op is)

module _ (events more : List Event) where
  -- what lies before a place among events does not change with more events behind them
  pub made_same : (at : ℕ) → at ≤ length events → made_before at (events ++ more) ≡ made_before at events
  made_same at low = ap (λ (es : List Event). length (operations es)) (take_front at events more low)

  pub open_same : (at : ℕ) → at ≤ length events → open_after (take at (events ++ more)) ≡ open_after (take at events)
  open_same at low = ap (λ (es : List Event). open_after es) (take_front at events more low)

  pub lies_more : (at : ℕ) (o : Open) → at ≤ length events → LiesIn events at o → LiesIn (events ++ more) at o
  lies_more at o low is = subst (λ (opened : List Open). IsAmong o opened) (sym (open_same at low)) is

  pub lies_less : (at : ℕ) (o : Open) → at ≤ length events → LiesIn (events ++ more) at o → LiesIn events at o
  lies_less at o low is = subst (λ (opened : List Open). IsAmong o opened) (open_same at low) is

  pub turn_same : (o : Open) (at : ℕ) → at ≤ length events → turn (events ++ more) o at ≡ turn events o at
  turn_same o zero low = refl
  turn_same o (suc at) low =
      let before : turn (events ++ more) o at ≡ turn events o at = turn_same o at (omega (arith, low)) in
      (λ i. if ends_body o (open_same at (omega (arith, low)) i) (get_front at events more (omega (arith, low)) i) then suc (before i) else before i)

-- turns only grow
turn_next : (events : List Event) (o : Open) (at : ℕ) → turn events o at ≤ turn events o (suc at)
turn_next events o at = by (ends_body o (open_after (take at events)) (slice_get events at))
  where
    by : (b : Bool) → turn events o at ≤ (if b then suc (turn events o at) else turn events o at)
    by true = omega arith
    by false = omega arith

pub turn_grows : (events : List Event) (o : Open) (from more : ℕ) → turn events o from ≤ turn events o (from + more)
turn_grows events o from zero = (let same : from + zero ≡ from = omega arith in subst (λ (n : ℕ). turn events o from ≤ turn events o n) (sym same) (omega arith))
turn_grows events o from (suc more) =
    let next : from + suc more ≡ suc (from + more) = omega arith in
    let before : turn events o from ≤ turn events o (from + more) = turn_grows events o from more in
    let step : turn events o (from + more) ≤ turn events o (suc (from + more)) = turn_next events o (from + more) in
    subst (λ (n : ℕ). turn events o from ≤ turn events o n) (sym next) (omega (arith, before, step))

pub turn_up : (events : List Event) (o : Open) (from to : ℕ) → from ≤ to → turn events o from ≤ turn events o to
turn_up events o from to low =
    let same : from + (to - from) ≡ to = omega arith in
    subst (λ (n : ℕ). turn events o from ≤ turn events o n) same (turn_grows events o from (to - from))

-- the open instances behind one event more, the innermost first
pub inner_operation : (events : List Event) (class : Class) (latency : ℕ) (sources : List Src) (place : Place)
    → inner (events ++ Op class latency sources place ∷ []) ≡ inner events
inner_operation events class latency sources place =
    ap (λ (opened : List Open). reverse opened) (operations_keep events class latency sources place).0

pub inner_entered : (events : List Event) (region : ℕ) → inner (events ++ Enter region ∷ []) ≡ next_open region events ∷ inner events
inner_entered events region =
    ap (λ (opened : List Open). reverse opened) (enters_open events region).0 ∙ reverse_push (open_after events) (next_open region events)

-- the list without its first
abbrev pub behind_first : List Open → List Open
behind_first [] = []
behind_first (o ∷ outer) = outer

pub inner_left : (events : List Event) → inner (events ++ Exit ∷ []) ≡ behind_first (inner events)
inner_left events = elim (last_or_none (open_after events)) [
  | inl none ↦
      ap (λ (opened : List Open). reverse opened) (idle_exits_keep events none).0
      ∙ sym (ap (λ (opened : List Open). behind_first (reverse opened)) none)
  | inr some ↦
      ap (λ (opened : List Open). reverse opened) (exits_close_the_last events some.0 some.1.0 some.1.1).0
      ∙ sym (ap (λ (opened : List Open). behind_first (reverse opened)) some.1.1
      ∙ ap behind_first (reverse_push some.0 some.1.0))
]

-- the operations behind one event more
pub entered_operations : (events : List Event) (region : ℕ) → operations (events ++ Enter region ∷ []) ≡ operations events
entered_operations events region = operations-append events (Enter region ∷ []) ∙ append-nil (operations events)

pub left_operations : (events : List Event) → operations (events ++ Exit ∷ []) ≡ operations events
left_operations events = operations-append events (Exit ∷ []) ∙ append-nil (operations events)

pub made_operations : (events : List Event) (class : Class) (latency : ℕ) (sources : List Src) (place : Place)
    → operations (events ++ Op class latency sources place ∷ []) ≡ operations events ++ operation_at class latency sources place ∷ []
made_operations events class latency sources place = operations-append events (Op class latency sources place ∷ [])

-- Open instances, the innermost first: each was entered before those within it, and began no later, and so many are around it as its depth says.
abbrev pub AreNested : ℕ → ℕ → List Open → Type 0
AreNested bound made [] = Unit {0}
AreNested bound made (o ∷ outer) = (o.enter < bound) × (o.start ≤ made) × (o.depth ≡ length outer) × AreNested o.enter o.start outer

nested_later : (bound made bound' made' : ℕ) (opened : List Open) → bound ≤ bound' → made ≤ made' → AreNested bound made opened → AreNested bound' made' opened
nested_later bound made bound' made' [] low few are = tt
nested_later bound made bound' made' (o ∷ outer) low few are = (omega (arith, are.0, low), omega (arith, are.1, few), are.2, are.3)

nested_behind : (bound made : ℕ) (opened : List Open) → AreNested bound made opened → AreNested bound made (behind_first opened)
nested_behind bound made [] are = tt
nested_behind bound made (o ∷ outer) are = nested_later o.enter o.start bound made outer (omega (arith, are.0)) are.1 are.3

-- so are those behind events with one more
nested_next : (events : List Event) (e : Event) → AreNested (length events) (length (operations events)) (inner events)
    → AreNested (suc (length events)) (length (operations (events ++ e ∷ []))) (inner (events ++ e ∷ []))
nested_next events (Op class latency sources place) are =
    subst (λ (opened : List Open). AreNested (suc (length events)) (length (operations (events ++ Op class latency sources place ∷ []))) opened)
    (sym (inner_operation events class latency sources place))
    (nested_later (length events) (length (operations events)) (suc (length events)) (length (operations (events ++ Op class latency sources place ∷ []))) (inner events)
    (omega arith)
    (omega (
      arith,
      ap (λ (ops : List Operation). length ops) (made_operations events class latency sources place),
      length_push (operations events) (operation_at class latency sources place),
    )) are)
nested_next events (Enter region) are =
    let count : length (inner events) ≡ length (open_after events) = length-reverse (open_after events) in
    let same : length (operations (events ++ Enter region ∷ [])) ≡ length (operations events) = ap (λ (ops : List Operation). length ops) (entered_operations events region) in
    subst (λ (opened : List Open). AreNested (suc (length events)) (length (operations (events ++ Enter region ∷ []))) opened) (sym (inner_entered events region))
    (omega arith, omega (arith, same), sym count, are)
nested_next events Exit are =
    let same : length (operations (events ++ Exit ∷ [])) ≡ length (operations events) = ap (λ (ops : List Operation). length ops) (left_operations events) in
    subst (λ (opened : List Open). AreNested (suc (length events)) (length (operations (events ++ Exit ∷ []))) opened) (sym (inner_left events))
    (nested_later (length events) (length (operations events)) (suc (length events)) (length (operations (events ++ Exit ∷ []))) (behind_first (inner events))
    (omega arith) (omega (arith, same)) (nested_behind (length events) (length (operations events)) (inner events) are))

-- so they are behind each part of the events
pub nested : (events : List Event) (n : ℕ) → n ≤ length events → AreNested n (made_before n events) (inner (take n events))
nested events zero low = tt
nested events (suc n) low = by (nested events n (omega (arith, low))) (slice_get events n) refl
  where
    by : AreNested n (made_before n events) (inner (take n events)) → (found : Option Event) → slice_get events n ≡ found → AreNested (suc n) (made_before (suc n) events) (inner (take (suc n) events))
    by before None is = absurd (omega (arith, low, get_none events n is))
    by before (Some e) is =
        let long : length (take n events) ≡ n = length-take-le n events (omega (arith, low)) in
        subst (λ (es : List Event). AreNested (suc n) (length (operations es)) (inner es)) (sym (take_next n events e is))
        (subst (λ (m : ℕ). AreNested (suc m) (length (operations (take n events ++ e ∷ []))) (inner (take n events ++ e ∷ []))) long
        (nested_next (take n events) e (subst (λ (m : ℕ). AreNested m (made_before n events) (inner (take n events))) (sym long) before)))

pub nested_all : (events : List Event) → AreNested (length events) (length (operations events)) (inner events)
nested_all events =
    let whole : take (length events) events ≡ events = take_whole (length events) events (omega arith) in
    subst (λ (es : List Event). AreNested (length events) (length (operations es)) (inner es)) whole (nested events (length events) (omega arith))

-- what is open began before
pub nested_start : (bound made : ℕ) (opened : List Open) (o : Open) → AreNested bound made opened → IsAmong o opened → o.start ≤ made
nested_start bound made [] o are is = absurd is
nested_start bound made (p ∷ outer) o are (inl here) = subst (λ (x : Open). x.start ≤ made) here are.1
nested_start bound made (p ∷ outer) o are (inr later) =
    let low : o.start ≤ p.start = nested_start p.enter p.start outer o are.3 later in omega (arith, low, are.1)

pub nested_enter : (bound made : ℕ) (opened : List Open) (o : Open) → AreNested bound made opened → IsAmong o opened → o.enter < bound
nested_enter bound made [] o are is = absurd is
nested_enter bound made (p ∷ outer) o are (inl here) = subst (λ (x : Open). x.enter < bound) here are.0
nested_enter bound made (p ∷ outer) o are (inr later) =
    let low : o.enter < p.enter = nested_enter p.enter p.start outer o are.3 later in omega (arith, low, are.0)

pub nested_depth : (bound made : ℕ) (opened : List Open) (o : Open) → AreNested bound made opened → IsAmong o opened → o.depth < length opened
nested_depth bound made [] o are is = absurd is
nested_depth bound made (p ∷ outer) o are (inl here) = subst (λ (x : Open). x.depth < suc (length outer)) here (omega (arith, are.2))
nested_depth bound made (p ∷ outer) o are (inr later) =
    let low : o.depth < length outer = nested_depth p.enter p.start outer o are.3 later in omega (arith, low)

-- an operation that lies in an instance is none before its first one
pub lies_from : (events : List Event) (at : ℕ) (o : Open) → at ≤ length events → LiesIn events at o → o.start ≤ made_before at events
lies_from events at o low is =
    nested_start at (made_before at events) (inner (take at events)) o (nested events at low) (among_reverse o (open_after (take at events)) is)

-- no body of an instance ends before that is entered
none_ends : (o : Open) (bound made : ℕ) (opened : List Open) → AreNested bound made opened → bound ≤ o.enter → is_body_of o opened ≡ false
none_ends o bound made [] are late = refl
none_ends o bound made (body ∷ []) are late = refl
none_ends o bound made (body ∷ around ∷ outer) are late =
    let differs : nat_eq around.enter o.enter ≡ false = (let low : around.enter < o.enter = omega (arith, are.0, are.3.0, late) in grind arith) in
    ap (λ (b : Bool). b && nat_eq body.region (o.region + 1)) differs

pub no_turn : (events : List Event) (o : Open) (at : ℕ) → at ≤ length events → at ≤ o.enter + 1 → turn events o at ≡ 0
no_turn events o zero low early = refl
no_turn events o (suc at) low early =
    let before : turn events o at ≡ 0 = no_turn events o at (omega (arith, low)) (omega (arith, early)) in
    let none : is_body_of o (inner (take at events)) ≡ false =
    none_ends o at (made_before at events) (inner (take at events)) (nested events at (omega (arith, low))) (omega (arith, early)) in
    by (slice_get events at) none ∙ before
  where
    by : (e : Option Event) → is_body_of o (inner (take at events)) ≡ false
        → (if ends_body o (open_after (take at events)) e then suc (turn events o at) else turn events o at) ≡ turn events o at
    by None none = refl
    by (Some (Op class latency sources place)) none = refl
    by (Some (Enter region)) none = refl
    by (Some Exit) none = ap (λ (b : Bool). if b then suc (turn events o at) else turn events o at) none
