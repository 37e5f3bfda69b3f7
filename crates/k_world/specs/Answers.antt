-- For contracts between crates: nobody has to believe it.
-- What the calls on a running program's own state answer: the operations of the definition, with the event told apart.
use Rattle.std.specs.Prelude.{ℕ, ◌≡◌, ◌^◌, if◌then◌else◌, ℤ, pos, neg_ℤ, int_lt, List, [], ◌∷◌, ◌++◌, Option, Some, None, Result, Ok, Err}
use Rattle.k_num.specs.declared.place.Place.{Place}
use Rattle.k_optab.specs.declared.class.Class.{Class}
use Rattle.k_optab.specs.declared.event.Event.{Event}
use Rattle.k_optab.specs.declared.event.Event.TheVariants.{Op}
use Rattle.k_ending.specs.declared.ending.End.TheVariants.{Trapped}
use Rattle.k_ending.specs.declared.ending.Trap.{Trap}
use Rattle.k_world.specs.declared.act.Act.{Act}
use Rattle.k_world.specs.declared.act.Act.TheVariants as act
use Rattle.k_world.specs.declared.act.ActRef.{ActRef}
use Rattle.k_world.specs.declared.act.ActRef.TheVariants as borrowed
use Rattle.k_world.specs.declared.answer.Done.{Done}
use Rattle.k_world.specs.declared.answer.Performed.{Performed}
use Rattle.k_world.specs.declared.answer.Refusal.{Refusal}
use Rattle.k_world.specs.declared.answer.Refusal.TheVariants as refusal
use Rattle.k_world.specs.declared.answer.Stop.{Stop}
use Rattle.k_world.specs.declared.answer.Stop.TheVariants as stop
use Rattle.k_world.specs.declared.value.Read.{Read}
use Rattle.k_world.specs.declared.value.Value.{Value}
use Rattle.k_world.specs.Acts.{Given, work, effect, hidden, touched}
use Rattle.k_world.specs.Operands.{sources}
use Rattle.k_world.specs.Operations.{Gives, Ends, operation}
use Rattle.k_world.specs.Worlds.{World, with_events}

-- the act that was lent
abbrev pub act_of : ActRef → Act
act_of (borrowed.Binary op kind) = act.Binary op kind
act_of (borrowed.Unary op kind) = act.Unary op kind
act_of (borrowed.Convert kind) = act.Convert kind
act_of borrowed.Move = act.Move
act_of (borrowed.Offset minus scale) = act.Offset minus scale
act_of (borrowed.PtrCompare op) = act.PtrCompare op
act_of (borrowed.PtrDistance scale) = act.PtrDistance scale
act_of borrowed.Load = act.Load
act_of borrowed.Store = act.Store
act_of borrowed.Input = act.Input
act_of (borrowed.Output what) = act.Output what.now
act_of borrowed.Test = act.Test
act_of borrowed.Call = act.Call

-- what an act gives that reads and writes nothing of the world
abbrev pub performed_of : Given → Result Performed Refusal
performed_of (Ok v) = Ok (record { value = v; hidden = None; element = None })
performed_of (Err t) = Err (refusal.Trapped t)

-- what is told of an operation of this number that was made under this control source
abbrev pub done_of : ℕ → Performed → Option ℕ → Done
done_of number p control = record {
  held = record { value = p.value; source = Some number };
  hidden = p.hidden;
  control = control;
  element = p.element;
}

-- why the run does not go on at this place, where an act has no value
abbrev pub stop_of : Refusal → Place → Stop
stop_of (refusal.Trapped t) place = stop.Ended (Trapped t place)
stop_of refusal.Memory place = stop.Memory

-- The act gave its value and had its effect, as the next operation; or it trapped, or found no memory, and nothing has changed.
abbrev pub Performs : Act → List Value → World → Result Performed Refusal → World → Type 0
Performs what values old (Ok p) new =
    (work what values old ≡ Ok p.value) × (hidden what values old ≡ p.hidden) × (touched what values old.memory ≡ p.element)
    × (new ≡ effect what old.made values old)
Performs what values old (Err (refusal.Trapped t)) new = (work what values old ≡ Err t) × (new ≡ old)
Performs what values old (Err refusal.Memory) new = new ≡ old

-- The call made the operation of the definition, whatever events came before: its event has the sources that were told. Or the run has
-- ended, or no memory was found, and nothing has changed.
abbrev pub Makes : Class → ℕ → Place → Act → List Read → World → Result Done Stop → World → Type 0
Makes class latency place what reads old (Ok done) new =
    (events : List Event) → operation class latency place what reads (with_events events old)
    ≡ Gives done.held (with_events (events ++ Op class latency (sources reads done.hidden done.control) place ∷ []) new)
Makes class latency place what reads old (Err (stop.Ended end)) new =
    ((events : List Event) → operation class latency place what reads (with_events events old) ≡ Ends end (with_events events old)) × (new ≡ old)
Makes class latency place what reads old (Err stop.Memory) new = new ≡ old

-- the bytes were written, or the trap is told; want of memory tells nothing
abbrev pub Writes : {A : Type 0} → Result (List ℕ) Trap → Result A Refusal → List ℕ → Type 0
Writes bytes (Ok done) written = bytes ≡ Ok written
Writes bytes (Err (refusal.Trapped t)) written = bytes ≡ Err t
Writes bytes (Err refusal.Memory) written = Unit {0}

-- a number of elements, but none that is further from 0 than 2^64
abbrev pub near : ℤ → ℤ
near n = if int_lt n (neg_ℤ (pos (2 ^ 64))) then neg_ℤ (pos (2 ^ 64)) else if int_lt (pos (2 ^ 64)) n then pos (2 ^ 64) else n
