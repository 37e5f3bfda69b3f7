-- Believed with the theorem on the top call.
-- How an operation is made. Evaluation and flat code make none in any other way.
use Rattle.std.specs.Prelude.{ℕ, ◌+◌, ◌-◌, nat_eq, if◌then◌else◌, List, [], ◌∷◌, ◌++◌, Some, Ok, Err}
use Rattle.k_num.specs.declared.place.Place.{Place}
use Rattle.k_optab.specs.declared.class.Class.{Class}
use Rattle.k_optab.specs.declared.event.Event.{Event}
use Rattle.k_optab.specs.declared.event.Event.TheVariants.{Op}
use Rattle.k_ending.specs.declared.ending.End.{End}
use Rattle.k_ending.specs.declared.ending.End.TheVariants.{Trapped, OutOfSteps}
use Rattle.k_ending.specs.declared.ending.Trap.TheVariants.{Uninit}
use Rattle.k_world.specs.declared.act.Act.{Act}
use Rattle.k_world.specs.declared.value.Held.{Held}
use Rattle.k_world.specs.declared.value.Read.{Read}
use Rattle.k_world.specs.Acts.{Given, work, effect, hidden}
use Rattle.k_world.specs.Deeds.{deed, deeds_behind}
use Rattle.k_world.specs.Operands.{are_set, values_of, sources}
use Rattle.k_world.specs.Worlds.{World}

-- the event of an operation that is made with these operands
abbrev pub event_of : Class → ℕ → Place → Act → List Read → World → Event
event_of class latency place act reads w = Op class latency (sources reads (hidden act (values_of reads) w) w.control) place

-- an operation was made with these operands, and where it is told what operations do, so is what this one does
abbrev pub counted : Class → ℕ → Place → Act → List Read → World → World
counted class latency place act reads w = record w {
  events = w.events ++ event_of class latency place act reads w ∷ [];
  made = w.made + 1;
  left = w.left - 1;
  deeds = deeds_behind w.telling w.deeds (deed act reads (hidden act (values_of reads) w) w.control (work act (values_of reads) w));
}

-- how an operation goes: it gives a value, or the run ends before it is made
pub data Made : Type 0 where
  Gives : Held → World → Made
  Ends : End → World → Made

-- the act has a value, which has the operation's own number as its source; or it traps
abbrev pub acted : Class → ℕ → Place → Act → List Read → World → Given → Made
acted class latency place act reads w (Ok v) =
    Gives (record { value = v; source = Some w.made }) (effect act w.made (values_of reads) (counted class latency place act reads w))
acted class latency place act reads w (Err t) = Ends (Trapped t place) w

-- An operation: the run ends where no operation is left; else it traps where an operand is not set; else it traps as its act does, or
-- has the act's value and effect.
unfoldable pub operation : Class → ℕ → Place → Act → List Read → World → Made
operation class latency place act reads w =
    if nat_eq w.left 0 then Ends OutOfSteps w
    else if are_set reads then acted class latency place act reads w (work act (values_of reads) w)
    else Ends (Trapped Uninit place) w
