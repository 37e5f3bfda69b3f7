-- Believed with the theorem on the top call.
-- *Run*: a program's start, main and its end (C17 5.1.2.2).
use Rattle.std.specs.Prelude.{ℕ, ◌-◌, List, [], ◌∷◌, slice_get, Option, Some, None}
use Rattle.k_optab.specs.declared.event.Event.{Event}
use Rattle.k_ending.specs.declared.ending.End.{End}
use Rattle.k_ending.specs.declared.ending.End.TheVariants.{Returned}
use Rattle.k_ending.specs.declared.listing.Listing.{Listing}
use Rattle.k_types_meaning.specs.declared.tree.unit.TFunc.{TFunc}
use Rattle.k_types_meaning.specs.declared.tree.unit.TObject.{TObject}
use Rattle.k_types_meaning.specs.declared.tree.unit.TString.{TString}
use Rattle.k_mem.specs.declared.start.Start.TheVariants.{Zero}
use Rattle.k_world.specs.declared.value.Held.{Held}
use Rattle.k_world.specs.Limits.{call_limit}
pub use Rattle.k_world.specs.Values.{int_of, exit_of}
use Rattle.k_world.specs.Worlds.{fresh}
use Rattle.k_evaluation.specs.States.{Program, State, Outcome, Goes, Stops, Part, ◌>>=◌, gives}
use Rattle.k_evaluation.specs.Objects.{makes_object, makes_string, fills}
use Rattle.k_evaluation.specs.Calls.{runs, calls, entered}

-- a file object: the numbers with which elements of it begin, and zeros in the others (C17 6.7.9p10)
abbrev pub starts_object : TObject → Part (Unit {0})
starts_object o = makes_object o.place Zero o.elements >>= λ home. fills home o.first

-- the file objects, in text order
abbrev pub starts_objects : List TObject → Part (Unit {0})
starts_objects [] = gives tt
starts_objects (o ∷ os) = starts_object o >>= λ done. starts_objects os

-- the strings behind them, in text order
abbrev pub starts_strings : List TString → Part (Unit {0})
starts_strings [] = gives tt
starts_strings (t ∷ ts) = makes_string t.place t.bytes >>= λ home. starts_strings ts

-- main as the first live call, which no operation calls: as many more may be live at once as the limit allows beside it
abbrev pub runs_main : Program → Option TFunc → Part (Option Held)
runs_main program None s = Goes None s
runs_main program (Some f) s = runs program (calls (call_limit - 1) program) program.unit.main f (entered f [] s)

-- a whole run: the objects, the strings, main
unfoldable pub whole : Program → Part (Option Held)
whole program =
    starts_objects program.unit.objects >>= λ objects. starts_strings program.unit.strings >>= λ strings.
    runs_main program (slice_get program.unit.functions program.unit.main)

-- What a run leaves: its events, its output and its end.
pub record Run : Type 0 where
  pub events : List Event
  pub output : List ℕ
  pub end : End

-- what a run leaves, as its listing
abbrev pub listing_of : Run → Listing
listing_of r = record { events = r.events; output = r.output; end = r.end }

-- a run, by how main ended
abbrev pub ended : Outcome (Option Held) → Run
ended (Goes v s) = record { events = s.world.events; output = s.world.output; end = Returned (exit_of v) }
ended (Stops end w) = record { events = w.events; output = w.output; end = end }

-- before the run: no variable, and so many operations may be made
abbrev pub initial : List ℕ → ℕ → State
initial input budget = record { vars = []; world = fresh budget input }

-- THE RUN of a program on an input, in which at most so many operations are made
unfoldable pub run : Program → List ℕ → ℕ → Run
run program input budget = ended (whole program (initial input budget))
