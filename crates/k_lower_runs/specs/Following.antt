-- Believed with a public law.
-- In which words a piece of code does what a part of *Evaluation* says.
use Rattle.std.specs.Prelude.{map, ℕ, ◌≡◌, ◌+◌, ◌-◌, ◌<◌, ◌≤◌, List, [], ◌∷◌, length, slice_get, Option, Some}
use Rattle.k_ending.specs.declared.ending.End.{End}
use Rattle.k_mem.specs.Memory.{Object}
use Rattle.k_world.specs.Limits.{call_limit}
use Rattle.k_world.specs.Worlds.{World}
use Rattle.k_world.specs.declared.value.Held.{Held}
use Rattle.k_code.specs.Runs.{steps, world_of}
use Rattle.k_code.specs.Steps.{Configuration, Going, Over, Run, Waiting}
use Rattle.k_code.specs.declared.code.Code.{Code}
use Rattle.k_code.specs.declared.instruction.Instr.{Instr}
use Rattle.k_evaluation_control.specs.Laws.{IsTidy}
use Rattle.k_evaluation.specs.States.{Goes, Outcome, Part, State, Stops, held_in}
use Rattle.k_lower_code.specs.Pieces.{Piece}

-- what registers hold
abbrev pub Registers : Type 0
Registers = ℕ → Option Held

-- What stays the same of a call while an expression of it is evaluated: its function, the control sources that it has saved, its open regions,
-- the objects that were live before it, and the calls that wait.
pub record Site : Type 0 where
  pub func : ℕ
  pub saved : List (Option ℕ)
  pub regions : ℕ
  pub base : ℕ
  pub waiting : List Waiting

-- the configuration of a call at an instruction, with these registers and this world
abbrev pub at : Site → ℕ → Registers → World → Configuration
at site pc registers w = record {
  pc = pc;
  frame = record { func = site.func; registers = registers; saved = site.saved; regions = site.regions; base = site.base };
  waiting = site.waiting;
  world = w;
}

-- how many calls are live where so many more may be
abbrev pub live_at : ℕ → ℕ
live_at deep = call_limit - deep

-- the variables, so many, stand in the first registers
pub record Agrees (count : ℕ) (s : State) (registers : Registers) : Type 0 where
  pub length_is : length s.vars ≡ count
  pub hold : (k : ℕ) → k < count → registers k ≡ held_in s k

-- so it is before a part of a call under which so many more may be live
abbrev pub Begins : ℕ → ℕ → Site → State → Registers → Type 0
Begins deep count site s registers = Agrees count s registers × IsTidy (live_at deep) s.world

-- the temporaries below a register are as before
abbrev pub Keeps : ℕ → ℕ → Registers → Registers → Type 0
Keeps count r old new = (k : ℕ) → count ≤ k → k < r → new k ≡ old k

-- A run has gone on: the live objects have the numbers that they had, the calls are as before, no operation is given back, and a tidy world
-- is tidy.
pub record GoesOn (before after : World) : Type 0 where
  pub numbers : map (λ (o : Object). o.number) after.memory.live ≡ map (λ (o : Object). o.number) before.memory.live
  pub calls : after.calls ≡ before.calls
  pub size : after.size ≡ before.size
  pub left : after.left ≤ before.left
  pub tidy : (live : ℕ) → IsTidy live before → IsTidy live after

module _ (code : Code) where
  -- the code has these instructions from this number on
  abbrev pub HasAt : ℕ → List Instr → Type 0
  HasAt first [] = Unit {0}
  HasAt first (i ∷ instrs) = (slice_get code.instrs first ≡ Some i) × HasAt (first + 1) instrs

  -- some steps lead from one run to the other
  abbrev pub Reaches : Run → Run → Type 0
  Reaches from to = (count : ℕ) × (steps code count from ≡ to)

  -- The run ends so, with the events, the output and the deeds of this world: where it ends by a function's end, objects that *Evaluation* keeps are dead.
  pub record EndsSo (from : Run) (end : End) (w : World) : Type 0 where
    pub last : World
    pub reaches : Reaches from (Over end last)
    pub events : last.events ≡ w.events
    pub output : last.output ≡ w.output
    pub deeds : last.deeds ≡ w.deeds

  module _ (deep count : ℕ) where
    -- Where a part of a run leads to: it goes on at an instruction, with registers that agree with the state and of which those below this one are
    -- kept, and of which this is so beside what was given; or the run ends.
    abbrev pub Leads : {A : Type 0} → Site → Run → ℕ → ℕ → Registers → (A → Registers → Type 0) → Outcome A → Type 0
    Leads site from next r old V (Goes a s) =
        (new : Registers) × Reaches from (Going (at site next new s.world)) × Agrees count s new × Keeps count r old new × V a new
        × GoesOn (world_of from) s.world
    Leads site from next r old V (Stops end w) = EndsSo from end w

    -- A PIECE FOLLOWS A PART, with temporaries from this register on: where the code has the piece, and this is so of the registers before it, it
    -- leads where the part does, and that is so of what both give.
    abbrev pub Follows : {A B : Type 0} → ℕ → (Registers → Type 0) → Part A → Piece B → (A → B → Registers → Type 0) → Type 0
    Follows r P part piece V =
        (site : Site) (first : ℕ) (s : State) (registers : Registers) → HasAt first (piece.code first) → Begins deep count site s registers → P registers
        → Leads site (Going (at site first registers s.world)) (first + piece.size) r registers (λ a new. V a piece.gives new) (part s)
