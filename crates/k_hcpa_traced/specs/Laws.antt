-- Believed with a public law.
-- What each configuration of a run of valid code keeps: where its values came from, and bounds on what it counts.
use Rattle.std.specs.Prelude.{ℕ, ◌≡◌, ◌*◌, ◌<◌, ◌≤◌, List, length, slice_get, Some}
use Rattle.k_optab.specs.Events.{operations, SourcesAreEarlier, total_latency}
use Rattle.k_mem.specs.Memory.{Memory, IsLaidOut, live_elements}
use Rattle.k_world.specs.declared.act.Act.{Act}
use Rattle.k_world.specs.declared.value.Value.{Value}
use Rattle.k_world.specs.Acts.{touched}
use Rattle.k_world.specs.Worlds.{World}
use Rattle.k_code.specs.declared.code.Code.{Code}
use Rattle.k_code.specs.declared.instruction.Instr.{Instr}
use Rattle.k_code.specs.Runs.{run_of, world_of}
use Rattle.k_code.specs.Steps.{Configuration, Going}
use Rattle.k_code.specs.Valid.{IsValid}
use Rattle.k_hcpa_meaning.specs.Locations.{frames_of, widths}
use Rattle.k_hcpa_meaning.specs.Timed.{IsTraced}

-- each configuration of a run of valid code is traced
abbrev pub ConfigurationsAreTraced : Type 0
ConfigurationsAreTraced = (code : Code) → IsValid code → (input : List ℕ) (budget n : ℕ) (c : Configuration) → run_of code input budget n ≡ Going c → IsTraced code c

-- The operations among the events were made, each names earlier ones, they are no more than may be made, and each takes at most 10,000.
pub record IsBounded (budget : ℕ) (w : World) : Type 0 where
  pub made : length (operations w.events) ≡ w.made
  pub earlier : SourcesAreEarlier (operations w.events)
  pub few : w.made ≤ budget
  pub short : total_latency (operations w.events) ≤ w.made * 10000

-- so is each world of a run of valid code, whether it goes on or is over
abbrev pub WorldsAreBounded : Type 0
WorldsAreBounded = (code : Code) → IsValid code → (input : List ℕ) (budget n : ℕ) → IsBounded budget (world_of (run_of code input budget n))

-- the instruction that is next takes at most 10,000
abbrev pub InstructionsAreShort : Type 0
InstructionsAreShort = (code : Code) → IsValid code → (input : List ℕ) (budget n : ℕ) (c : Configuration) (i : Instr) → run_of code input budget n ≡ Going c
    → slice_get code.instrs c.pc ≡ Some i → i.latency ≤ 10000

-- the live calls have at most 2,097,152 registers together
abbrev pub RegistersAreFew : Type 0
RegistersAreFew = (code : Code) → IsValid code → (input : List ℕ) (budget n : ℕ) (c : Configuration) → run_of code input budget n ≡ Going c
    → widths code (frames_of c) ≤ 2097152

-- the element that an act reads or writes is a live one
abbrev pub TouchedElementsAreLive : Type 0
TouchedElementsAreLive = (what : Act) (values : List Value) (m : Memory) (element : ℕ) → IsLaidOut m → touched what values m ≡ Some element → element < live_elements m

-- so in runs of valid code its number is below 4,194,304
abbrev pub ElementsAreFew : Type 0
ElementsAreFew = (code : Code) → IsValid code → (input : List ℕ) (budget n : ℕ) (c : Configuration) (what : Act) (values : List Value) (element : ℕ)
    → run_of code input budget n ≡ Going c → touched what values c.world.memory ≡ Some element → element < 4194304
