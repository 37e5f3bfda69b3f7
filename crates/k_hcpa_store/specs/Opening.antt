-- For contracts between crates: nobody has to believe it.
-- How a run begins: the objects of a program are made.
use Rattle.std.specs.Prelude.{◌≡◌, List, [], length, replicate, Option, Some, None, Result, Ok, Err, ⊤}
use Rattle.k_num.specs.declared.place.Place.{Place}
use Rattle.k_ending.specs.declared.ending.End.TheVariants.{Trapped}
use Rattle.k_ending.specs.declared.ending.Trap.TheVariants.{MemoryLimit}
use Rattle.k_world.specs.declared.answer.Stop.{Stop}
use Rattle.k_world.specs.declared.answer.Stop.TheVariants as stop
use Rattle.k_world.specs.Worlds.{World}
use Rattle.k_code.specs.declared.code.Code.{Code}
use Rattle.k_code.specs.declared.code.CodeFunc.{CodeFunc}
use Rattle.k_code.specs.declared.code.CodeObject.{CodeObject}
use Rattle.k_code.specs.Runs.{with_objects}
use Rattle.k_code.specs.Steps.{Run, Over}
use Rattle.k_hcpa_store.specs.Kept.{Kept}

-- an object was made, or there was no room for it
abbrev pub MakesObject : Place → Option World → World → Result ⊤ Stop → World → Type 0
MakesObject place made old (Ok done) new = made ≡ Some new
MakesObject place made old (Err (stop.Ended end)) new = (made ≡ None) × (end ≡ Trapped MemoryLimit place) × (new ≡ old)
MakesObject place made old (Err stop.Memory) new = Unit {0}

-- all these objects were made, whatever comes then, or the run ends where there was no room for one
abbrev pub OpensAll : List CodeObject → World → Result ⊤ Stop → World → Type 0
OpensAll objects old (Ok done) new = (on : World → Run) → with_objects objects on old ≡ on new
OpensAll objects old (Err (stop.Ended end)) new = (on : World → Run) → with_objects objects on old ≡ Over end new
OpensAll objects old (Err stop.Memory) new = Unit {0}

-- the store of main's call, as it begins
abbrev pub begins : Code → CodeFunc → World → Kept
begins code f w = record {
  code = code;
  pc = f.entry;
  call = record { func = code.main; first = 0; saved = 0; regions = 0; base = length w.memory.live };
  waiting = [];
  registers = replicate f.registers None;
  saved = [];
  world = record w { calls = 1; size = f.size };
}
