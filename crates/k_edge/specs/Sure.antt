-- Believed with a public law.
-- Where a count of faults is the constant 0, nothing is answered that blames the outside.
use Rattle.std.specs.Prelude.{ℕ, ⊤, ◌≡◌, ◌≢◌, List, Result, Err, IsOk, Vec}
use Rattle.std.specs.declared.alloc.Global.{Global}
use Rattle.k_edge.specs.declared.source.Failed.{Failed}
use Rattle.k_edge.specs.declared.sink.PutFault.{PutFault}
use Rattle.k_edge.specs.declared.sink.PutFault.TheVariants as put
use Rattle.k_edge.specs.declared.files.LoadFault.{LoadFault}
use Rattle.k_edge.specs.declared.files.LoadFault.TheVariants as load
use Rattle.k_edge.specs.declared.files.SaveFault.{SaveFault}
use Rattle.k_edge.specs.declared.files.SaveFault.TheVariants as save
use Rattle.k_edge.specs.SourceWords.{SourceState, Reads}
use Rattle.k_edge.specs.SinkWords.{SinkState, Puts}
use Rattle.k_edge.specs.FilesWords.{FilesState, Loads, Saves}

-- the count is 0 before and after
abbrev pub Stays0 : ℕ → ℕ → Type 0
Stays0 old new = (old ≡ 0) × (new ≡ 0)

-- every read succeeds
abbrev pub SureReads : Type 0
SureReads =
    (answer : Result ℕ Failed) (old_buffer buffer : List ℕ) (old new : SourceState)
    → Stays0 old.faults new.faults → Reads answer old_buffer buffer old new → IsOk answer

-- no put answers a fault
abbrev pub SurePuts : Type 0
SurePuts =
    (answer : Result ⊤ PutFault) (piece : List ℕ) (old new : SinkState)
    → Stays0 old.faults new.faults → Puts answer piece old new → answer ≢ Err put.Failed

-- no load answers a fault
abbrev pub SureLoads : Type 0
SureLoads =
    (answer : Result (Vec ℕ Global) LoadFault) (name : List ℕ) (limit : ℕ) (old new : FilesState)
    → Stays0 old.counts.load_faults new.counts.load_faults → Loads answer name limit old new → answer ≢ Err load.Failed

-- no save answers a fault
abbrev pub SureSaves : Type 0
SureSaves =
    (answer : Result ⊤ SaveFault) (name bytes : List ℕ) (old new : FilesState)
    → Stays0 old.counts.save_faults new.counts.save_faults → Saves answer name bytes old new → answer ≢ Err save.Failed
