-- For contracts between crates: nobody has to believe it.
-- What contracts see of the sources, sinks and files in memory.
use Rattle.std.specs.Prelude.{ℕ, ⊤, ◌≡◌, Bool, true, false, List, [], ◌∷◌, Option, Some, None, Result, Err, Vec, nat_eq, if◌then◌else◌}
use Rattle.std.specs.declared.alloc.Global.{Global}
use Rattle.k_edge.specs.declared.sink.PutFault.{PutFault}
use Rattle.k_edge.specs.declared.sink.PutFault.TheVariants as put
use Rattle.k_edge.specs.declared.files.LoadFault.{LoadFault}
use Rattle.k_edge.specs.declared.files.LoadFault.TheVariants as load
use Rattle.k_edge.specs.declared.files.SaveFault.{SaveFault}
use Rattle.k_edge.specs.declared.files.SaveFault.TheVariants as save
use Rattle.std.specs.Cmp.Lexicographic.{pointwise}
use Rattle.k_edge.specs.Calls.{Schedule}
use Rattle.k_edge.specs.SourceWords.{SourceState}
use Rattle.k_edge.specs.SinkWords.{SinkState}
use Rattle.k_edge.specs.FilesWords.{FilesState}
use Rattle.k_edge.specs.declared.memory.files.File.{File}
use Rattle.k_edge.specs.declared.request.Request.{Request}

-- a source that never fails: the bytes left, how many were taken, and how many reads told the end
pub record SureBytes : Type 0 where
  pub left : List ℕ
  pub taken : ℕ
  pub ended : ℕ

-- what is known of a source that never fails
abbrev pub sure_source : SureBytes → SourceState
sure_source s = record { left = Some s.left; faults = 0; taken = s.taken; ended = s.ended }

-- a source that fails at listed calls
pub record MemBytes : Type 0 where
  pub left : List ℕ
  pub taken : ℕ
  pub ended : ℕ
  pub faults : ℕ
  pub calls : Schedule

-- what is known of a source that fails at listed calls
abbrev pub mem_source : MemBytes → SourceState
mem_source s = record { left = Some s.left; faults = s.faults; taken = s.taken; ended = s.ended }

-- a sink that fails at listed calls
pub record MemWritten : Type 0 where
  pub written : List ℕ
  pub faults : ℕ
  pub calls : Schedule

-- what is known of a sink that fails at listed calls
abbrev pub mem_sink : MemWritten → SinkState
mem_sink s = record { written = Some s.written; faults = s.faults }

-- files that never fail: the newest first, of which the first of a name counts; and what was asked
pub record SureHeld : Type 0 where
  pub files : List File
  pub misses : ℕ
  pub longs : ℕ
  pub requests : List Request

-- the content of a name
abbrev pub content_of : List File → List ℕ → Option (List ℕ)
content_of [] name = None
content_of (file ∷ files) name = if pointwise nat_eq file.name name then Some file.bytes else content_of files name

-- what is known of files that never fail
abbrev pub sure_files : SureHeld → FilesState
sure_files f = record {
  held = Some (content_of f.files);
  counts = record { load_faults = 0; save_faults = 0; misses = f.misses; longs = f.longs };
  requests = f.requests;
}

-- files that fail at listed calls
pub record MemHeld : Type 0 where
  pub held : SureHeld
  pub load_faults : ℕ
  pub save_faults : ℕ
  pub calls : Schedule

-- what is known of files that fail at listed calls
abbrev pub mem_files : MemHeld → FilesState
mem_files f = record {
  held = Some (content_of f.held.files);
  counts = record { load_faults = f.load_faults; save_faults = f.save_faults; misses = f.held.misses; longs = f.held.longs };
  requests = f.held.requests;
}

-- a put fails exactly where it is listed, and then writes nothing
abbrev pub PutFailsAsListed : Result ⊤ PutFault → Bool → List ℕ → List ℕ → Type 0
PutFailsAsListed (Err put.Failed) listed old new = (listed ≡ true) × (new ≡ old)
PutFailsAsListed _ listed old new = listed ≡ false

-- a load fails exactly where it is listed, unless there is no memory to note it
abbrev pub LoadFailsAsListed : Result (Vec ℕ Global) LoadFault → Bool → Type 0
LoadFailsAsListed (Err load.Failed) listed = listed ≡ true
LoadFailsAsListed (Err load.Memory) listed = ⊤
LoadFailsAsListed _ listed = listed ≡ false

-- a save fails exactly where it is listed, and then changes no file, unless there is no memory to note it
abbrev pub SaveFailsAsListed : Result ⊤ SaveFault → Bool → List File → List File → Type 0
SaveFailsAsListed (Err save.Failed) listed old new = (listed ≡ true) × (new ≡ old)
SaveFailsAsListed (Err save.Memory) listed old new = ⊤
SaveFailsAsListed _ listed old new = listed ≡ false
