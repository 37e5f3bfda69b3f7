-- For contracts between crates: nobody has to believe it.
-- What is known of the adapters over the host: their counts and what was asked, and no content.
use Rattle.std.specs.Prelude.{ℕ, ⊤, ◌≤◌, Bool, true, false, List, length, take, Option, None, Result, Ok, Err}
use Rattle.std.specs.Io.KnownBytes.{Appends}
use Rattle.k_edge.specs.declared.sink.PutFault.{PutFault}
use Rattle.k_edge.specs.SourceWords.{SourceState}
use Rattle.k_edge.specs.SinkWords.{SinkState}
use Rattle.k_edge.specs.FilesWords.{FilesState}
use Rattle.k_edge.specs.declared.host.streams.StdSource.{StdSource}
use Rattle.k_edge.specs.declared.host.streams.StdSink.{StdSink}
use Rattle.k_edge.specs.declared.host.files.HostFiles.{HostFiles}

-- the reader under a source
abbrev pub reader_of : {R : Type 0} → StdSource R → R
reader_of s = s.inner

-- what is known of a source over a reader: its counts
abbrev pub std_source : {R : Type 0} → StdSource R → SourceState
std_source s = record { left = None; faults = s.faults; taken = s.taken; ended = s.ended }

-- the writer under a sink
abbrev pub writer_of : {W : Type 0} → StdSink W → W
writer_of s = s.inner

-- what is known of a sink over a writer: its count of faults
abbrev pub std_sink : {W : Type 0} → StdSink W → SinkState
std_sink s = record { written = None; faults = s.faults }

-- what is known of the files of the host: their counts, and what was asked
abbrev pub host_files : {R : Type 0} → HostFiles R → FilesState
host_files f = record {
  held = None;
  counts = record { load_faults = f.load_faults; save_faults = f.save_faults; misses = f.misses; longs = f.longs };
  requests = f.requests.items;
}

-- the writer holds a front of the piece more, where it tells what it holds
abbrev pub AppendsInPart : Option (List ℕ) → Option (List ℕ) → List ℕ → Type 0
AppendsInPart old new piece = (n : ℕ) × (n ≤ length piece) × Appends old new (take n piece)

-- what a put hands its writer: the whole piece where it is done, and never anything but a front of the piece
abbrev pub Hands : Result ⊤ PutFault → List ℕ → Option (List ℕ) → Option (List ℕ) → Type 0
Hands (Ok done) piece old new = Appends old new piece
Hands (Err fault) piece old new = AppendsInPart old new piece

-- whether the whole piece was written, and what was written of it
abbrev pub Writes : Bool → List ℕ → Option (List ℕ) → Option (List ℕ) → Type 0
Writes true piece old new = Appends old new piece
Writes false piece old new = AppendsInPart old new piece
