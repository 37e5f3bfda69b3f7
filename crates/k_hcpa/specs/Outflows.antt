-- For contracts between crates: nobody has to believe it.
-- Output on its way to a sink: what becomes of bytes that are handed on.
use Rattle.std.specs.Prelude.{ℕ, ⊤, ◌≡◌, ◌≢◌, ◌+◌, ◌<◌, ◌≤◌, ◌⊎◌, List, [], ◌++◌, length, Result, Ok, Err}
use Rattle.k_edge.specs.Fault.{Rose}
use Rattle.k_edge.specs.SinkWords.{SinkState, Grows, GrowsInPart}
use Rattle.k_hcpa.specs.Profiles.{AreWholePieces}
use Rattle.k_hcpa.specs.declared.output.Outflow.{Outflow}
use Rattle.k_hcpa.specs.declared.profile.Profile.{Profile}
use Rattle.k_hcpa.specs.declared.profile.RunFault.{RunFault}
use Rattle.k_hcpa.specs.declared.profile.RunFault.TheVariants as fault

-- the sink has grown by a prefix of these bytes, and this is why not by all
abbrev pub WasCut : RunFault → List ℕ → SinkState → SinkState → Type 0
WasCut fault.Write bytes before behind = (bytes ≢ []) × GrowsInPart before.written bytes behind.written × Rose before.faults behind.faults
WasCut fault.Memory bytes before behind = GrowsInPart before.written bytes behind.written × (behind.faults ≡ before.faults)

-- a piece was put, or was cut short
abbrev pub PutsPiece : Result ⊤ RunFault → List ℕ → SinkState → SinkState → Type 0
PutsPiece (Ok done) piece before behind = Grows before.written piece behind.written × (behind.faults ≡ before.faults)
PutsPiece (Err why) piece before behind = WasCut why piece before behind

-- These bytes came behind those that were held: so many of all were put, and the others are held.
pub record AreMoved (old : Outflow) (bytes : List ℕ) (new : Outflow) (before behind : SinkState) : Type 0 where
  pub piece : List ℕ
  pub grows : Grows before.written piece behind.written
  pub faults : behind.faults ≡ before.faults
  pub whole : piece ++ new.held.items ≡ old.held.items ++ bytes
  pub counted : new.put ≡ old.put + length piece

-- all that is held with these bytes was put, or was cut short
abbrev pub Fills : Outflow → List ℕ → Result ⊤ RunFault → Outflow → SinkState → SinkState → Type 0
Fills old bytes (Ok done) new before behind = AreMoved old bytes new before behind × (new.held.items ≡ [])
Fills old bytes (Err why) new before behind = WasCut why (old.held.items ++ bytes) before behind

-- where nothing is held, nothing was held before either, and nothing was put
abbrev pub KeepsLast : Outflow → List ℕ → List ℕ → Type 0
KeepsLast old piece held = held ≡ [] → (piece ≡ []) × (old.held.items ≡ [])

-- whole pieces were put, but not the last byte, and a piece or less is held; or it was cut short
abbrev pub HandsOn : Outflow → List ℕ → Result ⊤ RunFault → Outflow → SinkState → SinkState → Type 0
HandsOn old bytes (Ok done) new before behind =
    (moved : AreMoved old bytes new before behind) × (length new.held.items ≤ 65536) × KeepsLast old moved.piece new.held.items × AreWholePieces moved.piece
HandsOn old bytes (Err why) new before behind = WasCut why (old.held.items ++ bytes) before behind

-- the rest of a run's output was put where it fills a piece, or was cut short
abbrev pub PutsFull : Profile → Result Profile RunFault → SinkState → SinkState → Type 0
PutsFull old (Ok p) before behind =
    ((length old.rest < 65536) × (p ≡ old) × (behind ≡ before))
    ⊎ ((65536 ≤ length old.rest) × (p ≡ record old { rest = [] }) × Grows before.written old.rest behind.written × (behind.faults ≡ before.faults))
PutsFull old (Err why) before behind = WasCut why old.rest before behind
