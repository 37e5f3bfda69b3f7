-- Believed with the theorem on the top call.
-- What a store of named files is, and what a load and a save do.
use Rattle.std.specs.Prelude.{ℕ, ⊤, ◌≡◌, ◌≢◌, ◌<◌, ◌≤◌, ◌⊎◌, List, [], ◌∷◌, ◌++◌, length, Option, Some, None, Result, Ok, Err, Vec}
use Rattle.std.specs.declared.alloc.Global.{Global}
use Rattle.k_edge.specs.declared.files.LoadFault.{LoadFault}
use Rattle.k_edge.specs.declared.files.LoadFault.TheVariants as load
use Rattle.k_edge.specs.declared.files.SaveFault.{SaveFault}
use Rattle.k_edge.specs.declared.files.SaveFault.TheVariants as save
use Rattle.k_edge.specs.declared.request.Request.{Request}
use Rattle.k_edge.specs.declared.request.Request.TheVariants.{Load, Save}
use Rattle.k_edge.specs.Fault.{Rose}

-- how often each thing happened
pub record Counts : Type 0 where
  pub load_faults : ℕ
  pub save_faults : ℕ
  pub misses : ℕ
  pub longs : ℕ

-- what is known of a store of files
pub record FilesState : Type 0 where
  -- the content of each name, None where the name isn't held; or None where the store doesn't tell
  pub held : Option (List ℕ → Option (List ℕ))
  pub counts : Counts
  -- what was asked, in order
  pub requests : List Request

-- a store of which these were asked too, and which is else as before
abbrev pub after : List Request → FilesState → FilesState
after made old = record old { requests = old.requests ++ made }

-- the content of a name is this
abbrev pub Has : Option (List ℕ → Option (List ℕ)) → List ℕ → Option (List ℕ) → Type 0
Has None name content = ⊤
Has (Some held) name content = held name ≡ content

-- the content of a name is longer than the limit
abbrev pub HasLonger : Option (List ℕ → Option (List ℕ)) → List ℕ → ℕ → Type 0
HasLonger None name limit = ⊤
HasLonger (Some held) name limit = (bytes : List ℕ) × (held name ≡ Some bytes) × (limit < length bytes)

-- no memory was found: the request may have been made, and nothing else changed
abbrev pub IsShort : Request → FilesState → FilesState → Type 0
IsShort request old new = (new ≡ after (request ∷ []) old) ⊎ (new ≡ old)

-- what a load of a name answers, and what it leaves: the request is noted, no content changes, and of the counts only that of the answer
abbrev pub Loads : Result (Vec ℕ Global) LoadFault → List ℕ → ℕ → FilesState → FilesState → Type 0
Loads (Ok bytes) name limit old new = Has old.held name (Some bytes.items) × (length bytes.items ≤ limit) × (new ≡ after (Load name ∷ []) old)
Loads (Err load.Absent) name limit old new =
    Has old.held name None × Rose old.counts.misses new.counts.misses
    × (new ≡ record old { counts = record old.counts { misses = new.counts.misses }; requests = old.requests ++ Load name ∷ [] })
Loads (Err load.TooLong) name limit old new =
    HasLonger old.held name limit × Rose old.counts.longs new.counts.longs
    × (new ≡ record old { counts = record old.counts { longs = new.counts.longs }; requests = old.requests ++ Load name ∷ [] })
Loads (Err load.Failed) name limit old new =
    Rose old.counts.load_faults new.counts.load_faults
    × (new ≡ record old { counts = record old.counts { load_faults = new.counts.load_faults }; requests = old.requests ++ Load name ∷ [] })
Loads (Err load.Memory) name limit old new = IsShort (Load name) old new

-- every name but this one has the content that it had
abbrev pub KeepsOthers : Option (List ℕ → Option (List ℕ)) → List ℕ → Option (List ℕ → Option (List ℕ)) → Type 0
KeepsOthers None name new = new ≡ None
KeepsOthers (Some held) name new =
    (held' : List ℕ → Option (List ℕ)) × (new ≡ Some held') × ((other : List ℕ) → other ≢ name → held' other ≡ held other)

-- what a save of bytes under a name answers, and what it leaves: the request is noted, and no content changes where it failed
abbrev pub Saves : Result ⊤ SaveFault → List ℕ → List ℕ → FilesState → FilesState → Type 0
Saves (Ok done) name bytes old new =
    KeepsOthers old.held name new.held × Has new.held name (Some bytes) × (new.counts ≡ old.counts)
    × (new.requests ≡ old.requests ++ Save name ∷ [])
Saves (Err save.Failed) name bytes old new =
    Rose old.counts.save_faults new.counts.save_faults
    × (new ≡ record old { counts = record old.counts { save_faults = new.counts.save_faults }; requests = old.requests ++ Save name ∷ [] })
Saves (Err save.Memory) name bytes old new = IsShort (Save name) old new
