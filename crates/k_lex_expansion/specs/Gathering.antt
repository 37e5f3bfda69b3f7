-- For contracts between crates: nobody has to believe it.
-- How the code reads the arguments of a call.
use Rattle.std.specs.Prelude.{◌≡◌, ℕ, suc, ◌+◌, ◌-◌, ◌≤◌, Bool, true, false, List, [], ◌∷◌, ◌++◌, Option, Some, None, Result, Ok, Err, length, map, option_map, drop}
use Rattle.k_num.specs.declared.memory.NoMemory.{NoMemory}
use Rattle.k_lex_expansion.specs.declared.tokens.Spelled.{Spelled}
use Rattle.k_lex_expansion.specs.declared.tokens.Listed.{Listed}
use Rattle.k_lex_expansion.specs.declared.calls.Gathering.{Gathering}
use Rattle.k_lex_expansion.specs.declared.calls.Closed.{Closed}
use Rattle.k_lex_expansion.specs.Listing.{unhidden}
use Rattle.k_lex_expansion.specs.Calls.{Gathered, gathered}

-- the `(` of a call was read
abbrev pub begun : Gathering
begun = record { complete = []; current = []; depth = 0 }

-- a call: its arguments, the names that its `)` hides, and how many tokens it takes behind its `(`
pub record Whole : Type 0 where
  pub arguments : List (List Listed)
  pub hidden : List (List ℕ)
  pub size : ℕ

-- so many tokens, which were read, and then the rest of a call
abbrev pub resumed : ℕ → Gathering → Gathered → Whole
resumed n g x = record { arguments = g.complete ++ (g.current ++ x.first) ∷ x.more; hidden = x.hidden; size = n + x.size }

-- what was read, of so many tokens, is a call with what is behind
abbrev pub call_with : ℕ → Gathering → List Listed → Option Whole
call_with n g ts = option_map (resumed n g) (gathered ts g.depth)

-- the arguments when the call ends
abbrev pub all_of : Gathering → List (List Listed)
all_of g = g.complete ++ g.current ∷ []

-- the call ends with the token, or goes on behind it
abbrev pub Feeds : Result Bool NoMemory → Gathering → Listed → Gathering → Type 0
Feeds (Ok true) old t new = (n : ℕ) (ts : List Listed) → call_with n old (t ∷ ts) ≡ Some (record { arguments = all_of new; hidden = t.hidden; size = n + 1 })
Feeds (Ok false) old t new = (n : ℕ) (ts : List Listed) → call_with n old (t ∷ ts) ≡ call_with (n + 1) new ts
Feeds (Err _) old t new = Unit {0}

-- the call ends within the list, or goes on behind it
abbrev pub GathersList : Result (Option (List (List ℕ))) NoMemory → List Listed → Gathering → List Listed → Gathering → Type 0
GathersList (Ok (Some hidden)) ts old left new =
    ((behind : List Listed) → call_with 0 old (ts ++ behind) ≡ Some (record { arguments = all_of new; hidden = hidden; size = length ts - length left }))
    × (left ≡ drop (length ts - length left) ts)
GathersList (Ok None) ts old left new = (left ≡ []) × ((behind : List Listed) → call_with 0 old (ts ++ behind) ≡ call_with (length ts) new behind)
GathersList (Err _) ts old left new = Unit {0}

-- the call ends within the source, with so many of its tokens, or it does not end; n tokens came before
abbrev pub GathersSource : Result (Option ℕ) NoMemory → List Spelled → Gathering → Gathering → Type 0
GathersSource (Ok (Some k)) source old new = ((n : ℕ) → call_with n old (map unhidden source) ≡ Some (record { arguments = all_of new; hidden = []; size = n + k })) × (k ≤ length source)
GathersSource (Ok None) source old new = (n : ℕ) → call_with n old (map unhidden source) ≡ None
GathersSource (Err _) source old new = Unit {0}

-- The call takes size tokens behind the first one of the list and the source: what is left of the list, and how many tokens of the source it takes.
pub record IsClosed (c : Closed) (old : List Listed) (source : List Spelled) (new : List Listed) : Type 0 where
  pub size : ℕ
  pub call : call_with 0 begun (drop 1 (old ++ map unhidden source)) ≡ Some (record { arguments = c.arguments; hidden = c.hidden; size = size })
  pub list : new ≡ drop (suc size) old
  pub taken : c.taken ≡ suc size - length old
  pub within : c.taken ≤ length source

-- the call ends, or does not
abbrev pub Gathers : Result (Option Closed) NoMemory → List Listed → List Spelled → List Listed → Type 0
Gathers (Ok (Some c)) old source new = IsClosed c old source new
Gathers (Ok None) old source new = call_with 0 begun (drop 1 (old ++ map unhidden source)) ≡ None
Gathers (Err _) old source new = Unit {0}
