-- For contracts between crates: nobody has to believe it.
-- What is seen of a control stack.
use Rattle.std.specs.Prelude.{◌≡◌, ℕ, ◌+◌, ◌-◌, Bool, List, [], ◌∷◌, ◌++◌, length, take, map}

-- the times of the current entry and of each saved one, newest last, one time for each live level; how many levels
-- were entered so far; and whether there is room for one entry more
pub record Stack : Type 0 where
  pub current : List ℕ
  pub saved : List (List ℕ)
  pub entries : ℕ
  pub room : Bool

-- each entry has a 0 more
abbrev pub level_entered : Stack → Stack
level_entered s = record s {
  current = s.current ++ 0 ∷ [];
  saved = map (λ times. times ++ 0 ∷ []) s.saved;
  entries = s.entries + 1;
}

-- the times without the last
abbrev pub without_last : List ℕ → List ℕ
without_last times = take (length times - 1) times

-- the last time of each entry is gone
abbrev pub level_left : Stack → Stack
level_left s = record s { current = without_last s.current; saved = map without_last s.saved }

-- no entry is saved, and no level is live
abbrev pub IsNew : Stack → Type 0
IsNew s = (s.current ≡ []) × (s.saved ≡ []) × (s.entries ≡ 0)
