-- For contracts between crates: nobody has to believe it.
-- The calls of an object in memory are numbered, and a list says which of them fail.
use Rattle.std.specs.Prelude.{ℕ, ◌+◌, ◌-◌, ◌^◌, ◌==◌, Bool, List, min}
use Rattle.std.specs.List.{list_any}

-- the number of the next call, from 0, and the numbers of the calls that fail
pub record Schedule : Type 0 where
  pub next : ℕ
  pub failing : List ℕ

-- the next call is listed
abbrev pub next_fails : Schedule → Bool
next_fails s = list_any (λ number. number == s.next) s.failing

-- the numbering goes on, and stands still at the greatest number of 64 bits
abbrev pub after_call : Schedule → Schedule
after_call s = record s { next = min (s.next + 1) (2 ^ 64 - 1) }
