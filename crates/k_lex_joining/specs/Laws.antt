-- Believed with a public law.
-- What holds of the end of a source's tokens.
use Rattle.std.specs.Prelude.{◌≡◌, ℕ, ◌≤◌, List, Ok, length}
use Rattle.k_num.specs.declared.place.Place.{Place}
use Rattle.k_lex.specs.declared.lines.Limits.{Limits}
use Rattle.k_lex.specs.Lines.{State}
use Rattle.k_lex.specs.Tokens.{first_place, nothing_read, run, tokens_within}
use Rattle.k_lex_joining.specs.Ending.{ended}

-- where the pieces of a source that is not too long are read to its end, its tokens are those that were read, ended so
abbrev pub StatedEndsSo : Type 0
StatedEndsSo = (limits : Limits) (source : List ℕ) (s : State) (place : Place) → length source ≤ limits.source
    → run 0 first_place (nothing_read limits) source ≡ Ok (s, place) → tokens_within limits source ≡ Ok (ended s.tokens source)
