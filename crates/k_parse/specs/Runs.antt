-- Believed with a public law.
-- How a whole token list is read: to the tree at its end, or to the first token that can't stand.
use Rattle.std.specs.Prelude.{ℕ, cond, nat_le, List, [], ◌∷◌, Option, Some, None, Ok, Err}
use Rattle.std.specs.declared.result.Result.{Result}
use Rattle.k_parse_steps.specs.Types.{Place, Token, Sourced}
use Rattle.k_parse_steps.specs.declared.source.Source.{Source}
use Rattle.k_parse.specs.declared.fault.ParseFault.{ParseFault}
use Rattle.k_tree.specs.declared.tree.unit.Unit as source
use Rattle.k_parse_steps.specs.declared.turn.Turn.TheVariants as turn
use Rattle.k_parse.specs.declared.fault.ParseFault.TheVariants as fault
use Rattle.k_parse_steps.specs.Sources.{feed_source}

-- what comes of a list, where it has an end
abbrev pub Outcome : Type 0
Outcome = Option (Result source.Unit ParseFault)

-- what comes of a token: the source goes on, or nests too deep for the limit, or is done, or the token can't stand there
abbrev pub next : ℕ → Sourced → Place → (Source → Outcome) → Outcome
next limit (turn.Goes s reach) p go = cond (nat_le reach limit) (go s) (Some (Err (fault.TooDeep p)))
next limit (turn.Done u) p go = Some (Ok u)
next limit turn.Refused p go = Some (Err (fault.Syntax p))

-- the outcome of reading the rest of a list with this limit of levels, from what was read so far
unfoldable pub runs : ℕ → Source → List Token → Outcome
runs limit s [] = None
runs limit s (t ∷ ts) = next limit (feed_source s t) t.place (λ x. runs limit x ts)
