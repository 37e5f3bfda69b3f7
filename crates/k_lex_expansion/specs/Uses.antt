-- For contracts between crates: nobody has to believe it.
-- How the code puts a macro's body in the place of a use.
use Rattle.std.specs.Prelude.{◌≡◌, ℕ, Bool, List, Option, Some, None, Result, Ok, Err}
use Rattle.k_num.specs.declared.memory.NoMemory.{NoMemory}
use Rattle.k_lex_expansion.specs.declared.tokens.Listed.{Listed}
use Rattle.k_lex_expansion.specs.declared.failure.Failure.{Failure}
use Rattle.k_lex_expansion.specs.Expansion.{Source, put_in}

-- the body took the place of a use, or failed to, whatever the source is
abbrev pub Puts : Result (Option Failure) NoMemory → ℕ → List (List ℕ) → Bool → Option (List Listed) → List Listed → ℕ → List Listed → ℕ → Type 0
Puts (Ok None) limit names spaced body old made new total =
    (source : Source) → put_in limit names spaced body (record { list = old; source = source; made = made }) ≡ Ok (record { list = new; source = source; made = total })
Puts (Ok (Some failure)) limit names spaced body old made new total =
    (source : Source) → put_in limit names spaced body (record { list = old; source = source; made = made }) ≡ Err failure
Puts (Err _) limit names spaced body old made new total = Unit {0}
