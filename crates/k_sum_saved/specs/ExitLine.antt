-- For contracts between crates: nobody has to believe it.
-- How the line of an exit value is read, by structure. What is read so was spelled so, and what is spelled so is read (proofs/OneReading).
use Rattle.std.specs.Prelude.{ℕ, List, Option, Some, codes}
use Rattle.k_scan.specs.Numbers.{number_at, signed_at}
use Rattle.k_scan.specs.Pieces.{word_at}
use Rattle.k_dict_saved.specs.Syntax.{◌>>=◌}
use Rattle.k_sum.specs.declared.exits.Exit.{Exit}

-- the line of an exit value
unfoldable pub exit_line_at : List ℕ → Option (Exit × List ℕ)
exit_line_at text =
    signed_at text >>= λ value. word_at (codes " ") value.1 >>= λ rest. number_at rest >>= λ runs. word_at (codes "\n") runs.1 >>= λ rest.
    Some (record { value = value.0; runs = runs.0 }, rest)
