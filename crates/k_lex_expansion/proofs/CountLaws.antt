-- What is made is counted.
use Rattle.std.proofs.Common.{◌≡◌, ℕ, ◌+◌, ◌≤◌, ◌<◌, Bool, List, Some, None, Result, Ok, Err, if◌then◌else◌, length, map, ap, sym, ◌∙◌, arith}
use Rattle.std.proofs.lemmas.Bool.{le-leb, lt-leb}
use Rattle.k_lex_expansion.specs.declared.tokens.Listed.{Listed}
use Rattle.k_lex_expansion.specs.declared.failure.Failure.{Failure}
use Rattle.k_lex_expansion.specs.declared.failure.Failure.TheVariants as f
use Rattle.k_lex_expansion.specs.Listing.{hide, in_place}
use Rattle.k_lex_expansion.specs.Expansion.{Source, Work}
use Rattle.k_lex_expansion.specs.Uses.{Puts}

-- the work, if it is within the limit
abbrev chosen : Work → Bool → Result Work Failure
chosen w b = if b then Ok w else Err f.TokensMany

abbrev work : List Listed → Source → ℕ → Work
work list source made = record { list = list; source = source; made = made }

abbrev done : List Listed → Source → ℕ → Result Work Failure
done list source made = Ok (work list source made)

-- within the limit
pub puts_ok : (limit : ℕ) (names : List (List ℕ)) (spaced : Bool) (ts old : List Listed) (made : ℕ) (new : List Listed) (total : ℕ)
    → total ≡ made + (1 + length ts) → total ≤ limit → new ≡ in_place spaced (map (hide names) ts) old
    → Puts (Ok None) limit names spaced (Some ts) old made new total
puts_ok limit names spaced ts old made new total is within new_is source =
    let fits : made + (1 + length ts) ≤ limit = omega (arith, is, within) in
    ap (chosen (work (in_place spaced (map (hide names) ts) old) source (made + (1 + length ts)))) (le-leb (made + (1 + length ts)) limit fits)
    ∙ ap (λ (list : List Listed). done list source (made + (1 + length ts))) (sym new_is)
    ∙ ap (done new source) (sym is)

-- beyond it
pub puts_many : (limit : ℕ) (names : List (List ℕ)) (spaced : Bool) (ts old : List Listed) (made : ℕ) (new : List Listed) (total : ℕ)
    → limit < made + (1 + length ts) → Puts (Ok (Some f.TokensMany)) limit names spaced (Some ts) old made new total
puts_many limit names spaced ts old made new total beyond source =
    ap (chosen (work (in_place spaced (map (hide names) ts) old) source (made + (1 + length ts)))) (lt-leb (made + (1 + length ts)) limit beyond)
