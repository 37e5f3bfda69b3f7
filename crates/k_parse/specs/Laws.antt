-- Believed with a public law.
-- What is true of the reading of whole token lists, and of the answers that a list may have.
use Rattle.std.specs.Prelude.{ℕ, ◌≡◌, ◌≤◌, List, Result, map, Some, Ok, Err}
use Rattle.k_tree.specs.declared.tree.unit.Unit as source
use Rattle.k_tree.specs.Bare.{bare, bare_item}
use Rattle.k_tree.specs.Closed.{EndsOnce}
use Rattle.k_tree.specs.Nesting.{nesting}
use Rattle.k_tree.specs.Places.{Placed}
use Rattle.k_tree.specs.Ranked.{RankedUnit}
use Rattle.k_tree.specs.Spelling.{spelling}
use Rattle.k_parse_steps.specs.Types.{Token}
use Rattle.k_parse_steps.specs.Sources.{begin_source}
use Rattle.k_parse.specs.declared.fault.ParseFault.{ParseFault}
use Rattle.k_parse.specs.Beginnings.{IsFirstWrong}
use Rattle.k_parse.specs.Runs.{runs}
use Rattle.k_parse.specs.Parse.{IsParse}

-- a token list has one answer at most: one tree, or one refusal
abbrev pub OneAnswer : Type 0
OneAnswer = (tokens : List Token) (x y : Result source.Unit ParseFault) → IsParse tokens x → IsParse tokens y → x ≡ y

-- a tree that a list is read to is one that the grammar gives, stands over the list, and is within the limit of nesting (C17 6.5 to 6.9)
abbrev pub TreesReadAreRanked : Type 0
TreesReadAreRanked = (limit : ℕ) (tokens : List Token) (u : source.Unit) → EndsOnce tokens → runs limit begin_source tokens ≡ Some (Ok u)
    → RankedUnit u × Placed u tokens × (nesting u ≤ limit)

-- tokens that spell a tree that the grammar gives, within the limit of nesting, are read to that tree up to places
abbrev pub RankedTreesAreRead : Type 0
RankedTreesAreRead = (limit : ℕ) (u : source.Unit) (tokens : List Token) → RankedUnit u → nesting u ≤ limit → map (λ t. t.what) tokens ≡ spelling u
    → (v : source.Unit) × (runs limit begin_source tokens ≡ Some (Ok v)) × (map bare_item v.items ≡ map bare_item u.items)

-- two trees of sources that the grammar gives and that have one spelling are equal up to places
abbrev pub OneTreePerSpelling : Type 0
OneTreePerSpelling = (u v : source.Unit) → RankedUnit u → RankedUnit v → spelling u ≡ spelling v → bare u ≡ bare v

-- a list that is refused is refused at its first wrong token: the first with which the tokens so far begin no source within the limit of nesting
abbrev pub RefusalsAreFirstWrong : Type 0
RefusalsAreFirstWrong = (limit : ℕ) (tokens : List Token) (f : ParseFault) → runs limit begin_source tokens ≡ Some (Err f) → IsFirstWrong limit tokens f
