-- Believed with a public law.
-- What holds of the programs that are made from a number.
use Rattle.std.specs.Prelude.{ℕ, ◌≡◌, ◌≤◌, List, [], Ok}
use Rattle.k_tree.specs.declared.tokens.Token.{Token}
use Rattle.k_tree.specs.declared.tree.unit.Unit as source
use Rattle.k_lex.specs.Tokens.{tokens}
use Rattle.k_parse.specs.Parse.{IsParse}
use Rattle.k_types_meaning.specs.Units.{faults}
use Rattle.k_gen.specs.Text.{program}

-- the bytes are a source: they have tokens, these a tree, and the tree has no fault in names and types
pub record IsSource (bytes : List ℕ) : Type 0 where
  -- its tokens
  pub list : List Token
  pub cut : tokens bytes ≡ Ok list
  -- its tree
  pub unit : source.Unit
  pub read : IsParse list (Ok unit)
  -- no fault in names and types
  pub faultless : faults unit ≡ []

-- each made program of at most 2,000 loops, from whatever number, is a source
abbrev pub MadeProgramsAreSources : Type 0
MadeProgramsAreSources = (number loops : ℕ) → loops ≤ 2000 → IsSource (program number loops)
