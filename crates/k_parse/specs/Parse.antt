-- Believed with the theorem on the top call.
-- What a token list is read to: the one tree that it spells, or the refusal of a list that spells none within the limits.
use Rattle.std.specs.Prelude.{ℕ, ◌≡◌, ◌≤◌, ◌<◌, List, Result, Ok, Err}
use Rattle.k_parse_steps.specs.Types.{Token}
use Rattle.k_parse.specs.declared.fault.ParseFault.{ParseFault}
use Rattle.k_tree.specs.declared.tree.unit.Unit as source
use Rattle.k_tree.specs.Bare.{bare}
use Rattle.k_tree.specs.Count.{unit_count}
use Rattle.k_tree.specs.Nesting.{nesting}
use Rattle.k_tree.specs.Places.{Placed}
use Rattle.k_tree.specs.Ranked.{RankedUnit}
use Rattle.k_tree.specs.Spelling.{spelling}
use Rattle.k_parse.specs.declared.fault.ParseFault.TheVariants as fault
use Rattle.k_parse.specs.Beginnings.{IsFirstWrong, kinds}

-- how deep a tree may nest
abbrev pub nesting_limit : ℕ
nesting_limit = 200

-- how many nodes a tree may have
abbrev pub node_limit : ℕ
node_limit = 262144

-- the tree is one that the grammar gives, each of its nodes stands at its token, so that it spells the tokens, and it nests
-- within the limit (C17 6.5 to 6.9)
pub record IsTreeOf (tokens : List Token) (u : source.Unit) : Type 0 where
  pub ranked : RankedUnit u
  pub placed : Placed u tokens
  pub nests : nesting u ≤ nesting_limit

-- every tree that the grammar gives and that spells the tokens is this one, up to places
abbrev pub IsOnly : List Token → source.Unit → Type 0
IsOnly tokens u = (v : source.Unit) → RankedUnit v → spelling v ≡ kinds tokens → bare v ≡ bare u

-- no other tree that the grammar gives stands over the tokens
abbrev pub IsOne : List Token → source.Unit → Type 0
IsOne tokens u = (v : source.Unit) → RankedUnit v → Placed v tokens → v ≡ u

-- a list is refused at its first wrong token, or, where none is wrong, for the nodes of its tree
abbrev pub IsRefused : List Token → ParseFault → Type 0
IsRefused tokens fault.NodesMany = (u : source.Unit) × IsTreeOf tokens u × (node_limit < unit_count u)
IsRefused tokens f = IsFirstWrong nesting_limit tokens f

-- what a list is read to, but for want of memory
abbrev pub IsParse : List Token → Result source.Unit ParseFault → Type 0
IsParse tokens (Ok u) = IsTreeOf tokens u × (unit_count u ≤ node_limit)
IsParse tokens (Err f) = IsRefused tokens f
