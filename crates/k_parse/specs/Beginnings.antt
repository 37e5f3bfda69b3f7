-- Believed with the theorem on the top call.
-- Which token of a list is the first wrong one.
use Rattle.std.specs.Prelude.{ℕ, ◌≡◌, ◌≤◌, List, [], ◌∷◌, ◌++◌, map}
use Rattle.k_parse_steps.specs.Types.{Token}
use Rattle.k_parse.specs.declared.fault.ParseFault.{ParseFault}
use Rattle.k_tree.specs.declared.tree.unit.Unit as source
use Rattle.k_tree.specs.Nesting.{nesting}
use Rattle.k_tree.specs.Ranked.{RankedUnit}
use Rattle.k_tree.specs.Spelling.{Spelled, spelling}
use Rattle.k_parse.specs.declared.fault.ParseFault.TheVariants as fault

-- what tokens are, without their places
abbrev pub kinds : List Token → Spelled
kinds tokens = map (λ t. t.what) tokens

-- these tokens begin a source: a tree that the grammar gives, of no greater nesting, spells a list that begins with them (C17 6.9)
pub record Begins (limit : ℕ) (tokens : List Token) : Type 0 where
  pub tree : source.Unit
  pub rest : Spelled
  pub ranked : RankedUnit tree
  pub within : nesting tree ≤ limit
  pub spelled : spelling tree ≡ kinds tokens ++ rest

-- a refusal at a token behind others has its place; Syntax says that these tokens with it begin no source of any nesting, and
-- TooDeep that they begin one of a greater nesting
abbrev pub IsRefusalAt : ParseFault → List Token → Token → Type 0
IsRefusalAt (fault.Syntax p) before t = (p ≡ t.place) × ((limit : ℕ) → Begins limit (before ++ t ∷ []) → ⊥)
IsRefusalAt (fault.TooDeep p) before t = (p ≡ t.place) × ((limit : ℕ) × Begins limit (before ++ t ∷ []))
IsRefusalAt _ before t = ⊥

-- the refusal is at the first token such that the tokens up to and with it begin no source within the limit: those before it begin one
pub record IsFirstWrong (limit : ℕ) (tokens : List Token) (f : ParseFault) : Type 0 where
  pub before : List Token
  pub wrong : Token
  pub after : List Token
  pub split : tokens ≡ before ++ wrong ∷ after
  pub begin : Begins limit before
  pub stop : Begins limit (before ++ wrong ∷ []) → ⊥
  pub refusal : IsRefusalAt f before wrong
