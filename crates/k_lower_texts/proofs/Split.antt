-- A property of all tokens of pieces that stand in a row, and between commas.
use Rattle.std.proofs.Common.{List, [], ◌∷◌}
use Rattle.k_tree.specs.declared.tokens.TokenKind.{TokenKind}
use Rattle.k_tree.specs.Spelling.{Spelled, behind_commas, in_row, with_commas}
use Rattle.k_types_meaning.proofs.Fine.{AllOf}
use Rattle.k_lower_fits.proofs.Split.{front, behind}

module _ (P : TokenKind → Type 0) where
  -- each of these pieces has it
  abbrev pub Each : List Spelled → Type 0
  Each pieces = AllOf (λ (piece : Spelled). AllOf P piece) pieces

  behind_each : (pieces : List Spelled) → AllOf P (behind_commas pieces) → Each pieces
  behind_each [] h = tt
  behind_each (piece ∷ pieces) h = (front P piece (behind_commas pieces) h.1, behind_each pieces (behind P piece (behind_commas pieces) h.1))

  pub commas_each : (pieces : List Spelled) → AllOf P (with_commas pieces) → Each pieces
  commas_each [] h = tt
  commas_each (piece ∷ pieces) h = (front P piece (behind_commas pieces) h, behind_each pieces (behind P piece (behind_commas pieces) h))

  pub row_each : (pieces : List Spelled) → AllOf P (in_row pieces) → Each pieces
  row_each [] h = tt
  row_each (piece ∷ pieces) h = (front P piece (in_row pieces) h, row_each pieces (behind P piece (in_row pieces) h))
