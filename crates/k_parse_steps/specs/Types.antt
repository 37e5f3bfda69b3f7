-- Believed with the theorem on the top call.
-- The types of tokens, trees and states, which the definitions and the proofs bring in from here.
use Rattle.std.specs.Prelude.{List, Option}
use Rattle.k_tree.specs.declared.tree.unit.Unit as source
pub use Rattle.k_num.specs.declared.place.Place.{Place}
pub use Rattle.k_tree.specs.declared.tokens.Token.{Token}
pub use Rattle.k_tree.specs.declared.tokens.TokenKind.{TokenKind}
pub use Rattle.k_tree.specs.declared.tokens.mark.Mark.{Mark}
pub use Rattle.k_tree.specs.declared.tokens.word.Word.{Word}
pub use Rattle.k_tree.specs.declared.tree.declaration.Declarator.{Declarator}
pub use Rattle.k_tree.specs.declared.tree.declaration.Init.{Init}
pub use Rattle.k_tree.specs.declared.tree.declaration.Param.{Param}
pub use Rattle.k_tree.specs.declared.tree.declaration.Params.{Params}
pub use Rattle.k_tree.specs.declared.tree.expression.Expr.{Expr}
pub use Rattle.k_tree.specs.declared.tree.statement.First.{First}
pub use Rattle.k_tree.specs.declared.tree.statement.Part.{Part}
pub use Rattle.k_tree.specs.declared.tree.statement.Stmt.{Stmt}
pub use Rattle.k_tree.specs.declared.tree.unit.Head.{Head}
pub use Rattle.k_tree.specs.declared.tree.unit.Item.{Item}
pub use Rattle.k_parse_steps.specs.declared.declaration.Declaration.{Declaration}
pub use Rattle.k_parse_steps.specs.declared.declaration.DeclarationStage.{DeclarationStage}
pub use Rattle.k_parse_steps.specs.declared.declaration.Front.{Front}
pub use Rattle.k_parse_steps.specs.declared.declaration.initialiser.After.{After}
pub use Rattle.k_parse_steps.specs.declared.declaration.initialiser.Brace.{Brace}
pub use Rattle.k_parse_steps.specs.declared.declaration.initialiser.Opened.{Opened}
pub use Rattle.k_parse_steps.specs.declared.expression.ExpressionStage.{ExpressionStage}
pub use Rattle.k_parse_steps.specs.declared.expression.Open.{Open}
pub use Rattle.k_parse_steps.specs.declared.expression.Reading.{Reading}
pub use Rattle.k_parse_steps.specs.declared.expression.Site.{Site}
pub use Rattle.k_parse_steps.specs.declared.expression.Term.{Term}
pub use Rattle.k_parse_steps.specs.declared.expression.call.Called.{Called}
pub use Rattle.k_parse_steps.specs.declared.expression.plug.Plugged.{Plugged}
pub use Rattle.k_parse_steps.specs.declared.operators.Binding.{Binding}
pub use Rattle.k_parse_steps.specs.declared.parameter.ParameterStage.{ParameterStage}
pub use Rattle.k_parse_steps.specs.declared.parameter.Parameters.{Parameters}
pub use Rattle.k_parse_steps.specs.declared.reading.Closer.{Closer}
pub use Rattle.k_parse_steps.specs.declared.source.Source.{Source}
pub use Rattle.k_parse_steps.specs.declared.source.SourceStage.{SourceStage}
pub use Rattle.k_parse_steps.specs.declared.source.Title.{Title}
pub use Rattle.k_parse_steps.specs.declared.stars.Stars.{Stars}
pub use Rattle.k_parse_steps.specs.declared.statement.BlockStage.{BlockStage}
pub use Rattle.k_parse_steps.specs.declared.statement.Body.{Body}
pub use Rattle.k_parse_steps.specs.declared.statement.Frame.{Frame}
pub use Rattle.k_parse_steps.specs.declared.statement.Tested.{Tested}
pub use Rattle.k_parse_steps.specs.declared.statement.clause.Fitted.{Fitted}
pub use Rattle.k_parse_steps.specs.declared.turn.Turn.{Turn}

-- what a token does in an expression, which is done before the token
abbrev pub Fed : Type 0
Fed = Turn Reading Expr

-- what a token does in an expression up to the mark that closes it
abbrev pub Read : Type 0
Read = Turn Reading Expr

-- the same where the expression may be left out
abbrev pub Maybe : Type 0
Maybe = Turn Reading (Option Expr)

-- what a token does in a declaration
abbrev pub Declared : Type 0
Declared = Turn Declaration (List Word × List Declarator)

-- what a token does among parameters
abbrev pub Parametric : Type 0
Parametric = Turn Parameters Params

-- what a token does in the block of a function
abbrev pub Stepped : Type 0
Stepped = Turn Body (List Stmt)

-- what a token does in a source
abbrev pub Sourced : Type 0
Sourced = Turn Source source.Unit
