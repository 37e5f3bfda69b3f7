-- Each token of an expression keeps what was read true.
use Rattle.std.proofs.Common.{ℕ, List}
use Rattle.k_parse_steps.specs.Types.{Token, ExpressionStage, Reading, Site}
use Rattle.k_parse_steps.specs.Expressions.{Opens, feed, stage_fed}
use Rattle.k_parse_steps.specs.declared.expression.ExpressionStage.TheVariants as now
use Rattle.k_parse_steps.proofs.ExpressionState.{Inv, Keeps}
use Rattle.k_parse_steps.proofs.OperandSound.{operand_keeps}
use Rattle.k_parse_steps.proofs.TypeSound.{type_keeps}
use Rattle.k_parse_steps.proofs.ValueSound.{value_keeps, named_keeps}

module _ (lim : ℕ) (g : Site) (ts : List Token) (t : Token) where
  feed_at_keeps : (s : Opens) (n : ExpressionStage) → Inv lim g s n ts → Keeps lim g ts t (stage_fed g s n t)
  feed_at_keeps s now.Operand i = operand_keeps lim g ts t s i.stands i.opens
  feed_at_keeps s (now.Named p x) i = named_keeps lim g ts t s p x i
  feed_at_keeps s (now.Type specs stars) i = type_keeps lim g ts t s specs stars i
  feed_at_keeps s (now.Value a) i = value_keeps lim g ts t s a i

pub feed_keeps : (lim : ℕ) → (ts : List Token) (t : Token) (r : Reading) → Inv lim r.site r.opens r.stage ts → Keeps lim r.site ts t (feed r t)
unfolding feed
feed_keeps lim ts t r i = feed_at_keeps lim r.site ts t r.opens r.stage i
