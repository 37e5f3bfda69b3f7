use Rattle.std.proofs.Common.{ap, ◌∙◌}
use Rattle.k_lex_expansion.specs.declared.arguments.Argument.{Argument}
use Rattle.k_lex_expansion.proofs.ReplacingLaws.{argument_there, argument_past}
use Rattle.k_lex_expansion.proofs.replacing.expanded_at.Goals as goal

pub returns-then-number-args : goal.returns-then-number-args
returns-then-number-args c = c.as_slice.ensures ∙ ap (λ (a : Argument). a.expanded) (argument_there c.args.args.now c.args.number c.index-args-number.result c.if-number-args.true)

pub returns-else-number-args : goal.returns-else-number-args
returns-else-number-args c = ap (λ (a : Argument). a.expanded) (argument_past c.args.args.now c.args.number c.if-number-args.false)
