use Rattle.std.proofs.Common.{◌∙◌, subst, sym}
use Rattle.k_code.specs.Decides.{Knows}
use Rattle.k_code.proofs.Balanced.{entry_knows}
use Rattle.k_code.proofs.validity.balances.is_balanced.Goals as goal

pub all_settled-requires-clause-known : goal.all_settled-requires-clause-known
all_settled-requires-clause-known c =
    subst (λ l. Knows c.args.entry c.args.instrs.now 0 l) (sym (c.as_mut_slice.ensures.value ∙ c.in_ok-before.ensures)) (entry_knows c.args.entry c.args.instrs.now)
