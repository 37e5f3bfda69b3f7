use Rattle.std.proofs.Common.{sym, subst}
use Rattle.k_carry.specs.declared.advance.Happened.{Happened}
use Rattle.k_carry.specs.Steps.{Advances}
use Rattle.k_carry.proofs.Advancing.{ended}
use Rattle.k_carry.proofs.advance.leave.Goals as goal

pub returns-in-Err : goal.returns-in-Err
returns-in-Err c =
    subst (λ (h : Happened). Advances c.args.store.now c.args.instr.now h c.args.store.now) (sym c.nothing.ensures)
    (ended c.args.store.now c.args.store.now c.args.instr.now c.in-Err.end (c.in-Err.ensures c.requires.kind.0 c.requires.kind.1))
