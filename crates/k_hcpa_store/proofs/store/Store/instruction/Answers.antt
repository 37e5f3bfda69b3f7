use Rattle.std.proofs.Common.{sym, subst, ◌<◌, length}
use Rattle.k_hcpa_store.specs.Kept.{Kept}
use Rattle.k_hcpa_store.proofs.Telling.{found, is_next}
use Rattle.k_hcpa_store.proofs.store.Store.instruction.Goals as goal

pub instruction-requires : goal.instruction-requires
instruction-requires c = subst (λ (s : Kept). s.pc < length s.code.instrs) (sym c.self.view_is) (found c.args.self.now c.requires)

pub returns : goal.returns
returns c = is_next _ c.args.self.now c.instruction.result.now c.self.view_is c.instruction.ensures c.requires
