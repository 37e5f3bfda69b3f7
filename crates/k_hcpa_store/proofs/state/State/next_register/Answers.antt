use Rattle.std.proofs.Common.{◌≡◌, ◌∙◌, length, ap, arith}
use Rattle.k_hcpa_store.specs.Kept.{Kept}
use Rattle.k_hcpa_store.proofs.Telling.{few_next, next_is}
use Rattle.k_hcpa_store.proofs.state.State.next_register.Goals as goal

pub overflow_cast-result : goal.overflow_cast-result
overflow_cast-result c =
    let count : c.count.result ≡ length c.args.self.now.registers = c.count.ensures ∙ ap (λ (s : Kept). length s.registers) c.self.view_is in
    omega (arith, count, few_next c.args.self.now c.requires)

pub returns-clause-next : goal.returns-clause-next
returns-clause-next c = c.count.ensures ∙ ap (λ (s : Kept). length s.registers) c.self.view_is ∙ next_is c.args.self.now c.requires

pub returns-clause-few : goal.returns-clause-few
returns-clause-few c =
    let count : c.count.result ≡ length c.args.self.now.registers = c.count.ensures ∙ ap (λ (s : Kept). length s.registers) c.self.view_is in
    omega (arith, count, few_next c.args.self.now c.requires)
