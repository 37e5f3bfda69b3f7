use Rattle.std.proofs.Common.{◌≡◌, ◌≤◌, ◌+◌, ◌∙◌, sym, ap, subst, arith}
use Rattle.k_hcpa_meaning.specs.Locations.{width}
use Rattle.k_hcpa_store.specs.Kept.{Kept, configuration_of}
use Rattle.k_hcpa_store.specs.Sound.{IsSound}
use Rattle.k_hcpa_store.proofs.Telling.{first_is, few_registers, few_told}
use Rattle.k_hcpa_store.proofs.store.Store.first_register.Goals as goal

pub overflow_cast-result : goal.overflow_cast-result
overflow_cast-result c =
    let first : c.first.result ≡ c.args.self.now.call.first = c.first.ensures ∙ ap (λ (s : Kept). s.call.first) c.self.view_is in
    omega (arith, first, few_registers c.args.self.now (subst IsSound c.self.view_is c.self.invariant))

pub returns-clause-first : goal.returns-clause-first
returns-clause-first c = c.first.ensures ∙ ap (λ (s : Kept). s.call.first) c.self.view_is ∙ first_is c.args.self.now (subst IsSound c.self.view_is c.self.invariant)

pub returns-clause-few : goal.returns-clause-few
returns-clause-few c =
    let first : c.first.result ≡ c.args.self.now.call.first = c.first.ensures ∙ ap (λ (s : Kept). s.call.first) c.self.view_is in
    subst (λ n. n + width c.args.self.now.code (configuration_of c.args.self.now).frame.func ≤ 2097152) (sym first) (few_told c.args.self.now (subst IsSound c.self.view_is c.self.invariant))
