use Rattle.std.proofs.Common.{◌≡◌, Some, sym, ap, ◌∙◌, subst}
use Rattle.std.specs.Option.{option_copied}
use Rattle.k_types_meaning.specs.CallRules.{all_taken, call_rule, called}
use Rattle.k_types_meaning.specs.Names.{meaning_of}
use Rattle.k_types_expressions.specs.Arguments.{typed_all}
use Rattle.k_types_rules.specs.Views.{Agrees}
use Rattle.k_types_expressions.proofs.call.call_rule.Goals as goal

pub returns-in-Some : goal.returns-in-Some
unfolding call_rule
returns-in-Some c =
    let means : Some c.in-Some.meaning.now ≡ meaning_of c.args.names.now c.args.name.now = sym (ap option_copied c.in-Some.is) ∙ c.meaning.ensures in
    λ ts. subst (λ m. Agrees c.called.result (all_taken (typed_all c.args.args.items ts)) (called c.args.place c.args.name.now (typed_all c.args.args.items ts) m)) means (c.called.ensures c.args.name.now ts)
