use Rattle.std.proofs.Common.{◌≡◌, [], Some, sym, ap, ◌∙◌, subst}
use Rattle.std.specs.Option.{option_copied}
use Rattle.k_types_meaning.specs.Names.{meaning_of}
use Rattle.k_types_meaning.specs.Operands.{name_rule, named}
use Rattle.k_types_rules.specs.Views.{Agrees}
use Rattle.k_types_expressions.proofs.name.name_rule.Goals as goal

pub returns-in-Some : goal.returns-in-Some
unfolding name_rule
returns-in-Some c =
    let means : Some c.in-Some.meaning.now ≡ meaning_of c.args.names.now c.args.name.now = sym (ap option_copied c.in-Some.is) ∙ c.meaning.ensures in
    subst (λ m. Agrees c.named.result [] (named c.args.place c.args.name.now m)) means (c.named.ensures c.args.name.now)
