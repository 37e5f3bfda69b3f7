use Rattle.std.proofs.Common.{◌≡◌, [], sym, subst}
use Rattle.std.proofs.lemmas.List.{nil_from_length}
use Rattle.k_types_meaning.specs.Expressions.{judge}
use Rattle.k_types_meaning.specs.Initialisers.{one_item, string_of}
use Rattle.k_types_meaning.specs.Made.{then_made}
use Rattle.k_types_rules.specs.Views.{typed}
use Rattle.k_types_declarations.specs.declared.braces.FilledItems.{FilledItems}
use Rattle.k_types_declarations.specs.Braces.{Puts}
use Rattle.k_types_declarations.proofs.BracesLaws.{puts_one}
use Rattle.k_types_declarations.proofs.braces.put_one.Goals as goal

pub returns-in-None : goal.returns-in-None
returns-in-None c =
    let none : c.args.dims.now ≡ [] = nil_from_length c.args.dims.now c.in-None.ensures.cases in
    let given = c.in_ok-judged.ensures in
    let text = string_of c.args.value.now in
    let older : FilledItems = c.args.found.now in
    let newer : FilledItems = record { items = c.put_number.new.items; taken = c.judge.new.taken } in
    subst (λ dims. Puts c.put_number.result c.args.filled.kept older newer (then_made (judge c.args.names.now c.args.value.now) (one_item c.args.filled.file c.args.place c.args.filled.kind dims c.args.element text))) (sym none)
    (puts_one c.put_number.result c.args.filled.kept (judge c.args.names.now c.args.value.now) (one_item c.args.filled.file c.args.place c.args.filled.kind [] c.args.element text)
    (typed c.in_ok-judged.judged given.0) given.0 older newer given.1 given.2 (c.put_number.ensures text given.0))
