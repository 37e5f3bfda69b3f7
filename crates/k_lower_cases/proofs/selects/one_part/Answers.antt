use Rattle.std.proofs.Common.{◌∙◌, ap, sym, subst}
use Rattle.k_types_meaning.specs.declared.tree.statement.TPart.{TPart}
use Rattle.k_types_meaning.specs.declared.tree.statement.TPart.TheVariants as part
use Rattle.k_lower_expressions.specs.Arounds.{program_of}
use Rattle.k_lower_extents.specs.Extents.{AreEntries, listed_part}
use Rattle.k_lower_extents.proofs.NestedExtents.{part_statement}
use Rattle.k_lower_cases.proofs.Cased.{of_case, of_default, of_statement}
use Rattle.k_lower_cases.proofs.selects.one_part.Goals as goal

pub returns-in_ok-case-in-Case : goal.returns-in_ok-case-in-Case
returns-in_ok-case-in-Case c = λ w has.
    of_case (program_of c.args.around.now) c.args.kind c.args.r c.args.on w c.args.part.now c.args.at _ _ _ _ c.in-Case.is c.in_ok-case-in-Case.ensures

pub returns-in-Default : goal.returns-in-Default
returns-in-Default c = λ w has.
    of_default (program_of c.args.around.now) c.args.kind c.args.r c.args.on w c.args.part.now c.args.at _ c.args.out.now.items c.in-Default.is

pub returns-in_ok-extent-in-Does : goal.returns-in_ok-extent-in-Does
returns-in_ok-extent-in-Does c = λ w has.
    of_statement (program_of c.args.around.now) c.args.kind c.args.r c.args.on w c.args.part.now c.args.at c.in-Does._place c.get.result.now c.in_ok-extent-in-Does.extent c.above.result _
    (c.in-Does.is ∙ ap (part.Does c.in-Does._place) (sym c.get.ensures))
    (c.in_ok-extent-in-Does.ensures w (part_statement w c.args.table.now c.in-Does._place c.get.result.now
    (subst (λ (q : TPart). AreEntries c.args.table.now (listed_part w q).extents) (c.in-Does.is ∙ ap (part.Does c.in-Does._place) (sym c.get.ensures)) has)))
    c.above.ensures
