use Rattle.std.proofs.Common.{◌<◌, ◌∙◌, ◌++◌, ◌∷◌, [], List, length, slice_get, ap, sym, subst}
use Rattle.k_code.specs.declared.code.CodeFunc.{CodeFunc}
use Rattle.k_optab.specs.declared.event.Event.{Event}
use Rattle.k_optab.specs.declared.event.Event.TheVariants.{Enter}
use Rattle.k_plain.proofs.Going.{begins}
use Rattle.k_plain.proofs.running.listing_from.Goals as goal

pub function_at-main-requires : goal.function_at-main-requires
function_at-main-requires c =
    subst (λ (funcs : List CodeFunc). c.args.setting.now.code.now.main < length funcs) (sym c.as_slice.ensures) c.requires.code.main

pub run-requires-clause-stands : goal.run-requires-clause-stands
run-requires-clause-stands c =
    begins c.args.setting.now c.args.store c.function_at-main.result c.note_enter.new.log.events c.requires.starts
    (ap (λ (funcs : List CodeFunc). slice_get funcs c.args.setting.now.code.now.main) (sym c.as_slice.ensures) ∙ c.function_at-main.ensures)
    (c.in_ok-note_enter.ensures ∙ ap (λ (es : List Event). es ++ Enter c.function_at-main.result.region ∷ []) c.new.ensures)
