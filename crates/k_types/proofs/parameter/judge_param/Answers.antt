use Rattle.std.proofs.Common.{ap, ◌∙◌}
use Rattle.std.specs.Prelude.{is_some}
use Rattle.k_types_declarations.specs.Results.{seen}
use Rattle.k_types_meaning.specs.Declarations.{type_or_int}
use Rattle.k_types_meaning.specs.Functions.{sizes_or_none}
use Rattle.k_types.specs.Parameters.{behind_variable, type_with}
use Rattle.k_types.proofs.Parameters.{param_goes}
use Rattle.k_types.proofs.parameter.judge_param.Goals as goal

pub returns : goal.returns
returns c =
    let known = seen c.args.known.now in
    let p = c.args.param.now in
    let sized = c.in_ok-sizes.ensures in
    param_goes c.args.defines known p c.test_param.result (seen c.enter_variable.new.known) c.in_ok-sizes.sizes sized.0 c.type_of-of.result c.in_ok-twice.twice
    c.is_typed-typed.result c.is_some-fits.result sized.1
    (c.type_of-of.ensures ∙ ap (λ d. type_or_int (type_with p d)) (c.in_ok-behind.ensures ∙ ap sizes_or_none c.in_ok-dims.ensures))
    c.in_ok-twice.ensures.twice c.is_typed-typed.ensures (c.is_some-fits.ensures ∙ ap is_some c.in_ok-dims.ensures)
    (c.in_ok-twice.ensures.after ∙ (λ i. behind_variable (record known { taken = sized.2 i }) p c.type_of-of.result))
    c.test_param.ensures
