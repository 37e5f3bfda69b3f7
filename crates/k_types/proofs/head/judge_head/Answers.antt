use Rattle.std.proofs.Common.{ap, ◌∙◌}
use Rattle.k_types_declarations.specs.Results.{seen}
use Rattle.k_types_meaning.specs.Functions.{variable_types}
use Rattle.k_types_meaning.specs.Names.{place_in}
use Rattle.k_types.proofs.Heads.{head_gives}
use Rattle.k_types.proofs.head.judge_head.Goals as goal

pub returns : goal.returns
returns c =
    head_gives c.args.defines c.args.defined.now c.args.known.now.names c.args.head.now _ (seen c.begin.new.known) (seen c.judge_params.new.known) c.params_of.result.now
    c.in_ok-begin.ensures c.params_of.ensures c.in_ok-judge_params.ensures
    (λ i. record {
      result = c.result_or_int.ensures i;
      params = (c.in_ok-params.ensures ∙ ap variable_types c.as_slice.ensures) i;
      number = (c.place.ensures ∙ ap (place_in c.args.defined.now) c.as_str.ensures) i;
    })
