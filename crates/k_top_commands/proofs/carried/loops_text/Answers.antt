use Rattle.std.proofs.Common.{ℕ, ◌∙◌, ◌++◌, List, ap}
use Rattle.std.proofs.lemmas.Result.{IfOk-weaker}
use Rattle.k_optab.specs.declared.region.Region.{Region}
use Rattle.k_regions.specs.Regions.{regions_of}
use Rattle.k_carry_text.specs.Lines.{carried_text}
use Rattle.k_top_commands.proofs.carried.loops_text.Goals as goal

pub returns : goal.returns
returns c =
    IfOk-weaker c.with_text.result _ _
    (λ all is. record {
      shared = c.in_ok-shared.shared.items;
      writes = c.in_ok-shared.ensures;
      is = is
          ∙ (ap (λ (front : List ℕ). front ++ c.as_slice-2.result.now)
          (c.in_ok-text.ensures ∙ ap (λ (rs : List Region). carried_text rs c.args.loops.now) (c.as_slice.ensures ∙ c.in_ok-regions.ensures))
          ∙ ap (λ (more : List ℕ). carried_text (regions_of c.args.ready.now.program.typed) c.args.loops.now ++ more) c.as_slice-2.ensures.value);
    })
    c.with_text.ensures
