use Rattle.std.proofs.Common.{◌∙◌, List, ap}
use Rattle.std.proofs.lemmas.Result.{IfOk-weaker}
use Rattle.k_optab.specs.declared.region.Region.{Region}
use Rattle.k_regions.specs.Regions.{regions_of}
use Rattle.k_carry_storage_pairs.specs.declared.pairs.LoopStorage.{LoopStorage}
use Rattle.k_carry_storage_text.specs.Lines.{storage_text}
use Rattle.k_top_commands.proofs.carried.shared_text.Goals as goal

pub returns : goal.returns
returns c =
    IfOk-weaker c.storage_text.result _ _
    (λ text told. (
      c.in_ok-told.told.pairs.loops,
      c.in_ok-told.ensures.storage,
      told
          ∙ (ap (λ (rs : List Region). storage_text rs c.as_slice-2.result.now) (c.as_slice.ensures ∙ c.in_ok-regions.ensures)
          ∙ ap (λ (loops : List LoopStorage). storage_text (regions_of c.args.ready.now.program.typed) loops) c.as_slice-2.ensures),
    ))
    c.storage_text.ensures
