use Rattle.std.proofs.Common.{◌≡◌, ◌++◌, sym, ◌∙◌}
use Rattle.std.proofs.lemmas.List.{take-append-drop}
use Rattle.k_top_lemmas.proofs.Growing.{piece_put, second_empty}
use Rattle.k_top.proofs.output.put_all.Goals as goal

pub loop-rest-preserved : goal.loop-rest-preserved
loop-rest-preserved g c =
    let rest = c.loop-rest.rest.now in
    let whole = take-append-drop c.min.result rest in
    let cut : rest ≡ c.split_at.result.0.now ++ c.split_at.result.1.now = cc in
    record {
      way = piece_put _ _ _ _ _ _ _ c.loop-rest.invariant.way cut c.in-Ok.ensures.0;
      faultless = c.in-Ok.ensures.1 ∙ c.loop-rest.invariant.faultless;
      some = λ empty. second_empty _ _ (sym cut ∙ c.loop-rest.invariant.some empty);
    }
