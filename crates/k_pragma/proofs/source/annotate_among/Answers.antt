use Rattle.std.proofs.lemmas.Result.{IfOk-weaker}
use Rattle.k_pragma.proofs.source.annotate_among.Goals as goal

pub returns : goal.returns
returns c = IfOk-weaker c.annotate_told.result _ _ (λ text is. (c.in_ok-told.told, c.in_ok-told.ensures, is)) c.annotate_told.ensures
