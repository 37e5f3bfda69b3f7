use Rattle.std.proofs.Common.{Bool}
use Rattle.std.proofs.lemmas.Result.{IfOk-weaker}
use Rattle.json.specs.Value.{value_view}
use Rattle.k_dict_saved.specs.Profile.{IsSaved}
use Rattle.k_dict_saved.specs.declared.saved.Saved.{Saved}
use Rattle.k_data_profile.specs.Shown.{IsDocument}
use Rattle.k_data_laws.specs.Laws.{IsValue}
use Rattle.k_data_laws.proofs.Read.{lacks_memory, value_read}
use Rattle.k_data_laws.proofs.read_back.read_document.Goals as goal

pub returns-clause-value : goal.returns-clause-value
returns-clause-value c =
    IfOk-weaker c.from_slice.result _
    (λ value. (saved : Saved) (with_dict : Bool) → IsSaved saved → IsDocument saved with_dict c.args.text.now → IsValue saved with_dict (value_view value))
    (λ value read saved with_dict is d. value_read saved with_dict c.args.text.now (value_view value) is d read.1)
    c.from_slice.ensures.ok

pub returns-clause-memory : goal.returns-clause-memory
returns-clause-memory c =
    λ saved with_dict is d. lacks_memory saved with_dict c.args.text.now c.from_slice.result is d
    c.from_slice.ensures.invalid c.from_slice.ensures.never_too_long c.from_slice.ensures.never_duplicate
