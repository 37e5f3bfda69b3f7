use Rattle.std.proofs.Common.{map}
use Rattle.std.proofs.lemmas.Result.{IfOk-weaker}
use Rattle.csv.specs.Records.{fields_of}
use Rattle.k_dict_saved.specs.Profile.{IsSaved}
use Rattle.k_dict_saved.specs.declared.saved.Saved.{Saved}
use Rattle.k_data_profile.specs.Shown.{IsTable}
use Rattle.k_data_laws.specs.Laws.{AreRecordsOf}
use Rattle.k_data_laws.proofs.Read.{records_read}
use Rattle.k_data_laws.proofs.read_back.read_table.Goals as goal

pub returns : goal.returns
returns c =
    IfOk-weaker c.read_records.result _
    (λ table. (saved : Saved) → IsSaved saved → IsTable saved c.args.text.now → AreRecordsOf saved (map fields_of table.items))
    (λ table are saved is t. records_read saved c.args.text.now (map fields_of table.items) is t are)
    c.read_records.ensures
