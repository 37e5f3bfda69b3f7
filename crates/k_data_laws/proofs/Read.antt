-- What the crates `json` and `csv` answer on what is written of a profile.
use Rattle.std.proofs.Common.{◌≡◌, ◌≢◌, ℕ, Bool, List, Some, None, Result, Ok, Err, IfErr, IsUtf8, refl, sym, ap, ◌∙◌, subst}
use Rattle.std.proofs.lemmas.Option.{none-some, same_Some}
use Rattle.csv.specs.Reading.{AreRecords, default_config, strip_bom}
use Rattle.csv.specs.declared.parser.State.TheVariants as state
use Rattle.json.specs.Json.{Json, document}
use Rattle.json.specs.declared.error.Error.{Error}
use Rattle.json.specs.declared.error.Error.TheVariants.{DuplicateKey, Invalid, OutOfMemory, TooLong}
use Rattle.k_dict_saved.specs.Profile.{IsSaved}
use Rattle.k_dict_saved.specs.declared.saved.Saved.{Saved}
use Rattle.k_data_profile.specs.Shown.{IsDocument, IsTable}
use Rattle.k_data_laws.specs.Laws.{AreRecordsOf, IsValue}
use Rattle.k_data_laws.proofs.Document.{document_is_read, document_utf8, table_is_read}
use Rattle.k_data_laws.proofs.Tabled.{records_are_one, table_unmarked}

-- what a document means is the value of its profile
pub value_read : (saved : Saved) (with_dict : Bool) (text : List ℕ) (value : Json) → IsSaved saved → IsDocument saved with_dict text
    → document text ≡ Some value → IsValue saved with_dict value
value_read saved with_dict text value is d meant =
    let read = document_is_read saved with_dict text is d in subst (IsValue saved with_dict) (same_Some read.0 value (sym read.1 ∙ meant)) read.2

-- where reading a document fails, memory is lacking
pub lacks_memory : {A : Type 0} (saved : Saved) (with_dict : Bool) (text : List ℕ) (result : Result A Error) → IsSaved saved → IsDocument saved with_dict text
    → (result ≡ Err Invalid → IsUtf8 text → document text ≡ None) → result ≢ Err TooLong → result ≢ Err DuplicateKey → IfErr result (λ e. e ≡ OutOfMemory)
lacks_memory saved with_dict text (Ok value) is d invalid long twice = tt
lacks_memory saved with_dict text (Err Invalid) is d invalid long twice =
    let read = document_is_read saved with_dict text is d in absurd (none-some read.0 (sym (invalid refl (document_utf8 saved is with_dict text d)) ∙ read.1))
lacks_memory saved with_dict text (Err OutOfMemory) is d invalid long twice = refl
lacks_memory saved with_dict text (Err TooLong) is d invalid long twice = absurd (long refl)
lacks_memory saved with_dict text (Err DuplicateKey) is d invalid long twice = absurd (twice refl)

-- the records of a table are those of its profile
pub records_read : (saved : Saved) (text : List ℕ) (table : List (List (List ℕ))) → IsSaved saved → IsTable saved text
    → AreRecords default_config state.StartRecord (strip_bom text) table → AreRecordsOf saved table
records_read saved text table is t are =
    let read = table_is_read saved text is t in
    let unmarked : strip_bom text ≡ text = ap strip_bom t.is ∙ table_unmarked saved.regions t.rows ∙ sym t.is in
    subst (AreRecordsOf saved) (records_are_one default_config state.StartRecord text read.0 table read.1
    (subst (λ l. AreRecords default_config state.StartRecord l table) unmarked are)) read.2
