-- What the steps of the call answer, once it is known what they come to.
use Rattle.std.proofs.Common.{ℕ, true, ◌≡◌, ◌≢◌, ◌≤◌, ◌<◌, refl, sym, subst, List, [], ◌∷◌, length, Option, Some, None, Result, Ok, Err, inl, inr}
use Rattle.k_optab.specs.Latencies.{standard_latencies}
use Rattle.k_optab.specs.TomlTable.{IsRefused, IsTold}
use Rattle.k_optab.specs.declared.toml_table.TableFault.{TableFault}
use Rattle.k_optab.specs.declared.toml_table.TableFault.TheVariants as table
use Rattle.k_edge.specs.FilesWords.{FilesState, after}
use Rattle.k_edge.specs.declared.request.Request.{Request}
use Rattle.k_tree.specs.declared.tokens.Token.{Token}
use Rattle.k_tree.specs.declared.tree.unit.Unit as tree
use Rattle.k_lex.specs.Tokens.{tokens}
use Rattle.k_lex.specs.declared.fault.LexFault.{LexFault}
use Rattle.k_parse.specs.declared.fault.ParseFault.{ParseFault}
use Rattle.k_types_meaning.specs.Units.{faults}
use Rattle.k_types_meaning.specs.declared.fault.TypeFault.{TypeFault}
use Rattle.k_types_meaning.specs.declared.tree.unit.TUnit.{TUnit}
use Rattle.k_top_answers.specs.declared.failure.Failure.{Failure}
use Rattle.k_top_answers.specs.declared.failure.Failure.TheVariants as why
use Rattle.k_top_answers.specs.Checks.{refuses_source}
use Rattle.k_top_lemmas.specs.Phases.{IsQuiet, LoadsStop}
use Rattle.k_top_answers.specs.Steps.{AnswersFile, AnswersFound, AnswersLatency, AnswersProgram, AnswersSource, AnswersTable, AnswersTokens, AnswersTree, AnswersTyped, Outside, file_limit}

module _ (failed : Failure → Type 0) (outside : Outside) (limit : ℕ) (file : List ℕ) (next : List ℕ → Type 0) where
  -- a file that is not there
  pub absent : outside.files file ≡ None → failed (why.Absent file) → AnswersFile failed outside limit file next
  absent is holds = subst (λ content. AnswersFound failed limit file next content) (sym is) holds

  -- a file that is too long
  pub too_long : (bytes : List ℕ) → outside.files file ≡ Some bytes → limit < length bytes → failed (why.FileLong file) → AnswersFile failed outside limit file next
  too_long bytes is long holds = subst (λ content. AnswersFound failed limit file next content) (sym is) (inl (long, holds))

  -- a file that gives its bytes
  pub loaded : (bytes : List ℕ) → outside.files file ≡ Some bytes → length bytes ≤ limit → next bytes → AnswersFile failed outside limit file next
  loaded bytes is fits holds = subst (λ content. AnswersFound failed limit file next content) (sym is) (inr (fits, holds))

-- what a source answers is carried over, where its failures and its programs are
module _ (F G : Failure → Type 0) (P Q : TUnit → Type 0) (on_failure : (failure : Failure) → F failure → G failure) (on_source : (typed : TUnit) → P typed → Q typed) where
  typed_maps : (unit : tree.Unit) (fs : List TypeFault) → AnswersTyped F P unit fs → AnswersTyped G Q unit fs
  typed_maps unit [] (typed, is, holds) = (typed, is, on_source typed holds)
  typed_maps unit (fault ∷ fs) holds = on_failure (why.Types fault) holds

  tree_maps : (found : Result tree.Unit ParseFault) → AnswersTree F P found → AnswersTree G Q found
  tree_maps (Err fault) holds = on_failure (why.Parse fault) holds
  tree_maps (Ok unit) holds = typed_maps unit (faults unit) holds

  tokens_map : (found : Result (List Token) LexFault) → AnswersTokens F P found → AnswersTokens G Q found
  tokens_map (Err fault) holds = on_failure (why.Lex fault) holds
  tokens_map (Ok list) (found, is, holds) = (found, is, tree_maps found holds)

  pub source_maps : (bytes : List ℕ) → AnswersSource F P bytes → AnswersSource G Q bytes
  source_maps bytes holds = tokens_map (tokens bytes) holds

-- a table that gives these latencies
pub told : (failed : Failure → Type 0) (next : List ℕ → Type 0) (bytes latencies : List ℕ) → IsTold bytes (Ok latencies) → next latencies → AnswersTable failed next bytes
told failed next bytes latencies is holds = inl (latencies, is, holds)

-- a table that is refused
pub refused : (failed : Failure → Type 0) (next : List ℕ → Type 0) (bytes : List ℕ) (fault : TableFault) → fault ≢ table.Memory → IsRefused bytes fault
    → failed (why.Table fault) → AnswersTable failed next bytes
refused failed next bytes fault other is holds = inr (fault, other, is, holds)

-- a source is refused by its tokens, by its tree, or by names and types; or it is accepted
module _ (F : Failure → Type 0) (P : TUnit → Type 0) (R : Type 0) (on_lex : (fault : LexFault) → F (why.Lex fault) → R)
    (on_parse : (fault : ParseFault) → F (why.Parse fault) → R) (on_types : (fault : TypeFault) → F (why.Types fault) → R)
    (on_typed : (typed : TUnit) → P typed → R) where
  typed_case : (unit : tree.Unit) (fs : List TypeFault) → AnswersTyped F P unit fs → R
  typed_case unit [] (typed, is, holds) = on_typed typed holds
  typed_case unit (fault ∷ fs) holds = on_types fault holds

  tree_case : (found : Result tree.Unit ParseFault) → AnswersTree F P found → R
  tree_case (Err fault) holds = on_parse fault holds
  tree_case (Ok unit) holds = typed_case unit (faults unit) holds

  tokens_case : (found : Result (List Token) LexFault) → AnswersTokens F P found → R
  tokens_case (Err fault) holds = on_lex fault holds
  tokens_case (Ok list) (found, is, holds) = tree_case found holds

  pub source_case : (bytes : List ℕ) → AnswersSource F P bytes → R
  source_case bytes holds = tokens_case (tokens bytes) holds

-- what is so of the failures of sources is so of this one
module _ (Q : Failure → Type 0) (of_lex : (fault : LexFault) → Q (why.Lex fault)) (of_parse : (fault : ParseFault) → Q (why.Parse fault))
    (of_types : (fault : TypeFault) → Q (why.Types fault)) where
  of_failure : (failure : Failure) (bytes : List ℕ) → AnswersSource (λ other. other ≡ failure) (λ source. ⊥) bytes → Q failure
  of_failure failure bytes holds =
      source_case (λ other. other ≡ failure) (λ source. ⊥) (Q failure) (λ fault is. subst Q is (of_lex fault)) (λ fault is. subst Q is (of_parse fault))
      (λ fault is. subst Q is (of_types fault)) (λ typed none. absurd none) bytes holds

-- a failure of a source comes behind all loads
pub source_fails : (failure : Failure) (bytes : List ℕ) (loads : List Request) (old new : FilesState) → new ≡ after loads old → AnswersSource (λ other. other ≡ failure) (λ source. ⊥) bytes
    → LoadsStop failure loads old new
source_fails failure bytes loads old new same holds =
    of_failure (λ f. LoadsStop f loads old new) (λ fault. (loads, refl, same)) (λ fault. (loads, refl, same)) (λ fault. (loads, refl, same)) failure bytes holds

-- and nothing of the outside at all
pub source_quiet : (failure : Failure) (bytes : List ℕ) → AnswersSource (λ other. other ≡ failure) (λ source. ⊥) bytes → IsQuiet failure
source_quiet failure bytes holds = of_failure IsQuiet (λ fault. tt) (λ fault. tt) (λ fault. tt) failure bytes holds

-- it refuses the source
pub source_refuses : (failure : Failure) (bytes : List ℕ) → AnswersSource (λ other. other ≡ failure) (λ source. ⊥) bytes → refuses_source failure ≡ true
source_refuses failure bytes holds = of_failure (λ f. refuses_source f ≡ true) (λ fault. refl) (λ fault. refl) (λ fault. refl) failure bytes holds

-- what two files answer is carried over, where its failures and its programs are
module _ (F G : Failure → Type 0) (P Q : List ℕ → TUnit → Type 0) (on_failure : (failure : Failure) → F failure → G failure)
    (on_program : (latencies : List ℕ) (typed : TUnit) → P latencies typed → Q latencies typed) (outside : Outside) (latency : Option (List ℕ)) where
  found_maps : (A B : List ℕ → Type 0) → ((bytes : List ℕ) → A bytes → B bytes) → (limit : ℕ) (file : List ℕ) (content : Option (List ℕ))
      → AnswersFound F limit file A content → AnswersFound G limit file B content
  found_maps A B on_bytes limit file None holds = on_failure (why.Absent file) holds
  found_maps A B on_bytes limit file (Some bytes) (inl (long, holds)) = inl (long, on_failure (why.FileLong file) holds)
  found_maps A B on_bytes limit file (Some bytes) (inr (fits, holds)) = inr (fits, on_bytes bytes holds)

  table_maps : (A B : List ℕ → Type 0) → ((latencies : List ℕ) → A latencies → B latencies) → (bytes : List ℕ) → AnswersTable F A bytes → AnswersTable G B bytes
  table_maps A B on_latencies bytes (inl (latencies, is, holds)) = inl (latencies, is, on_latencies latencies holds)
  table_maps A B on_latencies bytes (inr (fault, other, is, holds)) = inr (fault, other, is, on_failure (why.Table fault) holds)

  latency_maps : (A B : List ℕ → Type 0) → ((latencies : List ℕ) → A latencies → B latencies) → (latency : Option (List ℕ))
      → AnswersLatency F outside latency A → AnswersLatency G outside latency B
  latency_maps A B on_latencies None holds = on_latencies standard_latencies holds
  latency_maps A B on_latencies (Some file) holds =
      found_maps (AnswersTable F A) (AnswersTable G B) (table_maps A B on_latencies) file_limit file (outside.files file) holds

  pub program_maps : (file : List ℕ) → AnswersProgram F outside file latency P → AnswersProgram G outside file latency Q
  program_maps file holds =
      found_maps (λ bytes. AnswersLatency F outside latency (λ l. AnswersSource F (P l) bytes)) (λ bytes. AnswersLatency G outside latency (λ l. AnswersSource G (Q l) bytes))
      (λ bytes. latency_maps (λ l. AnswersSource F (P l) bytes) (λ l. AnswersSource G (Q l) bytes) (λ l. source_maps F G (P l) (Q l) on_failure (on_program l) bytes) latency)
      file_limit file (outside.files file) holds
