-- What is answered where the outside holds an accepted program with its input is answered of the run of that program.
use Rattle.std.proofs.Common.{ℕ, ◌≡◌, ◌≢◌, ◌≤◌, ◌<◌, Bool, true, false, MatchBool, arith, sym, subst, ◌∙◌, ap, List, [], ◌∷◌, length, Option, Some, None, Result, Ok, Err, inl, inr}
use Rattle.std.proofs.lemmas.Option.{none-some, same_Some}
use Rattle.k_optab.specs.TomlTable.{IsRefused, IsTold}
use Rattle.k_optab.specs.declared.toml_table.TableFault.{TableFault}
use Rattle.k_optab.specs.declared.toml_table.TableFault.TheVariants as table
use Rattle.k_tree.specs.declared.tokens.Token.{Token}
use Rattle.k_tree.specs.declared.tree.unit.Unit as source
use Rattle.k_lex.specs.Tokens.{tokens}
use Rattle.k_lex.specs.declared.fault.LexFault.{LexFault}
use Rattle.k_parse.proofs.OneAnswer.{one_answer}
use Rattle.k_parse.specs.declared.fault.ParseFault.{ParseFault}
use Rattle.k_types_meaning.proofs.OneTree.{one_typed_tree}
use Rattle.k_types_meaning.specs.Units.{faults}
use Rattle.k_types_meaning.specs.declared.fault.TypeFault.{TypeFault}
use Rattle.k_types_meaning.specs.declared.tree.unit.TUnit.{TUnit}
use Rattle.k_types_calls.specs.Getchar.{calls_getchar}
use Rattle.k_top_answers.specs.declared.failure.Failure.{Failure}
use Rattle.k_top_answers.specs.declared.failure.Failure.TheVariants as why
use Rattle.k_top_answers.specs.Clauses.{Fits, MayGive, MayHold, World}
use Rattle.k_top_answers.specs.Steps.{AnswersFile, AnswersFound, AnswersInput, AnswersLatency, AnswersProgram, AnswersRead, AnswersRunning, AnswersSource, AnswersTable, AnswersTokens, AnswersTree, AnswersTyped, Outside, Running, file_limit, input_limit}
use Rattle.k_top_headline.specs.Headline.{HasLatencies, HoldsBadTable, HoldsFile, HoldsProgram, IsAccepted, IsInput, TellsFile}
use Rattle.k_top_headline.proofs.Tables.{not_both, same_latencies}

-- the outside holds what the files tell
pub held_outside : (told : Option (List ℕ → Option (List ℕ))) (held : List ℕ → Option (List ℕ)) (file bytes : List ℕ) → MayHold told held → TellsFile told file bytes → held file ≡ Some bytes
held_outside None held file bytes may tells = absurd tells
held_outside (Some told) held file bytes may tells = ap (λ (h : List ℕ → Option (List ℕ)). h file) (sym may) ∙ tells

-- the input holds what it tells
pub given_outside : (told : Option (List ℕ)) (input bytes : List ℕ) → MayGive told input → told ≡ Some bytes → input ≡ bytes
given_outside None input bytes may is = absurd (none-some bytes is)
given_outside (Some told) input bytes may is = sym may ∙ same_Some told bytes is

-- what is not too long is not too long
not_long : (count limit : ℕ) → limit < count → count ≤ limit → ⊥
not_long count limit long few = omega (arith, long, few)

module _ (F : Failure → Type 0) where
  -- A FILE that is not too long gives its bytes
  pub found_answered : (limit : ℕ) (file : List ℕ) (next : List ℕ → Type 0) (bytes : List ℕ) → length bytes ≤ limit → AnswersFound F limit file next (Some bytes) → next bytes
  found_answered limit file next bytes few (inl (long, fails)) = absurd (not_long (length bytes) limit long few)
  found_answered limit file next bytes few (inr (fits, holds)) = holds

  module _ (P : TUnit → Type 0) (bytes : List ℕ) (typed : TUnit) (is : IsAccepted bytes typed) where
    by_typed : AnswersTyped F P is.unit [] → P typed
    by_typed (other, other_is, holds) = subst P (one_typed_tree is.unit other typed other_is is.typed_is) holds

    by_tree : AnswersTree F P (Ok is.unit) → P typed
    by_tree holds = by_typed (subst (λ (fs : List TypeFault). AnswersTyped F P is.unit fs) is.faultless holds)

    by_tokens : AnswersTokens F P (Ok is.list) → P typed
    by_tokens (found, read, holds) =
        by_tree (subst (λ (r : Result source.Unit ParseFault). AnswersTree F P r) (one_answer is.list found (Ok is.unit) read is.read) holds)

    -- AN ACCEPTED SOURCE gives its typed tree
    pub source_answered : AnswersSource F P bytes → P typed
    source_answered holds = by_tokens (subst (λ (r : Result (List Token) LexFault). AnswersTokens F P r) is.cut holds)

  -- A SOURCE THAT IS REFUSED fails by its first fault
  module _ (P : TUnit → Type 0) (failure : Failure) where
    typed_refused : (unit : source.Unit) (fs : List TypeFault) → AnswersTyped (λ first. first ≡ failure) (λ typed. ⊥) unit fs → AnswersTyped F P unit fs → F failure
    typed_refused unit [] (typed, is, none) holds = absurd none
    typed_refused unit (fault ∷ fs) is holds = subst F is holds

    tree_refused : (found : Result source.Unit ParseFault) → AnswersTree (λ first. first ≡ failure) (λ typed. ⊥) found → AnswersTree F P found → F failure
    tree_refused (Err fault) is holds = subst F is holds
    tree_refused (Ok unit) is holds = typed_refused unit (faults unit) is holds

    tokens_refused : (found : Result (List Token) LexFault) → AnswersTokens (λ first. first ≡ failure) (λ typed. ⊥) found → AnswersTokens F P found → F failure
    tokens_refused (Err fault) is holds = subst F is holds
    tokens_refused (Ok list) (found, read, is) (other, other_read, holds) =
        tree_refused found is (subst (λ (r : Result source.Unit ParseFault). AnswersTree F P r) (one_answer list other found other_read read) holds)

    pub source_refused : (bytes : List ℕ) → AnswersSource (λ first. first ≡ failure) (λ typed. ⊥) bytes → AnswersSource F P bytes → F failure
    source_refused bytes is holds = tokens_refused (tokens bytes) is holds

  -- THE BYTES OF A TABLE give the latencies that they tell
  table_answered : (next : List ℕ → Type 0) (bytes latencies : List ℕ) → IsTold bytes (Ok latencies) → AnswersTable F next bytes → next latencies
  table_answered next bytes latencies told (inl (other, other_told, holds)) = subst next (same_latencies bytes other latencies other_told told) holds
  table_answered next bytes latencies told (inr (fault, differs, refused, fails)) = absurd (not_both bytes latencies fault differs told refused)

  -- THE INPUT that the run reads
  by_read : (next : List ℕ → Type 0) (input bytes : List ℕ) → input ≡ bytes → length bytes ≤ input_limit → AnswersRead F next input → next bytes
  by_read next input bytes same few (inl (long, fails)) =
      absurd (not_long (length bytes) input_limit (subst (λ (b : List ℕ). input_limit < length b) same long) few)
  by_read next input bytes same few (inr (fits, holds)) = subst next same holds

  input_answered : (next : List ℕ → Type 0) (told : Option (List ℕ)) (input bytes : List ℕ) (calls : Bool) → MayGive told input → IsInput told calls bytes
      → MatchBool calls (AnswersRead F next input) (next []) → next bytes
  input_answered next told input bytes true may (is, few) holds = by_read next input bytes (given_outside told input bytes may is) few holds
  input_answered next told input bytes false may is holds = subst next (sym is) holds

  module _ (outside : Outside) (old : World) (fits : Fits outside old) where
    file_answered : (file bytes : List ℕ) (next : List ℕ → Type 0) → HoldsFile old file bytes → AnswersFile F outside file_limit file next → next bytes
    file_answered file bytes next is holds =
        found_answered file_limit file next bytes is.few
        (subst (λ (content : Option (List ℕ)). AnswersFound F file_limit file next content)
        (held_outside old.files.held outside.files file bytes fits.files is.held) holds)

    latency_answered : (latency : Option (List ℕ)) (latencies : List ℕ) (next : List ℕ → Type 0) → HasLatencies old latency latencies
        → AnswersLatency F outside latency next → next latencies
    latency_answered None latencies next is holds = subst next (sym is) holds
    latency_answered (Some name) latencies next (bytes, is, told) holds =
        table_answered next bytes latencies told (file_answered name bytes (AnswersTable F next) is holds)

    -- A PROGRAM that the outside holds is what is answered of
    pub program_answered : (file : List ℕ) (latency : Option (List ℕ)) (r : Running) (next : List ℕ → TUnit → Type 0) → HoldsProgram old file latency r
        → AnswersProgram F outside file latency next → next r.latencies r.typed
    program_answered file latency r next is holds =
        source_answered (next r.latencies) is.bytes r.typed is.accepted
        (latency_answered latency r.latencies (λ latencies. AnswersSource F (next latencies) is.bytes) is.latencies
        (file_answered file is.bytes (λ bytes. AnswersLatency F outside latency (λ latencies. AnswersSource F (next latencies) bytes)) is.holds holds))

  pub run_answered : (outside : Outside) (old : World) (file : List ℕ) (latency : Option (List ℕ)) (r : Running) (Q : Running → Type 0) → Fits outside old
      → HoldsProgram old file latency r → AnswersRunning F outside file latency r.steps Q → Q r
  run_answered outside old file latency r Q fits is holds =
      input_answered (λ input. Q (record { typed = r.typed; latencies = r.latencies; input = input; steps = r.steps })) old.input.left outside.input r.input
      (calls_getchar r.typed) fits.input is.input
      (program_answered outside old fits file latency r (λ latencies typed. AnswersInput F outside typed
      (λ input. Q (record { typed = typed; latencies = latencies; input = input; steps = r.steps }))) is holds)

-- A STEP THAT THE OUTSIDE HOLDS answers what it gives
module _ (F : Failure → Type 0) where
  source_held : (P : TUnit → Type 0) (bytes : List ℕ) (typed : TUnit) → IsAccepted bytes typed → P typed → AnswersSource F P bytes
  source_held P bytes typed is holds =
      subst (λ (r : Result (List Token) LexFault). AnswersTokens F P r) (sym is.cut)
      (Ok is.unit, is.read, subst (λ (fs : List TypeFault). AnswersTyped F P is.unit fs) (sym is.faultless) (typed, is.typed_is, holds))

  module _ (outside : Outside) (old : World) (fits : Fits outside old) where
    file_held : (file bytes : List ℕ) (next : List ℕ → Type 0) → HoldsFile old file bytes → next bytes → AnswersFile F outside file_limit file next
    file_held file bytes next is holds =
        subst (λ (content : Option (List ℕ)). AnswersFound F file_limit file next content)
        (sym (held_outside old.files.held outside.files file bytes fits.files is.held)) (inr (is.few, holds))

    latency_held : (latency : Option (List ℕ)) (latencies : List ℕ) (next : List ℕ → Type 0) → HasLatencies old latency latencies → next latencies
        → AnswersLatency F outside latency next
    latency_held None latencies next is holds = subst next is holds
    latency_held (Some name) latencies next (bytes, is, told) holds = file_held name bytes (AnswersTable F next) is (inl (latencies, told, holds))

    pub program_held : (file : List ℕ) (latency : Option (List ℕ)) (r : Running) (next : List ℕ → TUnit → Type 0) → HoldsProgram old file latency r
        → next r.latencies r.typed → AnswersProgram F outside file latency next
    program_held file latency r next is holds =
        file_held file is.bytes (λ bytes. AnswersLatency F outside latency (λ latencies. AnswersSource F (next latencies) bytes)) is.holds
        (latency_held latency r.latencies (λ latencies. AnswersSource F (next latencies) is.bytes) is.latencies
        (source_held (next r.latencies) is.bytes r.typed is.accepted holds))

-- A TABLE THAT IS REFUSED fails by its fault
pub table_held : (F : Failure → Type 0) (outside : Outside) (old : World) (fits : Fits outside old) (file : List ℕ) (latency : Option (List ℕ)) (fault : TableFault)
    (next : List ℕ → TUnit → Type 0) → HoldsBadTable old file latency fault → F (why.Table fault) → AnswersProgram F outside file latency next
table_held F outside old fits file latency fault next is fails =
    let later : List ℕ → Type 0 = λ latencies. AnswersSource F (next latencies) is.program in
    file_held F outside old fits file is.program (λ bytes. AnswersLatency F outside latency (λ latencies. AnswersSource F (next latencies) bytes)) is.holds_program
    (subst (λ (named : Option (List ℕ)). AnswersLatency F outside named later) (sym is.named)
    (file_held F outside old fits is.name is.bytes (AnswersTable F later) is.holds (inr (fault, is.is_fault, is.refused, fails))))

-- no failure
abbrev pub NoFailure : Failure → Type 0
NoFailure failure = ⊥

refused_table : (next : List ℕ → Type 0) (bytes : List ℕ) (fault : TableFault) → fault ≢ table.Memory → IsRefused bytes fault → AnswersTable NoFailure next bytes → ⊥
refused_table next bytes fault differs refused (inl (latencies, told, holds)) = not_both bytes latencies fault differs told refused
refused_table next bytes fault differs refused (inr (other, other_differs, other_refused, none)) = none

-- and so it makes no program
pub no_program : (outside : Outside) (old : World) (fits : Fits outside old) (file : List ℕ) (latency : Option (List ℕ)) (fault : TableFault)
    (next : List ℕ → TUnit → Type 0) → HoldsBadTable old file latency fault → AnswersProgram NoFailure outside file latency next → ⊥
no_program outside old fits file latency fault next is holds =
    let later : List ℕ → Type 0 = λ latencies. AnswersSource NoFailure (next latencies) is.program in
    let found : AnswersLatency NoFailure outside latency later =
    file_answered NoFailure outside old fits file is.program (λ bytes. AnswersLatency NoFailure outside latency (λ latencies. AnswersSource NoFailure (next latencies) bytes))
    is.holds_program holds in
    let named : AnswersLatency NoFailure outside (Some is.name) later = subst (λ (n : Option (List ℕ)). AnswersLatency NoFailure outside n later) is.named found in
    refused_table later is.bytes fault is.is_fault is.refused (file_answered NoFailure outside old fits is.name is.bytes (AnswersTable NoFailure later) is.holds named)
