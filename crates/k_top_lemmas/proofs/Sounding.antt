-- A program that is answered for is one of which the laws of runs speak.
use Rattle.std.proofs.Common.{ℕ, ◌≡◌, ◌≤◌, refl, List, [], ◌∷◌, Option, Some, None, Result, Ok, Err, inl, inr}
use Rattle.k_optab.specs.Latencies.{standard_latencies}
use Rattle.k_tree.specs.declared.tokens.Token.{Token}
use Rattle.k_tree.specs.declared.tree.unit.Unit as tree
use Rattle.k_lex.specs.Tokens.{tokens}
use Rattle.k_lex.specs.declared.fault.LexFault.{LexFault}
use Rattle.k_parse.specs.Parse.{IsParse}
use Rattle.k_parse.specs.declared.fault.ParseFault.{ParseFault}
use Rattle.k_types_meaning.specs.Units.{faults}
use Rattle.k_types_meaning.specs.declared.fault.TypeFault.{TypeFault}
use Rattle.k_marks_meaning.specs.Marking.{marks_of}
use Rattle.k_evaluation.specs.Laws.{AreAtMost}
use Rattle.k_types_calls.specs.Getchar.{calls_getchar}
use Rattle.k_types_meaning.specs.declared.tree.unit.TUnit.{TUnit}
use Rattle.k_top_answers.specs.declared.failure.Failure.{Failure}
use Rattle.k_top_answers.specs.Steps.{AnswersFound, AnswersInput, AnswersLatency, AnswersRunning, AnswersSource, AnswersTable, AnswersTokens, AnswersTree, AnswersTyped, Outside, Running, file_limit}
use Rattle.k_top_lemmas.proofs.AskedLemmas.{input_maps}
use Rattle.k_top_lemmas.proofs.LatencyLemmas.{standard_bounded, told_bounded}
use Rattle.k_top_lemmas.proofs.RegionLemmas.{source_accepted, source_regions}
use Rattle.k_top_lemmas.proofs.RunLemmas.{IsSound}
use Rattle.k_top_lemmas.proofs.StepLemmas.{source_maps}

-- what is known of a source that is accepted
abbrev pub IsSoundWith : List ℕ → List ℕ → ℕ → TUnit → Type 0
IsSoundWith latencies input steps typed = IsSound (record { typed = typed; latencies = latencies; input = input; steps = steps })

module _ (F : Failure → Type 0) (P : TUnit → Type 0) (latencies : List ℕ) (bounded : AreAtMost 10000 latencies) (steps : ℕ) (limited : steps ≤ 1000000000)
    (bytes : List ℕ) where
  -- with it
  abbrev With : TUnit → Type 0
  With typed = P typed × ((input : List ℕ) → IsSoundWith latencies input steps typed)

  typed_sound : (list : List Token) (unit : tree.Unit) → tokens bytes ≡ Ok list → IsParse list (Ok unit) → (fs : List TypeFault) → faults unit ≡ fs
      → AnswersTyped F P unit fs → AnswersTyped F With unit fs
  typed_sound list unit lexed parsed (fault ∷ fs) is holds = holds
  typed_sound list unit lexed parsed [] is (typed, is_typed, holds) = (
    typed,
    is_typed,
    (
      holds,
      λ input. record {
        unit = unit;
        accepted = source_accepted bytes list unit (record { unit = typed; marks = marks_of typed; latencies = latencies }) lexed parsed is is_typed bounded;
        regions = source_regions bytes list unit typed lexed parsed is is_typed;
        steps = limited;
      },
    ),
  )

  tree_sound : (list : List Token) → tokens bytes ≡ Ok list → (found : Result tree.Unit ParseFault) → IsParse list found → AnswersTree F P found → AnswersTree F With found
  tree_sound list lexed (Err fault) is holds = holds
  tree_sound list lexed (Ok unit) is holds = typed_sound list unit lexed is (faults unit) refl holds

  tokens_sound : (found : Result (List Token) LexFault) → tokens bytes ≡ found → AnswersTokens F P found → AnswersTokens F With found
  tokens_sound (Err fault) is holds = holds
  tokens_sound (Ok list) is (found, parsed, holds) = (found, parsed, tree_sound list is found parsed holds)

  pub source_sound : AnswersSource F P bytes → AnswersSource F With bytes
  source_sound holds = tokens_sound (tokens bytes) refl holds

module _ (F : Failure → Type 0) (P : Running → Type 0) (outside : Outside) (steps : ℕ) (limited : steps ≤ 1000000000) where
  -- what the input decides of a source with these latencies
  abbrev Input : (Running → Type 0) → List ℕ → TUnit → Type 0
  Input Q latencies typed = AnswersInput F outside typed (λ input. Q (record { typed = typed; latencies = latencies; input = input; steps = steps }))

  abbrev Sound : Running → Type 0
  Sound r = P r × IsSound r

  input_sound : (latencies : List ℕ) (typed : TUnit) → Input P latencies typed × ((input : List ℕ) → IsSoundWith latencies input steps typed) → Input Sound latencies typed
  input_sound latencies typed (holds, sound) =
      input_maps F F (λ failure f. f) (λ input. P (record { typed = typed; latencies = latencies; input = input; steps = steps }))
      (λ input. Sound (record { typed = typed; latencies = latencies; input = input; steps = steps })) (λ input p. (p, sound input))
      (calls_getchar typed) outside.input holds

  by_latencies : (bytes latencies : List ℕ) → AreAtMost 10000 latencies → AnswersSource F (Input P latencies) bytes → AnswersSource F (Input Sound latencies) bytes
  by_latencies bytes latencies bounded holds =
      source_maps F F (λ typed. Input P latencies typed × ((input : List ℕ) → IsSoundWith latencies input steps typed)) (Input Sound latencies) (λ failure f. f)
      (input_sound latencies) bytes (source_sound F (Input P latencies) latencies bounded steps limited bytes holds)

  table_sound : (bytes table : List ℕ) → AnswersTable F (λ l. AnswersSource F (Input P l) bytes) table → AnswersTable F (λ l. AnswersSource F (Input Sound l) bytes) table
  table_sound bytes table (inl (latencies, told, holds)) = inl (latencies, told, by_latencies bytes latencies (told_bounded table latencies told) holds)
  table_sound bytes table (inr refused) = inr refused

  found_sound : (A B : List ℕ → Type 0) → ((bytes : List ℕ) → A bytes → B bytes) → (file : List ℕ) (content : Option (List ℕ)) → AnswersFound F file_limit file A content
      → AnswersFound F file_limit file B content
  found_sound A B maps file None holds = holds
  found_sound A B maps file (Some bytes) (inl long) = inl long
  found_sound A B maps file (Some bytes) (inr (fits, holds)) = inr (fits, maps bytes holds)

  latency_sound : (latency : Option (List ℕ)) (bytes : List ℕ) → AnswersLatency F outside latency (λ l. AnswersSource F (Input P l) bytes)
      → AnswersLatency F outside latency (λ l. AnswersSource F (Input Sound l) bytes)
  latency_sound None bytes holds = by_latencies bytes standard_latencies (standard_bounded standard_latencies refl) holds
  latency_sound (Some name) bytes holds =
      found_sound (AnswersTable F (λ l. AnswersSource F (Input P l) bytes)) (AnswersTable F (λ l. AnswersSource F (Input Sound l) bytes)) (table_sound bytes) name (outside.files name) holds

  pub running_sound : (file : List ℕ) (latency : Option (List ℕ)) → AnswersRunning F outside file latency steps P → AnswersRunning F outside file latency steps Sound
  running_sound file latency holds =
      found_sound (λ bytes. AnswersLatency F outside latency (λ l. AnswersSource F (Input P l) bytes)) (λ bytes. AnswersLatency F outside latency (λ l. AnswersSource F (Input Sound l) bytes))
      (latency_sound latency) file (outside.files file) holds
