-- Words have an answer, whatever the outside holds.
use Rattle.std.proofs.Common.{ℕ, ◌≡◌, ◌≤◌, Bool, true, false, refl, sym, ap, subst, List, [], ◌∷◌, length, Option, Some, None, Result, Ok, Err, inl, inr}
use Rattle.std.specs.Prelude.{MatchBool}
use Rattle.std.proofs.lemmas.Bool.{cases_lt}
use Rattle.k_optab.specs.Latencies.{standard_latencies}
use Rattle.k_tree.specs.declared.tokens.Token.{Token}
use Rattle.k_tree.specs.declared.tree.unit.Unit as tree
use Rattle.k_lex.specs.Tokens.{tokens}
use Rattle.k_lex.specs.declared.fault.LexFault.{LexFault}
use Rattle.k_parse.specs.Parse.{IsParse}
use Rattle.k_parse.specs.declared.fault.ParseFault.{ParseFault}
use Rattle.k_types_meaning.specs.Bare.{IsTyped}
use Rattle.k_types_meaning.specs.Units.{faults}
use Rattle.k_types_meaning.specs.declared.fault.TypeFault.{TypeFault}
use Rattle.k_types_meaning.specs.declared.tree.unit.TUnit.{TUnit}
use Rattle.k_marks_meaning.specs.Marking.{marks_of}
use Rattle.k_evaluation.specs.Laws.{AreAtMost}
use Rattle.k_types_calls.specs.Getchar.{calls_getchar}
use Rattle.k_pragma_written.specs.Written.{if_tokens}
use Rattle.k_top_answers.specs.declared.answer.Answer.{Answer}
use Rattle.k_top_answers.specs.declared.failure.Failure.{Failure}
use Rattle.k_top_answers.specs.declared.failure.Failure.TheVariants as why
use Rattle.k_top_answers.specs.Answers.{refusal}
use Rattle.k_top_answers.specs.Steps.{AnswersFound, AnswersInput, AnswersLatency, AnswersRead, AnswersRunning, AnswersSource, AnswersTable, AnswersTokens, AnswersTree, AnswersTyped, Outside, Running, file_limit, input_limit}
use Rattle.k_top_lemmas.proofs.LatencyLemmas.{standard_bounded, told_bounded}
use Rattle.k_top_lemmas.proofs.RegionLemmas.{source_accepted, source_regions}
use Rattle.k_top_lemmas.proofs.RunLemmas.{IsSound}
use Rattle.k_top_exists.specs.Files.{TellsOrRefuses}
use Rattle.k_top_exists.proofs.Parsed.{lists_are_read}
use Rattle.k_top_exists.proofs.Tables.{table_is_answered}
use Rattle.k_top_exists.proofs.TypedTrees.{faultless_sources_are_typed}

-- the answer is this refusal
abbrev pub refused_by : Answer → Failure → Type 0
refused_by answer failure = answer ≡ refusal failure

-- some answer is so
abbrev pub Answered : (Answer → Type 0) → Type 0
Answered is = (answer : Answer) × is answer

-- a source is run with these latencies, any input, and at most so many operations, and the laws of runs speak of it
abbrev pub IsSoundWith : List ℕ → ℕ → TUnit → Type 0
IsSoundWith latencies steps typed = (input : List ℕ) → IsSound (record { typed = typed; latencies = latencies; input = input; steps = steps })

-- the bytes have a tree
abbrev pub HasTree : List ℕ → Type 0
HasTree bytes = (unit : tree.Unit) × IsParse (if_tokens (tokens bytes)) (Ok unit)

-- A SOURCE is refused or accepted, and then answered
module _ (told : Failure → Answer) (P : Answer → TUnit → Type 0) (latencies : List ℕ) (bounded : AreAtMost 10000 latencies) (steps : ℕ)
    (limited : steps ≤ 1000000000) (bytes : List ℕ) (next : (typed : TUnit) → HasTree bytes → IsSoundWith latencies steps typed → Answered (λ a. P a typed)) where
  accepted_answers : (list : List Token) (unit : tree.Unit) → tokens bytes ≡ Ok list → (parsed : IsParse list (Ok unit)) → faults unit ≡ []
      → (typed : TUnit) × IsTyped unit typed → Answered (λ a. AnswersTyped (λ failure. a ≡ told failure) (P a) unit [])
  accepted_answers list unit lexed parsed is (typed, is_typed) =
      let found : Answered (λ a. P a typed) =
      next typed (unit, subst (λ ts. IsParse ts (Ok unit)) (sym (ap if_tokens lexed)) parsed) (λ input. record {
        unit = unit;
        accepted = source_accepted bytes list unit (record { unit = typed; marks = marks_of typed; latencies = latencies }) lexed parsed is is_typed bounded;
        regions = source_regions bytes list unit typed lexed parsed is is_typed;
        steps = limited;
      }) in
      (found.0, (typed, is_typed, found.1))

  typed_answers : (list : List Token) (unit : tree.Unit) → tokens bytes ≡ Ok list → IsParse list (Ok unit) → (fs : List TypeFault) → faults unit ≡ fs
      → Answered (λ a. AnswersTyped (λ failure. a ≡ told failure) (P a) unit fs)
  typed_answers list unit lexed parsed (fault ∷ fs) is = (told (why.Types fault), refl)
  typed_answers list unit lexed parsed [] is = accepted_answers list unit lexed parsed is (faultless_sources_are_typed unit is)

  tree_answers : (list : List Token) → tokens bytes ≡ Ok list → (found : Result tree.Unit ParseFault) → IsParse list found
      → Answered (λ a. AnswersTree (λ failure. a ≡ told failure) (P a) found)
  tree_answers list lexed (Err fault) is = (told (why.Parse fault), refl)
  tree_answers list lexed (Ok unit) is = typed_answers list unit lexed is (faults unit) refl

  read_answers : (list : List Token) → tokens bytes ≡ Ok list → (found : Result tree.Unit ParseFault) × IsParse list found
      → Answered (λ a. AnswersTokens (λ failure. a ≡ told failure) (P a) (Ok list))
  read_answers list lexed (found, is) = let a : Answered (λ a. AnswersTree (λ failure. a ≡ told failure) (P a) found) = tree_answers list lexed found is in (a.0, (found, is, a.1))

  tokens_answers : (found : Result (List Token) LexFault) → tokens bytes ≡ found → Answered (λ a. AnswersTokens (λ failure. a ≡ told failure) (P a) found)
  tokens_answers (Err fault) is = (told (why.Lex fault), refl)
  tokens_answers (Ok list) is = let read = lists_are_read bytes list is in read_answers list is (read.0, read.1)

  pub source_answers : Answered (λ a. AnswersSource (λ failure. a ≡ told failure) (P a) bytes)
  source_answers = tokens_answers (tokens bytes) refl

-- A FILE is absent, too long, or answered, by what it holds
pub content_answers : (limit : ℕ) (file : List ℕ) (N : Answer → List ℕ → Type 0) (content : Option (List ℕ))
    → ((bytes : List ℕ) → content ≡ Some bytes → length bytes ≤ limit → Answered (λ a. N a bytes)) → Answered (λ a. AnswersFound (refused_by a) limit file (N a) content)
content_answers limit file N None next = (refusal (why.Absent file), refl)
content_answers limit file N (Some bytes) next =
    elim (cases_lt limit (length bytes)) [
      | inl long ↦ (refusal (why.FileLong file), inl (long, refl))
      | inr fits ↦ (let a : Answered (λ a. N a bytes) = next bytes refl fits in (a.0, inr (fits, a.1)))
    ]

-- the same by its bytes alone
pub found_answers : (limit : ℕ) (file : List ℕ) (N : Answer → List ℕ → Type 0) → ((bytes : List ℕ) → length bytes ≤ limit → Answered (λ a. N a bytes)) → (content : Option (List ℕ))
    → Answered (λ a. AnswersFound (refused_by a) limit file (N a) content)
found_answers limit file N next content = content_answers limit file N content (λ bytes is. next bytes)

-- THE LATENCIES
module _ (N : Answer → List ℕ → Type 0) (next : (latencies : List ℕ) → AreAtMost 10000 latencies → Answered (λ a. N a latencies)) where
  by_table : (bytes : List ℕ) → TellsOrRefuses bytes → Answered (λ a. AnswersTable (refused_by a) (N a) bytes)
  by_table bytes (inl (latencies, is)) =
      let a : Answered (λ a. N a latencies) = next latencies (told_bounded bytes latencies is) in (a.0, inl (latencies, is, a.1))
  by_table bytes (inr (fault, other, is)) = (refusal (why.Table fault), inr (fault, other, is, refl))

  pub latency_answers : (outside : Outside) (latency : Option (List ℕ)) → Answered (λ a. AnswersLatency (refused_by a) outside latency (N a))
  latency_answers outside None = next standard_latencies (standard_bounded standard_latencies refl)
  latency_answers outside (Some file) =
      found_answers file_limit file (λ a. AnswersTable (refused_by a) (N a)) (λ bytes fits. by_table bytes (table_is_answered bytes)) (outside.files file)

-- THE INPUT is too long, or read, or not asked for
pub input_answers : (N : Answer → List ℕ → Type 0) → ((input : List ℕ) → Answered (λ a. N a input)) → (asked : Bool) (bytes : List ℕ)
    → Answered (λ a. MatchBool asked (AnswersRead (refused_by a) (N a) bytes) (N a []))
input_answers N next false bytes = next []
input_answers N next true bytes =
    elim (cases_lt input_limit (length bytes)) [
      | inl long ↦ (refusal why.InputLong, inl (long, refl))
      | inr fits ↦ (let a : Answered (λ a. N a bytes) = next bytes in (a.0, inr (fits, a.1)))
    ]

-- A PROGRAM OF TWO FILES WITH ITS INPUT
module _ (outside : Outside) (steps : ℕ) (limited : steps ≤ 1000000000) (P : Answer → Running → Type 0) where
  -- what the input decides of a source with these latencies
  abbrev Input : Answer → List ℕ → TUnit → Type 0
  Input a latencies typed = AnswersInput (refused_by a) outside typed (λ input. P a (record { typed = typed; latencies = latencies; input = input; steps = steps }))

  by_input : ((r : Running) → IsSound r → Answered (λ a. P a r)) → (latencies : List ℕ) (typed : TUnit) → IsSoundWith latencies steps typed
      → Answered (λ a. Input a latencies typed)
  by_input next latencies typed sound =
      input_answers (λ a input. P a (record { typed = typed; latencies = latencies; input = input; steps = steps }))
      (λ input. next (record { typed = typed; latencies = latencies; input = input; steps = steps }) (sound input)) (calls_getchar typed) outside.input

  by_source : (bytes : List ℕ) → (HasTree bytes → (r : Running) → IsSound r → Answered (λ a. P a r)) → (latencies : List ℕ) → AreAtMost 10000 latencies
      → Answered (λ a. AnswersSource (refused_by a) (Input a latencies) bytes)
  by_source bytes next latencies bounded =
      source_answers refusal (λ a. Input a latencies) latencies bounded steps limited bytes (λ typed has. by_input (next has) latencies typed)

  -- where the answer depends on the source that the file holds, and on its tree
  pub held_answers : (file : List ℕ)
      → ((bytes : List ℕ) → outside.files file ≡ Some bytes → HasTree bytes → (r : Running) → IsSound r → Answered (λ a. P a r))
      → (latency : Option (List ℕ)) → Answered (λ a. AnswersRunning (refused_by a) outside file latency steps (P a))
  held_answers file next latency =
      content_answers file_limit file (λ a bytes. AnswersLatency (refused_by a) outside latency (λ l. AnswersSource (refused_by a) (Input a l) bytes))
      (outside.files file) (λ bytes is fits. latency_answers (λ a l. AnswersSource (refused_by a) (Input a l) bytes) (by_source bytes (next bytes is)) outside latency)

  pub running_answers : ((r : Running) → IsSound r → Answered (λ a. P a r)) → (file : List ℕ) (latency : Option (List ℕ))
      → Answered (λ a. AnswersRunning (refused_by a) outside file latency steps (P a))
  running_answers next file latency = held_answers file (λ bytes is has. next) latency

-- the file of a program is absent
pub absent_answers : (outside : Outside) (steps : ℕ) (P : Answer → Running → Type 0) (file : List ℕ) (latency : Option (List ℕ)) → outside.files file ≡ None
    → Answered (λ a. AnswersRunning (refused_by a) outside file latency steps (P a))
absent_answers outside steps P file latency is =
    let gone : Answer = refusal (why.Absent file) in (
      gone,
      at_content (λ bytes. AnswersLatency (refused_by gone) outside latency (λ l. AnswersSource (refused_by gone)
          (λ typed. AnswersInput (refused_by gone) outside typed (λ input. P gone (record { typed = typed; latencies = l; input = input; steps = steps }))) bytes)),
    )
  where
    at_content : (next : List ℕ → Type 0) → AnswersFound (refused_by (refusal (why.Absent file))) file_limit file next (outside.files file)
    at_content next = subst (λ content. AnswersFound (refused_by (refusal (why.Absent file))) file_limit file next content) (sym is) refl
