-- Two answers to the same step agree: both are of one failure, or both go on with what the step gives.
use Rattle.std.proofs.Common.{ℕ, ◌≡◌, ◌≢◌, ◌⊎◌, Bool, true, false, MatchBool, refl, ap, arith, sym, subst, ◌∙◌, List, [], ◌∷◌, Option, Some, None, Result, Ok, Err, inl, inr}
use Rattle.std.proofs.lemmas.Option.{same_Some}
use Rattle.k_optab.specs.Latencies.{standard_latencies}
use Rattle.k_optab.specs.TomlTable.{IsRefused, IsTold, document_faults, table_of}
use Rattle.k_optab.specs.declared.toml_table.TableFault.{TableFault}
use Rattle.k_optab.specs.declared.toml_table.TableFault.TheVariants as table
use Rattle.k_tree.specs.declared.tokens.Token.{Token}
use Rattle.k_tree.specs.declared.tree.unit.Unit as tree
use Rattle.k_lex.specs.Tokens.{tokens}
use Rattle.k_lex.specs.declared.fault.LexFault.{LexFault}
use Rattle.k_parse.proofs.OneAnswer.{one_answer}
use Rattle.k_parse.specs.declared.fault.ParseFault.{ParseFault}
use Rattle.k_types_meaning.proofs.OneTree.{one_typed_tree}
use Rattle.k_types_meaning.specs.Units.{faults}
use Rattle.k_types_meaning.specs.declared.fault.TypeFault.{TypeFault}
use Rattle.k_types_meaning.specs.declared.tree.unit.TUnit.{TUnit}
use Rattle.k_types_calls.specs.Getchar.{calls_getchar}
use Rattle.k_top_answers.specs.declared.failure.Failure.{Failure}
use Rattle.k_top_answers.specs.declared.failure.Failure.TheVariants as why
use Rattle.k_top_answers.specs.Steps.{AnswersFound, AnswersFile, AnswersInput, AnswersLatency, AnswersProgram, AnswersRead, AnswersRunning, AnswersSource, AnswersTable, AnswersTokens, AnswersTree, AnswersTyped, Outside, Running, file_limit}

-- there is one failure, or one thing that is given
abbrev pub Agree : {A : Type 0} → (Failure → Type 0) → (Failure → Type 0) → (A → Type 0) → (A → Type 0) → Type 0
Agree {A = A} F G P Q = ((failure : Failure) × F failure × G failure) ⊎ ((x : A) × P x × Q x)

-- what bytes tell of a table is one thing
told_same : (bytes : List ℕ) (one other : Result (List ℕ) TableFault) → IsTold bytes one → IsTold bytes other → one ≡ other
told_same bytes one other (d, (utf, is), order, gives) (e, (utf', is'), order', gives') =
    sym gives ∙ ap (λ x. table_of x (document_faults x)) (same_Some d e (sym is ∙ is')) ∙ gives'

-- latencies, or something in their place
abbrev latencies_in : Result (List ℕ) TableFault → List ℕ
latencies_in (Ok latencies) = latencies
latencies_in (Err fault) = []

-- a fault, or something in its place
abbrev fault_in : Result (List ℕ) TableFault → TableFault
fault_in (Ok latencies) = table.Memory
fault_in (Err fault) = fault

-- bytes that are refused tell no latencies
not_both : (bytes latencies : List ℕ) (fault : TableFault) → fault ≢ table.Memory → IsTold bytes (Ok latencies) → IsRefused bytes fault → ⊥
not_both bytes latencies table.NotToml other told refused = refused told.0 told.1
not_both bytes latencies (table.UnknownKey key) other told refused = other (ap fault_in (sym (told_same bytes _ _ told refused)))
not_both bytes latencies (table.NotWhole key) other told refused = other (ap fault_in (sym (told_same bytes _ _ told refused)))
not_both bytes latencies (table.OutOfRange key number) other told refused = other (ap fault_in (sym (told_same bytes _ _ told refused)))
not_both bytes latencies table.Memory other told refused = other refl

-- a fault that a document has
told_fault : (bytes : List ℕ) (fault : TableFault) → IsTold bytes (Err fault) → (other : TableFault) → other ≢ table.Memory → IsRefused bytes other → fault ≡ other
told_fault bytes fault told table.NotToml differs refused = absurd (refused told.0 told.1)
told_fault bytes fault told (table.UnknownKey key) differs refused = ap fault_in (told_same bytes _ _ told refused)
told_fault bytes fault told (table.NotWhole key) differs refused = ap fault_in (told_same bytes _ _ told refused)
told_fault bytes fault told (table.OutOfRange key number) differs refused = ap fault_in (told_same bytes _ _ told refused)
told_fault bytes fault told table.Memory differs refused = absurd (differs refl)

-- bytes are no document
not_told : (bytes : List ℕ) → IsRefused bytes table.NotToml → (other : TableFault) → other ≢ table.Memory → IsRefused bytes other → table.NotToml ≡ other
not_told bytes none table.NotToml differs refused = refl
not_told bytes none (table.UnknownKey key) differs refused = absurd (none refused.0 refused.1)
not_told bytes none (table.NotWhole key) differs refused = absurd (none refused.0 refused.1)
not_told bytes none (table.OutOfRange key number) differs refused = absurd (none refused.0 refused.1)
not_told bytes none table.Memory differs refused = absurd (differs refl)

-- bytes are refused by one fault
one_fault : (bytes : List ℕ) (one other : TableFault) → one ≢ table.Memory → other ≢ table.Memory → IsRefused bytes one → IsRefused bytes other → one ≡ other
one_fault bytes table.NotToml other differs differs' refused refused' = not_told bytes refused other differs' refused'
one_fault bytes (table.UnknownKey key) other differs differs' refused refused' = told_fault bytes (table.UnknownKey key) refused other differs' refused'
one_fault bytes (table.NotWhole key) other differs differs' refused refused' = told_fault bytes (table.NotWhole key) refused other differs' refused'
one_fault bytes (table.OutOfRange key number) other differs differs' refused refused' = told_fault bytes (table.OutOfRange key number) refused other differs' refused'
one_fault bytes table.Memory other differs differs' refused refused' = absurd (differs refl)

module _ (F G : Failure → Type 0) where
  module _ (P Q : List ℕ → Type 0) where
    -- a content
    found_agree : (limit : ℕ) (file : List ℕ) (content : Option (List ℕ)) → AnswersFound F limit file P content → AnswersFound G limit file Q content → Agree F G P Q
    found_agree limit file None f g = inl (why.Absent file, f, g)
    found_agree limit file (Some bytes) (inl (long, f)) (inl (long', g)) = inl (why.FileLong file, f, g)
    found_agree limit file (Some bytes) (inl (long, f)) (inr (fits, q)) = absurd (omega (arith, long, fits))
    found_agree limit file (Some bytes) (inr (fits, p)) (inl (long, g)) = absurd (omega (arith, long, fits))
    found_agree limit file (Some bytes) (inr (fits, p)) (inr (fits', q)) = inr (bytes, p, q)

    -- a file
    pub file_agrees : (outside : Outside) (limit : ℕ) (file : List ℕ) → AnswersFile F outside limit file P → AnswersFile G outside limit file Q → Agree F G P Q
    file_agrees outside limit file p q = found_agree limit file (outside.files file) p q

    -- the bytes of a table
    table_agrees : (bytes : List ℕ) → AnswersTable F P bytes → AnswersTable G Q bytes → Agree F G P Q
    table_agrees bytes (inl (a, told, p)) (inl (b, told', q)) =
        inr (a, p, subst Q (ap latencies_in (sym (told_same bytes _ _ told told'))) q)
    table_agrees bytes (inl (a, told, p)) (inr (fault, differs, refused, g)) = absurd (not_both bytes a fault differs told refused)
    table_agrees bytes (inr (fault, differs, refused, f)) (inl (b, told, q)) = absurd (not_both bytes b fault differs told refused)
    table_agrees bytes (inr (fault, differs, refused, f)) (inr (other, differs', refused', g)) =
        inl (why.Table fault, f, subst (λ t. G (why.Table t)) (sym (one_fault bytes fault other differs differs' refused refused')) g)

    -- the input
    read_agrees : (bytes : List ℕ) → AnswersRead F P bytes → AnswersRead G Q bytes → Agree F G P Q
    read_agrees bytes (inl (long, f)) (inl (long', g)) = inl (why.InputLong, f, g)
    read_agrees bytes (inl (long, f)) (inr (fits, q)) = absurd (omega (arith, long, fits))
    read_agrees bytes (inr (fits, p)) (inl (long, g)) = absurd (omega (arith, long, fits))
    read_agrees bytes (inr (fits, p)) (inr (fits', q)) = inr (bytes, p, q)

  -- a source
  module _ (P Q : TUnit → Type 0) where
    typed_agree : (unit : tree.Unit) (fs : List TypeFault) → AnswersTyped F P unit fs → AnswersTyped G Q unit fs → Agree F G P Q
    typed_agree unit (fault ∷ fs) f g = inl (why.Types fault, f, g)
    typed_agree unit [] (typed, is, p) (other, is', q) =
        inr (
          typed,
          p,
          subst Q (sym (one_typed_tree unit typed other is is')) q,
        )

    tree_agree : (found : Result tree.Unit ParseFault) → AnswersTree F P found → AnswersTree G Q found → Agree F G P Q
    tree_agree (Err fault) f g = inl (why.Parse fault, f, g)
    tree_agree (Ok unit) p q = typed_agree unit (faults unit) p q

    tokens_agree : (found : Result (List Token) LexFault) → AnswersTokens F P found → AnswersTokens G Q found → Agree F G P Q
    tokens_agree (Err fault) f g = inl (why.Lex fault, f, g)
    tokens_agree (Ok list) (found, is, p) (other, is', q) =
        tree_agree found p (subst (λ r. AnswersTree G Q r) (sym (one_answer list found other is is')) q)

    pub source_agrees : (bytes : List ℕ) → AnswersSource F P bytes → AnswersSource G Q bytes → Agree F G P Q
    source_agrees bytes p q = tokens_agree (tokens bytes) p q

  module _ (P Q : List ℕ → Type 0) where
    by_table : Agree {A = List ℕ} F G (AnswersTable F P) (AnswersTable G Q) → Agree F G P Q
    by_table (inl fails) = inl fails
    by_table (inr (bytes, p, q)) = table_agrees P Q bytes p q

    -- the latencies
    latency_agrees : (outside : Outside) (latency : Option (List ℕ)) → AnswersLatency F outside latency P → AnswersLatency G outside latency Q → Agree F G P Q
    latency_agrees outside None p q = inr (standard_latencies, p, q)
    latency_agrees outside (Some file) p q = by_table (file_agrees (AnswersTable F P) (AnswersTable G Q) outside file_limit file p q)

    by_read : (b : Bool) (bytes : List ℕ) → MatchBool b (AnswersRead F P bytes) (P []) → MatchBool b (AnswersRead G Q bytes) (Q []) → Agree F G P Q
    by_read true bytes p q = read_agrees P Q bytes p q
    by_read false bytes p q = inr ([], p, q)

    -- the input
    input_agrees : (outside : Outside) (typed : TUnit) → AnswersInput F outside typed P → AnswersInput G outside typed Q → Agree F G P Q
    input_agrees outside typed p q = by_read (calls_getchar typed) outside.input p q

  -- a program of two files
  module _ (P Q : List ℕ → TUnit → Type 0) where
    -- they are of the same latencies and of the same source
    abbrev pub AgreeOn : Type 0
    AgreeOn = Agree {A = List ℕ × TUnit} F G (λ x. P x.0 x.1) (λ x. Q x.0 x.1)

    by_source : (latencies : List ℕ) → Agree F G (P latencies) (Q latencies) → AgreeOn
    by_source latencies (inl fails) = inl fails
    by_source latencies (inr (source, p, q)) = inr ((latencies, source), p, q)

    by_latency : (bytes : List ℕ) → Agree {A = List ℕ} F G (λ l. AnswersSource F (P l) bytes) (λ l. AnswersSource G (Q l) bytes) → AgreeOn
    by_latency bytes (inl fails) = inl fails
    by_latency bytes (inr (latencies, p, q)) = by_source latencies (source_agrees (P latencies) (Q latencies) bytes p q)

    module _ (outside : Outside) (latency : Option (List ℕ)) where
      by_file : Agree {A = List ℕ} F G (λ bytes. AnswersLatency F outside latency (λ l. AnswersSource F (P l) bytes)) (λ bytes. AnswersLatency G outside latency (λ l. AnswersSource G (Q l) bytes))
          → AgreeOn
      by_file (inl fails) = inl fails
      by_file (inr (bytes, p, q)) =
          by_latency bytes (latency_agrees (λ l. AnswersSource F (P l) bytes) (λ l. AnswersSource G (Q l) bytes) outside latency p q)

      pub program_agrees : (file : List ℕ) → AnswersProgram F outside file latency P → AnswersProgram G outside file latency Q → AgreeOn
      program_agrees file p q =
          by_file (file_agrees (λ bytes. AnswersLatency F outside latency (λ l. AnswersSource F (P l) bytes))
          (λ bytes. AnswersLatency G outside latency (λ l. AnswersSource G (Q l) bytes)) outside file_limit file p q)

  -- a program of two files with its input
  module _ (P Q : Running → Type 0) (outside : Outside) (steps : ℕ) where
    by_input : (latencies : List ℕ) (typed : TUnit)
        → Agree {A = List ℕ} F G (λ input. P (record { typed = typed; latencies = latencies; input = input; steps = steps }))
        (λ input. Q (record { typed = typed; latencies = latencies; input = input; steps = steps })) → Agree F G P Q
    by_input latencies typed (inl fails) = inl fails
    by_input latencies typed (inr (input, p, q)) = inr (record { typed = typed; latencies = latencies; input = input; steps = steps }, p, q)

    by_program : AgreeOn (λ latencies typed. AnswersInput F outside typed (λ input. P (record { typed = typed; latencies = latencies; input = input; steps = steps })))
        (λ latencies typed. AnswersInput G outside typed (λ input. Q (record { typed = typed; latencies = latencies; input = input; steps = steps })))
        → Agree F G P Q
    by_program (inl fails) = inl fails
    by_program (inr ((latencies, typed), p, q)) =
        by_input latencies typed (input_agrees (λ input. P (record { typed = typed; latencies = latencies; input = input; steps = steps }))
        (λ input. Q (record { typed = typed; latencies = latencies; input = input; steps = steps })) outside typed p q)

    pub running_agrees : (file : List ℕ) (latency : Option (List ℕ)) → AnswersRunning F outside file latency steps P → AnswersRunning G outside file latency steps Q
        → Agree F G P Q
    running_agrees file latency p q = by_program (program_agrees _ _ outside latency file p q)
