-- What making a program ready to run comes to.
use Rattle.std.proofs.Common.{ℕ, ◌≡◌, ◌+◌, ◌≤◌, ◌<◌, ◌⊎◌, Bool, true, false, MatchBool, IsTrue, refl, ap, arith, sym, subst, ◌∙◌, List, [], ◌++◌, length, Option, Some, None, Ok, Err, Vec, Global, inl, inr}
use Rattle.std.proofs.lemmas.List.{length-append, append-nil}
use Rattle.std.specs.Io.KnownBytes.{IsAtEnd}
use Rattle.k_edge.specs.FilesWords.{after}
use Rattle.k_edge.specs.ReadAll.{DrawsFrom, DrawsTooMany, ReadsAll}
use Rattle.k_edge.specs.SourceWords.{SourceState}
use Rattle.k_edge.specs.declared.reading.ReadAllFault.{ReadAllFault}
use Rattle.k_edge.specs.declared.reading.ReadAllFault.TheVariants as reading
use Rattle.k_types_calls.specs.Getchar.{calls_getchar}
use Rattle.k_types_meaning.specs.declared.tree.unit.TUnit.{TUnit}
use Rattle.k_top_answers.specs.declared.failure.Failure.{Failure}
use Rattle.k_top_answers.specs.declared.failure.Failure.TheVariants as why
use Rattle.k_top_lemmas.specs.declared.program.Program.{Program}
use Rattle.k_top_lemmas.specs.declared.running.Ready.{Ready}
use Rattle.k_top_answers.specs.Answers.{FilesCall}
use Rattle.k_top_answers.specs.Failures.{failure_of_reading}
use Rattle.k_top_answers.specs.Requests.{files_of}
use Rattle.k_top_lemmas.specs.Parts.{IfRefusal, ReadsWhere, running_of}
use Rattle.k_top_lemmas.specs.Phases.{AreTold, Around, Everywhere, IsToldInput, MakesReady, ReadsProgram, Seen, Shows, of_files}
use Rattle.k_top_answers.specs.Steps.{AnswersInput, AnswersProgram, AnswersRead, AnswersRunning, Outside, Running, input_limit}
use Rattle.k_top_lemmas.proofs.Agreeing.{program_agrees}
use Rattle.k_top_lemmas.proofs.StepLemmas.{program_maps}

-- what refuses is carried over
pub refusal_maps : (A B : Type 0) (failure : Failure) → (A → B) → IfRefusal failure A → IfRefusal failure B
refusal_maps A B (why.Trapped trap place) f a = f a
refusal_maps A B (why.OutOfSteps steps) f a = f a
refusal_maps A B (why.Lex fault) f a = f a
refusal_maps A B (why.Parse fault) f a = f a
refusal_maps A B (why.Types fault) f a = f a
refusal_maps A B (why.Usage fault) f a = f a
refusal_maps A B (why.Absent file) f a = f a
refusal_maps A B why.ReadFault f a = tt
refusal_maps A B why.WriteFault f a = tt
refusal_maps A B why.NoMemory f a = tt
refusal_maps A B why.InputLong f a = f a
refusal_maps A B (why.Table fault) f a = f a
refusal_maps A B (why.Saved place) f a = f a
refusal_maps A B (why.FileLong file) f a = f a
refusal_maps A B (why.SavedIn file place) f a = f a
refusal_maps A B (why.OtherProgram file) f a = f a
refusal_maps A B (why.SumLarge file) f a = f a

-- an input that was not seen is told by anything
pub not_seen : (left : Option (List ℕ)) → IsToldInput left None
not_seen None = tt
not_seen (Some told) = tt

-- files of a view are files
files_shown : (outside : Outside) (files : List Seen) (input : Option (List ℕ)) → Shows outside (record { files = files; input = input }) → Shows outside (of_files files)
files_shown outside files input shows = record { files = shows.files; input = tt }

-- THE PROGRAM is not read
pub program_failed : (failure : Failure) (file : List ℕ) (latency : Option (List ℕ)) (steps : ℕ) (old new : Around)
    → ReadsProgram (Err failure) file latency old.files new.files → new.input ≡ old.input → MakesReady (Err failure) file latency steps old new
program_failed failure file latency steps old new (files, told, (stops, refusal)) same = (
  of_files files,
  record { files = told; input = not_seen old.input.left },
  (
    inl (tt, (files_of file latency, refl, stops), same),
    refusal_maps _ _ failure
        (λ fails outside shows. program_maps (λ other. other ≡ failure) (λ other. other ≡ failure) (λ latencies typed. ⊥)
        (λ latencies typed. AnswersInput (λ other. other ≡ failure) outside typed (λ input. ⊥))
        (λ other e. e) (λ latencies typed e. absurd e) outside latency file (fails outside shows)) refusal,
  ),
)

-- bytes that were drawn, of which more than the limit were there
too_many : (old new : SourceState) → DrawsTooMany input_limit old new → (whole : List ℕ) × IsToldInput old.left (Some whole) × (input_limit < length whole)
too_many old new (bytes, draws, long) = by_left old.left new.left draws.left
  where
    by_left : (left left' : Option (List ℕ)) → DrawsFrom left bytes left' → (whole : List ℕ) × IsToldInput left (Some whole) × (input_limit < length whole)
    by_left None left' is = (bytes, tt, omega (arith, long))
    by_left (Some told) left' (rest, is, left) =
        let e : length told ≡ length (bytes ++ rest) = ap length is in
        let f = length-append bytes rest in
        (told, refl, omega (arith, long, e, f))

-- a source that calls `getchar` calls for its input
module _ (file : List ℕ) (latency : Option (List ℕ)) (outside : Outside) (p : Program)
    (reads : AnswersProgram (λ failure. ⊥) outside file latency (λ latencies typed. (latencies ≡ p.latencies) × (typed ≡ p.typed))) where
  pub calls : calls_getchar p.typed ≡ true → FilesCall outside file latency
  calls is =
      program_maps (λ failure. ⊥) (λ failure. ⊥) (λ latencies typed. (latencies ≡ p.latencies) × (typed ≡ p.typed)) (λ latencies typed. IsTrue (calls_getchar typed))
      (λ failure e. e) (λ latencies typed e. subst (λ (t : TUnit). IsTrue (calls_getchar t)) (sym e.1) is) outside latency file reads

  -- and one that doesn't does not
  pub calls_not : calls_getchar p.typed ≡ false → FilesCall outside file latency → ⊥
  calls_not is called =
      by_agreeing (program_agrees (λ failure. ⊥) (λ failure. ⊥) (λ latencies typed. (latencies ≡ p.latencies) × (typed ≡ p.typed))
      (λ latencies typed. IsTrue (calls_getchar typed)) outside latency file reads called)
    where
      by_agreeing : (((failure : Failure) × ⊥ × ⊥) ⊎ ((x : List ℕ × TUnit) × ((x.0 ≡ p.latencies) × (x.1 ≡ p.typed)) × IsTrue (calls_getchar x.1))) → ⊥
      by_agreeing (inl (failure, e, f)) = e
      by_agreeing (inr (x, (same, typed), called)) =
          let yes : calls_getchar p.typed ≡ true = subst (λ (t : TUnit). IsTrue (calls_getchar t)) typed called in cc

-- bytes that were drawn up to the end are what the input tells
all_drawn : (left left' : Option (List ℕ)) (bytes : List ℕ) → DrawsFrom left bytes left' → IsAtEnd left' → IsToldInput left (Some bytes)
all_drawn None left' bytes is end = tt
all_drawn (Some told) left' bytes (rest, is, left) end =
    let none : rest ≡ [] = subst IsAtEnd left end in
    is ∙ ap (λ later. bytes ++ later) none ∙ append-nil bytes

-- an input that was read to its end told it once
pub told_once : (old new : SourceState) (bytes : Vec ℕ Global) → ReadsAll (Ok bytes) input_limit old new → new.ended ≤ old.ended + 1
told_once old new bytes (draws, fits, end, faultless, ended) = omega (arith, ended)

module _ (file : List ℕ) (latency : Option (List ℕ)) (steps : ℕ) (p : Program) (files : List Seen) (old new : Around) (told : AreTold old.files.held files)
    (same : new.files ≡ after (files_of file latency) old.files)
    (reads : Everywhere (of_files files) (λ outside. AnswersProgram (λ failure. ⊥) outside file latency (λ latencies typed. (latencies ≡ p.latencies) × (typed ≡ p.typed))))
    (holds_source : Everywhere (of_files files) (λ outside. outside.files file ≡ Some p.source)) where
  -- what the input decides
  with_input : (failed : Failure → Type 0) (next : Running → Type 0) (outside : Outside) → Shows outside (of_files files)
      → AnswersInput failed outside p.typed (λ input. next (record { typed = p.typed; latencies = p.latencies; input = input; steps = steps }))
      → AnswersRunning failed outside file latency steps next
  with_input failed next outside shows holds =
      program_maps (λ failure. ⊥) failed (λ latencies typed. (latencies ≡ p.latencies) × (typed ≡ p.typed))
      (λ latencies typed. AnswersInput failed outside typed (λ input. next (record { typed = typed; latencies = latencies; input = input; steps = steps })))
      (λ failure e. absurd e)
      (λ latencies typed e.
      subst (λ (t : TUnit). AnswersInput failed outside t (λ input. next (record { typed = t; latencies = latencies; input = input; steps = steps }))) (sym e.1)
      (subst (λ l. AnswersInput failed outside p.typed (λ input. next (record { typed = p.typed; latencies = l; input = input; steps = steps }))) (sym e.0) holds))
      outside latency file (reads outside shows)

  -- the input is read
  by_test : (failed : Failure → Type 0) (next : List ℕ → Type 0) (outside : Outside) (b : Bool) → calls_getchar p.typed ≡ b
      → MatchBool b (AnswersRead failed next outside.input) (next []) → AnswersInput failed outside p.typed next
  by_test failed next outside b is holds = subst (λ c. MatchBool c (AnswersRead failed next outside.input) (next [])) (sym is) holds

  calls_input : (input : Option (List ℕ)) → calls_getchar p.typed ≡ true → Everywhere (record { files = files; input = input }) (λ outside. FilesCall outside file latency)
  calls_input input is outside shows = calls file latency outside p (reads outside (files_shown outside files input shows)) is

  -- THE INPUT is not read
  by_fault : calls_getchar p.typed ≡ true → (fault : ReadAllFault) → ReadsAll (Err fault) input_limit old.input new.input
      → MakesReady (Err (failure_of_reading fault)) file latency steps old new
  by_fault is reading.ReadFault (draws, rose, unended) =
      (of_files files, record { files = told; input = not_seen old.input.left }, (inr (inl (calls_input None is, (files_of file latency, refl, same), (draws, rose, unended))), tt))
  by_fault is reading.Memory (draws, faultless, unended) =
      (of_files files, record { files = told; input = not_seen old.input.left }, (inr (inl (calls_input None is, (files_of file latency, refl, same), (draws, faultless, omega (arith, unended)))), tt))
  by_fault is reading.TooLong (draws, faultless, unended) =
      let many = too_many old.input new.input draws in (
        record { files = files; input = Some many.0 },
        record { files = told; input = many.1 },
        (
          inr (inl (calls_input (Some many.0) is, (files_of file latency, refl, same), (draws, faultless, unended))),
          λ outside shows.
              with_input (λ other. other ≡ why.InputLong) (λ running. ⊥) outside (files_shown outside files (Some many.0) shows)
              (by_test (λ other. other ≡ why.InputLong) (λ input. ⊥) outside true is (inl (subst (λ bytes. input_limit < length bytes) shows.input many.2, refl))),
        ),
      )

  unread : (failure : Failure) (b : Bool) → calls_getchar p.typed ≡ b → ReadsWhere b (Err failure) old.input new.input
      → MakesReady (Err failure) file latency steps old new
  unread failure false is e = absurd e
  unread failure true is (fault, same_failure, reads_all) =
      subst (λ f. MakesReady (Err f) file latency steps old new) (sym same_failure) (by_fault is fault reads_all)

  pub input_failed : (failure : Failure) → ReadsWhere (calls_getchar p.typed) (Err failure) old.input new.input → MakesReady (Err failure) file latency steps old new
  input_failed failure reads_all = unread failure (calls_getchar p.typed) refl reads_all

  -- THE PROGRAM AND ITS INPUT are read
  abbrev ready : Vec ℕ Global → Ready
  ready bytes = record { program = p; input = bytes.items; steps = steps }

  abbrev running_on : List ℕ → Running
  running_on input = record { typed = p.typed; latencies = p.latencies; input = input; steps = steps }

  made : (bytes : Vec ℕ Global) (b : Bool) → calls_getchar p.typed ≡ b → ReadsWhere b (Ok bytes) old.input new.input
      → MakesReady (Ok (ready bytes)) file latency steps old new
  made bytes true is (draws, fits, end, faultless, ended) = (
    record { files = files; input = Some bytes.items },
    record { files = told; input = all_drawn old.input.left new.input.left bytes.items draws.left end },
    (
      same,
      inr (bytes, refl, calls_input (Some bytes.items) is, (draws, fits, end, faultless, ended)),
      λ outside shows.
          with_input (λ failure. ⊥) (λ running. running ≡ running_of (ready bytes)) outside (files_shown outside files (Some bytes.items) shows)
          (by_test (λ failure. ⊥) (λ input. running_on input ≡ running_of (ready bytes)) outside true is
          (inr (
            subst (λ input. length input ≤ input_limit) shows.input fits,
            ap running_on (sym shows.input),
          ))),
      λ outside shows. holds_source outside (files_shown outside files (Some bytes.items) shows),
    ),
  )
  made bytes false is (empty, same_input) = (
    of_files files,
    record { files = told; input = not_seen old.input.left },
    (
      same,
      inl (same_input, λ outside shows. calls_not file latency outside p (reads outside shows) is),
      λ outside shows.
          with_input (λ failure. ⊥) (λ running. running ≡ running_of (ready bytes)) outside shows
          (by_test (λ failure. ⊥) (λ input. running_on input ≡ running_of (ready bytes)) outside false is
          (ap running_on (sym empty))),
      holds_source,
    ),
  )

  pub ready_made : (bytes : Vec ℕ Global) → ReadsWhere (calls_getchar p.typed) (Ok bytes) old.input new.input → MakesReady (Ok (ready bytes)) file latency steps old new
  ready_made bytes reads_all = made bytes (calls_getchar p.typed) refl reads_all
