-- What running the lowered code of an accepted program comes to, in terms of the program's run.
use Rattle.std.proofs.Common.{ℕ, ℤ, ◌≡◌, Bool, ap, sym, subst, ◌∙◌, List, [], ◌++◌, length, map, Option, Result, Ok, Err, FitsSigned, w32, to_z, of_z}
use Rattle.std.proofs.lemmas.Int.{to_z-of_z}
use Rattle.k_edge.specs.SinkWords.{SinkState, GrowsInPart}
use Rattle.k_edge.specs.declared.sink.PutFault.TheVariants as putting
use Rattle.k_optab.specs.declared.event.Event.{Event}
use Rattle.k_optab.specs.declared.node.Node.{Node}
use Rattle.k_optab.specs.declared.region.Region.{Region}
use Rattle.k_optab.specs.Events.{operations}
use Rattle.k_optab.specs.Tree.{IsTree}
use Rattle.k_ending.specs.declared.ending.End.{End}
use Rattle.k_ending.specs.declared.ending.End.TheVariants.{OutOfSteps, Returned, Trapped}
use Rattle.k_marks_meaning.specs.Marking.{marks_of}
use Rattle.k_marks_meaning.specs.declared.Marks.{Marks}
use Rattle.k_evaluation.specs.Deeds.{deeds}
use Rattle.k_evaluation.specs.Runs.{run}
use Rattle.k_evaluation.specs.States as evaluation
use Rattle.k_code.specs.declared.code.Code.{Code}
use Rattle.k_code.specs.Runs.{HasOutcome}
use Rattle.k_code.proofs.Stepping.{one_outcome}
use Rattle.k_carry.specs.Answer.{TellsOf}
use Rattle.k_carry_pairs.specs.Carried.{AreCarried}
use Rattle.k_carry_pairs.specs.declared.pairs.CarriedPairs.{CarriedPairs}
use Rattle.k_carry_pairs.specs.declared.pairs.LoopPairs.{LoopPairs}
use Rattle.k_carry_text.specs.Lines.{carried_text}
use Rattle.k_carry_storage_pairs.specs.Accesses.{access_of}
use Rattle.k_carry_storage_pairs.specs.Deep.{AreDeep}
use Rattle.k_carry_storage_pairs.specs.Storage.{AreShared}
use Rattle.k_carry_storage_pairs.specs.declared.pairs.StoragePairs.{StoragePairs}
use Rattle.k_carry_storage.specs.declared.told.StorageTold.{StorageTold}
use Rattle.k_carry_storage.specs.Answer as storage
use Rattle.k_carry_storage.proofs.OneRun.{untold_outcome}
use Rattle.k_carry_storage_laws.proofs.Programs.{storage_of_programs}
use Rattle.k_lower_code.specs.Programs.{flattened}
use Rattle.k_hcpa.specs.Profiles.{HoldsLast, IsCut, IsProfile, IsSummary, RunsHeld}
use Rattle.k_hcpa.specs.declared.profile.Profile.{Profile}
use Rattle.k_hcpa.specs.declared.profile.RunFault.{RunFault}
use Rattle.k_hcpa.specs.declared.profile.RunFault.TheVariants as run_fault
use Rattle.k_hcpa.specs.declared.profile.Summary.{Summary}
use Rattle.k_hcpa.specs.declared.profile.Summary.TheVariants as summary
use Rattle.k_dict_entries.specs.declared.entry.Entry.{Entry}
use Rattle.k_regions.specs.Regions.{regions_of}
use Rattle.k_report_profile.specs.RunReport.{Ran}
use Rattle.k_report_profile.specs.Summed.{AreTold, IsSummed}
use Rattle.k_tree.specs.declared.tree.unit.Unit as source
use Rattle.k_lower_accepted.specs.Accepted.{IsAccepted}
use Rattle.k_top_lemmas.specs.declared.program.Program.{Program}
use Rattle.k_top_lemmas.specs.declared.running.Ready.{Ready}
use Rattle.k_top_answers.specs.declared.answer.Answer.{Answer}
use Rattle.k_top_answers.specs.Answers.{AnswersCarried, ToldCarried, done, ended, ran_of}
use Rattle.k_top_answers.specs.Steps.{Running, run_of}
use Rattle.k_top_answers.specs.Storage.{HasStorage, accesses_of}
use Rattle.k_top_lemmas.specs.Parts.{IsFit, IsProfileOfRun, RunsProgram, TellsOfLoops, WritesLoops, dict_of, program_of, put_result, running_of}
use Rattle.k_top_lemmas.proofs.Growing.{grows_no_part}
use Rattle.k_top_lemmas.proofs.RunLemmas.{run_few, run_gives_int, run_whole, sound}

-- so it is where some source is accepted as this program, with its marks
abbrev pub WhereAccepted : Program → Type 0 → Type 0
WhereAccepted p claim = (unit : source.Unit) → IsAccepted unit (program_of p) → p.marks ≡ marks_of p.typed → claim

-- what is promised of an accepted program is so of one that is fit to run
pub where_fit : (ready : Ready) (depth : ℕ) → IsFit ready depth → (claim : Type 0) → WhereAccepted ready.program claim → claim
where_fit ready depth fit claim promised = promised fit.program.unit fit.program.accepted fit.program.marks

-- this code runs as the program
abbrev pub RunsAs : Program → Code → Type 0
RunsAs p code = (input : List ℕ) (budget : ℕ)
    → HasOutcome code input budget (run (program_of p) input budget).events (run (program_of p) input budget).output (run (program_of p) input budget).end

module _ (ready : Ready) (depth : ℕ) (fit : IsFit ready depth) (code : Code) where
  -- the code runs as the program, with the marks of its source
  outcome : RunsAs ready.program code → HasOutcome code ready.input ready.steps (run_of (running_of ready)).events (run_of (running_of ready)).output (run_of (running_of ready)).end
  unfolding run_of
  outcome runs =
      let with_marks : Marks → evaluation.Program = λ marks. record { unit = ready.program.typed; marks = marks; latencies = ready.program.latencies } in
      subst (λ (marks : Marks). HasOutcome code ready.input ready.steps (run (with_marks marks) ready.input ready.steps).events
      (run (with_marks marks) ready.input ready.steps).output (run (with_marks marks) ready.input ready.steps).end) fit.program.marks (runs ready.input ready.steps)

  -- what is told of the storage of the code's run is told of the program's
  pub storage_told : code ≡ flattened (program_of ready.program) → (s : StoragePairs) → storage.TellsOf code ready.input ready.steps depth s
      → HasStorage (running_of ready) depth s.loops
  unfolding run_of accesses_of
  storage_told same s is =
      let with_marks : Marks → evaluation.Program = λ marks. record { unit = ready.program.typed; marks = marks; latencies = ready.program.latencies } in
      let flat : storage.TellsOf (flattened (program_of ready.program)) ready.input ready.steps depth s =
      subst (λ (c : Code). storage.TellsOf c ready.input ready.steps depth s) same is in
      subst (λ (marks : Marks). AreShared (regions_of ready.program.typed) depth (run (with_marks marks) ready.input ready.steps).events
      (map access_of (deeds (with_marks marks) ready.input ready.steps)) s.loops) fit.program.marks
      (storage_of_programs fit.program.unit (program_of ready.program) fit.program.accepted fit.program.marks ready.input ready.steps depth s flat).1

  module _ (runs : RunsAs ready.program code) where
    profile_of : (put : List ℕ) (p : Profile) → IsProfile code ready.input ready.steps depth put p → HoldsLast put p.rest → IsProfileOfRun (running_of ready) depth put p
    profile_of put p is left =
        let same = one_outcome code ready.input ready.steps is.events (run_of (running_of ready)).events (put ++ p.rest) (run_of (running_of ready)).output
        p.end (run_of (running_of ready)).end is.outcome (outcome runs) in
        record {
          end = same.2;
          ops = is.ops ∙ ap (λ (es : List Event). length (operations es)) same.0;
          output = same.1;
          written = is.written ∙ ap length same.1;
          held = left.last;
          summary = subst (λ (es : List Event). IsSummary depth es p.end p.summary) same.0 is.summary;
        }

    its_output : (events : List Event) (output : List ℕ) (end : End) → HasOutcome code ready.input ready.steps events output end → output ≡ (run_of (running_of ready)).output
    its_output events output end is =
        (one_outcome code ready.input ready.steps events (run_of (running_of ready)).events output (run_of (running_of ready)).output end
        (run_of (running_of ready)).end is (outcome runs)).1

    cut_of : (old new : SinkState) → IsCut code ready.input ready.steps old new → GrowsInPart old.written (run_of (running_of ready)).output new.written
    cut_of old new cut =
        subst (λ (output : List ℕ). GrowsInPart old.written output new.written) (its_output cut.events cut.output cut.end cut.outcome) cut.part

    -- SO THE PROGRAM RUNS
    pub runs_program : (result : Result Profile RunFault) (old new : SinkState) → RunsHeld code ready.input ready.steps depth result old new
        → RunsProgram (running_of ready) depth (put_result result) old new
    runs_program (Ok p) old new (bytes, grows, calm, is, left) = (bytes, (grows, calm), profile_of bytes p is left)
    runs_program (Err run_fault.Write) old new (cut, some, rose) =
        ((λ none. some (its_output cut.events cut.output cut.end cut.outcome ∙ none)), cut_of old new cut, rose)
    runs_program (Err run_fault.Memory) old new (cut, calm) = (cut_of old new cut, calm)

    -- and its loops carry what those of the code do
    pub loops_told : code.regions ≡ regions_of ready.program.typed → (c : CarriedPairs) → TellsOf code ready.input ready.steps depth c → TellsOfLoops (running_of ready) depth c
    loops_told regions c is =
        let same = one_outcome code ready.input ready.steps is.events (run_of (running_of ready)).events is.output (run_of (running_of ready)).output
        c.end (run_of (running_of ready)).end is.outcome (outcome runs) in
        record {
          end = same.2;
          are_carried = subst (λ (rs : List Region). AreCarried rs depth (run_of (running_of ready)).events c.loops) regions
              (subst (λ (es : List Event). AreCarried code.regions depth es c.loops) same.0 is.carried);
        }

    -- and so is which of its regions had an instance that is not tracked
    pub deep_told : (t : StorageTold) → storage.TellsAllOf code ready.input ready.steps depth t → AreDeep depth (run_of (running_of ready)).events t.deep
    deep_told t is =
        let pairs = is.pairs in
        let events = (one_outcome code ready.input ready.steps pairs.events (run_of (running_of ready)).events pairs.output (run_of (running_of ready)).output
        t.pairs.end (run_of (running_of ready)).end
        (untold_outcome code ready.input ready.steps pairs.deeds pairs.events pairs.output t.pairs.end pairs.outcome) (outcome runs)).0 in
        subst (λ (es : List Event). AreDeep depth es t.deep) events is.deep

-- no memory was found before the run
pub not_run : (r : Running) (depth : ℕ) (old new : SinkState) → new ≡ old → RunsProgram r depth (Err putting.Memory) old new
not_run r depth old new same =
    subst (λ (s : SinkState). RunsProgram r depth (Err putting.Memory) old s) (sym same) (grows_no_part old.written (run_of r).output, λ i. old.faults)

-- WHERE MAIN RETURNED the tree is told
told_of : (depth : ℕ) (events : List Event) (exit : ℤ) (s : Summary) → IsSummary depth events (Returned exit) s
    → (nodes : List Node) × IsTree depth events nodes × AreTold nodes (dict_of s)
told_of depth events exit summary.Missing is = absurd is
told_of depth events exit summary.Large (entries, which, is) =
    (is.nodes, is.is_tree, record { entries = entries; which = which; dict = is.is_dictionary; passed = is.within })
told_of depth events exit (summary.Whole entries) is = (is.nodes, is.is_tree, (is.is_dictionary, is.within))

-- so the run is summed up by its profile
summed_up : (ready : Ready) (depth : ℕ) → IsFit ready depth → (put : List ℕ) (p : Profile) → IsProfileOfRun (running_of ready) depth put p → (exit : ℤ)
    → p.end ≡ Returned exit → IsSummed exit p.ops (regions_of ready.program.typed) (dict_of p.summary) (ran_of (running_of ready) exit depth)
summed_up ready depth fit put p is exit returned =
    let so = sound ready depth fit in
    let fits = run_gives_int (running_of ready) so exit (sym is.end ∙ returned) in
    let tells = told_of depth (run_of (running_of ready)).events exit p.summary
    (subst (λ (end : End). IsSummary depth (run_of (running_of ready)).events end p.summary) returned is.summary) in
    record {
      whole = run_whole (running_of ready) so exit depth (sym is.end ∙ returned) fits fit.some fit.tracked;
      exit_is = λ i. exit;
      ops_are = is.ops;
      regions_are = λ i. regions_of ready.program.typed;
      nodes = tells.0;
      tree = tells.1;
      few = run_few (running_of ready) depth tells.0 so tells.1;
      told = tells.2;
    }

-- what main returned is an int, as it is shown
pub shown_returned : (ready : Ready) (depth : ℕ) → IsFit ready depth → (put : List ℕ) (p : Profile) → IsProfileOfRun (running_of ready) depth put p → (exit : ℤ)
    → p.end ≡ Returned exit → p.end ≡ Returned (to_z w32 (of_z w32 exit))
shown_returned ready depth fit put p is exit returned =
    returned ∙ ap Returned (sym (to_z-of_z w32 exit (run_gives_int (running_of ready) (sound ready depth fit) exit (sym is.end ∙ returned))))

pub summed_shown : (ready : Ready) (depth : ℕ) → IsFit ready depth → (put : List ℕ) (p : Profile) → IsProfileOfRun (running_of ready) depth put p → (exit : ℤ)
    → p.end ≡ Returned exit → (dict : Option (List Entry)) → dict ≡ dict_of p.summary
    → IsSummed (to_z w32 (of_z w32 exit)) p.ops (regions_of ready.program.typed) dict (ran_of (running_of ready) (to_z w32 (of_z w32 exit)) depth)
summed_shown ready depth fit put p is exit returned dict same =
    let shown : ℤ = to_z w32 (of_z w32 exit) in
    subst (λ d. IsSummed shown p.ops (regions_of ready.program.typed) d (ran_of (running_of ready) shown depth)) (sym same)
    (summed_up ready depth fit put p is shown (shown_returned ready depth fit put p is exit returned))

-- a run is summed up by a number as it is shown, with the regions that are found
pub summed_found : (ran : Ran) (exit : ℤ) → FitsSigned w32 exit → (ops : ℕ) (regions found : List Region) → found ≡ regions → (dict : Option (List Entry))
    → IsSummed exit ops regions dict ran → IsSummed (to_z w32 (of_z w32 exit)) ops found dict ran
summed_found ran exit fits ops regions found same dict s =
    subst (λ z. IsSummed z ops found dict ran) (sym (to_z-of_z w32 exit fits)) (subst (λ (rs : List Region). IsSummed exit ops rs dict ran) (sym same) s)

-- the end is none of main
abbrev pub IsBroken : End → Type 0
IsBroken (Returned exit) = ⊥
IsBroken (Trapped trap place) = Unit {0}
IsBroken OutOfSteps = Unit {0}

-- CARRIED, where main returned
pub carried_returned : (r : Running) (depth : ℕ) (storage : Bool) (c : CarriedPairs) → TellsOfLoops r depth c → (exit : ℤ) → c.end ≡ Returned exit → (loops : List LoopPairs)
    → loops ≡ c.loops → (answer : Answer) (text : List ℕ) → WritesLoops r depth storage loops text → answer ≡ done text
    → AnswersCarried depth storage answer r (run_of r).end
carried_returned r depth storage c is exit returned loops same answer text written told =
    let so : ToldCarried r depth storage answer = record {
      loops = c.loops;
      are_carried = is.are_carried;
      shared = written.shared;
      writes = written.writes;
      is = told ∙ (ap done written.is ∙ ap (λ (ls : List LoopPairs). done (carried_text (regions_of r.typed) ls ++ written.shared)) same);
    } in
    subst (λ (e : End). AnswersCarried depth storage answer r e) (sym (sym is.end ∙ returned)) so

-- and where it did not
carried_of_broken : (depth : ℕ) (storage : Bool) (answer : Answer) (r : Running) (how : End) → IsBroken how → answer ≡ ended [] r.steps how
    → AnswersCarried depth storage answer r how
carried_of_broken depth storage answer r (Returned exit) broken told = absurd broken
carried_of_broken depth storage answer r (Trapped trap place) broken told = told
carried_of_broken depth storage answer r OutOfSteps broken told = told

pub carried_broken : (r : Running) (depth : ℕ) (storage : Bool) (c : CarriedPairs) → TellsOfLoops r depth c → (how : End) → c.end ≡ how → IsBroken how
    → (answer : Answer) → answer ≡ ended [] r.steps how → AnswersCarried depth storage answer r (run_of r).end
carried_broken r depth storage c is how same broken answer told =
    subst (λ (e : End). AnswersCarried depth storage answer r e) (sym (sym is.end ∙ same)) (carried_of_broken depth storage answer r how broken told)
