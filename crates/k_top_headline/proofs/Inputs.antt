-- How far the input was read, where nothing failed outside.
use Rattle.std.proofs.Common.{ℕ, ◌≡◌, ◌⊎◌, Bool, true, false, refl, ap, sym, subst, ◌∙◌, IsTrue, List, [], length, ◌+◌, Option, Some, None, inl, inr}
use Rattle.std.proofs.lemmas.Bool.{true≢false}
use Rattle.std.proofs.lemmas.Option.{none-some}
use Rattle.std.specs.Io.KnownBytes.{IsAtEnd}
use Rattle.k_edge.specs.ReadAll.{Draws, DrawsFrom}
use Rattle.k_edge.specs.SourceWords.{SourceState, one_more}
use Rattle.k_ending.specs.declared.ending.End.{End}
use Rattle.k_ending.specs.declared.ending.End.TheVariants as end
use Rattle.k_optab.specs.declared.toml_table.TableFault.{TableFault}
use Rattle.k_types_calls.specs.Getchar.{calls_getchar}
use Rattle.k_types_meaning.specs.declared.tree.unit.TUnit.{TUnit}
use Rattle.k_words.specs.declared.job.Job.{Job}
use Rattle.k_words.specs.declared.job.Job.TheVariants as job
use Rattle.k_top_answers.specs.Answers.{CallsForInput, FilesCall, JobCalls}
use Rattle.k_top_answers.specs.Clauses.{Faults, HasRun, Keeps, ReadsFar, World}
use Rattle.k_top_answers.specs.Steps.{Running}
use Rattle.k_top_headline.specs.Headline.{HoldsBadTable, HoldsProgram, IsInput, LeavesInput, WentWell, end_status, read_to_end}
use Rattle.k_top_headline.proofs.Given.{faults_stay, one_job}
use Rattle.k_top_headline.proofs.Ready.{NoFailure, given_outside, no_program, program_answered, program_held}

-- a run that is told has run
pub has_run : (status : ℕ) (how : End) → status ≡ end_status how → HasRun status
has_run status (end.Returned exit) is = inl is
has_run status (end.Trapped trap place) is = inr (inl is)
has_run status end.OutOfSteps is = inr (inr (inl is))

-- nothing is left of an input that was told and read to its end
none_left : (was left : Option (List ℕ)) (bytes given : List ℕ) → was ≡ Some bytes → DrawsFrom was given left → IsAtEnd left → left ≡ Some []
none_left None left bytes given told draws end = absurd (none-some bytes told)
none_left (Some all) left bytes given told (rest, is, left_is) end = left_is ∙ ap Some (subst IsAtEnd left_is end)

read_whole : (old new : SourceState) (bytes given : List ℕ) → old.left ≡ Some bytes → given ≡ bytes → new.faults ≡ old.faults → Draws given old new → IsAtEnd new.left
    → new.ended ≡ one_more old.ended → new ≡ read_to_end bytes old
read_whole old new bytes given told same faultless draws at_end ended =
    let left : new.left ≡ Some [] = none_left old.left new.left bytes given told draws.left at_end in
    let taken : new.taken ≡ old.taken + length bytes = draws.counted ∙ ap (λ (b : List ℕ). old.taken + length b) same in
    λ i. record { left = left i; faults = faultless i; taken = taken i; ended = ended i }

-- an input that was not asked for
by_untouched : (old new : World) (Called : Type 0) → ¬ Called → (new.input ≡ old.input) ⊎ Called → new.input ≡ old.input
by_untouched old new Called not_called (inl same) = same
by_untouched old new Called not_called (inr called) = absurd (not_called called)

-- what is true of the call of a source is true of its typed tree
abbrev Calls : List ℕ → TUnit → Type 0
Calls latencies typed = IsTrue (calls_getchar typed)

module _ (words : List (List ℕ)) (status : ℕ) (old new : World) (file : List ℕ) (steps depth : ℕ) (latency : Option (List ℕ)) (dict : Bool)
    (save : Option (List ℕ)) (keeps : Keeps words status old new) (is : WentWell words (job.Run file steps depth latency dict save) status old new) where
  -- the job calls, where the words call for input
  files_call : CallsForInput words keeps.outside → FilesCall keeps.outside file latency
  files_call (asked, is_asked, calls) = subst (λ (j : Job). JobCalls keeps.outside j) (one_job words asked (job.Run file steps depth latency dict save) is_asked is.asked) calls

  module _ (r : Running) (program : HoldsProgram old file latency r) where
    it_calls : CallsForInput words keeps.outside → IsTrue (calls_getchar r.typed)
    it_calls calls =
        program_answered NoFailure keeps.outside old keeps.fits file latency r Calls program (files_call calls)

    it_is_called : IsTrue (calls_getchar r.typed) → CallsForInput words keeps.outside
    it_is_called calls =
        (job.Run file steps depth latency dict save, is.asked, program_held NoFailure keeps.outside old keeps.fits file latency r Calls program calls)

    by_call : (calls : Bool) → calls_getchar r.typed ≡ calls → IsInput old.input.left calls r.input → HasRun status → LeavesInput calls r.input old.input new.input
    by_call true calls (told, few) has =
        let far : ReadsFar keeps.outside.input status old.input new.input = keeps.input.read (it_is_called calls) in
        let whole = far.whole has in
        read_whole old.input new.input r.input keeps.outside.input told (given_outside old.input.left keeps.outside.input r.input keeps.fits.input told)
        (ap (λ (f : Faults). f.reads) (faults_stay old new is.well keeps.cause keeps.blames.rose)) whole.0 whole.1 whole.2
    by_call false calls none has =
        by_untouched old new (CallsForInput words keeps.outside) (λ called. true≢false (sym (it_calls called) ∙ calls)) keeps.input.untouched

    -- THE INPUT of a run that is told
    pub input_left : HasRun status → LeavesInput (calls_getchar r.typed) r.input old.input new.input
    input_left has = by_call (calls_getchar r.typed) refl program.input has

  -- no input is read where the table is refused
  pub input_untouched : (fault : TableFault) → HoldsBadTable old file latency fault → new.input ≡ old.input
  input_untouched fault bad =
      by_untouched old new (CallsForInput words keeps.outside)
      (λ called. no_program keeps.outside old keeps.fits file latency fault Calls bad (files_call called)) keeps.input.untouched
