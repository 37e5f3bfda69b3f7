-- What the call comes to meets the theorem where its answer was found, however its delivery ended.
use Rattle.std.proofs.Common.{ℕ, zero, suc, ◌≡◌, ◌≢◌, ◌+◌, ◌≤◌, ◌⊎◌, true, false, is_some, IsSome, refl, ap, arith, sym, subst, ◌∙◌, List, [], ◌∷◌, ◌++◌, length, Option, Some, None, Result, Ok, Err, Vec, Global, inl, inr}
use Rattle.std.specs.Prelude.{⊤}
use Rattle.std.proofs.lemmas.List.{append-nil, append_assoc}
use Rattle.k_edge.specs.Fault.{Rose}
use Rattle.k_edge.specs.FilesWords.{Counts, FilesState, Saves, after}
use Rattle.k_edge.specs.declared.request.Request.{Request}
use Rattle.k_edge.specs.declared.request.Request.TheVariants.{Save}
use Rattle.k_edge.specs.ReadAll.{Draws, DrawsWithin, ReadsAll}
use Rattle.k_edge.specs.SinkWords.{SinkState, Grows, GrowsInPart}
use Rattle.k_edge.specs.SourceWords.{SourceState}
use Rattle.k_edge.specs.declared.files.SaveFault.{SaveFault}
use Rattle.k_edge.specs.declared.files.SaveFault.TheVariants as saving
use Rattle.k_edge.specs.declared.sink.PutFault.{PutFault}
use Rattle.k_edge.specs.declared.sink.PutFault.TheVariants as putting
use Rattle.k_top_answers.specs.declared.answer.Answer.{Answer}
use Rattle.k_top_answers.specs.declared.answer.SavedFile.{SavedFile}
use Rattle.k_top_answers.specs.declared.failure.Failure.{Failure}
use Rattle.k_top_answers.specs.declared.failure.Failure.TheVariants as why
use Rattle.k_top_answers.specs.Answers.{CallsForInput, IsAnswer}
use Rattle.k_top_answers.specs.Clauses.{AsksFiles, Cause, HoldsAfter, IsGiven, GoesFar, Keeps, MayGive, ReadsInput, TellsEnd, TellsFault, World, faults_of, is_blame, nothing, put_fault, save_fault}
use Rattle.k_top_answers.specs.Failures.{failure_line, failure_of_put, failure_of_save, failure_status, status_of}
use Rattle.k_top_answers.specs.Requests.{AreMade, AreToLoad, IsFront, saves_of}
use Rattle.k_top_lemmas.specs.declared.ending.Ending.{Ending}
use Rattle.k_top_lemmas.specs.Parts.{Delivers, EndsAs, PutsAll, SavesFile, Tells}
use Rattle.k_top_lemmas.specs.Phases.{Around, InputDone, IsEnd, IsView, Shows, View}
use Rattle.k_top_answers.specs.Steps.{Outside, input_limit}
use Rattle.k_top_lemmas.proofs.ReadyLemmas.{told_once}
use Rattle.k_top_lemmas.proofs.Requesting.{after_twice, front_same}
use Rattle.k_top_lemmas.specs.Streams.{IsCounted}
use Rattle.k_top_lemmas.proofs.Growing.{grows_in_part}
use Rattle.k_top_lemmas.proofs.Putting.{counted}
use Rattle.k_top_lemmas.proofs.Showing.{fits, outside_of, shows}
use Rattle.k_top_lemmas.proofs.Statuses.{all_made}

-- what is known of files and input
abbrev pub around : World → Around
around w = record { files = w.files; input = w.input }

-- an input that was done with: it is as before, or was read to its end where it was asked for
module _ (words : List (List ℕ)) (old new : World) (view : View) (is_view : IsView view (around old)) (status : ℕ) (not_long : status ≢ 9) where
  abbrev outside : Outside
  outside = outside_of old view

  seen : Shows outside view
  seen = shows old view is_view

  within : (old new : SourceState) (bytes : Vec ℕ Global) → ReadsAll (Ok bytes) input_limit old new → DrawsWithin (input_limit + 1) old new
  within old new bytes (draws, fits, end, faultless, told) = (bytes.items, draws, omega (arith, fits))

  short : (old new : SourceState) (bytes : Vec ℕ Global) → ReadsAll (Ok bytes) input_limit old new → new.taken ≡ old.taken + (input_limit + 1) → ⊥
  short old new bytes (draws, fits, end, faultless, told) is =
      let counted : new.taken ≡ old.taken + length bytes.items = draws.counted in omega (arith, fits, counted, is)

  pub input_done : InputDone (CallsForInput words) view old.input new.input → ReadsInput words outside status old.input new.input
  input_done (inl (same, calls_not)) = record { untouched = inl same; read = λ calls. absurd (calls_not outside seen calls) }
  input_done (inr (bytes, is, calls, reads)) =
      let told : bytes.items ≡ outside.input = subst (λ input. MayGive input outside.input) is seen.input in
      record {
        untouched = inr (calls outside seen);
        read = λ called. record {
          within = within old.input new.input bytes reads;
          whole = λ ran. (subst (λ b. Draws b old.input new.input) told reads.0, reads.2, reads.4);
          cut = λ nine. absurd (not_long nine);
          once = told_once old.input new.input bytes reads;
          too_long = λ taken. absurd (short old.input new.input bytes reads taken);
        };
      }

-- no count rose
pub no_fault : (old new : World) → new.files.counts ≡ old.files.counts → new.input.faults ≡ old.input.faults → new.out.faults ≡ old.out.faults
    → faults_of new ≡ faults_of old
no_fault old new files reads puts = λ i. record { files = files i; reads = reads i; puts = puts i }

-- an input that was done with had no fault
input_faultless : (calls : Outside → Type 0) (view : View) (old new : SourceState) → InputDone calls view old new → new.faults ≡ old.faults
input_faultless calls view old new (inl (same, calls_not)) = ap (λ (s : SourceState). s.faults) same
input_faultless calls view old new (inr (bytes, is, calls_it, reads)) = reads.3

-- how a call ended whose answer was delivered: its status and what it told on err are those of the answer, or what it had to tell could not be made
pub record EndsWell (failure : Option Failure) (more : Option (List ℕ)) (status : ℕ) (old new : SinkState) : Type 0 where
  pub status_is : status ≡ status_of failure
  pub told : TellsEnd failure more old new
  pub small : status ≤ 3

-- the line of want of memory was told in part, of an answer that is a failure
pub record EndsShort (failure : Option Failure) (status : ℕ) (old new : SinkState) : Type 0 where
  pub eight : status ≡ 8
  pub told : GrowsInPart old.written (failure_line why.NoMemory) new.written
  pub failed : failure ≡ None → ⊥

abbrev EndsSo : Option Failure → Option (List ℕ) → ℕ → SinkState → SinkState → Type 0
EndsSo failure more status old new = EndsWell failure more status old new ⊎ EndsShort failure status old new

-- something is not nothing
some_there : (failure : Failure) → Some failure ≡ None → ⊥
some_there failure is = (let wrong : true ≡ false = ap is_some is in cc)

ends : (failure : Option Failure) (more : Option (List ℕ)) → status_of failure ≤ 3 → (status : ℕ) (old new : SinkState) → Tells failure more status old new
    → EndsSo failure more status old new
ends None more low status old new (is, same) = inl (record { status_is = is; told = same; small = omega (arith, is) })
ends (Some given) more low status old new (inl (is, told)) = inl (record { status_is = is; told = told; small = omega (arith, is, low) })
ends (Some given) more low status old new (inr (eight, part)) = inr (record { eight = eight; told = part; failed = some_there given })

-- a low status blames nothing outside
low_blame : (status : ℕ) → status ≤ 3 → is_blame status ≡ false
low_blame zero low = refl
low_blame (suc zero) low = refl
low_blame (suc (suc zero)) low = refl
low_blame (suc (suc (suc zero))) low = refl
low_blame (suc (suc (suc (suc n)))) low = absurd (omega (arith, low))

-- a low status is of no fault
low_told : (status : ℕ) → status ≤ 3 → (old new : SinkState) → TellsFault status old new
low_told status low old new = record {
  read_fault = λ six. absurd (omega (arith, low, six));
  write_fault = λ seven. absurd (omega (arith, low, seven));
  no_memory = λ eight. absurd (omega (arith, low, eight));
}

-- with 8 a prefix of the line of want of memory was told
pub told_8 : (status : ℕ) → status ≡ 8 → (old new : SinkState) → GrowsInPart old.written (failure_line why.NoMemory) new.written → TellsFault status old new
told_8 status is old new part = record {
  read_fault = λ six. absurd (omega (arith, is, six));
  write_fault = λ seven. absurd (omega (arith, is, seven));
  no_memory = λ eight. part;
}

-- files that nothing was saved in
held_same : (saved : Option SavedFile) (old new : FilesState) → saved ≡ None → HoldsAfter saved old new → new.held ≡ old.held
held_same saved old new none holds = subst (λ s. HoldsAfter s old new) none holds

-- what is told of want of memory has status 8
eight_told : (status : ℕ) (old new : SinkState) → Tells (Some why.NoMemory) None status old new → (status ≡ 8) × GrowsInPart old.written (failure_line why.NoMemory) new.written
eight_told status old new (inl (eight, told)) = (eight, told.part)
eight_told status old new (inr (eight, part)) = (eight, part)

-- A PUT WAS GIVEN UP: what was put is a prefix of each answer's bytes
module _ (words : List (List ℕ)) (old new : World) (view : View) (is_view : IsView view (around old))
    (input : InputDone (CallsForInput words) view old.input new.input) (all : List Request) (named : AreToLoad words all) (same : new.files ≡ after all old.files) where
  reads_same : new.input.faults ≡ old.input.faults
  reads_same = input_faultless (CallsForInput words) view old.input new.input input

  -- it failed
  put_failed : (status : ℕ) → ((other : Answer) → IsAnswer words (outside_of old view) other → PutsAll (Err putting.Failed) other.out old.out new.out)
      → Rose old.out.faults new.out.faults → Tells (Some why.WriteFault) None status old.err new.err → Keeps words status old new
  put_failed status puts rose tells = record {
    outside = outside_of old view;
    cause = put_fault;
    fits = fits old view;
    blames = record { rose = (rose, alone); blamed = by_line tells };
    asked = λ other is. (puts other is).0;
    answered = seven_or_eight tells;
    part = λ other is. (puts other is).1;
    files = inr (ap (λ (f : FilesState). f.held) same);
    requests = record { loads = all; named = named; made = all; asked = ap (λ (f : FilesState). f.requests) same; far = refl };
    input = input_done words old new view is_view status (not_nine tells) input;
    told = told_fault tells;
  }
    where
      alone : faults_of new ≡ record { files = old.files.counts; reads = old.input.faults; puts = new.out.faults }
      alone = λ i. record { files = (same i).counts; reads = reads_same i; puts = new.out.faults }

      by_line : Tells (Some why.WriteFault) None status old.err new.err → (status ≡ 7) ⊎ (status ≡ 8)
      by_line (inl (seven, told)) = inl seven
      by_line (inr (eight, part)) = inr eight

      seven_or_eight : Tells (Some why.WriteFault) None status old.err new.err
          → (status ≡ 6) ⊎ (status ≡ 7) ⊎ (status ≡ 8) ⊎ IsGiven (IsAnswer words (outside_of old view)) status old new
      seven_or_eight (inl (seven, told)) = inr (inl seven)
      seven_or_eight (inr (eight, part)) = inr (inr (inl eight))

      not_nine : Tells (Some why.WriteFault) None status old.err new.err → status ≢ 9
      not_nine (inl (seven, told)) nine = omega (arith, seven, nine)
      not_nine (inr (eight, part)) nine = omega (arith, eight, nine)

      told_fault : Tells (Some why.WriteFault) None status old.err new.err → TellsFault status old.err new.err
      told_fault (inl (seven, told)) = record {
        read_fault = λ six. absurd (omega (arith, seven, six));
        write_fault = λ is. told;
        no_memory = λ eight. absurd (omega (arith, seven, eight));
      }
      told_fault (inr (eight, part)) = told_8 status eight old.err new.err part

  -- no memory was found for it
  put_short : (status : ℕ) → ((other : Answer) → IsAnswer words (outside_of old view) other → PutsAll (Err putting.Memory) other.out old.out new.out)
      → new.out.faults ≡ old.out.faults → (status ≡ 8) × GrowsInPart old.err.written (failure_line why.NoMemory) new.err.written → Keeps words status old new
  put_short status puts calm (eight, part) = record {
    outside = outside_of old view;
    cause = nothing;
    fits = fits old view;
    blames = record {
      rose = no_fault old new (ap (λ (f : FilesState). f.counts) same) reads_same calm;
      blamed = subst (λ s. is_blame s ≡ false) (sym eight) refl;
    };
    asked = tt;
    answered = inr (inr (inl eight));
    part = λ other is. (puts other is).0;
    files = inr (ap (λ (f : FilesState). f.held) same);
    requests = record {
      loads = all;
      named = named;
      made = all;
      asked = ap (λ (f : FilesState). f.requests) same;
      far = λ other is. ((saves_of other.saved, refl), λ not_8. absurd (not_8 eight));
    };
    input = input_done words old new view is_view status (λ nine. omega (arith, eight, nine)) input;
    told = told_8 status eight old.err new.err part;
  }

  pub cut_off : (status : ℕ) (fault : PutFault) → IsCounted fault old.out new.out
      → ((other : Answer) → IsAnswer words (outside_of old view) other → PutsAll (Err fault) other.out old.out new.out)
      → Tells (Some (failure_of_put fault)) None status old.err new.err → Keeps words status old new
  cut_off status putting.Failed rose puts tells = put_failed status puts rose tells
  cut_off status putting.Memory calm puts tells = put_short status puts calm (eight_told status old.err new.err tells)

-- AN ANSWER WAS FOUND
module _ (words : List (List ℕ)) (old new : World) (view : View) (is_view : IsView view (around old)) (answer : Answer)
    (is_answer : IsAnswer words (outside_of old view) answer)
    (unique : (other : Answer) → IsAnswer words (outside_of old view) other → answer ≡ other)
    (is_end : IsEnd answer) (input : InputDone (CallsForInput words) view old.input new.input) (all : List Request) (named : AreToLoad words all) where
  -- all that is to be asked was
  abbrev whole : List Request
  whole = all ++ saves_of answer.saved

  asks_all : (cause : Cause) (status : ℕ) → GoesFar cause status (IsAnswer words (outside_of old view)) all whole
      → new.files.requests ≡ old.files.requests ++ whole → AsksFiles words cause status (IsAnswer words (outside_of old view)) old.files new.files
  asks_all cause status far asked = record { loads = all; named = named; made = whole; asked = asked; far = far }

  whole_is : (other : Answer) → IsAnswer words (outside_of old view) other → whole ≡ all ++ saves_of other.saved
  whole_is other is = ap (λ (a : Answer). all ++ saves_of a.saved) (unique other is)

  whole_asked : (status : ℕ) → GoesFar nothing status (IsAnswer words (outside_of old view)) all whole
  whole_asked status = λ other is. (
    front_same whole (all ++ saves_of other.saved) (whole_is other is),
    λ not_8. subst (λ (a : Answer). AreMade a.failure (all ++ saves_of a.saved) whole) (unique other is) (all_made answer.failure whole whole is_end.low refl),
  )

  -- all its bytes were put, and so were those of each answer
  part_of : Grows old.out.written answer.out new.out.written → (other : Answer) → IsAnswer words (outside_of old view) other
      → GrowsInPart old.out.written other.out new.out.written
  part_of grows other is =
      subst (λ (a : Answer). GrowsInPart old.out.written a.out new.out.written) (unique other is) (grows_in_part old.out.written answer.out new.out.written grows)

  -- IT WAS DELIVERED
  module _ (status : ℕ) (grows : Grows old.out.written answer.out new.out.written) (puts : new.out.faults ≡ old.out.faults)
      (holds : HoldsAfter answer.saved old.files new.files) (counts : new.files.counts ≡ old.files.counts)
      (requests : new.files.requests ≡ old.files.requests ++ whole) where
    faultless : faults_of new ≡ faults_of old
    faultless = no_fault old new counts (input_faultless (CallsForInput words) view old.input new.input input) puts

    -- no file changes but with status 0
    files_kept : answer.failure ≡ None ⊎ (answer.saved ≡ None) → EndsWell answer.failure answer.more status old.err new.err → (status ≡ 0) ⊎ (new.files.held ≡ old.files.held)
    files_kept (inl none) well = inl (well.status_is ∙ ap status_of none)
    files_kept (inr none) well = inr (held_same answer.saved old.files new.files none holds)

    files_short : answer.failure ≡ None ⊎ (answer.saved ≡ None) → (answer.failure ≡ None → ⊥) → (status ≡ 0) ⊎ (new.files.held ≡ old.files.held)
    files_short (inl none) failed = absurd (failed none)
    files_short (inr none) failed = inr (held_same answer.saved old.files new.files none holds)

    pub delivered : EndsSo answer.failure answer.more status old.err new.err → Keeps words status old new
    delivered (inl well) = record {
      outside = outside_of old view;
      cause = nothing;
      fits = fits old view;
      blames = record { rose = faultless; blamed = low_blame status well.small };
      asked = tt;
      answered = inr (inr (inr (record {
        answer = answer;
        is_answer = is_answer;
        status_is = well.status_is;
        grows = grows;
        told = well.told;
        files = holds;
      })));
      part = part_of grows;
      files = files_kept is_end.saves well;
      requests = asks_all nothing status (whole_asked status) requests;
      input = input_done words old new view is_view status (λ nine. (let low = well.small in omega (arith, nine, low))) input;
      told = low_told status well.small old.err new.err;
    }
    delivered (inr short) = record {
      outside = outside_of old view;
      cause = nothing;
      fits = fits old view;
      blames = record { rose = faultless; blamed = subst (λ s. is_blame s ≡ false) (sym short.eight) refl };
      asked = tt;
      answered = inr (inr (inl short.eight));
      part = part_of grows;
      files = files_short is_end.saves short.failed;
      requests = asks_all nothing status (whole_asked status) requests;
      input = input_done words old new view is_view status (λ nine. (let eight = short.eight in omega (arith, nine, eight))) input;
      told = told_8 status short.eight old.err new.err short.told;
    }

  -- a count that stands in the files alone
  saved_alone : (counts : Counts) → new.files.counts ≡ counts → new.out.faults ≡ old.out.faults
      → faults_of new ≡ record { files = counts; reads = old.input.faults; puts = old.out.faults }
  saved_alone counts files puts =
      let reads = input_faultless (CallsForInput words) view old.input new.input input in
      λ i. record { files = files i; reads = reads i; puts = puts i }

  -- what is asked with a save
  with_save : (file : SavedFile) → answer.saved ≡ Some file → new.files.requests ≡ (old.files.requests ++ all) ++ Save file.name ∷ []
      → new.files.requests ≡ old.files.requests ++ whole
  with_save file saved is =
      is ∙ append_assoc old.files.requests all (Save file.name ∷ [])
      ∙ ap (λ (s : Option SavedFile). old.files.requests ++ (all ++ saves_of s)) (sym saved)

  -- THE SAVE FAILED
  save_failed : (status : ℕ) (file : SavedFile) → answer.saved ≡ Some file → Grows old.out.written answer.out new.out.written → new.out.faults ≡ old.out.faults
      → Saves (Err saving.Failed) file.name file.bytes (after all old.files) new.files → Tells (Some why.WriteFault) None status old.err new.err → Keeps words status old new
  save_failed status file saved grows puts (rose, same) tells = record {
    outside = outside_of old view;
    cause = save_fault;
    fits = fits old view;
    blames = record { rose = (rose, saved_alone _ (ap (λ (f : FilesState). f.counts) same) puts); blamed = by_line tells };
    asked = λ other is. subst (λ (a : Answer). IsSome a.saved) (unique other is) (subst IsSome (sym saved) refl);
    answered = seven_or_eight tells;
    part = λ other is. subst (λ (a : Answer). Grows old.out.written a.out new.out.written) (unique other is) grows;
    files = inr (ap (λ (f : FilesState). f.held) same);
    requests = asks_all save_fault status whole_is (with_save file saved (ap (λ (f : FilesState). f.requests) same));
    input = input_done words old new view is_view status (not_nine tells) input;
    told = told_fault tells;
  }
    where
      by_line : Tells (Some why.WriteFault) None status old.err new.err → (status ≡ 7) ⊎ (status ≡ 8)
      by_line (inl (seven, told)) = inl seven
      by_line (inr (eight, part)) = inr eight

      seven_or_eight : Tells (Some why.WriteFault) None status old.err new.err
          → (status ≡ 6) ⊎ (status ≡ 7) ⊎ (status ≡ 8) ⊎ IsGiven (IsAnswer words (outside_of old view)) status old new
      seven_or_eight (inl (seven, told)) = inr (inl seven)
      seven_or_eight (inr (eight, part)) = inr (inr (inl eight))

      not_nine : Tells (Some why.WriteFault) None status old.err new.err → status ≢ 9
      not_nine (inl (seven, told)) nine = omega (arith, seven, nine)
      not_nine (inr (eight, part)) nine = omega (arith, eight, nine)

      told_fault : Tells (Some why.WriteFault) None status old.err new.err → TellsFault status old.err new.err
      told_fault (inl (seven, told)) = record {
        read_fault = λ six. absurd (omega (arith, seven, six));
        write_fault = λ is. told;
        no_memory = λ eight. absurd (omega (arith, seven, eight));
      }
      told_fault (inr (eight, part)) = told_8 status eight old.err new.err part

  -- NO MEMORY was found for the save
  delivery_short : (status : ℕ) → GrowsInPart old.out.written answer.out new.out.written → new.out.faults ≡ old.out.faults
      → (made : List Request) → IsFront made whole → new.files ≡ after made old.files → status ≡ 8 → GrowsInPart old.err.written (failure_line why.NoMemory) new.err.written → Keeps words status old new
  delivery_short status grows puts made front same eight part = record {
    outside = outside_of old view;
    cause = nothing;
    fits = fits old view;
    blames = record {
      rose = no_fault old new (ap (λ (f : FilesState). f.counts) same) (input_faultless (CallsForInput words) view old.input new.input input) puts;
      blamed = subst (λ s. is_blame s ≡ false) (sym eight) refl;
    };
    asked = tt;
    answered = inr (inr (inl eight));
    part = λ other is. subst (λ (a : Answer). GrowsInPart old.out.written a.out new.out.written) (unique other is) grows;
    files = inr (ap (λ (f : FilesState). f.held) same);
    requests = record {
      loads = all;
      named = named;
      made = made;
      asked = ap (λ (f : FilesState). f.requests) same;
      far = λ other is. (subst (λ (a : Answer). IsFront made (all ++ saves_of a.saved)) (unique other is) front, λ not_8. absurd (not_8 eight));
    };
    input = input_done words old new view is_view status (λ nine. omega (arith, eight, nine)) input;
    told = told_8 status eight old.err new.err part;
  }

  by_put : (status : ℕ) (fault : PutFault) → PutsAll (Err fault) answer.out old.out new.out → new.files ≡ after all old.files
      → Tells (Some (failure_of_put fault)) None status old.err new.err → Keeps words status old new
  by_put status fault puts same tells =
      cut_off words old new view is_view input all named same status fault (counted answer.out old.out new.out fault puts)
      (λ other is. subst (λ (a : Answer). PutsAll (Err fault) a.out old.out new.out) (unique other is) puts) tells

  by_save : (status : ℕ) (file : SavedFile) (fault : SaveFault) → answer.saved ≡ Some file → Grows old.out.written answer.out new.out.written
      → new.out.faults ≡ old.out.faults → Saves (Err fault) file.name file.bytes (after all old.files) new.files
      → Tells (Some (failure_of_save fault)) None status old.err new.err → Keeps words status old new
  by_save status file saving.Failed saved grows puts saves tells = save_failed status file saved grows puts saves tells
  by_save status file saving.Memory saved grows puts (inl same) tells =
      let (eight, part) = eight_told status old.err new.err tells in
      let saves : after (Save file.name ∷ []) (after all old.files) ≡ after whole old.files =
      after_twice all (Save file.name ∷ []) old.files ∙ ap (λ (s : Option SavedFile). after (all ++ saves_of s) old.files) (sym saved) in
      delivery_short status (grows_in_part old.out.written answer.out new.out.written grows) puts whole (front_same whole whole refl) (same ∙ saves) eight part
  by_save status file saving.Memory saved grows puts (inr same) tells =
      let (eight, part) = eight_told status old.err new.err tells in
      delivery_short status (grows_in_part old.out.written answer.out new.out.written grows) puts all (saves_of answer.saved, refl) same eight part

  by_file : (status : ℕ) (saved : Option SavedFile) (failure : Failure) → answer.saved ≡ saved → Grows old.out.written answer.out new.out.written
      → new.out.faults ≡ old.out.faults → SavesFile (Err failure) saved (after all old.files) new.files
      → Tells (Some failure) None status old.err new.err → Keeps words status old new
  by_file status None failure is grows puts saves tells = absurd saves
  by_file status (Some file) failure is grows puts (fault, same, saves) tells =
      by_save status file fault is grows puts saves (subst (λ f. Tells (Some f) None status old.err new.err) same tells)

  undelivered : (status : ℕ) (failure : Failure) → Delivers (Err failure) answer (after all old.files) new.files old.out new.out
      → Tells (Some failure) None status old.err new.err → Keeps words status old new
  undelivered status failure (inl (fault, is, puts, same)) tells = by_put status fault puts same (subst (λ f. Tells (Some f) None status old.err new.err) is tells)
  undelivered status failure (inr ((grows, puts), saves)) tells = by_file status answer.saved failure refl grows puts saves tells

  -- what a save that was done leaves
  saved_well : (saved : Option SavedFile) → SavesFile (Ok tt) saved (after all old.files) new.files
      → HoldsAfter saved old.files new.files × (new.files.counts ≡ old.files.counts) × (new.files.requests ≡ old.files.requests ++ (all ++ saves_of saved))
  saved_well None same = (
    ap (λ (f : FilesState). f.held) same,
    ap (λ (f : FilesState). f.counts) same,
    ap (λ (f : FilesState). f.requests) same ∙ ap (λ (made : List Request). old.files.requests ++ made) (sym (append-nil all)),
  )
  saved_well (Some file) (others, has, counts, requests) = ((others, has), counts, requests ∙ append_assoc old.files.requests all (Save file.name ∷ []))

  -- AN ANSWER THAT WAS FOUND meets the theorem, however its delivery ended
  pub found : (status : ℕ) (ending : Ending) (delivered : Result ⊤ Failure) → Delivers delivered answer (after all old.files) new.files old.out new.out
      → EndsAs ending delivered answer → Tells ending.failure ending.more status old.err new.err → Keeps words status old new
  found status ending (Ok ok) ((grows, puts), saves) by tells =
      let (holds, counts, requests) = saved_well answer.saved saves in
      delivered status grows puts holds counts requests
      (ends answer.failure answer.more is_end.low status old.err new.err (subst (λ (e : Ending). Tells e.failure e.more status old.err new.err) by tells))
  found status ending (Err failure) delivers is tells =
      undelivered status failure delivers (subst (λ (e : Ending). Tells e.failure e.more status old.err new.err) is tells)
