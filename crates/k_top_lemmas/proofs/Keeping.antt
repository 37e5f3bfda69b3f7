-- What the call comes to meets the theorem, where there is one answer.
use Rattle.std.proofs.Common.{ℕ, ◌≡◌, ◌≢◌, ◌+◌, ◌≤◌, ◌⊎◌, false, refl, ap, arith, sym, subst, ◌∙◌, List, [], ◌++◌, length, Option, Some, None, Result, Err, inl, inr}
use Rattle.std.specs.Prelude.{⊤}
use Rattle.std.proofs.lemmas.List.{append-nil}
use Rattle.k_edge.specs.Fault.{Rose}
use Rattle.k_edge.specs.FilesWords.{FilesState, after}
use Rattle.k_edge.specs.declared.request.Request.{Request}
use Rattle.k_edge.specs.ReadAll.{DrawsFrom, DrawsTooMany, DrawsWithin}
use Rattle.k_edge.specs.SinkWords.{SinkState, Grows, GrowsInPart}
use Rattle.k_edge.specs.SourceWords.{SourceState}
use Rattle.k_top_answers.specs.declared.answer.Answer.{Answer}
use Rattle.k_top_answers.specs.declared.failure.Failure.{Failure}
use Rattle.k_top_answers.specs.declared.failure.Failure.TheVariants as why
use Rattle.k_top_answers.specs.Answers.{CallsForFiles, CallsForInput, IsAnswer, refusal}
use Rattle.k_top_answers.specs.Clauses.{AsksFiles, Cause, HasRun, IsAnswered, GoesFar, IsOr8, Keeps, ReadsInput, TellsFault, World, faults_of, is_blame, load_fault, long, miss, nothing, read_fault}
use Rattle.k_top_answers.specs.Failures.{failure_line, failure_status, status_of}
use Rattle.k_top_answers.specs.Requests.{AreMade, AreToLoad, EndsAt, IsFront, saves_of}
use Rattle.k_top_lemmas.specs.declared.ending.Ending.{Ending}
use Rattle.k_top_lemmas.specs.Parts.{Delivers, IfRefusal, Tells}
use Rattle.k_top_lemmas.specs.Phases.{Around, Everywhere, FailsBefore, FilesAfter, InputAfter, IsQuiet, IsView, LoadsAll, LoadsStop, Stops, View}
use Rattle.k_top_lemmas.specs.Streams.{Performs, behind}
use Rattle.k_top_answers.specs.Steps.{Outside, input_limit}
use Rattle.k_top_answers.specs.Laws.{AnswersAreUnique}
use Rattle.k_top_lemmas.proofs.ReadyLemmas.{refusal_maps}
use Rattle.k_top_lemmas.proofs.Requesting.{after_none, front_longer, front_same, loads_exist}
use Rattle.k_top_lemmas.proofs.Growing.{grows_no_part, grows_nothing}
use Rattle.k_top_lemmas.proofs.Showing.{fits, outside_of, shows}
use Rattle.k_top_lemmas.proofs.Delivering.{around, cut_off, found, no_fault, told_8}
use Rattle.k_top_lemmas.proofs.Streaming.{delivered_behind, ends_behind}

-- NO ANSWER WAS FOUND
module _ (words : List (List ℕ)) (old new : World) (view : View) (is_view : IsView view (around old)) (same_out : new.out ≡ old.out)
    (unique : (one other : Answer) → IsAnswer words (outside_of old view) one → IsAnswer words (outside_of old view) other → one ≡ other)
    (held : new.files.held ≡ old.files.held) where
  -- nothing was put
  nothing_put : (other : Answer) → IsAnswer words (outside_of old view) other → GrowsInPart old.out.written other.out new.out.written
  nothing_put other is = subst (λ (o : SinkState). GrowsInPart old.out.written other.out o.written) (sym same_out) (grows_no_part old.out.written other.out)

  -- the files to load were asked for up to here
  stopped : (cause : Cause) (status : ℕ) (all : List Request) → AreToLoad words all → (made : List Request)
      → GoesFar cause status (IsAnswer words (outside_of old view)) all made → new.files.requests ≡ old.files.requests ++ made
      → AsksFiles words cause status (IsAnswer words (outside_of old view)) old.files new.files
  stopped cause status all named made far asked = record { loads = all; named = named; made = made; asked = asked; far = far }

  -- they were as far as a refusal asks
  refusal_asks : (status : ℕ) (failure : Failure) → IsAnswer words (outside_of old view) (refusal failure) → (all : List Request) → AreToLoad words all
      → (made : List Request) → IsFront made all → AreMade (Some failure) all made → new.files.requests ≡ old.files.requests ++ made
      → AsksFiles words nothing status (IsAnswer words (outside_of old view)) old.files new.files
  refusal_asks status failure is all named made front far =
      stopped nothing status all named made (λ other other_is. (front_longer made all (saves_of other.saved) front, λ not_8. same other other_is))
    where
      same : (other : Answer) → IsAnswer words (outside_of old view) other → AreMade other.failure (all ++ saves_of other.saved) made
      same other other_is =
          subst (λ (a : Answer). AreMade a.failure (all ++ saves_of a.saved) made) (unique (refusal failure) other is other_is)
          (subst (λ l. AreMade (Some failure) l made) (sym (append-nil all)) far)

  -- a front of them was, and then no memory was found
  asks_short : (status : ℕ) (all : List Request) → AreToLoad words all → (made : List Request) → IsFront made all
      → new.files.requests ≡ old.files.requests ++ made → status ≡ 8
      → AsksFiles words nothing status (IsAnswer words (outside_of old view)) old.files new.files
  asks_short status all named made front asked eight =
      stopped nothing status all named made
      (λ other is. (front_longer made all (saves_of other.saved) front, λ not_8. absurd (not_8 eight))) asked

  -- a refusal is the answer, whose line was told, or the line of want of memory in part
  refused : (status : ℕ) (failure : Failure) → IsAnswer words (outside_of old view) (refusal failure) → Tells (Some failure) None status old.err new.err
      → IsAnswered (IsAnswer words (outside_of old view)) status old new
  refused status failure is (inl (same, told)) = inr (inr (inr (record {
    answer = refusal failure;
    is_answer = is;
    status_is = same;
    grows = subst (λ (o : SinkState). Grows old.out.written [] o.written) (sym same_out) (grows_nothing old.out.written);
    told = told;
    files = held;
  })))
  refused status failure is (inr (eight, part)) = inr (inr (inl eight))

  -- the status is the failure's, or 8
  status_or_8 : (status : ℕ) (failure : Failure) → Tells (Some failure) None status old.err new.err → (status ≡ failure_status failure) ⊎ (status ≡ 8)
  status_or_8 status failure (inl (same, told)) = inl same
  status_or_8 status failure (inr (eight, part)) = inr eight

  -- a refusal tells no fault
  refusal_told : (status : ℕ) (failure : Failure) → failure_status failure ≢ 6 → failure_status failure ≢ 7 → failure_status failure ≢ 8
      → Tells (Some failure) None status old.err new.err → TellsFault status old.err new.err
  refusal_told status failure not_6 not_7 not_8 (inl (same, told)) = record {
    read_fault = λ six. absurd (not_6 (sym same ∙ six));
    write_fault = λ seven. absurd (not_7 (sym same ∙ seven));
    no_memory = λ eight. absurd (not_8 (sym same ∙ eight));
  }
  refusal_told status failure not_6 not_7 not_8 (inr (eight, part)) = told_8 status eight old.err new.err part

  -- a failed read tells its line
  read_told : (status : ℕ) → Tells (Some why.ReadFault) None status old.err new.err → TellsFault status old.err new.err
  read_told status (inl (six, told)) = record {
    read_fault = λ is. told;
    write_fault = λ seven. absurd (omega (arith, six, seven));
    no_memory = λ eight. absurd (omega (arith, six, eight));
  }
  read_told status (inr (eight, part)) = told_8 status eight old.err new.err part

  -- an input that was not touched was not read
  untouched : (status : ℕ) → status ≢ 9 → ¬ HasRun status → new.input ≡ old.input → ReadsInput words (outside_of old view) status old.input new.input
  untouched status not_9 not_run same = record {
    untouched = inl same;
    read = λ called. record {
      within = subst (λ s. DrawsWithin (input_limit + 1) old.input s) (sym same) ([], record { left = left_same old.input.left; counted = omega arith }, omega arith);
      whole = λ ran. absurd (not_run ran);
      cut = λ nine. absurd (not_9 nine);
      once = (let e : new.input.ended ≡ old.input.ended = ap (λ (s : SourceState). s.ended) same in omega (arith, e));
      too_long = λ taken. (let e : new.input.taken ≡ old.input.taken = ap (λ (s : SourceState). s.taken) same in absurd (omega (arith, taken, e)));
    };
  }
    where
      left_same : (left : Option (List ℕ)) → DrawsFrom left [] left
      left_same None = refl
      left_same (Some bytes) = (bytes, refl, refl)

  -- some of the input was drawn, and the program did not run
  drawn : (status : ℕ) → CallsForInput words (outside_of old view) → DrawsWithin input_limit old.input new.input → new.input.ended ≤ old.input.ended + 1
      → status ≢ 9 → ¬ HasRun status → ReadsInput words (outside_of old view) status old.input new.input
  drawn status calls (bytes, draws, few) once not_9 not_run = record {
    untouched = inr calls;
    read = λ called. record {
      within = (bytes, draws, omega (arith, few));
      whole = λ ran. absurd (not_run ran);
      cut = λ nine. absurd (not_9 nine);
      once = once;
      too_long = λ taken. (let e : new.input.taken ≡ old.input.taken + length bytes = draws.counted in absurd (omega (arith, taken, e, few)));
    };
  }

  -- a status that is neither 0 to 2 nor 7
  not_run : (status given : ℕ) → 3 ≤ given → given ≢ 7 → IsOr8 given status → ¬ HasRun status
  not_run status given low other (inl is) (inl none) = omega (arith, is, low, none)
  not_run status given low other (inl is) (inr (inl one)) = omega (arith, is, low, one)
  not_run status given low other (inl is) (inr (inr (inl two))) = omega (arith, is, low, two)
  not_run status given low other (inl is) (inr (inr (inr seven))) = other (sym is ∙ seven)
  not_run status given low other (inr eight) (inl none) = omega (arith, eight, none)
  not_run status given low other (inr eight) (inr (inl one)) = omega (arith, eight, one)
  not_run status given low other (inr eight) (inr (inr (inl two))) = omega (arith, eight, two)
  not_run status given low other (inr eight) (inr (inr (inr seven))) = omega (arith, eight, seven)

  -- what the outside counts where files and input are as they were
  calm_faults : new.files.counts ≡ old.files.counts → new.input.faults ≡ old.input.faults → faults_of new ≡ faults_of old
  calm_faults counts reads = no_fault old new counts reads (ap (λ (o : SinkState). o.faults) same_out)

  -- a refusal that asks nothing more of the outside
  calm : (status : ℕ) (failure : Failure) → 3 ≤ failure_status failure → failure_status failure ≢ 6 → failure_status failure ≢ 7 → failure_status failure ≢ 8
      → failure_status failure ≢ 9 → is_blame (failure_status failure) ≡ false → IsAnswer words (outside_of old view) (refusal failure)
      → (all : List Request) → AreToLoad words all → (made : List Request) → IsFront made all → AreMade (Some failure) all made → new.files ≡ after made old.files
      → new.input ≡ old.input → Tells (Some failure) None status old.err new.err → Keeps words status old new
  calm status failure low not_6 not_7 not_8 not_9 blame is all named made front far files input tells = record {
    outside = outside_of old view;
    cause = nothing;
    fits = fits old view;
    blames = record {
      rose = calm_faults (ap (λ (f : FilesState). f.counts) files) (ap (λ (s : SourceState). s.faults) input);
      blamed = by_status (status_or_8 status failure tells);
    };
    asked = tt;
    answered = refused status failure is tells;
    part = nothing_put;
    files = inr held;
    requests = refusal_asks status failure is all named made front far (ap (λ (f : FilesState). f.requests) files);
    input = untouched status (never_9 (status_or_8 status failure tells)) (not_run status (failure_status failure) low not_7 (status_or_8 status failure tells)) input;
    told = refusal_told status failure not_6 not_7 not_8 tells;
  }
    where
      by_status : (status ≡ failure_status failure) ⊎ (status ≡ 8) → is_blame status ≡ false
      by_status (inl same) = subst (λ s. is_blame s ≡ false) (sym same) blame
      by_status (inr eight) = subst (λ s. is_blame s ≡ false) (sym eight) refl

      never_9 : (status ≡ failure_status failure) ⊎ (status ≡ 8) → status ≢ 9
      never_9 (inl same) nine = not_9 (sym same ∙ nine)
      never_9 (inr eight) nine = omega (arith, eight, nine)

  -- A FILE IS MISSING, or too long
  missing : (status : ℕ) (file : List ℕ) → IsAnswer words (outside_of old view) (refusal (why.Absent file)) → (all : List Request) → AreToLoad words all
      → (made : List Request) → Stops (why.Absent file) all made → FilesAfter (why.Absent file) made old.files new.files → new.input ≡ old.input → Tells (Some (why.Absent file)) None status old.err new.err → Keeps words status old new
  missing status file is all named made (front, ends) (rose, same) input tells = record {
    outside = outside_of old view;
    cause = miss;
    fits = fits old view;
    blames = record {
      rose = (rose, λ i. record { files = (same i).counts; reads = (input i).faults; puts = (same_out i).faults });
      blamed = status_or_8 status (why.Absent file) tells;
    };
    asked = λ other other_is. subst (λ (a : Answer). status_of a.failure ≡ 5) (unique (refusal (why.Absent file)) other is other_is) refl;
    answered = refused status (why.Absent file) is tells;
    part = ap (λ (o : SinkState). o.written) same_out;
    files = inr held;
    requests = stopped miss status all named made
        (front, λ other other_is. subst (λ (a : Answer). EndsAt a.failure made) (unique (refusal (why.Absent file)) other is other_is) ends)
        (ap (λ (f : FilesState). f.requests) same);
    input = untouched status (never_9 (status_or_8 status (why.Absent file) tells))
        (not_run status 5 (omega arith) (λ e. omega (arith, e)) (status_or_8 status (why.Absent file) tells)) input;
    told = refusal_told status (why.Absent file) (λ e. omega (arith, e)) (λ e. omega (arith, e)) (λ e. omega (arith, e)) tells;
  }
    where
      never_9 : (status ≡ 5) ⊎ (status ≡ 8) → status ≢ 9
      never_9 (inl five) nine = omega (arith, five, nine)
      never_9 (inr eight) nine = omega (arith, eight, nine)

  long_file : (status : ℕ) (file : List ℕ) → IsAnswer words (outside_of old view) (refusal (why.FileLong file)) → (all : List Request) → AreToLoad words all
      → (made : List Request) → Stops (why.FileLong file) all made → FilesAfter (why.FileLong file) made old.files new.files → new.input ≡ old.input → Tells (Some (why.FileLong file)) None status old.err new.err → Keeps words status old new
  long_file status file is all named made (front, ends) (rose, same) input tells = record {
    outside = outside_of old view;
    cause = long;
    fits = fits old view;
    blames = record {
      rose = (rose, λ i. record { files = (same i).counts; reads = (input i).faults; puts = (same_out i).faults });
      blamed = status_or_8 status (why.FileLong file) tells;
    };
    asked = λ other other_is. subst (λ (a : Answer). status_of a.failure ≡ 12) (unique (refusal (why.FileLong file)) other is other_is) refl;
    answered = refused status (why.FileLong file) is tells;
    part = ap (λ (o : SinkState). o.written) same_out;
    files = inr held;
    requests = stopped long status all named made
        (front, λ other other_is. subst (λ (a : Answer). EndsAt a.failure made) (unique (refusal (why.FileLong file)) other is other_is) ends)
        (ap (λ (f : FilesState). f.requests) same);
    input = untouched status (never_9 (status_or_8 status (why.FileLong file) tells))
        (not_run status 12 (omega arith) (λ e. omega (arith, e)) (status_or_8 status (why.FileLong file) tells)) input;
    told = refusal_told status (why.FileLong file) (λ e. omega (arith, e)) (λ e. omega (arith, e)) (λ e. omega (arith, e)) tells;
  }
    where
      never_9 : (status ≡ 12) ⊎ (status ≡ 8) → status ≢ 9
      never_9 (inl twelve) nine = omega (arith, twelve, nine)
      never_9 (inr eight) nine = omega (arith, eight, nine)

  -- A LOAD FAILED
  unloaded : (status : ℕ) → CallsForFiles words → (all : List Request) → AreToLoad words all → (made : List Request) → Stops why.ReadFault all made
      → FilesAfter why.ReadFault made old.files new.files → new.input ≡ old.input → Tells (Some why.ReadFault) None status old.err new.err → Keeps words status old new
  unloaded status calls all named made stops (rose, same) input tells = record {
    outside = outside_of old view;
    cause = load_fault;
    fits = fits old view;
    blames = record {
      rose = (rose, λ i. record { files = (same i).counts; reads = (input i).faults; puts = (same_out i).faults });
      blamed = status_or_8 status why.ReadFault tells;
    };
    asked = calls;
    answered = six_or_8 tells;
    part = ap (λ (o : SinkState). o.written) same_out;
    files = inr held;
    requests = stopped load_fault status all named made stops (ap (λ (f : FilesState). f.requests) same);
    input = untouched status (never_9 (status_or_8 status why.ReadFault tells))
        (not_run status 6 (omega arith) (λ e. omega (arith, e)) (status_or_8 status why.ReadFault tells)) input;
    told = read_told status tells;
  }
    where
      never_9 : (status ≡ 6) ⊎ (status ≡ 8) → status ≢ 9
      never_9 (inl six) nine = omega (arith, six, nine)
      never_9 (inr eight) nine = omega (arith, eight, nine)

      six_or_8 : Tells (Some why.ReadFault) None status old.err new.err → IsAnswered (IsAnswer words (outside_of old view)) status old new
      six_or_8 (inl (six, told)) = inl six
      six_or_8 (inr (eight, part)) = inr (inr (inl eight))

  -- A READ OF THE INPUT FAILED
  unread : (status : ℕ) → CallsForInput words (outside_of old view) → (all : List Request) → AreToLoad words all → new.files ≡ after all old.files
      → DrawsWithin input_limit old.input new.input
      → Rose old.input.faults new.input.faults → new.input.ended ≡ old.input.ended → Tells (Some why.ReadFault) None status old.err new.err → Keeps words status old new
  unread status calls all named same draws rose unended tells = record {
    outside = outside_of old view;
    cause = read_fault;
    fits = fits old view;
    blames = record {
      rose = (rose, λ i. record { files = (same i).counts; reads = new.input.faults; puts = (same_out i).faults });
      blamed = status_or_8 status why.ReadFault tells;
    };
    asked = tt;
    answered = six_or_8 tells;
    part = ap (λ (o : SinkState). o.written) same_out;
    files = inr held;
    requests = stopped read_fault status all named all refl (ap (λ (f : FilesState). f.requests) same);
    input = drawn status calls draws (omega (arith, unended)) (never_9 (status_or_8 status why.ReadFault tells))
        (not_run status 6 (omega arith) (λ e. omega (arith, e)) (status_or_8 status why.ReadFault tells));
    told = read_told status tells;
  }
    where
      never_9 : (status ≡ 6) ⊎ (status ≡ 8) → status ≢ 9
      never_9 (inl six) nine = omega (arith, six, nine)
      never_9 (inr eight) nine = omega (arith, eight, nine)

      six_or_8 : Tells (Some why.ReadFault) None status old.err new.err → IsAnswered (IsAnswer words (outside_of old view)) status old new
      six_or_8 (inl (six, told)) = inl six
      six_or_8 (inr (eight, part)) = inr (inr (inl eight))

  -- NO MEMORY was found
  no_memory : (status : ℕ) → ReadsInput words (outside_of old view) status old.input new.input → (all : List Request) → AreToLoad words all
      → (made : List Request) → IsFront made all → new.files ≡ after made old.files → new.input.faults ≡ old.input.faults → status ≡ 8
      → GrowsInPart old.err.written (failure_line why.NoMemory) new.err.written → Keeps words status old new
  no_memory status input all named made front same reads eight part = record {
    outside = outside_of old view;
    cause = nothing;
    fits = fits old view;
    blames = record { rose = calm_faults (ap (λ (f : FilesState). f.counts) same) reads; blamed = subst (λ s. is_blame s ≡ false) (sym eight) refl };
    asked = tt;
    answered = inr (inr (inl eight));
    part = nothing_put;
    files = inr held;
    requests = asks_short status all named made front (ap (λ (f : FilesState). f.requests) same) eight;
    input = input;
    told = told_8 status eight old.err new.err part;
  }

  -- THE INPUT IS TOO LONG
  input_long : (status : ℕ) → IsAnswer words (outside_of old view) (refusal why.InputLong) → CallsForInput words (outside_of old view) → (all : List Request)
      → AreToLoad words all → new.files ≡ after all old.files → DrawsTooMany input_limit old.input new.input → new.input.faults ≡ old.input.faults → new.input.ended ≡ old.input.ended
      → Tells (Some why.InputLong) None status old.err new.err → Keeps words status old new
  input_long status is calls all named same draws reads unended tells = record {
    outside = outside_of old view;
    cause = nothing;
    fits = fits old view;
    blames = record { rose = calm_faults (ap (λ (f : FilesState). f.counts) same) reads; blamed = by_status (status_or_8 status why.InputLong tells) };
    asked = tt;
    answered = refused status why.InputLong is tells;
    part = nothing_put;
    files = inr held;
    requests = refusal_asks status why.InputLong is all named all (front_same all all refl) refl (ap (λ (f : FilesState). f.requests) same);
    input = record {
      untouched = inr calls;
      read = λ called. record {
        within = (draws.0, draws.1, (let e : length draws.0 ≡ input_limit + 1 = draws.2 in omega (arith, e)));
        whole = λ ran. absurd (not_run status 9 (omega arith) (λ e. omega (arith, e)) (status_or_8 status why.InputLong tells) ran);
        cut = λ nine. (draws, unended);
        once = omega (arith, unended);
        too_long = λ taken. status_or_8 status why.InputLong tells;
      };
    };
    told = refusal_told status why.InputLong (λ e. omega (arith, e)) (λ e. omega (arith, e)) (λ e. omega (arith, e)) tells;
  }
    where
      by_status : (status ≡ 9) ⊎ (status ≡ 8) → is_blame status ≡ false
      by_status (inl nine) = subst (λ s. is_blame s ≡ false) (sym nine) refl
      by_status (inr eight) = subst (λ s. is_blame s ≡ false) (sym eight) refl

  -- no memory was found, and nothing was asked of the input
  short_of_memory : (status : ℕ) (all : List Request) → AreToLoad words all → (made : List Request) → IsFront made all → new.files ≡ after made old.files
      → new.input ≡ old.input → Tells (Some why.NoMemory) None status old.err new.err → Keeps words status old new
  short_of_memory status all named made front files input (inl (eight, told)) =
      no_memory status (untouched status (λ nine. omega (arith, eight, nine)) (not_run status 8 (omega arith) (λ e. omega (arith, e)) (inr eight)) input)
      all named made front files (ap (λ (s : SourceState). s.faults) input) eight told.part
  short_of_memory status all named made front files input (inr (eight, part)) =
      no_memory status (untouched status (λ nine. omega (arith, eight, nine)) (not_run status 8 (omega arith) (λ e. omega (arith, e)) (inr eight)) input)
      all named made front files (ap (λ (s : SourceState). s.faults) input) eight part

  -- or some of the input was drawn
  drawn_short : (status : ℕ) → CallsForInput words (outside_of old view) → DrawsWithin input_limit old.input new.input
      → (all : List Request) → AreToLoad words all → new.files ≡ after all old.files → new.input.faults ≡ old.input.faults → new.input.ended ≤ old.input.ended + 1
      → Tells (Some why.NoMemory) None status old.err new.err → Keeps words status old new
  drawn_short status calls draws all named files reads once (inl (eight, told)) =
      no_memory status (drawn status calls draws once (λ nine. omega (arith, eight, nine)) (not_run status 8 (omega arith) (λ e. omega (arith, e)) (inr eight)))
      all named all (front_same all all refl) files reads eight told.part
  drawn_short status calls draws all named files reads once (inr (eight, part)) =
      no_memory status (drawn status calls draws once (λ nine. omega (arith, eight, nine)) (not_run status 8 (omega arith) (λ e. omega (arith, e)) (inr eight)))
      all named all (front_same all all refl) files reads eight part

  -- what refuses everywhere refuses here
  here : (failure : Failure) → IfRefusal failure (Everywhere view (λ outside. IsAnswer words outside (refusal failure)))
      → IfRefusal failure (IsAnswer words (outside_of old view) (refusal failure))
  here failure is = refusal_maps _ _ failure (λ everywhere. everywhere (outside_of old view) (shows old view is_view)) is

  -- the failure of a status that is neither of a fault nor 9
  by_files : (status : ℕ) (failure : Failure) → CallsForFiles words → (all : List Request) → AreToLoad words all → LoadsStop failure all old.files new.files
      → new.input ≡ old.input
      → IfRefusal failure (IsAnswer words (outside_of old view) (refusal failure)) → Tells (Some failure) None status old.err new.err → Keeps words status old new
  by_files status (why.Trapped trap place) loads all named (made, stops, left) input is tells = absurd left
  by_files status (why.OutOfSteps steps) loads all named (made, stops, left) input is tells = absurd left
  by_files status (why.Lex fault) loads all named (made, stops, left) input is tells =
      calm status (why.Lex fault) (omega arith) (λ e. omega (arith, e)) (λ e. omega (arith, e)) (λ e. omega (arith, e)) (λ e. omega (arith, e)) refl is all named made (front_same made all stops) stops left input tells
  by_files status (why.Parse fault) loads all named (made, stops, left) input is tells =
      calm status (why.Parse fault) (omega arith) (λ e. omega (arith, e)) (λ e. omega (arith, e)) (λ e. omega (arith, e)) (λ e. omega (arith, e)) refl is all named made (front_same made all stops) stops left input tells
  by_files status (why.Types fault) loads all named (made, stops, left) input is tells =
      calm status (why.Types fault) (omega arith) (λ e. omega (arith, e)) (λ e. omega (arith, e)) (λ e. omega (arith, e)) (λ e. omega (arith, e)) refl is all named made (front_same made all stops) stops left input tells
  by_files status (why.Usage fault) loads all named (made, stops, left) input is tells =
      calm status (why.Usage fault) (omega arith) (λ e. omega (arith, e)) (λ e. omega (arith, e)) (λ e. omega (arith, e)) (λ e. omega (arith, e)) refl is all named made (front_same made all stops) stops left input tells
  by_files status (why.Absent file) loads all named (made, stops, left) input is tells = missing status file is all named made stops left input tells
  by_files status why.ReadFault loads all named (made, stops, left) input is tells = unloaded status loads all named made stops left input tells
  by_files status why.WriteFault loads all named (made, stops, left) input is tells = absurd left
  by_files status why.NoMemory loads all named (made, stops, left) input is tells = short_of_memory status all named made stops left input tells
  by_files status why.InputLong loads all named (made, stops, left) input is tells = absurd left
  by_files status (why.Table fault) loads all named (made, stops, left) input is tells =
      calm status (why.Table fault) (omega arith) (λ e. omega (arith, e)) (λ e. omega (arith, e)) (λ e. omega (arith, e)) (λ e. omega (arith, e)) refl is all named made (front_same made all stops) stops left input tells
  by_files status (why.Saved place) loads all named (made, stops, left) input is tells =
      calm status (why.Saved place) (omega arith) (λ e. omega (arith, e)) (λ e. omega (arith, e)) (λ e. omega (arith, e)) (λ e. omega (arith, e)) refl is all named made (front_same made all stops) stops left input tells
  by_files status (why.FileLong file) loads all named (made, stops, left) input is tells = long_file status file is all named made stops left input tells
  by_files status (why.SavedIn file place) loads all named (made, stops, left) input is tells =
      calm status (why.SavedIn file place) (omega arith) (λ e. omega (arith, e)) (λ e. omega (arith, e)) (λ e. omega (arith, e)) (λ e. omega (arith, e)) refl is all named made stops.0 stops left input tells
  by_files status (why.OtherProgram file) loads all named (made, stops, left) input is tells =
      calm status (why.OtherProgram file) (omega arith) (λ e. omega (arith, e)) (λ e. omega (arith, e)) (λ e. omega (arith, e)) (λ e. omega (arith, e)) refl is all named made stops.0 stops left input tells
  by_files status (why.SumLarge file) loads all named (made, stops, left) input is tells =
      calm status (why.SumLarge file) (omega arith) (λ e. omega (arith, e)) (λ e. omega (arith, e)) (λ e. omega (arith, e)) (λ e. omega (arith, e)) refl is all named made stops.0 stops left input tells

  by_input : (status : ℕ) (failure : Failure) → CallsForInput words (outside_of old view) → LoadsAll (AreToLoad words) old.files new.files
      → InputAfter failure old.input new.input
      → IfRefusal failure (IsAnswer words (outside_of old view) (refusal failure)) → Tells (Some failure) None status old.err new.err → Keeps words status old new
  by_input status (why.Trapped trap place) calls loaded left is tells = absurd left
  by_input status (why.OutOfSteps steps) calls loaded left is tells = absurd left
  by_input status (why.Lex fault) calls loaded left is tells = absurd left
  by_input status (why.Parse fault) calls loaded left is tells = absurd left
  by_input status (why.Types fault) calls loaded left is tells = absurd left
  by_input status (why.Usage fault) calls loaded left is tells = absurd left
  by_input status (why.Absent file) calls loaded left is tells = absurd left
  by_input status why.ReadFault calls (all, named, same) (draws, rose, unended) is tells = unread status calls all named same draws rose unended tells
  by_input status why.WriteFault calls loaded left is tells = absurd left
  by_input status why.NoMemory calls (all, named, same) (draws, reads, once) is tells = drawn_short status calls draws all named same reads once tells
  by_input status why.InputLong calls (all, named, same) (draws, reads, unended) is tells = input_long status is calls all named same draws reads unended tells
  by_input status (why.Table fault) calls loaded left is tells = absurd left
  by_input status (why.Saved place) calls loaded left is tells = absurd left
  by_input status (why.FileLong file) calls loaded left is tells = absurd left
  by_input status (why.SavedIn file place) calls loaded left is tells = absurd left
  by_input status (why.OtherProgram file) calls loaded left is tells = absurd left
  by_input status (why.SumLarge file) calls loaded left is tells = absurd left

  -- nothing was asked of the outside
  quiet : (status : ℕ) (failure : Failure) → IsQuiet failure → IfRefusal failure (AreToLoad words []) → new.files ≡ after [] old.files → new.input ≡ old.input
      → IfRefusal failure (IsAnswer words (outside_of old view) (refusal failure)) → Tells (Some failure) None status old.err new.err → Keeps words status old new
  quiet status (why.Trapped trap place) silent none files input is tells = absurd silent
  quiet status (why.OutOfSteps steps) silent none files input is tells = absurd silent
  quiet status (why.Lex fault) silent none files input is tells =
      calm status (why.Lex fault) (omega arith) (λ e. omega (arith, e)) (λ e. omega (arith, e)) (λ e. omega (arith, e)) (λ e. omega (arith, e)) refl is [] none [] (front_same [] [] refl) refl files input tells
  quiet status (why.Parse fault) silent none files input is tells =
      calm status (why.Parse fault) (omega arith) (λ e. omega (arith, e)) (λ e. omega (arith, e)) (λ e. omega (arith, e)) (λ e. omega (arith, e)) refl is [] none [] (front_same [] [] refl) refl files input tells
  quiet status (why.Types fault) silent none files input is tells =
      calm status (why.Types fault) (omega arith) (λ e. omega (arith, e)) (λ e. omega (arith, e)) (λ e. omega (arith, e)) (λ e. omega (arith, e)) refl is [] none [] (front_same [] [] refl) refl files input tells
  quiet status (why.Usage fault) silent none files input is tells =
      calm status (why.Usage fault) (omega arith) (λ e. omega (arith, e)) (λ e. omega (arith, e)) (λ e. omega (arith, e)) (λ e. omega (arith, e)) refl is [] none [] (front_same [] [] refl) refl files input tells
  quiet status (why.Absent file) silent none files input is tells = absurd silent
  quiet status why.ReadFault silent none files input is tells = absurd silent
  quiet status why.WriteFault silent none files input is tells = absurd silent
  quiet status why.NoMemory silent none files input is tells =
      let (all, named) = loads_exist words in short_of_memory status all named [] (all, refl) files input tells
  quiet status why.InputLong silent none files input is tells = absurd silent
  quiet status (why.Table fault) silent none files input is tells = absurd silent
  quiet status (why.Saved place) silent none files input is tells = absurd silent
  quiet status (why.FileLong file) silent none files input is tells = absurd silent
  quiet status (why.SavedIn file place) silent none files input is tells = absurd silent
  quiet status (why.OtherProgram file) silent none files input is tells = absurd silent
  quiet status (why.SumLarge file) silent none files input is tells = absurd silent

  pub not_found : (status : ℕ) (failure : Failure) → FailsBefore failure (CallsForFiles words) (AreToLoad words) (CallsForInput words) view (around old) (around new)
      → IfRefusal failure (Everywhere view (λ outside. IsAnswer words outside (refusal failure))) → Tells (Some failure) None status old.err new.err → Keeps words status old new
  not_found status failure (inl (loads, (all, named, stop), input)) is tells = by_files status failure loads all named stop input (here failure is) tells
  not_found status failure (inr (inl (calls, loaded, left))) is tells =
      by_input status failure (calls (outside_of old view) (shows old view is_view)) loaded left (here failure is) tells
  not_found status failure (inr (inr (silent, none, same))) is tells =
      quiet status failure silent none (ap (λ (a : Around). a.files) same ∙ after_none old.files) (ap (λ (a : Around). a.input) same) (here failure is) tells

-- what a failure leaves of the contents of files
held_after : (failure : Failure) (made : List Request) (old new : FilesState) → FilesAfter failure made old new → new.held ≡ old.held
held_after (why.Trapped trap place) made old new left = absurd left
held_after (why.OutOfSteps steps) made old new left = absurd left
held_after (why.Lex fault) made old new left = ap (λ (f : FilesState). f.held) left
held_after (why.Parse fault) made old new left = ap (λ (f : FilesState). f.held) left
held_after (why.Types fault) made old new left = ap (λ (f : FilesState). f.held) left
held_after (why.Usage fault) made old new left = ap (λ (f : FilesState). f.held) left
held_after (why.Absent file) made old new (rose, same) = ap (λ (f : FilesState). f.held) same
held_after why.ReadFault made old new (rose, same) = ap (λ (f : FilesState). f.held) same
held_after why.WriteFault made old new left = absurd left
held_after why.NoMemory made old new left = ap (λ (f : FilesState). f.held) left
held_after why.InputLong made old new left = absurd left
held_after (why.Table fault) made old new left = ap (λ (f : FilesState). f.held) left
held_after (why.Saved place) made old new left = ap (λ (f : FilesState). f.held) left
held_after (why.FileLong file) made old new (rose, same) = ap (λ (f : FilesState). f.held) same
held_after (why.SavedIn file place) made old new left = ap (λ (f : FilesState). f.held) left
held_after (why.OtherProgram file) made old new left = ap (λ (f : FilesState). f.held) left
held_after (why.SumLarge file) made old new left = ap (λ (f : FilesState). f.held) left

held_before : (failure : Failure) (loads : Type 0) (named : List Request → Type 0) (calls : Outside → Type 0) (view : View) (old new : Around) → FailsBefore failure loads named calls view old new
    → new.files.held ≡ old.files.held
held_before failure loads named calls view old new (inl (loaded, (all, is, (made, stops, left)), input)) = held_after failure made old.files new.files left
held_before failure loads named calls view old new (inr (inl (called, (all, is, same), left))) = ap (λ (f : FilesState). f.held) same
held_before failure loads named calls view old new (inr (inr (silent, none, same))) = ap (λ (a : Around). a.files.held) same

-- WHAT THE CALL COMES TO meets the theorem
pub keeps : AnswersAreUnique → (words : List (List ℕ)) (status : ℕ) (ending : Ending) (old new : World)
    → Performs ending words (around old) (around new) old.out new.out → Tells ending.failure ending.more status old.err new.err → Keeps words status old new
keeps unique words status ending old new (inl (failure, is, inl ((view, is_view, (before, refusal)), same_out))) tells =
    not_found words old new view is_view same_out (unique words (outside_of old view))
    (held_before failure (CallsForFiles words) (AreToLoad words) (CallsForInput words) view (around old) (around new) before)
    status failure before refusal (subst (λ (e : Ending). Tells e.failure e.more status old.err new.err) is tells)
keeps unique words status ending old new (inl (failure, is, inr (view, is_view, (fault, same_failure, counts, (all, named, same), input, puts)))) tells =
    cut_off words old new view is_view input all named same status fault counts (puts (outside_of old view) (shows old view is_view))
    (subst (λ f. Tells (Some f) None status old.err new.err) same_failure
    (subst (λ (e : Ending). Tells e.failure e.more status old.err new.err) is tells))
keeps unique words status ending old new
    (inr (answer, delivered, mid, out_mid, (first, puts, (view, is_view, ((all, named, same), input, is_end, is_answer))), delivers, ends)) tells =
    let is = is_answer (outside_of old view) (shows old view is_view) in
    found words old new view is_view (behind first answer) is (λ other other_is. unique words (outside_of old view) (behind first answer) other is other_is) is_end input
    all named status ending delivered
    (subst (λ (f : FilesState). Delivers delivered (behind first answer) f new.files old.out new.out) same
    (delivered_behind first answer delivered mid new.files old.out out_mid new.out puts delivers)) (ends_behind first answer ending delivered ends) tells
