-- Words have one answer.
use Rattle.std.proofs.Common.{◌≡◌, ◌≢◌, ℕ, zero, suc, ◌+◌, ◌<◌, ◌≤◌, ◌⊎◌, inl, inr, ◌||◌, Bool, true, false, if◌then◌else◌, List, [], ◌∷◌, length, take, Option, Some, None, Result, Ok, Err, slice_get, arith, refl, sym, ap, subst, ◌∙◌}
use Rattle.std.specs.Prelude.{is_some, nat_lt, option_map, option_and_then}
use Rattle.std.proofs.lemmas.Bool.{cases_lt}
use Rattle.std.proofs.lemmas.Option.{none-some, same_Some, slice_get_past}
use Rattle.k_words.specs.declared.job.Job.{Job}
use Rattle.k_words.specs.declared.job.Job.TheVariants as job
use Rattle.k_words.specs.declared.option.Command.{Command}
use Rattle.k_words.specs.declared.option.Command.TheVariants.{Run, Graph, Carried, Replay, Page, Annotate, Show, Merge, Check, Demo}
use Rattle.k_words.specs.declared.option.Setting.{Setting}
use Rattle.k_words.specs.declared.usage.Usage.{Usage}
use Rattle.k_words.specs.declared.usage.Usage.TheVariants.{NoCommand, UnknownWord, BadNumber, Twice, NoFile, Memory}
use Rattle.k_words.specs.Parts.{parts_of}
use Rattle.k_words.specs.Setting.{is_value, option_of}
use Rattle.k_words.specs.Settings.{IsFirst, bars, fault_if_there, given, option_fault, settings_fault}
use Rattle.k_words.proofs.FilesToMerge.{missing_late}
use Rattle.k_words.specs.Words.{Answers, AreRight, IsAnswer, annotate_of, carried_of, command_fault, command_of, demo_fault, demo_job, demo_loops, demo_number, fault_at, fault_behind, file_fault, graph_of, is_no_file, job_of, job_with, loops_fault, merged_fault, most_merged, one_too_many, page_of, replay_of, run_of, show_of}

-- what is wrong with a word is no want of memory
IsNoMemory : Option Usage → Type 0
IsNoMemory None = Unit {0}
IsNoMemory (Some NoCommand) = Unit {0}
IsNoMemory (Some (UnknownWord index)) = Unit {0}
IsNoMemory (Some (BadNumber index)) = Unit {0}
IsNoMemory (Some (Twice index)) = Unit {0}
IsNoMemory (Some NoFile) = Unit {0}
IsNoMemory (Some Memory) = ⊥

either : (b : Bool) (one other : Option Usage) → IsNoMemory one → IsNoMemory other → IsNoMemory (if b then one else other)
either true one other h k = h
either false one other h k = k

option_other : (command : Command) (before : Setting → Bool) (o : Option (Setting × List ℕ)) (index : ℕ) → IsNoMemory (option_fault command before o index)
unfolding IsNoMemory
option_other command before None index = tt
option_other command before (Some o) index =
    let right : Option Usage = if is_value command o.0 o.1 then None else Some (BadNumber index) in
    either (before o.0) (Some (Twice index)) right tt (either (is_value command o.0 o.1) None (Some (BadNumber index)) tt tt)

there_other : (command : Command) (before : Setting → Bool) (word : Option (List ℕ)) (index : ℕ) → IsNoMemory (fault_if_there command before word index)
unfolding IsNoMemory
there_other command before None index = tt
there_other command before (Some word) index = option_other command before (option_of command word) index

file_other : (command : Command) (arguments : List (List ℕ)) (k : ℕ) → IsNoMemory (file_fault command arguments k)
unfolding IsNoMemory
file_other command [] zero = tt
file_other command [] (suc k) = tt
file_other command (file ∷ words) zero = either (is_no_file file) (Some NoFile) None tt tt
file_other command (file ∷ words) (suc k) = there_other command _ (slice_get words k) (k + 2)

many_other : (word : Option (List ℕ)) (index : ℕ) → IsNoMemory (one_too_many word index)
unfolding IsNoMemory
many_other None index = tt
many_other (Some word) index = tt

loops_other : (words : List (List ℕ)) (k : ℕ) → IsNoMemory (loops_fault words k)
unfolding IsNoMemory
loops_other [] zero = tt
loops_other [] (suc k) = tt
loops_other (loops ∷ words) zero = either (is_some (demo_loops loops)) None (Some (BadNumber 2)) tt tt
loops_other (loops ∷ words) (suc k) = many_other (slice_get words k) (k + 3)

demo_other : (arguments : List (List ℕ)) (k : ℕ) → IsNoMemory (demo_fault arguments k)
unfolding IsNoMemory
demo_other [] zero = tt
demo_other [] (suc k) = tt
demo_other (number ∷ words) zero = either (is_some (demo_number number)) None (Some (BadNumber 1)) tt tt
demo_other (number ∷ words) (suc k) = loops_other words k

merged_other : (word : Option (List ℕ)) (k : ℕ) → IsNoMemory (merged_fault word k)
unfolding IsNoMemory
merged_other None k = either (nat_lt k 3) (Some NoFile) None tt tt
merged_other (Some word) k =
    let early : Option Usage = if is_no_file word then Some NoFile else None in
    let late : Option Usage = if is_no_file word || nat_lt most_merged k then Some (UnknownWord (k + 1)) else None in
    either (nat_lt k 3) early late (either (is_no_file word) (Some NoFile) None tt tt)
    (either (is_no_file word || nat_lt most_merged k) (Some (UnknownWord (k + 1))) None tt tt)

behind_other : (command : Option Command) (arguments : List (List ℕ)) (k : ℕ) → IsNoMemory (fault_behind command arguments k)
unfolding IsNoMemory
behind_other None arguments k = tt
behind_other (Some Run) arguments k = file_other Run arguments k
behind_other (Some Graph) arguments k = file_other Graph arguments k
behind_other (Some Carried) arguments k = file_other Carried arguments k
behind_other (Some Replay) arguments k = file_other Replay arguments k
behind_other (Some Page) arguments k = file_other Page arguments k
behind_other (Some Annotate) arguments k = file_other Annotate arguments k
behind_other (Some Show) arguments k = file_other Show arguments k
behind_other (Some Merge) arguments k = merged_other (slice_get arguments k) k
behind_other (Some Check) arguments k = file_other Check arguments k
behind_other (Some Demo) arguments k = demo_other arguments k

command_other : (command : Option Command) → IsNoMemory (command_fault command)
unfolding IsNoMemory
command_other None = tt
command_other (Some command) = tt

fault_other : (words : List (List ℕ)) (k : ℕ) → IsNoMemory (fault_at words k)
unfolding IsNoMemory
fault_other [] zero = tt
fault_other [] (suc k) = tt
fault_other (command ∷ arguments) zero = command_other (command_of command)
fault_other (command ∷ arguments) (suc k) = behind_other (command_of command) arguments k

-- nothing is wrong behind the last word
settings_past : (command : Command) (words : List (List ℕ)) (k : ℕ) → length words ≤ k → settings_fault command words k ≡ None
settings_past command words k past = ap (λ word. fault_if_there command (bars (given command (take k words))) word (k + 2)) (slice_get_past words k past)

file_past : (command : Command) (arguments : List (List ℕ)) (k : ℕ) → length arguments < k → file_fault command arguments k ≡ None
file_past command [] zero past = absurd (omega arith)
file_past command [] (suc k) past = refl
file_past command (file ∷ words) zero past = absurd (omega arith)
file_past command (file ∷ words) (suc k) past = settings_past command words k (omega arith)

loops_past : (words : List (List ℕ)) (k : ℕ) → length words < k → loops_fault words k ≡ None
loops_past [] zero past = absurd (omega arith)
loops_past [] (suc k) past = refl
loops_past (loops ∷ words) zero past = absurd (omega arith)
loops_past (loops ∷ words) (suc k) past = let low : length words ≤ k = omega arith in ap (λ word. one_too_many word (k + 3)) (slice_get_past words k low)

demo_past : (arguments : List (List ℕ)) (k : ℕ) → length arguments < k → demo_fault arguments k ≡ None
demo_past [] zero past = absurd (omega arith)
demo_past [] (suc k) past = refl
demo_past (number ∷ words) zero past = absurd (omega arith)
demo_past (number ∷ words) (suc k) past = loops_past words k (omega arith)

behind_past : (command : Option Command) (arguments : List (List ℕ)) (k : ℕ) → length arguments + 2 < k → fault_behind command arguments k ≡ None
behind_past None arguments k past = refl
behind_past (Some Run) arguments k past = file_past Run arguments k (omega (arith, past))
behind_past (Some Graph) arguments k past = file_past Graph arguments k (omega (arith, past))
behind_past (Some Carried) arguments k past = file_past Carried arguments k (omega (arith, past))
behind_past (Some Replay) arguments k past = file_past Replay arguments k (omega (arith, past))
behind_past (Some Page) arguments k past = file_past Page arguments k (omega (arith, past))
behind_past (Some Annotate) arguments k past = file_past Annotate arguments k (omega (arith, past))
behind_past (Some Show) arguments k past = file_past Show arguments k (omega (arith, past))
behind_past (Some Merge) arguments k past = missing_late arguments k (omega (arith, past)) (omega (arith, past))
behind_past (Some Check) arguments k past = file_past Check arguments k (omega (arith, past))
behind_past (Some Demo) arguments k past = demo_past arguments k (omega (arith, past))

fault_past : (words : List (List ℕ)) (k : ℕ) → length words + 2 < k → fault_at words k ≡ None
fault_past [] zero past = absurd (omega arith)
fault_past [] (suc k) past = refl
fault_past (command ∷ arguments) zero past = absurd (omega arith)
fault_past (command ∷ arguments) (suc k) past = behind_past (command_of command) arguments k (omega arith)

-- words none of which is wrong ask for something
demo_made : (n l : Option ℕ) → (if is_some n then None else Some (BadNumber 1)) ≡ None → (if is_some l then None else Some (BadNumber 2)) ≡ None
    → (j : Job) × (option_and_then (λ number. option_map (λ loops. job.Demo number loops) l) n ≡ Some j)
demo_made None l number loops = absurd (none-some _ (sym number))
demo_made (Some n) None number loops = absurd (none-some _ (sym loops))
demo_made (Some n) (Some l) number loops = (job.Demo n l, refl)

demo_there : (arguments : List (List ℕ)) → AreRight (demo_fault arguments) → (j : Job) × (demo_job arguments ≡ Some j)
demo_there [] right = absurd (none-some _ (sym (right 0)))
demo_there (number ∷ []) right = absurd (none-some _ (sym (right 1)))
demo_there (number ∷ loops ∷ words) right = demo_made (demo_number number) (demo_loops loops) (right 0) (right 1)

job_behind : (command : Option Command) (arguments : List (List ℕ)) → command_fault command ≡ None → AreRight (fault_behind command arguments)
    → (j : Job) × (option_and_then (job_with arguments) command ≡ Some j)
job_behind None arguments known right = absurd (none-some _ (sym known))
job_behind (Some Run) [] known right = absurd (none-some _ (sym (right 0)))
job_behind (Some Run) (file ∷ words) known right = (run_of file (given Run words), refl)
job_behind (Some Graph) [] known right = absurd (none-some _ (sym (right 0)))
job_behind (Some Graph) (file ∷ words) known right = (graph_of file (given Graph words), refl)
job_behind (Some Carried) [] known right = absurd (none-some _ (sym (right 0)))
job_behind (Some Carried) (file ∷ words) known right = (carried_of file (given Carried words), refl)
job_behind (Some Replay) [] known right = absurd (none-some _ (sym (right 0)))
job_behind (Some Replay) (file ∷ words) known right = (replay_of file (given Replay words), refl)
job_behind (Some Page) [] known right = absurd (none-some _ (sym (right 0)))
job_behind (Some Page) (file ∷ words) known right = (page_of file (given Page words), refl)
job_behind (Some Annotate) [] known right = absurd (none-some _ (sym (right 0)))
job_behind (Some Annotate) (file ∷ words) known right = (annotate_of file (given Annotate words), refl)
job_behind (Some Show) [] known right = absurd (none-some _ (sym (right 0)))
job_behind (Some Show) (file ∷ words) known right = (show_of file (given Show words), refl)
job_behind (Some Merge) [] known right = absurd (none-some _ (sym (right 0)))
job_behind (Some Merge) (save ∷ files) known right = (job.Merge save (parts_of [] files), refl)
job_behind (Some Check) [] known right = absurd (none-some _ (sym (right 0)))
job_behind (Some Check) (file ∷ words) known right = (job.Check file, refl)
job_behind (Some Demo) arguments known right = demo_there arguments right

job_there : (words : List (List ℕ)) → AreRight (fault_at words) → (j : Job) × (job_of words ≡ Some j)
job_there [] right = absurd (none-some _ (sym (right 0)))
job_there (command ∷ arguments) right = job_behind (command_of command) arguments (right 0) (λ k. right (suc k))

-- an answer that is no want of memory
HasAnswer : (ℕ → Option Usage) → Option Job → Type 0
HasAnswer faults asked = (answer : Result Job Usage) × Answers faults asked answer × (answer ≢ Err Memory)

-- the first wrong word is an answer
first_answers : (faults : ℕ → Option Usage) (asked : Option Job) (fault : Usage) → IsNoMemory (Some fault) → IsFirst faults fault → HasAnswer faults asked
unfolding IsNoMemory HasAnswer
first_answers faults asked NoCommand other first = (Err NoCommand, first, λ e. cc)
first_answers faults asked (UnknownWord index) other first = (Err (UnknownWord index), first, λ e. cc)
first_answers faults asked (BadNumber index) other first = (Err (BadNumber index), first, λ e. cc)
first_answers faults asked (Twice index) other first = (Err (Twice index), first, λ e. cc)
first_answers faults asked NoFile other first = (Err NoFile, first, λ e. cc)
first_answers faults asked Memory other first = absurd other

-- one of the first words is the first wrong one, or none of them is wrong
first_or_none : (faults : ℕ → Option Usage) (n : ℕ) → ((fault : Usage) × IsFirst faults fault) ⊎ ((k : ℕ) → k < n → faults k ≡ None)
first_or_none faults zero = inr (λ k low. absurd (omega arith))
first_or_none faults (suc n) = elim (first_or_none faults n) [ inl found ↦ inl found | inr right ↦ at_next faults n right (faults n) refl ]
  where
    at_next : (faults : ℕ → Option Usage) (n : ℕ) → ((k : ℕ) → k < n → faults k ≡ None) → (next : Option Usage) → faults n ≡ next
        → ((fault : Usage) × IsFirst faults fault) ⊎ ((k : ℕ) → k < suc n → faults k ≡ None)
    at_next faults n right None is = inr (λ k low. elim (cases_lt k n) [ inl below ↦ right k below | inr high ↦ (let same : n ≡ k = omega arith in ap faults (sym same) ∙ is) ])
    at_next faults n right (Some fault) is = inl (fault, record { at = n; wrong = is; before = right })

answer_found : (words : List (List ℕ)) → ((fault : Usage) × IsFirst (fault_at words) fault) ⊎ ((k : ℕ) → k < length words + 3 → fault_at words k ≡ None)
    → HasAnswer (fault_at words) (job_of words)
unfolding HasAnswer
answer_found words (inl found) =
    first_answers (fault_at words) (job_of words) found.0 (subst IsNoMemory found.1.wrong (fault_other words found.1.at)) found.1
answer_found words (inr none) =
    let right : AreRight (fault_at words) = λ k. elim (cases_lt k (length words + 3)) [ inl low ↦ none k low | inr high ↦ fault_past words k (omega arith) ] in
    let asked = job_there words right in
    (Ok asked.0, (right, asked.1), λ e. cc)

-- there is an answer
pub answer_exists : (words : List (List ℕ)) → (answer : Result Job Usage) × IsAnswer words answer × (answer ≢ Err Memory)
unfolding HasAnswer
answer_exists words = answer_found words (first_or_none (fault_at words) (length words + 3))

-- the answer is no want of memory
abbrev IsOther : Result Job Usage → Type 0
IsOther answer = answer ≢ Err Memory

-- a fault that is answered is that of the first wrong word
first_of_answer : (faults : ℕ → Option Usage) (asked : Option Job) (fault : Usage) → Answers faults asked (Err fault) → IsOther (Err fault) → IsFirst faults fault
first_of_answer faults asked NoCommand first other = first
first_of_answer faults asked (UnknownWord index) first other = first
first_of_answer faults asked (BadNumber index) first other = first
first_of_answer faults asked (Twice index) first other = first
first_of_answer faults asked NoFile first other = first
first_of_answer faults asked Memory first other = absurd (other refl)

-- no word is wrong before the first wrong one
not_before : (faults : ℕ → Option Usage) (one other : Usage) (f : IsFirst faults one) (g : IsFirst faults other) → g.at ≤ f.at
not_before faults one other f g = elim (cases_lt f.at g.at) [ inl low ↦ absurd (none-some one (sym (g.before f.at low) ∙ f.wrong)) | inr high ↦ high ]

-- there is one first wrong word
one_first : (faults : ℕ → Option Usage) (one other : Usage) → IsFirst faults one → IsFirst faults other → one ≡ other
one_first faults one other f g =
    let below = not_before faults one other f g in
    let above = not_before faults other one g f in
    let same : f.at ≡ g.at = omega arith in
    same_Some one other (sym f.wrong ∙ ap faults same ∙ g.wrong)

-- there is one answer
one_of : (faults : ℕ → Option Usage) (asked : Option Job) (one other : Result Job Usage) → Answers faults asked one → Answers faults asked other
    → one ≢ Err Memory → other ≢ Err Memory → one ≡ other
one_of faults asked (Ok i) (Ok j) f g a b = ap Ok (same_Some i j (sym f.1 ∙ g.1))
one_of faults asked (Ok i) (Err v) f g a b = let first = first_of_answer faults asked v g b in absurd (none-some v (sym (f.0 first.at) ∙ first.wrong))
one_of faults asked (Err u) (Ok j) f g a b = let first = first_of_answer faults asked u f a in absurd (none-some u (sym (g.0 first.at) ∙ first.wrong))
one_of faults asked (Err u) (Err v) f g a b = ap Err (one_first faults u v (first_of_answer faults asked u f a) (first_of_answer faults asked v g b))

pub answer_is_unique : (words : List (List ℕ)) (one other : Result Job Usage) → IsAnswer words one → IsAnswer words other → one ≢ Err Memory → other ≢ Err Memory → one ≡ other
answer_is_unique words one other = one_of (fault_at words) (job_of words) one other
