-- Believed with a public law.
-- What `kremlin merge` saves, and what `kremlin show` writes of a saved sum, where nothing goes wrong outside and memory suffices.
use Rattle.std.specs.Prelude.{ℕ, zero, suc, ◌≡◌, ◌≤◌, List, [], ◌∷◌, length, Some, Ok}
use Rattle.k_edge.specs.FilesWords.{Has, KeepsOthers}
use Rattle.k_edge.specs.SinkWords.{Grows}
use Rattle.k_sum.specs.SumText.{sum_text}
use Rattle.k_sum.specs.Sums.{both}
use Rattle.k_sum.specs.declared.sum.Sum.{Sum}
use Rattle.k_sum_merge.specs.Merges.{IsPast}
use Rattle.k_sum_order.specs.Order.{IsOrdered}
use Rattle.k_sum_read.specs.AnyFile.{ReadsAny}
use Rattle.k_sum_saved.specs.SumLines.{AreOfMain}
use Rattle.k_sum_saved.specs.SumRules.{IsSum}
use Rattle.k_words.specs.Words.{shown_as}
use Rattle.k_words.specs.declared.job.Form.{Form}
use Rattle.k_words.specs.declared.job.Job.TheVariants as job
use Rattle.k_words.specs.declared.merging.Part.{Part}
use Rattle.k_top_answers.specs.Answers.{IsSumShown}
use Rattle.k_top_answers.specs.Clauses.{Keeps, World}
use Rattle.k_top_answers.specs.Merges.{PassesLimit}
use Rattle.k_top_answers.specs.Steps.{profile_limit}
use Rattle.k_top_headline.specs.Headline.{TellsFile, WentWell}

-- the files tell that one of this name holds these runs, in at most 536,870,912 bytes: those of a saved sum, or the one of a saved profile
pub record HoldsRuns (old : World) (name : List ℕ) (runs : Sum) : Type 0 where
  pub bytes : List ℕ
  pub held : TellsFile old.files.held name bytes
  pub few : length bytes ≤ profile_limit
  pub reads : ReadsAny bytes (Ok runs)

-- runs, and others so many times
abbrev pub with_runs : ℕ → Sum → Sum → Sum
with_runs zero runs others = runs
with_runs (suc times) runs others = with_runs times (both runs others) others

-- they may be put together: both are of one program, and no limit is passed on the way
abbrev pub MayAdd : ℕ → Sum → Sum → Type 0
MayAdd zero runs others = Unit {0}
MayAdd (suc times) runs others = (runs.regions ≡ others.regions) × (¬ PassesLimit runs others) × MayAdd times (both runs others) others

-- with the runs of these files, each as often as it is named, they are all runs
abbrev pub AddUp : World → List Part → Sum → Sum → Type 0
AddUp old [] runs all = all ≡ runs
AddUp old (part ∷ parts) runs all =
    (others : Sum) × HoldsRuns old part.file others × MayAdd part.times runs others × AddUp old parts (with_runs part.times runs others) all

-- one time fewer
abbrev pub one_fewer : ℕ → ℕ
one_fewer zero = zero
one_fewer (suc times) = times

-- the files hold runs of one program, and these are all of them, within the limits of a file
pub record HoldsSum (old : World) (part : Part) (parts : List Part) (all : Sum) : Type 0 where
  -- the runs of the first file, as often as it is named
  pub first : Sum
  pub holds : HoldsRuns old part.file first
  pub may_add : MayAdd (one_fewer part.times) first first
  -- and those of the others
  pub others : AddUp old parts (with_runs (one_fewer part.times) first first) all
  -- together they can be saved
  pub main : AreOfMain all.regions all.dict all.roots
  pub fits : ¬ IsPast all

-- MERGE, the conclusions
pub record MergeTells (save : List ℕ) (all : Sum) (status : ℕ) (old new : World) : Type 0 where
  -- the file has the sum of all runs, with its entries in order, and each other file is as it was
  pub ordered : Sum
  pub is_ordered : IsOrdered all ordered
  pub saved : Has new.files.held save (Some (sum_text ordered))
  pub kept : KeepsOthers old.files.held save new.files.held
  -- nothing is written, the status is 0, and nothing was told on err
  pub grows : Grows old.out.written [] new.out.written
  pub status_is : status ≡ 0
  pub told : new.err ≡ old.err

-- MERGE. The words ask to put the runs of files together, and these are of one program and within the limits
abbrev pub MergeIsTold : Type 0
MergeIsTold = (words : List (List ℕ)) (status : ℕ) (old new : World) (save : List ℕ) (part : Part) (parts : List Part) (all : Sum)
    → Keeps words status old new → WentWell words (job.Merge save (part ∷ parts)) status old new → HoldsSum old part parts all
    → MergeTells save all status old new

-- the files tell that one of this name is a saved sum of at most 536,870,912 bytes
pub record HoldsSaved (old : World) (name : List ℕ) (sum : Sum) : Type 0 where
  pub rules : IsSum sum
  pub held : TellsFile old.files.held name (sum_text sum)
  pub few : length (sum_text sum) ≤ profile_limit

-- SHOW of a sum, the conclusions
pub record SumTells (sum : Sum) (form : Form) (status : ℕ) (old new : World) : Type 0 where
  -- out has grown by the sum in this form: it tells the rows, the contexts and the plan of the trees of all runs
  pub text : List ℕ
  pub shows : IsSumShown form sum text
  pub grows : Grows old.out.written text new.out.written
  -- the status is 0, and nothing was told on err
  pub status_is : status ≡ 0
  pub told : new.err ≡ old.err

-- SHOW of a sum. The words ask to show a file in a form, and it is a saved sum
abbrev pub SumIsTold : Type 0
SumIsTold = (words : List (List ℕ)) (status : ℕ) (old new : World) (name : List ℕ) (sum : Sum) (form : Form)
    → Keeps words status old new → WentWell words (shown_as name form) status old new → HoldsSaved old name sum
    → SumTells sum form status old new
