-- The numbers of a job lie within their limits.
use Rattle.std.proofs.Common.{ℕ, suc, ◌≡◌, ◌≤◌, Bool, true, false, ◌&&◌, if◌then◌else◌, nat_le, List, [], ◌∷◌, Option, Some, None, is_some, option_map, option_and_then, ap, arith, refl, subst}
use Rattle.std.proofs.lemmas.Bool.{and_parts, false≢true}
use Rattle.std.proofs.lemmas.Bool.Decides.{nat_tests}
use Rattle.std.specs.Prelude.{unwrap_or}
use Rattle.std.specs.Str.Parse.{digits_value}
use Rattle.k_words.specs.declared.job.Form.{Form}
use Rattle.k_words.specs.declared.job.Form.TheVariants as form
use Rattle.k_words.specs.declared.job.Job.{Job}
use Rattle.k_words.specs.declared.job.Job.TheVariants as job
use Rattle.k_words.specs.declared.option.Command.{Command}
use Rattle.k_words.specs.declared.option.Command.TheVariants.{Run, Graph, Carried, Replay, Page, Annotate, Show, Merge, Check, Demo}
use Rattle.k_words.specs.declared.option.Setting.TheVariants.{Steps, Depth, Workers, Seed}
use Rattle.k_words.specs.Number.{is_numeral, number_within, within}
use Rattle.k_words.specs.Setting.{most_depth, most_seed, most_steps, most_workers, or_else}
use Rattle.k_words.specs.Settings.{depth_in, first_of, given, seed_in, steps_in, text_in, workers_in}
use Rattle.k_words.specs.Within.{IsJobWithin, IsReplayWithin, IsRunWithin, IsWithin, JobsAreWithin}
use Rattle.k_words.specs.Words.{AreRight, annotate_of, argument_fault, carried_of, command_of, fault_behind, demo_loops, demo_number, form_of, graph_of, job_with, page_of, replay_of, run_of, show_of, shown_as}
use Rattle.k_words.proofs.Given.{mapped, some_inner}
use Rattle.k_words.proofs.FilesToMerge.{are_parts}

-- nothing is something
no_some : {A : Type 0} {B : Type 0} (x : A) → None ≡ Some x → B
no_some x is = absurd (false≢true (ap is_some is))

-- what comes of what may be there
then_some : {A B : Type 0} (f : A → Option B) (o : Option A) (y : B) → option_and_then f o ≡ Some y → (x : A) × (o ≡ Some x) × (f x ≡ Some y)
then_some f None y is = no_some y is
then_some f (Some x) y is = (x, refl, is)

-- a number that passed the tests
bounded : (low high number n : ℕ) (b : Bool) → nat_le low number && nat_le number high ≡ b → (if b then Some number else None) ≡ Some n → IsWithin low high n
bounded low high number n true is same =
    let (low_is, high_is) = and_parts (nat_le low number) (nat_le number high) is in
    let at_least : low ≤ number = grind (arith, nat_tests) in
    let at_most : number ≤ high = grind (arith, nat_tests) in
    subst (λ m. IsWithin low high m) (some_inner number n same) (record { at_least = at_least; at_most = at_most })
bounded low high number n false is same = no_some n same

by_numeral : (low high number n : ℕ) (b : Bool) → (if b then within low high number else None) ≡ Some n → IsWithin low high n
by_numeral low high number n true is = bounded low high number n (nat_le low number && nat_le number high) refl is
by_numeral low high number n false is = no_some n is

-- a word that is a number within limits
number_is_within : (low high : ℕ) (word : List ℕ) (n : ℕ) → number_within low high word ≡ Some n → IsWithin low high n
unfolding number_within
number_is_within low high word n is = by_numeral low high (digits_value 10 word) n (is_numeral word) is

module _ (low high : ℕ) (f : List ℕ → Option ℕ) (each : (word : List ℕ) (n : ℕ) → f word ≡ Some n → IsWithin low high n) where
  or_within : (o rest : Option ℕ) (n : ℕ) → ((n : ℕ) → o ≡ Some n → IsWithin low high n) → ((n : ℕ) → rest ≡ Some n → IsWithin low high n)
      → or_else o rest ≡ Some n → IsWithin low high n
  or_within None rest n one others is = others n is
  or_within (Some x) rest n one others is = one n is

  -- the first number of words
  first_within : (words : List (List ℕ)) (n : ℕ) → first_of f words ≡ Some n → IsWithin low high n
  first_within [] n is = no_some n is
  first_within (word ∷ words) n is = or_within (f word) (first_of f words) n (each word) (first_within words) is

-- or the number that stands where none is given
default_within : (low high standard : ℕ) (o : Option ℕ) → ((n : ℕ) → o ≡ Some n → IsWithin low high n) → IsWithin low high standard
    → IsWithin low high (unwrap_or o standard)
default_within low high standard None each is = is
default_within low high standard (Some n) each is = each n refl

module _ (command : Command) where
  steps_word : (word : List ℕ) (n : ℕ) → steps_in command word ≡ Some n → IsWithin 1 (most_steps command) n
  steps_word word n is =
      let (value, text, number) = then_some (number_within 1 (most_steps command)) (text_in command Steps word) n is in
      number_is_within 1 (most_steps command) value n number

  depth_word : (word : List ℕ) (n : ℕ) → depth_in command word ≡ Some n → IsWithin 1 32 n
  depth_word word n is =
      let (value, text, number) = then_some (number_within 1 most_depth) (text_in command Depth word) n is in
      number_is_within 1 most_depth value n number

  workers_word : (word : List ℕ) (n : ℕ) → workers_in command word ≡ Some n → IsWithin 1 16 n
  workers_word word n is =
      let (value, text, number) = then_some (number_within 1 most_workers) (text_in command Workers word) n is in
      number_is_within 1 most_workers value n number

  seed_word : (word : List ℕ) (n : ℕ) → seed_in command word ≡ Some n → IsWithin 0 most_seed n
  seed_word word n is =
      let (value, text, number) = then_some (number_within 0 most_seed) (text_in command Seed word) n is in
      number_is_within 0 most_seed value n number

  -- the numbers of a command's options
  options_within : (words : List (List ℕ)) (standard : ℕ) → IsWithin 1 (most_steps command) standard
      → IsRunWithin (most_steps command) (unwrap_or (given command words).steps standard) (unwrap_or (given command words).depth 24)
  options_within words standard is = record {
    steps = default_within 1 (most_steps command) standard (first_of (steps_in command) words)
        (first_within 1 (most_steps command) (steps_in command) steps_word words) is;
    depth = default_within 1 32 24 (first_of (depth_in command) words) (first_within 1 32 (depth_in command) depth_word words)
        (record { at_least = omega arith; at_most = omega arith });
  }

-- the numbers of the options of `replay`
replay_within : (words : List (List ℕ))
    → IsReplayWithin (unwrap_or (given Replay words).steps 200000) (unwrap_or (given Replay words).depth 24)
    (unwrap_or (given Replay words).workers 4) (unwrap_or (given Replay words).seed 1)
replay_within words = record {
  run = options_within Replay words 200000 (record { at_least = omega arith; at_most = omega arith });
  workers = default_within 1 16 4 (first_of (workers_in Replay) words) (first_within 1 16 (workers_in Replay) (workers_word Replay) words)
      (record { at_least = omega arith; at_most = omega arith });
  seed = default_within 0 most_seed 1 (first_of (seed_in Replay) words) (first_within 0 most_seed (seed_in Replay) (seed_word Replay) words)
      (record { at_least = omega arith; at_most = omega arith });
}

-- `show` has no numbers, in whatever form
show_within : (file : List ℕ) (shown : Form) → IsJobWithin (shown_as file shown)
show_within file (form.Report dict) = tt
show_within file (form.Json dict) = tt
show_within file form.Csv = tt

-- a command with its arguments
command_within : (command : Command) (words : List (List ℕ)) (asked : Job) → AreRight (argument_fault command words) → job_with words command ≡ Some asked → IsJobWithin asked
command_within Run [] asked right is = no_some asked is
command_within Run (file ∷ words) asked right is =
    subst IsJobWithin (some_inner (run_of file (given Run words)) asked is)
    (options_within Run words 100000000 (record { at_least = omega arith; at_most = omega arith }))
command_within Graph [] asked right is = no_some asked is
command_within Graph (file ∷ words) asked right is =
    subst IsJobWithin (some_inner (graph_of file (given Graph words)) asked is)
    (options_within Graph words 200000 (record { at_least = omega arith; at_most = omega arith }))
command_within Carried [] asked right is = no_some asked is
command_within Carried (file ∷ words) asked right is =
    subst IsJobWithin (some_inner (carried_of file (given Carried words)) asked is)
    (options_within Carried words 100000000 (record { at_least = omega arith; at_most = omega arith }))
command_within Replay [] asked right is = no_some asked is
command_within Replay (file ∷ words) asked right is = subst IsJobWithin (some_inner (replay_of file (given Replay words)) asked is) (replay_within words)
command_within Page [] asked right is = no_some asked is
command_within Page (file ∷ words) asked right is =
    subst IsJobWithin (some_inner (page_of file (given Page words)) asked is)
    (options_within Page words 100000000 (record { at_least = omega arith; at_most = omega arith }))
command_within Annotate [] asked right is = no_some asked is
command_within Annotate (file ∷ words) asked right is =
    subst IsJobWithin (some_inner (annotate_of file (given Annotate words)) asked is)
    (options_within Annotate words 100000000 (record { at_least = omega arith; at_most = omega arith }))
command_within Show [] asked right is = no_some asked is
command_within Show (file ∷ words) asked right is = subst IsJobWithin (some_inner (show_of file (given Show words)) asked is) (show_within file (form_of (given Show words)))
command_within Merge [] asked right is = no_some asked is
command_within Merge (save ∷ files) asked right is = subst IsJobWithin (some_inner _ asked is) (are_parts save files right)
command_within Check [] asked right is = no_some asked is
command_within Check (file ∷ words) asked right is = subst IsJobWithin (some_inner _ asked is) tt
command_within Demo [] asked right is = no_some asked is
command_within Demo (number ∷ []) asked right is = no_some asked is
command_within Demo (number ∷ loops ∷ words) asked right is =
    let (n, first, later) = then_some (λ n. option_map (λ l. job.Demo n l) (demo_loops loops)) (demo_number number) asked is in
    let (l, second, same) = mapped (λ l. job.Demo n l) (demo_loops loops) asked later in
    subst IsJobWithin same (number_is_within 1 2000 loops l second)

-- what words ask for
by_command : (o : Option Command) (words : List (List ℕ)) (asked : Job) → AreRight (fault_behind o words) → option_and_then (job_with words) o ≡ Some asked → IsJobWithin asked
by_command None words asked right is = no_some asked is
by_command (Some command) words asked right is = command_within command words asked right is

pub jobs_are_within : JobsAreWithin
jobs_are_within [] asked (right, is) = no_some asked is
jobs_are_within (command ∷ words) asked (right, is) = by_command (command_of command) words asked (λ k. right (suc k)) is
