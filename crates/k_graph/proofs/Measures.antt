-- What a pass knows of the work and the paths of the instances.
use Rattle.std.proofs.Common.{◌≡◌, ℕ, ◌+◌, ◌-◌, ◌<◌, ◌≤◌, inl, inr, List, [], ◌∷◌, ◌++◌, length, Some, true, false, refl, sym, ◌∙◌, subst, ap, arith, slice_get, get_or, map, length-append, ◌^◌}
use Rattle.std.specs.Prelude.{All, nat_lt}
use Rattle.std.proofs.lemmas.Bool.{cases_lt}
use Rattle.std.proofs.lemmas.Option.{slice_get-get_or}
use Rattle.std.proofs.lemmas.List.Elements.{All-cons}
use Rattle.k_optab.specs.Events.{Operation, IsOperation, AreBefore, SourcesAreEarlier, total_latency}
use Rattle.k_optab.specs.Graph.{Heaviest, HeaviestTo, IsTime, work}
use Rattle.k_optab.specs.GraphLaws.{greatest_of}
use Rattle.k_optab.proofs.Intervals.{work_more, work_empty, work_at_most_total}
use Rattle.k_optab.proofs.Paths.{source_before, weight_to}
use Rattle.k_optab.proofs.Heaviest.{greatest_of_sources, time_from_sources, heaviest_of_one_more, heaviest_empty}
use Rattle.k_graph.specs.declared.level.Level.{Level}
use Rattle.k_graph.specs.declared.level.Measured.{Measured}
use Rattle.k_graph.specs.Levels.{CanAdd, new_time, added, measured}
use Rattle.k_graph.specs.Passes.{close_into}
use Rattle.k_graph.specs.Times.{time_at}
use Rattle.k_graph.proofs.Outwards.{slice_get-push}

-- P holds of each item
abbrev pub Every : {A : Type 0} → (A → Type 0) → List A → Type 0
Every P [] = Unit {0}
Every P (x ∷ xs) = P x × Every P xs

pub every_all : {A : Type 0} (P : A → Type 0) (xs : List A) → Every P xs → All P xs
every_all P [] every = λ k d within. absurd (omega arith)
every_all P (x ∷ xs) every = All-cons P x xs every.0 (every_all P xs every.1)

pub every_append : {A : Type 0} (P : A → Type 0) (xs ys : List A) → Every P xs → Every P ys → Every P (xs ++ ys)
every_append P [] ys one other = other
every_append P (x ∷ xs) ys one other = (one.0, every_append P xs ys one.1 other)

pub every_map : {A B : Type 0} (P : A → Type 0) (Q : B → Type 0) (f : A → B) (xs : List A) → ((x : A) → P x → Q (f x)) → Every P xs → Every Q (map f xs)
every_map P Q f [] step every = tt
every_map P Q f (x ∷ xs) step every = (step x every.0, every_map P Q f xs step every.1)

pub every_weaker : {A : Type 0} (P Q : A → Type 0) (xs : List A) → ((x : A) → P x → Q x) → Every P xs → Every Q xs
every_weaker P Q [] step every = tt
every_weaker P Q (x ∷ xs) step every = (step x every.0, every_weaker P Q xs step every.1)

-- the times of the operations from s on
abbrev pub AreTimes : List Operation → ℕ → List ℕ → Type 0
AreTimes ops s times = (k t : ℕ) → slice_get times k ≡ Some t → HeaviestTo ops s (s + k) t

-- a source's time is read off
pub time_at_is : (ops : List Operation) (s : ℕ) (times : List ℕ) (j : ℕ) → AreTimes ops s times → j < s + length times → IsTime ops s (Some j) (time_at s times j)
time_at_is ops s times j are within = elim (cases_lt j s) [
  | inl outside ↦ (let test : nat_lt j s ≡ true = search (arith) in rw test (λ _. refl, λ (inside : s ≤ j). absurd (omega arith)))
  | inr inside ↦ (let test : nat_lt j s ≡ false = search (arith) in
      let place : s + (j - s) ≡ j = omega arith in
      let read : HeaviestTo ops s (s + (j - s)) (get_or times (j - s) 0) = are (j - s) (get_or times (j - s) 0) (slice_get-get_or times (j - s) 0 (omega arith)) in
      rw test (λ (outside : j < s). absurd (omega arith), λ _. subst (λ n. HeaviestTo ops s n (get_or times (j - s) 0)) place read))
]

-- what was measured of a closed instance is so
pub record IsMeasured (ops : List Operation) (m : Measured) : Type 0 where
  pub work : m.work ≡ work ops m.closed.start m.closed.end
  pub path : Heaviest ops m.closed.start m.closed.end m.path

-- what a level says of its operations so far is so
pub record IsLevel (ops : List Operation) (made : ℕ) (level : Level) : Type 0 where
  pub count : level.start + length level.times ≡ made
  pub times : AreTimes ops level.start level.times
  pub work : level.work ≡ work ops level.start made
  pub path : Heaviest ops level.start made level.path
  pub inner : Every (IsMeasured ops) level.inner

-- a level that is just entered
pub entered_level : (ops : List Operation) (made : ℕ) (level : Level) → level.start ≡ made → level.work ≡ 0 → level.path ≡ 0 → level.times ≡ [] → level.inner ≡ []
    → IsLevel ops made level
entered_level ops made level start work_is path_is times inner = record {
  count = (let size : length level.times ≡ 0 = ap length times in omega arith);
  times = λ k t at. (let impossible : ⊥ = (let none : slice_get [] k ≡ Some t = ap (λ l. slice_get l k) (sym times) ∙ at in cc) in absurd impossible);
  work = work_is ∙ (sym (work_empty ops made) ∙ ap (λ n. work ops n made) (sym start));
  path = subst (λ n. Heaviest ops level.start made n) (sym path_is) (heaviest_empty ops level.start made (omega arith));
  inner = subst (λ l. Every (IsMeasured ops) l) (sym inner) tt;
}

-- a level that is closed
pub closed_level : (ops : List Operation) (made place : ℕ) (level : Level) → IsLevel ops made level → IsMeasured ops (measured place made level)
closed_level ops made place level is = record { work = is.work; path = is.path }

pub closed_levels : (ops : List Operation) (made place : ℕ) (done : List Measured) (levels : List Level) → Every (IsMeasured ops) done → Every (IsLevel ops made) levels
    → Every (IsMeasured ops) (close_into place made done levels).done × Every (IsLevel ops made) (close_into place made done levels).levels
closed_levels ops made place done [] are levels = (are, tt)
closed_levels ops made place done (top ∷ []) are levels =
    (every_append (IsMeasured ops) done (measured place made top ∷ top.inner) are (closed_level ops made place top levels.0, levels.0.inner), tt)
closed_levels ops made place done (level ∷ next ∷ levels) are is =
    let closing : Every (IsMeasured ops) (close_into place made level.inner (next ∷ levels)).done × Every (IsLevel ops made) (close_into place made level.inner (next ∷ levels)).levels =
    closed_levels ops made place level.inner (next ∷ levels) is.0.inner is.1 in
    (are, (record { count = is.0.count; times = is.0.times; work = is.0.work; path = is.0.path; inner = closing.0 }, closing.1))

module _ (ops : List Operation) (earlier : SourcesAreEarlier ops) (made : ℕ) (op : Operation) (there : IsOperation ops made op) where
  -- the time of the next operation
  pub new_time_is : (s : ℕ) (times : List ℕ) → s + length times ≡ made → AreTimes ops s times
      → HeaviestTo ops s made (op.latency + greatest_of (time_at s times) op.sources)
  new_time_is s times count are =
      time_from_sources ops earlier s made (greatest_of (time_at s times) op.sources) op (omega arith) there
      (greatest_of_sources ops s (time_at s times) op.sources (λ j listed.
      let before : j < made = source_before ops earlier made j op there listed in
      time_at_is ops s times j are (omega arith)))

  pub times_more : (s new : ℕ) (times : List ℕ) → s + length times ≡ made → AreTimes ops s times → HeaviestTo ops s made new → AreTimes ops s (times ++ new ∷ [])
  times_more s new times count are is k t at = elim (slice_get-push times new t k at) [
    | inl old ↦ are k t old
    | inr now ↦
        (let place : made ≡ s + k = (let last : k ≡ length times = now.0 in omega arith) in
        subst (λ n. HeaviestTo ops s n t) place (subst (λ n. HeaviestTo ops s made n) now.1 is))
  ]

  pub added_level : (level : Level) → IsLevel ops made level → IsLevel ops (made + 1) (added op.latency op.sources level)
  added_level level is =
      let low : level.start ≤ made = (let count = is.count in omega arith) in
      let time : HeaviestTo ops level.start made (new_time op.latency op.sources level) = new_time_is level.start level.times is.count is.times in
      record {
        count = (let size : length (level.times ++ new_time op.latency op.sources level ∷ []) ≡ length level.times + 1 = length-append level.times (new_time op.latency op.sources level ∷ []) in
            let count = is.count in omega arith);
        times = times_more level.start (new_time op.latency op.sources level) level.times is.count is.times time;
        work = ap (λ n. n + op.latency) is.work ∙ sym (work_more ops level.start made op low there);
        path = heaviest_of_one_more ops earlier level.start made level.path (new_time op.latency op.sources level) low is.path time;
        inner = is.inner;
      }

  -- the numbers stay small
  pub can_add : total_latency ops < 2 ^ 62 → (level : Level) → IsLevel ops made level → CanAdd op.latency op.sources level
  can_add small level is =
      let low : level.start ≤ made = (let count = is.count in omega arith) in
      let time : HeaviestTo ops level.start made (new_time op.latency op.sources level) = new_time_is level.start level.times is.count is.times in
      let path : new_time op.latency op.sources level ≤ work ops level.start (made + 1) =
      weight_to ops earlier level.start (made + 1) made (new_time op.latency op.sources level) time.reached.0 time.reached.1 in
      let more : work ops level.start (made + 1) ≡ work ops level.start made + op.latency = work_more ops level.start made op low there in
      let total : work ops level.start (made + 1) ≤ total_latency ops = work_at_most_total ops level.start (made + 1) in
      let work_is : level.work ≡ work ops level.start made = is.work in
      let bound : total_latency ops < 2 ^ 64 = omega arith in
      record {
        before = subst (λ n. AreBefore n op.sources) (sym is.count) (earlier made op there);
        time = omega arith;
        work = omega arith;
      }
