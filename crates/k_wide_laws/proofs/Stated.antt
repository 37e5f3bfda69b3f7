-- *Wide marks* have what *Marks* have.
use Rattle.std.proofs.Common.{◌≡◌, ℕ, zero, suc, Bool, true, false, List, [], ◌∷◌, ◌++◌, map, slice_get, Option, Some, None, refl, sym, ◌∙◌, ap, subst, true≢false, inl, inr}
use Rattle.std.specs.Prelude.{nat_eq, ◌&&◌, ◌||◌, if◌then◌else◌, filter}
use Rattle.std.specs.List.{list_all, list_any}
use Rattle.std.proofs.lemmas.Bool.{eq-eqb}
use Rattle.std.proofs.lemmas.Option.{none-some, same_Some}
use Rattle.k_num.specs.declared.numbers.Kind.{Kind}
use Rattle.k_tree.specs.declared.tree.unit.Unit as source
use Rattle.k_types_meaning.specs.declared.types.TType.{TType}
use Rattle.k_types_meaning.specs.declared.types.TType.TheVariants as ttype
use Rattle.k_types_meaning.specs.declared.tree.expression.TExpr.{TExpr}
use Rattle.k_types_meaning.specs.declared.tree.unit.TFunc.{TFunc}
use Rattle.k_types_meaning.specs.declared.tree.unit.TUnit.{TUnit}
use Rattle.k_types_meaning.specs.declared.tree.unit.TVariable.{TVariable}
use Rattle.k_types_meaning.specs.Bare.{IsTyped}
use Rattle.k_types_meaning.specs.Numbered.{numbers_from}
use Rattle.k_marks_meaning.specs.declared.uses.Group.{Group}
use Rattle.k_marks_meaning.specs.declared.uses.Read.{Read}
use Rattle.k_marks_meaning.specs.declared.uses.Reduction.{Reduction}
use Rattle.k_marks_meaning.specs.declared.uses.Use.{Use}
use Rattle.k_marks_meaning.specs.declared.uses.Use.TheVariants as stated
use Rattle.k_marks_meaning.specs.Uses.{option_uses, first_declares}
use Rattle.k_marks_meaning.specs.Loops.{Loop, loop_uses, is_number, is_register_there, is_register, fits, counter, counter_of, counts, is_counted, is_reduced, counter_read, reduced_reads, broken_by, broken_by_all}
use Rattle.k_marks_meaning.specs.Contents.{inside}
use Rattle.k_marks_meaning.specs.Marking.{function_inside, flags, marks_of}
use Rattle.k_marks_meaning.specs.Marking as marking
use Rattle.k_marks_laws.specs.Turns.{TLoop, marked}
use Rattle.k_marks_laws.specs.Standing.{loops_of}
use Rattle.k_marks_laws.specs.Counted.{IsOfKind, IsNotDeclared, EachNamed}
use Rattle.k_marks_laws.specs.Laws.{IsLoopOf}
use Rattle.k_marks_laws.proofs.Conditions.{Counts, counted_counts}
use Rattle.k_marks_laws.proofs.Sources.{loops_are_typed}
use Rattle.k_wide_meaning.specs.declared.occurrences.Scalar.TheVariants.{Variable}
use Rattle.k_wide_meaning.specs.declared.occurrences.Reducing.{Reducing}
use Rattle.k_wide_meaning.specs.declared.occurrences.WideGroup.{WideGroup}
use Rattle.k_wide_meaning.specs.declared.occurrences.WideGroup.TheVariants.{By, Least, Greatest}
use Rattle.k_wide_meaning.specs.declared.occurrences.Occurrence.{Occurrence}
use Rattle.k_wide_meaning.specs.declared.occurrences.Occurrence.TheVariants as occurs
use Rattle.k_wide_meaning.specs.Occurrences.{option_occurs, first_declared, same_scalar}
use Rattle.k_wide_meaning.specs.Steps.{Step}
use Rattle.k_wide_meaning.specs.Loops as wide
use Rattle.k_wide_meaning.specs.Loops.{Around, text_of, loop_occurs, steps_alone, stepped, second_sort, third_sort, same_wide}
use Rattle.k_wide_meaning.specs.Contents.{WideLoop, seen, function_seen}
use Rattle.k_wide_meaning.specs.Marking as wide_marking
use Rattle.k_wide_meaning.specs.Marking.{around, counted_of, broken_of, marks_by}
use Rattle.k_wide_laws.specs.Laws.{HasAll, HasStated, WideHasStated}
use Rattle.k_wide_laws.proofs.Kept.{both_true, and_both, all_both, both_all, option_kept, first_declared_kept}
use Rattle.k_wide_laws.proofs.Forms.{same_is}
use Rattle.k_wide_laws.proofs.Statements.{statement_kept}
use Rattle.k_wide_laws.proofs.Like.{IsLike, AreLike, function_like}
use Rattle.k_wide_laws.proofs.Counted.{Steps, step_steps, stepped_is, counted_in_wide}
use Rattle.k_wide_laws.proofs.Found.{same_group_is, fitting, any_both, any_left, any_right, is_it, is_wide, none_in_test, none_in_first_declares, statement_found}

-- LISTS OF MARKS
abbrev AllImply : List Bool → List Bool → Type 0
AllImply [] [] = Unit {0}
AllImply (a ∷ as_) (b ∷ bs) = (a ≡ true → b ≡ true) × AllImply as_ bs
AllImply _ _ = ⊥

imply_both : (as_ bs xs ys : List Bool) → AllImply as_ xs → AllImply bs ys → AllImply (as_ ++ bs) (xs ++ ys)
imply_both [] bs [] ys h k = k
imply_both [] bs (x ∷ xs) ys h k = absurd h
imply_both (a ∷ as_) bs [] ys h k = absurd h
imply_both (a ∷ as_) bs (x ∷ xs) ys h k = (h.0, imply_both as_ bs xs ys h.1 k)

has_all : (as_ bs : List Bool) → AllImply as_ bs → HasAll as_ bs
has_all [] bs h n is = absurd (none-some true is)
has_all (a ∷ as_) [] h n is = absurd h
has_all (a ∷ as_) (b ∷ bs) h zero is = ap Some (h.0 (same_Some a true is))
has_all (a ∷ as_) (b ∷ bs) h (suc n) is = has_all as_ bs h.1 n is

-- a number is among these
abbrev Among : ℕ → List ℕ → Type 0
Among n xs = list_any (λ m. nat_eq m n) xs ≡ true

abbrev Within : List ℕ → List ℕ → Type 0
Within xs ys = (n : ℕ) → Among n xs → Among n ys

within_both : (as_ bs xs ys : List ℕ) → Within as_ xs → Within bs ys → Within (as_ ++ bs) (xs ++ ys)
within_both as_ bs xs ys f g n h = elim (any_both (λ m. nat_eq m n) as_ bs h) [
  | inl a ↦ any_left (λ m. nat_eq m n) xs ys (f n a)
  | inr b ↦ any_right (λ m. nat_eq m n) xs ys (g n b)
]

imply_map : (f g : ℕ → Bool) → ((n : ℕ) → f n ≡ true → g n ≡ true) → (ns : List ℕ) → AllImply (map f ns) (map g ns)
imply_map f g h [] = tt
imply_map f g h (n ∷ ns) = (h n, imply_map f g h ns)

imply_flags : (count : ℕ) (xs ys : List ℕ) → Within xs ys → AllImply (flags count xs) (flags count ys)
imply_flags count xs ys h = imply_map (λ n. list_any (λ m. nat_eq m n) xs) (λ n. list_any (λ m. nat_eq m n) ys) h (numbers_from 0 count)

-- THE READS OF REDUCTIONS
module _ (vs : List TVariable) (l : Loop) (x : ℕ) where
  abbrev IsRead : List Use → Type 0
  IsRead us = (r : Reduction) × (is_reduced vs l r.variable r.group ≡ true) × (list_any (is_it r.variable r.group x) us ≡ true)

  later_read : (u : Use) (us : List Use) → IsRead us → IsRead (u ∷ us)
  later_read u us (r, is, has) = (r, is, or_right (is_it r.variable r.group x u) (list_any (is_it r.variable r.group x) us) has)
    where
      or_right : (a b : Bool) → b ≡ true → (a || b) ≡ true
      or_right true b h = refl
      or_right false b h = h

  this_read : (r : Reduction) (us : List Use) → is_reduced vs l r.variable r.group ≡ true → nat_eq r.read x ≡ true → IsRead (stated.Reduces r ∷ us)
  this_read r us is here =
      (r, is, ap (λ b. b || list_any (is_it r.variable r.group x) us) (and_both (nat_eq r.variable r.variable) (nat_eq r.read x) (eq-eqb r.variable r.variable refl) here))

  read_found : (us : List Use) → Among x (reduced_reads vs l us) → IsRead us
  read_found [] h = absurd (true≢false (sym h))
  read_found (stated.Names m ∷ us) h = later_read (stated.Names m) us (read_found us h)
  read_found (stated.Assigns m ∷ us) h = later_read (stated.Assigns m) us (read_found us h)
  read_found (stated.Declares m ∷ us) h = later_read (stated.Declares m) us (read_found us h)
  read_found (stated.Reduces r ∷ us) h = by (is_reduced vs l r.variable r.group) refl (read_found us) h
    where
      here_or : (b : Bool) → nat_eq r.read x ≡ b → is_reduced vs l r.variable r.group ≡ true → (Among x (reduced_reads vs l us) → IsRead us) → (b || list_any (λ m. nat_eq m x) (reduced_reads vs l us)) ≡ true → IsRead (stated.Reduces r ∷ us)
      here_or true same is rest k = this_read r us is same
      here_or false same is rest k = later_read (stated.Reduces r) us (rest k)

      by : (b : Bool) → is_reduced vs l r.variable r.group ≡ b → (Among x (reduced_reads vs l us) → IsRead us) → Among x ((if b then r.read ∷ [] else []) ++ reduced_reads vs l us) → IsRead (stated.Reduces r ∷ us)
      by true is rest k = here_or (nat_eq r.read x) refl is rest k
      by false is rest k = later_read (stated.Reduces r) us (rest k)

same_wide_is : (a : WideGroup) (g : Group) → same_wide a (By g) ≡ true → a ≡ By g
same_wide_is (By h) g is = ap By (same_group_is h g is)
same_wide_is Least g is = absurd (true≢false (sym is))
same_wide_is Greatest g is = absurd (true≢false (sym is))

module _ (a : Around) (w : WideLoop) (n : ℕ) (g : Group) (x : ℕ) (reduced : wide.is_reduced a w (Variable n) (By g) ≡ true) where
  reducing_read : (r : Reducing) (os : List Occurrence) → is_wide n g x (occurs.Reduces r) ≡ true → Among x (wide.reduced_read a w (occurs.Reduces r) ++ wide.reduced_reads a w os)
  reducing_read r os h =
      let parts = both_true (same_scalar r.scalar (Variable n)) (nat_eq r.read x && same_wide r.group (By g)) h in
      let more = both_true (nat_eq r.read x) (same_wide r.group (By g)) parts.1 in
      let is : wide.is_reduced a w r.scalar r.group ≡ true =
      (λ i. wide.is_reduced a w (same_is r.scalar (Variable n) parts.0 i) (same_wide_is r.group g more.1 i)) ∙ reduced in
      ap (λ b. list_any (λ m. nat_eq m x) ((if b then r.read ∷ [] else []) ++ wide.reduced_reads a w os)) is
      ∙ ap (λ b. b || list_any (λ m. nat_eq m x) (wide.reduced_reads a w os)) more.0

  reads_found : (os : List Occurrence) → list_any (is_wide n g x) os ≡ true → Among x (wide.reduced_reads a w os)
  reads_found [] h = absurd (true≢false (sym h))
  reads_found (occurs.Names s ∷ os) h = reads_found os h
  reads_found (occurs.Assigns s ∷ os) h = reads_found os h
  reads_found (occurs.Declares m ∷ os) h = reads_found os h
  reads_found (occurs.Addresses m ∷ os) h = reads_found os h
  reads_found (occurs.Calls m ∷ os) h = reads_found os h
  reads_found (occurs.Reduces r ∷ os) h = by (is_wide n g x (occurs.Reduces r)) refl h (reads_found os)
    where
      by : (b : Bool) → is_wide n g x (occurs.Reduces r) ≡ b → (b || list_any (is_wide n g x) os) ≡ true → (list_any (is_wide n g x) os ≡ true → Among x (wide.reduced_reads a w os))
          → Among x (wide.reduced_read a w (occurs.Reduces r) ++ wide.reduced_reads a w os)
      by true is k rest = reducing_read r os is
      by false is k rest = any_right (λ m. nat_eq m x) (wide.reduced_read a w (occurs.Reduces r)) (wide.reduced_reads a w os) (rest k)

-- A LOOP of a function, whose body declares nothing that the test names where it is counted
abbrev GoodLoop : TFunc → TLoop → Type 0
GoodLoop f t =
    (i : Read) → is_counted f.variables (marked t) ≡ true → counter t.step ≡ Some i → EachNamed (λ n. IsNotDeclared n (inside t.body).uses) (option_uses t.test)

counted_step : (vs : List TVariable) (l : Loop) → is_counted vs l ≡ true → (i : Read) × (counter l.step ≡ Some i)
unfolding is_counted
counted_step vs l is = by (counter l.step) refl is
  where
    by : (r : Option Read) → counter l.step ≡ r → counts vs l r ≡ true → (i : Read) × (counter l.step ≡ Some i)
    by None at h = absurd (true≢false (sym h))
    by (Some i) at h = (i, at)

step_there : (step : Option TExpr) (i : Read) → counter step ≡ Some i → (e : TExpr) × (step ≡ Some e) × (counter_of e ≡ Some i)
step_there None i h = absurd cc
step_there (Some e) i h = (e, refl, h)

module _ (a : Around) (t : TLoop) (w : WideLoop) (like : IsLike t (marked t) w) where
  -- what a loop that is counted comes to
  counted_loop : (scopes : (i : Read) → counter t.step ≡ Some i → EachNamed (λ n. IsNotDeclared n (inside t.body).uses) (option_uses t.test)) → is_counted a.variables (marked t) ≡ true
      → (wide.is_counted a w ≡ true) × ((x : ℕ) → Among x (counter_read (counter t.step)) → Among x (map (λ (s : Step). s.v.node) (stepped a w)))
  counted_loop scopes is =
      let found = counted_step a.variables (marked t) is in
      let i = found.0 in
      let c : Counts a.variables (marked t) i = counted_counts a.variables (marked t) i is found.1 in
      let there = step_there t.step i found.1 in
      let steps : Steps a w i there.0 = step_steps a w there.0 i there.2 in (
        counted_in_wide a t w like i c (scopes i found.1) there.0 there.1 steps,
        λ x h.
            let own : Among x (i.node ∷ []) = subst (λ (r : Option Read). Among x (counter_read r)) found.1 h in
            ap (λ (ss : List Step). list_any (λ m. nat_eq m x) (map (λ (s : Step). s.v.node) ss)) (stepped_is a t w like i c (scopes i found.1) there.0 there.1 steps)
            ∙ (ap (λ (r : Read). nat_eq r.node x || list_any (λ m. nat_eq m x) (map (λ (s : Step). s.v.node) (filter (steps_alone a w) (second_sort w ++ third_sort w)))) steps.of
            ∙ any_left (λ m. nat_eq m x) (i.node ∷ []) (map (λ (s : Step). s.v.node) (filter (steps_alone a w) (second_sort w ++ third_sort w))) own),
      )

  occurs_is : loop_occurs w ≡ first_declared t.start ++ (option_occurs t.test ++ (option_occurs t.step ++ (seen t.body).occurs))
  occurs_is = λ j. first_declared (like.start j) ++ (option_occurs (like.test j) ++ (option_occurs (like.step j) ++ like.occurs j))

  module _ (n : ℕ) (g : Group) (x : ℕ) (all : list_all (fits n g) (loop_uses (marked t)) ≡ true) where
    one : (list_all (fits n g) (first_declares t.start) ≡ true) × (list_all (fits n g) (option_uses t.test ++ (option_uses t.step ++ (inside t.body).uses)) ≡ true)
    one = all_both (fits n g) (first_declares t.start) (option_uses t.test ++ (option_uses t.step ++ (inside t.body).uses)) all

    two : (list_all (fits n g) (option_uses t.test) ≡ true) × (list_all (fits n g) (option_uses t.step ++ (inside t.body).uses) ≡ true)
    two = all_both (fits n g) (option_uses t.test) (option_uses t.step ++ (inside t.body).uses) one.1

    three : (list_all (fits n g) (option_uses t.step) ≡ true) × (list_all (fits n g) (inside t.body).uses ≡ true)
    three = all_both (fits n g) (option_uses t.step) (inside t.body).uses two.1

    abbrev Fits : List Occurrence → Type 0
    Fits os = list_all (wide.fits (Variable n) (By g)) os ≡ true

    all_fit : Fits (loop_occurs w)
    all_fit =
        let p : Use → Bool = fits n g in
        let q : Occurrence → Bool = wide.fits (Variable n) (By g) in
        subst Fits (sym occurs_is)
        (both_all q (first_declared t.start) (option_occurs t.test ++ (option_occurs t.step ++ (seen t.body).occurs)) (first_declared_kept p q (fitting n g) t.start one.0)
        (both_all q (option_occurs t.test) (option_occurs t.step ++ (seen t.body).occurs) (option_kept p q (fitting n g) t.test two.0)
        (both_all q (option_occurs t.step) (seen t.body).occurs (option_kept p q (fitting n g) t.step three.0) (statement_kept p q (fitting n g) t.body three.1))))

    in_body : list_any (is_it n g x) (loop_uses (marked t)) ≡ true → list_any (is_it n g x) (inside t.body).uses ≡ true
    in_body h = elim (any_both (is_it n g x) (first_declares t.start) (option_uses t.test ++ (option_uses t.step ++ (inside t.body).uses)) h) [
      | inl a ↦ absurd (none_in_first_declares n g x t.start a)
      | inr b ↦ elim (any_both (is_it n g x) (option_uses t.test) (option_uses t.step ++ (inside t.body).uses) b) [
        | inl a ↦ absurd (none_in_test n g x t.test a)
        | inr d ↦ elim (any_both (is_it n g x) (option_uses t.step) (inside t.body).uses d) [
          | inl a ↦ absurd (none_in_test n g x t.step a)
          | inr e ↦ e
        ]
      ]
    ]

    has_it : list_any (is_it n g x) (loop_uses (marked t)) ≡ true → list_any (is_wide n g x) (loop_occurs w) ≡ true
    has_it h =
        subst (λ (os : List Occurrence). list_any (is_wide n g x) os ≡ true) (sym occurs_is)
        (any_right (is_wide n g x) (first_declared t.start) (option_occurs t.test ++ (option_occurs t.step ++ (seen t.body).occurs))
        (any_right (is_wide n g x) (option_occurs t.test) (option_occurs t.step ++ (seen t.body).occurs)
        (any_right (is_wide n g x) (option_occurs t.step) (seen t.body).occurs (statement_found n g x t.body three.1 (in_body h)))))

  reduced_parts : (n : ℕ) (g : Group) → is_reduced a.variables (marked t) n g ≡ true → (is_register a.variables n ≡ true) × (list_all (fits n g) (loop_uses (marked t)) ≡ true)
  unfolding is_reduced
  reduced_parts n g is = both_true (is_register a.variables n) (list_all (fits n g) (loop_uses (marked t))) is

  reduced_wide : (n : ℕ) (g : Group) → is_register a.variables n ≡ true → list_all (wide.fits (Variable n) (By g)) (loop_occurs w) ≡ true → wide.is_reduced a w (Variable n) (By g) ≡ true
  unfolding wide.is_reduced
  reduced_wide n g register all = and_both (is_register a.variables n) (list_all (wide.fits (Variable n) (By g)) (loop_occurs w)) register all

  reads_within : (x : ℕ) → Among x (reduced_reads a.variables (marked t) (loop_uses (marked t))) → Among x (wide.reduced_reads a w (loop_occurs w ++ a.beyond))
  reads_within x h =
      let found = read_found a.variables (marked t) x (loop_uses (marked t)) h in
      let n = found.0.variable in
      let g = found.0.group in
      let parts = reduced_parts n g found.1 in
      reads_found a w n g x (reduced_wide n g parts.0 (all_fit n g x parts.1)) (loop_occurs w ++ a.beyond)
      (any_left (is_wide n g x) (loop_occurs w) a.beyond (has_it n g x parts.1 found.2))

  broken_within : (scopes : (i : Read) → is_counted a.variables (marked t) ≡ true → counter t.step ≡ Some i → EachNamed (λ n. IsNotDeclared n (inside t.body).uses) (option_uses t.test))
      → Within (broken_by a.variables (marked t)) (wide.broken_by a w)
  broken_within scopes x h =
      elim (any_both (λ m. nat_eq m x) (if is_counted a.variables (marked t) then counter_read (counter t.step) else []) (reduced_reads a.variables (marked t) (loop_uses (marked t))) h) [
        | inl own ↦
            any_left (λ m. nat_eq m x) (map (λ (s : Step). s.v.node) (stepped a w)) (wide.reduced_reads a w (loop_occurs w ++ a.beyond)) (by (is_counted a.variables (marked t)) refl own)
        | inr reads ↦
            any_right (λ m. nat_eq m x) (map (λ (s : Step). s.v.node) (stepped a w)) (wide.reduced_reads a w (loop_occurs w ++ a.beyond)) (reads_within x reads)
      ]
    where
      by : (b : Bool) → is_counted a.variables (marked t) ≡ b → Among x (if b then counter_read (counter t.step) else []) → Among x (map (λ (s : Step). s.v.node) (stepped a w))
      by true is k = (counted_loop (λ i step. scopes i is step) is).1 x k
      by false is k = absurd (true≢false (sym k))

-- THE LOOPS of a function
abbrev AllGood : TFunc → List TLoop → Type 0
AllGood f [] = Unit {0}
AllGood f (t ∷ ts) = GoodLoop f t × AllGood f ts

module _ (typed : TUnit) (called : ℕ → ℕ → Bool) where
  loop_counted : (f : TFunc) (t : TLoop) (l : Loop) (w : WideLoop) → IsLike t l w → GoodLoop f t → is_counted f.variables l ≡ true → wide.is_counted (around typed called f w) w ≡ true
  loop_counted f t l w like good is =
      let own : is_counted f.variables (marked t) ≡ true = subst (λ (x : Loop). is_counted f.variables x ≡ true) like.is_marked is in
      (counted_loop (around typed called f w) t w (subst (λ (x : Loop). IsLike t x w) like.is_marked like) (λ i step. good i own step) own).0

  loop_broken : (f : TFunc) (t : TLoop) (l : Loop) (w : WideLoop) → IsLike t l w → GoodLoop f t → Within (broken_by f.variables l) (wide.broken_by (around typed called f w) w)
  loop_broken f t l w like good =
      subst (λ (x : Loop). Within (broken_by f.variables x) (wide.broken_by (around typed called f w) w)) (sym like.is_marked)
      (broken_within (around typed called f w) t w (subst (λ (x : Loop). IsLike t x w) like.is_marked like) good)

  loops_counted : (f : TFunc) (ts : List TLoop) (ls : List Loop) (ws : List WideLoop) → AreLike ts ls ws → AllGood f ts → AllImply (map (is_counted f.variables) ls) (counted_of typed called f ws)
  loops_counted f [] [] [] h good = tt
  loops_counted f [] [] (w ∷ ws) h good = absurd h
  loops_counted f [] (l ∷ ls) [] h good = absurd h
  loops_counted f [] (l ∷ ls) (w ∷ ws) h good = absurd h
  loops_counted f (t ∷ ts) [] [] h good = absurd h
  loops_counted f (t ∷ ts) [] (w ∷ ws) h good = absurd h
  loops_counted f (t ∷ ts) (l ∷ ls) [] h good = absurd h
  loops_counted f (t ∷ ts) (l ∷ ls) (w ∷ ws) h good = (loop_counted f t l w h.0 good.0, loops_counted f ts ls ws h.1 good.1)

  loops_broken : (f : TFunc) (ts : List TLoop) (ls : List Loop) (ws : List WideLoop) → AreLike ts ls ws → AllGood f ts → Within (broken_by_all f.variables ls) (broken_of typed called f ws)
  loops_broken f [] [] [] h good = λ n k. k
  loops_broken f [] [] (w ∷ ws) h good = absurd h
  loops_broken f [] (l ∷ ls) [] h good = absurd h
  loops_broken f [] (l ∷ ls) (w ∷ ws) h good = absurd h
  loops_broken f (t ∷ ts) [] [] h good = absurd h
  loops_broken f (t ∷ ts) [] (w ∷ ws) h good = absurd h
  loops_broken f (t ∷ ts) (l ∷ ls) [] h good = absurd h
  loops_broken f (t ∷ ts) (l ∷ ls) (w ∷ ws) h good =
      within_both (broken_by f.variables l) (broken_by_all f.variables ls) (wide.broken_by (around typed called f w) w) (broken_of typed called f ws) (loop_broken f t l w h.0 good.0)
      (loops_broken f ts ls ws h.1 good.1)

  -- FUNCTIONS
  abbrev EachGood : List TFunc → Type 0
  EachGood [] = Unit {0}
  EachGood (f ∷ fs) = AllGood f (loops_of f) × EachGood fs

  functions_counted : (fs : List TFunc) → EachGood fs → AllImply (marking.counted_in fs) (wide_marking.counted_in typed called fs)
  functions_counted [] h = tt
  functions_counted (f ∷ fs) h =
      imply_both (map (is_counted f.variables) (function_inside f).loops) (marking.counted_in fs) (counted_of typed called f (function_seen f).loops) (wide_marking.counted_in typed called fs)
      (loops_counted f (loops_of f) (function_inside f).loops (function_seen f).loops (function_like f) h.0) (functions_counted fs h.1)

  functions_broken : (fs : List TFunc) → EachGood fs → Within (marking.broken_in fs) (wide_marking.broken_in typed called fs)
  functions_broken [] h = λ n k. k
  functions_broken (f ∷ fs) h =
      within_both (broken_by_all f.variables (function_inside f).loops) (marking.broken_in fs) (broken_of typed called f (function_seen f).loops) (wide_marking.broken_in typed called fs)
      (loops_broken f (loops_of f) (function_inside f).loops (function_seen f).loops (function_like f) h.0) (functions_broken fs h.1)

-- A SOURCE that has a typed tree
kind_there : (vs : List TVariable) (n : ℕ) (v : Option TVariable) → slice_get vs n ≡ v → is_register_there v ≡ true → (kind : Kind) × IsOfKind vs n kind
kind_there vs n None at h = absurd (true≢false (sym h))
kind_there vs n (Some v) at h = by v.of refl (both_true (is_number v.of) (nat_eq v.elements 0) h).0
  where
    by : (of : TType) → v.of ≡ of → is_number of ≡ true → (kind : Kind) × IsOfKind vs n kind
    by ttype.Void is k = absurd (true≢false (sym k))
    by (ttype.Number kind) is k = (kind, (v, at, is))
    by (ttype.Pointer target) is k = absurd (true≢false (sym k))

loops_good : (f : TFunc) (ts : List TLoop) → ((k : ℕ) (t : TLoop) → slice_get ts k ≡ Some t → GoodLoop f t) → AllGood f ts
loops_good f [] h = tt
loops_good f (t ∷ ts) h = (h zero t refl, loops_good f ts (λ k u at. h (suc k) u at))

functions_good : (typed : TUnit) (called : ℕ → ℕ → Bool) (fs : List TFunc) → ((n : ℕ) (f : TFunc) → slice_get fs n ≡ Some f → AllGood f (loops_of f)) → EachGood typed called fs
functions_good typed called [] h = tt
functions_good typed called (f ∷ fs) h = (h zero f refl, functions_good typed called fs (λ n g at. h (suc n) g at))

source_good : (unit : source.Unit) (typed : TUnit) → IsTyped unit typed → (n : ℕ) (f : TFunc) → slice_get typed.functions n ≡ Some f → AllGood f (loops_of f)
source_good unit typed is n f there =
    loops_good f (loops_of f)
    (λ k t at i counted step.
    let c : Counts f.variables (marked t) i = counted_counts f.variables (marked t) i counted step in
    let of = kind_there f.variables i.variable (slice_get f.variables i.variable) refl c.register in
    let loop : IsLoopOf unit typed n f t = record { typed_tree = is; there = there; stands = (k, at) } in
    (loops_are_typed unit typed n f t i of.0 loop step of.1).scopes)

marks_have : (typed : TUnit) (called : ℕ → ℕ → Bool) → EachGood typed called typed.functions → HasStated (marks_of typed) (marks_by typed called)
unfolding marks_of marks_by
marks_have typed called good = record {
  counted = has_all (marking.counted_in typed.functions) (wide_marking.counted_in typed called typed.functions) (functions_counted typed called typed.functions good);
  broken =
      has_all (flags typed.nodes (marking.broken_in typed.functions)) (flags typed.nodes (wide_marking.broken_in typed called typed.functions))
      (imply_flags typed.nodes (marking.broken_in typed.functions) (wide_marking.broken_in typed called typed.functions) (functions_broken typed called typed.functions good));
  leaves = refl;
}

pub wide_has_stated : WideHasStated
wide_has_stated unit typed marks is wide_marks =
    let called = wide_marks.0 in
    subst (HasStated (marks_of typed)) (sym wide_marks.2) (marks_have typed called (functions_good typed called typed.functions (source_good unit typed is)))
