-- What the table says of a loop's variables is what the conditions ask of the whole loop.
use Rattle.std.proofs.Common.{◌≡◌, ℕ, ◌+◌, ◌<◌, ◌≤◌, Bool, false, not, List, [], ◌∷◌, ◌++◌, length, refl, sym, ◌∙◌, ap, subst, inl, inr, arith, Option, Some, None, Result, Ok, Err, OnOk}
use Rattle.std.specs.Prelude.{◌&&◌, if◌then◌else◌}
use Rattle.std.specs.List.{list_all}
use Rattle.std.proofs.lemmas.Bool.{cases_lt}
use Rattle.std.proofs.lemmas.Option.{slice_get_past}
use Rattle.k_types_meaning.specs.declared.tree.expression.TExpr.{TExpr}
use Rattle.k_types_meaning.specs.declared.tree.unit.TVariable.{TVariable}
use Rattle.k_marks.specs.declared.known.Entry.{Entry}
use Rattle.k_marks_meaning.specs.declared.uses.Group.{Group}
use Rattle.k_marks_meaning.specs.declared.uses.Read.{Read}
use Rattle.k_marks_meaning.specs.declared.uses.Use.{Use}
use Rattle.k_marks_meaning.specs.declared.uses.Use.TheVariants.{Names, Assigns, Declares, Reduces}
use Rattle.k_marks_meaning.specs.Loops.{Loop, loop_uses, is_register, is_register_there, is_assigned, fits, stays, is_fixed, has_bound, bound_of, runs_through, steps_alone, counts, counter, is_counted, is_reduced, reduced_read, reduced_reads, counter_read, broken_by}
use Rattle.k_marks.specs.Known.{nothing_known, known_from, allows, look, table_with_all, known_stays, known_bound, known_counts, known_reduced, known_read, known_reads, IsFresh}
use Rattle.k_marks.proofs.KnownLaws.{assigned_from, allowed_from}
use Rattle.k_marks.proofs.TableLaws.{look_all, length_noted, fresh_noted}

-- a table that said nothing says of a variable what happens to it in the loop
known_is : (turn n : ℕ) (us : List Use) (table : List Entry) → IsFresh turn table → n < length table
    → look turn (table_with_all turn us table) n ≡ known_from n nothing_known us
known_is turn n us table fresh h =
    look_all turn n us table h ∙ ap (λ k. known_from n k us) (fresh turn n (omega arith))

-- a variable that is none is no register
none_there : (vs : List TVariable) (n : ℕ) → length vs ≤ n → is_register vs n ≡ false
none_there vs n h = ap is_register_there (slice_get_past vs n h)

-- of a variable beyond the list, no test counts
beyond : (r a b : Bool) → r ≡ false → (r && a) ≡ (r && b)
beyond r a b e = ap (λ t. t && a) e ∙ sym (ap (λ t. t && b) e)

-- a variable keeps its value by the table where it does in the loop
pub stays_known : (vs : List TVariable) (turn : ℕ) (l : Loop) (table : List Entry) → length table ≡ length vs → IsFresh turn table → (n : ℕ)
    → known_stays vs (table_with_all turn (loop_uses l) table) turn n ≡ stays vs l n
stays_known vs turn l table sized fresh n = elim (cases_lt n (length vs)) [
  | inl h ↦
      (let inside : n < length table = omega arith in
      ap (λ k. is_register vs n && not k.assigned) (known_is turn n (loop_uses l) table fresh inside)
      ∙ ap (λ b. is_register vs n && not b) (assigned_from n nothing_known (loop_uses l)))
  | inr h ↦
      beyond (is_register vs n) (not (look turn (table_with_all turn (loop_uses l) table) n).assigned) (not (is_assigned l n)) (none_there vs n h)
]

-- a variable is reduced by the table where it is in the loop
pub reduced_known : (vs : List TVariable) (turn : ℕ) (l : Loop) (table : List Entry) → length table ≡ length vs → IsFresh turn table → (n : ℕ) (g : Group)
    → known_reduced vs (table_with_all turn (loop_uses l) table) turn n g ≡ is_reduced vs l n g
unfolding is_reduced
reduced_known vs turn l table sized fresh n g = elim (cases_lt n (length vs)) [
  | inl h ↦
      (let inside : n < length table = omega arith in
      ap (λ k. is_register vs n && allows k.how g) (known_is turn n (loop_uses l) table fresh inside)
      ∙ ap (λ b. is_register vs n && b) (allowed_from n g nothing_known (loop_uses l)))
  | inr h ↦
      beyond (is_register vs n) (allows (look turn (table_with_all turn (loop_uses l) table) n).how g) (list_all (fits n g) (loop_uses l)) (none_there vs n h)
]

-- a bound is there by the table where it is in the loop
bound_known : (vs : List TVariable) (turn : ℕ) (l : Loop) (table : List Entry) → length table ≡ length vs → IsFresh turn table → (bound : Option TExpr)
    → known_bound vs (table_with_all turn (loop_uses l) table) turn bound ≡ has_bound vs l bound
bound_known vs turn l table sized fresh None = refl
bound_known vs turn l table sized fresh (Some e) = λ i. is_fixed (λ n. stays_known vs turn l table sized fresh n i) e

counts_at : (vs : List TVariable) (turn : ℕ) (l : Loop) (table : List Entry) → length table ≡ length vs → IsFresh turn table → (i : Option Read)
    → known_counts vs (table_with_all turn (loop_uses l) table) turn (loop_uses l) l i ≡ counts vs l i
counts_at vs turn l table sized fresh None = refl
counts_at vs turn l table sized fresh (Some i) =
    ap (λ b. steps_alone vs l i.variable && (b && runs_through l)) (bound_known vs turn l table sized fresh (bound_of i.variable l.test))

-- a loop is counted by the table where it is
pub counts_known : (vs : List TVariable) (turn : ℕ) (l : Loop) (table : List Entry) → length table ≡ length vs → IsFresh turn table
    → known_counts vs (table_with_all turn (loop_uses l) table) turn (loop_uses l) l (counter l.step) ≡ is_counted vs l
unfolding is_counted
counts_known vs turn l table sized fresh = counts_at vs turn l table sized fresh (counter l.step)

read_known : (vs : List TVariable) (turn : ℕ) (l : Loop) (table : List Entry) → length table ≡ length vs → IsFresh turn table → (u : Use)
    → known_read vs (table_with_all turn (loop_uses l) table) turn u ≡ reduced_read vs l u
read_known vs turn l table sized fresh (Names n) = refl
read_known vs turn l table sized fresh (Assigns n) = refl
read_known vs turn l table sized fresh (Declares n) = refl
read_known vs turn l table sized fresh (Reduces r) =
    ap (λ b. if b then r.read ∷ [] else []) (reduced_known vs turn l table sized fresh r.variable r.group)

-- the reads of the reductions are broken by the table where they are in the loop
pub reads_known : (vs : List TVariable) (turn : ℕ) (l : Loop) (table : List Entry) → length table ≡ length vs → IsFresh turn table → (us : List Use)
    → known_reads vs (table_with_all turn (loop_uses l) table) turn us ≡ reduced_reads vs l us
reads_known vs turn l table sized fresh [] = refl
reads_known vs turn l table sized fresh (u ∷ us) =
    let one : known_read vs (table_with_all turn (loop_uses l) table) turn u ≡ reduced_read vs l u = read_known vs turn l table sized fresh u in
    let rest : known_reads vs (table_with_all turn (loop_uses l) table) turn us ≡ reduced_reads vs l us = reads_known vs turn l table sized fresh us in
    λ i. one i ++ rest i

-- a table that said nothing from this loop on says nothing from the next one on
pub fresh_behind : (turn : ℕ) (us : List Use) (table after : List Entry) → after ≡ table_with_all turn us table → IsFresh turn table → IsFresh (turn + 1) after
fresh_behind turn us table after is fresh =
    subst (λ (t : List Entry). IsFresh (turn + 1) t) (sym is)
    (fresh_noted turn us table (λ (t n : ℕ) (h : turn + 1 ≤ t). fresh t n (omega arith)))

-- the same, of a call that may give up
pub if_fresh : {T E : Type 0} (r : Result T E) (turn : ℕ) (us : List Use) (table after : List Entry) → after ≡ table_with_all turn us table → IsFresh turn table
    → OnOk r (IsFresh (turn + 1) after)
if_fresh (Ok x) turn us table after is fresh = fresh_behind turn us table after is fresh
if_fresh (Err e) turn us table after is fresh = tt

-- a table keeps its length, also over a call that may give up
pub if_sized : {T E : Type 0} (r : Result T E) (turn count : ℕ) (us : List Use) (table after : List Entry) → after ≡ table_with_all turn us table → length table ≡ count
    → OnOk r (length after ≡ count)
if_sized (Ok x) turn count us table after is sized = ap length is ∙ (length_noted turn us table ∙ sized)
if_sized (Err e) turn count us table after is sized = tt

-- a loop is counted where the table and its uses say so
pub counted_is : (vs : List TVariable) (turn : ℕ) (l : Loop) (table after : List Entry) (us : List Use) (counts : Bool)
    → after ≡ table_with_all turn (loop_uses l) table → us ≡ loop_uses l → length table ≡ length vs → IsFresh turn table
    → counts ≡ known_counts vs after turn us l (counter l.step) → counts ≡ is_counted vs l
counted_is vs turn l table after us counts is uses_are sized fresh e =
    e ∙ ((λ i. known_counts vs (is i) turn (uses_are i) l (counter l.step)) ∙ counts_known vs turn l table sized fresh)

-- the list of what is counted, behind a loop
pub if_counted : {T E : Type 0} (r : Result T E) (old new : List Bool) (a b : Bool) → new ≡ old ++ a ∷ [] → a ≡ b → OnOk r (new ≡ old ++ b ∷ [])
if_counted (Ok x) old new a b e same = e ∙ ap (λ c. old ++ c ∷ []) same
if_counted (Err y) old new a b e same = tt

-- the reads that are broken, behind a loop
pub if_broken : {T E : Type 0} (r : Result T E) (old new : List ℕ) (vs : List TVariable) (turn : ℕ) (l : Loop) (table after : List Entry) (us : List Use) (counts : Bool)
    → after ≡ table_with_all turn (loop_uses l) table → us ≡ loop_uses l → length table ≡ length vs → IsFresh turn table → counts ≡ is_counted vs l
    → OnOk r (new ≡ old ++ ((if counts then counter_read (counter l.step) else []) ++ known_reads vs after turn us))
    → OnOk r (new ≡ old ++ broken_by vs l)
if_broken (Ok x) old new vs turn l table after us counts is uses_are sized fresh same e =
    e
    ∙ ((λ i. old ++ ((if same i then counter_read (counter l.step) else []) ++ known_reads vs (is i) turn (uses_are i)))
    ∙ ap (λ reads. old ++ ((if is_counted vs l then counter_read (counter l.step) else []) ++ reads)) (reads_known vs turn l table sized fresh (loop_uses l)))
if_broken (Err y) old new vs turn l table after us counts is uses_are sized fresh same e = tt
