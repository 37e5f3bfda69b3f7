-- A list of rows of any one kind, in which one row was changed.
use Rattle.std.proofs.Common.{◌≡◌, ◌≢◌, ℕ, ◌+◌, ◌<◌, List, length, max, get_or, set, get_or-set_same, get_or-set_other, ap, sym, subst, ◌∙◌, arith, ⊎_elim}
use Rattle.std.proofs.lemmas.Bool.{cases_eq}
use Rattle.k_shadow.specs.Rows.{Seen}
use Rattle.k_shadow_rows.specs.Given.{AreGiven}
use Rattle.k_shadow_rows.specs.Rows.{rows_at}

-- the row that was changed
pub set_here : {R : Type 0} (seen : R → Seen) (blank : R) (rows : List R) (to : ℕ) (row : R) → to < length rows → rows_at seen blank (set rows to row) to ≡ seen row
set_here seen blank rows to row h = ap seen (get_or-set_same rows to row blank h)

-- the others
pub set_there : {R : Type 0} (seen : R → Seen) (blank : R) (rows : List R) (to : ℕ) (row : R) (at : ℕ) → at ≢ to → rows_at seen blank (set rows to row) at ≡ rows_at seen blank rows at
set_there seen blank rows to row at ne = ap seen (get_or-set_other rows to at row blank ne)

-- one row was given one time, and the level's path was raised to it
pub one_given : (old new : ℕ → Seen) (to level time : ℕ) (paths : List ℕ) (raised : ℕ) → level < length paths → raised ≡ max (get_or paths level 0) time → ((at : ℕ) → at ≢ to → new at ≡ old at) → (new to).stamp ≡ (old to).stamp → (new to).time level ≡ time → ((k : ℕ) → k ≢ level → (new to).time k ≡ (old to).time k)
    → AreGiven (λ _. time) to level (level + 1) old new paths (set paths level raised)
one_given old new to level time paths raised lt later rest stamp here others = record {
  stamps = λ at. ⊎_elim
      (λ (e : at ≡ to). subst (λ (x : ℕ). (new x).stamp ≡ (old x).stamp) (sym e) stamp)
      (λ (ne : at ≢ to). ap (λ r. r.stamp) (rest at ne))
      (cases_eq at to);
  others = rest;
  given = λ k le less. (let e : level ≡ k = omega arith in subst (λ (x : ℕ). (new to).time x ≡ time) e here);
  before = λ at k less. elsewhere at k (omega arith);
  behind = λ at k le. elsewhere at k (omega arith);
  raised_to = λ k le less. (let e : level ≡ k = omega arith in subst (λ (x : ℕ). get_or (set paths level raised) x 0 ≡ max (get_or paths x 0) time) e (get_or-set_same paths level raised 0 lt ∙ later));
  paths_before = λ k less. get_or-set_other paths level k raised 0 (omega arith);
  paths_behind = λ k le. get_or-set_other paths level k raised 0 (omega arith);
}
  where
    elsewhere : (at k : ℕ) → k ≢ level → (new at).time k ≡ (old at).time k
    elsewhere at k ne = ⊎_elim
        (λ (e : at ≡ to). subst (λ (x : ℕ). (new x).time k ≡ (old x).time k) (sym e) (others k ne))
        (λ (not : at ≢ to). ap (λ r. r.time k) (rest at not))
        (cases_eq at to)
