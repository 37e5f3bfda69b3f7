-- Each list of the times goes on with one time for each live level.
use Rattle.std.proofs.Common.{◌≡◌, ℕ, ◌+◌, ◌-◌, zero, suc, List, [], ◌∷◌, ◌++◌, length, map, refl, ap, sym, subst, ◌∙◌, arith, length-append}
use Rattle.std.specs.Prelude.{slice_get, Some}
use Rattle.std.proofs.lemmas.List.{length-take-le}
use Rattle.std.proofs.lemmas.Option.{none-some, same_Some}
use Rattle.k_hcpa_meaning.specs.Timings.{Timing, HasLevels, entered, innermost_gone, without_last}
use Rattle.k_shadow.specs.Content.{Content, entered as content_entered, level_dropped}
use Rattle.k_shadow.specs.Stack.{Stack, level_entered as stack_entered, level_left as stack_left}
use Rattle.k_hcpa_times.specs.Seen.{seen_of}

-- a list more has a time more for the level that is entered
longer : {A : Type 0} (xs : List A) (x : A) (n : ℕ) → length xs ≡ n → length (xs ++ x ∷ []) ≡ n + 1
longer xs x n same = length-append xs (x ∷ []) ∙ ap (λ k. k + 1) same

-- each list has one less
shorter : {A : Type 0} (xs : List A) (n : ℕ) → length xs ≡ n → length (without_last xs) ≡ n - 1
shorter xs n same = length-take-le (length xs - 1) xs (omega arith) ∙ ap (λ k. k - 1) same

-- what holds of the lengths of lists holds of those that are made of each
each_made : (f : List ℕ → List ℕ) (m n : ℕ) → ((xs : List ℕ) → length xs ≡ m → length (f xs) ≡ n) → (lists : List (List ℕ))
    → ((k : ℕ) (xs : List ℕ) → slice_get lists k ≡ Some xs → length xs ≡ m)
    → (k : ℕ) (xs : List ℕ) → slice_get (map f lists) k ≡ Some xs → length xs ≡ n
each_made f m n step [] each k xs found = absurd (none-some xs found)
each_made f m n step (ys ∷ lists) each zero xs found = sym (ap (λ zs. length zs) (same_Some (f ys) xs found)) ∙ step ys (each 0 ys refl)
each_made f m n step (ys ∷ lists) each (suc k) xs found = each_made f m n step lists (λ j zs. each (suc j) zs) k xs found

levels_entered : (n : ℕ) (t : Timing) → HasLevels n t → HasLevels (n + 1) (entered t)
levels_entered n t h = record {
  registers = longer t.registers (λ _. 0) n h.registers;
  elements = longer t.elements (λ _. 0) n h.elements;
  control = longer t.control 0 n h.control;
  saved = each_made (λ times. times ++ 0 ∷ []) n (n + 1) (λ xs. longer xs 0 n) t.saved h.saved;
  in_cell = longer t.in_cell 0 n h.in_cell;
  out_cell = longer t.out_cell 0 n h.out_cell;
  row = longer t.row 0 n h.row;
  paths = longer t.paths 0 n h.paths;
}

levels_left : (n : ℕ) (t : Timing) → HasLevels n t → HasLevels (n - 1) (innermost_gone t)
levels_left n t h = record {
  registers = shorter t.registers n h.registers;
  elements = shorter t.elements n h.elements;
  control = shorter t.control n h.control;
  saved = each_made without_last n (n - 1) (λ xs. shorter xs n) t.saved h.saved;
  in_cell = shorter t.in_cell n h.in_cell;
  out_cell = shorter t.out_cell n h.out_cell;
  row = shorter t.row n h.row;
  paths = shorter t.paths n h.paths;
}

at_same : {m n : ℕ} {t u : Timing} → u ≡ t → m ≡ n → HasLevels n t → HasLevels m u
at_same {m} {n} {t} {u} same counts h = subst (λ k. HasLevels k u) (sym counts) (subst (λ v. HasLevels n v) (sym same) h)

-- a level is entered everywhere
pub timing_entered : (r e : Content) (c : Stack) (i o w p : List ℕ) {r' e' : Content} {c' : Stack} {i' o' w' p' : List ℕ} → r' ≡ content_entered r → e' ≡ content_entered e → c' ≡ stack_entered c
    → i' ≡ i ++ 0 ∷ [] → o' ≡ o ++ 0 ∷ [] → w' ≡ w ++ 0 ∷ [] → p' ≡ p ++ 0 ∷ [] → (seen_of r' e' c' i' o' w' p').timing ≡ entered (seen_of r e c i o w p).timing
timing_entered r e c i o w p rs es cs is os ws ps = λ j. (seen_of (rs j) (es j) (cs j) (is j) (os j) (ws j) (ps j)).timing

pub all_entered : (t : Timing) (p p' : List ℕ) → {u : Timing} → u ≡ entered t → p' ≡ p ++ 0 ∷ [] → HasLevels (length p) t → HasLevels (length p') u
all_entered t p p' same ps h = at_same same (ap (λ xs. length xs) ps ∙ longer p 0 (length p) refl) (levels_entered (length p) t h)

-- the innermost level is left everywhere
pub timing_left : (r e : Content) (c : Stack) (i o w p : List ℕ) {r' e' : Content} {c' : Stack} {i' o' w' p' : List ℕ} → r' ≡ level_dropped r → e' ≡ level_dropped e → c' ≡ stack_left c
    → i' ≡ without_last i → o' ≡ without_last o → w' ≡ without_last w → p' ≡ without_last p → (seen_of r' e' c' i' o' w' p').timing ≡ innermost_gone (seen_of r e c i o w p).timing
timing_left r e c i o w p rs es cs is os ws ps = λ j. (seen_of (rs j) (es j) (cs j) (is j) (os j) (ws j) (ps j)).timing

pub all_left : (t : Timing) (p p' : List ℕ) → {u : Timing} → u ≡ innermost_gone t → p' ≡ without_last p → HasLevels (length p) t → HasLevels (length p') u
all_left t p p' same ps h = at_same same (ap (λ xs. length xs) ps ∙ shorter p (length p) refl) (levels_left (length p) t h)

-- as long lists stand in the places of the row and of the paths
pub row_and_paths : {t : Timing} {row paths : List ℕ} → length row ≡ length t.row → length paths ≡ length t.paths → HasLevels (length t.paths) t
    → HasLevels (length paths) (record t { row = row; paths = paths })
row_and_paths {t} {row} {paths} rows ps h = record {
  registers = h.registers ∙ sym ps;
  elements = h.elements ∙ sym ps;
  control = h.control ∙ sym ps;
  saved = λ n times found. h.saved n times found ∙ sym ps;
  in_cell = h.in_cell ∙ sym ps;
  out_cell = h.out_cell ∙ sym ps;
  row = rows ∙ h.row ∙ sym ps;
  paths = refl;
}

-- as long lists stand in the places of the registers' and of the row
pub registers_and_row : {n : ℕ} {t : Timing} {registers : List (ℕ → ℕ)} {row : List ℕ} → length registers ≡ length t.registers → length row ≡ length t.row → HasLevels n t
    → HasLevels n (record t { registers = registers; row = row })
registers_and_row {n} {t} {registers} {row} rs rows h = record {
  registers = rs ∙ h.registers;
  elements = h.elements;
  control = h.control;
  saved = h.saved;
  in_cell = h.in_cell;
  out_cell = h.out_cell;
  row = rows ∙ h.row;
  paths = h.paths;
}

-- as long lists stand in the places of the registers' and of the paths
pub registers_and_paths : {t : Timing} {registers : List (ℕ → ℕ)} {paths : List ℕ} → length registers ≡ length t.registers → length paths ≡ length t.paths
    → HasLevels (length t.paths) t → HasLevels (length paths) (record t { registers = registers; paths = paths })
registers_and_paths {t} {registers} {paths} rs ps h = record {
  registers = rs ∙ h.registers ∙ sym ps;
  elements = h.elements ∙ sym ps;
  control = h.control ∙ sym ps;
  saved = λ n times found. h.saved n times found ∙ sym ps;
  in_cell = h.in_cell ∙ sym ps;
  out_cell = h.out_cell ∙ sym ps;
  row = h.row ∙ sym ps;
  paths = refl;
}
