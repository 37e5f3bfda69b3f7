-- The marks of entries tell where functions end.
use Rattle.std.proofs.Common.{◌≡◌, ◌≢◌, ℕ, zero, suc, ◌+◌, ◌-◌, ◌<◌, ◌≤◌, inl, inr, List, [], ◌∷◌, ◌++◌, length, min, take, drop, replicate, Option, Some, Bool, true, false, nat_eq, refl, sym, ◌∙◌, subst, ap, arith}
use Rattle.std.specs.Prelude.{◌⊎◌, ◌||◌, nat_lt, if◌then◌else◌, slice_get, slice_set}
use Rattle.std.proofs.lemmas.Bool.{cases_lt, eqb-true, eqb-false, ltb-true, ltb-false, true≢false}
use Rattle.std.proofs.lemmas.List.{length-set, length-replicate, length-append}
use Rattle.std.proofs.lemmas.Option.{none-some, same_Some, slice_get_within}
use Rattle.std.proofs.Math.ListN.{drop_of_length-le}
use Rattle.k_code.specs.declared.code.Code.{Code}
use Rattle.k_code.specs.declared.code.CodeFunc.{CodeFunc}
use Rattle.k_code.specs.declared.instruction.Instr.{Instr}
use Rattle.k_code.specs.declared.validity.extents.Extent.{Extent}
use Rattle.k_code.specs.Decides.{is_entry, AreMarks, Marks, IsNext, AreNeeded, IsExtent, IsExtentOf, AreExtents, AreExtentsOf}
use Rattle.k_code.specs.Valid.{end_of, body_of}
use Rattle.k_code.proofs.Decided.{HasEntry, entry_is, entry_has, end_bounds}
use Rattle.k_code.proofs.Known.{get_set_same, get_set_other}

-- marks of the entries of functions, beside those that are there
abbrev pub marked : List CodeFunc → List Bool → List Bool
marked [] marks = marks
marked (f ∷ funcs) marks = marked funcs (slice_set marks f.entry true)

marked_length : (funcs : List CodeFunc) (marks : List Bool) → length (marked funcs marks) ≡ length marks
marked_length [] marks = refl
marked_length (f ∷ funcs) marks = marked_length funcs (slice_set marks f.entry true) ∙ length-set marks f.entry true

or_true : (b : Bool) → (b || true) ≡ true
or_true true = refl
or_true false = refl

or_false : (b : Bool) → (b || false) ≡ b
or_false true = refl
or_false false = refl

-- one mark, after more are set
mark_by : (f : CodeFunc) (funcs : List CodeFunc) (marks : List Bool) (k : ℕ) (b : Bool)
    → ((old : Bool) → slice_get (slice_set marks f.entry true) k ≡ Some old → slice_get (marked funcs (slice_set marks f.entry true)) k ≡ Some (is_entry funcs k || old))
    → k < length marks → slice_get marks k ≡ Some b → (s : Bool) → nat_eq f.entry k ≡ s
    → slice_get (marked funcs (slice_set marks f.entry true)) k ≡ Some ((s || is_entry funcs k) || b)
mark_by f funcs marks k b rest low is true e =
    let same : f.entry ≡ k = eqb-true f.entry k e in
    let at : slice_get (slice_set marks f.entry true) k ≡ Some true =
    subst (λ n. slice_get (slice_set marks n true) k ≡ Some true) (sym same) (get_set_same marks k true low) in
    rest true at ∙ ap (λ x. Some x) (or_true (is_entry funcs k))
mark_by f funcs marks k b rest low is false e =
    let other : k ≢ f.entry = λ same. eqb-false f.entry k e (sym same) in
    rest b (get_set_other marks f.entry k true other ∙ is)

-- one mark, after more are set
marked_get : (funcs : List CodeFunc) (marks : List Bool) (k : ℕ) (b : Bool) → k < length marks → slice_get marks k ≡ Some b
    → slice_get (marked funcs marks) k ≡ Some (is_entry funcs k || b)
marked_get [] marks k b low is = is
marked_get (f ∷ funcs) marks k b low is =
    let same = length-set marks f.entry true in
    let long : k < length (slice_set marks f.entry true) = omega (arith, same, low) in
    mark_by f funcs marks k b (λ old at. marked_get funcs (slice_set marks f.entry true) k old long at) low is (nat_eq f.entry k) refl

none_marked : (n k : ℕ) → k < n → slice_get (replicate n false) k ≡ Some false
none_marked zero k low = absurd (omega arith)
none_marked (suc n) zero low = refl
none_marked (suc n) (suc k) low = none_marked n k (omega arith)

pub marks_set : (funcs : List CodeFunc) (old new : List Bool) → new ≡ marked funcs old → Marks funcs old new
marks_set funcs old new is = (
  ap length is ∙ marked_length funcs old,
  λ k b at. ap (λ l. slice_get l k) is ∙ marked_get funcs old k b (slice_get_within old k b at) at,
)

pub marked_done : (funcs : List CodeFunc) (k : ℕ) (marks : List Bool) (all : List Bool) → length funcs ≤ k → marked (drop k funcs) marks ≡ all → marks ≡ all
marked_done funcs k marks all past is = ap (λ l. marked l marks) (sym (drop_of_length-le funcs past)) ∙ is

-- a mark says whether a function begins there
pub are_marks : (code : Code) (count : ℕ) (old new : List Bool) → count ≡ length code.instrs → old ≡ replicate count false → Marks code.funcs old new → AreMarks code new
are_marks code count old new all made set = let is : old ≡ replicate (length code.instrs) false = made ∙ ap (λ n. replicate n false) all in (
  set.0 ∙ (ap length is ∙ length-replicate (length code.instrs) false),
  λ k low.
      set.1 k false (ap (λ l. slice_get l k) is ∙ none_marked (length code.instrs) k low) ∙ ap (λ x. Some x) (or_false (is_entry code.funcs k)),
)

-- no function begins between an entry and the end
end_least : (funcs : List CodeFunc) (all entry n : ℕ) (f : CodeFunc) → slice_get funcs n ≡ Some f → entry < f.entry → end_of funcs all entry ≤ f.entry
end_least [] all entry n f is low = cc
end_least (g ∷ funcs) all entry zero f is low = by (nat_lt entry g.entry) refl
  where
    same : g.entry ≡ f.entry
    same = ap (λ (x : CodeFunc). x.entry) (same_Some g f is)

    by : (b : Bool) → nat_lt entry g.entry ≡ b → (if b then min g.entry (end_of funcs all entry) else end_of funcs all entry) ≤ f.entry
    by true e = let s = same in omega (arith, s)
    by false e = let s = same in let past : g.entry ≤ entry = ltb-false entry g.entry e in absurd (omega (arith, s, past, low))
end_least (g ∷ funcs) all entry (suc n) f is low = by (nat_lt entry g.entry) (end_least funcs all entry n f is low)
  where
    by : (b : Bool) → end_of funcs all entry ≤ f.entry → (if b then min g.entry (end_of funcs all entry) else end_of funcs all entry) ≤ f.entry
    by true h = omega (arith, h)
    by false h = h

-- the end is that of all, or some function begins there
record BeginsAt (funcs : List CodeFunc) (entry end : ℕ) : Type 0 where
  number : ℕ
  func : CodeFunc
  is : slice_get funcs number ≡ Some func
  later : entry < func.entry
  at : func.entry ≡ end

begins_later : (g : CodeFunc) (funcs : List CodeFunc) (entry end : ℕ) → BeginsAt funcs entry end → BeginsAt (g ∷ funcs) entry end
begins_later g funcs entry end b = record { number = suc b.number; func = b.func; is = b.is; later = b.later; at = b.at }

end_reached : (funcs : List CodeFunc) (all entry : ℕ) → (end_of funcs all entry ≡ all) ⊎ BeginsAt funcs entry (end_of funcs all entry)
end_reached [] all entry = inl refl
end_reached (g ∷ funcs) all entry = by (nat_lt entry g.entry) refl (end_reached funcs all entry)
  where
    rest : (e : ℕ) → e ≡ end_of funcs all entry → (end_of funcs all entry ≡ all) ⊎ BeginsAt funcs entry (end_of funcs all entry) → (e ≡ all) ⊎ BeginsAt (g ∷ funcs) entry e
    rest e same (inl is) = inl (same ∙ is)
    rest e same (inr b) = inr (subst (λ x. BeginsAt (g ∷ funcs) entry x) (sym same) (begins_later g funcs entry (end_of funcs all entry) b))

    by : (b : Bool) → nat_lt entry g.entry ≡ b → (end_of funcs all entry ≡ all) ⊎ BeginsAt funcs entry (end_of funcs all entry)
        → ((if b then min g.entry (end_of funcs all entry) else end_of funcs all entry) ≡ all)
        ⊎ BeginsAt (g ∷ funcs) entry (if b then min g.entry (end_of funcs all entry) else end_of funcs all entry)
    by true e r =
        elim (cases_lt g.entry (end_of funcs all entry)) [
          | inl low ↦ inr (record { number = 0; func = g; is = refl; later = ltb-true entry g.entry e; at = omega (arith, low) })
          | inr high ↦ rest (min g.entry (end_of funcs all entry)) (omega (arith, high)) r
        ]
    by false e r = rest (end_of funcs all entry) refl r

-- a function that begins at a mark
entry_least : (code : Code) (entry k : ℕ) → entry < k → HasEntry code.funcs k → end_of code.funcs (length code.instrs) entry ≤ k
entry_least code entry k low h =
    let e : h.func.entry ≡ k = h.entry in
    let r = end_least code.funcs (length code.instrs) entry h.number h.func h.is (subst (λ n. entry < n) (sym e) low) in
    omega (arith, r, e)

pub marked_is : (code : Code) (marks : List Bool) (k : ℕ) (b : Bool) → AreMarks code marks → k < length code.instrs → slice_get marks k ≡ Some b → is_entry code.funcs k ≡ b
marked_is code marks k b are low is = same_Some (is_entry code.funcs k) b (sym (are.1 k low) ∙ is)

has_is : (funcs : List CodeFunc) (n : ℕ) (f : CodeFunc) → slice_get funcs n ≡ Some f → is_entry funcs f.entry ≡ true
has_is funcs n f is = entry_is funcs n f is

-- the next mark is where the function ends
pub next_is_end : (code : Code) (marks : List Bool) (entry next : ℕ) → AreMarks code marks → entry < length code.instrs → IsNext marks entry next → next ≡ end_of code.funcs (length code.instrs) entry
next_is_end code marks entry next are low n =
    let long : length marks ≡ length code.instrs = are.0 in
    let within : next ≤ length marks = n.within in
    let later : entry < next = n.later in
    let bounds = end_bounds code.funcs (length code.instrs) entry low in
    let least : end_of code.funcs (length code.instrs) entry ≤ next = at_least (cases_lt next (length code.instrs)) in
    let most : next ≤ end_of code.funcs (length code.instrs) entry = at_most (cases_lt (end_of code.funcs (length code.instrs) entry) next) in
    omega (arith, least, most)
  where
    at_least : (next < length code.instrs) ⊎ (length code.instrs ≤ next) → end_of code.funcs (length code.instrs) entry ≤ next
    at_least (inl inside) =
        let long : length marks ≡ length code.instrs = are.0 in
        let here : slice_get marks next ≡ Some true = n.marked (omega (arith, long, inside)) in
        entry_least code entry next n.later (entry_has code.funcs next (marked_is code marks next true are inside here))
    at_least (inr past) = let b = end_bounds code.funcs (length code.instrs) entry low in omega (arith, b.1, past)

    no_entry : (k : ℕ) → entry < k → k < next → BeginsAt code.funcs entry k → ⊥
    no_entry k above below b =
        let long : length marks ≡ length code.instrs = are.0 in
        let within : next ≤ length marks = n.within in
        let inside : k < length code.instrs = omega (arith, long, within, below) in
        let none : is_entry code.funcs k ≡ false = marked_is code marks k false are inside (n.unmarked k above below) in
        let some : is_entry code.funcs k ≡ true = subst (λ m. is_entry code.funcs m ≡ true) b.at (has_is code.funcs b.number b.func b.is) in
        true≢false (sym some ∙ none)

    at_most : (end_of code.funcs (length code.instrs) entry < next) ⊎ (next ≤ end_of code.funcs (length code.instrs) entry) → next ≤ end_of code.funcs (length code.instrs) entry
    at_most (inr fine) = fine
    at_most (inl below) =
        let long : length marks ≡ length code.instrs = are.0 in
        let within : next ≤ length marks = n.within in
        let b = end_bounds code.funcs (length code.instrs) entry low in
        elim (end_reached code.funcs (length code.instrs) entry) [
          | inl all ↦ absurd (omega (arith, all, long, within, below))
          | inr begins ↦ absurd (no_entry (end_of code.funcs (length code.instrs) entry) b.0 below begins)
        ]

-- marks are as many as instructions
pub marks_long : (code : Code) (marks : List Bool) → AreMarks code marks → (k : ℕ) → k < length code.instrs → k < length marks
marks_long code marks are k low = let e : length marks ≡ length code.instrs = are.0 in omega (arith, e, low)

-- the next mark is behind the entry, and within the instructions
pub next_bounds : (code : Code) (marks : List Bool) (entry next : ℕ) → AreMarks code marks → IsNext marks entry next → (entry ≤ next) × (next ≤ length code.instrs)
next_bounds code marks entry next are n =
    let e : length marks ≡ length code.instrs = are.0 in
    let later : entry < next = n.later in
    let within : next ≤ length marks = n.within in
    (omega arith, omega (arith, e))

-- the extent that is found
pub extent_found : (code : Code) (marks : List Bool) (entry next registers : ℕ) (instrs : List Instr) → AreMarks code marks → entry < length code.instrs → IsNext marks entry next
    → AreNeeded instrs registers → instrs ≡ take (next - entry) (drop entry code.instrs)
    → IsExtent code entry (record { end = next; registers = registers })
unfolding body_of
extent_found code marks entry next registers instrs are low n needed is =
    let end : next ≡ end_of code.funcs (length code.instrs) entry = next_is_end code marks entry next are low n in
    let body : instrs ≡ take (end_of code.funcs (length code.instrs) entry - entry) (drop entry code.instrs) = is ∙ ap (λ e. take (e - entry) (drop entry code.instrs)) end in
    record { end = end; registers = subst (λ l. AreNeeded l registers) body needed }

pub no_extents : (code : Code) (list : List (Option Extent)) → list ≡ [] → AreExtentsOf code 0 list
no_extents code list none = (ap length none, λ k o is. absurd (none-some o (sym (ap (λ l. slice_get l k) none) ∙ is)))

pub extents_all : (code : Code) (k last : ℕ) (list : List (Option Extent)) → k ≤ last → last ≤ k → last ≡ length code.instrs → AreExtentsOf code k list → AreExtents code list
extents_all code k last list low high all are = let same : k ≡ length code.instrs = omega (arith, low, high, all) in (are.0 ∙ same, are.1)

-- one extent more
pub extents_more : (code : Code) (k : ℕ) (list : List (Option Extent)) (o : Option Extent) → AreExtentsOf code k list → IsExtentOf code k o → AreExtentsOf code (k + 1) (list ++ o ∷ [])
extents_more code k list o are one = (
  (let e = length-append list (o ∷ []) in let l : length list ≡ k = are.0 in omega (arith, e, l)),
  λ n x is. by n x is (cases_lt n (length list)),
)
  where
    last : (xs : List (Option Extent)) (n : ℕ) (x : Option Extent) → slice_get (xs ++ o ∷ []) n ≡ Some x → length xs ≤ n → (n ≡ length xs) × (o ≡ x)
    last [] zero x is past = (refl, same_Some o x is)
    last [] (suc n) x is past = absurd (none-some x is)
    last (y ∷ xs) zero x is past = absurd (omega (arith, past))
    last (y ∷ xs) (suc n) x is past = let r = last xs n x is (omega (arith, past)) in (let e : n ≡ length xs = r.0 in omega (arith, e), r.1)

    front : (xs : List (Option Extent)) (n : ℕ) (x : Option Extent) → slice_get (xs ++ o ∷ []) n ≡ Some x → n < length xs → slice_get xs n ≡ Some x
    front [] n x is low = absurd (omega (arith, low))
    front (y ∷ xs) zero x is low = is
    front (y ∷ xs) (suc n) x is low = front xs n x is (omega (arith, low))

    by : (n : ℕ) (x : Option Extent) → slice_get (list ++ o ∷ []) n ≡ Some x → (n < length list) ⊎ (length list ≤ n) → IsExtentOf code n x
    by n x is (inl low) = are.1 n x (front list n x is low)
    by n x is (inr past) =
        let r = last list n x is past in
        let l : length list ≡ k = are.0 in
        let at : n ≡ k = r.0 ∙ l in
        subst (λ m. IsExtentOf code m x) (sym at) (subst (IsExtentOf code k) r.1 one)

-- the instructions from an entry to its end
pub part_is_body : (code : Code) (entry : ℕ) (e : Extent) (instrs : List Instr) → IsExtent code entry e → instrs ≡ take (e.end - entry) (drop entry code.instrs) → instrs ≡ body_of code entry
unfolding body_of
part_is_body code entry e instrs same is = is ∙ ap (λ n. take (n - entry) (drop entry code.instrs)) same.end

pub extent_bounds : (code : Code) (entry : ℕ) (e : Extent) → IsExtent code entry e → entry < length code.instrs → (entry ≤ e.end) × (e.end ≤ length code.instrs)
extent_bounds code entry e same low =
    let b = end_bounds code.funcs (length code.instrs) entry low in
    let at : e.end ≡ end_of code.funcs (length code.instrs) entry = same.end in
    (omega (arith, b.0, at), omega (arith, b.1, at))
