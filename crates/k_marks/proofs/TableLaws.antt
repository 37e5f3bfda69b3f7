-- What a table says of each variable behind all that happens in a loop.
use Rattle.std.proofs.Common.{◌≡◌, ℕ, zero, suc, ◌+◌, ◌<◌, ◌≤◌, ◌≢◌, false, List, [], ◌∷◌, length, replicate, refl, sym, ◌∙◌, ap, subst, inl, inr, arith, Some}
use Rattle.std.specs.Prelude.{nat_eq, slice_set, if◌then◌else◌}
use Rattle.std.specs.List.{slice_get}
use Rattle.std.proofs.lemmas.Bool.{eq-eqb, cases_lt}
use Rattle.std.proofs.lemmas.Bool.Decides.{eqb_tells, nat_tests}
use Rattle.std.proofs.lemmas.List.{get_or-set_same, get_or-set_other, length-set}
use Rattle.std.proofs.lemmas.Option.{slice_get-get_or, slice_get_past}
use Rattle.k_marks.specs.declared.known.Entry.{Entry}
use Rattle.k_marks.specs.declared.known.Occurrence.{Occurrence}
use Rattle.k_marks_meaning.specs.declared.uses.Use.{Use}
use Rattle.k_marks.specs.Known.{nothing_known, behind, variable_in, known_behind, known_from, said, look, table_with, table_with_all, blank, IsFresh}

-- what was written is found
set_found : (table : List Entry) (n : ℕ) (e : Entry) → n < length table → slice_get (slice_set table n e) n ≡ Some e
set_found table n e h =
    let inside : n < length (slice_set table n e) = rw (length-set table n e) h in
    slice_get-get_or (slice_set table n e) n e inside ∙ ap Some (get_or-set_same table n e e h)

-- what was not written is as before
set_beside : (table : List Entry) (m n : ℕ) (e : Entry) → n < length table → n ≢ m → slice_get (slice_set table m e) n ≡ slice_get table n
set_beside table m n e h apart =
    let inside : n < length (slice_set table m e) = rw (length-set table m e) h in
    slice_get-get_or (slice_set table m e) n e inside
    ∙ (ap Some (get_or-set_other table m n e e apart) ∙ sym (slice_get-get_or table n e h))

-- an entry of this loop says what it holds
said_here : (turn : ℕ) (k : Occurrence) → said turn (Some (record { turn = turn; known = k })) ≡ k
said_here turn k = ap (λ b. if b then k else nothing_known) (eq-eqb turn turn refl)

-- an entry of an earlier loop says nothing
said_later : (turn t : ℕ) (k : Occurrence) → turn < t → said t (Some (record { turn = turn; known = k })) ≡ nothing_known
said_later turn t k h = let apart : nat_eq turn t ≡ false = grind (arith, nat_tests) in ap (λ b. if b then k else nothing_known) apart

-- what is said of a variable behind what happens to some variable
look_noted : (turn n : ℕ) (u : Use) (table : List Entry) → n < length table → look turn (table_with turn u table) n ≡ known_behind n u (look turn table n)
look_noted turn n u table h =
    let k = behind u (look turn table (variable_in u)) in
    elim (eqb_tells (variable_in u) n) [
      | inl (t, same) ↦
          (let e : Entry = record { turn = turn; known = k } in
          let found : slice_get (slice_set table (variable_in u) e) n ≡ Some e =
          subst (λ (m : ℕ). slice_get (slice_set table m e) n ≡ Some e) (sym same) (set_found table n e h) in
          ap (said turn) found
          ∙ (said_here turn k
          ∙ (ap (λ (m : ℕ). behind u (look turn table m)) same
          ∙ sym (ap (λ b. if b then behind u (look turn table n) else look turn table n) t))))
      | inr (t, apart) ↦
          (ap (said turn) (set_beside table (variable_in u) n (record { turn = turn; known = k }) h (λ same. apart (sym same)))
          ∙ sym (ap (λ b. if b then behind u (look turn table n) else look turn table n) t))
    ]

-- a table keeps its length
pub length_noted : (turn : ℕ) (us : List Use) (table : List Entry) → length (table_with_all turn us table) ≡ length table
length_noted turn [] table = refl
length_noted turn (u ∷ us) table =
    length_noted turn us (table_with turn u table)
    ∙ length-set table (variable_in u) (record { turn = turn; known = behind u (look turn table (variable_in u)) })

-- what is said of a variable behind all that happens
pub look_all : (turn n : ℕ) (us : List Use) (table : List Entry) → n < length table → look turn (table_with_all turn us table) n ≡ known_from n (look turn table n) us
look_all turn n [] table h = refl
look_all turn n (u ∷ us) table h =
    let inside : n < length (table_with turn u table) =
    rw (length-set table (variable_in u) (record { turn = turn; known = behind u (look turn table (variable_in u)) })) h in
    look_all turn n us (table_with turn u table) inside ∙ ap (λ k. known_from n k us) (look_noted turn n u table h)

-- what is written in a loop says nothing in later ones
later_noted : (turn t n : ℕ) (u : Use) (table : List Entry) → turn < t → look t table n ≡ nothing_known → look t (table_with turn u table) n ≡ nothing_known
later_noted turn t n u table h was =
    let e : Entry = record { turn = turn; known = behind u (look turn table (variable_in u)) } in
    elim (cases_lt n (length table)) [
      | inl here ↦
          elim (eqb_tells n (variable_in u)) [
            | inl (_, same) ↦
                (subst (λ (m : ℕ). said t (slice_get (slice_set table m e) n) ≡ nothing_known) same
                (ap (said t) (set_found table n e here) ∙ said_later turn t e.known h))
            | inr (_, apart) ↦ ap (said t) (set_beside table (variable_in u) n e here apart) ∙ was
          ]
      | inr past ↦
          (let beyond : length (slice_set table (variable_in u) e) ≤ n = rw (length-set table (variable_in u) e) past in
          ap (said t) (slice_get_past (slice_set table (variable_in u) e) n beyond))
    ]

-- a table that said nothing from this loop on says nothing from the next one on
pub fresh_noted : (turn : ℕ) (us : List Use) (table : List Entry) → IsFresh (turn + 1) table → IsFresh (turn + 1) (table_with_all turn us table)
fresh_noted turn [] table fresh = fresh
fresh_noted turn (u ∷ us) table fresh =
    fresh_noted turn us (table_with turn u table)
    (λ (t n : ℕ) (h : turn + 1 ≤ t). let later : turn < t = omega arith in later_noted turn t n u table later (fresh t n h))

-- a table of such entries says nothing
pub fresh_start : (count : ℕ) → IsFresh 1 (replicate count blank)
fresh_start zero t n h = refl
fresh_start (suc count) t zero h = let later : 0 < t = omega arith in said_later 0 t nothing_known later
fresh_start (suc count) t (suc n) h = fresh_start count t n h
