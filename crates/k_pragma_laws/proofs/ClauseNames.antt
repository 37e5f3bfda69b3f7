-- The names in the clauses of a loop's line are different names of variables of its function.
use Rattle.std.proofs.Common.{◌≡◌, ℕ, zero, suc, ◌+◌, Bool, true, false, not, nat_eq, if◌then◌else◌, List, [], ◌∷◌, Option, Some, None, slice_get, unwrap_or, map, refl, sym, ap, subst, ◌∙◌, arith}
use Rattle.std.specs.Cmp.Lexicographic.{pointwise}
use Rattle.std.specs.List.{list_any}
use Rattle.std.proofs.lemmas.Bool.{and_from, and_parts, eq-eqb, false≢true, or_left, or_right}
use Rattle.std.proofs.lemmas.Option.{none-some, same_Some}
use Rattle.k_types_meaning.specs.declared.tree.unit.TFunc.{TFunc}
use Rattle.k_types_meaning.specs.declared.tree.unit.TVariable.{TVariable}
use Rattle.k_lex.proofs.Outcomes.{Each, each_append}
use Rattle.k_pragma_texts.specs.declared.occurrence.LoopText.{LoopText}
use Rattle.k_pragma_texts.specs.declared.occurrence.Occurrence.{Occurrence}
use Rattle.k_pragma_texts.specs.Texts.{function_held}
use Rattle.k_pragma_written.specs.declared.told.Written.{Written}
use Rattle.k_pragma.specs.declared.clauses.Clause.{Clause}
use Rattle.k_pragma.specs.declared.pragmas.Pragma.{Pragma}
use Rattle.k_pragma.specs.Clauses.{all_names, belongs, clauses, has_names, numbers_in, numbers_in_all, pragma_text}
use Rattle.k_pragma.specs.Marked.{is_fit, is_ready, pragma_by, pragmas_in, pragmas_of, pragmas_of_text, region_of_loop}
use Rattle.k_pragma.specs.Names.{are_apart, is_word, name_of, names_of, same_name, stands_apart}
use Rattle.k_pragma_laws.specs.Laws.{AreNamesOfThem, ClauseNamesAreVariables, IsNameOfOne}

-- what holds of each item of a list holds of the one at a place
each_at : {X : Type 0} (P : X → Type 0) (xs : List X) (n : ℕ) (x : X) → Each P xs → slice_get xs n ≡ Some x → P x
each_at P [] n x h at = absurd (none-some x at)
each_at P (y ∷ ys) zero x h at = subst P (same_Some y x at) h.0
each_at P (y ∷ ys) (suc n) x h at = each_at P ys n x h.1 at

-- ---- no two names are one

same_itself : (name : List ℕ) → same_name name name ≡ true
same_itself [] = refl
same_itself (b ∷ bs) = and_from (nat_eq b b) (pointwise nat_eq bs bs) (eq-eqb b b refl) (same_itself bs)

is_among : (name : List ℕ) (names : List (List ℕ)) (n : ℕ) → slice_get names n ≡ Some name → list_any (same_name name) names ≡ true
is_among name [] n at = absurd (none-some name at)
is_among name (x ∷ names) zero at =
    or_left (same_name name x) (list_any (same_name name) names) (ap (same_name name) (same_Some x name at) ∙ same_itself name)
is_among name (x ∷ names) (suc n) at = or_right (same_name name x) (list_any (same_name name) names) (is_among name names n at)

not_among : (name other : List ℕ) (names : List (List ℕ)) (n : ℕ) → not (list_any (same_name name) names) ≡ true → name ≡ other → slice_get names n ≡ Some other → ⊥
not_among name other names n alone same at =
    false≢true (ap not (sym (is_among name names n (at ∙ ap (λ x. Some x) (sym same)))) ∙ alone)

apart_once : (names : List (List ℕ)) → are_apart names ≡ true → (n m : ℕ) (name : List ℕ) → slice_get names n ≡ Some name → slice_get names m ≡ Some name → n ≡ m
apart_once [] h n m name at other = absurd (none-some name at)
apart_once (x ∷ names) h zero zero name at other = refl
apart_once (x ∷ names) h zero (suc m) name at other =
    let word = and_parts (is_word x) (not (list_any (same_name x) names)) (and_parts (stands_apart x names) (are_apart names) h).0 in
    absurd (not_among x name names m word.1 (same_Some x name at) other)
apart_once (x ∷ names) h (suc n) zero name at other =
    let word = and_parts (is_word x) (not (list_any (same_name x) names)) (and_parts (stands_apart x names) (are_apart names) h).0 in
    absurd (not_among x name names n word.1 (same_Some x name other) at)
apart_once (x ∷ names) h (suc n) (suc m) name at other = ap suc (apart_once names (and_parts (stands_apart x names) (are_apart names) h).1 n m name at other)

-- ---- each is that of a variable

-- a number is that of one of these variables, the first of which has this number
record IsOfOne (first : ℕ) (vs : List TVariable) (number : ℕ) : Type 0 where
  place : ℕ
  variable : TVariable
  is : number ≡ first + place
  at : slice_get vs place ≡ Some variable

module _ (occurs : List Occurrence) (l : LoopText) where
  one_later : (first : ℕ) (v : TVariable) (vs : List TVariable) (numbers : List ℕ) → Each (IsOfOne (first + 1) vs) numbers → Each (IsOfOne first (v ∷ vs)) numbers
  one_later first v vs [] h = tt
  one_later first v vs (n ∷ numbers) h =
      let is : n ≡ first + 1 + h.0.place = h.0.is in
      let moved : n ≡ first + suc h.0.place = omega (arith, is) in
      (record { place = suc h.0.place; variable = h.0.variable; is = moved; at = h.0.at }, one_later first v vs numbers h.1)

  numbers_of_ones : (clause : Clause) (first : ℕ) (vs : List TVariable) → Each (IsOfOne first vs) (numbers_in occurs l clause first vs)
  numbers_of_ones clause first [] = tt
  numbers_of_ones clause first (v ∷ vs) =
      each_append (IsOfOne first (v ∷ vs)) (if belongs occurs l clause first v then first ∷ [] else []) (numbers_in occurs l clause (first + 1) vs)
      (by (belongs occurs l clause first v)) (one_later first v vs (numbers_in occurs l clause (first + 1) vs) (numbers_of_ones clause (first + 1) vs))
    where
      by : (b : Bool) → Each (IsOfOne first (v ∷ vs)) (if b then first ∷ [] else [])
      by true = (record { place = 0; variable = v; is = (let e : first ≡ first + 0 = omega arith in e); at = refl }, tt)
      by false = tt

  all_of_ones : (vs : List TVariable) (list : List Clause) → Each (IsOfOne 0 vs) (numbers_in_all occurs l vs list)
  all_of_ones vs [] = tt
  all_of_ones vs (clause ∷ list) =
      each_append (IsOfOne 0 vs) (numbers_in occurs l clause 0 vs) (numbers_in_all occurs l vs list) (numbers_of_ones clause 0 vs) (all_of_ones vs list)

-- a name that is a word is among the names
named_at : (found : Option (List ℕ)) → is_word (unwrap_or found []) ≡ true → found ≡ Some (unwrap_or found [])
named_at None h = absurd (false≢true h)
named_at (Some name) h = refl

named_one : (names : List (List ℕ)) (vs : List TVariable) (number : ℕ) → IsOfOne 0 vs number → is_word (name_of names number) ≡ true → IsNameOfOne names vs (name_of names number)
named_one names vs number one word =
    let is : number ≡ one.place = (let e : number ≡ 0 + one.place = one.is in omega (arith, e)) in record {
      number = number;
      variable = one.variable;
      stands = subst (λ n. slice_get vs n ≡ Some one.variable) (sym is) one.at;
      named = named_at (slice_get names number) word;
    }

each_named : (names : List (List ℕ)) (vs : List TVariable) (numbers : List ℕ) → Each (IsOfOne 0 vs) numbers → are_apart (map (name_of names) numbers) ≡ true
    → Each (IsNameOfOne names vs) (map (name_of names) numbers)
each_named names vs [] h apart = tt
each_named names vs (number ∷ numbers) h apart =
    let rest = map (name_of names) numbers in
    let parts = and_parts (stands_apart (name_of names number) rest) (are_apart rest) apart in
    let word = and_parts (is_word (name_of names number)) (not (list_any (same_name (name_of names number)) rest)) parts.0 in
    (named_one names vs number h.0 word.0, each_named names vs numbers h.1 parts.1)

named_well : (names : List (List ℕ)) (occurs : List Occurrence) (l : LoopText) (vs : List TVariable) → has_names names occurs l vs ≡ true
    → AreNamesOfThem names vs (all_names names occurs l vs)
named_well names occurs l vs h = record {
  each = λ n name at.
      each_at (IsNameOfOne names vs) (all_names names occurs l vs) n name (each_named names vs (numbers_in_all occurs l vs clauses) (all_of_ones occurs l vs clauses) h) at;
  once = apart_once (all_names names occurs l vs) h;
}

-- ---- lines

-- a line is that of a loop of a function of this number
record IsLineOf (written : Written) (number : ℕ) (f : TFunc) (line : List ℕ) : Type 0 where
  loop : LoopText
  is : line ≡ pragma_text (names_of written number) (function_held f).occurs loop f.variables
  names : AreNamesOfThem (names_of written number) f.variables (all_names (names_of written number) (function_held f).occurs loop f.variables)

-- a line is that of a loop of one of these functions, the first of which has this number
record IsLineOfOne (written : Written) (first : ℕ) (fs : List TFunc) (p : Pragma) : Type 0 where
  place : ℕ
  function : TFunc
  at : slice_get fs place ≡ Some function
  line : IsLineOf written (first + place) function p.text

module _ (among : List ℕ) (counted : List Bool) (written : Written) where
  lines_of_loops : (number : ℕ) (f : TFunc) (loops : List LoopText)
      → Each (λ (p : Pragma). IsLineOf written number f p.text)
      (pragmas_of_text among counted written.bare (names_of written number) number f.variables (function_held f).occurs (function_held f).setters loops)
  lines_of_loops number f [] = tt
  lines_of_loops number f (l ∷ loops) =
      let names = names_of written number in
      let occurs = (function_held f).occurs in
      let setters = (function_held f).setters in
      each_append (λ (p : Pragma). IsLineOf written number f p.text) (pragma_by among counted written.bare names number f.variables occurs setters l)
      (pragmas_of_text among counted written.bare names number f.variables occurs setters loops)
      (by (is_ready among counted written.bare names (region_of_loop number l.number) f.variables occurs setters l) refl) (lines_of_loops number f loops)
    where
      by : (ready : Bool)
          → is_ready among counted written.bare (names_of written number) (region_of_loop number l.number) f.variables (function_held f).occurs (function_held f).setters l ≡ ready
          → Each (λ (p : Pragma). IsLineOf written number f p.text)
          (if ready
          then record { region = region_of_loop number l.number; text = pragma_text (names_of written number) (function_held f).occurs l f.variables } ∷ []
          else [])
      by true e =
          let has = (and_parts (is_fit among counted written.bare (region_of_loop number l.number) f.variables (function_held f).occurs (function_held f).setters l)
          (has_names (names_of written number) (function_held f).occurs l f.variables) e).1 in
          (record { loop = l; is = refl; names = named_well (names_of written number) (function_held f).occurs l f.variables has }, tt)
      by false e = tt

  first_one : (number : ℕ) (f : TFunc) (fs : List TFunc) (ps : List Pragma) → Each (λ (p : Pragma). IsLineOf written number f p.text) ps
      → Each (IsLineOfOne written number (f ∷ fs)) ps
  first_one number f fs [] h = tt
  first_one number f fs (p ∷ ps) h =
      let is : number ≡ number + 0 = omega arith in
      (record { place = 0; function = f; at = refl; line = subst (λ n. IsLineOf written n f p.text) is h.0 }, first_one number f fs ps h.1)

  later_one : (number : ℕ) (f : TFunc) (fs : List TFunc) (ps : List Pragma) → Each (IsLineOfOne written (number + 1) fs) ps → Each (IsLineOfOne written number (f ∷ fs)) ps
  later_one number f fs [] h = tt
  later_one number f fs (p ∷ ps) h =
      let is : number + 1 + h.0.place ≡ number + suc h.0.place = omega arith in (
        record { place = suc h.0.place; function = h.0.function; at = h.0.at; line = subst (λ n. IsLineOf written n h.0.function p.text) is h.0.line },
        later_one number f fs ps h.1,
      )

  lines_of_ones : (number : ℕ) (fs : List TFunc) → Each (IsLineOfOne written number fs) (pragmas_in among counted written number fs)
  lines_of_ones number [] = tt
  lines_of_ones number (f ∷ fs) =
      each_append (IsLineOfOne written number (f ∷ fs)) (pragmas_of among counted written number f) (pragmas_in among counted written (number + 1) fs)
      (first_one number f fs (pragmas_of among counted written number f) (lines_of_loops number f (function_held f).loops))
      (later_one number f fs (pragmas_in among counted written (number + 1) fs) (lines_of_ones (number + 1) fs))

pub clause_names_are_variables : ClauseNamesAreVariables
clause_names_are_variables among counted written functions n p at =
    let one = each_at (IsLineOfOne written 0 functions) (pragmas_in among counted written 0 functions) n p (lines_of_ones among counted written 0 functions) at in
    let is : 0 + one.place ≡ one.place = omega arith in
    let line : IsLineOf written one.place one.function p.text = subst (λ k. IsLineOf written k one.function p.text) is one.line in record {
      number = one.place;
      function = one.function;
      at = one.at;
      loop = line.loop;
      is = line.is;
      names = line.names;
    }
