-- The flat code of a program is valid, where its functions fit.
use Rattle.std.proofs.Common.{ℕ, zero, suc, ◌≡◌, ◌+◌, ◌-◌, ◌*◌, ◌<◌, ◌≤◌, nat_lt, max, min, if◌then◌else◌, Bool, true, false, List, [], ◌∷◌, ◌++◌, length, take, drop, slice_get, Some, refl, sym, subst, ap, ◌∙◌, arith}
use Rattle.std.proofs.lemmas.Bool.{lt-ltb, ltb-true}
use Rattle.std.proofs.lemmas.List.{length-append, append_assoc}
use Rattle.std.proofs.Math.Nat.{le-max_left, le-max_right, min-eq_left}
use Rattle.std.proofs.Math.Seq.{take-append_seam, drop-append_seam}
use Rattle.std.proofs.lemmas.Option.{none-some, same_Some}
use Rattle.k_types_meaning.specs.declared.tree.unit.TFunc.{TFunc}
use Rattle.k_code.specs.declared.balance.Balance.{Balance}
use Rattle.k_code.specs.declared.code.Code.{Code}
use Rattle.k_code.specs.declared.code.CodeFunc.{CodeFunc}
use Rattle.k_code.specs.declared.instruction.Instr.{Instr}
use Rattle.k_code.specs.Balances.{IsBalance}
use Rattle.k_code.specs.Named.{registers_needed}
use Rattle.k_code.specs.Valid.{end_of, body_of, is_in_range, IsValidFunc, IsValid}
use Rattle.k_evaluation.specs.States.{Program}
use Rattle.k_lower_code.specs.Functions.{function, function_code, registers_of}
use Rattle.k_lower_code.specs.Programs.{code_func, code_funcs, functions_code, flattened}
use Rattle.k_lower_valid.specs.Fitting.{FitsFunction, FitsProgram}
use Rattle.k_lower_valid.proofs.Functions.{function_sized, function_not_empty, function_balance, function_in_range}

-- a function has its size wherever it stands, and at least one instruction
pub record HasSize (program : Program) (number : ℕ) (f : TFunc) : Type 0 where
  pub sized : (first : ℕ) → length (function_code program number f first) ≡ (function program number f).size
  pub some : 1 ≤ (function program number f).size

-- so do all these, from this number on
abbrev pub AllSized : Program → ℕ → List TFunc → Type 0
AllSized program number [] = Unit {0}
AllSized program number (f ∷ fs) = HasSize program number f × AllSized program (number + 1) fs

-- no number is below one that it is not less than
below_is : (a b : ℕ) → b ≤ a → nat_lt a b ≡ false
below_is a b low = by (nat_lt a b) refl where
  by : (c : Bool) → nat_lt a b ≡ c → nat_lt a b ≡ false
  by true is = absurd (let e : a < b = ltb-true a b is in omega (arith, e, low))
  by false is = is

if_true : {X : Type 0} (b : Bool) (x y : X) → b ≡ true → (if b then x else y) ≡ x
if_true b x y is = ap (λ c. if c then x else y) is

if_false : {X : Type 0} (b : Bool) (x y : X) → b ≡ false → (if b then x else y) ≡ y
if_false b x y is = ap (λ c. if c then x else y) is

-- so many instructions stand behind the first of functions
rest_whole : (program : Program) (number first all : ℕ) (f : TFunc) (fs : List TFunc) → HasSize program number f → first + length (functions_code program number first (f ∷ fs)) ≡ all
    → (first + (function program number f).size) + length (functions_code program (number + 1) (first + (function program number f).size) fs) ≡ all
rest_whole program number first all f fs has whole =
    (let two : length (functions_code program number first (f ∷ fs)) ≡ length (function_code program number f first) + length (functions_code program (number + 1) (first + (function program number f).size) fs) =
    length-append (function_code program number f first) (functions_code program (number + 1) (first + (function program number f).size) fs) in
    (let one : length (function_code program number f first) ≡ (function program number f).size = has.sized first in omega (arith, two, one, whole)))

-- the end of what stands before functions is where they begin
end_before : (program : Program) (number first all entry : ℕ) (fs : List TFunc) → AllSized program number fs → entry < first → first + length (functions_code program number first fs) ≡ all
    → end_of (code_funcs program number first fs) all entry ≡ first
end_before program number first all entry [] sized below whole = (let e : all ≡ first = omega (arith, whole) in e)
end_before program number first all entry (f ∷ fs) sized below whole =
    if_true (nat_lt entry first) (min first (end_of (code_funcs program (number + 1) (first + (function program number f).size) fs) all entry)) (end_of (code_funcs program (number + 1) (first + (function program number f).size) fs) all entry) (lt-ltb entry first below)
    ∙ (let later : end_of (code_funcs program (number + 1) (first + (function program number f).size) fs) all entry ≡ first + (function program number f).size =
    end_before program (number + 1) (first + (function program number f).size) all entry fs sized.1 (omega (arith, below)) (rest_whole program number first all f fs sized.0 whole) in
    min-eq_left (let e : first ≤ end_of (code_funcs program (number + 1) (first + (function program number f).size) fs) all entry = omega (arith, later) in e))

-- WHERE A FUNCTION OF THE CODE STANDS
pub record Placed (program : Program) (number first all : ℕ) (fs : List TFunc) (n : ℕ) (cf : CodeFunc) : Type 0 where
  pub func : TFunc
  pub its_number : ℕ
  pub number_is : its_number ≡ number + n
  pub is : slice_get fs n ≡ Some func
  pub at : ℕ
  pub same : cf ≡ code_func program its_number func at
  pub low : first ≤ at
  pub ends : end_of (code_funcs program number first fs) all at ≡ at + (function program its_number func).size
  pub has : HasSize program its_number func
  pub earlier : List Instr
  pub later : List Instr
  pub whole : functions_code program number first fs ≡ earlier ++ (function_code program its_number func at ++ later)
  pub long : first + length earlier ≡ at

pub placed : (program : Program) (number first all : ℕ) (fs : List TFunc) (n : ℕ) (cf : CodeFunc) → AllSized program number fs → slice_get (code_funcs program number first fs) n ≡ Some cf
    → first + length (functions_code program number first fs) ≡ all → Placed program number first all fs n cf
placed program number first all [] n cf sized is whole = absurd (none-some cf is)
placed program number first all (f ∷ fs) zero cf sized is whole = record {
  func = f;
  its_number = number;
  number_is = (let e : number ≡ number + 0 = omega arith in e);
  is = refl;
  at = first;
  same = sym (same_Some (code_func program number f first) cf is);
  low = (let e : first ≤ first = omega arith in e);
  ends = if_false (nat_lt first first) (min first (end_of (code_funcs program (number + 1) (first + (function program number f).size) fs) all first)) (end_of (code_funcs program (number + 1) (first + (function program number f).size) fs) all first) (below_is first first (omega arith))
      ∙ end_before program (number + 1) (first + (function program number f).size) all first fs sized.1 (let some : 1 ≤ (function program number f).size = sized.0.some in omega (arith, some)) (rest_whole program number first all f fs sized.0 whole);
  has = sized.0;
  earlier = [];
  later = functions_code program (number + 1) (first + (function program number f).size) fs;
  whole = refl;
  long = (let e : first + 0 ≡ first = omega arith in e);
}
placed program number first all (f ∷ fs) (suc n) cf sized is whole =
    behind (placed program (number + 1) (first + (function program number f).size) all fs n cf sized.1 is (rest_whole program number first all f fs sized.0 whole))
  where
    behind : Placed program (number + 1) (first + (function program number f).size) all fs n cf → Placed program number first all (f ∷ fs) (suc n) cf
    behind p = record {
      func = p.func;
      its_number = p.its_number;
      number_is = (let e : p.its_number ≡ (number + 1) + n = p.number_is in (let goal : p.its_number ≡ number + suc n = omega (arith, e) in goal));
      is = p.is;
      at = p.at;
      same = p.same;
      low = (let e : first + (function program number f).size ≤ p.at = p.low in omega (arith, e));
      ends = if_false (nat_lt p.at first) (min first (end_of (code_funcs program (number + 1) (first + (function program number f).size) fs) all p.at)) (end_of (code_funcs program (number + 1) (first + (function program number f).size) fs) all p.at)
          (below_is p.at first (let e : first + (function program number f).size ≤ p.at = p.low in omega (arith, e))) ∙ p.ends;
      has = p.has;
      earlier = function_code program number f first ++ p.earlier;
      later = p.later;
      whole = ap (λ instrs. function_code program number f first ++ instrs) p.whole ∙ sym (append_assoc (function_code program number f first) p.earlier (function_code program p.its_number p.func p.at ++ p.later));
      long =
          (let two : length (function_code program number f first ++ p.earlier) ≡ length (function_code program number f first) + length p.earlier = length-append (function_code program number f first) p.earlier in
          (let one : length (function_code program number f first) ≡ (function program number f).size = sized.0.sized first in
          (let three : (first + (function program number f).size) + length p.earlier ≡ p.at = p.long in omega (arith, two, one, three))));
    }

-- EACH FUNCTION of the source stands in the code under its number
pub record There (program : Program) (number first : ℕ) (fs : List TFunc) (n : ℕ) (f : TFunc) : Type 0 where
  pub its_number : ℕ
  pub number_is : its_number ≡ number + n
  pub at : ℕ
  pub is : slice_get (code_funcs program number first fs) n ≡ Some (code_func program its_number f at)
  pub earlier : List Instr
  pub later : List Instr
  pub whole : functions_code program number first fs ≡ earlier ++ (function_code program its_number f at ++ later)
  pub long : first + length earlier ≡ at

pub there : (program : Program) (number first : ℕ) (fs : List TFunc) (n : ℕ) (f : TFunc) → AllSized program number fs → slice_get fs n ≡ Some f → There program number first fs n f
there program number first [] n f sized is = absurd (none-some f is)
there program number first (g ∷ fs) zero f sized is = subst (There program number first (g ∷ fs) zero) (same_Some g f is) (record {
  its_number = number;
  number_is = (let e : number ≡ number + 0 = omega arith in e);
  at = first;
  is = refl;
  earlier = [];
  later = functions_code program (number + 1) (first + (function program number g).size) fs;
  whole = refl;
  long = (let e : first + 0 ≡ first = omega arith in e);
})
there program number first (g ∷ fs) (suc n) f sized is = behind (there program (number + 1) (first + (function program number g).size) fs n f sized.1 is)
  where
    behind : There program (number + 1) (first + (function program number g).size) fs n f → There program number first (g ∷ fs) (suc n) f
    behind p = record {
      its_number = p.its_number;
      number_is = (let e : p.its_number ≡ (number + 1) + n = p.number_is in (let goal : p.its_number ≡ number + suc n = omega (arith, e) in goal));
      at = p.at;
      is = p.is;
      earlier = function_code program number g first ++ p.earlier;
      later = p.later;
      whole = ap (λ instrs. function_code program number g first ++ instrs) p.whole ∙ sym (append_assoc (function_code program number g first) p.earlier (function_code program p.its_number f p.at ++ p.later));
      long =
          (let two : length (function_code program number g first ++ p.earlier) ≡ length (function_code program number g first) + length p.earlier = length-append (function_code program number g first) p.earlier in
          (let one : length (function_code program number g first) ≡ (function program number g).size = sized.0.sized first in
          (let three : (first + (function program number g).size) + length p.earlier ≡ p.at = p.long in omega (arith, two, one, three))));
    }

-- each instruction needs as many registers as all do, at most
needs_fewer : (instrs : List Instr) (k : ℕ) (i : Instr) → slice_get instrs k ≡ Some i → registers_needed i.act ≤ registers_of instrs
needs_fewer [] k i is = absurd (none-some i is)
needs_fewer (j ∷ instrs) zero i is = subst (λ x. registers_needed x.act ≤ max (registers_needed j.act) (registers_of instrs)) (same_Some j i is) (le-max_left (registers_needed j.act) (registers_of instrs))
needs_fewer (j ∷ instrs) (suc k) i is =
    (let one : registers_needed i.act ≤ registers_of instrs = needs_fewer instrs k i is in
    (let two : registers_of instrs ≤ max (registers_needed j.act) (registers_of instrs) = le-max_right (registers_needed j.act) (registers_of instrs) in omega (arith, one, two)))

-- of as many functions as many are of the code
pub funcs_long : (program : Program) (number first : ℕ) (fs : List TFunc) → length (code_funcs program number first fs) ≡ length fs
funcs_long program number first [] = refl
funcs_long program number first (f ∷ fs) = ap suc (funcs_long program (number + 1) (first + (function program number f).size) fs)

module _ (program : Program) (fits : FitsProgram program) where
  abbrev code : Code
  code = flattened program

  pub has_size : (number : ℕ) (f : TFunc) → slice_get program.unit.functions number ≡ Some f → HasSize program number f
  has_size number f is = record {
    sized = function_sized code program fits.table number f (fits.functions number f is).right;
    some = function_not_empty code program fits.table number f (fits.functions number f is).right;
  }

  all_sized : (fs : List TFunc) (number : ℕ) → ((k : ℕ) (f : TFunc) → slice_get fs k ≡ Some f → slice_get program.unit.functions (number + k) ≡ Some f) → AllSized program number fs
  all_sized [] number each = tt
  all_sized (f ∷ fs) number each = (
    has_size number f (subst (λ n. slice_get program.unit.functions n ≡ Some f) (let e : number + 0 ≡ number = omega arith in e) (each 0 f refl)),
    all_sized fs (number + 1) (λ k g is. subst (λ n. slice_get program.unit.functions n ≡ Some g) (let e : number + suc k ≡ (number + 1) + k = omega arith in e) (each (suc k) g is)),
  )

  pub sizes : AllSized program 0 program.unit.functions
  sizes = all_sized program.unit.functions 0 (λ k f is. subst (λ n. slice_get program.unit.functions n ≡ Some f) (let e : k ≡ 0 + k = omega arith in e) is)

  pub instrs_are : code.instrs ≡ functions_code program 0 0 program.unit.functions
  unfolding flattened
  instrs_are = refl

  pub funcs_are : code.funcs ≡ code_funcs program 0 0 program.unit.functions
  unfolding flattened
  funcs_are = refl

  module _ (n : ℕ) (cf : CodeFunc) (is : slice_get code.funcs n ≡ Some cf) where
    pub place : Placed program 0 0 (length code.instrs) program.unit.functions n cf
    place = placed program 0 0 (length code.instrs) program.unit.functions n cf sizes (subst (λ funcs. slice_get funcs n ≡ Some cf) funcs_are is)
        (let e : length code.instrs ≡ length (functions_code program 0 0 program.unit.functions) = ap length instrs_are in omega (arith, e))

    abbrev its_code : List Instr
    its_code = function_code program place.its_number place.func place.at

    its_fit : FitsFunction program place.its_number place.func
    its_fit = fits.functions place.its_number place.func (subst (λ m. slice_get program.unit.functions m ≡ Some place.func) (let e : place.its_number ≡ 0 + n = place.number_is in (let goal : n ≡ place.its_number = omega (arith, e) in goal)) place.is)

    instrs_split : code.instrs ≡ place.earlier ++ (its_code ++ place.later)
    instrs_split = instrs_are ∙ place.whole

    earlier_long : length place.earlier ≡ place.at
    earlier_long = (let e : 0 + length place.earlier ≡ place.at = place.long in omega (arith, e))

    pub body_is : body_of code place.at ≡ its_code
    unfolding body_of
    body_is =
        ap (λ m. take (m - place.at) (drop place.at code.instrs)) (ap (λ funcs. end_of funcs (length code.instrs) place.at) funcs_are ∙ place.ends)
        ∙ ap (λ instrs. take ((place.at + (function program place.its_number place.func).size) - place.at) (drop place.at instrs)) instrs_split
        ∙ ap (λ m. take ((place.at + (function program place.its_number place.func).size) - place.at) (drop m (place.earlier ++ (its_code ++ place.later)))) (sym earlier_long)
        ∙ ap (take ((place.at + (function program place.its_number place.func).size) - place.at)) (drop-append_seam place.earlier (its_code ++ place.later))
        ∙ ap (λ m. take m (its_code ++ place.later)) (let e : length its_code ≡ (function program place.its_number place.func).size = place.has.sized place.at in
        (let goal : (place.at + (function program place.its_number place.func).size) - place.at ≡ length its_code = omega (arith, e) in goal))
        ∙ take-append_seam its_code place.later

    at_below : place.at < length code.instrs
    at_below =
        (let one : length code.instrs ≡ length (place.earlier ++ (its_code ++ place.later)) = ap length instrs_split in
        (let two : length (place.earlier ++ (its_code ++ place.later)) ≡ length place.earlier + length (its_code ++ place.later) = length-append place.earlier (its_code ++ place.later) in
        (let three : length (its_code ++ place.later) ≡ length its_code + length place.later = length-append its_code place.later in
        (let four : length its_code ≡ (function program place.its_number place.func).size = place.has.sized place.at in
        (let five : 1 ≤ (function program place.its_number place.func).size = place.has.some in
        (let six : length place.earlier ≡ place.at = earlier_long in omega (arith, one, two, three, four, five, six)))))))

    made_valid : IsValidFunc code (code_func program place.its_number place.func place.at)
    made_valid = record {
      entry = at_below;
      region = its_fit.region;
      least_size = its_fit.least_size;
      greatest_size = its_fit.greatest_size;
      registers = its_fit.registers place.at;
      params = le-max_left place.func.params (registers_of its_code);
      short = subst (λ instrs. length instrs ≤ 512 * place.func.nodes) (sym body_is) (subst (λ m. m ≤ 512 * place.func.nodes) (sym (place.has.sized place.at)) its_fit.instructions);
      ranges = subst (λ instrs. (k : ℕ) (i : Instr) → slice_get instrs k ≡ Some i → is_in_range code place.at (length instrs) k i ≡ true) (sym body_is)
          (function_in_range code program fits.table place.its_number place.func its_fit.right place.at);
      needs = subst (λ instrs. (k : ℕ) (i : Instr) → slice_get instrs k ≡ Some i → registers_needed i.act ≤ max place.func.params (registers_of its_code)) (sym body_is)
          (λ k i there. (let one : registers_needed i.act ≤ registers_of its_code = needs_fewer its_code k i there in
          (let two : registers_of its_code ≤ max place.func.params (registers_of its_code) = le-max_right place.func.params (registers_of its_code) in omega (arith, one, two))));
      balance = subst (λ instrs. (before : ℕ → Balance) × IsBalance place.at instrs before) (sym body_is) (function_balance code program fits.table place.its_number place.func its_fit.right place.at);
    }

    func_valid : IsValidFunc code cf
    func_valid = subst (IsValidFunc code) (sym place.same) made_valid

  -- THE FLAT CODE OF A PROGRAM IS VALID
  pub flattened_is_valid : IsValid (flattened program)
  unfolding flattened
  flattened_is_valid = record {
    main = (let e : length (code_funcs program 0 0 program.unit.functions) ≡ length program.unit.functions = funcs_long program 0 0 program.unit.functions in
        (let m : program.unit.main < length program.unit.functions = fits.main in (let goal : program.unit.main < length (code_funcs program 0 0 program.unit.functions) = omega (arith, e, m) in goal)));
    funcs = λ n cf is. func_valid n cf is;
  }
