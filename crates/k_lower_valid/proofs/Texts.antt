-- A text of flat code with the balance before each of its instructions: the words in which stretches of it are fine, and how they stand one
-- behind another.
use Rattle.std.proofs.Common.{ℕ, ◌≡◌, ◌+◌, ◌<◌, ◌≤◌, nat_lt, nat_le, nat_eq, ◌||◌, Bool, true, false, List, [], ◌∷◌, ◌++◌, length, Option, Some, None, refl, sym, subst, ◌∙◌, arith}
use Rattle.std.proofs.lemmas.Bool.{true≢false, false≢true, lt-ltb, le-leb, eqb-true, and_from}
use Rattle.k_num.specs.declared.place.Place.{Place}
use Rattle.k_optab.specs.declared.class.Class.{Class}
use Rattle.k_optab.specs.Latencies.{latency}
use Rattle.k_world.specs.declared.act.Act.{Act}
use Rattle.k_code.specs.declared.balance.Balance.{Balance}
use Rattle.k_code.specs.declared.code.Code.{Code}
use Rattle.k_code.specs.declared.instruction.Arg.{Arg}
use Rattle.k_code.specs.declared.instruction.Do.{Do}
use Rattle.k_code.specs.declared.instruction.Do.TheVariants as act
use Rattle.k_code.specs.declared.instruction.Instr.{Instr}
use Rattle.k_code.specs.Balances.{left_open, is_met, goes_on, jumps_to}
use Rattle.k_code.specs.Named.{is_there, text_is_short}
use Rattle.k_code.specs.Steps.{operation_of}
use Rattle.k_code.specs.Valid.{is_within, stays_within, class_fits, is_of_tests}
use Rattle.k_evaluation.specs.States.{Program}
use Rattle.k_lower_code.specs.Pieces.{instruction, latency_by}

-- so much is open
abbrev pub opened : ℕ → ℕ → ℕ → Balance
opened s o r = record { saved = s; objects = o; regions = r }

-- THE TEXT OF A FUNCTION: the instruction of each number, if it has one; what is open before it; the number of its first, and that behind its
-- last.
pub record Text : Type 0 where
  pub instr_at : ℕ → Option Instr
  pub before : ℕ → Balance
  pub entry : ℕ
  pub end : ℕ

-- an instruction names what is there, and has a latency and a class that it may have
pub record IsSound (code : Code) (i : Instr) : Type 0 where
  pub latency : i.latency ≤ 10000
  pub there : is_there code i.act ≡ true
  pub short : text_is_short i.act ≡ true
  pub class : class_fits i.act ≡ true

-- the instruction behind one that doesn't go on has the balance of that one, or an earlier one jumps to it
pub data Behind (g : Text) (n : ℕ) : Type 0 where
  as_before : g.before (n + 1) ≡ g.before n → Behind g n
  by_jump : (j : ℕ) (i : Instr) → j ≤ n → g.instr_at j ≡ Some i → jumps_to i.act (n + 1) ≡ true → Behind g n

-- AN INSTRUCTION IS FINE at its number
pub record Fine (code : Code) (g : Text) (n : ℕ) (i : Instr) : Type 0 where
  pub sound : IsSound code i
  pub next : goes_on i.act ≡ true → g.before (n + 1) ≡ left_open i.act (g.before n)
  pub jumps : (to : ℕ) → jumps_to i.act to ≡ true → g.before to ≡ g.before n
  pub others : goes_on i.act ≡ false → Behind g n
  pub met : is_met i.act (g.before n) ≡ true
  pub within : (count k : ℕ) → n ≡ g.entry + k → g.end ≡ g.entry + count → stays_within g.entry count k i.act ≡ true

-- the text has these instructions from this number on
abbrev pub HasAt : Text → ℕ → List Instr → Type 0
HasAt g first [] = Unit {0}
HasAt g first (i ∷ instrs) = (g.instr_at first ≡ Some i) × HasAt g (first + 1) instrs

-- these balances stand before them
abbrev pub Labelled : Text → ℕ → List Balance → Type 0
Labelled g first [] = Unit {0}
Labelled g first (b ∷ marks) = (g.before first ≡ b) × Labelled g (first + 1) marks

-- they are fine
abbrev pub AllFine : Code → Text → ℕ → List Instr → Type 0
AllFine code g first [] = Unit {0}
AllFine code g first (i ∷ instrs) = Fine code g first i × AllFine code g (first + 1) instrs

pub has_first : (g : Text) (first : ℕ) (one other : List Instr) → HasAt g first (one ++ other) → HasAt g first one
has_first g first [] other has = tt
has_first g first (i ∷ one) other has = (has.0, has_first g (first + 1) one other has.1)

pub has_rest : (g : Text) (first : ℕ) (one other : List Instr) (size : ℕ) → length one ≡ size → HasAt g first (one ++ other) → HasAt g (first + size) other
has_rest g first [] other size is has = subst (λ n. HasAt g n other) (let e : first ≡ first + size = omega (arith, is) in e) has
has_rest g first (i ∷ one) other size is has =
    subst (λ n. HasAt g n other) (let e : (first + 1) + length one ≡ first + size = omega (arith, is) in e) (has_rest g (first + 1) one other (length one) refl has.1)

pub labelled_first : (g : Text) (first : ℕ) (one other : List Balance) → Labelled g first (one ++ other) → Labelled g first one
labelled_first g first [] other has = tt
labelled_first g first (i ∷ one) other has = (has.0, labelled_first g (first + 1) one other has.1)

pub labelled_rest : (g : Text) (first : ℕ) (one other : List Balance) (size : ℕ) → length one ≡ size → Labelled g first (one ++ other) → Labelled g (first + size) other
labelled_rest g first [] other size is has = subst (λ n. Labelled g n other) (let e : first ≡ first + size = omega (arith, is) in e) has
labelled_rest g first (i ∷ one) other size is has =
    subst (λ n. Labelled g n other) (let e : (first + 1) + length one ≡ first + size = omega (arith, is) in e)
    (labelled_rest g (first + 1) one other (length one) refl has.1)

pub fine_both : (code : Code) (g : Text) (first : ℕ) (one other : List Instr) (size : ℕ) → length one ≡ size → AllFine code g first one → AllFine code g (first + size) other
    → AllFine code g first (one ++ other)
fine_both code g first [] other size is a b = subst (λ n. AllFine code g n other) (let e : first + size ≡ first = omega (arith, is) in e) b
fine_both code g first (i ∷ one) other size is a b = (
  a.0,
  fine_both code g (first + 1) one other (length one) refl a.1
      (subst (λ n. AllFine code g n other) (let e : first + size ≡ (first + 1) + length one = omega (arith, is) in e) b),
)

-- what goes on is no jump, and stays within a function where its next instruction does
pub record IsGoing (act : Do) : Type 0 where
  pub still : (to : ℕ) → jumps_to act to ≡ false
  pub stays : (entry count k : ℕ) → stays_within entry count k act ≡ nat_lt (k + 1) count
  pub class : class_fits act ≡ true

pub is_going : (what : Do) → goes_on what ≡ true → IsGoing what
unfolding goes_on jumps_to stays_within class_fits
is_going (act.Test a taken other to class) on = absurd (false≢true on)
is_going (act.Jump to) on = absurd (false≢true on)
is_going act.FallOff on = absurd (false≢true on)
is_going (act.Return value) on = absurd (false≢true on)
is_going (act.Binary op kind a b to) on = record { still = λ to. refl; stays = λ entry count k. refl; class = refl }
is_going (act.Unary op kind a to) on = record { still = λ to. refl; stays = λ entry count k. refl; class = refl }
is_going (act.Convert kind a to) on = record { still = λ to. refl; stays = λ entry count k. refl; class = refl }
is_going (act.Move a to) on = record { still = λ to. refl; stays = λ entry count k. refl; class = refl }
is_going (act.Offset minus scale at by to) on = record { still = λ to. refl; stays = λ entry count k. refl; class = refl }
is_going (act.PtrCompare op a b to) on = record { still = λ to. refl; stays = λ entry count k. refl; class = refl }
is_going (act.PtrDistance scale a b to) on = record { still = λ to. refl; stays = λ entry count k. refl; class = refl }
is_going (act.Load at to) on = record { still = λ to. refl; stays = λ entry count k. refl; class = refl }
is_going (act.Store at a to) on = record { still = λ to. refl; stays = λ entry count k. refl; class = refl }
is_going (act.Input to) on = record { still = λ to. refl; stays = λ entry count k. refl; class = refl }
is_going (act.Output what args to) on = record { still = λ to. refl; stays = λ entry count k. refl; class = refl }
is_going (act.Enter region) on = record { still = λ to. refl; stays = λ entry count k. refl; class = refl }
is_going act.Exit on = record { still = λ to. refl; stays = λ entry count k. refl; class = refl }
is_going (act.Address home offset to) on = record { still = λ to. refl; stays = λ entry count k. refl; class = refl }
is_going (act.ObjectOpen elements) on = record { still = λ to. refl; stays = λ entry count k. refl; class = refl }
is_going (act.ObjectsClose count) on = record { still = λ to. refl; stays = λ entry count k. refl; class = refl }
is_going (act.Fill local values) on = record { still = λ to. refl; stays = λ entry count k. refl; class = refl }
is_going (act.Forget register) on = record { still = λ to. refl; stays = λ entry count k. refl; class = refl }
is_going (act.Call func args to) on = record { still = λ to. refl; stays = λ entry count k. refl; class = refl }
is_going act.Save on = record { still = λ to. refl; stays = λ entry count k. refl; class = refl }
is_going act.Keep on = record { still = λ to. refl; stays = λ entry count k. refl; class = refl }
is_going act.Back on = record { still = λ to. refl; stays = λ entry count k. refl; class = refl }
is_going act.Restore on = record { still = λ to. refl; stays = λ entry count k. refl; class = refl }

-- a test is true or false, not both
no_both : (b : Bool) → b ≡ true → b ≡ false → ⊥
no_both b holds fails = true≢false (sym holds ∙ fails)

-- the latency of an operation is in its range where those of all classes are
pub latency_fits : (latencies : List ℕ) (operation : Option (Class × Act)) → ((class : Class) → latency latencies class ≤ 10000) → latency_by latencies operation ≤ 10000
latency_fits latencies None bound = omega arith
latency_fits latencies (Some operation) bound = bound operation.0

-- the program's table has latencies that are in their range
abbrev pub HasTable : Program → Type 0
HasTable program = (class : Class) → latency program.latencies class ≤ 10000

pub sound : (code : Code) (program : Program) (place : Place) (what : Do) → HasTable program → is_there code what ≡ true → text_is_short what ≡ true → class_fits what ≡ true
    → IsSound code (instruction program place what)
sound code program place what table there short class =
    record { latency = latency_fits program.latencies (operation_of what) table; there = there; short = short; class = class }

-- AN INSTRUCTION THAT GOES ON is fine, where it leaves what stands behind it
pub goes : (code : Code) (g : Text) (program : Program) (place : Place) (what : Do) (n : ℕ) (b : Balance) → HasTable program
    → goes_on what ≡ true → is_there code what ≡ true → text_is_short what ≡ true → is_met what b ≡ true
    → g.before n ≡ b → g.before (n + 1) ≡ left_open what b → n + 1 < g.end → Fine code g n (instruction program place what)
goes code g program place what n b table on there short met here next last =
    let is : IsGoing what = is_going what on in
    record {
      sound = sound code program place what table there short is.class;
      next = λ yes. subst (λ x. g.before (n + 1) ≡ left_open what x) (sym here) next;
      jumps = λ to jump. absurd (no_both (jumps_to what to) jump (is.still to));
      others = λ no. absurd (no_both (goes_on what) on no);
      met = subst (λ x. is_met what x ≡ true) (sym here) met;
      within = λ count k at all. is.stays g.entry count k ∙ below k count at all;
    }
  where
    below : (k count : ℕ) → n ≡ g.entry + k → g.end ≡ g.entry + count → nat_lt (k + 1) count ≡ true
    below k count at all = lt-ltb (k + 1) count (omega (arith, at, all, last))

-- a jump is fine where what it goes to has its balance, and what stands behind it has too, or is jumped to
pub jumps : (code : Code) (g : Text) (program : Program) (place : Place) (to n : ℕ) (b : Balance) → HasTable program
    → g.before n ≡ b → g.before to ≡ b → n < to → to < g.end → Behind g n → Fine code g n (instruction program place (act.Jump to))
unfolding goes_on jumps_to stays_within class_fits is_there is_met
jumps code g program place to n b table here there later last behind = record {
  sound = sound code program place (act.Jump to) table refl refl refl;
  next = λ yes. absurd (no_both false yes refl);
  jumps = λ other is. is_jump other is;
  others = λ no. behind;
  met = refl;
  within = λ count k at all. and_from (nat_lt (g.entry + k) to) (nat_lt to (g.entry + count)) (lt-ltb (g.entry + k) to (omega (arith, at, later))) (lt-ltb to (g.entry + count) (omega (arith, all, last)));
}
  where
    is_jump : (other : ℕ) → nat_eq to other ≡ true → g.before other ≡ g.before n
    is_jump other is = subst (λ m. g.before m ≡ g.before n) (eqb-true to other is) (there ∙ sym here)

-- so is a test where what it goes to and what stands behind it have its balance
pub tests : (code : Code) (g : Text) (program : Program) (place : Place) (a : Arg) (taken other : ℕ) (to : Option ℕ) (class : Class) (n : ℕ) (b : Balance) → HasTable program
    → is_of_tests class ≡ true → g.before n ≡ b → g.before taken ≡ b → g.before other ≡ b → g.before (n + 1) ≡ b
    → g.entry ≤ taken → taken < g.end → g.entry ≤ other → other < g.end → Fine code g n (instruction program place (act.Test a taken other to class))
unfolding goes_on jumps_to stays_within class_fits is_there is_met
tests code g program place a taken other to class n b table of here one two next low high low_other high_other = record {
  sound = sound code program place (act.Test a taken other to class) table refl refl of;
  next = λ yes. absurd (no_both false yes refl);
  jumps = λ target is. by_either target (nat_eq taken target) refl is;
  others = λ no. as_before (next ∙ sym here);
  met = refl;
  within = λ count k at all. and_from (is_within g.entry count taken) (is_within g.entry count other) (inside taken count all low high) (inside other count all low_other high_other);
}
  where
    inside : (m count : ℕ) → g.end ≡ g.entry + count → g.entry ≤ m → m < g.end → is_within g.entry count m ≡ true
    inside m count all low high = and_from (nat_le g.entry m) (nat_lt m (g.entry + count)) (le-leb g.entry m low) (lt-ltb m (g.entry + count) (omega (arith, all, high)))

    by_either : (target : ℕ) (which : Bool) → nat_eq taken target ≡ which → (which || nat_eq other target) ≡ true → g.before target ≡ g.before n
    by_either target true is given = subst (λ m. g.before m ≡ g.before n) (eqb-true taken target is) (one ∙ sym here)
    by_either target false is given = subst (λ m. g.before m ≡ g.before n) (eqb-true other target given) (two ∙ sym here)
