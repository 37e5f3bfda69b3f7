-- The code of a function, emitted part by part.
use Rattle.std.proofs.Common.{ℕ, zero, suc, ◌≡◌, ◌≢◌, ◌+◌, ◌-◌, ◌<◌, ◌≤◌, List, [], ◌∷◌, ◌++◌, map, drop, get_or, length, Result, refl, sym, ap, subst, ◌∙◌, append_assoc, arith}
use Rattle.std.proofs.Math.ListN.{drop_of_length-le}
use Rattle.std.proofs.lemmas.List.{append-nil, drop_more}
use Rattle.k_num.specs.declared.memory.NoMemory.{NoMemory}
use Rattle.k_num.specs.declared.place.Place.{Place}
use Rattle.k_types_meaning.specs.declared.tree.unit.TFunc.{TFunc}
use Rattle.k_types_meaning.specs.declared.tree.unit.TVariable.{TVariable}
use Rattle.k_code.specs.declared.instruction.Instr.{Instr}
use Rattle.k_evaluation.specs.States.{Program}
use Rattle.k_lower_code.specs.Functions.{at_end, function, serves, serves_by}
use Rattle.k_lower_code.specs.Pieces.{Piece, ◌>>>◌, does}
use Rattle.k_lower_code.specs.Statements.{lowered}
use Rattle.k_lower_code.specs.Stretches.{Stretch, behind, in_order, nothing_done, of_piece}
use Rattle.k_lower_expressions.proofs.Emitted as emitted
use Rattle.k_lower_expressions.proofs.Emitted.{Emitted, Emits}
use Rattle.k_lower_parts.specs.Parts.{outside_loops, with_objects}
use Rattle.k_lower_statements.specs.Sites.{at_site}
use Rattle.k_lower_statements.proofs.Left.{IsLeft}

module _ (program : Program) (r : ℕ) (close : Place) where
  -- a parameter more, of which the first is this one
  one_more : (n left : ℕ) (v : TVariable) (vs : List TVariable) (objects b : ℕ) (whole : Piece ℕ) (old now after : List Instr)
      → IsLeft (with_objects objects (serves program r close n (suc left) (v ∷ vs))) whole old now
      → Emitted b (with_objects objects (serves_by program r v.place n v.elements)) now after
      → IsLeft (with_objects b (serves program r close (n + 1) left vs)) whole old after
  one_more n left v vs objects b whole old now after is_left one =
      (let first : Stretch = serves_by program r v.place n v.elements in
      (let rest : Stretch = serves program r close (n + 1) left vs in
      (let here : List Instr = first.code (outside_loops objects) (length now) in
      (let there : ℕ → List Instr = λ m. rest.code (outside_loops (objects + first.opens)) m in
      (let count : (objects + first.opens) + rest.opens ≡ objects + (first.opens + rest.opens) = omega arith in
      (let long : length after ≡ length now + first.size = one.size in
      (let all : length now + (first.size + rest.size) ≡ length old + whole.size = is_left.size in
      subst (λ (m : ℕ). IsLeft (with_objects m rest) whole old after) (sym one.gives) (record {
        gives = count ∙ is_left.gives;
        code = ap (λ (m : ℕ). after ++ there m) long
            ∙ (ap (λ (xs : List Instr). xs ++ there (length now + first.size)) one.code
            ∙ (append_assoc now here (there (length now + first.size)) ∙ is_left.code));
        size = omega (arith, long, all);
      }))))))))

  one_fewer : (n : ℕ) → n ≢ 0 → n ≡ suc (n - 1)
  one_fewer zero some = absurd (some refl)
  one_fewer (suc n) some = omega arith

  -- the same in a list of variables, where so many parameters are left
  pub served_more : (n next left i : ℕ) (vars : List TVariable) (d : TVariable) (objects b : ℕ) (whole : Piece ℕ) (old now after : List Instr)
      → next ≡ n + 1 → left ≢ 0 → i < length vars
      → IsLeft (with_objects objects (serves program r close n left (drop i vars))) whole old now
      → Emitted b (with_objects objects (serves_by program r (get_or vars i d).place n (get_or vars i d).elements)) now after
      → IsLeft (with_objects b (serves program r close next (left - 1) (drop (i + 1) vars))) whole old after
  served_more n next left i vars d objects b whole old now after next_is some below is_left one =
      (let v : TVariable = get_or vars i d in
      (let rest : List TVariable = drop (i + 1) vars in
      subst (λ (m : ℕ). IsLeft (with_objects b (serves program r close m (left - 1) rest)) whole old after) (sym next_is)
      (one_more n (left - 1) v rest objects b whole old now after
      (subst (λ (m : ℕ). IsLeft (with_objects objects (serves program r close n m (v ∷ rest))) whole old now) (one_fewer left some)
      (subst (λ (xs : List TVariable). IsLeft (with_objects objects (serves program r close n left xs)) whole old now) (drop_more vars i d below) is_left)) one)))

  nothing_more : (objects : ℕ) (s : Stretch) (whole : Piece ℕ) (old now : List Instr)
      → s ≡ nothing_done close → IsLeft (with_objects objects s) whole old now → Emitted objects whole old now
  nothing_more objects s whole old now is is_left =
      (let last : IsLeft (with_objects objects (nothing_done close)) whole old now =
      subst (λ (x : Stretch). IsLeft (with_objects objects x) whole old now) is is_left in
      (let count : objects ≡ objects + 0 = omega arith in
      (let all : length now + 0 ≡ length old + whole.size = last.size in
      record {
        gives = count ∙ last.gives;
        code = sym (append-nil now) ∙ last.code;
        size = omega (arith, all);
      })))

  -- no parameter is left
  pub served_all : (n left : ℕ) (vs : List TVariable) (objects : ℕ) (whole : Piece ℕ) (old now : List Instr)
      → left ≡ 0 → IsLeft (with_objects objects (serves program r close n left vs)) whole old now → Emitted objects whole old now
  served_all n left vs objects whole old now none is_left =
      nothing_more objects (serves program r close n left vs) whole old now (ap (λ (m : ℕ). serves program r close n m vs) none) is_left

  -- no variable is left
  without_variables : (n left : ℕ) → serves program r close n left [] ≡ nothing_done close
  without_variables n zero = refl
  without_variables n (suc left) = refl

  pub served_each : (n left i : ℕ) (vars : List TVariable) (objects : ℕ) (whole : Piece ℕ) (old now : List Instr)
      → length vars ≤ i → IsLeft (with_objects objects (serves program r close n left (drop i vars))) whole old now → Emitted objects whole old now
  served_each n left i vars objects whole old now past is_left =
      (let none : drop i vars ≡ [] = drop_of_length-le vars past in
      nothing_more objects (serves program r close n left (drop i vars)) whole old now
      (ap (serves program r close n left) none ∙ without_variables n left) is_left)

-- the code of a function with these variables, and the first temporary
abbrev text_of : Program → ℕ → TFunc → ℕ → List TVariable → Stretch
text_of program number f r vars =
    behind (serves program r f.close 0 f.params vars)
    (behind (in_order program f.close (map (lowered (record { program = program; function = number; vars = vars })) f.body))
    (of_piece f.close (does program f.close (at_end program number f.result))))

-- its parts, one behind the other
text_emitted : (program : Program) (number : ℕ) (f : TFunc) (r : ℕ) (vars : List TVariable) (objects : ℕ) (result : Result (Unit {0}) NoMemory) (old one two new : List Instr)
    → Emitted objects (with_objects 0 (serves program r f.close 0 f.params vars)) old one
    → Emitted {A = Unit {0}} tt (at_site (outside_loops objects) (in_order program f.close (map (lowered (record { program = program; function = number; vars = vars })) f.body))) one two
    → Emits {A = Unit {0}} result (does program f.close (at_end program number f.result)) two new
    → Emits {A = Unit {0}} result (at_site (outside_loops 0) (text_of program number f r vars)) old new
text_emitted program number f r vars objects result old one two new served body ended =
    (let stmts : Stretch = in_order program f.close (map (lowered (record { program = program; function = number; vars = vars })) f.body) in
    (let last : Piece (Unit {0}) = does program f.close (at_end program number f.result) in
    emitted.behind {A = ℕ} {B = Unit {0}} (λ (n : ℕ). at_site (outside_loops n) stmts >>> λ done. last) result
    (with_objects 0 (serves program r f.close 0 f.params vars)) objects old one new served
    (emitted.behind {A = Unit {0}} {B = Unit {0}} (λ done. last) result (at_site (outside_loops objects) stmts) tt one two new body ended)))

-- A FUNCTION WAS EMITTED
pub function_emitted : (program : Program) (number : ℕ) (f : TFunc) (r : ℕ) (vars : List TVariable) (objects : ℕ) (result : Result (Unit {0}) NoMemory) (old one two new : List Instr)
    → vars ≡ f.variables → r ≡ length vars
    → Emitted objects (with_objects 0 (serves program r f.close 0 f.params vars)) old one
    → Emitted {A = Unit {0}} tt (at_site (outside_loops objects) (in_order program f.close (map (lowered (record { program = program; function = number; vars = vars })) f.body))) one two
    → Emits {A = Unit {0}} result (does program f.close (at_end program number f.result)) two new
    → Emits {A = Unit {0}} result (at_site (outside_loops 0) (function program number f)) old new
unfolding function
function_emitted program number f r vars objects result old one two new vars_are r_is served body ended =
    subst (λ (vs : List TVariable). Emits {A = Unit {0}} result (at_site (outside_loops 0) (text_of program number f (length vs) vs)) old new) vars_are
    (subst (λ (n : ℕ). Emits {A = Unit {0}} result (at_site (outside_loops 0) (text_of program number f n vars)) old new) r_is
    (text_emitted program number f r vars objects result old one two new served body ended))
