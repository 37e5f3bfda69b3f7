-- Each function is declared with the parameters and the result that it is defined with.
use Rattle.std.proofs.Common.{◌≡◌, ℕ, suc, ◌+◌, Bool, true, false, ◌||◌, if◌then◌else◌, List, [], ◌∷◌, length, Option, Some, None, refl, sym, ◌∙◌, ap, subst, arith, length-append}
use Rattle.std.specs.Prelude.{is_some}
use Rattle.std.specs.Cmp.Lexicographic.{same_text}
use Rattle.std.specs.Str.{bytes_eq}
use Rattle.std.proofs.lemmas.Bool.{and_parts}
use Rattle.std.proofs.lemmas.List.{length-map}
use Rattle.k_num.specs.declared.place.Place.{Place}
use Rattle.k_tree.specs.declared.tree.declaration.Declarator.{Declarator}
use Rattle.k_tree.specs.declared.tree.declaration.Param.{Param}
use Rattle.k_tree.specs.declared.tree.statement.Stmt.{Stmt}
use Rattle.k_tree.specs.declared.tree.unit.Head.{Head}
use Rattle.k_tree.specs.declared.tree.unit.Item.{Item}
use Rattle.k_tree.specs.declared.tree.unit.Item.TheVariants as item
use Rattle.k_types_meaning.specs.declared.names.Meaning.{Meaning}
use Rattle.k_types_meaning.specs.declared.names.Meaning.TheVariants as meaning
use Rattle.k_types_meaning.specs.declared.names.Signature.{Signature}
use Rattle.k_types_meaning.specs.declared.types.CType.{CType}
use Rattle.k_types_meaning.specs.declared.types.CType.TheVariants as ctype
use Rattle.k_types_meaning.specs.declared.tree.unit.TFunc.{TFunc}
use Rattle.k_types_meaning.specs.Declarations.{Object, Saying, saying, entered, is_twice, type_or_int}
use Rattle.k_types_meaning.specs.Functions.{same_type, same_types, same_signature, params_of, params_in_order, head_params, within_function, behind_param, param_judged, variable_types, signature, result_type, meaning_here, names_behind_head}
use Rattle.k_types_meaning.specs.Names.{Names, meaning_in, or_meaning, library}
use Rattle.k_types_meaning.specs.Statements.{Known, Variable}
use Rattle.k_types_meaning.specs.Types.{told}
use Rattle.k_types_meaning.specs.Units.{FileKnown, Parts, is_name}
use Rattle.k_types_meaning.specs.ElaboratedDeclarators.{ElabObject, object}
use Rattle.k_types_meaning.specs.ElaboratedFunctions.{ElabPrototype, ElabFunction, MayDeclare, first_declared, declared_alike, prototype, definition}
use Rattle.k_types_meaning.specs.ElaboratedUnits.{ElabObjects, ElabItem, no_objects, more_objects, function, prototype_alone, objects, with_object}
use Rattle.k_lower_fits.specs.Fits.{Callee, has_values}

-- WHAT CALLS KNOW of a declared function
abbrev pub shape : Signature → Callee
shape s = record { params = length s.params; gives = has_values (told s.result) }

-- of a head
abbrev pub shape_of : Head → Callee
shape_of head = record { params = length (params_of head.params); gives = has_values (told (type_or_int (result_type head))) }

ordered_length : (defines : Bool) (known : Known) (ps : List Param) → length (params_in_order defines known ps).after.variables ≡ length known.variables + length ps
unfolding param_judged
ordered_length defines known [] = omega arith
ordered_length defines known (p ∷ ps) =
    let rest : length (params_in_order defines (param_judged defines known p).after ps).after.variables ≡ length (param_judged defines known p).after.variables + length ps =
    ordered_length defines (param_judged defines known p).after ps in
    let v : List Variable = (behind_param known p).variables in
    let one : length (behind_param known p).variables ≡ length known.variables + 1 = length-append known.variables _ in
    omega (arith, rest, one)

pub signature_shape : (defined : List (List ℕ)) (names : Names) (head : Head) → shape (signature defined names head) ≡ shape_of head
signature_shape defined names head = λ i. record { params = many i; gives = has_values (told (type_or_int (result_type head))) }
  where
    many : length (signature defined names head).params ≡ length (params_of head.params)
    many =
        let of : length (variable_types (head_params false names head).after.variables) ≡ length (head_params false names head).after.variables =
        length-map (head_params false names head).after.variables (λ (v : Variable). v.of) in
        let count : length (head_params false names head).after.variables ≡ 0 + length (params_of head.params) = ordered_length false (within_function names) (params_of head.params) in
        omega (arith, of, count)

-- equal types have values alike
same_values : (a b : CType) → same_type a b ≡ true → has_values (told a) ≡ has_values (told b)
same_values ctype.Void ctype.Void is = refl
same_values (ctype.Number j) (ctype.Number k) is = refl
same_values (ctype.Pointer d) (ctype.Pointer e) is = refl
same_values (ctype.Array m d) (ctype.Array n e) is = refl
same_values _ _ is = absurd cc

same_lengths : (as_ bs : List CType) → same_types as_ bs ≡ true → length as_ ≡ length bs
same_lengths [] [] is = refl
same_lengths [] (b ∷ bs) is = absurd cc
same_lengths (a ∷ as_) [] is = absurd cc
same_lengths (a ∷ as_) (b ∷ bs) is = ap suc (same_lengths as_ bs (and_parts (same_type a b) (same_types as_ bs) is).1)

same_shapes : (f g : Signature) → same_signature f g ≡ true → shape f ≡ shape g
same_shapes f g is =
    let parts = and_parts (same_type f.result g.result) (same_types f.params g.params) is in
    λ i. record { params = same_lengths f.params g.params parts.1 i; gives = same_values f.result g.result parts.0 i }

-- A NAME, by the scopes that are known and by the items that follow: the function that it is, or that it will be declared as first
abbrev pub first_head : List Item → List ℕ → Option Callee
first_head [] x = None
first_head (item.Function p head body close ∷ items) x = if bytes_eq head.name x then Some (shape_of head) else first_head items x
first_head (item.Prototype p head ∷ items) x = if bytes_eq head.name x then Some (shape_of head) else first_head items x
first_head (item.Objects p specs list ∷ items) x = first_head items x

abbrev pub or_first : Option Meaning → Option Callee → Option Callee
or_first None rest = rest
or_first (Some (meaning.Variable n of fixed)) rest = rest
or_first (Some (meaning.Object n of fixed)) rest = rest
or_first (Some (meaning.Function s)) rest = Some (shape s)
or_first (Some (meaning.Library f)) rest = rest

abbrev pub settled : Names → List Item → List ℕ → Option Callee
settled names items x = or_first (meaning_here names x) (first_head items x)

-- what a name means where one more is there
pub entered_here : (y : List ℕ) (m : Meaning) (names : Names) (x : List ℕ) → meaning_here (entered y m names) x ≡ (if bytes_eq y x then Some m else meaning_here names x)
entered_here y m [] x = by (bytes_eq y x)
  where
    by : (b : Bool) → or_meaning (if b then Some m else None) (meaning_in library x) ≡ (if b then Some m else meaning_in library x)
    by true = refl
    by false = refl
entered_here y m (scope ∷ names) x = by (bytes_eq y x)
  where
    by : (b : Bool) → or_meaning (if b then Some m else meaning_in scope x) (meaning_in library x) ≡ (if b then Some m else or_meaning (meaning_in scope x) (meaning_in library x))
    by true = refl
    by false = refl

-- a head that may be declared: its name is settled as before
head_settled : (defined : List (List ℕ)) (again : Bool) (names : Names) (head : Head) (o : Option Meaning) (rest : Option Callee) → MayDeclare (signature defined names head) again o
    → or_first o (Some (shape_of head)) ≡ Some (shape (signature defined names head))
head_settled defined again names head o rest may = by (signature defined names head) again o (signature_shape defined names head) may
  where
    by : (f : Signature) (b : Bool) (m : Option Meaning) → shape f ≡ shape_of head → MayDeclare f b m → or_first m (Some (shape_of head)) ≡ Some (shape f)
    by _ _ _ is (first_declared f c) = ap (λ (x : Callee). Some x) (sym is)
    by _ _ _ is (declared_alike f g same) = ap (λ (x : Callee). Some x) (sym (same_shapes f g same))

-- what a name is settled as stays where a head is declared
behind_head : (defined : List (List ℕ)) (again : Bool) (names : Names) (head : Head) (items : List Item) (x : List ℕ) → MayDeclare (signature defined names head) again (meaning_here names head.name)
    → settled (names_behind_head defined names head) items x ≡ or_first (meaning_here names x) (if bytes_eq head.name x then Some (shape_of head) else first_head items x)
behind_head defined again names head items x may =
    ap (λ (o : Option Meaning). or_first o (first_head items x)) (entered_here head.name (meaning.Function (signature defined names head)) names x) ∙ by (bytes_eq head.name x) refl
  where
    by : (b : Bool) → bytes_eq head.name x ≡ b
        → or_first (if b then Some (meaning.Function (signature defined names head)) else meaning_here names x) (first_head items x)
        ≡ or_first (meaning_here names x) (if b then Some (shape_of head) else first_head items x)
    by true is =
        sym (head_settled defined again names head (meaning_here names x) (first_head items x)
        (subst (λ (y : List ℕ). MayDeclare (signature defined names head) again (meaning_here names y)) (same_text head.name x (sym is)) may))
    by false is = refl

-- where a file object is declared: its name was none
no_meaning : (a b : Option Meaning) → (is_some a || is_some b) ≡ false → or_meaning a b ≡ None
no_meaning None None is = refl
no_meaning None (Some m) is = absurd cc
no_meaning (Some m) b is = absurd cc

not_twice : (names : Names) (x : List ℕ) → is_twice names x ≡ false → meaning_here names x ≡ None
not_twice [] x is = by (meaning_in library x) is
  where
    by : (o : Option Meaning) → is_some o ≡ false → o ≡ None
    by None same = refl
    by (Some m) same = absurd cc
not_twice (scope ∷ names) x is = no_meaning (meaning_in scope x) (meaning_in library x) is

behind_object : (names : Names) (y : List ℕ) (n : ℕ) (of : CType) (fixed : Bool) (items : List Item) (x : List ℕ) → is_twice names y ≡ false
    → settled (entered y (meaning.Object n of fixed) names) items x ≡ settled names items x
behind_object names y n of fixed items x twice =
    ap (λ (o : Option Meaning). or_first o (first_head items x)) (entered_here y (meaning.Object n of fixed) names x) ∙ by (bytes_eq y x) refl
  where
    by : (b : Bool) → bytes_eq y x ≡ b → or_first (if b then Some (meaning.Object n of fixed) else meaning_here names x) (first_head items x) ≡ or_first (meaning_here names x) (first_head items x)
    by true is = sym (ap (λ (o : Option Meaning). or_first o (first_head items x)) (not_twice names x (subst (λ (z : List ℕ). is_twice names z ≡ false) (same_text y x (sym is)) twice)))
    by false is = refl

object_new : (file : Bool) (s : Saying) (n : ℕ) (names : Names) (d : Declarator) (o : Object) → ElabObject file s n names d o → is_twice names o.name ≡ false
object_new _ _ _ _ _ _ (object file s n names d sizes of start init twice dims has declared gave is) = twice

objects_settled : (s : Saying) (known : FileKnown) (ds : List Declarator) (parts : Parts) (after : FileKnown) → ElabObjects s known ds parts after → (items : List Item) (x : List ℕ)
    → settled after.names items x ≡ settled known.names items x
objects_settled _ _ _ _ _ (no_objects s known) items x = refl
objects_settled _ _ _ _ _ (more_objects s known d ds o rest after a b) items x =
    objects_settled s (with_object known o) ds rest after b items x
    ∙ behind_object known.names o.name known.objects o.of o.fixed items x (object_new true s known.objects known.names d o a)

pub function_may : (defined : List (List ℕ)) (again : Bool) (names : Names) (p : Place) (head : Head) (body : List Stmt) (close : Place) (f : TFunc)
    → ElabFunction defined again names p head body close f → MayDeclare (signature defined names head) again (meaning_here names head.name)
function_may _ _ _ _ _ _ _ _ (definition defined again names p head body close types inside of trees after params declares stmts) = declares.1

pub prototype_may : (defined : List (List ℕ)) (names : Names) (head : Head) → ElabPrototype defined names head → MayDeclare (signature defined names head) false (meaning_here names head.name)
prototype_may _ _ _ (prototype defined names head types inside of params declares) = declares.1

-- WHAT EACH ITEM LEAVES of what names are settled as
pub item_settled : (defined : List (List ℕ)) (known : FileKnown) (i : Item) (parts : Parts) (after : FileKnown) → ElabItem defined known i parts after → (items : List Item) (x : List ℕ)
    → settled after.names items x ≡ settled known.names (i ∷ items) x
item_settled _ _ _ _ _ (function defined known p head body close f a) items x =
    behind_head defined (is_name known.functions head.name) known.names head items x (function_may defined (is_name known.functions head.name) known.names p head body close f a)
item_settled _ _ _ _ _ (prototype_alone defined known p head a) items x = behind_head defined false known.names head items x (prototype_may defined known.names head a)
item_settled _ _ _ _ _ (objects defined known p specs list parts after a) items x = objects_settled (saying true specs) known list parts after a items x
