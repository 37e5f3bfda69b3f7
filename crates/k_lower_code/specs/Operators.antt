-- Believed with a public law.
-- The rows of operators: conversions, arithmetic, comparisons, `&&`, `||`, `?:` and the comma.
use Rattle.std.specs.Prelude.{ℕ, ◌+◌, Bool, true, false, ◌∷◌, ◌++◌, Option, Some, None}
use Rattle.k_num.specs.declared.place.Place.{Place}
use Rattle.k_num.specs.declared.numbers.Kind.{Kind}
use Rattle.k_num.specs.declared.numbers.Bin.{Bin}
use Rattle.k_num.specs.declared.numbers.Bin.TheVariants.{Ne}
use Rattle.k_num.specs.declared.numbers.Un.{Un}
use Rattle.k_optab.specs.declared.class.Class.TheVariants as class
use Rattle.k_types_meaning.specs.declared.types.TType.{TType}
use Rattle.k_types_meaning.specs.declared.types.TType.TheVariants as ttype
use Rattle.k_types_meaning.specs.declared.tree.expression.Node.{Node}
use Rattle.k_code.specs.declared.instruction.Arg.{Arg}
use Rattle.k_code.specs.declared.instruction.Arg.TheVariants.{Reg}
use Rattle.k_code.specs.declared.instruction.Do.TheVariants as act
use Rattle.k_evaluation.specs.Meanings.{kind_of, scale_of}
use Rattle.k_evaluation.specs.Operators.{kind_or_int}
use Rattle.k_evaluation.specs.States.{Program}
use Rattle.k_lower_code.specs.Lowered.{Lowered, only_value, on_one, on_two}
use Rattle.k_lower_code.specs.Pieces.{Piece, only, ◌>>>◌, instruction, does, sets, nothing, settled}

-- `+e`
unfoldable pub plus : Node → Lowered → Lowered
plus node e = only_value node e.value

-- the operation of `- ~ !`
abbrev pub unary_on : Program → Place → Un → Kind → ℕ → Arg → Piece Arg
unary_on program place op kind r a = sets program place (act.Unary op kind a) r

-- `- ~ !`
unfoldable pub unary : Program → Node → Un → Kind → Lowered → Lowered
unary program node op kind e = on_one node e (unary_on program node.place op kind)

-- a conversion to the kind of a type, where that is one of numbers
abbrev pub converts : Program → Place → Option Kind → ℕ → Arg → Piece Arg
converts program place None r a = only a
converts program place (Some kind) r a = sets program place (act.Convert kind a) r

-- a conversion that the source does not write
unfoldable pub convert : Program → Node → Lowered → Lowered
convert program node e = on_one node e (converts program node.place (kind_of node.of))

-- a cast, by the type that it names
abbrev pub cast_to : Program → Place → TType → Lowered → Bool → ℕ → Piece Arg
cast_to program place ttype.Void e used r = e.value false r >>> λ a. only nothing
cast_to program place (ttype.Number kind) e used r = e.value true r >>> converts program place (Some kind) r
cast_to program place (ttype.Pointer target) e used r = e.value used r

-- a cast
unfoldable pub cast : Program → Node → Lowered → Lowered
cast program node e = only_value node (cast_to program node.place node.of e)

-- the operation of a binary operator on numbers
abbrev pub binary_on : Program → Place → Bin → Kind → ℕ → Arg → Arg → Piece Arg
binary_on program place op kind r a b = sets program place (act.Binary op kind a b) r

-- a binary operator on numbers
unfoldable pub binary : Program → Node → Bin → Kind → Lowered → Lowered → Lowered
binary program node op kind left right = on_two node left right (binary_on program node.place op kind)

-- the operation of a comparison of pointers
abbrev pub compare_on : Program → Place → Bin → ℕ → Arg → Arg → Piece Arg
compare_on program place op r a b = sets program place (act.PtrCompare op a b) r

-- a comparison of pointers
unfoldable pub compare : Program → Node → Bin → Lowered → Lowered → Lowered
compare program node op left right = on_two node left right (compare_on program node.place op)

-- the operation of a difference of pointers
abbrev pub distance_on : Program → Place → ℕ → ℕ → Arg → Arg → Piece Arg
distance_on program place scale r a b = sets program place (act.PtrDistance scale a b) r

-- a difference of pointers
unfoldable pub distance : Program → Node → Lowered → Lowered → Lowered
distance program node left right = on_two node left right (distance_on program node.place (scale_of left.node.of))

-- A TEST, whose value goes to a register, if it is used, and a piece that is jumped over where its number is 0, or where it is another one
abbrev pub tests_before : Program → Place → Bool → Option ℕ → Arg → Piece (Unit {0}) → Piece (Unit {0})
tests_before program place false to a piece = record {
  size = 1 + piece.size;
  code = λ first. instruction program place (act.Test a (first + 1) (first + 1 + piece.size) to class.Test) ∷ piece.code (first + 1);
  gives = tt;
}
tests_before program place true to a piece = record {
  size = 1 + piece.size;
  code = λ first. instruction program place (act.Test a (first + 1 + piece.size) (first + 1) to class.Test) ∷ piece.code (first + 1);
  gives = tt;
}

-- the right operand of `&&` and `||`, and whether it is other than 0, as an operation
abbrev pub truth_of : Program → Node → Lowered → ℕ → Piece (Unit {0})
truth_of program node right r =
    right.value true (r + 1) >>> λ b. does program node.place (act.Binary Ne (kind_or_int (kind_of right.node.of)) b nothing r)

-- `&&`, which 0 decides, and `||`, which another number decides
abbrev pub logical : Program → Node → Bool → Lowered → Lowered → Lowered
logical program node decides left right = only_value node (λ used r.
    settled program node.place (left.value true r >>> λ a.
    tests_before program node.place decides (Some r) a (truth_of program node right r) >>> λ done. only (Reg r false)))

-- `left && right`
unfoldable pub both : Program → Node → Lowered → Lowered → Lowered
both program node left right = logical program node false left right

-- `left || right`
unfoldable pub either : Program → Node → Lowered → Lowered → Lowered
either program node left right = logical program node true left right

-- the move of a value
abbrev pub moves : Program → Place → ℕ → Arg → Piece Arg
moves program place r a = sets program place (act.Move a) r

-- an arm of `?:`, by the type of the whole: its value is moved, but that of void is unused
abbrev pub arm : Program → Place → TType → ℕ → Lowered → Piece Arg
arm program place ttype.Void r e = e.value false r >>> λ a. only nothing
arm program place (ttype.Number kind) r e = e.value true r >>> moves program place r
arm program place (ttype.Pointer target) r e = e.value true r >>> moves program place r

-- A TEST AND TWO ARMS: the first, a jump over the second, and the second
abbrev pub chooses : {A : Type 0} → Program → Place → Arg → Piece A → Piece A → Piece A
chooses program place a one other = record {
  size = 1 + one.size + 1 + other.size;
  code = λ first.
      instruction program place (act.Test a (first + 1) (first + 1 + one.size + 1) None class.Test) ∷ one.code (first + 1)
      ++ (instruction program place (act.Jump (first + 1 + one.size + 1 + other.size)) ∷ other.code (first + 1 + one.size + 1));
  gives = other.gives;
}

-- `?:`
unfoldable pub cond : Program → Node → Lowered → Lowered → Lowered → Lowered
cond program node test one other = only_value node (λ used r.
    settled program node.place (test.value true r >>> λ a.
    chooses program node.place a (arm program node.place node.of r one) (arm program node.place node.of r other)))

-- `left, right`
unfoldable pub comma : Node → Lowered → Lowered → Lowered
comma node left right = only_value node (λ used r. left.value false r >>> λ a. right.value used r)
