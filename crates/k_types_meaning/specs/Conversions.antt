-- Believed with the theorem on the top call.
-- Conversions of typed expressions (C17 6.3): each is a node of its own, but that of a number, which is the number in the new kind.
use Rattle.std.specs.Prelude.{ℕ, Bool, ◌&&◌, ◌||◌, not, if◌then◌else◌, ℤ, List, Option, Some, None}
use Rattle.k_num.specs.declared.numbers.Kind.{Kind}
use Rattle.k_num.specs.declared.place.Place.{Place}
use Rattle.k_num.specs.Kind.{converted}
use Rattle.k_types_meaning.specs.declared.types.CType.{CType}
use Rattle.k_types_meaning.specs.declared.types.CType.TheVariants as ctype
use Rattle.k_types_meaning.specs.declared.types.Element.{Element}
use Rattle.k_types_meaning.specs.declared.types.TType.{TType}
use Rattle.k_types_meaning.specs.declared.types.TType.TheVariants as ttype
use Rattle.k_types_meaning.specs.declared.tree.expression.Node.{Node}
use Rattle.k_types_meaning.specs.declared.tree.expression.TExpr.{TExpr, out-TExpr}
use Rattle.k_types_meaning.specs.declared.tree.expression.TExpr.TheOpen.{TExpr-F}
use Rattle.k_types_meaning.specs.declared.tree.expression.TExpr.TheVariants as typed
use Rattle.k_types_meaning.specs.Types.{same_kind, same_element, number_kind, pointed}

-- A judged expression: its typed tree, whose nodes have no numbers yet; its type; where it is a place of a number or a
-- pointer variable, whether that is const; and the variables to which `&` is applied in it.
pub record Typed : Type 0 where
  pub tree : TExpr
  pub of : CType
  pub place : Option Bool
  pub taken : List ℕ

-- a node that has no number yet
abbrev pub at : Place → TType → Node
at place of = record { number = 0; place = place; of = of }

-- the node of a typed expression
abbrev pub node_step : TExpr-F TExpr → Node
node_step (TExpr-F.Number node value) = node
node_step (TExpr-F.Str node string bytes) = node
node_step (TExpr-F.Object node object) = node
node_step (TExpr-F.Variable node variable) = node
node_step (TExpr-F.Index node base index) = node
node_step (TExpr-F.Call node function args) = node
node_step (TExpr-F.Getchar node) = node
node_step (TExpr-F.Putchar node of) = node
node_step (TExpr-F.Puts node of) = node
node_step (TExpr-F.Printf node format args) = node
node_step (TExpr-F.Post node change of) = node
node_step (TExpr-F.Pre node change of) = node
node_step (TExpr-F.Address node of) = node
node_step (TExpr-F.Deref node of) = node
node_step (TExpr-F.Plus node of) = node
node_step (TExpr-F.Unary node op kind of) = node
node_step (TExpr-F.Convert node of) = node
node_step (TExpr-F.Cast node of) = node
node_step (TExpr-F.Binary node op kind left right) = node
node_step (TExpr-F.Both node left right) = node
node_step (TExpr-F.Either node left right) = node
node_step (TExpr-F.Forward node left right) = node
node_step (TExpr-F.Onto node left right) = node
node_step (TExpr-F.Back node left right) = node
node_step (TExpr-F.PtrCompare node op left right) = node
node_step (TExpr-F.PtrDistance node left right) = node
node_step (TExpr-F.Cond node test first second) = node
node_step (TExpr-F.Assign node left right) = node
node_step (TExpr-F.AssignBy node change left right) = node
node_step (TExpr-F.Comma node left right) = node

-- the node of a typed expression
abbrev pub node_of : TExpr → Node
node_of e = node_step (out-TExpr e)

-- the value of a number, which a conversion changes at once
abbrev pub number_step : TExpr-F TExpr → Option ℤ
number_step (TExpr-F.Number node value) = Some value
number_step _ = None

-- the value of a number
abbrev pub number_in : TExpr → Option ℤ
number_in e = number_step (out-TExpr e)

-- C17 6.3.1.3: an expression that is no number is converted by a node, a number at once
abbrev pub conversion : Kind → TExpr → Option ℤ → TExpr
conversion to e None = typed.Convert (at (node_of e).place (ttype.Number to)) e
conversion to e (Some value) = typed.Number (at (node_of e).place (ttype.Number to)) (converted to value)

-- C17 6.3.1.3: an expression of one kind, in another: nothing is done where the two are one
unfoldable pub in_kind : Kind → Kind → TExpr → TExpr
in_kind from to e = if same_kind from to then e else conversion to e (number_in e)

-- the first where there is no number, the second where there is one
abbrev pub unless_number : TExpr → TExpr → Option ℤ → TExpr
unless_number e other None = e
unless_number e other (Some value) = other

-- an expression of one kind in another where it is a number, and as it is where not
unfoldable pub number_in_kind : Kind → Kind → TExpr → TExpr
number_in_kind from to e = unless_number e (in_kind from to e) (number_in e)

-- a value is passed to a number of a kind: it has to be a number
abbrev pub passed_number : Kind → TExpr → Option Kind → Option TExpr
passed_number to e None = None
passed_number to e (Some from) = Some (in_kind from to e)

-- C17 6.5.16.1p1: an element may be pointed to by a pointer to this one: they are equal, and no const is lost
abbrev pub keeps_const : Element → Element → Bool
keeps_const to from = same_element to from && (to.fixed || not from.fixed)

-- a value is passed to a pointer: it has to be a pointer to an equal element without loss of const
abbrev pub passed_pointer : Element → TExpr → Option Element → Option TExpr
passed_pointer to e None = None
passed_pointer to e (Some from) = if keeps_const to from then Some e else None

-- C17 6.5.16.1p1, 6.5.2.2p2, 6.7.9p11, 6.8.6.4p3: a value that is assigned, passed, returned or given at the start, to a
-- number or a pointer; an array counts as the pointer that it gives
unfoldable pub passed : CType → Typed → Option TExpr
passed ctype.Void v = None
passed (ctype.Number kind) v = passed_number kind v.tree (number_kind v.of)
passed (ctype.Pointer e) v = passed_pointer e v.tree (pointed v.of)
passed (ctype.Array count e) v = passed_pointer e v.tree (pointed v.of)
