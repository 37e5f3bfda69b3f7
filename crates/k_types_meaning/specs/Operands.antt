-- Believed with the theorem on the top call.
-- The rules of expressions whose operands are judged: names, constants, places, operators with one operand, casts and sizeof
-- (C17 6.5.1 to 6.5.4). Each is a function of the finished operands.
use Rattle.std.specs.Prelude.{ℕ, Bool, true, false, if◌then◌else◌, ℤ, pos, List, [], ◌∷◌, ◌++◌, ◌+◌, length, Option, Some, None}
use Rattle.k_num.specs.declared.numbers.Kind.{Kind}
use Rattle.k_num.specs.declared.numbers.Kind.TheVariants.{I8, I32, U64}
use Rattle.k_num.specs.declared.numbers.Un.{Un}
use Rattle.k_num.specs.declared.numbers.Un.TheVariants as un
use Rattle.k_num.specs.declared.numbers.Bin.{Bin}
use Rattle.k_num.specs.declared.numbers.Bin.TheVariants.{Add, Sub}
use Rattle.k_num.specs.declared.place.Place.{Place}
use Rattle.k_num.specs.Kind.{promoted, common_kind}
use Rattle.k_tree.specs.declared.tokens.mark.Mark.{Mark}
use Rattle.k_tree.specs.declared.tokens.mark.Mark.TheVariants as mark
use Rattle.k_tree.specs.declared.tokens.word.Word.{Word}
use Rattle.k_types_meaning.specs.declared.fault.TypeFault.TheVariants as fault
use Rattle.k_types_meaning.specs.declared.types.CType.{CType}
use Rattle.k_types_meaning.specs.declared.types.CType.TheVariants as ctype
use Rattle.k_types_meaning.specs.declared.types.Element.{Element}
use Rattle.k_types_meaning.specs.declared.types.TType.{TType}
use Rattle.k_types_meaning.specs.declared.types.TType.TheVariants as ttype
use Rattle.k_types_meaning.specs.declared.tree.expression.Change.{Change}
use Rattle.k_types_meaning.specs.declared.tree.expression.Change.TheVariants as change
use Rattle.k_types_meaning.specs.declared.tree.expression.TExpr.{TExpr, out-TExpr}
use Rattle.k_types_meaning.specs.declared.tree.expression.TExpr.TheOpen.{TExpr-F}
use Rattle.k_types_meaning.specs.declared.tree.expression.TExpr.TheVariants as typed
use Rattle.k_types_meaning.specs.Conversions.{Typed, at, in_kind}
use Rattle.k_types_meaning.specs.Made.{Made, Fine, refused}
use Rattle.k_types_meaning.specs.declared.names.Meaning.{Meaning}
use Rattle.k_types_meaning.specs.declared.names.Meaning.TheVariants as meaning
use Rattle.k_types_meaning.specs.Names.{Names, meaning_of}
use Rattle.k_types_meaning.specs.Specifiers.{type_named}
use Rattle.k_types_meaning.specs.Types.{decayed, equal_element, number_kind, pointed, as_type, size_of, told, pointer_to}

-- a value that is no place
abbrev pub value : CType → TExpr → List ℕ → Typed
value of tree taken = record { tree = tree; of = of; place = None; taken = taken }

-- a number of a kind that is no place
abbrev pub number : Kind → TExpr → List ℕ → Typed
number kind tree taken = value (ctype.Number kind) tree taken

-- whether an object of a type is a place, const or not: a number and a pointer are, an array is none
abbrev pub place_of : CType → Bool → Option Bool
place_of ctype.Void fixed = None
place_of (ctype.Number kind) fixed = Some fixed
place_of (ctype.Pointer e) fixed = Some fixed
place_of (ctype.Array count e) fixed = None

-- C17 6.5.1p2: a name has to be declared, and a function's name stands only where it is called
abbrev pub named : Place → List ℕ → Option Meaning → Made Typed
named p x None = refused (fault.Unknown x p)
named p x (Some (meaning.Variable n of fixed)) =
    Fine (record { tree = typed.Variable (at p (told of)) n; of = of; place = place_of of fixed; taken = [] })
named p x (Some (meaning.Object n of fixed)) =
    Fine (record { tree = typed.Object (at p (told of)) n; of = of; place = place_of of fixed; taken = [] })
named p x (Some (meaning.Function signature)) = refused (fault.Kinds p)
named p x (Some (meaning.Library function)) = refused (fault.Kinds p)

-- C17 6.5.1p2: a name
unfoldable pub name_rule : Names → Place → List ℕ → Made Typed
name_rule names p x = named p x (meaning_of names x)

-- C17 6.4.4.1p5: an integer constant
unfoldable pub number_rule : Place → Kind → ℕ → Made Typed
number_rule p kind n = Fine (number kind (typed.Number (at p (ttype.Number kind)) (pos n)) [])

-- C17 6.4.4.4p10: a character constant is an int
unfoldable pub char_rule : Place → ℤ → Made Typed
char_rule p z = Fine (number I32 (typed.Number (at p (ttype.Number I32)) z) [])

-- C17 6.4.5p6: a string is an array of char with a 0 behind its bytes
abbrev pub string_type : List ℕ → CType
string_type bytes = ctype.Array (length bytes + 1) (record { kind = I8; dims = []; fixed = false })

-- C17 6.5.1p4: a string; it gets its number later
unfoldable pub string_rule : Place → List ℕ → Made Typed
string_rule p bytes = Fine (value (string_type bytes) (typed.Str (at p (told (string_type bytes))) 0 bytes) [])

-- the element that a pointer points to, as an expression with this tree: a number is a place, const as the element is
abbrev pub element_at : Element → (TType → TExpr) → List ℕ → Typed
element_at e tree taken = record {
  tree = tree (told (as_type e.kind e.dims e.fixed));
  of = as_type e.kind e.dims e.fixed;
  place = place_of (as_type e.kind e.dims e.fixed) e.fixed;
  taken = taken;
}

-- an index, by what its base points to and by the kind of its number
abbrev pub indexed : Place → Typed → Typed → Option Element → Option Kind → Made Typed
indexed p base index None kind = refused (fault.Kinds p)
indexed p base index (Some e) None = refused (fault.Kinds p)
indexed p base index (Some e) (Some kind) =
    Fine (element_at e (λ of. typed.Index (at p of) base.tree index.tree) (base.taken ++ index.taken))

-- C17 6.5.2.1p1: `[ ]` has a pointer or an array before it and a number in it
unfoldable pub index_rule : Place → Typed → Typed → Made Typed
index_rule p base index = indexed p base index (pointed base.of) (number_kind index.of)

-- what `*` gives, by what its operand points to
abbrev pub pointed_to : Place → Typed → Option Element → Made Typed
pointed_to p e None = refused (fault.Kinds p)
pointed_to p e (Some element) = Fine (element_at element (λ of. typed.Deref (at p of) e.tree) e.taken)

-- C17 6.5.3.2p2: `*` takes a pointer or an array
abbrev pub deref_rule : Place → Typed → Made Typed
deref_rule p e = pointed_to p e (pointed e.of)

-- the variable that an expression is, if it is one
abbrev pub variable_step : TExpr-F TExpr → List ℕ
variable_step (TExpr-F.Variable node n) = n ∷ []
variable_step _ = []

-- the address of a number, which is const or not, by whether it is a place
abbrev pub addressed : Place → Typed → Option Kind → Option Bool → Made Typed
addressed p e None fixed = refused (fault.NotPlace p)
addressed p e (Some kind) None = refused (fault.NotPlace p)
addressed p e (Some kind) (Some fixed) =
    Fine (value (ctype.Pointer (record { kind = kind; dims = []; fixed = fixed }))
    (typed.Address (at p (pointer_to (record { kind = kind; dims = []; fixed = fixed }))) e.tree)
    (e.taken ++ variable_step (out-TExpr e.tree)))

-- C17 6.5.3.2p1: `&` takes a place of a number; the variable that it is applied to has an address from then on
abbrev pub address_rule : Place → Typed → Made Typed
address_rule p e = addressed p e (number_kind e.of) e.place

-- C17 6.5.3.3p1: `+ - ~ !` take numbers; this is what one of them makes of a number of a kind
abbrev pub of_number : Place → Typed → Option Kind → (Kind → Typed) → Made Typed
of_number p e None made = refused (fault.Kinds p)
of_number p e (Some kind) made = Fine (made kind)

-- C17 6.5.3.3p2: `+` of a number of a kind: the promoted number
abbrev pub plus_of : Place → Typed → Kind → Typed
plus_of p e kind =
    number (promoted kind) (typed.Plus (at p (ttype.Number (promoted kind))) (in_kind kind (promoted kind) e.tree)) e.taken

-- C17 6.5.3.3p3 to p5: the kind of `- ~ !` of a number of a promoted kind: `!` gives an int
abbrev pub unary_kind : Un → Kind → Kind
unary_kind un.Neg kind = kind
unary_kind un.Complement kind = kind
unary_kind un.Not kind = I32

-- C17 6.5.3.3p3 to p5: `- ~ !` of a number of a kind, which is promoted
abbrev pub unary_of : Place → Un → Typed → Kind → Typed
unary_of p op e kind =
    number (unary_kind op (promoted kind))
    (typed.Unary (at p (ttype.Number (unary_kind op (promoted kind)))) op (promoted kind) (in_kind kind (promoted kind) e.tree))
    e.taken

-- C17 6.5.3: a unary operator; another mark begins no unary expression
unfoldable pub unary_rule : Place → Mark → Typed → Made Typed
unary_rule p mark.Ampersand e = address_rule p e
unary_rule p mark.Star e = deref_rule p e
unary_rule p mark.Plus e = of_number p e (number_kind e.of) (plus_of p e)
unary_rule p mark.Minus e = of_number p e (number_kind e.of) (unary_of p un.Neg e)
unary_rule p mark.Tilde e = of_number p e (number_kind e.of) (unary_of p un.Complement e)
unary_rule p mark.Exclaim e = of_number p e (number_kind e.of) (unary_of p un.Not e)
unary_rule p _ e = refused (fault.Kinds p)

-- C17 6.5.16p2: a write is to a place, which is not const; else that fault
abbrev pub written : Place → Option Bool → Typed → Made Typed
written p None v = refused (fault.NotPlace p)
written p (Some true) v = refused (fault.ConstWrite p)
written p (Some false) v = Fine v

-- the operator of `++` and of `--`
abbrev pub step_operator : Mark → Bin
step_operator mark.MinusMinus = Sub
step_operator _ = Add

-- `++` moves a pointer forward, `--` back
abbrev pub step_move : Mark → Change
step_move mark.MinusMinus = change.Back
step_move _ = change.Forward

-- what `++` and `--` do to a number or a pointer: to a number they are `op= 1`
abbrev pub step_change : Mark → CType → Option Change
step_change op ctype.Void = None
step_change op (ctype.Number kind) = Some (change.Number (step_operator op) (common_kind kind I32))
step_change op (ctype.Pointer e) = Some (step_move op)
step_change op (ctype.Array count e) = Some (step_move op)

-- `++` and `--`, by what they do, with the tree that they make
abbrev pub stepped : Place → Typed → (TType → Change → TExpr) → Option Change → Made Typed
stepped p e tree None = refused (fault.Kinds p)
stepped p e tree (Some change) = written p e.place (value (decayed e.of) (tree (told e.of) change) e.taken)

-- C17 6.5.2.4: `++` and `--` behind their operand
unfoldable pub post_rule : Place → Mark → Typed → Made Typed
post_rule p op e = stepped p e (λ of change. typed.Post (at p of) change e.tree) (step_change op e.of)

-- C17 6.5.3.1: `++` and `--` before their operand
unfoldable pub pre_rule : Place → Mark → Typed → Made Typed
pre_rule p op e = stepped p e (λ of change. typed.Pre (at p of) change e.tree) (step_change op e.of)

-- C17 6.5.3.4: the size of a type, as a number of the kind of size_t; `void` has none
abbrev pub size_number : Place → List ℕ → CType → Made Typed
size_number p taken ctype.Void = refused (fault.Kinds p)
size_number p taken of = Fine (number U64 (typed.Number (at p (ttype.Number U64)) (pos (size_of of))) taken)

-- C17 6.5.3.4p2: `sizeof` of an expression, which is not evaluated; `&` in it is applied all the same
unfoldable pub sizeof_rule : Place → Typed → Made Typed
sizeof_rule p e = size_number p e.taken e.of

-- the size of a type that may be none
abbrev pub size_named : Place → Option CType → Made Typed
size_named p None = refused (fault.Kinds p)
size_named p (Some of) = size_number p [] of

-- C17 6.5.3.4: `sizeof` of a type
unfoldable pub sizeof_type_rule : Place → List Word → List Bool → Made Typed
sizeof_type_rule p specs stars = size_named p (type_named specs stars)

-- C17 6.5.4: a cast to a kind, of a number
abbrev pub cast_number : Place → Kind → Typed → Option Kind → Made Typed
cast_number p to e None = refused (fault.Kinds p)
cast_number p to e (Some from) = Fine (number to (typed.Cast (at p (ttype.Number to)) e.tree) e.taken)

-- C17 6.5.4: a cast to a pointer, of a pointer to the same
abbrev pub cast_pointer : Place → Element → Typed → Option Element → Made Typed
cast_pointer p to e None = refused (fault.Kinds p)
cast_pointer p to e (Some from) =
    if equal_element to from then Fine (value (ctype.Pointer to) (typed.Cast (at p (pointer_to to)) e.tree) e.taken)
    else refused (fault.Kinds p)

-- a cast to a type that may be none
abbrev pub cast_to : Place → Option CType → Typed → Made Typed
cast_to p None e = refused (fault.Kinds p)
cast_to p (Some ctype.Void) e = Fine (value ctype.Void (typed.Cast (at p ttype.Void) e.tree) e.taken)
cast_to p (Some (ctype.Number to)) e = cast_number p to e (number_kind e.of)
cast_to p (Some (ctype.Pointer to)) e = cast_pointer p to e (pointed e.of)
cast_to p (Some (ctype.Array count to)) e = refused (fault.Kinds p)

-- C17 6.5.4: a cast goes between kinds, to void, or to the same pointer
unfoldable pub cast_rule : Place → List Word → List Bool → Typed → Made Typed
cast_rule p specs stars e = cast_to p (type_named specs stars) e
