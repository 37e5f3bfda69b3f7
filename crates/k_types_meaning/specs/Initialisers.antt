-- Believed with the theorem on the top call.
-- *Typing* of initialisers (C17 6.7.9): braces are nested as the dimensions, and a string begins an array of char.
use Rattle.std.specs.Prelude.{ℕ, zero, suc, ◌+◌, nat_le, Bool, ◌&&◌, ◌||◌, not, if◌then◌else◌, ℤ, pos, List, [], ◌∷◌, ◌++◌, map, length, is_some, Option, Some, None}
use Rattle.std.specs.List.{concat, flat_map}
use Rattle.k_num.specs.declared.numbers.Kind.{Kind}
use Rattle.k_num.specs.declared.numbers.Kind.TheVariants.{I8}
use Rattle.k_num.specs.declared.initial.Initial.{Initial}
use Rattle.k_num.specs.declared.place.Place.{Place}
use Rattle.k_num.specs.Kind.{converted}
use Rattle.k_tree.specs.declared.tree.expression.Expr.{Expr, fold-Expr}
use Rattle.k_tree.specs.declared.tree.expression.Expr.TheOpen.{Expr-F}
use Rattle.k_tree.specs.declared.tree.declaration.Init.{Init, fold-Init, out-Init}
use Rattle.k_tree.specs.declared.tree.declaration.Init.TheOpen.{Init-F}
use Rattle.k_types_meaning.specs.declared.fault.TypeFault.TheVariants as fault
use Rattle.k_types_meaning.specs.declared.types.CType.{CType}
use Rattle.k_types_meaning.specs.declared.types.CType.TheVariants as ctype
use Rattle.k_types_meaning.specs.declared.tree.expression.TExpr.{TExpr}
use Rattle.k_types_meaning.specs.declared.tree.declaration.TInit.{TInit}
use Rattle.k_types_meaning.specs.declared.tree.declaration.TInit.TheVariants as begins
use Rattle.k_types_meaning.specs.declared.tree.declaration.TItem.{TItem}
use Rattle.k_types_meaning.specs.declared.tree.declaration.TItem.TheVariants as item
use Rattle.k_types_meaning.specs.Constants.{constant}
use Rattle.k_types_meaning.specs.Conversions.{Typed, passed}
use Rattle.k_types_meaning.specs.Dimensions.{room}
use Rattle.k_types_meaning.specs.Expressions.{judge}
use Rattle.k_types_meaning.specs.Made.{Made, Fine, both, then_made, all_made, refused}
use Rattle.k_types_meaning.specs.Names.{Names}
use Rattle.k_types_meaning.specs.Types.{elements, same_kind}

-- the bytes of a string, of which the parts are known; parentheses round it are looked through
abbrev pub string_step : Expr-F (Option (List ℕ)) → Option (List ℕ)
string_step (Expr-F.Str p bytes) = Some bytes
string_step (Expr-F.Paren p e) = e
string_step _ = None

-- the bytes of an expression that is a string (C17 6.7.9p14)
abbrev pub string_of : Expr → Option (List ℕ)
string_of = fold-Expr (Option (List ℕ)) string_step

-- C17 6.7.9p14: the bytes of a string that begins an array of so many elements: an array of char that they fit; the 0 behind them
-- may fall away
abbrev pub fitting : Kind → List ℕ → ℕ → Option (List ℕ) → Option (List ℕ)
fitting kind dims count None = None
fitting kind (d ∷ ds) count (Some bytes) = None
fitting kind [] count (Some bytes) = if same_kind kind I8 && nat_le (length bytes) (room count) then Some bytes else None

-- items of braces in text order, and the variables that `&` is applied to in them
pub record Items : Type 0 where
  pub items : List TItem
  pub taken : List ℕ

-- two runs of items
abbrev pub items_of_both : Items → Items → Made Items
items_of_both a b = Fine (record { items = a.items ++ b.items; taken = a.taken ++ b.taken })

-- What an initialiser is: where it stands; what it gives to numbers of a kind in these dimensions, from the element of this number
-- on, at file scope or not; and the variables that `&` is applied to in it, where what it is for is not known.
pub record Giving : Type 0 where
  pub place : Place
  pub within : Bool → Kind → List ℕ → ℕ → Made Items
  pub alone : Made (List ℕ)

-- an item that was passed, which has to be constant at file scope
abbrev pub given_item : Bool → Place → ℕ → List ℕ → Option TExpr → Made Items
given_item file p n taken None = refused (fault.Kinds p)
given_item file p n taken (Some tree) =
    if not file || is_some (constant tree) then Fine (record { items = item.Value p n tree ∷ []; taken = taken })
    else refused (fault.Kinds p)

-- an item that may be a string
abbrev pub string_item : Place → ℕ → List ℕ → Option (List ℕ) → Made Items
string_item p n taken None = refused (fault.Kinds p)
string_item p n taken (Some bytes) = Fine (record { items = item.Bytes n bytes ∷ []; taken = taken })

-- an expression in braces, by the dimensions that are left: it is for a number, or it is a string for an array of char
abbrev pub one_item : Bool → Place → Kind → List ℕ → ℕ → Option (List ℕ) → Typed → Made Items
one_item file p kind [] n text e = given_item file p n e.taken (passed (ctype.Number kind) e)
one_item file p kind (d ∷ ds) n text e = string_item p n e.taken (fitting kind ds d text)

-- it is a fault
abbrev pub excess : {A : Type 0} → Place → Made A
excess p = refused (fault.Kinds p)

-- C17 6.7.9p2: items of braces for so many elements, each of which has these dimensions; one that is too many is a fault
abbrev pub items_within : Bool → Kind → List ℕ → ℕ → ℕ → List Giving → Made Items
items_within file kind dims count n [] = Fine (record { items = []; taken = [] })
items_within file kind dims zero n (g ∷ gs) =
    both (then_made g.alone (λ taken. excess g.place)) (items_within file kind dims zero n gs) items_of_both
items_within file kind dims (suc count) n (g ∷ gs) =
    both (g.within file kind dims n) (items_within file kind dims count (n + elements dims) gs) items_of_both

-- braces, by the dimensions that are left: a number has none
abbrev pub braces : Bool → Place → Kind → List ℕ → ℕ → List Giving → Made Items
braces file p kind [] n items = then_made (all_made (map (λ (g : Giving). g.alone) items)) (λ taken. excess p)
braces file p kind (d ∷ ds) n items = items_within file kind ds (room d) n items

-- an initialiser whose items are known
abbrev pub giving_step : Names → Init-F Giving → Giving
giving_step names (Init-F.One p e) = record {
  place = p;
  within = λ file kind dims n. then_made (judge names e) (one_item file p kind dims n (string_of e));
  alone = then_made (judge names e) (λ v. Fine v.taken);
}
giving_step names (Init-F.List p items comma) = record {
  place = p;
  within = λ file kind dims n. braces file p kind dims n items;
  alone = then_made (all_made (map (λ (g : Giving). g.alone) items)) (λ taken. Fine (concat taken));
}

-- an initialiser, where these names are known
abbrev pub giving : Names → Init → Giving
giving names = fold-Init Giving (giving_step names)

-- with what a declared object begins, none where its initialiser is not one of its type; and the variables that `&` is applied to
pub record Beginning : Type 0 where
  pub init : Option TInit
  pub taken : List ℕ

-- it begins so
abbrev pub beginning : Option TInit → List ℕ → Beginning
beginning init taken = record { init = init; taken = taken }

-- with a value that was passed, which has to be constant at file scope
abbrev pub value_given : Bool → Option TExpr → Option TInit
value_given file None = None
value_given file (Some tree) = if not file || is_some (constant tree) then Some (begins.Value tree) else None

-- an array with a string
abbrev pub string_given : Option (List ℕ) → Option TInit
string_given None = None
string_given (Some bytes) = Some (begins.Elements (item.Bytes 0 bytes ∷ []))

-- C17 6.7.9p11, p14: an expression for an object of a type: a number or a pointer takes a value, an array of char a string
abbrev pub one_given : Bool → CType → Option (List ℕ) → Typed → Option TInit
one_given file ctype.Void text e = None
one_given file (ctype.Number kind) text e = value_given file (passed (ctype.Number kind) e)
one_given file (ctype.Pointer element) text e = value_given file (passed (ctype.Pointer element) e)
one_given file (ctype.Array count element) text e = string_given (fitting element.kind element.dims count text)

-- C17 6.7.9p16: braces for an object of a type: only an array has them
abbrev pub list_given : Bool → CType → List Giving → Made Beginning
list_given file (ctype.Array count element) items =
    then_made (items_within file element.kind element.dims (room count) 0 items) (λ found. Fine (beginning (Some (begins.Elements found.items)) found.taken))
list_given file of items =
    then_made (all_made (map (λ (g : Giving). g.alone) items)) (λ taken. Fine (beginning None (concat taken)))

-- the initialiser of an object of a type
abbrev pub begun_step : Names → Bool → CType → Init-F Init → Made Beginning
begun_step names file of (Init-F.One p e) =
    then_made (judge names e) (λ v. Fine (beginning (one_given file of (string_of e) v) v.taken))
begun_step names file of (Init-F.List p items comma) = list_given file of (map (giving names) items)

-- the initialiser of an object, where its type is known or not
abbrev pub begun_with : Names → Bool → Option CType → Init → Made Beginning
begun_with names file None init = then_made (giving names init).alone (λ taken. Fine (beginning (Some begins.Nothing) taken))
begun_with names file (Some of) init = begun_step names file of (out-Init init)

-- C17 6.7.9p10: with what an object begins
unfoldable pub begun : Names → Bool → Option CType → Option Init → Made Beginning
begun names file of None = Fine (beginning (Some begins.Nothing) [])
begun names file of (Some init) = begun_with names file of init

-- the length of a string with the 0 behind it
abbrev pub length_with_end : Option (List ℕ) → Option ℕ
length_with_end None = None
length_with_end (Some bytes) = Some (length bytes + 1)

-- the count that an initialiser gives to a first dimension that is left out: of a string with the 0 behind it, of braces their items
abbrev pub first_step : Init-F Init → Option ℕ
first_step (Init-F.One p e) = length_with_end (string_of e)
first_step (Init-F.List p items comma) = Some (length items)

-- C17 6.7.9p22: the count that an initialiser gives
abbrev pub first_given : Option Init → Option ℕ
first_given None = None
first_given (Some init) = first_step (out-Init init)

-- the value of a constant; no other expression stands where a file object begins
abbrev pub constant_or_zero : Option ℤ → ℤ
constant_or_zero None = pos 0
constant_or_zero (Some z) = z

-- C17 6.7.9p11: the number that an expression gives to the element of this number
abbrev pub value_for : ℕ → TExpr → Initial
value_for n e = record { element = n; number = constant_or_zero (constant e) }

-- C17 6.7.9p14: the numbers that the bytes of a string give to the elements of an array of char, from this one on
abbrev pub bytes_from : ℕ → List ℕ → List Initial
bytes_from n [] = []
bytes_from n (b ∷ bytes) = record { element = n; number = converted I8 (pos b) } ∷ bytes_from (n + 1) bytes

-- C17 6.7.9p17: the numbers that an item of braces gives
abbrev pub item_numbers : TItem → List Initial
item_numbers (item.Bytes n bytes) = bytes_from n bytes
item_numbers (item.Value p n e) = value_for n e ∷ []

-- C17 6.7.9p4, p10, p21: the numbers with which elements of a file object begin, in the order of its elements; all others begin with 0
abbrev pub first_values : TInit → List Initial
first_values begins.Nothing = []
first_values (begins.Value e) = value_for 0 e ∷ []
first_values (begins.Elements items) = flat_map item_numbers items
