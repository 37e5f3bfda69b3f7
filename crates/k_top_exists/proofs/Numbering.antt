-- A part of a typed tree has numbers, from whatever is counted so far.
use Rattle.std.proofs.Common.{ℕ, ℤ, ◌≡◌, ◌+◌, List, [], ◌∷◌, map, length, Option, Some, None, refl, sym, subst}
use Rattle.k_num.specs.declared.numbers.Kind.{Kind}
use Rattle.k_num.specs.declared.place.Place.{Place}
use Rattle.k_types_meaning.specs.declared.tree.declaration.TDeclarator.{TDeclarator}
use Rattle.k_types_meaning.specs.declared.tree.declaration.TInit.{TInit}
use Rattle.k_types_meaning.specs.declared.tree.declaration.TInit.TheVariants as begins
use Rattle.k_types_meaning.specs.declared.tree.declaration.TItem.{TItem}
use Rattle.k_types_meaning.specs.declared.tree.declaration.TItem.TheVariants as item
use Rattle.k_types_meaning.specs.declared.tree.expression.Node.{Node}
use Rattle.k_types_meaning.specs.declared.tree.expression.TExpr.{TExpr, roll-TExpr, ind-TExpr, map-TExpr}
use Rattle.k_types_meaning.specs.declared.tree.expression.TExpr.TheOpen.{TExpr-F}
use Rattle.k_types_meaning.specs.declared.tree.expression.TExpr.TheVariants as typed
use Rattle.k_types_meaning.specs.declared.tree.statement.Spot.{Spot}
use Rattle.k_types_meaning.specs.declared.tree.statement.TFirst.{TFirst}
use Rattle.k_types_meaning.specs.declared.tree.statement.TFirst.TheVariants as first
use Rattle.k_types_meaning.specs.declared.tree.statement.TPart.{TPart, roll-TPart, map-TPart}
use Rattle.k_types_meaning.specs.declared.tree.statement.TPart.TheOpen.{TPart-F, TStmt-F}
use Rattle.k_types_meaning.specs.declared.tree.statement.TPart.TheVariants as part
use Rattle.k_types_meaning.specs.declared.tree.statement.TStmt.{TStmt, roll-TStmt, ind-TStmt, map-TStmt}
use Rattle.k_types_meaning.specs.declared.tree.statement.TStmt.TheVariants as stmt
use Rattle.k_types_meaning.specs.declared.tree.unit.TFunc.{TFunc}
use Rattle.k_types_meaning.specs.Bare.{bare_expr, bare_option, bare_item, bare_init, bare_declared, bare_first, bare_stmt}
use Rattle.k_types_meaning.specs.Numbered.{Numbers, listed, expr_numbers, option_numbers, item_numbers, init_numbers, declared_numbers, first_numbers, stmt_numbers, function_numbers, LoopsBefore}
use Rattle.k_types_numbers.specs.declared.counts.Counts.{Counts}
use Rattle.k_types_numbers.specs.Renumbering.{Renumbers, RenumbersBehind, NumbersExpr, NumbersExprs, NumbersOperands, NumbersPair, NumbersFunction, NumbersFunctions, bare_declarator, declarator_numbers, bare_part, part_numbers}
use Rattle.k_types_numbers.specs.Steps.{node_counted, loop_counted, string_counted}
use Rattle.k_types_numbers.proofs.CountingLaws.{both_counted, nothing_more, numbered_by, rises_from}
use Rattle.k_types_numbers.proofs.DeclarationForms.{init_nothing, init_value, init_elements, item_bytes, item_value, declarator_numbered, option_none, option_some, first_nothing, first_value, first_declare}
use Rattle.k_types_numbers.proofs.ExpressionForms.{with_number, pair_numbered, numbers_Number, numbers_Str, numbers_Object, numbers_Variable, numbers_Index, numbers_Call, numbers_Getchar, numbers_Putchar, numbers_Puts, numbers_Printf, numbers_Post, numbers_Pre, numbers_Address, numbers_Deref, numbers_Plus, numbers_Unary, numbers_Convert, numbers_Cast, numbers_Binary, numbers_Both, numbers_Either, numbers_Forward, numbers_Onto, numbers_Back, numbers_PtrCompare, numbers_PtrDistance, numbers_Cond, numbers_Assign, numbers_AssignBy, numbers_Comma}
use Rattle.k_types_numbers.proofs.StatementForms.{spot_number, numbers_Expr, numbers_Empty, numbers_Block, numbers_alone, numbers_else, numbers_While, numbers_DoWhile, numbers_For, clauses_numbered, numbers_Switch, numbers_Break, numbers_Continue, numbers_Return, numbers_Declare, part_case, part_default, part_does}
use Rattle.k_types_numbers.proofs.UnitForms.{function_numbered}

-- what `a` becomes with numbers that count on from `s`
pub record Made (A : Type 0) (bare : A → A) (numbers : A → Numbers) (a : A) (s : Counts) : Type 0 where
  pub made : A
  pub behind : Counts
  pub numbered : Renumbers A bare numbers a made s behind

-- what `a` becomes with this number, where those of its parts count on from `s`
pub record MadeBehind (A : Type 0) (bare : A → A) (numbers : A → Numbers) (number : ℕ) (a : A) (s : Counts) : Type 0 where
  pub made : A
  pub behind : Counts
  pub numbered : RenumbersBehind A bare numbers number a made s behind

-- it has numbers, from any counts on
abbrev pub CanNumber : (A : Type 0) → (A → A) → (A → Numbers) → A → Type 0
CanNumber A bare numbers a = (s : Counts) → Made A bare numbers a s

-- a list has numbers, from any counts on
abbrev pub CanNumberAll : (A : Type 0) → (A → A) → (A → Numbers) → List A → Type 0
CanNumberAll A bare numbers = CanNumber (List A) (map bare) (λ l. listed (map numbers l))

-- a node has numbers, where its parts have
node_first : (A : Type 0) (bare : A → A) (numbers : A → Numbers) (a : A) → ((number : ℕ) (s : Counts) → MadeBehind A bare numbers number a s)
    → CanNumber A bare numbers a
node_first A bare numbers a parts s =
    let x : MadeBehind A bare numbers s.nodes a (node_counted s) = parts s.nodes (node_counted s) in
    record { made = x.made; behind = x.behind; numbered = numbered_by A bare numbers s.nodes a x.made s (node_counted s) x.behind refl refl x.numbered }

-- no items
none_can : (A : Type 0) (bare : A → A) (numbers : A → Numbers) → CanNumberAll A bare numbers []
none_can A bare numbers s = record { made = []; behind = s; numbered = record { same = refl; counted = nothing_more s } }

-- one item more
more_can : (A : Type 0) (bare : A → A) (numbers : A → Numbers) (a : A) (as_ : List A) → CanNumber A bare numbers a → CanNumberAll A bare numbers as_
    → CanNumberAll A bare numbers (a ∷ as_)
more_can A bare numbers a as_ h k s =
    let x : Made A bare numbers a s = h s in
    let xs : Made (List A) (map bare) (λ l. listed (map numbers l)) as_ x.behind = k x.behind in
    record {
      made = x.made ∷ xs.made;
      behind = xs.behind;
      numbered = record {
        same = λ i. x.numbered.same i ∷ xs.numbered.same i;
        counted = both_counted (numbers x.made) (listed (map numbers xs.made)) s x.behind xs.behind x.numbered.counted xs.numbered.counted;
      };
    }

-- items, of each of which it is known
all_can : (A : Type 0) (bare : A → A) (numbers : A → Numbers) (xs : List ((a : A) × CanNumber A bare numbers a))
    → CanNumberAll A bare numbers (map (λ (x : (a : A) × CanNumber A bare numbers a). x.0) xs)
all_can A bare numbers [] = none_can A bare numbers
all_can A bare numbers (x ∷ xs) =
    more_can A bare numbers x.0 (map (λ (x : (a : A) × CanNumber A bare numbers a). x.0) xs) x.1 (all_can A bare numbers xs)

-- items of a type all of whose values have numbers
each_can : (A : Type 0) (bare : A → A) (numbers : A → Numbers) → ((a : A) → CanNumber A bare numbers a) → (xs : List A) → CanNumberAll A bare numbers xs
each_can A bare numbers each [] = none_can A bare numbers
each_can A bare numbers each (x ∷ xs) = more_can A bare numbers x xs (each x) (each_can A bare numbers each xs)

-- an expression has numbers
abbrev CanExpr : TExpr → Type 0
CanExpr = CanNumber TExpr bare_expr expr_numbers

-- expressions have numbers
abbrev CanExprs : List TExpr → Type 0
CanExprs = CanNumberAll TExpr bare_expr expr_numbers

-- the expressions of which it is known
abbrev exprs_of : List ((e : TExpr) × CanExpr e) → List TExpr
exprs_of = map (λ (x : (e : TExpr) × CanExpr e). x.0)

-- an expression without operands
no_operands : (e : TExpr) (make : ℕ → TExpr) → ((number : ℕ) (s : Counts) → NumbersOperands number e (make number) s s) → CanExpr e
no_operands e make each = node_first TExpr bare_expr expr_numbers e (λ number s. record { made = make number; behind = s; numbered = each number s })

-- an expression with one operand
one_operand : (e a : TExpr) (make : ℕ → TExpr → TExpr)
    → ((number : ℕ) (x : TExpr) (s t : Counts) → NumbersExpr a x s t → NumbersOperands number e (make number x) s t) → CanExpr a → CanExpr e
one_operand e a make each h =
    node_first TExpr bare_expr expr_numbers e (λ number s.
    let x : Made TExpr bare_expr expr_numbers a s = h s in
    record { made = make number x.made; behind = x.behind; numbered = each number x.made s x.behind x.numbered })

-- an expression with two operands
two_operands : (e a b : TExpr) (make : ℕ → TExpr → TExpr → TExpr)
    → ((number : ℕ) (x y : TExpr) (s t : Counts) → NumbersPair a b x y s t → NumbersOperands number e (make number x y) s t) → CanExpr a → CanExpr b → CanExpr e
two_operands e a b make each h k =
    node_first TExpr bare_expr expr_numbers e (λ number s.
    let x : Made TExpr bare_expr expr_numbers a s = h s in
    let y : Made TExpr bare_expr expr_numbers b x.behind = k x.behind in
    record {
      made = make number x.made y.made;
      behind = y.behind;
      numbered = each number x.made y.made s y.behind (pair_numbered a b x.made y.made s x.behind y.behind x.numbered y.numbered);
    })

-- an expression with a list of operands
list_operands : (e : TExpr) (es : List TExpr) (make : ℕ → List TExpr → TExpr)
    → ((number : ℕ) (xs : List TExpr) (s t : Counts) → NumbersExprs es xs s t → NumbersOperands number e (make number xs) s t) → CanExprs es → CanExpr e
list_operands e es make each h =
    node_first TExpr bare_expr expr_numbers e (λ number s.
    let xs : Made (List TExpr) (map bare_expr) (λ l. listed (map expr_numbers l)) es s = h s in
    record { made = make number xs.made; behind = xs.behind; numbered = each number xs.made s xs.behind xs.numbered })

-- a string, which has the next number and is listed
can_Str : (node : Node) (n : ℕ) (bytes : List ℕ) → CanExpr (typed.Str node n bytes)
can_Str node n bytes =
    node_first TExpr bare_expr expr_numbers (typed.Str node n bytes) (λ number s.
    let t : Counts = string_counted node.place bytes s in
    record { made = typed.Str (with_number node number) s.strings bytes; behind = t; numbered = numbers_Str number node n s.strings bytes s t refl refl })

-- a conditional expression
can_Cond : (node : Node) (a b c : TExpr) → CanExpr a → CanExpr b → CanExpr c → CanExpr (typed.Cond node a b c)
can_Cond node a b c h j k =
    node_first TExpr bare_expr expr_numbers (typed.Cond node a b c) (λ number s.
    let x : Made TExpr bare_expr expr_numbers a s = h s in
    let y : Made TExpr bare_expr expr_numbers b x.behind = j x.behind in
    let z : Made TExpr bare_expr expr_numbers c y.behind = k y.behind in
    let behind : NumbersPair b c y.made z.made x.behind z.behind = pair_numbered b c y.made z.made x.behind y.behind z.behind y.numbered z.numbered in
    record {
      made = typed.Cond (with_number node number) x.made y.made z.made;
      behind = z.behind;
      numbered = numbers_Cond number node a b c x.made y.made z.made s x.behind z.behind x.numbered behind;
    })

-- an expression has numbers where its operands have
expr_by : (y : TExpr-F ((e : TExpr) × CanExpr e)) → CanExpr (roll-TExpr (map-TExpr _ TExpr (λ (e : (e : TExpr) × CanExpr e). e.0) y))
expr_by (TExpr-F.Number node value) =
    subst CanExpr (sym (typed.rolls-Number node value))
    (no_operands (typed.Number node value) (λ number. typed.Number (with_number node number) value) (λ number s. numbers_Number number node value s))
expr_by (TExpr-F.Str node n bytes) = subst CanExpr (sym (typed.rolls-Str node n bytes)) (can_Str node n bytes)
expr_by (TExpr-F.Object node n) =
    subst CanExpr (sym (typed.rolls-Object node n))
    (no_operands (typed.Object node n) (λ number. typed.Object (with_number node number) n) (λ number s. numbers_Object number node n s))
expr_by (TExpr-F.Variable node n) =
    subst CanExpr (sym (typed.rolls-Variable node n))
    (no_operands (typed.Variable node n) (λ number. typed.Variable (with_number node number) n) (λ number s. numbers_Variable number node n s))
expr_by (TExpr-F.Index node a b) =
    subst CanExpr (sym (typed.rolls-Index node a.0 b.0))
    (two_operands (typed.Index node a.0 b.0) a.0 b.0 (λ number x y. typed.Index (with_number node number) x y)
    (λ number x y s t. numbers_Index number node a.0 b.0 x y s t) a.1 b.1)
expr_by (TExpr-F.Call node f args) =
    subst CanExpr (sym (typed.rolls-Call node f (exprs_of args)))
    (list_operands (typed.Call node f (exprs_of args)) (exprs_of args) (λ number xs. typed.Call (with_number node number) f xs)
    (λ number xs s t. numbers_Call number node f (exprs_of args) xs s t) (all_can TExpr bare_expr expr_numbers args))
expr_by (TExpr-F.Getchar node) =
    subst CanExpr (sym (typed.rolls-Getchar node))
    (no_operands (typed.Getchar node) (λ number. typed.Getchar (with_number node number)) (λ number s. numbers_Getchar number node s))
expr_by (TExpr-F.Putchar node a) =
    subst CanExpr (sym (typed.rolls-Putchar node a.0))
    (one_operand (typed.Putchar node a.0) a.0 (λ number x. typed.Putchar (with_number node number) x) (λ number x s t. numbers_Putchar number node a.0 x s t) a.1)
expr_by (TExpr-F.Puts node a) =
    subst CanExpr (sym (typed.rolls-Puts node a.0))
    (one_operand (typed.Puts node a.0) a.0 (λ number x. typed.Puts (with_number node number) x) (λ number x s t. numbers_Puts number node a.0 x s t) a.1)
expr_by (TExpr-F.Printf node format args) =
    subst CanExpr (sym (typed.rolls-Printf node format (exprs_of args)))
    (list_operands (typed.Printf node format (exprs_of args)) (exprs_of args) (λ number xs. typed.Printf (with_number node number) format xs)
    (λ number xs s t. numbers_Printf number node format (exprs_of args) xs s t) (all_can TExpr bare_expr expr_numbers args))
expr_by (TExpr-F.Post node change a) =
    subst CanExpr (sym (typed.rolls-Post node change a.0))
    (one_operand (typed.Post node change a.0) a.0 (λ number x. typed.Post (with_number node number) change x) (λ number x s t. numbers_Post number node change a.0 x s t) a.1)
expr_by (TExpr-F.Pre node change a) =
    subst CanExpr (sym (typed.rolls-Pre node change a.0))
    (one_operand (typed.Pre node change a.0) a.0 (λ number x. typed.Pre (with_number node number) change x) (λ number x s t. numbers_Pre number node change a.0 x s t) a.1)
expr_by (TExpr-F.Address node a) =
    subst CanExpr (sym (typed.rolls-Address node a.0))
    (one_operand (typed.Address node a.0) a.0 (λ number x. typed.Address (with_number node number) x) (λ number x s t. numbers_Address number node a.0 x s t) a.1)
expr_by (TExpr-F.Deref node a) =
    subst CanExpr (sym (typed.rolls-Deref node a.0))
    (one_operand (typed.Deref node a.0) a.0 (λ number x. typed.Deref (with_number node number) x) (λ number x s t. numbers_Deref number node a.0 x s t) a.1)
expr_by (TExpr-F.Plus node a) =
    subst CanExpr (sym (typed.rolls-Plus node a.0))
    (one_operand (typed.Plus node a.0) a.0 (λ number x. typed.Plus (with_number node number) x) (λ number x s t. numbers_Plus number node a.0 x s t) a.1)
expr_by (TExpr-F.Unary node op kind a) =
    subst CanExpr (sym (typed.rolls-Unary node op kind a.0))
    (one_operand (typed.Unary node op kind a.0) a.0 (λ number x. typed.Unary (with_number node number) op kind x) (λ number x s t. numbers_Unary number node op kind a.0 x s t) a.1)
expr_by (TExpr-F.Convert node a) =
    subst CanExpr (sym (typed.rolls-Convert node a.0))
    (one_operand (typed.Convert node a.0) a.0 (λ number x. typed.Convert (with_number node number) x) (λ number x s t. numbers_Convert number node a.0 x s t) a.1)
expr_by (TExpr-F.Cast node a) =
    subst CanExpr (sym (typed.rolls-Cast node a.0))
    (one_operand (typed.Cast node a.0) a.0 (λ number x. typed.Cast (with_number node number) x) (λ number x s t. numbers_Cast number node a.0 x s t) a.1)
expr_by (TExpr-F.Binary node op kind a b) =
    subst CanExpr (sym (typed.rolls-Binary node op kind a.0 b.0))
    (two_operands (typed.Binary node op kind a.0 b.0) a.0 b.0 (λ number x y. typed.Binary (with_number node number) op kind x y)
    (λ number x y s t. numbers_Binary number node op kind a.0 b.0 x y s t) a.1 b.1)
expr_by (TExpr-F.Both node a b) =
    subst CanExpr (sym (typed.rolls-Both node a.0 b.0))
    (two_operands (typed.Both node a.0 b.0) a.0 b.0 (λ number x y. typed.Both (with_number node number) x y)
    (λ number x y s t. numbers_Both number node a.0 b.0 x y s t) a.1 b.1)
expr_by (TExpr-F.Either node a b) =
    subst CanExpr (sym (typed.rolls-Either node a.0 b.0))
    (two_operands (typed.Either node a.0 b.0) a.0 b.0 (λ number x y. typed.Either (with_number node number) x y)
    (λ number x y s t. numbers_Either number node a.0 b.0 x y s t) a.1 b.1)
expr_by (TExpr-F.Forward node a b) =
    subst CanExpr (sym (typed.rolls-Forward node a.0 b.0))
    (two_operands (typed.Forward node a.0 b.0) a.0 b.0 (λ number x y. typed.Forward (with_number node number) x y)
    (λ number x y s t. numbers_Forward number node a.0 b.0 x y s t) a.1 b.1)
expr_by (TExpr-F.Onto node a b) =
    subst CanExpr (sym (typed.rolls-Onto node a.0 b.0))
    (two_operands (typed.Onto node a.0 b.0) a.0 b.0 (λ number x y. typed.Onto (with_number node number) x y)
    (λ number x y s t. numbers_Onto number node a.0 b.0 x y s t) a.1 b.1)
expr_by (TExpr-F.Back node a b) =
    subst CanExpr (sym (typed.rolls-Back node a.0 b.0))
    (two_operands (typed.Back node a.0 b.0) a.0 b.0 (λ number x y. typed.Back (with_number node number) x y)
    (λ number x y s t. numbers_Back number node a.0 b.0 x y s t) a.1 b.1)
expr_by (TExpr-F.PtrCompare node op a b) =
    subst CanExpr (sym (typed.rolls-PtrCompare node op a.0 b.0))
    (two_operands (typed.PtrCompare node op a.0 b.0) a.0 b.0 (λ number x y. typed.PtrCompare (with_number node number) op x y)
    (λ number x y s t. numbers_PtrCompare number node op a.0 b.0 x y s t) a.1 b.1)
expr_by (TExpr-F.PtrDistance node a b) =
    subst CanExpr (sym (typed.rolls-PtrDistance node a.0 b.0))
    (two_operands (typed.PtrDistance node a.0 b.0) a.0 b.0 (λ number x y. typed.PtrDistance (with_number node number) x y)
    (λ number x y s t. numbers_PtrDistance number node a.0 b.0 x y s t) a.1 b.1)
expr_by (TExpr-F.Cond node a b c) =
    subst CanExpr (sym (typed.rolls-Cond node a.0 b.0 c.0)) (can_Cond node a.0 b.0 c.0 a.1 b.1 c.1)
expr_by (TExpr-F.Assign node a b) =
    subst CanExpr (sym (typed.rolls-Assign node a.0 b.0))
    (two_operands (typed.Assign node a.0 b.0) a.0 b.0 (λ number x y. typed.Assign (with_number node number) x y)
    (λ number x y s t. numbers_Assign number node a.0 b.0 x y s t) a.1 b.1)
expr_by (TExpr-F.AssignBy node change a b) =
    subst CanExpr (sym (typed.rolls-AssignBy node change a.0 b.0))
    (two_operands (typed.AssignBy node change a.0 b.0) a.0 b.0 (λ number x y. typed.AssignBy (with_number node number) change x y)
    (λ number x y s t. numbers_AssignBy number node change a.0 b.0 x y s t) a.1 b.1)
expr_by (TExpr-F.Comma node a b) =
    subst CanExpr (sym (typed.rolls-Comma node a.0 b.0))
    (two_operands (typed.Comma node a.0 b.0) a.0 b.0 (λ number x y. typed.Comma (with_number node number) x y)
    (λ number x y s t. numbers_Comma number node a.0 b.0 x y s t) a.1 b.1)

-- each expression has numbers
pub can_expr : (e : TExpr) → CanExpr e
can_expr = ind-TExpr CanExpr (λ x y is. subst (λ (z : TExpr-F TExpr). CanExpr (roll-TExpr z)) is (expr_by y))

-- an expression that may be left out
can_option : (e : Option TExpr) → CanNumber (Option TExpr) bare_option option_numbers e
can_option None s = record { made = None; behind = s; numbered = option_none s }
can_option (Some e) s =
    let x : Made TExpr bare_expr expr_numbers e s = can_expr e s in
    record { made = Some x.made; behind = x.behind; numbered = option_some e x.made s x.behind x.numbered }

-- an item of braces
can_item : (i : TItem) → CanNumber TItem bare_item item_numbers i
can_item (item.Bytes n bytes) s = record { made = item.Bytes n bytes; behind = s; numbered = item_bytes n bytes s }
can_item (item.Value p n e) s =
    let x : Made TExpr bare_expr expr_numbers e s = can_expr e s in
    record { made = item.Value p n x.made; behind = x.behind; numbered = item_value p n e x.made s x.behind x.numbered }

-- an initialiser
can_init : (i : TInit) → CanNumber TInit bare_init init_numbers i
can_init begins.Nothing s = record { made = begins.Nothing; behind = s; numbered = init_nothing s }
can_init (begins.Value e) s =
    let x : Made TExpr bare_expr expr_numbers e s = can_expr e s in
    record { made = begins.Value x.made; behind = x.behind; numbered = init_value e x.made s x.behind x.numbered }
can_init (begins.Elements items) s =
    let xs : Made (List TItem) (map bare_item) (λ l. listed (map item_numbers l)) items s = each_can TItem bare_item item_numbers can_item items s in
    record { made = begins.Elements xs.made; behind = xs.behind; numbered = init_elements items xs.made s xs.behind xs.numbered }

-- a declared variable
can_declarator : (d : TDeclarator) → CanNumber TDeclarator bare_declarator declarator_numbers d
can_declarator d s =
    let x : Made TInit bare_init init_numbers d.init s = can_init d.init s in
    record { made = record d { init = x.made }; behind = x.behind; numbered = declarator_numbered d x.made s x.behind x.numbered }

-- declared variables
can_declared : (list : List TDeclarator) → CanNumber (List TDeclarator) bare_declared declared_numbers list
can_declared list = each_can TDeclarator bare_declarator declarator_numbers can_declarator list

-- the first part of a `for`
can_first : (f : TFirst) → CanNumber TFirst bare_first first_numbers f
can_first first.Nothing s = record { made = first.Nothing; behind = s; numbered = first_nothing s }
can_first (first.Value e) s =
    let x : Made TExpr bare_expr expr_numbers e s = can_expr e s in
    record { made = first.Value x.made; behind = x.behind; numbered = first_value e x.made s x.behind x.numbered }
can_first (first.Declare list) s =
    let xs : Made (List TDeclarator) bare_declared declared_numbers list s = can_declared list s in
    record { made = first.Declare xs.made; behind = xs.behind; numbered = first_declare list xs.made s xs.behind xs.numbered }

-- a statement has numbers
abbrev CanStmt : TStmt → Type 0
CanStmt = CanNumber TStmt bare_stmt stmt_numbers

-- statements have numbers
abbrev CanStmts : List TStmt → Type 0
CanStmts = CanNumberAll TStmt bare_stmt stmt_numbers

-- a part of a switch has numbers
abbrev CanPart : TPart → Type 0
CanPart = CanNumber TPart bare_part part_numbers

-- parts of a switch have numbers
abbrev CanParts : List TPart → Type 0
CanParts = CanNumberAll TPart bare_part part_numbers

-- a statement has numbers, where its parts have
stmt_first : (e : TStmt) → ((number : ℕ) (s : Counts) → MadeBehind TStmt bare_stmt stmt_numbers number e s) → CanStmt e
stmt_first e parts = node_first TStmt bare_stmt stmt_numbers e parts

-- an expression that is a statement
can_Expr : (spot : Spot) (e : TExpr) → CanStmt (stmt.Expr spot e)
can_Expr spot e = stmt_first (stmt.Expr spot e) (λ number s.
    let x : Made TExpr bare_expr expr_numbers e s = can_expr e s in
    record { made = stmt.Expr (spot_number spot number) x.made; behind = x.behind; numbered = numbers_Expr number spot e x.made s x.behind x.numbered })

-- the empty statement
can_Empty : (spot : Spot) → CanStmt (stmt.Empty spot)
can_Empty spot = stmt_first (stmt.Empty spot) (λ number s.
    record { made = stmt.Empty (spot_number spot number); behind = s; numbered = numbers_Empty number spot s })

-- a block
can_Block : (spot : Spot) (parts : List TStmt) → CanStmts parts → CanStmt (stmt.Block spot parts)
can_Block spot parts h = stmt_first (stmt.Block spot parts) (λ number s.
    let xs : Made (List TStmt) (map bare_stmt) (λ l. listed (map stmt_numbers l)) parts s = h s in
    record { made = stmt.Block (spot_number spot number) xs.made; behind = xs.behind; numbered = numbers_Block number spot parts xs.made s xs.behind xs.numbered })

-- an `if` without an `else`
can_alone : (spot : Spot) (test : TExpr) (a : TStmt) → CanStmt a → CanStmt (stmt.If spot test a None)
can_alone spot test a h = stmt_first (stmt.If spot test a None) (λ number s.
    let x : Made TExpr bare_expr expr_numbers test s = can_expr test s in
    let y : Made TStmt bare_stmt stmt_numbers a x.behind = h x.behind in
    record {
      made = stmt.If (spot_number spot number) x.made y.made None;
      behind = y.behind;
      numbered = numbers_alone number spot test x.made a y.made s x.behind y.behind x.numbered y.numbered;
    })

-- an `if` with an `else`
can_else : (spot : Spot) (test : TExpr) (a b : TStmt) → CanStmt a → CanStmt b → CanStmt (stmt.If spot test a (Some b))
can_else spot test a b h k = stmt_first (stmt.If spot test a (Some b)) (λ number s.
    let x : Made TExpr bare_expr expr_numbers test s = can_expr test s in
    let y : Made TStmt bare_stmt stmt_numbers a x.behind = h x.behind in
    let z : Made TStmt bare_stmt stmt_numbers b y.behind = k y.behind in
    record {
      made = stmt.If (spot_number spot number) x.made y.made (Some z.made);
      behind = z.behind;
      numbered = numbers_else number spot test x.made a b y.made z.made s x.behind y.behind z.behind x.numbered y.numbered z.numbered;
    })

-- a `while` loop
can_While : (spot : Spot) (turns : ℕ) (test : TExpr) (a : TStmt) → CanStmt a → CanStmt (stmt.While spot turns test a)
can_While spot turns test a h = stmt_first (stmt.While spot turns test a) (λ number s.
    let l : Counts = loop_counted s in
    let x : Made TExpr bare_expr expr_numbers test l = can_expr test l in
    let y : Made TStmt bare_stmt stmt_numbers a x.behind = h x.behind in
    record {
      made = stmt.While (spot_number spot number) s.loops x.made y.made;
      behind = y.behind;
      numbered = numbers_While number spot turns s.loops test x.made a y.made s l x.behind y.behind refl refl x.numbered y.numbered;
    })

-- a `do` loop
can_DoWhile : (spot : Spot) (turns : ℕ) (a : TStmt) (test : TExpr) → CanStmt a → CanStmt (stmt.DoWhile spot turns a test)
can_DoWhile spot turns a test h = stmt_first (stmt.DoWhile spot turns a test) (λ number s.
    let l : Counts = loop_counted s in
    let y : Made TStmt bare_stmt stmt_numbers a l = h l in
    let x : Made TExpr bare_expr expr_numbers test y.behind = can_expr test y.behind in
    record {
      made = stmt.DoWhile (spot_number spot number) s.loops y.made x.made;
      behind = x.behind;
      numbered = numbers_DoWhile number spot turns s.loops a y.made test x.made s l y.behind x.behind refl refl y.numbered x.numbered;
    })

-- a `for` loop
can_For : (spot : Spot) (turns : ℕ) (f : TFirst) (test step : Option TExpr) (a : TStmt) → CanStmt a → CanStmt (stmt.For spot turns f test step a)
can_For spot turns f test step a h = stmt_first (stmt.For spot turns f test step a) (λ number s.
    let l : Counts = loop_counted s in
    let g : Made TFirst bare_first first_numbers f l = can_first f l in
    let x : Made (Option TExpr) bare_option option_numbers test g.behind = can_option test g.behind in
    let y : Made (Option TExpr) bare_option option_numbers step x.behind = can_option step x.behind in
    let z : Made TStmt bare_stmt stmt_numbers a y.behind = h y.behind in
    record {
      made = stmt.For (spot_number spot number) s.loops g.made x.made y.made z.made;
      behind = z.behind;
      numbered = numbers_For number spot turns s.loops f g.made test step x.made y.made a z.made s l y.behind z.behind refl refl
          (clauses_numbered f g.made test step x.made y.made l g.behind x.behind y.behind g.numbered x.numbered y.numbered) z.numbered;
    })

-- a `switch`
can_Switch : (spot : Spot) (kind : Kind) (on : TExpr) (parts : List TPart) → CanParts parts → CanStmt (stmt.Switch spot kind on parts)
can_Switch spot kind on parts h = stmt_first (stmt.Switch spot kind on parts) (λ number s.
    let x : Made TExpr bare_expr expr_numbers on s = can_expr on s in
    let xs : Made (List TPart) (map bare_part) (λ l. listed (map part_numbers l)) parts x.behind = h x.behind in
    record {
      made = stmt.Switch (spot_number spot number) kind x.made xs.made;
      behind = xs.behind;
      numbered = numbers_Switch number spot kind on x.made parts xs.made s x.behind xs.behind x.numbered xs.numbered;
    })

-- a `break`
can_Break : (spot : Spot) → CanStmt (stmt.Break spot)
can_Break spot = stmt_first (stmt.Break spot) (λ number s.
    record { made = stmt.Break (spot_number spot number); behind = s; numbered = numbers_Break number spot s })

-- a `continue`
can_Continue : (spot : Spot) → CanStmt (stmt.Continue spot)
can_Continue spot = stmt_first (stmt.Continue spot) (λ number s.
    record { made = stmt.Continue (spot_number spot number); behind = s; numbered = numbers_Continue number spot s })

-- a `return`
can_Return : (spot : Spot) (value : Option TExpr) → CanStmt (stmt.Return spot value)
can_Return spot value = stmt_first (stmt.Return spot value) (λ number s.
    let x : Made (Option TExpr) bare_option option_numbers value s = can_option value s in
    record { made = stmt.Return (spot_number spot number) x.made; behind = x.behind; numbered = numbers_Return number spot value x.made s x.behind x.numbered })

-- declared variables
can_Declare : (spot : Spot) (list : List TDeclarator) → CanStmt (stmt.Declare spot list)
can_Declare spot list = stmt_first (stmt.Declare spot list) (λ number s.
    let xs : Made (List TDeclarator) bare_declared declared_numbers list s = can_declared list s in
    record { made = stmt.Declare (spot_number spot number) xs.made; behind = xs.behind; numbered = numbers_Declare number spot list xs.made s xs.behind xs.numbered })

-- a `case` label
can_Case : (p : Place) (value : ℤ) → CanPart (part.Case p value)
can_Case p value s = record { made = part.Case p value; behind = s; numbered = part_case p value s }

-- a `default` label
can_Default : (p : Place) → CanPart (part.Default p)
can_Default p s = record { made = part.Default p; behind = s; numbered = part_default p s }

-- a statement in the braces of a `switch`
can_Does : (p : Place) (a : TStmt) → CanStmt a → CanPart (part.Does p a)
can_Does p a h s =
    let x : Made TStmt bare_stmt stmt_numbers a s = h s in
    record { made = part.Does p x.made; behind = x.behind; numbered = part_does p a x.made s x.behind x.numbered }

-- the statements of which it is known
abbrev stmts_of : List ((s : TStmt) × CanStmt s) → List TStmt
stmts_of = map (λ (x : (s : TStmt) × CanStmt s). x.0)

-- the parts of which it is known
abbrev parts_of : List ((p : TPart) × CanPart p) → List TPart
parts_of = map (λ (x : (p : TPart) × CanPart p). x.0)

-- a part of a switch has numbers where its statement has
part_by : (y : TPart-F ((p : TPart) × CanPart p) ((s : TStmt) × CanStmt s))
    → CanPart (roll-TPart (map-TPart _ _ TPart TStmt (λ (x : (p : TPart) × CanPart p). x.0) (λ (x : (s : TStmt) × CanStmt s). x.0) y))
part_by (TPart-F.Case p value) = subst CanPart (sym (part.rolls-Case p value)) (can_Case p value)
part_by (TPart-F.Default p) = subst CanPart (sym (part.rolls-Default p)) (can_Default p)
part_by (TPart-F.Does p s) = subst CanPart (sym (part.rolls-Does p s.0)) (can_Does p s.0 s.1)

-- a statement has numbers where its statements and parts have
stmt_by : (y : TStmt-F ((p : TPart) × CanPart p) ((s : TStmt) × CanStmt s))
    → CanStmt (roll-TStmt (map-TStmt _ _ TPart TStmt (λ (x : (p : TPart) × CanPart p). x.0) (λ (x : (s : TStmt) × CanStmt s). x.0) y))
stmt_by (TStmt-F.Expr spot e) = subst CanStmt (sym (stmt.rolls-Expr spot e)) (can_Expr spot e)
stmt_by (TStmt-F.Empty spot) = subst CanStmt (sym (stmt.rolls-Empty spot)) (can_Empty spot)
stmt_by (TStmt-F.Block spot parts) =
    subst CanStmt (sym (stmt.rolls-Block spot (stmts_of parts))) (can_Block spot (stmts_of parts) (all_can TStmt bare_stmt stmt_numbers parts))
stmt_by (TStmt-F.If spot test s None) = subst CanStmt (sym (stmt.rolls-If spot test s.0 None)) (can_alone spot test s.0 s.1)
stmt_by (TStmt-F.If spot test s (Some t)) = subst CanStmt (sym (stmt.rolls-If spot test s.0 (Some t.0))) (can_else spot test s.0 t.0 s.1 t.1)
stmt_by (TStmt-F.While spot turns test s) = subst CanStmt (sym (stmt.rolls-While spot turns test s.0)) (can_While spot turns test s.0 s.1)
stmt_by (TStmt-F.DoWhile spot turns s test) = subst CanStmt (sym (stmt.rolls-DoWhile spot turns s.0 test)) (can_DoWhile spot turns s.0 test s.1)
stmt_by (TStmt-F.For spot turns start test step s) =
    subst CanStmt (sym (stmt.rolls-For spot turns start test step s.0)) (can_For spot turns start test step s.0 s.1)
stmt_by (TStmt-F.Switch spot kind on parts) =
    subst CanStmt (sym (stmt.rolls-Switch spot kind on (parts_of parts))) (can_Switch spot kind on (parts_of parts) (all_can TPart bare_part part_numbers parts))
stmt_by (TStmt-F.Break spot) = subst CanStmt (sym (stmt.rolls-Break spot)) (can_Break spot)
stmt_by (TStmt-F.Continue spot) = subst CanStmt (sym (stmt.rolls-Continue spot)) (can_Continue spot)
stmt_by (TStmt-F.Return spot value) = subst CanStmt (sym (stmt.rolls-Return spot value)) (can_Return spot value)
stmt_by (TStmt-F.Declare spot list) = subst CanStmt (sym (stmt.rolls-Declare spot list)) (can_Declare spot list)

-- each statement has numbers
pub can_stmt : (s : TStmt) → CanStmt s
can_stmt =
    ind-TStmt CanPart CanStmt
    (λ x y is. subst (λ (z : TPart-F TPart TStmt). CanPart (roll-TPart z)) is (part_by y))
    (λ x y is. subst (λ (z : TStmt-F TPart TStmt). CanStmt (roll-TStmt z)) is (stmt_by y))

-- what functions become with numbers that count on from `s`
pub record MadeFunctions (fs : List TFunc) (s : Counts) : Type 0 where
  pub made : List TFunc
  pub behind : Counts
  pub numbered : NumbersFunctions fs made s behind

-- a function before others that are numbered
function_before : (f g : TFunc) (fs gs : List TFunc) (s m t : Counts) → NumbersFunction f g s m → NumbersFunctions fs gs m t → NumbersFunctions (f ∷ fs) (g ∷ gs) s t
function_before f g fs gs s m t h k =
    let ended : m.loops ≡ s.loops + length (function_numbers g).loops = (rises_from s.loops (function_numbers g).loops m.loops h.counted.loops).1 in
    record {
      same = λ i. h.same i ∷ k.same i;
      loops = (h.loops, subst (λ (n : ℕ). LoopsBefore n gs) ended k.loops);
      counted = both_counted (function_numbers g) (listed (map function_numbers gs)) s m t h.counted k.counted;
    }

-- functions have numbers, from any counts on
pub can_functions : (fs : List TFunc) (s : Counts) → MadeFunctions fs s
can_functions [] s = record { made = []; behind = s; numbered = record { same = refl; loops = tt; counted = nothing_more s } }
can_functions (f ∷ fs) s =
    let xs : Made (List TStmt) (map bare_stmt) (λ l. listed (map stmt_numbers l)) f.body s = each_can TStmt bare_stmt stmt_numbers can_stmt f.body s in
    let rest : MadeFunctions fs xs.behind = can_functions fs xs.behind in
    let g : TFunc = record f { loops = s.loops; body = xs.made } in
    record {
      made = g ∷ rest.made;
      behind = rest.behind;
      numbered = function_before f g fs rest.made s xs.behind rest.behind (function_numbered f xs.made s xs.behind xs.numbered) rest.numbered;
    }
