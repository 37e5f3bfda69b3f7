-- Each form of an expression is numbered where it has its number and its operands are numbered.
use Rattle.std.proofs.Common.{ℕ, ℤ, ◌≡◌, List, map, sym, ap, ◌∙◌, subst}
use Rattle.k_num.specs.declared.numbers.Bin.{Bin}
use Rattle.k_num.specs.declared.numbers.Kind.{Kind}
use Rattle.k_num.specs.declared.numbers.Un.{Un}
use Rattle.k_types_meaning.specs.declared.tree.expression.Change.{Change}
use Rattle.k_types_meaning.specs.declared.tree.expression.Node.{Node}
use Rattle.k_types_meaning.specs.declared.tree.expression.Piece.{Piece}
use Rattle.k_types_meaning.specs.declared.tree.expression.TExpr.{TExpr}
use Rattle.k_types_meaning.specs.declared.tree.expression.TExpr.TheVariants as typed
use Rattle.k_types_meaning.specs.Bare.{bare_node, bare_step, bare_expr}
use Rattle.k_types_meaning.proofs.Folds.{typed_Number, typed_Str, typed_Object, typed_Variable, typed_Index, typed_Call, typed_Getchar, typed_Putchar, typed_Puts, typed_Printf, typed_Post, typed_Pre, typed_Address, typed_Deref, typed_Plus, typed_Unary, typed_Convert, typed_Cast, typed_Binary, typed_Both, typed_Either, typed_Forward, typed_Onto, typed_Back, typed_PtrCompare, typed_PtrDistance, typed_Cond, typed_Assign, typed_AssignBy, typed_Comma}
use Rattle.k_types_meaning.specs.Numbered.{Numbers, nothing, before, listed, node_before, expr_numbers, expr_numbers_step}
use Rattle.k_types_numbers.specs.declared.counts.Counts.{Counts}
use Rattle.k_types_numbers.specs.Renumbering.{NumbersExpr, NumbersExprs, NumbersOperands, NumbersPair}
use Rattle.k_types_numbers.specs.Steps.{string_counted}
use Rattle.k_types_numbers.proofs.CountingLaws.{both_counted, nothing_more, one_string, string_first}

-- the node with this number
abbrev pub with_number : Node → ℕ → Node
with_number node n = record node { number = n }

-- one expression and then another one
pub pair_numbered : (a b x y : TExpr) (s m t : Counts) → NumbersExpr a x s m → NumbersExpr b y m t → NumbersPair a b x y s t
pair_numbered a b x y s m t h k = record {
  left = h.same;
  right = k.same;
  counted = both_counted (expr_numbers x) (expr_numbers y) s m t h.counted k.counted;
}

-- the same where both are known by other names
pub pair_of : (a b c d x y : TExpr) (s t : Counts) → a ≡ c → b ≡ d → NumbersPair a b x y s t → NumbersPair c d x y s t
pair_of a b c d x y s t p q h = record { left = h.left ∙ ap bare_expr p; right = h.right ∙ ap bare_expr q; counted = h.counted }

-- an expression `e` without operands becomes `f`
none_numbered : (number : ℕ) (e f b : TExpr) (s : Counts) → bare_expr e ≡ b → bare_expr f ≡ b → expr_numbers f ≡ node_before number nothing
    → NumbersOperands number e f s s
none_numbered number e f b s p q l = record { parts = nothing; same = q ∙ sym p; listed = l; counted = nothing_more s }

-- an expression `e` with one operand becomes `f`
one_numbered : (number : ℕ) (e f a x : TExpr) (make : TExpr → TExpr) (s t : Counts)
    → bare_expr e ≡ make (bare_expr a) → bare_expr f ≡ make (bare_expr x) → expr_numbers f ≡ node_before number (expr_numbers x)
    → NumbersExpr a x s t → NumbersOperands number e f s t
one_numbered number e f a x make s t p q l h =
    record { parts = expr_numbers x; same = q ∙ (ap make h.same ∙ sym p); listed = l; counted = h.counted }

-- an expression `e` with two operands becomes `f`
two_numbered : (number : ℕ) (e f a b x y : TExpr) (make : TExpr → TExpr → TExpr) (s t : Counts)
    → bare_expr e ≡ make (bare_expr a) (bare_expr b) → bare_expr f ≡ make (bare_expr x) (bare_expr y)
    → expr_numbers f ≡ node_before number (before (expr_numbers x) (expr_numbers y)) → NumbersPair a b x y s t → NumbersOperands number e f s t
two_numbered number e f a b x y make s t p q l h =
    let m : make (bare_expr x) (bare_expr y) ≡ make (bare_expr a) (bare_expr b) = λ i. make (h.left i) (h.right i) in
    record { parts = before (expr_numbers x) (expr_numbers y); same = q ∙ (m ∙ sym p); listed = l; counted = h.counted }

-- an expression `e` with a list of operands becomes `f`
list_numbered : (number : ℕ) (e f : TExpr) (es fs : List TExpr) (make : List TExpr → TExpr) (s t : Counts)
    → bare_expr e ≡ make (map bare_expr es) → bare_expr f ≡ make (map bare_expr fs)
    → expr_numbers f ≡ node_before number (listed (map expr_numbers fs)) → NumbersExprs es fs s t → NumbersOperands number e f s t
list_numbered number e f es fs make s t p q l h =
    record { parts = listed (map expr_numbers fs); same = q ∙ (ap make h.same ∙ sym p); listed = l; counted = h.counted }

-- a number
pub numbers_Number : (number : ℕ) (node : Node) (value : ℤ) (s : Counts) → NumbersOperands number (typed.Number node value) (typed.Number (with_number node number) value) s s
numbers_Number number node value s =
    none_numbered number (typed.Number node value) (typed.Number (with_number node number) value) (typed.Number (bare_node node) value) s
    (typed_Number TExpr bare_step node value) (typed_Number TExpr bare_step (with_number node number) value) (typed_Number Numbers expr_numbers_step (with_number node number) value)

-- a string, which has the next number and is listed
pub numbers_Str : (number : ℕ) (node : Node) (old n : ℕ) (bytes : List ℕ) (s t : Counts) → n ≡ s.strings → t ≡ string_counted node.place bytes s
    → NumbersOperands number (typed.Str node old bytes) (typed.Str (with_number node number) n bytes) s t
numbers_Str number node old n bytes s t is moved = record {
  parts = one_string n node.place bytes;
  same = typed_Str TExpr bare_step (with_number node number) n bytes ∙ sym (typed_Str TExpr bare_step node old bytes);
  listed = typed_Str Numbers expr_numbers_step (with_number node number) n bytes;
  counted = string_first node.place bytes n s t is moved;
}

-- a file object
pub numbers_Object : (number : ℕ) (node : Node) (n : ℕ) (s : Counts) → NumbersOperands number (typed.Object node n) (typed.Object (with_number node number) n) s s
numbers_Object number node n s =
    none_numbered number (typed.Object node n) (typed.Object (with_number node number) n) (typed.Object (bare_node node) n) s
    (typed_Object TExpr bare_step node n) (typed_Object TExpr bare_step (with_number node number) n) (typed_Object Numbers expr_numbers_step (with_number node number) n)

-- a variable
pub numbers_Variable : (number : ℕ) (node : Node) (n : ℕ) (s : Counts) → NumbersOperands number (typed.Variable node n) (typed.Variable (with_number node number) n) s s
numbers_Variable number node n s =
    none_numbered number (typed.Variable node n) (typed.Variable (with_number node number) n) (typed.Variable (bare_node node) n) s
    (typed_Variable TExpr bare_step node n) (typed_Variable TExpr bare_step (with_number node number) n) (typed_Variable Numbers expr_numbers_step (with_number node number) n)

-- an index
pub numbers_Index : (number : ℕ) (node : Node) (a b x y : TExpr) (s t : Counts) → NumbersPair a b x y s t
    → NumbersOperands number (typed.Index node a b) (typed.Index (with_number node number) x y) s t
numbers_Index number node a b x y s t h =
    two_numbered number (typed.Index node a b) (typed.Index (with_number node number) x y) a b x y (λ (e f : TExpr). typed.Index (bare_node node) e f) s t
    (typed_Index TExpr bare_step node a b) (typed_Index TExpr bare_step (with_number node number) x y) (typed_Index Numbers expr_numbers_step (with_number node number) x y) h

-- a call
pub numbers_Call : (number : ℕ) (node : Node) (f : ℕ) (es fs : List TExpr) (s t : Counts) → NumbersExprs es fs s t
    → NumbersOperands number (typed.Call node f es) (typed.Call (with_number node number) f fs) s t
numbers_Call number node f es fs s t h =
    list_numbered number (typed.Call node f es) (typed.Call (with_number node number) f fs) es fs (λ (l : List TExpr). typed.Call (bare_node node) f l) s t
    (typed_Call TExpr bare_step node f es) (typed_Call TExpr bare_step (with_number node number) f fs) (typed_Call Numbers expr_numbers_step (with_number node number) f fs) h

-- `getchar()`
pub numbers_Getchar : (number : ℕ) (node : Node) (s : Counts) → NumbersOperands number (typed.Getchar node) (typed.Getchar (with_number node number)) s s
numbers_Getchar number node s =
    none_numbered number (typed.Getchar node) (typed.Getchar (with_number node number)) (typed.Getchar (bare_node node)) s
    (typed_Getchar TExpr bare_step node) (typed_Getchar TExpr bare_step (with_number node number)) (typed_Getchar Numbers expr_numbers_step (with_number node number))

-- `putchar`
pub numbers_Putchar : (number : ℕ) (node : Node) (a x : TExpr) (s t : Counts) → NumbersExpr a x s t
    → NumbersOperands number (typed.Putchar node a) (typed.Putchar (with_number node number) x) s t
numbers_Putchar number node a x s t h =
    one_numbered number (typed.Putchar node a) (typed.Putchar (with_number node number) x) a x (λ (e : TExpr). typed.Putchar (bare_node node) e) s t
    (typed_Putchar TExpr bare_step node a) (typed_Putchar TExpr bare_step (with_number node number) x) (typed_Putchar Numbers expr_numbers_step (with_number node number) x) h

-- `puts`
pub numbers_Puts : (number : ℕ) (node : Node) (a x : TExpr) (s t : Counts) → NumbersExpr a x s t
    → NumbersOperands number (typed.Puts node a) (typed.Puts (with_number node number) x) s t
numbers_Puts number node a x s t h =
    one_numbered number (typed.Puts node a) (typed.Puts (with_number node number) x) a x (λ (e : TExpr). typed.Puts (bare_node node) e) s t
    (typed_Puts TExpr bare_step node a) (typed_Puts TExpr bare_step (with_number node number) x) (typed_Puts Numbers expr_numbers_step (with_number node number) x) h

-- `printf`
pub numbers_Printf : (number : ℕ) (node : Node) (format : List Piece) (es fs : List TExpr) (s t : Counts) → NumbersExprs es fs s t
    → NumbersOperands number (typed.Printf node format es) (typed.Printf (with_number node number) format fs) s t
numbers_Printf number node format es fs s t h =
    list_numbered number (typed.Printf node format es) (typed.Printf (with_number node number) format fs) es fs (λ (l : List TExpr). typed.Printf (bare_node node) format l) s t
    (typed_Printf TExpr bare_step node format es) (typed_Printf TExpr bare_step (with_number node number) format fs) (typed_Printf Numbers expr_numbers_step (with_number node number) format fs) h

-- `++` or `--` behind its operand
pub numbers_Post : (number : ℕ) (node : Node) (change : Change) (a x : TExpr) (s t : Counts) → NumbersExpr a x s t
    → NumbersOperands number (typed.Post node change a) (typed.Post (with_number node number) change x) s t
numbers_Post number node change a x s t h =
    one_numbered number (typed.Post node change a) (typed.Post (with_number node number) change x) a x (λ (e : TExpr). typed.Post (bare_node node) change e) s t
    (typed_Post TExpr bare_step node change a) (typed_Post TExpr bare_step (with_number node number) change x) (typed_Post Numbers expr_numbers_step (with_number node number) change x) h

-- `++` or `--` before its operand
pub numbers_Pre : (number : ℕ) (node : Node) (change : Change) (a x : TExpr) (s t : Counts) → NumbersExpr a x s t
    → NumbersOperands number (typed.Pre node change a) (typed.Pre (with_number node number) change x) s t
numbers_Pre number node change a x s t h =
    one_numbered number (typed.Pre node change a) (typed.Pre (with_number node number) change x) a x (λ (e : TExpr). typed.Pre (bare_node node) change e) s t
    (typed_Pre TExpr bare_step node change a) (typed_Pre TExpr bare_step (with_number node number) change x) (typed_Pre Numbers expr_numbers_step (with_number node number) change x) h

-- an address
pub numbers_Address : (number : ℕ) (node : Node) (a x : TExpr) (s t : Counts) → NumbersExpr a x s t
    → NumbersOperands number (typed.Address node a) (typed.Address (with_number node number) x) s t
numbers_Address number node a x s t h =
    one_numbered number (typed.Address node a) (typed.Address (with_number node number) x) a x (λ (e : TExpr). typed.Address (bare_node node) e) s t
    (typed_Address TExpr bare_step node a) (typed_Address TExpr bare_step (with_number node number) x) (typed_Address Numbers expr_numbers_step (with_number node number) x) h

-- an indirection
pub numbers_Deref : (number : ℕ) (node : Node) (a x : TExpr) (s t : Counts) → NumbersExpr a x s t
    → NumbersOperands number (typed.Deref node a) (typed.Deref (with_number node number) x) s t
numbers_Deref number node a x s t h =
    one_numbered number (typed.Deref node a) (typed.Deref (with_number node number) x) a x (λ (e : TExpr). typed.Deref (bare_node node) e) s t
    (typed_Deref TExpr bare_step node a) (typed_Deref TExpr bare_step (with_number node number) x) (typed_Deref Numbers expr_numbers_step (with_number node number) x) h

-- a unary plus
pub numbers_Plus : (number : ℕ) (node : Node) (a x : TExpr) (s t : Counts) → NumbersExpr a x s t
    → NumbersOperands number (typed.Plus node a) (typed.Plus (with_number node number) x) s t
numbers_Plus number node a x s t h =
    one_numbered number (typed.Plus node a) (typed.Plus (with_number node number) x) a x (λ (e : TExpr). typed.Plus (bare_node node) e) s t
    (typed_Plus TExpr bare_step node a) (typed_Plus TExpr bare_step (with_number node number) x) (typed_Plus Numbers expr_numbers_step (with_number node number) x) h

-- a unary operator
pub numbers_Unary : (number : ℕ) (node : Node) (op : Un) (kind : Kind) (a x : TExpr) (s t : Counts) → NumbersExpr a x s t
    → NumbersOperands number (typed.Unary node op kind a) (typed.Unary (with_number node number) op kind x) s t
numbers_Unary number node op kind a x s t h =
    one_numbered number (typed.Unary node op kind a) (typed.Unary (with_number node number) op kind x) a x (λ (e : TExpr). typed.Unary (bare_node node) op kind e) s t
    (typed_Unary TExpr bare_step node op kind a) (typed_Unary TExpr bare_step (with_number node number) op kind x) (typed_Unary Numbers expr_numbers_step (with_number node number) op kind x) h

-- a conversion
pub numbers_Convert : (number : ℕ) (node : Node) (a x : TExpr) (s t : Counts) → NumbersExpr a x s t
    → NumbersOperands number (typed.Convert node a) (typed.Convert (with_number node number) x) s t
numbers_Convert number node a x s t h =
    one_numbered number (typed.Convert node a) (typed.Convert (with_number node number) x) a x (λ (e : TExpr). typed.Convert (bare_node node) e) s t
    (typed_Convert TExpr bare_step node a) (typed_Convert TExpr bare_step (with_number node number) x) (typed_Convert Numbers expr_numbers_step (with_number node number) x) h

-- a cast
pub numbers_Cast : (number : ℕ) (node : Node) (a x : TExpr) (s t : Counts) → NumbersExpr a x s t
    → NumbersOperands number (typed.Cast node a) (typed.Cast (with_number node number) x) s t
numbers_Cast number node a x s t h =
    one_numbered number (typed.Cast node a) (typed.Cast (with_number node number) x) a x (λ (e : TExpr). typed.Cast (bare_node node) e) s t
    (typed_Cast TExpr bare_step node a) (typed_Cast TExpr bare_step (with_number node number) x) (typed_Cast Numbers expr_numbers_step (with_number node number) x) h

-- a binary operator
pub numbers_Binary : (number : ℕ) (node : Node) (op : Bin) (kind : Kind) (a b x y : TExpr) (s t : Counts) → NumbersPair a b x y s t
    → NumbersOperands number (typed.Binary node op kind a b) (typed.Binary (with_number node number) op kind x y) s t
numbers_Binary number node op kind a b x y s t h =
    two_numbered number (typed.Binary node op kind a b) (typed.Binary (with_number node number) op kind x y) a b x y (λ (e f : TExpr). typed.Binary (bare_node node) op kind e f) s t
    (typed_Binary TExpr bare_step node op kind a b) (typed_Binary TExpr bare_step (with_number node number) op kind x y) (typed_Binary Numbers expr_numbers_step (with_number node number) op kind x y) h

-- `&&`
pub numbers_Both : (number : ℕ) (node : Node) (a b x y : TExpr) (s t : Counts) → NumbersPair a b x y s t
    → NumbersOperands number (typed.Both node a b) (typed.Both (with_number node number) x y) s t
numbers_Both number node a b x y s t h =
    two_numbered number (typed.Both node a b) (typed.Both (with_number node number) x y) a b x y (λ (e f : TExpr). typed.Both (bare_node node) e f) s t
    (typed_Both TExpr bare_step node a b) (typed_Both TExpr bare_step (with_number node number) x y) (typed_Both Numbers expr_numbers_step (with_number node number) x y) h

-- `||`
pub numbers_Either : (number : ℕ) (node : Node) (a b x y : TExpr) (s t : Counts) → NumbersPair a b x y s t
    → NumbersOperands number (typed.Either node a b) (typed.Either (with_number node number) x y) s t
numbers_Either number node a b x y s t h =
    two_numbered number (typed.Either node a b) (typed.Either (with_number node number) x y) a b x y (λ (e f : TExpr). typed.Either (bare_node node) e f) s t
    (typed_Either TExpr bare_step node a b) (typed_Either TExpr bare_step (with_number node number) x y) (typed_Either Numbers expr_numbers_step (with_number node number) x y) h

-- a pointer plus a number
pub numbers_Forward : (number : ℕ) (node : Node) (a b x y : TExpr) (s t : Counts) → NumbersPair a b x y s t
    → NumbersOperands number (typed.Forward node a b) (typed.Forward (with_number node number) x y) s t
numbers_Forward number node a b x y s t h =
    two_numbered number (typed.Forward node a b) (typed.Forward (with_number node number) x y) a b x y (λ (e f : TExpr). typed.Forward (bare_node node) e f) s t
    (typed_Forward TExpr bare_step node a b) (typed_Forward TExpr bare_step (with_number node number) x y) (typed_Forward Numbers expr_numbers_step (with_number node number) x y) h

-- a number plus a pointer
pub numbers_Onto : (number : ℕ) (node : Node) (a b x y : TExpr) (s t : Counts) → NumbersPair a b x y s t
    → NumbersOperands number (typed.Onto node a b) (typed.Onto (with_number node number) x y) s t
numbers_Onto number node a b x y s t h =
    two_numbered number (typed.Onto node a b) (typed.Onto (with_number node number) x y) a b x y (λ (e f : TExpr). typed.Onto (bare_node node) e f) s t
    (typed_Onto TExpr bare_step node a b) (typed_Onto TExpr bare_step (with_number node number) x y) (typed_Onto Numbers expr_numbers_step (with_number node number) x y) h

-- a pointer less a number
pub numbers_Back : (number : ℕ) (node : Node) (a b x y : TExpr) (s t : Counts) → NumbersPair a b x y s t
    → NumbersOperands number (typed.Back node a b) (typed.Back (with_number node number) x y) s t
numbers_Back number node a b x y s t h =
    two_numbered number (typed.Back node a b) (typed.Back (with_number node number) x y) a b x y (λ (e f : TExpr). typed.Back (bare_node node) e f) s t
    (typed_Back TExpr bare_step node a b) (typed_Back TExpr bare_step (with_number node number) x y) (typed_Back Numbers expr_numbers_step (with_number node number) x y) h

-- a comparison of pointers
pub numbers_PtrCompare : (number : ℕ) (node : Node) (op : Bin) (a b x y : TExpr) (s t : Counts) → NumbersPair a b x y s t
    → NumbersOperands number (typed.PtrCompare node op a b) (typed.PtrCompare (with_number node number) op x y) s t
numbers_PtrCompare number node op a b x y s t h =
    two_numbered number (typed.PtrCompare node op a b) (typed.PtrCompare (with_number node number) op x y) a b x y (λ (e f : TExpr). typed.PtrCompare (bare_node node) op e f) s t
    (typed_PtrCompare TExpr bare_step node op a b) (typed_PtrCompare TExpr bare_step (with_number node number) op x y) (typed_PtrCompare Numbers expr_numbers_step (with_number node number) op x y) h

-- a difference of pointers
pub numbers_PtrDistance : (number : ℕ) (node : Node) (a b x y : TExpr) (s t : Counts) → NumbersPair a b x y s t
    → NumbersOperands number (typed.PtrDistance node a b) (typed.PtrDistance (with_number node number) x y) s t
numbers_PtrDistance number node a b x y s t h =
    two_numbered number (typed.PtrDistance node a b) (typed.PtrDistance (with_number node number) x y) a b x y (λ (e f : TExpr). typed.PtrDistance (bare_node node) e f) s t
    (typed_PtrDistance TExpr bare_step node a b) (typed_PtrDistance TExpr bare_step (with_number node number) x y) (typed_PtrDistance Numbers expr_numbers_step (with_number node number) x y) h

-- a conditional expression
pub numbers_Cond : (number : ℕ) (node : Node) (a b c x y z : TExpr) (s m t : Counts) → NumbersExpr a x s m → NumbersPair b c y z m t
    → NumbersOperands number (typed.Cond node a b c) (typed.Cond (with_number node number) x y z) s t
numbers_Cond number node a b c x y z s m t h k =
    let made : typed.Cond (bare_node node) (bare_expr x) (bare_expr y) (bare_expr z) ≡ typed.Cond (bare_node node) (bare_expr a) (bare_expr b) (bare_expr c) =
    λ i. typed.Cond (bare_node node) (h.same i) (k.left i) (k.right i) in
    record {
      parts = before (expr_numbers x) (before (expr_numbers y) (expr_numbers z));
      same = typed_Cond TExpr bare_step (with_number node number) x y z ∙ (made ∙ sym (typed_Cond TExpr bare_step node a b c));
      listed = typed_Cond Numbers expr_numbers_step (with_number node number) x y z;
      counted = both_counted (expr_numbers x) (before (expr_numbers y) (expr_numbers z)) s m t h.counted k.counted;
    }

-- an assignment
pub numbers_Assign : (number : ℕ) (node : Node) (a b x y : TExpr) (s t : Counts) → NumbersPair a b x y s t
    → NumbersOperands number (typed.Assign node a b) (typed.Assign (with_number node number) x y) s t
numbers_Assign number node a b x y s t h =
    two_numbered number (typed.Assign node a b) (typed.Assign (with_number node number) x y) a b x y (λ (e f : TExpr). typed.Assign (bare_node node) e f) s t
    (typed_Assign TExpr bare_step node a b) (typed_Assign TExpr bare_step (with_number node number) x y) (typed_Assign Numbers expr_numbers_step (with_number node number) x y) h

-- a compound assignment
pub numbers_AssignBy : (number : ℕ) (node : Node) (change : Change) (a b x y : TExpr) (s t : Counts) → NumbersPair a b x y s t
    → NumbersOperands number (typed.AssignBy node change a b) (typed.AssignBy (with_number node number) change x y) s t
numbers_AssignBy number node change a b x y s t h =
    two_numbered number (typed.AssignBy node change a b) (typed.AssignBy (with_number node number) change x y) a b x y (λ (e f : TExpr). typed.AssignBy (bare_node node) change e f) s t
    (typed_AssignBy TExpr bare_step node change a b) (typed_AssignBy TExpr bare_step (with_number node number) change x y) (typed_AssignBy Numbers expr_numbers_step (with_number node number) change x y) h

-- a comma
pub numbers_Comma : (number : ℕ) (node : Node) (a b x y : TExpr) (s t : Counts) → NumbersPair a b x y s t
    → NumbersOperands number (typed.Comma node a b) (typed.Comma (with_number node number) x y) s t
numbers_Comma number node a b x y s t h =
    two_numbered number (typed.Comma node a b) (typed.Comma (with_number node number) x y) a b x y (λ (e f : TExpr). typed.Comma (bare_node node) e f) s t
    (typed_Comma TExpr bare_step node a b) (typed_Comma TExpr bare_step (with_number node number) x y) (typed_Comma Numbers expr_numbers_step (with_number node number) x y) h

-- a number that is the same
pub numbers_same : (number : ℕ) (node : Node) (value z : ℤ) (s : Counts) → z ≡ value
    → NumbersOperands number (typed.Number node value) (typed.Number (with_number node number) z) s s
numbers_same number node value z s is =
    subst (λ (y : ℤ). NumbersOperands number (typed.Number node value) (typed.Number (with_number node number) y) s s) (sym is) (numbers_Number number node value s)
