-- An expression without its numbers has the same form, and does the same with variables.
use Rattle.std.proofs.Common.{◌≡◌, List, [], ◌∷◌, ◌++◌, map, Option, Some, None, refl, sym, ◌∙◌, ap, subst}
use Rattle.k_types_meaning.specs.declared.tree.expression.TExpr.{TExpr, fold_out-TExpr, fold-roll-TExpr, ind-TExpr, map-TExpr, out-TExpr, out-roll-TExpr}
use Rattle.k_types_meaning.specs.declared.tree.expression.TExpr.TheOpen.{TExpr-F}
use Rattle.k_types_meaning.specs.declared.tree.expression.TExpr.TheVariants as typed
use Rattle.k_types_meaning.specs.Bare.{bare_node, bare_step, bare_expr, bare_option}
use Rattle.k_types_meaning.proofs.Folds.{typed_Number, typed_Str, typed_Object, typed_Variable, typed_Index, typed_Call, typed_Getchar, typed_Putchar, typed_Puts, typed_Printf, typed_Post, typed_Pre, typed_Address, typed_Deref, typed_Plus, typed_Unary, typed_Convert, typed_Cast, typed_Binary, typed_Both, typed_Either, typed_Forward, typed_Onto, typed_Back, typed_PtrCompare, typed_PtrDistance, typed_Cond, typed_Assign, typed_AssignBy, typed_Comma}
use Rattle.k_marks_meaning.specs.Uses.{Used, used, uses_step, of_uses, in_order, target, option_uses}
use Rattle.k_marks_laws.proofs.OneVariable.{uses_at}

-- the form of an expression without the number of its node
abbrev pub bare_form : TExpr-F TExpr → TExpr-F TExpr
bare_form (TExpr-F.Number node value) = TExpr-F.Number (bare_node node) value
bare_form (TExpr-F.Str node n bytes) = TExpr-F.Str (bare_node node) 0 bytes
bare_form (TExpr-F.Object node n) = TExpr-F.Object (bare_node node) n
bare_form (TExpr-F.Variable node n) = TExpr-F.Variable (bare_node node) n
bare_form (TExpr-F.Index node a b) = TExpr-F.Index (bare_node node) a b
bare_form (TExpr-F.Call node f args) = TExpr-F.Call (bare_node node) f args
bare_form (TExpr-F.Getchar node) = TExpr-F.Getchar (bare_node node)
bare_form (TExpr-F.Putchar node a) = TExpr-F.Putchar (bare_node node) a
bare_form (TExpr-F.Puts node a) = TExpr-F.Puts (bare_node node) a
bare_form (TExpr-F.Printf node format args) = TExpr-F.Printf (bare_node node) format args
bare_form (TExpr-F.Post node change a) = TExpr-F.Post (bare_node node) change a
bare_form (TExpr-F.Pre node change a) = TExpr-F.Pre (bare_node node) change a
bare_form (TExpr-F.Address node a) = TExpr-F.Address (bare_node node) a
bare_form (TExpr-F.Deref node a) = TExpr-F.Deref (bare_node node) a
bare_form (TExpr-F.Plus node a) = TExpr-F.Plus (bare_node node) a
bare_form (TExpr-F.Unary node op kind a) = TExpr-F.Unary (bare_node node) op kind a
bare_form (TExpr-F.Convert node a) = TExpr-F.Convert (bare_node node) a
bare_form (TExpr-F.Cast node a) = TExpr-F.Cast (bare_node node) a
bare_form (TExpr-F.Binary node op kind a b) = TExpr-F.Binary (bare_node node) op kind a b
bare_form (TExpr-F.Both node a b) = TExpr-F.Both (bare_node node) a b
bare_form (TExpr-F.Either node a b) = TExpr-F.Either (bare_node node) a b
bare_form (TExpr-F.Forward node a b) = TExpr-F.Forward (bare_node node) a b
bare_form (TExpr-F.Onto node a b) = TExpr-F.Onto (bare_node node) a b
bare_form (TExpr-F.Back node a b) = TExpr-F.Back (bare_node node) a b
bare_form (TExpr-F.PtrCompare node op a b) = TExpr-F.PtrCompare (bare_node node) op a b
bare_form (TExpr-F.PtrDistance node a b) = TExpr-F.PtrDistance (bare_node node) a b
bare_form (TExpr-F.Cond node a b c) = TExpr-F.Cond (bare_node node) a b c
bare_form (TExpr-F.Assign node a b) = TExpr-F.Assign (bare_node node) a b
bare_form (TExpr-F.AssignBy node change a b) = TExpr-F.AssignBy (bare_node node) change a b
bare_form (TExpr-F.Comma node a b) = TExpr-F.Comma (bare_node node) a b

step_out : (y : TExpr-F TExpr) → out-TExpr (bare_step y) ≡ bare_form y
step_out (TExpr-F.Number node value) =
    ap out-TExpr (sym (typed.rolls-Number (bare_node node) value)) ∙ out-roll-TExpr (TExpr-F.Number (bare_node node) value)
step_out (TExpr-F.Str node n bytes) =
    ap out-TExpr (sym (typed.rolls-Str (bare_node node) 0 bytes)) ∙ out-roll-TExpr (TExpr-F.Str (bare_node node) 0 bytes)
step_out (TExpr-F.Object node n) =
    ap out-TExpr (sym (typed.rolls-Object (bare_node node) n)) ∙ out-roll-TExpr (TExpr-F.Object (bare_node node) n)
step_out (TExpr-F.Variable node n) =
    ap out-TExpr (sym (typed.rolls-Variable (bare_node node) n)) ∙ out-roll-TExpr (TExpr-F.Variable (bare_node node) n)
step_out (TExpr-F.Index node a b) =
    ap out-TExpr (sym (typed.rolls-Index (bare_node node) a b)) ∙ out-roll-TExpr (TExpr-F.Index (bare_node node) a b)
step_out (TExpr-F.Call node f args) =
    ap out-TExpr (sym (typed.rolls-Call (bare_node node) f args)) ∙ out-roll-TExpr (TExpr-F.Call (bare_node node) f args)
step_out (TExpr-F.Getchar node) =
    ap out-TExpr (sym (typed.rolls-Getchar (bare_node node))) ∙ out-roll-TExpr (TExpr-F.Getchar (bare_node node))
step_out (TExpr-F.Putchar node a) =
    ap out-TExpr (sym (typed.rolls-Putchar (bare_node node) a)) ∙ out-roll-TExpr (TExpr-F.Putchar (bare_node node) a)
step_out (TExpr-F.Puts node a) =
    ap out-TExpr (sym (typed.rolls-Puts (bare_node node) a)) ∙ out-roll-TExpr (TExpr-F.Puts (bare_node node) a)
step_out (TExpr-F.Printf node format args) =
    ap out-TExpr (sym (typed.rolls-Printf (bare_node node) format args)) ∙ out-roll-TExpr (TExpr-F.Printf (bare_node node) format args)
step_out (TExpr-F.Post node change a) =
    ap out-TExpr (sym (typed.rolls-Post (bare_node node) change a)) ∙ out-roll-TExpr (TExpr-F.Post (bare_node node) change a)
step_out (TExpr-F.Pre node change a) =
    ap out-TExpr (sym (typed.rolls-Pre (bare_node node) change a)) ∙ out-roll-TExpr (TExpr-F.Pre (bare_node node) change a)
step_out (TExpr-F.Address node a) =
    ap out-TExpr (sym (typed.rolls-Address (bare_node node) a)) ∙ out-roll-TExpr (TExpr-F.Address (bare_node node) a)
step_out (TExpr-F.Deref node a) =
    ap out-TExpr (sym (typed.rolls-Deref (bare_node node) a)) ∙ out-roll-TExpr (TExpr-F.Deref (bare_node node) a)
step_out (TExpr-F.Plus node a) =
    ap out-TExpr (sym (typed.rolls-Plus (bare_node node) a)) ∙ out-roll-TExpr (TExpr-F.Plus (bare_node node) a)
step_out (TExpr-F.Unary node op kind a) =
    ap out-TExpr (sym (typed.rolls-Unary (bare_node node) op kind a)) ∙ out-roll-TExpr (TExpr-F.Unary (bare_node node) op kind a)
step_out (TExpr-F.Convert node a) =
    ap out-TExpr (sym (typed.rolls-Convert (bare_node node) a)) ∙ out-roll-TExpr (TExpr-F.Convert (bare_node node) a)
step_out (TExpr-F.Cast node a) =
    ap out-TExpr (sym (typed.rolls-Cast (bare_node node) a)) ∙ out-roll-TExpr (TExpr-F.Cast (bare_node node) a)
step_out (TExpr-F.Binary node op kind a b) =
    ap out-TExpr (sym (typed.rolls-Binary (bare_node node) op kind a b)) ∙ out-roll-TExpr (TExpr-F.Binary (bare_node node) op kind a b)
step_out (TExpr-F.Both node a b) =
    ap out-TExpr (sym (typed.rolls-Both (bare_node node) a b)) ∙ out-roll-TExpr (TExpr-F.Both (bare_node node) a b)
step_out (TExpr-F.Either node a b) =
    ap out-TExpr (sym (typed.rolls-Either (bare_node node) a b)) ∙ out-roll-TExpr (TExpr-F.Either (bare_node node) a b)
step_out (TExpr-F.Forward node a b) =
    ap out-TExpr (sym (typed.rolls-Forward (bare_node node) a b)) ∙ out-roll-TExpr (TExpr-F.Forward (bare_node node) a b)
step_out (TExpr-F.Onto node a b) =
    ap out-TExpr (sym (typed.rolls-Onto (bare_node node) a b)) ∙ out-roll-TExpr (TExpr-F.Onto (bare_node node) a b)
step_out (TExpr-F.Back node a b) =
    ap out-TExpr (sym (typed.rolls-Back (bare_node node) a b)) ∙ out-roll-TExpr (TExpr-F.Back (bare_node node) a b)
step_out (TExpr-F.PtrCompare node op a b) =
    ap out-TExpr (sym (typed.rolls-PtrCompare (bare_node node) op a b)) ∙ out-roll-TExpr (TExpr-F.PtrCompare (bare_node node) op a b)
step_out (TExpr-F.PtrDistance node a b) =
    ap out-TExpr (sym (typed.rolls-PtrDistance (bare_node node) a b)) ∙ out-roll-TExpr (TExpr-F.PtrDistance (bare_node node) a b)
step_out (TExpr-F.Cond node a b c) =
    ap out-TExpr (sym (typed.rolls-Cond (bare_node node) a b c)) ∙ out-roll-TExpr (TExpr-F.Cond (bare_node node) a b c)
step_out (TExpr-F.Assign node a b) =
    ap out-TExpr (sym (typed.rolls-Assign (bare_node node) a b)) ∙ out-roll-TExpr (TExpr-F.Assign (bare_node node) a b)
step_out (TExpr-F.AssignBy node change a b) =
    ap out-TExpr (sym (typed.rolls-AssignBy (bare_node node) change a b)) ∙ out-roll-TExpr (TExpr-F.AssignBy (bare_node node) change a b)
step_out (TExpr-F.Comma node a b) =
    ap out-TExpr (sym (typed.rolls-Comma (bare_node node) a b)) ∙ out-roll-TExpr (TExpr-F.Comma (bare_node node) a b)

-- the form of an expression whose numbers are gone, by the form that it had
abbrev pub bare_of : TExpr-F TExpr → TExpr-F TExpr
bare_of y = bare_form (map-TExpr TExpr TExpr bare_expr y)

pub bare_out : (e : TExpr) → out-TExpr (bare_expr e) ≡ bare_of (out-TExpr e)
bare_out e = ap out-TExpr (fold_out-TExpr TExpr bare_step e) ∙ step_out (map-TExpr TExpr TExpr bare_expr (out-TExpr e))

-- WHAT IT DOES WITH VARIABLES
abbrev SameUses : TExpr → Type 0
SameUses e = used (bare_expr e) ≡ used e

all_same : (args : List ((e : TExpr) × SameUses e)) → map used (map bare_expr (map (λ (x : (e : TExpr) × SameUses e). x.0) args)) ≡ map used (map (λ (x : (e : TExpr) × SameUses e). x.0) args)
all_same [] = refl
all_same (x ∷ xs) = λ i. x.1 i ∷ all_same xs i

abbrev UsesLayer : TExpr-F TExpr → Type 0
UsesLayer z = used (bare_step (map-TExpr TExpr TExpr bare_expr z)) ≡ uses_at z

layer : (y : TExpr-F ((e : TExpr) × SameUses e)) → UsesLayer (map-TExpr ((e : TExpr) × SameUses e) TExpr (λ (x : (e : TExpr) × SameUses e). x.0) y)
layer (TExpr-F.Number node value) =
    typed_Number Used uses_step (bare_node node) value
layer (TExpr-F.Str node n bytes) =
    typed_Str Used uses_step (bare_node node) 0 bytes
layer (TExpr-F.Object node n) =
    typed_Object Used uses_step (bare_node node) n
layer (TExpr-F.Variable node n) =
    typed_Variable Used uses_step (bare_node node) n
layer (TExpr-F.Index node a b) =
    typed_Index Used uses_step (bare_node node) (bare_expr a.0) (bare_expr b.0) ∙ (λ i. of_uses ((a.1 i).uses ++ (b.1 i).uses))
layer (TExpr-F.Call node f args) =
    typed_Call Used uses_step (bare_node node) f (map bare_expr (map (λ (x : (e : TExpr) × SameUses e). x.0) args)) ∙ ap (λ (us : List Used). of_uses (in_order us)) (all_same args)
layer (TExpr-F.Getchar node) =
    typed_Getchar Used uses_step (bare_node node)
layer (TExpr-F.Putchar node a) =
    typed_Putchar Used uses_step (bare_node node) (bare_expr a.0) ∙ ap (λ (u : Used). of_uses u.uses) a.1
layer (TExpr-F.Puts node a) =
    typed_Puts Used uses_step (bare_node node) (bare_expr a.0) ∙ ap (λ (u : Used). of_uses u.uses) a.1
layer (TExpr-F.Printf node format args) =
    typed_Printf Used uses_step (bare_node node) format (map bare_expr (map (λ (x : (e : TExpr) × SameUses e). x.0) args)) ∙ ap (λ (us : List Used). of_uses (in_order us)) (all_same args)
layer (TExpr-F.Post node change a) =
    typed_Post Used uses_step (bare_node node) change (bare_expr a.0) ∙ ap (λ (u : Used). of_uses (target u)) a.1
layer (TExpr-F.Pre node change a) =
    typed_Pre Used uses_step (bare_node node) change (bare_expr a.0) ∙ ap (λ (u : Used). of_uses (target u)) a.1
layer (TExpr-F.Address node a) =
    typed_Address Used uses_step (bare_node node) (bare_expr a.0) ∙ ap (λ (u : Used). of_uses u.uses) a.1
layer (TExpr-F.Deref node a) =
    typed_Deref Used uses_step (bare_node node) (bare_expr a.0) ∙ ap (λ (u : Used). of_uses u.uses) a.1
layer (TExpr-F.Plus node a) =
    typed_Plus Used uses_step (bare_node node) (bare_expr a.0) ∙ ap (λ (u : Used). of_uses u.uses) a.1
layer (TExpr-F.Unary node op kind a) =
    typed_Unary Used uses_step (bare_node node) op kind (bare_expr a.0) ∙ ap (λ (u : Used). of_uses u.uses) a.1
layer (TExpr-F.Convert node a) =
    typed_Convert Used uses_step (bare_node node) (bare_expr a.0) ∙ ap (λ (u : Used). of_uses u.uses) a.1
layer (TExpr-F.Cast node a) =
    typed_Cast Used uses_step (bare_node node) (bare_expr a.0) ∙ ap (λ (u : Used). of_uses u.uses) a.1
layer (TExpr-F.Binary node op kind a b) =
    typed_Binary Used uses_step (bare_node node) op kind (bare_expr a.0) (bare_expr b.0) ∙ (λ i. of_uses ((a.1 i).uses ++ (b.1 i).uses))
layer (TExpr-F.Both node a b) =
    typed_Both Used uses_step (bare_node node) (bare_expr a.0) (bare_expr b.0) ∙ (λ i. of_uses ((a.1 i).uses ++ (b.1 i).uses))
layer (TExpr-F.Either node a b) =
    typed_Either Used uses_step (bare_node node) (bare_expr a.0) (bare_expr b.0) ∙ (λ i. of_uses ((a.1 i).uses ++ (b.1 i).uses))
layer (TExpr-F.Forward node a b) =
    typed_Forward Used uses_step (bare_node node) (bare_expr a.0) (bare_expr b.0) ∙ (λ i. of_uses ((a.1 i).uses ++ (b.1 i).uses))
layer (TExpr-F.Onto node a b) =
    typed_Onto Used uses_step (bare_node node) (bare_expr a.0) (bare_expr b.0) ∙ (λ i. of_uses ((a.1 i).uses ++ (b.1 i).uses))
layer (TExpr-F.Back node a b) =
    typed_Back Used uses_step (bare_node node) (bare_expr a.0) (bare_expr b.0) ∙ (λ i. of_uses ((a.1 i).uses ++ (b.1 i).uses))
layer (TExpr-F.PtrCompare node op a b) =
    typed_PtrCompare Used uses_step (bare_node node) op (bare_expr a.0) (bare_expr b.0) ∙ (λ i. of_uses ((a.1 i).uses ++ (b.1 i).uses))
layer (TExpr-F.PtrDistance node a b) =
    typed_PtrDistance Used uses_step (bare_node node) (bare_expr a.0) (bare_expr b.0) ∙ (λ i. of_uses ((a.1 i).uses ++ (b.1 i).uses))
layer (TExpr-F.Cond node a b c) =
    typed_Cond Used uses_step (bare_node node) (bare_expr a.0) (bare_expr b.0) (bare_expr c.0) ∙ (λ i. of_uses ((a.1 i).uses ++ ((b.1 i).uses ++ (c.1 i).uses)))
layer (TExpr-F.Assign node a b) =
    typed_Assign Used uses_step (bare_node node) (bare_expr a.0) (bare_expr b.0) ∙ (λ i. of_uses (target (a.1 i) ++ (b.1 i).uses))
layer (TExpr-F.AssignBy node change a b) =
    typed_AssignBy Used uses_step (bare_node node) change (bare_expr a.0) (bare_expr b.0) ∙ (λ i. of_uses (target (a.1 i) ++ (b.1 i).uses))
layer (TExpr-F.Comma node a b) =
    typed_Comma Used uses_step (bare_node node) (bare_expr a.0) (bare_expr b.0) ∙ (λ i. of_uses ((a.1 i).uses ++ (b.1 i).uses))

pub used_bare : (e : TExpr) → used (bare_expr e) ≡ used e
used_bare =
    ind-TExpr SameUses
    (λ x y is.
    ap used (fold-roll-TExpr TExpr bare_step x) ∙ subst UsesLayer is (layer y) ∙ sym (fold-roll-TExpr Used uses_step x))

pub option_bare : (e : Option TExpr) → option_uses (bare_option e) ≡ option_uses e
option_bare None = refl
option_bare (Some e) = ap (λ (u : Used). u.uses) (used_bare e)
