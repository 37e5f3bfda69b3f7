-- What judging gives for an expression, from what it gives for its parts and from what its rule gives.
use Rattle.std.proofs.Common.{◌≡◌, ℕ, List, ◌++◌, Result, Ok, Err, sym, ◌∙◌, ap, subst, append_assoc}
use Rattle.k_types_meaning.specs.declared.fault.TypeFault.{TypeFault}
use Rattle.k_types_meaning.specs.Conversions.{Typed}
use Rattle.k_types_meaning.specs.Made.{Made, Fine, both, three}
use Rattle.k_types_rules.specs.declared.judged.TypedExpr.{TypedExpr}
use Rattle.k_types_rules.specs.Views.{typed, Agrees}
use Rattle.k_types_expressions.specs.Results.{Gives}

-- a rule that takes these variables, where they are put behind the older ones
gives_taken : (result : Result TypedExpr TypeFault) (taken older newer : List ℕ) (m : Made Typed)
    → Agrees result taken m → newer ≡ older ++ taken → Gives result older newer m
gives_taken (Ok j) taken older newer m is same = (taken, is, same)
gives_taken (Err f) taken older newer m is same = is

-- a rule of two operands
pub two_gives : (result : Result TypedExpr TypeFault) (rule : Typed → Typed → Made Typed) (j k : TypedExpr) (older middle newer : List ℕ) (m n : Made Typed)
    → Gives (Ok j) older middle m → Gives (Ok k) middle newer n
    → ((l r : List ℕ) → Agrees result (l ++ r) (rule (typed j l) (typed k r)))
    → Gives result older newer (both m n rule)
two_gives result rule j k older middle newer m n (l, m_is, first) (r, n_is, second) agrees =
    gives_taken result (l ++ r) older newer (both m n rule)
    (subst (λ v. Agrees result (l ++ r) (both v n rule)) (sym m_is)
    (subst (λ v. Agrees result (l ++ r) (both (Fine (typed j l)) v rule)) (sym n_is) (agrees l r)))
    (second ∙ (ap (λ v. v ++ r) first ∙ append_assoc older l r))

-- a rule of three operands
pub three_gives : (result : Result TypedExpr TypeFault) (rule : Typed → Typed → Typed → Made Typed) (i j k : TypedExpr)
    → (older a b newer : List ℕ) (m n o : Made Typed)
    → Gives (Ok i) older a m → Gives (Ok j) a b n → Gives (Ok k) b newer o
    → ((x y z : List ℕ) → Agrees result (x ++ (y ++ z)) (rule (typed i x) (typed j y) (typed k z)))
    → Gives result older newer (three m n o rule)
three_gives result rule i j k older a b newer m n o (x, m_is, first) (y, n_is, second) (z, o_is, third) agrees =
    gives_taken result (x ++ (y ++ z)) older newer (three m n o rule)
    (subst (λ v. Agrees result (x ++ (y ++ z)) (three v n o rule)) (sym m_is)
    (subst (λ v. Agrees result (x ++ (y ++ z)) (three (Fine (typed i x)) v o rule)) (sym n_is)
    (subst (λ v. Agrees result (x ++ (y ++ z)) (three (Fine (typed i x)) (Fine (typed j y)) v rule)) (sym o_is) (agrees x y z))))
    (third ∙ (ap (λ v. v ++ z) (second ∙ ap (λ v. v ++ y) first) ∙ (append_assoc (older ++ x) y z ∙ append_assoc older x (y ++ z))))
