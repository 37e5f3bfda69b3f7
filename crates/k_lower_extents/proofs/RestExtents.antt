-- The extents of statements from each one on, as the code adds them up.
use Rattle.std.proofs.Common.{ℕ, ◌≡◌, ◌+◌, ◌<◌, List, [], ◌∷◌, ◌++◌, map, drop, get_or, length, refl, sym, ap, ◌∙◌, append_assoc}
use Rattle.std.proofs.lemmas.List.{drop_more}
use Rattle.k_num.specs.declared.place.Place.{Place}
use Rattle.k_types_meaning.specs.declared.tree.statement.TPart.{TPart}
use Rattle.k_types_meaning.specs.declared.tree.statement.TStmt.{TStmt}
use Rattle.k_evaluation.specs.States.{Program}
use Rattle.k_lower_code.specs.Statements.{lowered}
use Rattle.k_lower_code.specs.Stretches.{Inside, Stretch}
use Rattle.k_lower_code.specs.Switches.{PartLowered, ACase, ADefault, AStatement, statements_of}
use Rattle.k_lower_extents.specs.declared.extent.Extent.{Extent}
use Rattle.k_lower_extents.specs.Extents.{extent_of, lowered_part, rests_of}
use Rattle.k_lower_extents.specs.StatementSums as sums
use Rattle.k_lower_extents.proofs.StatementRows.{order_row}

-- the rests of stretches are those of their extents
pub rests_row : (program : Program) (place : Place) (ss : List Stretch) → rests_of program place ss ≡ sums.rests (map extent_of ss)
rests_row program place [] = refl
rests_row program place (s ∷ ss) = λ i. order_row program place (s ∷ ss) i ∷ rests_row program place ss i

-- one more statement is listed
pub one_more : (w : Inside) (ss : List TStmt) (i : ℕ) (s : TStmt) (x : Extent) (before more all : List Extent) → i < length ss → s ≡ get_or ss i s
    → more ≡ before ++ x ∷ [] → x ≡ extent_of (lowered w s) → before ++ map extent_of (map (lowered w) (drop i ss)) ≡ all
    → more ++ map extent_of (map (lowered w) (drop (i + 1) ss)) ≡ all
one_more w ss i s x before more all below is more_is x_is so_far =
    (let here : drop i ss ≡ s ∷ drop (i + 1) ss = drop_more ss i s below ∙ ap (λ (t : TStmt). t ∷ drop (i + 1) ss) (sym is) in
    ap (λ (xs : List Extent). xs ++ map extent_of (map (lowered w) (drop (i + 1) ss))) more_is
    ∙ (append_assoc before (x ∷ []) (map extent_of (map (lowered w) (drop (i + 1) ss)))
    ∙ (ap (λ (y : Extent). before ++ y ∷ map extent_of (map (lowered w) (drop (i + 1) ss))) x_is
    ∙ (ap (λ (ts : List TStmt). before ++ map extent_of (map (lowered w) ts)) (sym here) ∙ so_far))))

-- the statement that a part is stands in front of those behind it
statement_first : (p : PartLowered) (ps : List PartLowered) → map extent_of (statements_of (p ∷ ps)) ≡ map extent_of (statements_of (p ∷ [])) ++ map extent_of (statements_of ps)
statement_first (ACase place z) ps = refl
statement_first ADefault ps = refl
statement_first (AStatement s) ps = refl

-- one more part is gone over
pub one_part_more : (w : Inside) (ps : List TPart) (i : ℕ) (p : TPart) (before more all : List Extent) → i < length ps → p ≡ get_or ps i p
    → more ≡ before ++ map extent_of (statements_of (lowered_part w p ∷ [])) → before ++ map extent_of (statements_of (map (lowered_part w) (drop i ps))) ≡ all
    → more ++ map extent_of (statements_of (map (lowered_part w) (drop (i + 1) ps))) ≡ all
one_part_more w ps i p before more all below is more_is so_far =
    (let here : drop i ps ≡ p ∷ drop (i + 1) ps = drop_more ps i p below ∙ ap (λ (q : TPart). q ∷ drop (i + 1) ps) (sym is) in
    (let later : List PartLowered = map (lowered_part w) (drop (i + 1) ps) in
    ap (λ (xs : List Extent). xs ++ map extent_of (statements_of later)) more_is
    ∙ (append_assoc before (map extent_of (statements_of (lowered_part w p ∷ []))) (map extent_of (statements_of later))
    ∙ (ap (λ (xs : List Extent). before ++ xs) (sym (statement_first (lowered_part w p) later))
    ∙ (ap (λ (qs : List TPart). before ++ map extent_of (statements_of (map (lowered_part w) qs))) (sym here) ∙ so_far)))))
