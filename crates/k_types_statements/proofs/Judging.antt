-- What parts give together, from what each gives.
use Rattle.std.proofs.Common.{◌≡◌, ℕ, inl, inr, List, [], ◌∷◌, Result, Ok, Err, refl, sym, ◌∙◌, ap, subst}
use Rattle.k_tree.specs.declared.tree.declaration.Declarator.{Declarator}
use Rattle.k_types_meaning.specs.declared.fault.TypeFault.{TypeFault}
use Rattle.k_types_meaning.specs.declared.names.Meaning.{Meaning}
use Rattle.k_types_meaning.specs.declared.tree.declaration.TDeclarator.{TDeclarator}
use Rattle.k_types_meaning.specs.Declarations.{Saying, entered}
use Rattle.k_types_meaning.specs.Made.{Made, Fine, Faulty, both, two, then_made, Finds}
use Rattle.k_types_meaning.specs.Names.{Names}
use Rattle.k_types_meaning.specs.Statements.{Known, Judged, judged_as, declare, declare_all, scope_left, opened}
use Rattle.k_types_rules.specs.Views.{Refuses}
use Rattle.k_types_names.specs.Scoping.{outside}
use Rattle.k_types_declarations.specs.Results.{Goes}
use Rattle.k_types_statements.specs.Results.{Runs, closed}

-- the first fault of a part is that of what comes of it
pub refuses_then : {A B : Type 0} (f : TypeFault) (m : Made A) (next : A → Made B) → Refuses f m → Refuses f (then_made m next)
refuses_then f (Fine a) next (inl memory) = inl memory
refuses_then f (Fine a) next (inr none) = absurd none
refuses_then f (Faulty g gs) next refuses = refuses

-- the first fault of the first part is that of both
pub refuses_first : {A B C : Type 0} (f : TypeFault) (m : Made A) (n : Made B) (next : A → B → Made C) → Refuses f m → Refuses f (both m n next)
refuses_first f (Fine a) n next (inl memory) = inl memory
refuses_first f (Fine a) n next (inr none) = absurd none
refuses_first f (Faulty g gs) (Fine b) next refuses = refuses
refuses_first f (Faulty g gs) (Faulty h hs) next refuses = refuses

-- the first fault of the second part is that of both, where the first has none
refuses_fine : {A B C : Type 0} (f : TypeFault) (a : A) (n : Made B) (next : A → B → Made C) → Refuses f n → Refuses f (both (Fine a) n next)
refuses_fine f a (Fine b) next (inl memory) = inl memory
refuses_fine f a (Fine b) next (inr none) = absurd none
refuses_fine f a (Faulty g gs) next refuses = refuses

-- the same, where the second part is judged behind the first
pub refuses_second : {A B C : Type 0} (f : TypeFault) (a : A) (older middle : Known)
    → (first : Judged A) (second : Known → Made B) (next : A → B → Made C)
    → Runs (Ok a) older middle first → Refuses f (second middle) → Refuses f (both first.made (second first.after) next)
refuses_second f a older middle first second next (made, after, kept) refuses =
    subst (λ m. Refuses f (both m (second first.after) next)) (sym made)
    (subst (λ k. Refuses f (both (Fine a) (second k) next)) after (refuses_fine f a (second middle) next refuses))

-- what is found where this is made and known behind it
ran : {B : Type 0} (result : Result B TypeFault) (older newer : Known) (m n : Made B) (k : Known)
    → m ≡ n → newer ≡ k → outside newer.names ≡ outside older.names → Finds result n → Runs result older newer (record { made = m; after = k })
ran (Ok b) older newer m n k same after kept found = (same ∙ found, after, kept)
ran (Err f) older newer m n k same after kept found = subst (Refuses f) (sym same) found

-- a rule of one part
pub one_runs : {A B : Type 0} (result : Result B TypeFault) (a : A) (older newer : Known) (first : Judged A) (next : A → Made B)
    → Runs (Ok a) older newer first → Finds result (next a)
    → Runs result older newer (record { made = then_made first.made next; after = first.after })
one_runs result a older newer first next (made, after, kept) found =
    ran result older newer (then_made first.made next) (next a) first.after (ap (λ m. then_made m next) made) after kept found

-- a rule of two parts
pub two_run : {A B C : Type 0} (result : Result C TypeFault) (a : A) (b : B) (older middle newer : Known)
    → (first : Judged A) (second : Known → Judged B) (next : A → B → Made C)
    → Runs (Ok a) older middle first → Runs (Ok b) middle newer (second middle) → Finds result (next a b)
    → Runs result older newer (record { made = both first.made (second first.after).made next; after = (second first.after).after })
two_run result a b older middle newer first second next (made, after, kept) (made_too, after_too, kept_too) found =
    ran result older newer (both first.made (second first.after).made next) (next a b) (second first.after).after
    (ap (λ m. both m (second first.after).made next) made
    ∙ (ap (λ k. both (Fine a) (second k).made next) (sym after)
    ∙ ap (λ m. both (Fine a) m next) made_too))
    (after_too ∙ ap (λ k. (second k).after) after)
    (kept_too ∙ kept)
    found

-- two things as one
abbrev pub paired : {A B : Type 0} → A → B → Made (A × B)
paired a b = Fine (a, b)

-- two parts as one
abbrev pub pair_of : {A B : Type 0} → Judged A → (Known → Judged B) → Judged (A × B)
pair_of first second = record { made = two first.made (second first.after).made; after = (second first.after).after }

-- two parts are judged as one
pub pair_runs : {A B : Type 0} (a : A) (b : B) (older middle newer : Known) (first : Judged A) (second : Known → Judged B)
    → Runs (Ok a) older middle first → Runs (Ok b) middle newer (second middle) → Runs {A = A × B} (Ok (a, b)) older newer (pair_of first second)
pair_runs {A} {B} a b older middle newer first second runs more =
    two_run {A = A} {B = B} {C = A × B} (Ok (a, b)) a b older middle newer first second paired runs more refl

-- a scope is left
pub left_runs : {A : Type 0} (result : Result A TypeFault) (older inner newer : Known) (j : Judged A)
    → Runs result (opened older) inner j → newer ≡ closed inner → Runs result older newer (scope_left older j)
left_runs (Ok x) older inner newer j (made, after, kept) closes = (
  made,
  closes ∙ (ap (λ n. record inner { names = n }) kept ∙ ap (λ (k : Known). record k { names = older.names }) after),
  ap (λ (k : Known). outside k.names) closes ∙ ap outside kept,
)
left_runs (Err f) older inner newer j refuses closes = refuses

-- a name that is entered changes the innermost scope alone
entered_inside : (x : List ℕ) (m : Meaning) (names : Names) → outside (entered x m names) ≡ outside names
entered_inside x m [] = refl
entered_inside x m (scope ∷ names) = refl

-- so does a declarator
declare_inside : (s : Saying) (known : Known) (d : Declarator) → outside (declare s known d).after.names ≡ outside known.names
unfolding declare
declare_inside s known d = entered_inside d.name _ known.names

-- so does a declaration
declare_all_inside : (s : Saying) (known : Known) (list : List Declarator) → outside (declare_all s known list).after.names ≡ outside known.names
declare_all_inside s known [] = refl
declare_all_inside s known (d ∷ list) = declare_all_inside s (declare s known d).after list ∙ declare_inside s known d

-- declarators that were judged
pub declared_runs : (list : List TDeclarator) (s : Saying) (older newer : Known) (declarators : List Declarator)
    → Goes (Ok list) older newer (declare_all s older declarators) → Runs (Ok list) older newer (declare_all s older declarators)
declared_runs list s older newer declarators (made, after) =
    (made, after, ap (λ (k : Known). outside k.names) after ∙ declare_all_inside s older declarators)

-- a fault was found, which is the first
pub stops : {A : Type 0} (result : Result A TypeFault) (f : TypeFault) (older newer : Known) (j : Judged A)
    → result ≡ Err f → Refuses f j.made → Runs result older newer j
stops result f older newer j is refuses = subst (λ r. Runs r older newer j) (sym is) refuses

-- what is made of declarators that were judged, by what their specifiers say
pub declaring_runs : {B : Type 0} (result : Result B TypeFault) (list : List TDeclarator) (s t : Saying) (older newer : Known)
    → (declarators : List Declarator) (make : List TDeclarator → B)
    → s ≡ t → Goes (Ok list) older newer (declare_all s older declarators) → Finds result (Fine (make list))
    → Runs result older newer (judged_as make (declare_all t older declarators))
declaring_runs result list s t older newer declarators make same goes found =
    one_runs result list older newer (declare_all t older declarators) (λ x. Fine (make x))
    (declared_runs list t older newer declarators (subst (λ u. Goes (Ok list) older newer (declare_all u older declarators)) same goes)) found
