-- Declarators that are declared one after the other.
use Rattle.std.proofs.Common.{◌≡◌, ℕ, false, ◌+◌, ◌<◌, ◌≤◌, List, [], ◌∷◌, ◌++◌, Ok, drop, get_or, length, sym, ap, ◌∙◌, subst, append-nil}
use Rattle.std.proofs.lemmas.List.{drop_all}
use Rattle.k_tree.specs.declared.tree.declaration.Declarator.{Declarator}
use Rattle.k_types_meaning.specs.declared.fault.TypeFault.{TypeFault}
use Rattle.k_types_meaning.specs.declared.tree.declaration.TDeclarator.{TDeclarator}
use Rattle.k_types_meaning.specs.declared.tree.declaration.TInit.{TInit}
use Rattle.k_types_meaning.specs.Declarations.{Object, Saying, declarator_judged, names_behind, object_fixed, type_or_int}
use Rattle.k_types_meaning.specs.Made.{Fine, then_made}
use Rattle.k_types_meaning.specs.Names.{Names}
use Rattle.k_types_meaning.specs.Statements.{Judged, Known, Variable, declare, declare_all, object_taken, variable_type}
use Rattle.k_types_rules.specs.Views.{Refuses}
use Rattle.k_types_declarations.specs.declared.declarator.Begun.{Begun}
use Rattle.k_types_declarations.specs.Objects.{Comes}
use Rattle.k_types_declarations.specs.Results.{Goes}
use Rattle.k_types_declarations.proofs.Lists.{made_before, none_before, one_more, refuses_both, refuses_before, refuses_then, rest_from}

-- a variable was declared
pub declare_goes : (s : Saying) (known : Known) (d : Declarator) (b : Begun) (n : ℕ) (behind : Names) (variables : List Variable) (taken : List ℕ) (init : TInit)
    → init ≡ b.init → n ≡ length known.variables → Comes (Ok b) false s n known.names d known.taken taken behind
    → variables ≡ known.variables ++ record { place = d.place; of = b.of } ∷ []
    → Goes (Ok (record { place = d.place; variable = n; init = init })) known (record { names = behind; variables = variables; taken = taken }) (declare s known d)
unfolding declare
declare_goes s known d b n behind variables taken init begins count (more, judged, put, names, type_is) added =
    let object : Object = record { place = d.place; name = d.name; of = b.of; fixed = object_fixed s.fixed d.stars; init = b.init; taken = more } in
    let m : declarator_judged false s (length known.variables) known.names d ≡ Fine object =
    subst (λ k. declarator_judged false s k known.names d ≡ Fine object) count judged in
    let of : b.of ≡ variable_type s known d = ap type_or_int (sym type_is) in (
      ap (λ v. then_made v (λ (o : Object). Fine (record { place = o.place; variable = length known.variables; init = o.init }))) m
          ∙ (ap (λ k. Fine (record { place = d.place; variable = k; init = b.init })) (sym count)
          ∙ ap (λ k. Fine (record { place = d.place; variable = n; init = k })) (sym begins)),
      λ j. record {
        names = (names ∙ ap (λ k. names_behind false s k known.names d) count) j;
        variables = (added ∙ ap (λ t. known.variables ++ record { place = d.place; of = t } ∷ []) of) j;
        taken = (put ∙ ap (λ v. known.taken ++ object_taken v) (sym m)) j;
      },
    )

-- a variable was not declared
pub declare_refused : (s : Saying) (known : Known) (d : Declarator) (n : ℕ) (f : TypeFault)
    → n ≡ length known.variables → Refuses f (declarator_judged false s n known.names d) → Refuses f (declare s known d).made
unfolding declare
declare_refused s known d n f count refuses =
    refuses_then f (declarator_judged false s (length known.variables) known.names d)
    (λ (o : Object). Fine (record { place = o.place; variable = length known.variables; init = o.init }))
    (subst (λ k. Refuses f (declarator_judged false s k known.names d)) count refuses)

module _ (s : Saying) (list : List Declarator) (whole : Judged (List TDeclarator)) where
  -- the declarators before one were declared, and with those from it on they come to the whole
  abbrev pub Declares : ℕ → List TDeclarator → Known → Type 0
  Declares i made known =
      (made_before made (declare_all s known (drop i list)).made ≡ whole.made) × ((declare_all s known (drop i list)).after ≡ whole.after)

  -- none was declared
  pub declares_none : (known : Known) → declare_all s known list ≡ whole → Declares 0 [] known
  declares_none known is = (none_before (declare_all s known list).made ∙ ap (λ (j : Judged (List TDeclarator)). j.made) is, ap (λ (j : Judged (List TDeclarator)). j.after) is)

  -- one more was declared
  pub declares_more : (i : ℕ) (d : Declarator) (made items : List TDeclarator) (t : TDeclarator) (known next : Known)
      → i < length list → d ≡ get_or list i d → Declares i made known → Goes (Ok t) known next (declare s known d) → items ≡ made ++ t ∷ []
      → Declares (i + 1) items next
  declares_more i d made items t known next inside is (so_far, last) (fine, behind) added =
      subst (λ l. Declares (i + 1) l next) (sym added)
      (subst (Declares (i + 1) (made ++ t ∷ [])) (sym behind) (
        sym (one_more made t (declare s known d).made (declare_all s (declare s known d).after (drop (i + 1) list)).made fine)
            ∙ (ap (λ rest. made_before made (declare_all s known rest).made) (sym (rest_from list i d inside is)) ∙ so_far),
        ap (λ rest. (declare_all s known rest).after) (sym (rest_from list i d inside is)) ∙ last,
      ))

  -- all were declared
  pub declares_all : (i : ℕ) (made : List TDeclarator) (known older : Known) → length list ≤ i → Declares i made known → Goes (Ok made) older known whole
  declares_all i made known older end (so_far, last) = (
    sym so_far ∙ (ap (λ rest. made_before made (declare_all s known rest).made) (drop_all i list end) ∙ ap Fine (append-nil made)),
    sym (ap (λ rest. (declare_all s known rest).after) (drop_all i list end)) ∙ last,
  )

  -- one has a fault
  pub declares_refused : (i : ℕ) (d : Declarator) (made : List TDeclarator) (known : Known) (f : TypeFault)
      → i < length list → d ≡ get_or list i d → Declares i made known → Refuses f (declare s known d).made → Refuses f whole.made
  declares_refused i d made known f inside is (so_far, _) refuses =
      subst (Refuses f) so_far
      (refuses_before f made (declare_all s known (drop i list)).made
      (subst (λ rest. Refuses f (declare_all s known rest).made) (sym (rest_from list i d inside is))
      (refuses_both f (declare s known d).made (declare_all s (declare s known d).after (drop (i + 1) list)).made (λ x xs. Fine (x ∷ xs)) refuses)))
