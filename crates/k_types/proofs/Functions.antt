-- What prototypes and definitions come to.
use Rattle.std.proofs.Common.{ℕ, ◌≡◌, refl, sym, ap, ◌∙◌, subst, Bool, true, false, List, [], ◌∷◌, length, Result, Ok, Err}
use Rattle.k_num.specs.declared.place.Place.{Place}
use Rattle.k_tree.specs.declared.tree.statement.Stmt.{Stmt}
use Rattle.k_tree.specs.declared.tree.unit.Head.{Head}
use Rattle.k_types_meaning.specs.declared.fault.TypeFault.{TypeFault}
use Rattle.k_types_meaning.specs.declared.names.Signature.{Signature}
use Rattle.k_types_meaning.specs.declared.tree.statement.TStmt.{TStmt}
use Rattle.k_types_meaning.specs.declared.tree.unit.TFunc.{TFunc}
use Rattle.k_types_meaning.specs.declared.types.CType.{CType}
use Rattle.k_types_meaning.specs.declared.names.Meaning.TheVariants as meaning
use Rattle.k_types_meaning.specs.Declarations.{entered, type_or_int}
use Rattle.k_types_meaning.specs.Functions.{body_names, function_body, function_judged, function_made, function_tree, head_params, in_function, meaning_here, names_behind_head, params_of, prototype_judged, result_type, signature}
use Rattle.k_types_meaning.specs.Made.{Made, Fine, both, then_made}
use Rattle.k_types_meaning.specs.Names.{Names, meaning_of}
use Rattle.k_types_meaning.specs.Statements.{Judged, Known, judge_body}
use Rattle.k_types_rules.specs.Views.{Refuses}
use Rattle.k_types_names.specs.Scoping.{outside}
use Rattle.k_types_statements.specs.Results.{Runs}
use Rattle.k_types.specs.declared.standing.Standing.{Standing}
use Rattle.k_types.specs.Functions.{Declares, GivesFunction, entered_function, variables_named}
use Rattle.k_types.specs.Heads.{HasHead, IsFile}
use Rattle.k_types.specs.Results.{MakesOrRefuses}
use Rattle.k_types.specs.Standings.{standing_made}
use Rattle.k_types.proofs.Faults.{refuses_first, refuses_second, refuses_then}
use Rattle.k_types.proofs.Heads.{entered_body, head_outside, here_is, outside_named}

module _ (defined : List (List ℕ)) (again : Bool) (names : Names) (p : Place) (head : Head) where
  -- whether the function may be declared
  abbrev pub stands : Bool → Made Signature
  stands b = function_made p head.name (signature defined names head) b (result_type head) (meaning_here names head.name)

  -- a prototype
  pub prototype_fine : (types : List CType) → (head_params false names head).made ≡ Fine types → stands false ≡ Fine (signature defined names head)
      → prototype_judged defined names p head ≡ Fine (signature defined names head)
  unfolding prototype_judged
  prototype_fine types made may = ap (λ m. then_made m (λ (ts : List CType). stands false)) made ∙ may

  pub prototype_params : (f : TypeFault) → Refuses f (head_params false names head).made → Refuses f (prototype_judged defined names p head)
  unfolding prototype_judged
  prototype_params f refuses = refuses_then f (head_params false names head).made (λ types. stands false) refuses

  pub prototype_stands : (f : TypeFault) (types : List CType) → (head_params false names head).made ≡ Fine types → Refuses f (stands false)
      → Refuses f (prototype_judged defined names p head)
  unfolding prototype_judged
  prototype_stands f types made refuses = subst (λ m. Refuses f (then_made m (λ (ts : List CType). stands false))) (sym made) refuses

  module _ (body : List Stmt) (close : Place) where
    -- the block of a definition
    abbrev pub block : Judged (List TStmt)
    block = function_body defined names head (head_params true names head).after body

    -- the tree of a definition
    abbrev pub tree : List CType → List TStmt → Signature → Made TFunc
    tree types trees f = Fine (function_tree p head body close f.result (length types) block.after trees)

    -- what comes of parameters and a block
    abbrev judged_with : List CType → List TStmt → Made TFunc
    judged_with types trees = then_made (stands again) (tree types trees)

    -- a definition
    pub function_fine : (types : List CType) (trees : List TStmt) → (head_params true names head).made ≡ Fine types → block.made ≡ Fine trees
        → stands again ≡ Fine (signature defined names head)
        → function_judged defined again names p head body close
        ≡ Fine (function_tree p head body close (signature defined names head).result (length types) block.after trees)
    unfolding function_judged
    function_fine types trees made judged may =
        (λ i. both (made i) (judged i) judged_with) ∙ ap (λ m. then_made m (tree types trees)) may

    pub function_params : (f : TypeFault) → Refuses f (head_params true names head).made → Refuses f (function_judged defined again names p head body close)
    unfolding function_judged
    function_params f refuses = refuses_first f (head_params true names head).made block.made judged_with refuses

    pub function_block : (f : TypeFault) (types : List CType) → (head_params true names head).made ≡ Fine types → Refuses f block.made
        → Refuses f (function_judged defined again names p head body close)
    unfolding function_judged
    function_block f types made refuses =
        subst (λ m. Refuses f (both m block.made judged_with)) (sym made) (refuses_second f types block.made judged_with refuses)

    pub function_stands : (f : TypeFault) (types : List CType) (trees : List TStmt) → (head_params true names head).made ≡ Fine types → block.made ≡ Fine trees
        → Refuses f (stands again) → Refuses f (function_judged defined again names p head body close)
    unfolding function_judged
    function_stands f types trees made judged refuses =
        subst (Refuses f) (sym (λ i. both (made i) (judged i) judged_with)) (refuses_then f (stands again) (tree types trees) refuses)

-- whether a function may be declared, as it was judged where its parameters' scope was closed
module _ (defined : List (List ℕ)) (again : Bool) (names closed : Names) (head : Head) (f : Signature) (standing : Standing) (file : IsFile names)
    (closes : closed ≡ names) (signed : f ≡ signature defined names head)
    (stand : (q : Place) (x : List ℕ) → standing_made standing q x f ≡ function_made q x f again (result_type head) (meaning_of closed head.name)) where
  stands_so : (p : Place) → standing_made standing p head.name f ≡ stands defined again names p head again
  stands_so p =
      stand p head.name
      ∙ (ap (λ ns. function_made p head.name f again (result_type head) (meaning_of ns head.name)) closes
      ∙ (ap (function_made p head.name f again (result_type head)) (here_is names head.name file)
      ∙ ap (λ g. function_made p head.name g again (result_type head) (meaning_here names head.name)) signed))

  -- it may
  pub may_stand : (p : Place) → ((g : Signature) → MakesOrRefuses (Ok tt) g (standing_made standing p head.name g)) → stands defined again names p head again ≡ Fine (signature defined names head)
  may_stand p makes = sym (stands_so p) ∙ (makes f ∙ ap (λ (g : Signature). Fine g) signed)

  -- it may not
  pub may_not_stand : (p : Place) (e : TypeFault) → ((g : Signature) → MakesOrRefuses (Err e) g (standing_made standing p head.name g)) → Refuses e (stands defined again names p head again)
  may_not_stand p e makes = subst (Refuses e) (stands_so p) (makes f)

-- a prototype, by whether it may be declared
module _ (defined : List (List ℕ)) (names closed : Names) (p : Place) (head : Head) (f : Signature) (judged : Known) (standing : Standing) (file : IsFile names)
    (has : HasHead f false defined names head judged) (closes : closed ≡ outside judged.names)
    (stand : (q : Place) (x : List ℕ) → standing_made standing q x f ≡ function_made q x f false (result_type head) (meaning_of closed head.name)) where
  closed_is : closed ≡ names
  closed_is = closes ∙ (ap (λ (k : Known). outside k.names) has.after ∙ head_outside false names head)

  pub prototype_declares : (result : Result (Unit {0}) TypeFault) (left : Names) → ((g : Signature) → MakesOrRefuses result g (standing_made standing p head.name g))
      → left ≡ entered head.name (meaning.Function f) closed → Declares result left (prototype_judged defined names p head) (names_behind_head defined names head)
  prototype_declares (Ok done) left makes is = (
    signature defined names head,
    prototype_fine defined false names p head has.types has.made (may_stand defined false names closed head f standing file closed_is has.signed stand p makes),
    is ∙ (λ i. entered head.name (meaning.Function (has.signed i)) (closed_is i)),
  )
  prototype_declares (Err e) left makes is =
      prototype_stands defined false names p head e has.types has.made (may_not_stand defined false names closed head f standing file closed_is has.signed stand p e makes)

-- a definition, step by step
module _ (defined : List (List ℕ)) (again : Bool) (names : Names) (p : Place) (head : Head) (body : List Stmt) (close : Place) (f : Signature) (judged inner : Known) (closed : Names)
    (file : IsFile names) (has : HasHead f true defined names head judged) (closes : closed ≡ outside judged.names)
    (enters : inner ≡ entered_function (record judged { names = closed }) head f) where
  closed_to : closed ≡ names
  closed_to = closes ∙ (ap (λ (k : Known). outside k.names) has.after ∙ head_outside true names head)

  inner_is : inner ≡ record (head_params true names head).after { names = body_names defined names head (head_params true names head).after.names }
  inner_is =
      enters
      ∙ entered_body defined names head f (record judged { names = closed }) has.signed
      (λ i. record { names = closed_to i; variables = (has.after i).variables; taken = (has.after i).taken })

  block_is : judge_body (in_function head) inner body ≡ block defined again names p head body close
  block_is = ap (λ k. judge_body (in_function head) k body) inner_is

  pub block_refuses : (e : TypeFault) → Refuses e (judge_body (in_function head) inner body).made → Refuses e (function_judged defined again names p head body close)
  block_refuses e refuses =
      function_block defined again names p head body close e has.types has.made
      (subst (λ (j : Judged (List TStmt)). Refuses e j.made) block_is refuses)

  module _ (trees : List TStmt) (behind : Known) (runs : Runs (Ok trees) inner behind (judge_body (in_function head) inner body)) (standing : Standing)
      (stand : (q : Place) (x : List ℕ) → standing_made standing q x f ≡ function_made q x f again (result_type head) (meaning_of closed head.name)) where
    block_made : (block defined again names p head body close).made ≡ Fine trees
    block_made = sym (ap (λ (j : Judged (List TStmt)). j.made) block_is) ∙ runs.0

    pub standing_refuses : (e : TypeFault) → ((g : Signature) → MakesOrRefuses (Err e) g (standing_made standing p head.name g)) → Refuses e (function_judged defined again names p head body close)
    standing_refuses e makes =
        function_stands defined again names p head body close e has.types trees has.made block_made
        (may_not_stand defined again names closed head f standing file closed_to has.signed stand p e makes)

    pub definition_gives : (tree : TFunc) (left : Names) → left ≡ outside behind.names → ((g : Signature) → MakesOrRefuses (Ok tt) g (standing_made standing p head.name g))
        → tree ≡ function_tree p head body close (type_or_int (result_type head)) (length (params_of head.params)) behind trees
        → GivesFunction (Ok tree) left (function_judged defined again names p head body close) (names_behind_head defined names head)
    definition_gives tree left leaves makes is = (
      function_fine defined again names p head body close has.types trees has.made block_made
          (may_stand defined again names closed head f standing file closed_to has.signed stand p makes)
          ∙ ((λ i. Fine (function_tree p head body close (type_or_int (result_type head)) (has.counted i)
          ((ap (λ (j : Judged (List TStmt)). j.after) (sym block_is) ∙ sym runs.1) i) trees))
          ∙ ap (λ (t : TFunc). Fine t) (sym is)),
      leaves
          ∙ (runs.2
          ∙ (ap (λ (k : Known). outside k.names) enters
          ∙ (outside_named 0 (params_of head.params) judged.variables ([] ∷ entered head.name (meaning.Function f) closed)
          ∙ (λ i. entered head.name (meaning.Function (has.signed i)) (closed_to i))))),
    )
