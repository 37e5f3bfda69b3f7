-- Passing arguments one by one.
use Rattle.std.proofs.Common.{◌≡◌, ℕ, ◌+◌, ◌<◌, ◌≤◌, List, [], ◌∷◌, ◌++◌, length, drop, get_or, map, Option, Some, None, Ok, inl, inr, refl, sym, ◌∙◌, ap, subst, append_assoc, append-nil}
use Rattle.std.proofs.lemmas.List.{drop_more, drop_all}
use Rattle.k_num.specs.declared.numbers.Kind.{Kind}
use Rattle.k_tree.specs.declared.tree.expression.Expr.{Expr}
use Rattle.k_num.specs.declared.place.Place.{Place}
use Rattle.k_types_meaning.specs.declared.fault.TypeFault.{TypeFault}
use Rattle.k_types_meaning.specs.declared.types.CType.{CType}
use Rattle.k_types_meaning.specs.declared.types.CType.TheVariants as ctype
use Rattle.k_types_meaning.specs.declared.tree.expression.TExpr.{TExpr}
use Rattle.k_types_meaning.specs.CallRules.{printf_called, print_bytes, print_marks, print_trees, bytes_in, Passing, Passes, WrongKind, WrongCount, passed_before, passing, tree_before, formatted, all_formatted, called_with, all_taken}
use Rattle.k_types_meaning.specs.Conversions.{Typed, at, passed}
use Rattle.k_types_meaning.specs.Formats.{FormatMark, marks_of, pieces_of, kinds_taken}
use Rattle.k_types_meaning.specs.declared.fault.TypeFault.TheVariants as fault
use Rattle.k_types_meaning.specs.declared.types.TType.TheVariants as ttype
use Rattle.k_types_meaning.specs.declared.tree.expression.TExpr.TheVariants as trees
use Rattle.k_num.specs.declared.numbers.Kind.TheVariants.{I32}
use Rattle.k_types_names.specs.declared.formats.Format.{Format}
use Rattle.k_types_names.specs.Forms.{format_of}
use Rattle.k_types_meaning.specs.Expressions.{judge}
use Rattle.k_types_meaning.specs.Made.{Made, Fine, Faulty, refused, both, all_made}
use Rattle.k_types_meaning.specs.Names.{Names}
use Rattle.k_types_meaning.specs.Operands.{value, number}
use Rattle.k_types_meaning.specs.Types.{number_kind}
use Rattle.k_types_rules.specs.declared.judged.TypedExpr.{TypedExpr}
use Rattle.k_types_expressions.specs.Arguments.{bare, typed_all, first_list, later_lists, passed_made, made_before, trees_before_option, format_in, GivesAll}
use Rattle.k_types_expressions.specs.Results.{Gives}
use Rattle.k_types_rules.specs.Views.{type_of, typed, Refuses}

-- an argument that was passed stands behind those before it
pub passes_more : (p : Place) (trees : List TExpr) (tree : TExpr) (rest : Passing)
    → made_before trees (passed_made p (passed_before (Some tree) rest)) ≡ made_before (trees ++ tree ∷ []) (passed_made p rest)
passes_more p trees tree (Passes more) = ap Fine (sym (append_assoc trees (tree ∷ []) more))
passes_more p trees tree WrongKind = refl
passes_more p trees tree WrongCount = refl

-- an argument that was converted stands behind those before it
pub formats_more : (trees : List TExpr) (tree : TExpr) (rest : Option (List TExpr))
    → trees_before_option trees (tree_before (Some tree) rest) ≡ trees_before_option (trees ++ tree ∷ []) rest
formats_more trees tree None = refl
formats_more trees tree (Some more) = ap Some (sym (append_assoc trees (tree ∷ []) more))

-- the lists of variables of so many arguments
padded : List TypedExpr → List (List ℕ) → List (List ℕ)
padded [] ts = []
padded (j ∷ js) ts = first_list ts ∷ padded js (later_lists ts)

-- an argument more
typed_all_more : (js : List TypedExpr) (j : TypedExpr) (ts : List (List ℕ)) (t : List ℕ)
    → typed_all (js ++ j ∷ []) (padded js ts ++ t ∷ []) ≡ typed_all js ts ++ typed j t ∷ []
unfolding padded
typed_all_more [] j ts t = refl
typed_all_more (k ∷ js) j ts t = ap (λ args. typed k (first_list ts) ∷ args) (typed_all_more js j (later_lists ts) t)

-- the variables of an argument more
all_taken_more : (args : List Typed) (a : Typed) → all_taken (args ++ a ∷ []) ≡ all_taken args ++ a.taken
all_taken_more [] a = append-nil a.taken
all_taken_more (b ∷ args) a = ap (λ v. b.taken ++ v) (all_taken_more args a) ∙ sym (append_assoc b.taken (all_taken args) a.taken)

-- what is made stands behind what is made before it
more_after : {A : Type 0} (xs : List A) (x : A) (rest : Made (List A))
    → made_before xs (both (Fine x) rest (λ y ys. Fine (y ∷ ys))) ≡ made_before (xs ++ x ∷ []) rest
more_after xs x (Fine more) = ap Fine (sym (append_assoc xs (x ∷ []) more))
more_after xs x (Faulty f fs) = refl

-- an argument that was judged stands behind those before it
more_made : (xs : List Typed) (x : Typed) (m : Made Typed) (rest : Made (List Typed)) → m ≡ Fine x
    → made_before xs (both m rest (λ y ys. Fine (y ∷ ys))) ≡ made_before (xs ++ x ∷ []) rest
more_made xs x m rest is = ap (λ v. made_before xs (both v rest (λ (y : Typed) ys. Fine (y ∷ ys)))) is ∙ more_after xs x rest

-- passing does not depend on the variables to which `&` is applied
passing_same : (params : List CType) (js : List TypedExpr) (ts : List (List ℕ)) → passing params (typed_all js ts) ≡ passing params (bare js)
unfolding passed
passing_same [] [] ts = refl
passing_same [] (j ∷ js) ts = refl
passing_same (t ∷ params) [] ts = refl
passing_same (ctype.Void ∷ params) (j ∷ js) ts = refl
passing_same (ctype.Number kind ∷ params) (j ∷ js) ts =
    ap (passed_before (passed (ctype.Number kind) (typed j []))) (passing_same params js (later_lists ts))
passing_same (ctype.Pointer e ∷ params) (j ∷ js) ts =
    ap (passed_before (passed (ctype.Pointer e) (typed j []))) (passing_same params js (later_lists ts))
passing_same (ctype.Array n e ∷ params) (j ∷ js) ts =
    ap (passed_before (passed (ctype.Array n e) (typed j []))) (passing_same params js (later_lists ts))

-- neither does formatting
formatted_same : (kinds : List Kind) (js : List TypedExpr) (ts : List (List ℕ)) → all_formatted kinds (typed_all js ts) ≡ all_formatted kinds (bare js)
formatted_same [] [] ts = refl
formatted_same [] (j ∷ js) ts = refl
formatted_same (k ∷ kinds) [] ts = refl
formatted_same (k ∷ kinds) (j ∷ js) ts =
    ap (tree_before (formatted k (typed j []) (number_kind (type_of j.of)))) (formatted_same kinds js (later_lists ts))

-- a call whose arguments were passed
called_fine : (p : Place) (of : CType) (tree : List TExpr → TExpr) (taken : List ℕ) (x : Passing) (trees : List TExpr)
    → passed_made p x ≡ Fine trees → called_with p of tree taken x ≡ Fine (value of (tree trees) taken)
called_fine p of tree taken (Passes more) trees is = let e : more ≡ trees = cc in ap (λ v. Fine (value of (tree v) taken)) e
called_fine p of tree taken WrongKind trees is = cc
called_fine p of tree taken WrongCount trees is = cc

-- a call whose arguments were not passed
called_refuses : (p : Place) (of : CType) (tree : List TExpr → TExpr) (taken : List ℕ) (x : Passing) (f : TypeFault)
    → Refuses f (passed_made p x) → Refuses f (called_with p of tree taken x)
called_refuses p of tree taken x f (inl is) = inl is
called_refuses p of tree taken (Passes more) f (inr none) = absurd none
called_refuses p of tree taken WrongKind f (inr is) = inr is
called_refuses p of tree taken WrongCount f (inr is) = inr is

-- the expression at a place of a list, before those behind it
rest_from : (exprs : List Expr) (i : ℕ) (x : Expr) → i < length exprs → x ≡ get_or exprs i x → drop i exprs ≡ x ∷ drop (i + 1) exprs
rest_from exprs i x inside is = drop_more exprs i x inside ∙ ap (λ y. y ∷ drop (i + 1) exprs) (sym is)

module _ (names : Names) where
  -- an argument that was judged stands behind those before it
  all_preserved : (js : List TypedExpr) (j : TypedExpr) (ts : List (List ℕ)) (t : List ℕ) (exprs : List Expr) (i : ℕ) (x : Expr) (whole : Made (List Typed))
      → i < length exprs → x ≡ get_or exprs i x → judge names x ≡ Fine (typed j t)
      → made_before (typed_all js ts) (all_made (map (judge names) (drop i exprs))) ≡ whole
      → made_before (typed_all (js ++ j ∷ []) (padded js ts ++ t ∷ [])) (all_made (map (judge names) (drop (i + 1) exprs))) ≡ whole
  all_preserved js j ts t exprs i x whole inside at is so_far =
      let rest = drop (i + 1) exprs in
      ap (λ args. made_before args (all_made (map (judge names) rest))) (typed_all_more js j ts t)
      ∙ (sym (more_made (typed_all js ts) (typed j t) (judge names x) (all_made (map (judge names) rest)) is)
      ∙ (ap (λ l. made_before (typed_all js ts) (all_made (map (judge names) l))) (sym (rest_from exprs i x inside at)) ∙ so_far))

  -- all arguments were judged
  all_judged : (js : List TypedExpr) (ts : List (List ℕ)) (exprs : List Expr) (i : ℕ) (whole : Made (List Typed))
      → length exprs ≤ i
      → made_before (typed_all js ts) (all_made (map (judge names) (drop i exprs))) ≡ whole
      → whole ≡ Fine (typed_all js ts)
  all_judged js ts exprs i whole end so_far =
      sym so_far
      ∙ (ap (λ l. made_before (typed_all js ts) (all_made (map (judge names) l))) (drop_all i exprs end)
      ∙ ap Fine (append-nil (typed_all js ts)))

-- the variables to which `&` is applied in an argument that was judged stand behind those before them
taken_preserved : (js : List TypedExpr) (j : TypedExpr) (ts : List (List ℕ)) (t older middle newer : List ℕ)
    → middle ≡ older ++ all_taken (typed_all js ts) → newer ≡ middle ++ t
    → newer ≡ older ++ all_taken (typed_all (js ++ j ∷ []) (padded js ts ++ t ∷ []))
taken_preserved js j ts t older middle newer before put =
    put
    ∙ (ap (λ v. v ++ t) before
    ∙ (append_assoc older (all_taken (typed_all js ts)) t
    ∙ ap (λ v. older ++ v) (sym (ap all_taken (typed_all_more js j ts t) ∙ all_taken_more (typed_all js ts) (typed j t)))))

-- the arguments before one were judged: with those from it on they make the whole, and the variables to which `&` is applied in them
-- stand behind the older ones
abbrev pub Judges : Names → List TypedExpr → List Expr → ℕ → Made (List Typed) → List ℕ → List ℕ → Type 0
Judges names js exprs i whole older newer =
    (ts : List (List ℕ))
    × (made_before (typed_all js ts) (all_made (map (judge names) (drop i exprs))) ≡ whole)
    × (newer ≡ older ++ all_taken (typed_all js ts))

-- an argument more was judged
pub judges_more : (names : Names) (js : List TypedExpr) (j : TypedExpr) (items : List TypedExpr) (exprs : List Expr) (i : ℕ) (x : Expr)
    → (whole : Made (List Typed)) (older middle newer : List ℕ)
    → Judges names js exprs i whole older middle
    → i < length exprs → x ≡ get_or exprs i x → Gives (Ok j) middle newer (judge names x) → items ≡ js ++ j ∷ []
    → Judges names items exprs (i + 1) whole older newer
judges_more names js j items exprs i x whole older middle newer (ts, so_far, before) inside at (t, is, put) added =
    subst (λ l. Judges names l exprs (i + 1) whole older newer) (sym added)
    (padded js ts ++ t ∷ [], all_preserved names js j ts t exprs i x whole inside at is so_far, taken_preserved js j ts t older middle newer before put)

-- all arguments were judged
pub judges_all : (names : Names) (js : List TypedExpr) (exprs : List Expr) (i : ℕ) (whole : Made (List Typed)) (older newer : List ℕ)
    → Judges names js exprs i whole older newer → length exprs ≤ i → GivesAll js older newer whole
judges_all names js exprs i whole older newer (ts, so_far, put) end = (ts, all_judged names js ts exprs i whole end so_far, put)

-- a call whose arguments were not passed, whatever the variables are to which `&` is applied in them
pub called_refused : (p : Place) (of : CType) (tree : List TExpr → TExpr) (taken : List ℕ) (params : List CType) (js : List TypedExpr) (ts : List (List ℕ)) (f : TypeFault)
    → Refuses f (passed_made p (passing params (bare js))) → Refuses f (called_with p of tree taken (passing params (typed_all js ts)))
called_refused p of tree taken params js ts f refuses =
    called_refuses p of tree taken (passing params (typed_all js ts)) f
    (subst (λ x. Refuses f (passed_made p x)) (sym (passing_same params js ts)) refuses)

-- a call whose arguments were passed, whatever the variables are to which `&` is applied in them
pub called_made : (p : Place) (of : CType) (tree : List TExpr → TExpr) (taken : List ℕ) (params : List CType) (js : List TypedExpr) (ts : List (List ℕ)) (trees : List TExpr)
    → passed_made p (passing params (bare js)) ≡ Fine trees
    → called_with p of tree taken (passing params (typed_all js ts)) ≡ Fine (value of (tree trees) taken)
called_made p of tree taken params js ts trees is =
    called_fine p of tree taken (passing params (typed_all js ts)) trees (ap (passed_made p) (passing_same params js ts) ∙ is)

-- what printf gives, by its format and its arguments
abbrev pub printed : Place → Format → List ℕ → Option (List TExpr) → Made Typed
printed p f taken None = refused (fault.BadFormat p)
printed p f taken (Some args) = Fine (number I32 (trees.Printf (at p (ttype.Number I32)) f.pieces args) taken)

printed_marks : (p : Place) (marks : List FormatMark) (taken : List ℕ) (option : Option (List TExpr))
    → print_trees p marks taken option ≡ printed p (record { pieces = pieces_of marks; kinds = kinds_taken marks }) taken option
printed_marks p marks taken None = refl
printed_marks p marks taken (Some args) = refl

printed_by_marks : (p : Place) (taken : List ℕ) (js : List TypedExpr) (ts : List (List ℕ)) (f : Format) (m : Option (List FormatMark)) (option : Option (List TExpr))
    → format_of m ≡ Some f → all_formatted f.kinds (bare js) ≡ option → print_marks p taken (typed_all js ts) m ≡ printed p f taken option
printed_by_marks p taken js ts f None option is all = cc
printed_by_marks p taken js ts f (Some marks) option is all =
    let meant : Format = record { pieces = pieces_of marks; kinds = kinds_taken marks } in
    let same : meant ≡ f = cc in
    subst (λ (g : Format). all_formatted g.kinds (bare js) ≡ option → print_trees p marks taken (all_formatted (kinds_taken marks) (typed_all js ts)) ≡ printed p g taken option)
    same
    (λ given. ap (print_trees p marks taken) (formatted_same (kinds_taken marks) js ts ∙ given) ∙ printed_marks p marks taken option)
    all

printed_by_bytes : (p : Place) (taken : List ℕ) (js : List TypedExpr) (ts : List (List ℕ)) (f : Format) (b : Option (List ℕ)) (option : Option (List TExpr))
    → format_in b ≡ Some f → all_formatted f.kinds (bare js) ≡ option → print_bytes p taken (typed_all js ts) b ≡ printed p f taken option
printed_by_bytes p taken js ts f None option is all = cc
printed_by_bytes p taken js ts f (Some bytes) option is all = printed_by_marks p taken js ts f (marks_of bytes) option is all

-- printf of a string that is a format, and of arguments
pub printf_made : (p : Place) (a : TypedExpr) (js : List TypedExpr) (ts : List (List ℕ)) (f : Format) (option : Option (List TExpr))
    → format_in (bytes_in a.tree) ≡ Some f → all_formatted f.kinds (bare js) ≡ option
    → printf_called p (typed_all (a ∷ js) ts) ≡ printed p f (all_taken (typed_all (a ∷ js) ts)) option
printf_made p a js ts f option is all = printed_by_bytes p (all_taken (typed_all (a ∷ js) ts)) js (later_lists ts) f (bytes_in a.tree) option is all
