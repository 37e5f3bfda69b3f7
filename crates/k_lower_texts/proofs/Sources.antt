-- Each function of a source passes where the strings of the source do, and each call that has a value exactly where its function has one.
use Rattle.std.proofs.Common.{◌≡◌, ℕ, zero, suc, Bool, true, false, List, [], ◌∷◌, ◌++◌, map, length, slice_get, Option, Some, None, refl, sym, ◌∙◌, ap, subst}
use Rattle.std.specs.Prelude.{All}
use Rattle.std.proofs.lemmas.Bool.{and_parts}
use Rattle.std.proofs.lemmas.List.Elements.{All-head, All-tail}
use Rattle.std.proofs.lemmas.Option.{none-some, same_Some}
use Rattle.k_num.specs.declared.place.Place.{Place}
use Rattle.k_tree.specs.declared.tokens.TokenKind.{TokenKind}
use Rattle.k_tree.specs.declared.tokens.TokenKind.TheVariants as token
use Rattle.k_tree.specs.declared.tokens.mark.Mark.TheVariants as mark
use Rattle.k_tree.specs.declared.tree.declaration.Declarator.{Declarator}
use Rattle.k_tree.specs.declared.tree.declaration.Param.{Param}
use Rattle.k_tree.specs.declared.tree.statement.Stmt.{Stmt}
use Rattle.k_tree.specs.declared.tree.unit.Head.{Head}
use Rattle.k_tree.specs.declared.tree.unit.Item.{Item}
use Rattle.k_tree.specs.declared.tree.unit.Unit as source
use Rattle.k_tree.specs.Ranked.{RankedItem, RankedParts, RankedUnit}
use Rattle.k_tree.specs.Spelling.{Spelled, in_braces, in_row, spell_declarator, spell_head, spell_item, spell_stmt, spelling, the_mark}
use Rattle.k_types_meaning.specs.declared.names.Meaning.TheVariants as meaning
use Rattle.k_types_meaning.specs.declared.types.CType.{CType}
use Rattle.k_types_meaning.specs.declared.types.TType.{TType}
use Rattle.k_types_meaning.specs.declared.tree.unit.TFunc.{TFunc}
use Rattle.k_types_meaning.specs.declared.tree.unit.TObject.{TObject}
use Rattle.k_types_meaning.specs.declared.tree.unit.TUnit.{TUnit}
use Rattle.k_types_meaning.specs.Bare.{IsTyped, bare_function}
use Rattle.k_types_meaning.specs.Called.{all_calls, declarator_calls, declarators_calls, dims_calls, item_calls, params_calls, start_calls, stmt_calls}
use Rattle.k_types_meaning.specs.Declarations.{Object, Saying, object_fixed, saying}
use Rattle.k_types_meaning.specs.Functions.{within_function, behind_param, entered_option, type_of_param, param_fixed, params_of, signature, meaning_here, names_behind_head, body_names}
use Rattle.k_types_meaning.specs.Laws.{MeansTree}
use Rattle.k_types_meaning.specs.Names.{Names, place_in}
use Rattle.k_types_meaning.specs.Statements.{Known}
use Rattle.k_types_meaning.specs.Types.{told}
use Rattle.k_types_meaning.specs.Units.{FileKnown, Parts, defined_by, faults, is_name, nothing_known}
use Rattle.k_types_meaning.specs.ElaboratedFunctions.{ElabParams, ElabFunction, MayDeclare, no_params, more_params, definition, within, known_to_body}
use Rattle.k_types_meaning.specs.ElaboratedDeclarators.{ElabObject}
use Rattle.k_types_meaning.specs.ElaboratedUnits.{ElabUnit, IsDefined, ElabObjects, ElabItem, ElabItems, no_objects, more_objects, function, prototype_alone, objects, no_items, more_items, whole, object_tree, with_object}
use Rattle.k_types_meaning.proofs.Fine.{AllOf}
use Rattle.k_types_meaning.proofs.SourcesElaborate.{typed_trees_elaborate}
use Rattle.k_lower_fits.specs.Fits.{Callee, callee, has_values}
use Rattle.k_lower_fits.proofs.Functions.{called_at, items_named, items_shaped, no_functions, not_library, settled_here}
use Rattle.k_lower_fits.proofs.Named.{NamesEach, entered_each}
use Rattle.k_lower_fits.proofs.Signatures.{shape, settled, item_settled, function_may, prototype_may}
use Rattle.k_lower_fits.proofs.Sources.{same_callees, unit_calls}
use Rattle.k_lower_fits.proofs.Split.{all_of, behind, front, joined, two}
use Rattle.k_lower_texts.specs.Laws.{CallsPass, FormatsFollow, FunctionsPass, LiteralsPass, NumbersFollow, TokenPasses}
use Rattle.k_lower_texts.specs.Passing.{Asks, body_passes, init_passes}
use Rattle.k_lower_texts.proofs.Alike.{body_pass}
use Rattle.k_lower_texts.proofs.Calling.{NameAsks}
use Rattle.k_lower_texts.proofs.Filled.{filled_list, filled_start, list_filled, parts_filled, start_gives}
use Rattle.k_lower_texts.proofs.Small.{SmallType, declared_small, parameter_small, result_small}
use Rattle.k_lower_texts.proofs.Split.{Each, row_each}
use Rattle.k_lower_texts.proofs.Statements.{declaration_text, declarator_text, object_passes, stmts_come}

-- calls of the functions of this list pass that have a value exactly where these have one
abbrev CalleesAsk : Asks → List Callee → Type 0
CalleesAsk asks callees = (of : TType) (n : ℕ) (c : Callee) → slice_get callees n ≡ Some c → has_values of ≡ c.gives → asks.call of n ≡ true

-- A FILE OBJECT begins with what passes: a declarator means it
pub record IsPassing (asks : Asks) (x : TObject) : Type 0 where
  pub saying : Saying
  pub number : ℕ
  pub names : Names
  pub declarator : Declarator
  pub declared : Object
  pub means : ElabObject true saying number names declarator declared
  pub is : object_tree declared ≡ x
  pub passes : init_passes asks declared.init ≡ true

module _ (asks : Asks) (follow : FormatsFollow asks) (numbers : NumbersFollow asks) (C : List ℕ → Option Callee) (listed : List (List ℕ)) (callees : List Callee)
    (there : (x : List ℕ) → is_name listed x ≡ true → slice_get callees (place_in listed x) ≡ C x) (ask : CalleesAsk asks callees) where
  abbrev Ask : Names → Type 0
  Ask names = NamesEach (NameAsks asks listed) names

  abbrev P : TokenKind → Type 0
  P = TokenPasses asks

  abbrev T : Spelled → Type 0
  T tokens = AllOf (TokenPasses asks) tokens

  -- A HEAD: calls of its function pass from now on
  head_asks : (names : Names) (head : Head) (again : Bool) (items : List Item) → MayDeclare (signature listed names head) again (meaning_here names head.name)
      → ((x : List ℕ) → settled (names_behind_head listed names head) items x ≡ C x) → Ask names → Ask (names_behind_head listed names head)
  head_asks names head again items may is fit =
      entered_each (NameAsks asks listed) head.name (meaning.Function (signature listed names head)) names (
        not_library (NameAsks asks listed) (λ x s h. h.0) names head.name (signature listed names head) again (meaning_here names head.name) refl fit may,
        λ named.
            ask (told (signature listed names head).result) (place_in listed head.name) (shape (signature listed names head))
            (there head.name named ∙ (sym (is head.name) ∙ settled_here listed names head items)) refl,
        result_small head,
      ) fit

  -- PARAMETERS
  option_asks : (x : Option (List ℕ)) (n : ℕ) (of : CType) (fixed : Bool) (names : Names) → SmallType of → Ask names → Ask (entered_option x (meaning.Variable n of fixed) names)
  option_asks None n of fixed names small h = h
  option_asks (Some x) n of fixed names small h = entered_each (NameAsks asks listed) x (meaning.Variable n of fixed) names small h

  params_ask : (defines : Bool) (known : Known) (ps : List Param) (types : List CType) (after : Known) → ElabParams defines known ps types after → Ask known.names → Ask after.names
  params_ask _ _ _ _ _ (no_params defines known) fit = fit
  params_ask _ _ _ _ _ (more_params defines known p ps of ofs after x rest) fit =
      params_ask defines (behind_param known p) ps ofs after rest (option_asks p.name (length known.variables) (type_of_param known.names p) (param_fixed p) known.names (parameter_small defines known.names p of x) fit)

  body_names_ask : (names : Names) (head : Head) (inner : Names) → Ask (names_behind_head listed names head) → Ask inner → Ask (body_names listed names head inner)
  body_names_ask names head [] file h = file
  body_names_ask names head (scope ∷ inner) file h = (h.0, file)

  -- A FUNCTION
  abbrev FunctionPasses : TFunc → Type 0
  FunctionPasses f = body_passes asks f.body ≡ true

  function_passes : (again : Bool) (names : Names) (p : Place) (head : Head) (body : List Stmt) (close : Place) (f : TFunc) → ElabFunction listed again names p head body close f
      → Ask names → Ask (names_behind_head listed names head) → AllOf (IsDefined listed) (all_calls (map stmt_calls body)) → Each P (map spell_stmt body) → RankedParts body → FunctionPasses f
  function_passes _ _ _ _ _ _ _ (definition defines again names p head body close types inside of trees after given declares stmts) outer inner calls texts ranks =
      (stmts_come asks follow numbers listed (within of) (known_to_body listed names head inside) body trees after stmts calls texts (parts_filled body ranks)
      (body_names_ask names head inside.names inner (params_ask true (within_function names) (params_of head.params) types inside given (tt, outer)))).0

  -- ITEMS
  objects_ask : (s : Saying) (known : FileKnown) (ds : List Declarator) (parts : Parts) (after : FileKnown) → ElabObjects s known ds parts after → filled_list ds ≡ true
      → AllOf (IsDefined listed) (declarators_calls ds) → Each P (map spell_declarator ds) → Ask known.names → AllOf (IsPassing asks) parts.objects × Ask after.names
  objects_ask _ _ _ _ _ (no_objects s known) full calls texts fit = (tt, fit)
  objects_ask _ _ _ _ _ (more_objects s known d ds o rest after x xs) full calls texts fit =
      let f = and_parts (filled_start d.init) (filled_list ds) full in
      let c = two (IsDefined listed) (declarator_calls d ++ declarators_calls ds) (declarator_calls d) (declarators_calls ds) refl calls in
      let small : SmallType o.of = declared_small true s known.objects known.names d o (start_gives d.init f.0) x in
      let later =
      objects_ask s (with_object known o) ds rest after xs f.1 c.1 texts.1
      (entered_each (NameAsks asks listed) o.name (meaning.Object known.objects o.of o.fixed) known.names small fit) in
      let passes : init_passes asks o.init ≡ true =
      object_passes asks follow numbers listed true s known.objects known.names d o x
      (entered_each (NameAsks asks listed) d.name (meaning.Object known.objects o.of (object_fixed s.fixed d.stars)) known.names small fit)
      (behind (IsDefined listed) (dims_calls d.dims) (start_calls d.init) c.0) (declarator_text asks follow numbers listed d texts.0) in
      ((record { saying = s; number = known.objects; names = known.names; declarator = d; declared = o; means = x; is = refl; passes = passes }, later.0), later.1)

  -- what is known of an item
  abbrev ItemPasses : Parts → FileKnown → Type 0
  ItemPasses parts after = AllOf FunctionPasses parts.functions × AllOf (IsPassing asks) parts.objects × Ask after.names

  item_passes : (known : FileKnown) (i : Item) (parts : Parts) (after : FileKnown) (items : List Item) → ElabItem listed known i parts after
      → ((x : List ℕ) → settled after.names items x ≡ C x) → Ask known.names → AllOf (IsDefined listed) (item_calls i) → T (spell_item i) → RankedItem i → ItemPasses parts after
  item_passes _ _ _ _ items (function defines known p head body close f x) is fit calls texts ranks =
      let again : Bool = is_name known.functions head.name in
      let inner : Ask (names_behind_head listed known.names head) = head_asks known.names head again items (function_may listed again known.names p head body close f x) is fit in
      let block = behind P (spell_head head) (in_braces (in_row (map spell_stmt body))) texts in (
        (
          function_passes again known.names p head body close f x fit inner (behind (IsDefined listed) (params_calls head.params) (all_calls (map stmt_calls body)) calls)
              (row_each P (map spell_stmt body) (front P (in_row (map spell_stmt body)) (the_mark mark.RightBrace) block.1)) ranks.1,
          tt,
        ),
        tt,
        inner,
      )
  item_passes _ _ _ _ items (prototype_alone defines known p head x) is fit calls texts ranks = (tt, tt, head_asks known.names head false items (prototype_may listed known.names head x) is fit)
  item_passes _ _ _ _ items (objects defines known p specs list parts after x) is fit calls texts ranks =
      let here = objects_ask (saying true specs) known list parts after x (list_filled list ranks.2) calls (declaration_text asks follow numbers listed specs list texts) fit in
      (subst (AllOf FunctionPasses) (sym (no_functions (saying true specs) known list parts after x)) tt, here.0, here.1)

  items_pass : (known : FileKnown) (items : List Item) (parts : Parts) (after : FileKnown) → ElabItems listed known items parts after
      → ((x : List ℕ) → settled known.names items x ≡ C x) → Ask known.names → AllOf (IsDefined listed) (all_calls (map item_calls items)) → Each P (map spell_item items) → All RankedItem items → AllOf FunctionPasses parts.functions × AllOf (IsPassing asks) parts.objects
  items_pass _ _ _ _ (no_items defines known) is fit calls texts ranks = (tt, tt)
  items_pass _ _ _ _ (more_items defines known i items a b middle after x xs) is fit calls texts ranks =
      let c = two (IsDefined listed) (item_calls i ++ all_calls (map item_calls items)) (item_calls i) (all_calls (map item_calls items)) refl calls in
      let next : (y : List ℕ) → settled middle.names items y ≡ C y = λ y. item_settled listed known i a middle x items y ∙ is y in
      let first = item_passes known i a middle items x next fit c.0 texts.0 (All-head RankedItem i items ranks) in
      let later = items_pass middle items b after xs next first.2 c.1 texts.1 (All-tail RankedItem i items ranks) in
      (joined FunctionPasses a.functions b.functions first.0 later.0, joined (IsPassing asks) a.objects b.objects first.1 later.1)

-- THE WHOLE SOURCE
unit_passes : (asks : Asks) (unit : source.Unit) (parts : Parts) → FormatsFollow asks → NumbersFollow asks → RankedUnit unit → CalleesAsk asks (map callee parts.functions) → AllOf (TokenPasses asks) (spelling unit) → ElabUnit unit parts
    → AllOf (λ (f : TFunc). body_passes asks f.body ≡ true) parts.functions × AllOf (IsPassing asks) parts.objects
unit_passes asks _ _ follow numbers ranks ask texts (whole unit parts after items calls main) =
    let C : List ℕ → Option Callee = settled nothing_known.names unit.items in
    let named : map (λ (f : TFunc). f.name) parts.functions ≡ defined_by unit = items_named (defined_by unit) nothing_known unit.items parts after items in
    let shaped = items_shaped C (defined_by unit) nothing_known unit.items parts after items (λ x. refl) in
    let there : (x : List ℕ) → is_name (defined_by unit) x ≡ true → slice_get (map callee parts.functions) (place_in (defined_by unit) x) ≡ C x =
    subst (λ (ns : List (List ℕ)). (x : List ℕ) → is_name ns x ≡ true → slice_get (map callee parts.functions) (place_in ns x) ≡ C x) named (λ x at. called_at C parts.functions x shaped at) in
    items_pass asks follow numbers C (defined_by unit) (map callee parts.functions) there ask nothing_known unit.items parts after items (λ x. refl)
    (tt, ((tt, (tt, (tt, (tt, tt)))), tt)) (unit_calls (IsDefined (defined_by unit)) unit calls)
    (row_each (TokenPasses asks) (map spell_item unit.items) (front (TokenPasses asks) (in_row (map spell_item unit.items)) (token.End ∷ []) texts)) ranks

-- WITH ITS NUMBERS
-- an item of a list that gives this
given_by : {A B : Type 0} (f : A → B) (xs : List A) (n : ℕ) (y : B) → slice_get (map f xs) n ≡ Some y → (x : A) × (slice_get xs n ≡ Some x) × (f x ≡ y)
given_by f [] n y h = absurd (none-some y h)
given_by f (x ∷ xs) zero y h = (x, refl, same_Some (f x) y h)
given_by f (x ∷ xs) (suc n) y h = given_by f xs n y h

callees_ask : (asks : Asks) (typed : TUnit) → CallsPass asks typed → CalleesAsk asks (map callee typed.functions)
callees_ask asks typed pass of n c is gives =
    let found = given_by callee typed.functions n c is in
    pass of n found.0 found.1 (gives ∙ sym (ap (λ (d : Callee). d.gives) found.2))

there_passes : (asks : Asks) (fs : List TFunc) (n : ℕ) (f : TFunc) → slice_get fs n ≡ Some f → AllOf (λ (g : TFunc). body_passes asks g.body ≡ true) (map bare_function fs) → body_passes asks f.body ≡ true
there_passes asks [] n f is h = absurd (none-some f is)
there_passes asks (g ∷ fs) zero f is h = subst (λ (k : TFunc). body_passes asks k.body ≡ true) (same_Some g f is) (sym (body_pass asks g.body) ∙ h.0)
there_passes asks (g ∷ fs) (suc n) f is h = there_passes asks fs n f is h.1

-- what passes of a source, with its numbers
tree_passes : (asks : Asks) (unit : source.Unit) (typed : TUnit) → FormatsFollow asks → NumbersFollow asks → LiteralsPass asks unit → CallsPass asks typed → RankedUnit unit → IsTyped unit typed
    → faults unit ≡ [] → AllOf (λ (g : TFunc). body_passes asks g.body ≡ true) (map bare_function typed.functions) × AllOf (IsPassing asks) typed.objects
tree_passes asks unit typed follow numbers literals calls ranks h none =
    let means : MeansTree unit typed = (typed_trees_elaborate unit typed).0 (h, none) in
    let parts : Parts = means.0 in
    let fs : map bare_function typed.functions ≡ parts.functions = ap (λ (u : TUnit). u.functions) (means.2).0 in
    let os : typed.objects ≡ parts.objects = ap (λ (u : TUnit). u.objects) (means.2).0 in
    let ask : CalleesAsk asks (map callee parts.functions) =
    subst (λ (gs : List TFunc). CalleesAsk asks (map callee gs)) fs (subst (CalleesAsk asks) (sym (same_callees typed.functions)) (callees_ask asks typed calls)) in
    let all = unit_passes asks unit parts follow numbers ranks ask (all_of (TokenPasses asks) (spelling unit) literals) means.1 in
    (subst (AllOf (λ (g : TFunc). body_passes asks g.body ≡ true)) (sym fs) all.0, subst (AllOf (IsPassing asks)) (sym os) all.1)

pub functions_pass : FunctionsPass
functions_pass asks unit typed n f follow numbers literals calls ranks h none is = there_passes asks typed.functions n f is (tree_passes asks unit typed follow numbers literals calls ranks h none).0

-- EACH FILE OBJECT begins with what passes
pub objects_pass : (asks : Asks) (unit : source.Unit) (typed : TUnit) → FormatsFollow asks → NumbersFollow asks → LiteralsPass asks unit → CallsPass asks typed → RankedUnit unit → IsTyped unit typed
    → faults unit ≡ [] → AllOf (IsPassing asks) typed.objects
objects_pass asks unit typed follow numbers literals calls ranks h none = (tree_passes asks unit typed follow numbers literals calls ranks h none).1
