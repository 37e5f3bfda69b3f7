-- What an expression that fits names is there in the flat code, and it is sound.
use Rattle.std.proofs.Common.{ℕ, zero, suc, ◌≡◌, ◌<◌, ◌≤◌, Bool, true, false, ◌&&◌, List, [], ◌∷◌, ◌++◌, map, length, slice_get, Option, Some, None, refl, sym, ◌∙◌, ap, subst, arith}
use Rattle.std.specs.Prelude.{nat_le, nat_lt, not}
use Rattle.std.proofs.lemmas.Bool.{and_from, and_parts, lt-ltb, ltb-true}
use Rattle.k_types_meaning.specs.declared.tree.declaration.TDeclarator.{TDeclarator}
use Rattle.k_types_meaning.specs.declared.tree.declaration.TInit.{TInit}
use Rattle.k_types_meaning.specs.declared.tree.declaration.TInit.TheVariants as init
use Rattle.k_types_meaning.specs.declared.tree.declaration.TItem.{TItem}
use Rattle.k_types_meaning.specs.declared.tree.declaration.TItem.TheVariants as item
use Rattle.k_types_meaning.specs.declared.tree.expression.TExpr.{TExpr, fold-roll-TExpr, ind-TExpr, map-TExpr}
use Rattle.k_types_meaning.specs.declared.tree.expression.TExpr.TheOpen.{TExpr-F}
use Rattle.k_types_meaning.specs.declared.tree.statement.TFirst.{TFirst}
use Rattle.k_types_meaning.specs.declared.tree.statement.TFirst.TheVariants as first
use Rattle.k_types_meaning.specs.Numbered.{Numbers, declared_numbers, expr_numbers, expr_numbers_step, first_numbers, init_numbers, item_numbers, listed, option_numbers}
use Rattle.k_types_meaning.proofs.Fine.{AllOf}
use Rattle.k_world.specs.declared.act.Out.TheVariants as out
use Rattle.k_code.specs.declared.code.Code.{Code}
use Rattle.k_code.specs.Named.{out_is_short}
use Rattle.k_evaluation.specs.Library.{chunk_of}
use Rattle.k_evaluation.specs.Places.{string_number}
use Rattle.k_evaluation.specs.States.{Program}
use Rattle.k_lower_fits.specs.Fits.{Limits, Callee, Use, all_used, call_fits, cast_fits, declarator_fits, declared_fit, expr_fits, expr_step, first_fits, has_values, init_fits, item_fits, items_fit, option_fits}
use Rattle.k_lower_fits.proofs.Split.{behind, front}
use Rattle.k_lower_runs.specs.Sound.{all_true, calls_fit, declarator_sound, declared_sound, first_sound, init_sound, is_sound, item_sound, items_sound, option_sound, sound_step}
use Rattle.k_lower_texts.specs.Passing.{Asks, all_pass, declared_pass, expr_passes, first_passes, init_passes, item_passes, items_pass, option_passes}
use Rattle.k_lower_texts.specs.Passing as passing
use Rattle.k_lower_valid.specs.Names.{all_named, declared_named, expr_named, first_named, init_named, item_named, items_named, option_named}
use Rattle.k_lower_valid.specs.Names as names
use Rattle.k_lower_accepted.proofs.Formats.{asks_of}

-- two facts of two parts each
pub both_of : (a b c d : Bool) → (a ≡ true) × (b ≡ true) → (c ≡ true) × (d ≡ true) → ((a && c) ≡ true) × ((b && d) ≡ true)
both_of a b c d h k = (and_from a c h.0 k.0, and_from b d h.1 k.1)

-- what is there, is at a number below the length
pub below_some : {A : Type 0} (xs : List A) (n : ℕ) → (slice_get xs n ≡ None → ⊥) → n < length xs
below_some [] n there = absurd (there refl)
below_some (x ∷ xs) zero there = omega arith
below_some (x ∷ xs) (suc n) there = let rest : n < length xs = below_some xs n there in omega (arith, rest)

-- a call that fits is of a function that is there
call_there : (callees : List Callee) (f count : ℕ) (used : Bool) → call_fits (slice_get callees f) count used ≡ true → f < length callees
call_there callees f count used h = below_some callees f (λ none. absurd (let e : false ≡ true = ap (λ (o : Option Callee). call_fits o count used) (sym none) ∙ h in cc))

module _ (program : Program) (code : Code) (limits : Limits) (strings : ℕ)
    (functions : length limits.callees ≤ length code.funcs) (objects : limits.objects ≤ length code.objects) (texts : (n : ℕ) → n < strings → string_number program n < length code.objects) where
  abbrev asks : Asks
  asks = asks_of program.unit

  abbrev fits : TExpr → Use
  fits = expr_fits limits

  abbrev passes : TExpr → Bool
  passes = expr_passes asks

  abbrev named : TExpr → Bool
  named = expr_named program code

  abbrev sound : TExpr → Bool
  sound = is_sound limits.variables (calls_fit program.unit)

  -- these numbers are of strings of the source
  abbrev pub Below : List ℕ → Type 0
  Below ns = AllOf (λ n. n < strings) ns

  -- what is to be shown
  abbrev pub Right : Bool → Bool → Type 0
  Right a b = (a ≡ true) × (b ≡ true)

  abbrev Given : TExpr → Type 0
  Given e = (used : Bool) → fits e used ≡ true → passes e ≡ true → Below (expr_numbers e).strings → Right (named e) (sound e)

  abbrev Pair : Type 0
  Pair = (e : TExpr) × Given e

  abbrev exprs : List Pair → List TExpr
  exprs xs = map (λ (x : Pair). x.0) xs

  two : (a b : Pair) (u v : Bool) → (fits a.0 u && fits b.0 v) ≡ true → (passes a.0 && passes b.0) ≡ true → Below ((expr_numbers a.0).strings ++ (expr_numbers b.0).strings)
      → Right (named a.0 && named b.0) (sound a.0 && sound b.0)
  two a b u v fit pass below =
      let f = and_parts (fits a.0 u) (fits b.0 v) fit in
      let p = and_parts (passes a.0) (passes b.0) pass in
      both_of (named a.0) (sound a.0) (named b.0) (sound b.0) (a.1 u f.0 p.0 (front (λ n. n < strings) (expr_numbers a.0).strings (expr_numbers b.0).strings below))
      (b.1 v f.1 p.1 (behind (λ n. n < strings) (expr_numbers a.0).strings (expr_numbers b.0).strings below))

  all_given : (xs : List Pair) → all_used (map fits (exprs xs)) ≡ true → all_pass (map passes (exprs xs)) ≡ true → Below (listed (map expr_numbers (exprs xs))).strings
      → Right (all_named (map named (exprs xs))) (all_true (map sound (exprs xs)))
  all_given [] fit pass below = (refl, refl)
  all_given (x ∷ xs) fit pass below =
      let f = and_parts (fits x.0 true) (all_used (map fits (exprs xs))) fit in
      let p = and_parts (passes x.0) (all_pass (map passes (exprs xs))) pass in
      both_of (named x.0) (sound x.0) (all_named (map named (exprs xs))) (all_true (map sound (exprs xs)))
      (x.1 true f.0 p.0 (front (λ n. n < strings) (expr_numbers x.0).strings (listed (map expr_numbers (exprs xs))).strings below))
      (all_given xs f.1 p.1 (behind (λ n. n < strings) (expr_numbers x.0).strings (listed (map expr_numbers (exprs xs))).strings below))

  cast_given : (values : Bool) (a : Pair) (used : Bool) → cast_fits values (fits a.0) used ≡ true → passes a.0 ≡ true → Below (expr_numbers a.0).strings → Right (named a.0) (sound a.0)
  cast_given true a used fit pass below = a.1 true fit pass below
  cast_given false a used fit pass below = a.1 false (and_parts (not used) (fits a.0 false) fit).1 pass below

  abbrev Layer : TExpr-F TExpr → Type 0
  Layer z =
      (used : Bool) → expr_step limits (map-TExpr TExpr Use fits z) used ≡ true → passing.expr_step asks (map-TExpr TExpr Bool passes z) ≡ true
      → Below (expr_numbers_step (map-TExpr TExpr Numbers expr_numbers z)).strings
      → Right (names.expr_step program code (map-TExpr TExpr Bool named z)) (sound_step limits.variables (calls_fit program.unit) (map-TExpr TExpr Bool sound z))

  by : (y : TExpr-F Pair) → Layer (map-TExpr _ TExpr (λ (x : Pair). x.0) y)
  by (TExpr-F.Number node z) used fit pass below = (refl, refl)
  by (TExpr-F.Str node n bytes) used fit pass below =
      (and_from (nat_lt (string_number program n) (length code.objects)) (nat_le (length bytes) 4194304) (lt-ltb (string_number program n) (length code.objects) (texts n below.0)) pass, refl)
  by (TExpr-F.Object node n) used fit pass below =
      (lt-ltb n (length code.objects) (let low : n < limits.objects = ltb-true n limits.objects fit in omega (arith, low, objects)), refl)
  by (TExpr-F.Variable node n) used fit pass below = (refl, fit)
  by (TExpr-F.Index node a b) used fit pass below = two a b true true fit pass below
  by (TExpr-F.Call node f args) used fit pass below =
      let many : ℕ = length (map fits (exprs args)) in
      let here = and_parts (call_fits (slice_get limits.callees f) many used) (all_used (map fits (exprs args))) fit in
      let may = and_parts (asks.call node.of f) (all_pass (map passes (exprs args))) pass in
      let low : f < length limits.callees = call_there limits.callees f many used here.0 in
      both_of (nat_lt f (length code.funcs)) (calls_fit program.unit node f) (all_named (map named (exprs args))) (all_true (map sound (exprs args)))
      (lt-ltb f (length code.funcs) (omega (arith, low, functions)), may.0) (all_given args here.1 may.1 below)
  by (TExpr-F.Getchar node) used fit pass below = (refl, refl)
  by (TExpr-F.Putchar node a) used fit pass below = a.1 true fit pass below
  by (TExpr-F.Puts node a) used fit pass below = a.1 true fit pass below
  by (TExpr-F.Printf node format args) used fit pass below =
      let may = and_parts (asks.format format) (all_pass (map passes (exprs args))) pass in
      let rest = all_given args fit may.1 below in
      (and_from (out_is_short (out.Format (map chunk_of format))) (all_named (map named (exprs args))) may.0 rest.0, rest.1)
  by (TExpr-F.Post node change a) used fit pass below = a.1 true fit pass below
  by (TExpr-F.Pre node change a) used fit pass below = a.1 true fit pass below
  by (TExpr-F.Address node a) used fit pass below = a.1 true fit pass below
  by (TExpr-F.Deref node a) used fit pass below = a.1 true fit pass below
  by (TExpr-F.Plus node a) used fit pass below = a.1 true fit pass below
  by (TExpr-F.Unary node op kind a) used fit pass below = a.1 true fit pass below
  by (TExpr-F.Convert node a) used fit pass below = a.1 true fit pass below
  by (TExpr-F.Cast node a) used fit pass below = cast_given (has_values node.of) a used fit pass below
  by (TExpr-F.Binary node op kind a b) used fit pass below = two a b true true fit pass below
  by (TExpr-F.Both node a b) used fit pass below = two a b true true fit pass below
  by (TExpr-F.Either node a b) used fit pass below = two a b true true fit pass below
  by (TExpr-F.Forward node a b) used fit pass below = two a b true true fit pass below
  by (TExpr-F.Onto node a b) used fit pass below = two a b true true fit pass below
  by (TExpr-F.Back node a b) used fit pass below = two a b true true fit pass below
  by (TExpr-F.PtrCompare node op a b) used fit pass below = two a b true true fit pass below
  by (TExpr-F.PtrDistance node a b) used fit pass below = two a b true true fit pass below
  by (TExpr-F.Cond node a b c) used fit pass below =
      let f = and_parts (fits a.0 true) (fits b.0 used && fits c.0 used) fit in
      let p = and_parts (passes a.0) (passes b.0 && passes c.0) pass in
      both_of (named a.0) (sound a.0) (named b.0 && named c.0) (sound b.0 && sound c.0)
      (a.1 true f.0 p.0 (front (λ n. n < strings) (expr_numbers a.0).strings ((expr_numbers b.0).strings ++ (expr_numbers c.0).strings) below))
      (two b c used used f.1 p.1 (behind (λ n. n < strings) (expr_numbers a.0).strings ((expr_numbers b.0).strings ++ (expr_numbers c.0).strings) below))
  by (TExpr-F.Assign node a b) used fit pass below = two a b true true fit pass below
  by (TExpr-F.AssignBy node change a b) used fit pass below = two a b true true fit pass below
  by (TExpr-F.Comma node a b) used fit pass below = two a b false used fit pass below

  -- AN EXPRESSION
  pub expr_right : (e : TExpr) (used : Bool) → expr_fits limits e used ≡ true → expr_passes asks e ≡ true → Below (expr_numbers e).strings → Right (named e) (sound e)
  expr_right =
      ind-TExpr Given
      (λ x y is used fit pass below.
      let h = subst Layer is (by y) used (subst (λ (u : Use). u used ≡ true) (fold-roll-TExpr Use (expr_step limits) x) fit)
      (subst (λ (b : Bool). b ≡ true) (fold-roll-TExpr Bool (passing.expr_step asks) x) pass) (subst (λ (n : Numbers). Below n.strings) (fold-roll-TExpr Numbers expr_numbers_step x) below) in
      (fold-roll-TExpr Bool (names.expr_step program code) x ∙ h.0, fold-roll-TExpr Bool (sound_step limits.variables (calls_fit program.unit)) x ∙ h.1))

  pub option_right : (o : Option TExpr) (used : Bool) → option_fits limits used o ≡ true → option_passes asks o ≡ true → Below (option_numbers o).strings
      → Right (option_named program code o) (option_sound limits.variables (calls_fit program.unit) o)
  option_right None used fit pass below = (refl, refl)
  option_right (Some e) used fit pass below = expr_right e used fit pass below

  item_right : (i : TItem) → item_fits limits i ≡ true → item_passes asks i ≡ true → Below (item_numbers i).strings → Right (item_named program code i) (item_sound limits.variables (calls_fit program.unit) i)
  item_right (item.Bytes n bytes) fit pass below = (refl, refl)
  item_right (item.Value place n e) fit pass below = expr_right e true fit pass below

  items_right : (items : List TItem) → items_fit limits items ≡ true → items_pass asks items ≡ true → Below (listed (map item_numbers items)).strings
      → Right (items_named program code items) (items_sound limits.variables (calls_fit program.unit) items)
  items_right [] fit pass below = (refl, refl)
  items_right (i ∷ items) fit pass below =
      let f = and_parts (item_fits limits i) (items_fit limits items) fit in
      let p = and_parts (item_passes asks i) (items_pass asks items) pass in
      both_of (item_named program code i) (item_sound limits.variables (calls_fit program.unit) i) (items_named program code items) (items_sound limits.variables (calls_fit program.unit) items)
      (item_right i f.0 p.0 (front (λ n. n < strings) (item_numbers i).strings (listed (map item_numbers items)).strings below))
      (items_right items f.1 p.1 (behind (λ n. n < strings) (item_numbers i).strings (listed (map item_numbers items)).strings below))

  init_right : (i : TInit) → init_fits limits i ≡ true → init_passes asks i ≡ true → Below (init_numbers i).strings → Right (init_named program code i) (init_sound limits.variables (calls_fit program.unit) i)
  init_right init.Nothing fit pass below = (refl, refl)
  init_right (init.Value e) fit pass below = expr_right e true fit pass below
  init_right (init.Elements items) fit pass below = items_right items fit pass below

  pub declared_right : (ds : List TDeclarator) → declared_fit limits ds ≡ true → declared_pass asks ds ≡ true → Below (declared_numbers ds).strings
      → Right (declared_named program code ds) (declared_sound limits.variables (calls_fit program.unit) ds)
  declared_right [] fit pass below = (refl, refl)
  declared_right (d ∷ ds) fit pass below =
      let f = and_parts (declarator_fits limits d) (declared_fit limits ds) fit in
      let g = and_parts (nat_lt d.variable limits.variables) (init_fits limits d.init) f.0 in
      let p = and_parts (init_passes asks d.init) (declared_pass asks ds) pass in
      let one = init_right d.init g.1 p.0 (front (λ n. n < strings) (init_numbers d.init).strings (declared_numbers ds).strings below) in
      both_of (init_named program code d.init) (declarator_sound limits.variables (calls_fit program.unit) d) (declared_named program code ds) (declared_sound limits.variables (calls_fit program.unit) ds)
      (one.0, and_from (nat_lt d.variable limits.variables) (init_sound limits.variables (calls_fit program.unit) d.init) g.0 one.1)
      (declared_right ds f.1 p.1 (behind (λ n. n < strings) (init_numbers d.init).strings (declared_numbers ds).strings below))

  pub first_right : (f : TFirst) → first_fits limits f ≡ true → first_passes asks f ≡ true → Below (first_numbers f).strings → Right (first_named program code f) (first_sound limits.variables (calls_fit program.unit) f)
  first_right first.Nothing fit pass below = (refl, refl)
  first_right (first.Value e) fit pass below = expr_right e false fit pass below
  first_right (first.Declare list) fit pass below = declared_right list fit pass below
