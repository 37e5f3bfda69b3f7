-- A typed expression whose operands have no numbers has none where its own node has none.
use Rattle.std.proofs.Common.{ℕ, ℤ, ◌≡◌, refl, ap, ◌∙◌, Bool, true, false, cond, List, [], ◌∷◌, map, Option, Some, None}
use Rattle.k_num.specs.declared.numbers.Bin.{Bin}
use Rattle.k_num.specs.declared.numbers.Kind.{Kind}
use Rattle.k_num.specs.declared.numbers.Un.{Un}
use Rattle.k_num.specs.declared.place.Place.{Place}
use Rattle.k_types_meaning.specs.declared.tree.expression.Change.{Change}
use Rattle.k_types_meaning.specs.declared.tree.expression.Piece.{Piece}
use Rattle.k_types_meaning.specs.declared.tree.expression.TExpr.{TExpr}
use Rattle.k_types_meaning.specs.declared.tree.expression.TExpr.TheVariants as typed
use Rattle.k_types_meaning.specs.declared.types.TType.{TType}
use Rattle.k_types_meaning.specs.declared.types.TType.TheVariants as ttype
use Rattle.k_types_meaning.specs.Bare.{bare_expr, bare_step}
use Rattle.k_types_meaning.specs.Conversions.{at, conversion, in_kind, node_of, number_in, number_in_kind, unless_number}
use Rattle.k_types_meaning.proofs.Folds.{typed_Number, typed_Str, typed_Object, typed_Variable, typed_Index, typed_Call, typed_Getchar, typed_Putchar, typed_Puts, typed_Printf, typed_Post, typed_Pre, typed_Address, typed_Deref, typed_Plus, typed_Unary, typed_Convert, typed_Cast, typed_Binary, typed_Both, typed_Either, typed_Forward, typed_Onto, typed_Back, typed_PtrCompare, typed_PtrDistance, typed_Cond, typed_Assign, typed_AssignBy, typed_Comma}
use Rattle.k_types_meaning.specs.Types.{same_kind}
use Rattle.k_types_meaning.proofs.Fine.{AllOf}

-- an expression has no numbers
abbrev pub IsBare : TExpr → Type 0
IsBare e = bare_expr e ≡ e

-- expressions have no numbers
pub all_bare : (es : List TExpr) → AllOf IsBare es → map bare_expr es ≡ es
all_bare [] all = refl
all_bare (e ∷ es) all = λ i. all.0 i ∷ all_bare es all.1 i

module _ (p : Place) (of : TType) where
  pub bare_Number : (z : ℤ) → IsBare (typed.Number (at p of) z)
  bare_Number z = typed_Number TExpr bare_step (at p of) z

  -- a string, which has no number of its own either
  pub bare_Str : (bytes : List ℕ) → IsBare (typed.Str (at p of) 0 bytes)
  bare_Str bytes = typed_Str TExpr bare_step (at p of) 0 bytes

  pub bare_Object : (n : ℕ) → IsBare (typed.Object (at p of) n)
  bare_Object n = typed_Object TExpr bare_step (at p of) n

  pub bare_Variable : (n : ℕ) → IsBare (typed.Variable (at p of) n)
  bare_Variable n = typed_Variable TExpr bare_step (at p of) n

  pub bare_Index : (a b : TExpr) → IsBare a → IsBare b → IsBare (typed.Index (at p of) a b)
  bare_Index a b ha hb = typed_Index TExpr bare_step (at p of) a b ∙ (λ i. typed.Index (at p of) (ha i) (hb i))

  pub bare_Call : (f : ℕ) (args : List TExpr) → AllOf IsBare args → IsBare (typed.Call (at p of) f args)
  bare_Call f args all = typed_Call TExpr bare_step (at p of) f args ∙ ap (typed.Call (at p of) f) (all_bare args all)

  pub bare_Getchar : IsBare (typed.Getchar (at p of))
  bare_Getchar = typed_Getchar TExpr bare_step (at p of)

  pub bare_Putchar : (a : TExpr) → IsBare a → IsBare (typed.Putchar (at p of) a)
  bare_Putchar a ha = typed_Putchar TExpr bare_step (at p of) a ∙ ap (typed.Putchar (at p of)) ha

  pub bare_Puts : (a : TExpr) → IsBare a → IsBare (typed.Puts (at p of) a)
  bare_Puts a ha = typed_Puts TExpr bare_step (at p of) a ∙ ap (typed.Puts (at p of)) ha

  pub bare_Printf : (format : List Piece) (args : List TExpr) → AllOf IsBare args → IsBare (typed.Printf (at p of) format args)
  bare_Printf format args all = typed_Printf TExpr bare_step (at p of) format args ∙ ap (typed.Printf (at p of) format) (all_bare args all)

  pub bare_Post : (change : Change) (a : TExpr) → IsBare a → IsBare (typed.Post (at p of) change a)
  bare_Post change a ha = typed_Post TExpr bare_step (at p of) change a ∙ ap (typed.Post (at p of) change) ha

  pub bare_Pre : (change : Change) (a : TExpr) → IsBare a → IsBare (typed.Pre (at p of) change a)
  bare_Pre change a ha = typed_Pre TExpr bare_step (at p of) change a ∙ ap (typed.Pre (at p of) change) ha

  pub bare_Address : (a : TExpr) → IsBare a → IsBare (typed.Address (at p of) a)
  bare_Address a ha = typed_Address TExpr bare_step (at p of) a ∙ ap (typed.Address (at p of)) ha

  pub bare_Deref : (a : TExpr) → IsBare a → IsBare (typed.Deref (at p of) a)
  bare_Deref a ha = typed_Deref TExpr bare_step (at p of) a ∙ ap (typed.Deref (at p of)) ha

  pub bare_Plus : (a : TExpr) → IsBare a → IsBare (typed.Plus (at p of) a)
  bare_Plus a ha = typed_Plus TExpr bare_step (at p of) a ∙ ap (typed.Plus (at p of)) ha

  pub bare_Unary : (op : Un) (kind : Kind) (a : TExpr) → IsBare a → IsBare (typed.Unary (at p of) op kind a)
  bare_Unary op kind a ha = typed_Unary TExpr bare_step (at p of) op kind a ∙ ap (typed.Unary (at p of) op kind) ha

  pub bare_Convert : (a : TExpr) → IsBare a → IsBare (typed.Convert (at p of) a)
  bare_Convert a ha = typed_Convert TExpr bare_step (at p of) a ∙ ap (typed.Convert (at p of)) ha

  pub bare_Cast : (a : TExpr) → IsBare a → IsBare (typed.Cast (at p of) a)
  bare_Cast a ha = typed_Cast TExpr bare_step (at p of) a ∙ ap (typed.Cast (at p of)) ha

  pub bare_Binary : (op : Bin) (kind : Kind) (a b : TExpr) → IsBare a → IsBare b → IsBare (typed.Binary (at p of) op kind a b)
  bare_Binary op kind a b ha hb = typed_Binary TExpr bare_step (at p of) op kind a b ∙ (λ i. typed.Binary (at p of) op kind (ha i) (hb i))

  pub bare_Both : (a b : TExpr) → IsBare a → IsBare b → IsBare (typed.Both (at p of) a b)
  bare_Both a b ha hb = typed_Both TExpr bare_step (at p of) a b ∙ (λ i. typed.Both (at p of) (ha i) (hb i))

  pub bare_Either : (a b : TExpr) → IsBare a → IsBare b → IsBare (typed.Either (at p of) a b)
  bare_Either a b ha hb = typed_Either TExpr bare_step (at p of) a b ∙ (λ i. typed.Either (at p of) (ha i) (hb i))

  pub bare_Forward : (a b : TExpr) → IsBare a → IsBare b → IsBare (typed.Forward (at p of) a b)
  bare_Forward a b ha hb = typed_Forward TExpr bare_step (at p of) a b ∙ (λ i. typed.Forward (at p of) (ha i) (hb i))

  pub bare_Onto : (a b : TExpr) → IsBare a → IsBare b → IsBare (typed.Onto (at p of) a b)
  bare_Onto a b ha hb = typed_Onto TExpr bare_step (at p of) a b ∙ (λ i. typed.Onto (at p of) (ha i) (hb i))

  pub bare_Back : (a b : TExpr) → IsBare a → IsBare b → IsBare (typed.Back (at p of) a b)
  bare_Back a b ha hb = typed_Back TExpr bare_step (at p of) a b ∙ (λ i. typed.Back (at p of) (ha i) (hb i))

  pub bare_PtrCompare : (op : Bin) (a b : TExpr) → IsBare a → IsBare b → IsBare (typed.PtrCompare (at p of) op a b)
  bare_PtrCompare op a b ha hb = typed_PtrCompare TExpr bare_step (at p of) op a b ∙ (λ i. typed.PtrCompare (at p of) op (ha i) (hb i))

  pub bare_PtrDistance : (a b : TExpr) → IsBare a → IsBare b → IsBare (typed.PtrDistance (at p of) a b)
  bare_PtrDistance a b ha hb = typed_PtrDistance TExpr bare_step (at p of) a b ∙ (λ i. typed.PtrDistance (at p of) (ha i) (hb i))

  pub bare_Cond : (a b c : TExpr) → IsBare a → IsBare b → IsBare c → IsBare (typed.Cond (at p of) a b c)
  bare_Cond a b c ha hb hc = typed_Cond TExpr bare_step (at p of) a b c ∙ (λ i. typed.Cond (at p of) (ha i) (hb i) (hc i))

  pub bare_Assign : (a b : TExpr) → IsBare a → IsBare b → IsBare (typed.Assign (at p of) a b)
  bare_Assign a b ha hb = typed_Assign TExpr bare_step (at p of) a b ∙ (λ i. typed.Assign (at p of) (ha i) (hb i))

  pub bare_AssignBy : (change : Change) (a b : TExpr) → IsBare a → IsBare b → IsBare (typed.AssignBy (at p of) change a b)
  bare_AssignBy change a b ha hb = typed_AssignBy TExpr bare_step (at p of) change a b ∙ (λ i. typed.AssignBy (at p of) change (ha i) (hb i))

  pub bare_Comma : (a b : TExpr) → IsBare a → IsBare b → IsBare (typed.Comma (at p of) a b)
  bare_Comma a b ha hb = typed_Comma TExpr bare_step (at p of) a b ∙ (λ i. typed.Comma (at p of) (ha i) (hb i))

-- one of two expressions
pub bare_cond : (b : Bool) (x y : TExpr) → IsBare x → IsBare y → IsBare (cond b x y)
bare_cond true x y hx hy = hx
bare_cond false x y hx hy = hy

bare_conversion : (to : Kind) (e : TExpr) (o : Option ℤ) → IsBare e → IsBare (conversion to e o)
bare_conversion to e None h = bare_Convert (node_of e).place (ttype.Number to) e h
bare_conversion to e (Some z) h = bare_Number (node_of e).place (ttype.Number to) _

-- an expression of one kind in another
pub bare_in_kind : (from to : Kind) (e : TExpr) → IsBare e → IsBare (in_kind from to e)
unfolding in_kind
bare_in_kind from to e h = bare_cond (same_kind from to) e (conversion to e (number_in e)) h (bare_conversion to e (number_in e) h)

bare_unless : (e other : TExpr) (o : Option ℤ) → IsBare e → IsBare other → IsBare (unless_number e other o)
bare_unless e other None h k = h
bare_unless e other (Some z) h k = k

-- an expression of one kind in another where it is a number
pub bare_number_in_kind : (from to : Kind) (e : TExpr) → IsBare e → IsBare (number_in_kind from to e)
unfolding number_in_kind
bare_number_in_kind from to e h = bare_unless e (in_kind from to e) (number_in e) h (bare_in_kind from to e h)
