-- What an expression means where variables are of these kinds and there are so many of them: it names no others, and its top is typed.
use Rattle.std.proofs.Common.{◌≡◌, ℕ, ◌<◌, ◌≤◌, ℤ, List, [], ◌∷◌, ◌++◌, map, Option, Some, None, Bool, true, false, if◌then◌else◌, refl, sym, ◌∙◌, ap, subst}
use Rattle.std.proofs.lemmas.Bool.{eqb-true}
use Rattle.std.proofs.lemmas.Option.{same_Some}
use Rattle.k_num.specs.declared.numbers.Kind.{Kind}
use Rattle.k_num.specs.Kind.{width, converted}
use Rattle.k_types_meaning.specs.declared.types.CType.{CType}
use Rattle.k_types_meaning.specs.declared.types.CType.TheVariants as ctype
use Rattle.k_types_meaning.specs.declared.types.TType.TheVariants as ttype
use Rattle.k_types_meaning.specs.declared.tree.expression.Change.{Change}
use Rattle.k_types_meaning.specs.declared.tree.expression.Node.{Node}
use Rattle.k_types_meaning.specs.declared.tree.expression.TExpr.{TExpr, out-TExpr}
use Rattle.k_types_meaning.specs.declared.tree.expression.TExpr.TheOpen.{TExpr-F}
use Rattle.k_types_meaning.specs.declared.tree.expression.TExpr.TheVariants as typed
use Rattle.k_types_meaning.specs.Conversions.{Typed, at, node_of, in_kind, number_in, conversion, number_in_kind, unless_number}
use Rattle.k_types_meaning.specs.Types.{same_kind}
use Rattle.k_marks_meaning.specs.declared.uses.Group.{Group}
use Rattle.k_marks_meaning.specs.declared.uses.Read.{Read}
use Rattle.k_marks_meaning.specs.declared.uses.Use.{Use}
use Rattle.k_marks_meaning.specs.declared.uses.Use.TheVariants.{Names, Assigns, Declares, Reduces}
use Rattle.k_marks_meaning.specs.Uses.{Used, used, uses_of, assigns, in_order}
use Rattle.k_marks_meaning.specs.Reductions.{group_of, variable_step, variable_of, read_step, read_of}
use Rattle.k_marks_meaning.specs.Loops.{reads}
use Rattle.k_marks_laws.specs.Counted.{EachNamed, IsTypedChange, IsTypedSide}
use Rattle.k_marks_laws.proofs.OneVariable.{IsRead, uses_at, used_is, variable_is}
use Rattle.k_marks_laws.proofs.Good.{ChangesWell, GoodAt, Good}
use Rattle.k_marks_laws.proofs.Out.{out_Number, out_Convert}

-- NAMES of two texts
pub each_both : (P : ℕ → Type 0) (xs ys : List Use) → EachNamed P xs → EachNamed P ys → EachNamed P (xs ++ ys)
each_both P [] ys h k = k
each_both P (Names m ∷ xs) ys h k = (h.0, each_both P xs ys h.1 k)
each_both P (Assigns m ∷ xs) ys h k = each_both P xs ys h k
each_both P (Declares m ∷ xs) ys h k = each_both P xs ys h k
each_both P (Reduces r ∷ xs) ys h k = each_both P xs ys h k

pub each_target : (P : ℕ → Type 0) (itself : Option ℕ) (us : List Use) → EachNamed P us → EachNamed P (assigns itself ++ us)
each_target P None us h = h
each_target P (Some n) us h = h

-- what the rules of typing ask of the top of an operand of a type
abbrev pub TopAt : (ℕ → Kind → Type 0) → CType → TExpr-F TExpr → Type 0
TopAt K of (TExpr-F.Variable node n) = (kind : Kind) → K n kind → of ≡ ctype.Number kind
TopAt K of (TExpr-F.Convert node e) = ⊥
TopAt K of (TExpr-F.Binary node op wide left right) =
    (group : Group) → group_of op ≡ Some group
    → (of ≡ ctype.Number wide) × ((n : ℕ) → reads n (read_of left) ≡ true → (kind : Kind) → K n kind → width kind ≤ width wide)
TopAt K of _ = Unit {0}

module _ (K : ℕ → Kind → Type 0) (count : ℕ) where
  abbrev pub BelowAll : List Use → Type 0
  BelowAll us = EachNamed (λ n. n < count) us

  abbrev pub Below : TExpr → Type 0
  Below e = BelowAll (uses_of e)

  -- WHAT A JUDGED EXPRESSION MEANS
  pub record Meant (v : Typed) : Type 0 where
    pub below : Below v.tree
    pub good : Good K v.tree
    pub top : TopAt K v.of (out-TExpr v.tree)

  pub below_of : (e : TExpr) (x : TExpr-F TExpr) → out-TExpr e ≡ x → BelowAll (uses_at x).uses → Below e
  below_of e x is h = subst (λ (u : Used). BelowAll u.uses) (sym (used_is e ∙ ap uses_at is)) h

  -- by the form of its tree
  pub meant_of : (v : Typed) (x : TExpr-F TExpr) → out-TExpr v.tree ≡ x → BelowAll (uses_at x).uses → GoodAt K x → TopAt K v.of x → Meant v
  meant_of v x is below good top = record {
    below = below_of v.tree x is below;
    good = subst (GoodAt K) (sym is) good;
    top = subst (TopAt K v.of) (sym is) top;
  }

  -- of several trees
  abbrev pub AllBelow : List TExpr → Type 0
  AllBelow [] = Unit {0}
  AllBelow (e ∷ es) = Below e × AllBelow es

  pub all_below : (es : List TExpr) → AllBelow es → BelowAll (in_order (map used es))
  all_below [] h = tt
  all_below (e ∷ es) h = each_both (λ n. n < count) (uses_of e) (in_order (map used es)) h.0 (all_below es h.1)

  -- of several judged expressions
  abbrev pub AllMeant : List Typed → Type 0
  AllMeant [] = Unit {0}
  AllMeant (v ∷ vs) = Meant v × AllMeant vs

  -- CONVERSIONS name what they convert names
  conversion_below : (kind : Kind) (e : TExpr) (o : Option ℤ) → Below e → Below (conversion kind e o)
  conversion_below kind e None h =
      below_of (typed.Convert (at (node_of e).place (ttype.Number kind)) e) (TExpr-F.Convert (at (node_of e).place (ttype.Number kind)) e)
      (out_Convert (at (node_of e).place (ttype.Number kind)) e) h
  conversion_below kind e (Some z) h =
      below_of (typed.Number (at (node_of e).place (ttype.Number kind)) (converted kind z)) (TExpr-F.Number (at (node_of e).place (ttype.Number kind)) (converted kind z))
      (out_Number (at (node_of e).place (ttype.Number kind)) (converted kind z)) tt

  pub kind_below : (from to : Kind) (e : TExpr) → Below e → Below (in_kind from to e)
  unfolding in_kind
  kind_below from to e h = by (same_kind from to)
    where
      by : (b : Bool) → Below (if b then e else conversion to e (number_in e))
      by true = h
      by false = conversion_below to e (number_in e) h

  pub number_kind_below : (from to : Kind) (e : TExpr) → Below e → Below (number_in_kind from to e)
  unfolding number_in_kind
  number_kind_below from to e h = by (number_in e)
    where
      by : (o : Option ℤ) → Below (unless_number e (in_kind from to e) o)
      by None = h
      by (Some z) = kind_below from to e h

module _ (K : ℕ → Kind → Type 0) where
  -- AN OPERAND THAT IS A VARIABLE has its type
  itself_at : (of : CType) (y : TExpr-F TExpr) (n : ℕ) (kind : Kind) → TopAt K of y → (uses_at y).itself ≡ Some n → K n kind → of ≡ ctype.Number kind
  itself_at of (TExpr-F.Variable node m) n kind top is has = top kind (subst (λ (k : ℕ). K k kind) (sym (same_Some m n is)) has)
  itself_at of _ n kind top is has = absurd cc

  pub itself_kind : (v : Typed) (n : ℕ) (kind : Kind) → TopAt K v.of (out-TExpr v.tree) → (used v.tree).itself ≡ Some n → K n kind → v.of ≡ ctype.Number kind
  itself_kind v n kind top is has = itself_at v.of (out-TExpr v.tree) n kind top (sym (ap (λ (u : Used). u.itself) (used_is v.tree)) ∙ is) has

  -- so a change of an operand is typed if it is for the kind of its type
  pub changes_well : (v : Typed) (node : Node) (by : Change) → TopAt K v.of (out-TExpr v.tree) → ((kind : Kind) → v.of ≡ ctype.Number kind → IsTypedChange kind node by)
      → ChangesWell K node by (used v.tree).itself
  changes_well v node by top each = at_itself (used v.tree).itself refl
    where
      at_itself : (o : Option ℕ) → (used v.tree).itself ≡ o → ChangesWell K node by o
      at_itself None is = tt
      at_itself (Some n) is = λ kind has. each kind (itself_kind v n kind top is has)

  -- AN OPERAND THAT READS A VARIABLE is it
  variable_itself : (e : TExpr) (n : ℕ) → reads n (variable_of e) ≡ true → (used e).itself ≡ Some n
  variable_itself e n is = by (variable_of e) (variable_is e) is
    where
      by : (r : Option Read) → IsRead r (used e) → reads n r ≡ true → (used e).itself ≡ Some n
      by None u same = absurd cc
      by (Some r) u same = ap (λ (v : Used). v.itself) u ∙ ap Some (eqb-true r.variable n same)

  -- the variable of this number is of a kind, where this operand is the variable
  pub variable_kind : (v : Typed) (n : ℕ) (kind : Kind) → TopAt K v.of (out-TExpr v.tree) → reads n (variable_of v.tree) ≡ true → K n kind → v.of ≡ ctype.Number kind
  variable_kind v n kind top is has = itself_kind v n kind top (variable_itself v.tree n is) has

  -- an operand is no conversion, so it reads what it is
  read_variable_at : (of : CType) (y : TExpr-F TExpr) (n : ℕ) → TopAt K of y → reads n (read_step y) ≡ true → reads n (variable_step y) ≡ true
  read_variable_at of (TExpr-F.Variable node m) n top is = is
  read_variable_at of (TExpr-F.Convert node e) n top is = absurd top
  read_variable_at of _ n top is = absurd cc

  conversion_reads : (kind : Kind) (e : TExpr) (o : Option ℤ) (n : ℕ) → reads n (read_of (conversion kind e o)) ≡ true → reads n (variable_of e) ≡ true
  conversion_reads kind e None n is =
      sym (ap (λ (y : TExpr-F TExpr). reads n (read_step y)) (out_Convert (at (node_of e).place (ttype.Number kind)) e)) ∙ is
  conversion_reads kind e (Some z) n is = absurd (no (sym (ap (λ (y : TExpr-F TExpr). reads n (read_step y)) (out_Number (at (node_of e).place (ttype.Number kind)) (converted kind z))) ∙ is))
    where
      no : ◌≡◌ {A = Bool} false true → ⊥
      no h = cc

  pub kind_reads : (v : Typed) (from to : Kind) (n : ℕ) → TopAt K v.of (out-TExpr v.tree) → reads n (read_of (in_kind from to v.tree)) ≡ true → reads n (variable_of v.tree) ≡ true
  unfolding in_kind
  kind_reads v from to n top is = by (same_kind from to) is
    where
      by : (b : Bool) → reads n (read_of (if b then v.tree else conversion to v.tree (number_in v.tree))) ≡ true → reads n (variable_of v.tree) ≡ true
      by true same = read_variable_at v.of (out-TExpr v.tree) n top same
      by false same = conversion_reads to v.tree (number_in v.tree) n same

  -- A SIDE of an operation is converted to its kind where it is converted
  no_conversion_at : (of : CType) (wide : Kind) (y : TExpr-F TExpr) → TopAt K of y → IsTypedSide wide y
  no_conversion_at of wide (TExpr-F.Convert node e) top = absurd top
  no_conversion_at of wide _ top = tt

  conversion_side : (wide : Kind) (e : TExpr) (o : Option ℤ) → IsTypedSide wide (out-TExpr (conversion wide e o))
  conversion_side wide e None = subst (IsTypedSide wide) (sym (out_Convert (at (node_of e).place (ttype.Number wide)) e)) refl
  conversion_side wide e (Some z) = subst (IsTypedSide wide) (sym (out_Number (at (node_of e).place (ttype.Number wide)) (converted wide z))) tt

  pub side_typed : (v : Typed) (from wide : Kind) → TopAt K v.of (out-TExpr v.tree) → IsTypedSide wide (out-TExpr (in_kind from wide v.tree))
  unfolding in_kind
  side_typed v from wide top = by (same_kind from wide)
    where
      by : (b : Bool) → IsTypedSide wide (out-TExpr (if b then v.tree else conversion wide v.tree (number_in v.tree)))
      by true = no_conversion_at v.of wide (out-TExpr v.tree) top
      by false = conversion_side wide v.tree (number_in v.tree)
