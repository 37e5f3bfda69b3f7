-- What an expression has as its typed tree is meant so, where the names that are known fit.
use Rattle.std.proofs.Common.{◌≡◌, ℕ, List, subst}
use Rattle.k_num.specs.declared.numbers.Kind.{Kind}
use Rattle.k_tree.specs.declared.tree.expression.Expr.{Expr}
use Rattle.k_types_meaning.specs.CallRules.{call_rule}
use Rattle.k_types_meaning.specs.Conversions.{Typed}
use Rattle.k_types_meaning.specs.Elaborated.{Elab, ElabAll, name, number, character, string, paren, index, call, postfix, prefix, unary, sizeof_expr, sizeof_type, cast, binary, conditional, assignment, comma, no_args, more_args}
use Rattle.k_types_meaning.specs.Made.{Made, Fine}
use Rattle.k_types_meaning.specs.Names.{Names}
use Rattle.k_types_meaning.specs.Operands.{name_rule, number_rule, char_rule, string_rule, index_rule, unary_rule, post_rule, pre_rule, sizeof_rule, sizeof_type_rule, cast_rule}
use Rattle.k_types_meaning.specs.Operators.{binary_rule, cond_rule, assign_rule, comma_rule}
use Rattle.k_types_meaning.proofs.Fine.{IfFine}
use Rattle.k_marks_laws.proofs.Calling.{call_meant}
use Rattle.k_marks_laws.proofs.Meant.{Meant, AllMeant}
use Rattle.k_marks_laws.proofs.Operands.{name_meant, number_meant, char_meant, string_meant, index_meant, unary_meant, post_meant, pre_meant, sizeof_meant, sizeof_type_meant, cast_meant}
use Rattle.k_marks_laws.proofs.Operations.{binary_meant, cond_meant, assign_meant, comma_meant}
use Rattle.k_marks_laws.proofs.Scopes.{NamesEach, Fits}

-- what a rule makes is what is meant
makes : (K : ℕ → Kind → Type 0) (count : ℕ) (m : Made Typed) (v : Typed) → m ≡ Fine v → IfFine (Meant K count) m → Meant K count v
makes K count m v is h = subst (IfFine (Meant K count)) is h

mutual
  pub meant : (K : ℕ → Kind → Type 0) (count : ℕ) (names : Names) (e : Expr) (v : Typed) → NamesEach (Fits K count) names → Elab names e v → Meant K count v
  meant K count _ _ _ fit (name names p x v is) = makes K count (name_rule names p x) v is (name_meant K count names p x fit)
  meant K count _ _ _ fit (number names p kind n v is) = makes K count (number_rule p kind n) v is (number_meant K count p kind n)
  meant K count _ _ _ fit (character names p z v is) = makes K count (char_rule p z) v is (char_meant K count p z)
  meant K count _ _ _ fit (string names p bytes v is) = makes K count (string_rule p bytes) v is (string_meant K count p bytes)
  meant K count _ _ _ fit (paren names p e v x) = meant K count names e v fit x
  meant K count _ _ _ fit (index names p a b x y v l r is) =
      makes K count (index_rule p x y) v is (index_meant K count p x y (meant K count names a x fit l) (meant K count names b y fit r))
  meant K count _ _ _ fit (call names p f args xs v all is) = makes K count (call_rule names p f xs) v is (call_meant K count names p f xs (all_meant K count names args xs fit all))
  meant K count _ _ _ fit (postfix names p op a x v l is) = makes K count (post_rule p op x) v is (post_meant K count p op x (meant K count names a x fit l))
  meant K count _ _ _ fit (prefix names p op a x v l is) = makes K count (pre_rule p op x) v is (pre_meant K count p op x (meant K count names a x fit l))
  meant K count _ _ _ fit (unary names p op a x v l is) = makes K count (unary_rule p op x) v is (unary_meant K count p op x (meant K count names a x fit l))
  meant K count _ _ _ fit (sizeof_expr names p a x v l is) = makes K count (sizeof_rule p x) v is (sizeof_meant K count p x)
  meant K count _ _ _ fit (sizeof_type names p specs stars v is) = makes K count (sizeof_type_rule p specs stars) v is (sizeof_type_meant K count p specs stars)
  meant K count _ _ _ fit (cast names p specs stars a x v l is) = makes K count (cast_rule p specs stars x) v is (cast_meant K count p specs stars x (meant K count names a x fit l))
  meant K count _ _ _ fit (binary names p op a b x y v l r is) =
      makes K count (binary_rule p op x y) v is (binary_meant K count p op x y (meant K count names a x fit l) (meant K count names b y fit r))
  meant K count _ _ _ fit (conditional names p a b c x y z v l r s is) =
      makes K count (cond_rule p x y z) v is (cond_meant K count p x y z (meant K count names a x fit l) (meant K count names b y fit r) (meant K count names c z fit s))
  meant K count _ _ _ fit (assignment names p op a b x y v l r is) =
      makes K count (assign_rule p op x y) v is (assign_meant K count p op x y (meant K count names a x fit l) (meant K count names b y fit r))
  meant K count _ _ _ fit (comma names p a b x y v l r is) =
      makes K count (comma_rule p x y) v is (comma_meant K count p x y (meant K count names a x fit l) (meant K count names b y fit r))

  all_meant : (K : ℕ → Kind → Type 0) (count : ℕ) (names : Names) (es : List Expr) (vs : List Typed) → NamesEach (Fits K count) names → ElabAll names es vs → AllMeant K count vs
  all_meant K count _ _ _ fit (no_args names) = tt
  all_meant K count _ _ _ fit (more_args names e es v vs x xs) = (meant K count names e v fit x, all_meant K count names es vs fit xs)
