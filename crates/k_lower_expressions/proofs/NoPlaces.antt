-- What is no place designates the element at the number 0.
use Rattle.std.proofs.Common.{ℕ, ℤ, ◌≡◌, ◌∙◌, ◌⊎◌, List, inl, inr, refl, ap}
use Rattle.k_num.specs.declared.numbers.Bin.{Bin}
use Rattle.k_num.specs.declared.numbers.Kind.{Kind}
use Rattle.k_num.specs.declared.numbers.Un.{Un}
use Rattle.k_types_meaning.proofs.Folds.{typed_Address, typed_Assign, typed_AssignBy, typed_Back, typed_Binary, typed_Both, typed_Call, typed_Cast, typed_Comma, typed_Cond, typed_Convert, typed_Either, typed_Forward, typed_Getchar, typed_Number, typed_Onto, typed_Plus, typed_Post, typed_Pre, typed_Printf, typed_PtrCompare, typed_PtrDistance, typed_Putchar, typed_Puts, typed_Str, typed_Unary}
use Rattle.k_types_meaning.specs.declared.tree.expression.Change.{Change}
use Rattle.k_types_meaning.specs.declared.tree.expression.Node.{Node}
use Rattle.k_types_meaning.specs.declared.tree.expression.Piece.{Piece}
use Rattle.k_types_meaning.specs.declared.tree.expression.TExpr.{TExpr}
use Rattle.k_types_meaning.specs.declared.tree.expression.TExpr.TheVariants as typed
use Rattle.k_code.specs.declared.instruction.Instr.{Instr}
use Rattle.k_lower_code.specs.Assignments.{assign, assign_by, post, pre}
use Rattle.k_lower_code.specs.Library.{call, getchar, printf, putchar, puts}
use Rattle.k_lower_code.specs.Lowered.{InMemory, Lowered}
use Rattle.k_lower_code.specs.Operators.{binary, both, cast, comma, compare, cond, convert, distance, either, plus, unary}
use Rattle.k_lower_code.specs.Pieces.{nothing, only}
use Rattle.k_lower_code.specs.Places.{address, back, forward, number, onto, string}
use Rattle.k_lower_expressions.specs.declared.around.Around.{Around}
use Rattle.k_lower_expressions.specs.Arounds.{lowered_in}
use Rattle.k_lower_expressions.proofs.Emitted.{Emitted, only_emitted}
use Rattle.k_lower_expressions.proofs.Rows.{step_in}

module _ (a : Around) (e : TExpr) (node : Node) (r : ℕ) (old : List Instr) where
  -- an expression that is lowered so
  nowhere : (l : Lowered) → lowered_in a e ≡ l → l.place r ≡ only (InMemory nothing) → Emitted (InMemory nothing) ((lowered_in a e).place r) old old
  nowhere l is no_place = only_emitted (InMemory nothing) (InMemory nothing) ((lowered_in a e).place r) old (ap (λ (l : Lowered). l.place r) is ∙ no_place) refl

  number_nowhere : (z : ℤ) → e ≡ typed.Number node z → Emitted (InMemory nothing) ((lowered_in a e).place r) old old
  unfolding number
  number_nowhere z is = nowhere _ (ap (lowered_in a) is ∙ typed_Number Lowered (step_in a) node z) refl

  string_nowhere : (n : ℕ) (bytes : List ℕ) → e ≡ typed.Str node n bytes → Emitted (InMemory nothing) ((lowered_in a e).place r) old old
  unfolding string
  string_nowhere n bytes is = nowhere _ (ap (lowered_in a) is ∙ typed_Str Lowered (step_in a) node n bytes) refl

  call_nowhere : (f : ℕ) (args : List TExpr) → e ≡ typed.Call node f args → Emitted (InMemory nothing) ((lowered_in a e).place r) old old
  unfolding call
  call_nowhere f args is = nowhere _ (ap (lowered_in a) is ∙ typed_Call Lowered (step_in a) node f args) refl

  getchar_nowhere : e ≡ typed.Getchar node → Emitted (InMemory nothing) ((lowered_in a e).place r) old old
  unfolding getchar
  getchar_nowhere is = nowhere _ (ap (lowered_in a) is ∙ typed_Getchar Lowered (step_in a) node) refl

  putchar_nowhere : (x : TExpr) → e ≡ typed.Putchar node x → Emitted (InMemory nothing) ((lowered_in a e).place r) old old
  unfolding putchar
  putchar_nowhere x is = nowhere _ (ap (lowered_in a) is ∙ typed_Putchar Lowered (step_in a) node x) refl

  puts_nowhere : (x : TExpr) → e ≡ typed.Puts node x → Emitted (InMemory nothing) ((lowered_in a e).place r) old old
  unfolding puts
  puts_nowhere x is = nowhere _ (ap (lowered_in a) is ∙ typed_Puts Lowered (step_in a) node x) refl

  printf_nowhere : (format : List Piece) (args : List TExpr) → e ≡ typed.Printf node format args → Emitted (InMemory nothing) ((lowered_in a e).place r) old old
  unfolding printf
  printf_nowhere format args is = nowhere _ (ap (lowered_in a) is ∙ typed_Printf Lowered (step_in a) node format args) refl

  post_nowhere : (change : Change) (x : TExpr) → e ≡ typed.Post node change x → Emitted (InMemory nothing) ((lowered_in a e).place r) old old
  unfolding post
  post_nowhere change x is = nowhere _ (ap (lowered_in a) is ∙ typed_Post Lowered (step_in a) node change x) refl

  pre_nowhere : (change : Change) (x : TExpr) → e ≡ typed.Pre node change x → Emitted (InMemory nothing) ((lowered_in a e).place r) old old
  unfolding pre
  pre_nowhere change x is = nowhere _ (ap (lowered_in a) is ∙ typed_Pre Lowered (step_in a) node change x) refl

  address_nowhere : (x : TExpr) → e ≡ typed.Address node x → Emitted (InMemory nothing) ((lowered_in a e).place r) old old
  unfolding address
  address_nowhere x is = nowhere _ (ap (lowered_in a) is ∙ typed_Address Lowered (step_in a) node x) refl

  plus_nowhere : (x : TExpr) → e ≡ typed.Plus node x → Emitted (InMemory nothing) ((lowered_in a e).place r) old old
  unfolding plus
  plus_nowhere x is = nowhere _ (ap (lowered_in a) is ∙ typed_Plus Lowered (step_in a) node x) refl

  unary_nowhere : (op : Un) (kind : Kind) (x : TExpr) → e ≡ typed.Unary node op kind x → Emitted (InMemory nothing) ((lowered_in a e).place r) old old
  unfolding unary
  unary_nowhere op kind x is = nowhere _ (ap (lowered_in a) is ∙ typed_Unary Lowered (step_in a) node op kind x) refl

  convert_nowhere : (x : TExpr) → e ≡ typed.Convert node x → Emitted (InMemory nothing) ((lowered_in a e).place r) old old
  unfolding convert
  convert_nowhere x is = nowhere _ (ap (lowered_in a) is ∙ typed_Convert Lowered (step_in a) node x) refl

  cast_nowhere : (x : TExpr) → e ≡ typed.Cast node x → Emitted (InMemory nothing) ((lowered_in a e).place r) old old
  unfolding cast
  cast_nowhere x is = nowhere _ (ap (lowered_in a) is ∙ typed_Cast Lowered (step_in a) node x) refl

  binary_nowhere : (op : Bin) (kind : Kind) (x y : TExpr) → e ≡ typed.Binary node op kind x y → Emitted (InMemory nothing) ((lowered_in a e).place r) old old
  unfolding binary
  binary_nowhere op kind x y is = nowhere _ (ap (lowered_in a) is ∙ typed_Binary Lowered (step_in a) node op kind x y) refl

  both_nowhere : (x y : TExpr) → e ≡ typed.Both node x y → Emitted (InMemory nothing) ((lowered_in a e).place r) old old
  unfolding both
  both_nowhere x y is = nowhere _ (ap (lowered_in a) is ∙ typed_Both Lowered (step_in a) node x y) refl

  either_nowhere : (x y : TExpr) → e ≡ typed.Either node x y → Emitted (InMemory nothing) ((lowered_in a e).place r) old old
  unfolding either
  either_nowhere x y is = nowhere _ (ap (lowered_in a) is ∙ typed_Either Lowered (step_in a) node x y) refl

  forward_nowhere : (x y : TExpr) → e ≡ typed.Forward node x y → Emitted (InMemory nothing) ((lowered_in a e).place r) old old
  unfolding forward
  forward_nowhere x y is = nowhere _ (ap (lowered_in a) is ∙ typed_Forward Lowered (step_in a) node x y) refl

  onto_nowhere : (x y : TExpr) → e ≡ typed.Onto node x y → Emitted (InMemory nothing) ((lowered_in a e).place r) old old
  unfolding onto
  onto_nowhere x y is = nowhere _ (ap (lowered_in a) is ∙ typed_Onto Lowered (step_in a) node x y) refl

  back_nowhere : (x y : TExpr) → e ≡ typed.Back node x y → Emitted (InMemory nothing) ((lowered_in a e).place r) old old
  unfolding back
  back_nowhere x y is = nowhere _ (ap (lowered_in a) is ∙ typed_Back Lowered (step_in a) node x y) refl

  compare_nowhere : (op : Bin) (x y : TExpr) → e ≡ typed.PtrCompare node op x y → Emitted (InMemory nothing) ((lowered_in a e).place r) old old
  unfolding compare
  compare_nowhere op x y is = nowhere _ (ap (lowered_in a) is ∙ typed_PtrCompare Lowered (step_in a) node op x y) refl

  distance_nowhere : (x y : TExpr) → e ≡ typed.PtrDistance node x y → Emitted (InMemory nothing) ((lowered_in a e).place r) old old
  unfolding distance
  distance_nowhere x y is = nowhere _ (ap (lowered_in a) is ∙ typed_PtrDistance Lowered (step_in a) node x y) refl

  cond_nowhere : (x y z : TExpr) → e ≡ typed.Cond node x y z → Emitted (InMemory nothing) ((lowered_in a e).place r) old old
  unfolding cond
  cond_nowhere x y z is = nowhere _ (ap (lowered_in a) is ∙ typed_Cond Lowered (step_in a) node x y z) refl

  assign_nowhere : (x y : TExpr) → e ≡ typed.Assign node x y → Emitted (InMemory nothing) ((lowered_in a e).place r) old old
  unfolding assign
  assign_nowhere x y is = nowhere _ (ap (lowered_in a) is ∙ typed_Assign Lowered (step_in a) node x y) refl

  assign_by_nowhere : (change : Change) (x y : TExpr) → e ≡ typed.AssignBy node change x y → Emitted (InMemory nothing) ((lowered_in a e).place r) old old
  unfolding assign_by
  assign_by_nowhere change x y is = nowhere _ (ap (lowered_in a) is ∙ typed_AssignBy Lowered (step_in a) node change x y) refl

  comma_nowhere : (x y : TExpr) → e ≡ typed.Comma node x y → Emitted (InMemory nothing) ((lowered_in a e).place r) old old
  unfolding comma
  comma_nowhere x y is = nowhere _ (ap (lowered_in a) is ∙ typed_Comma Lowered (step_in a) node x y) refl

-- an expression is of a form that is no place
abbrev pub IsNoPlace : TExpr → Type 0
IsNoPlace e =
    ((node : Node) × (z : ℤ) × (e ≡ typed.Number node z)) ⊎ (
    ((node : Node) × (n : ℕ) × (bytes : List ℕ) × (e ≡ typed.Str node n bytes)) ⊎ (
    ((node : Node) × (f : ℕ) × (args : List TExpr) × (e ≡ typed.Call node f args)) ⊎ (
    ((node : Node) × (e ≡ typed.Getchar node)) ⊎ (
    ((node : Node) × (x : TExpr) × (e ≡ typed.Putchar node x)) ⊎ (
    ((node : Node) × (x : TExpr) × (e ≡ typed.Puts node x)) ⊎ (
    ((node : Node) × (format : List Piece) × (args : List TExpr) × (e ≡ typed.Printf node format args)) ⊎ (
    ((node : Node) × (change : Change) × (x : TExpr) × (e ≡ typed.Post node change x)) ⊎ (
    ((node : Node) × (change : Change) × (x : TExpr) × (e ≡ typed.Pre node change x)) ⊎ (
    ((node : Node) × (x : TExpr) × (e ≡ typed.Address node x)) ⊎ (
    ((node : Node) × (x : TExpr) × (e ≡ typed.Plus node x)) ⊎ (
    ((node : Node) × (op : Un) × (kind : Kind) × (x : TExpr) × (e ≡ typed.Unary node op kind x)) ⊎ (
    ((node : Node) × (x : TExpr) × (e ≡ typed.Convert node x)) ⊎ (
    ((node : Node) × (x : TExpr) × (e ≡ typed.Cast node x)) ⊎ (
    ((node : Node) × (op : Bin) × (kind : Kind) × (x : TExpr) × (y : TExpr) × (e ≡ typed.Binary node op kind x y)) ⊎ (
    ((node : Node) × (x : TExpr) × (y : TExpr) × (e ≡ typed.Both node x y)) ⊎ (
    ((node : Node) × (x : TExpr) × (y : TExpr) × (e ≡ typed.Either node x y)) ⊎ (
    ((node : Node) × (x : TExpr) × (y : TExpr) × (e ≡ typed.Forward node x y)) ⊎ (
    ((node : Node) × (x : TExpr) × (y : TExpr) × (e ≡ typed.Onto node x y)) ⊎ (
    ((node : Node) × (x : TExpr) × (y : TExpr) × (e ≡ typed.Back node x y)) ⊎ (
    ((node : Node) × (op : Bin) × (x : TExpr) × (y : TExpr) × (e ≡ typed.PtrCompare node op x y)) ⊎ (
    ((node : Node) × (x : TExpr) × (y : TExpr) × (e ≡ typed.PtrDistance node x y)) ⊎ (
    ((node : Node) × (x : TExpr) × (y : TExpr) × (z : TExpr) × (e ≡ typed.Cond node x y z)) ⊎ (
    ((node : Node) × (x : TExpr) × (y : TExpr) × (e ≡ typed.Assign node x y)) ⊎ (
    ((node : Node) × (change : Change) × (x : TExpr) × (y : TExpr) × (e ≡ typed.AssignBy node change x y)) ⊎ (
    ((node : Node) × (x : TExpr) × (y : TExpr) × (e ≡ typed.Comma node x y)))))))))))))))))))))))))))

one_of : {A B C : Type 0} → (A → C) → (B → C) → A ⊎ B → C
one_of f g (inl a) = f a
one_of f g (inr b) = g b

pub no_place : (a : Around) (e : TExpr) (r : ℕ) (old : List Instr) → IsNoPlace e → Emitted (InMemory nothing) ((lowered_in a e).place r) old old
no_place a e r old =
    (one_of (λ h. number_nowhere a e h.0 r old h.1 h.2)
    (one_of (λ h. string_nowhere a e h.0 r old h.1 h.2 h.3)
    (one_of (λ h. call_nowhere a e h.0 r old h.1 h.2 h.3)
    (one_of (λ h. getchar_nowhere a e h.0 r old h.1)
    (one_of (λ h. putchar_nowhere a e h.0 r old h.1 h.2)
    (one_of (λ h. puts_nowhere a e h.0 r old h.1 h.2)
    (one_of (λ h. printf_nowhere a e h.0 r old h.1 h.2 h.3)
    (one_of (λ h. post_nowhere a e h.0 r old h.1 h.2 h.3)
    (one_of (λ h. pre_nowhere a e h.0 r old h.1 h.2 h.3)
    (one_of (λ h. address_nowhere a e h.0 r old h.1 h.2)
    (one_of (λ h. plus_nowhere a e h.0 r old h.1 h.2)
    (one_of (λ h. unary_nowhere a e h.0 r old h.1 h.2 h.3 h.4)
    (one_of (λ h. convert_nowhere a e h.0 r old h.1 h.2)
    (one_of (λ h. cast_nowhere a e h.0 r old h.1 h.2)
    (one_of (λ h. binary_nowhere a e h.0 r old h.1 h.2 h.3 h.4 h.5)
    (one_of (λ h. both_nowhere a e h.0 r old h.1 h.2 h.3)
    (one_of (λ h. either_nowhere a e h.0 r old h.1 h.2 h.3)
    (one_of (λ h. forward_nowhere a e h.0 r old h.1 h.2 h.3)
    (one_of (λ h. onto_nowhere a e h.0 r old h.1 h.2 h.3)
    (one_of (λ h. back_nowhere a e h.0 r old h.1 h.2 h.3)
    (one_of (λ h. compare_nowhere a e h.0 r old h.1 h.2 h.3 h.4)
    (one_of (λ h. distance_nowhere a e h.0 r old h.1 h.2 h.3)
    (one_of (λ h. cond_nowhere a e h.0 r old h.1 h.2 h.3 h.4)
    (one_of (λ h. assign_nowhere a e h.0 r old h.1 h.2 h.3)
    (one_of (λ h. assign_by_nowhere a e h.0 r old h.1 h.2 h.3 h.4)
    (λ h. comma_nowhere a e h.0 r old h.1 h.2 h.3))))))))))))))))))))))))))
