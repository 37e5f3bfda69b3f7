-- What the code answers is whether the condition holds, or that there is none; and the tokens have one tree.
use Rattle.std.proofs.Common.{◌≡◌, Bool, List, Option, Some, None, refl, ap, sym, ◌∙◌}
use Rattle.std.proofs.lemmas.Option.{same_Some}
use Rattle.k_tree.specs.Spelling.{Spelled}
use Rattle.k_lex_conditions.specs.declared.value.Value.{Value}
use Rattle.k_lex_conditions.specs.declared.value.Known.{Known}
use Rattle.k_lex_conditions.specs.Trees.{Tree, operand, enclosed, sign, operation, choice, spelling, Ranked}
use Rattle.k_lex_conditions.specs.Values.{value, operand_value, prefixed, infixed, chosen}
use Rattle.k_lex_conditions.specs.Conditions.{holding, IsDecided, TreeIsUnique}
use Rattle.k_lex_conditions.specs.Reading.{made, values, trees, result_of, value_of, answer}
use Rattle.k_lex_conditions.proofs.Complete.{complete}
use Rattle.k_lex_conditions.proofs.Sound.{sound}

-- nothing is not something
none_some : {A : Type 0} (x : A) → None ≡ Some x → ⊥
none_some x e = cc

-- what a tree makes as a value is its value
made_value : (names : List Known) (t : Tree) → made values (operand_value names) t ≡ value names t
made_value names (operand t) = refl
made_value names (enclosed a) = made_value names a
made_value names (sign op a) = ap (prefixed op) (made_value names a)
made_value names (operation op a b) = ap (λ x. infixed op x (made values (operand_value names) b)) (made_value names a) ∙ ap (λ x. infixed op (value names a) x) (made_value names b)
made_value names (choice a b c) = ap (λ x. chosen x (made values (operand_value names) b) (made values (operand_value names) c)) (made_value names a)
    ∙ (ap (λ x. chosen (value names a) x (made values (operand_value names) c)) (made_value names b) ∙ ap (λ x. chosen (value names a) (value names b) x) (made_value names c))

-- what a tree makes as a tree is itself
made_tree : (t : Tree) → made trees operand t ≡ t
made_tree (operand t) = refl
made_tree (enclosed a) = ap enclosed (made_tree a)
made_tree (sign op a) = ap (sign op) (made_tree a)
made_tree (operation op a b) = ap (λ x. operation op x (made trees operand b)) (made_tree a) ∙ ap (λ x. operation op a x) (made_tree b)
made_tree (choice a b c) = ap (λ x. choice x (made trees operand b) (made trees operand c)) (made_tree a)
    ∙ (ap (λ x. choice a x (made trees operand c)) (made_tree b) ∙ ap (λ x. choice a b x) (made_tree c))

-- tokens that a tree spells have its value
has_value : (names : List Known) (ts : Spelled) (t : Tree) → Ranked 2 t → spelling t ≡ ts → value_of names ts ≡ Some (value names t)
has_value names ts t x e = ap (value_of names) (sym e) ∙ (complete values (operand_value names) t x ∙ ap Some (made_value names t))

decided_value : (names : List Known) (ts : Spelled) (v : Value) → value_of names ts ≡ Some v → (o : Option Bool) → holding v.number ≡ o → IsDecided names ts o
decided_value names ts v e (Some holds) h =
    let i = sound values (operand_value names) ts v e in
    record {
      tree = i.tree;
      ranked = i.ranked;
      spelled = i.spelled;
      valued = ap (λ w. holding w.number) (sym (i.makes ∙ made_value names i.tree)) ∙ h;
    }
decided_value names ts v e None h = λ holds c.
    let same : v ≡ value names c.tree = same_Some v (value names c.tree) (sym e ∙ has_value names ts c.tree c.ranked c.spelled) in
    none_some holds (sym h ∙ (ap (λ w. holding w.number) same ∙ c.valued))

decided_by : (names : List Known) (ts : Spelled) (o : Option Value) → value_of names ts ≡ o → IsDecided names ts (answer o)
decided_by names ts (Some v) e = decided_value names ts v e (holding v.number) refl
decided_by names ts None e = λ holds c. none_some (value names c.tree) (sym e ∙ has_value names ts c.tree c.ranked c.spelled)

-- the answer is whether the condition holds, or that there is none
pub decided : (names : List Known) (ts : Spelled) → IsDecided names ts (answer (value_of names ts))
decided names ts = decided_by names ts (value_of names ts) refl

-- the tokens of a condition are those of one tree
pub one_tree : TreeIsUnique
one_tree a b x y e =
    sym (made_tree a)
    ∙ (same_Some (made trees operand a) (made trees operand b) (sym (complete trees operand a x) ∙ (ap (result_of trees operand) e ∙ complete trees operand b y))
    ∙ made_tree b)
