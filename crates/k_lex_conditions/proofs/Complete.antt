-- Every tree that the grammar gives is read as what it makes.
use Rattle.std.proofs.Common.{ℕ, ◌≡◌, ◌+◌, ◌≤◌, Bool, true, false, ◌&&◌, nat_le, if◌then◌else◌, IsTrue, List, [], ◌∷◌, ◌++◌, Option, Some, None, refl, ap, sym, subst, ◌∙◌, append_assoc, arith}
use Rattle.std.proofs.lemmas.List.{append-nil}
use Rattle.std.proofs.lemmas.Bool.Decides.{nat_tests}
use Rattle.k_tree.specs.declared.tokens.TokenKind.{TokenKind}
use Rattle.k_tree.specs.declared.tokens.TokenKind.TheVariants as token
use Rattle.k_tree.specs.declared.tokens.mark.Mark.{Mark}
use Rattle.k_tree.specs.declared.tokens.mark.Mark.TheVariants as mark
use Rattle.k_tree.specs.Ranked.{binary_rank}
use Rattle.k_tree.specs.Spelling.{Spelled}
use Rattle.k_lex_conditions.specs.declared.value.Open.{Open}
use Rattle.k_lex_conditions.specs.declared.value.Open.TheVariants as open_
use Rattle.k_lex_conditions.specs.Trees.{Tree, spelling, is_operand, is_sign, Ranked, conditional, binary, unary, single, parted}
use Rattle.k_lex_conditions.specs.Reading.{Making, made, go_on, reduced, awaits, mark_before, before, mark_behind, operator, question, colon, right_paren, alone, run, result_of}

-- a choice by a test that is true
pub if_true : {A : Type 0} (b : Bool) (x y : A) → IsTrue b → (if b then x else y) ≡ x
if_true true x y h = refl
if_true false x y h = cc

-- a construct that goes on with its operand
taken : {A B : Type 0} (b : Bool) (y : B) (f : A → B) (x : A) → b ≡ true → go_on y f (if b then Some x else None) ≡ f x
taken true y f x h = refl
taken false y f x h = cc

-- a construct that doesn't
kept : {A B : Type 0} (b : Bool) (y : B) (f : A → B) (x : A) → b ≡ false → go_on y f (if b then Some x else None) ≡ y
kept true y f x h = cc
kept false y f x h = refl

-- a rank that a binary operator may have
abbrev is_rank : Option ℕ → Bool
is_rank None = true
is_rank (Some n) = nat_le 3 n && nat_le n 12

rank_fine : (op : Mark) → IsTrue (is_rank (binary_rank op))
rank_fine mark.Star = refl
rank_fine _ = refl

rank_bounds_by : (o : Option ℕ) (n : ℕ) → IsTrue (is_rank o) → o ≡ Some n → (3 ≤ n) × (n ≤ 12)
rank_bounds_by o n h e = let g : IsTrue (nat_le 3 n && nat_le n 12) = subst (λ x. IsTrue (is_rank x)) e h in
    (grind (arith, nat_tests, g), grind (arith, nat_tests, g))

-- the ranks of binary operators
pub rank_bounds : (op : Mark) (n : ℕ) → binary_rank op ≡ Some n → (3 ≤ n) × (n ≤ 12)
rank_bounds op n e = rank_bounds_by (binary_rank op) n (rank_fine op) e

-- an operand is read
operand_before : {A : Type 0} (leaf : TokenKind → A) (s : List (Open A)) (t : TokenKind) → IsTrue (is_operand t) → before leaf s t ≡ Some (s, Some (leaf t))
operand_before leaf s (token.Mark op) h = cc
operand_before leaf s t h = if_true (is_operand t) (Some (s, Some (leaf t))) None h

-- a sign is read
sign_before : {A : Type 0} (s : List (Open A)) (op : Mark) → IsTrue (is_sign op) → mark_before s op ≡ awaits s (open_.Prefix op)
sign_before s mark.LeftParen h = cc
sign_before s op h = if_true (is_sign op) (awaits s (open_.Prefix op)) None h

-- operators of this rank and above leave what is open as it is
abbrev pub Stays : {A : Type 0} → Making A → ℕ → List (Open A) → Type 0
Stays {A} m k s = (n : ℕ) (v : A) → k ≤ n → 3 ≤ n → n ≤ 12 → reduced m n s v ≡ (s, v)

stays_above : {A : Type 0} (m : Making A) (k j : ℕ) (s : List (Open A)) → k ≤ j → Stays m k s → Stays m j s
stays_above m k j s le h = λ n v a b c. h n v (omega (arith, le, a)) b c

stays_infix : {A : Type 0} (m : Making A) (op : Mark) (rank : ℕ) (left : A) (s : List (Open A)) → Stays m (rank + 1) (open_.Infix op rank left ∷ s)
stays_infix m op rank left s = λ n v a b c. kept (nat_le n rank) _ _ _ (grind (arith, nat_tests, a))

stays_prefix : {A : Type 0} (m : Making A) (op : Mark) (s : List (Open A)) → Stays m 13 (open_.Prefix op ∷ s)
stays_prefix m op s = λ n v a b c. absurd (omega (arith, a, c))

stays_other : {A : Type 0} (m : Making A) (test chosen : A) (s : List (Open A)) → Stays m 2 (open_.Other test chosen ∷ s)
stays_other m test chosen s = λ n v a b c. kept (nat_le n 2) _ _ _ (grind (arith, nat_tests, b))

-- tokens were read that make v, and operators up to rank k see no more of them than that
pub record IsRead {A : Type 0} (m : Making A) (leaf : TokenKind → A) (s : List (Open A)) (v : A) (k : ℕ) (before : Option A) (rest : Spelled) : Type 0 where
  pub opens : List (Open A)
  pub last : A
  pub runs : before ≡ run m leaf (Some (opens, Some last)) rest
  pub same : (r : ℕ) → r ≤ k → reduced m r opens last ≡ reduced m r s v

-- a tree is read, whatever stands behind it
reads : {A : Type 0} (m : Making A) (leaf : TokenKind → A) (k : ℕ) (t : Tree) → Ranked k t → (s : List (Open A)) → Stays m k s → (rest : Spelled)
    → IsRead m leaf s (made m leaf t) k (run m leaf (Some (s, None)) (spelling t ++ rest)) rest
reads m leaf _ _ (single k t h) s st rest = record {
  opens = s;
  last = leaf t;
  runs = ap (λ x. run m leaf x rest) (operand_before leaf s t h);
  same = λ r le. refl;
}
reads m leaf _ _ (parted k a x) s st rest =
    let i = reads m leaf 2 a x (open_.Paren ∷ s) (λ n v p q o. refl) (token.Mark mark.RightParen ∷ rest) in
    record {
      opens = s;
      last = m.within (made m leaf a);
      runs = ap (λ ts. run m leaf (Some (open_.Paren ∷ s, None)) ts) (append_assoc (spelling a) (token.Mark mark.RightParen ∷ []) rest)
          ∙ (i.runs ∙ ap (λ p. run m leaf (right_paren m p) rest) (i.same 0 (omega arith)));
      same = λ r le. refl;
    }
reads m leaf _ _ (unary k op a le h x) s st rest =
    let i = reads m leaf 13 a x (open_.Prefix op ∷ s) (stays_prefix m op s) rest in
    record {
      opens = i.opens;
      last = i.last;
      runs = ap (λ state. run m leaf state (spelling a ++ rest)) (sign_before s op h) ∙ i.runs;
      same = λ r below. i.same r (omega (arith, le, below));
    }
reads m leaf _ _ (binary k n op a b le e x y) s st rest =
    let bounds = rank_bounds op n e in
    let i = reads m leaf n a x s (stays_above m k n s le st) (token.Mark op ∷ spelling b ++ rest) in
    let j = reads m leaf (n + 1) b y (open_.Infix op n (made m leaf a) ∷ s) (stays_infix m op n (made m leaf a) s) rest in
    record {
      opens = j.opens;
      last = j.last;
      runs = ap (λ ts. run m leaf (Some (s, None)) ts) (append_assoc (spelling a) (token.Mark op ∷ spelling b) rest)
          ∙ (i.runs
          ∙ (ap (λ o. run m leaf (mark_behind m i.opens i.last op o) (spelling b ++ rest)) e
          ∙ (ap (λ p. run m leaf (operator op n p) (spelling b ++ rest)) (i.same n (omega arith) ∙ st n (made m leaf a) le bounds.0 bounds.1)
          ∙ j.runs)));
      same = λ r below. j.same r (omega (arith, le, below)) ∙ taken (nat_le r n) _ _ _ (grind (arith, nat_tests, le, below));
    }
reads m leaf _ _ (conditional k a b c le x y z) s st rest =
    let i = reads m leaf 3 a x s (stays_above m k 3 s (omega (arith, le)) st) (token.Mark mark.Question ∷ (spelling b ++ (token.Mark mark.Colon ∷ spelling c)) ++ rest) in
    let j = reads m leaf 2 b y (open_.Test (made m leaf a) ∷ s) (λ n v p q o. refl) (token.Mark mark.Colon ∷ spelling c ++ rest) in
    let l = reads m leaf 2 c z (open_.Other (made m leaf a) (made m leaf b) ∷ s) (stays_other m (made m leaf a) (made m leaf b) s) rest in
    record {
      opens = l.opens;
      last = l.last;
      runs = ap (λ ts. run m leaf (Some (s, None)) ts) (append_assoc (spelling a) (token.Mark mark.Question ∷ (spelling b ++ (token.Mark mark.Colon ∷ spelling c))) rest)
          ∙ (i.runs
          ∙ (ap (λ p. run m leaf (question p) ((spelling b ++ (token.Mark mark.Colon ∷ spelling c)) ++ rest)) (i.same 3 (omega arith) ∙ st 3 (made m leaf a) (omega (arith, le)) (omega arith) (omega arith))
          ∙ (ap (λ ts. run m leaf (Some (open_.Test (made m leaf a) ∷ s, None)) ts) (append_assoc (spelling b) (token.Mark mark.Colon ∷ spelling c) rest)
          ∙ (j.runs
          ∙ (ap (λ p. run m leaf (colon p) (spelling c ++ rest)) (j.same 0 (omega arith))
          ∙ l.runs)))));
      same = λ r below. l.same r (omega (arith, le, below)) ∙ taken (nat_le r 2) _ _ _ (grind (arith, nat_tests, le, below));
    }

-- the tokens of a tree make what the tree makes
pub complete : {A : Type 0} (m : Making A) (leaf : TokenKind → A) (t : Tree) → Ranked 2 t → result_of m leaf (spelling t) ≡ Some (made m leaf t)
complete m leaf t x =
    let i = reads m leaf 2 t x [] (λ n v p q o. refl) [] in
    ap (λ ts. run m leaf (Some ([], None)) ts) (sym (append-nil (spelling t))) ∙ (i.runs ∙ ap alone (i.same 0 (omega arith)))
