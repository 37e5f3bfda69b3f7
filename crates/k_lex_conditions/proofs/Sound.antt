-- What is read is what a tree makes that the grammar gives, and that the tokens spell.
use Rattle.std.proofs.Common.{ℕ, ◌≡◌, ◌+◌, ◌≤◌, Bool, true, false, nat_le, if◌then◌else◌, IsTrue, List, [], ◌∷◌, ◌++◌, Option, Some, None, refl, ap, sym, subst, ◌∙◌, append_assoc, arith}
use Rattle.std.proofs.lemmas.List.{append-nil}
use Rattle.std.proofs.lemmas.Option.{same_Some}
use Rattle.std.proofs.lemmas.Bool.Decides.{nat_tests}
use Rattle.k_tree.specs.declared.tokens.TokenKind.{TokenKind}
use Rattle.k_tree.specs.declared.tokens.TokenKind.TheVariants as token
use Rattle.k_tree.specs.declared.tokens.mark.Mark.{Mark}
use Rattle.k_tree.specs.declared.tokens.mark.Mark.TheVariants as mark
use Rattle.k_tree.specs.Ranked.{binary_rank}
use Rattle.k_tree.specs.Spelling.{Spelled}
use Rattle.k_lex_conditions.specs.declared.value.Open.{Open}
use Rattle.k_lex_conditions.specs.declared.value.Open.TheVariants as open_
use Rattle.k_lex_conditions.specs.Trees.{Tree, operand, enclosed, sign, operation, choice, spelling, is_operand, is_sign, Ranked, conditional, binary, unary, single, parted}
use Rattle.k_lex_conditions.specs.Reading.{Making, made, State, go_on, reduced, awaits, mark_before, before, mark_behind, other_mark, behind, step, operator, question, colon, right_paren, alone, finish, run, result_of}
use Rattle.k_lex_conditions.proofs.Complete.{rank_bounds}

-- the mark, as the last of these tokens
abbrev pub ended : Spelled → Mark → Spelled
ended xs m = xs ++ (token.Mark m ∷ [])

-- What is open was read from these tokens, and awaits an operand of this rank or a higher one.
pub data Stands {A : Type 0} (m : Making A) (leaf : TokenKind → A) : List (Open A) → Spelled → ℕ → Type 0 where
  bottom : Stands m leaf [] [] 2
  between : (s : List (Open A)) (l : Spelled) (h : ℕ) (op : Mark) (n : ℕ) (a : Tree) (v : A) → Stands m leaf s l h → h ≤ n → binary_rank op ≡ Some n
      → Ranked n a → v ≡ made m leaf a → Stands m leaf (open_.Infix op n v ∷ s) (l ++ ended (spelling a) op) (n + 1)
  signing : (s : List (Open A)) (l : Spelled) (h : ℕ) (op : Mark) → Stands m leaf s l h → IsTrue (is_sign op)
      → Stands m leaf (open_.Prefix op ∷ s) (ended l op) 13
  parting : (s : List (Open A)) (l : Spelled) (h : ℕ) → Stands m leaf s l h → Stands m leaf (open_.Paren ∷ s) (ended l mark.LeftParen) 2
  testing : (s : List (Open A)) (l : Spelled) (h : ℕ) (a : Tree) (v : A) → Stands m leaf s l h → h ≤ 2 → Ranked 3 a → v ≡ made m leaf a
      → Stands m leaf (open_.Test v ∷ s) (l ++ ended (spelling a) mark.Question) 2
  choosing : (s : List (Open A)) (l : Spelled) (h : ℕ) (a b : Tree) (v w : A) → Stands m leaf s l h → h ≤ 2 → Ranked 3 a → Ranked 2 b → v ≡ made m leaf a → w ≡ made m leaf b
      → Stands m leaf (open_.Other v w ∷ s) (l ++ (spelling a ++ (token.Mark mark.Question ∷ ended (spelling b) mark.Colon))) 2

-- no construct awaits more than an operand behind a sign
hole_below : {A : Type 0} (m : Making A) (leaf : TokenKind → A) (s : List (Open A)) (l : Spelled) (h : ℕ) → Stands m leaf s l h → h ≤ 13
hole_below m leaf _ _ _ bottom = omega arith
hole_below m leaf _ _ _ (between s l h op n a v st le e x q) = omega (arith, rank_bounds op n e)
hole_below m leaf _ _ _ (signing s l h op st q) = omega arith
hole_below m leaf _ _ _ (parting s l h st) = omega arith
hole_below m leaf _ _ _ (testing s l h a v st le x q) = omega arith
hole_below m leaf _ _ _ (choosing s l h a b v w st le x y q r) = omega arith

-- no construct awaits an operand of rank 3
hole_small : {A : Type 0} (m : Making A) (leaf : TokenKind → A) (s : List (Open A)) (l : Spelled) (h : ℕ) → Stands m leaf s l h → h ≤ 3 → h ≤ 2
hole_small m leaf _ _ _ bottom few = omega arith
hole_small m leaf _ _ _ (between s l h op n a v st le e x q) few = absurd (omega (arith, few, rank_bounds op n e))
hole_small m leaf _ _ _ (signing s l h op st q) few = absurd (omega (arith, few))
hole_small m leaf _ _ _ (parting s l h st) few = omega arith
hole_small m leaf _ _ _ (testing s l h a v st le x q) few = omega arith
hole_small m leaf _ _ _ (choosing s l h a b v w st le x y q r) few = omega arith

-- a tree has all ranks below its own
lower : (j k : ℕ) (t : Tree) → j ≤ k → Ranked k t → Ranked j t
lower j _ _ le (conditional k a b c q x y z) = conditional j a b c (omega (arith, le, q)) x y z
lower j _ _ le (binary k n op a b q e x y) = binary j n op a b (omega (arith, le, q)) e x y
lower j _ _ le (unary k op a q h x) = unary j op a (omega (arith, le, q)) h x
lower j _ _ le (single k t h) = single j t h
lower j _ _ le (parted k a x) = parted j a x

-- What is open and the operand behind it come from these tokens, and an operator of rank r may go on with the operand.
pub record Standing {A : Type 0} (m : Making A) (leaf : TokenKind → A) (p : List (Open A) × A) (tokens : Spelled) (r : ℕ) : Type 0 where
  pub laid : Spelled
  pub hole : ℕ
  pub rank : ℕ
  pub tree : Tree
  pub stands : Stands m leaf p.0 laid hole
  pub fits : hole ≤ rank
  pub ranked : Ranked rank tree
  pub makes : p.1 ≡ made m leaf tree
  pub spelled : laid ++ spelling tree ≡ tokens
  pub strong : r ≤ rank
  pub low : 3 ≤ r → hole ≤ r

-- by whether a construct goes on with its operand
either_way : {A B : Type 0} (P : B → Type 0) (b : Bool) (y : B) (f : A → B) (x : A) → (b ≡ true → P (f x)) → (b ≡ false → P y)
    → P (go_on y f (if b then Some x else None))
either_way P true y f x goes stays = goes refl
either_way P false y f x goes stays = stays refl

-- the tokens of a binary operation that is made
operation_spelled : (l x y : Spelled) (op : Mark) → l ++ (x ++ (token.Mark op ∷ y)) ≡ (l ++ ended x op) ++ y
operation_spelled l x y op = ap (λ z. l ++ z) (sym (append_assoc x (token.Mark op ∷ []) y)) ∙ sym (append_assoc l (ended x op) y)

-- the tokens of a conditional expression that is made
choice_spelled : (l x y z : Spelled) → l ++ (x ++ (token.Mark mark.Question ∷ (y ++ (token.Mark mark.Colon ∷ z))))
    ≡ (l ++ (x ++ (token.Mark mark.Question ∷ ended y mark.Colon))) ++ z
choice_spelled l x y z =
    ap (λ w. l ++ (x ++ (token.Mark mark.Question ∷ w))) (sym (append_assoc y (token.Mark mark.Colon ∷ []) z))
    ∙ (ap (λ w. l ++ w) (sym (append_assoc x (token.Mark mark.Question ∷ ended y mark.Colon) z))
    ∙ sym (append_assoc l (x ++ (token.Mark mark.Question ∷ ended y mark.Colon)) z))

-- constructs that end before an operator of this rank are made
reduces : {A : Type 0} (m : Making A) (leaf : TokenKind → A) (r : ℕ) → r ≤ 12 → (s : List (Open A)) (l : Spelled) (h : ℕ) → Stands m leaf s l h
    → (k : ℕ) (t : Tree) (v : A) → Ranked k t → v ≡ made m leaf t → h ≤ k → r ≤ k → Standing m leaf (reduced m r s v) (l ++ spelling t) r
reduces m leaf r few _ _ _ bottom k t v x q fits strong =
    record { laid = []; hole = 2; rank = k; tree = t; stands = bottom; fits = fits; ranked = x; makes = q; spelled = refl; strong = strong; low = λ g. omega (arith, g) }
reduces m leaf r few _ _ _ (between s l h op n a w st le e y p) k t v x q fits strong =
    either_way (λ z. Standing m leaf z ((l ++ ended (spelling a) op) ++ spelling t) r) (nat_le r n) (open_.Infix op n w ∷ s, v) (λ z. reduced m r s z) (m.joined op w v)
    (λ yes. subst (λ ts. Standing m leaf (reduced m r s (m.joined op w v)) ts r) (operation_spelled l (spelling a) (spelling t) op)
    (reduces m leaf r few s l h st n (operation op a t) (m.joined op w v)
    (binary n n op a t (omega arith) e y (lower (n + 1) k t fits x)) (ap (λ z. m.joined op z v) p ∙ ap (m.joined op (made m leaf a)) q) le (grind (arith, nat_tests, yes))))
    (λ no. record {
      laid = l ++ ended (spelling a) op;
      hole = n + 1;
      rank = k;
      tree = t;
      stands = between s l h op n a w st le e y p;
      fits = fits;
      ranked = x;
      makes = q;
      spelled = refl;
      strong = strong;
      low = λ g. grind (arith, nat_tests, no);
    })
reduces m leaf r few _ _ _ (signing s l h op st y) k t v x q fits strong =
    subst (λ ts. Standing m leaf (reduced m r s (m.signed op v)) ts r) (sym (append_assoc l (token.Mark op ∷ []) (spelling t)))
    (reduces m leaf r few s l h st 13 (sign op t) (m.signed op v) (unary 13 op t (omega arith) y (lower 13 k t fits x)) (ap (m.signed op) q)
    (hole_below m leaf s l h st) (omega (arith, few)))
reduces m leaf r few _ _ _ (parting s l h st) k t v x q fits strong =
    record { laid = ended l mark.LeftParen; hole = 2; rank = k; tree = t; stands = parting s l h st; fits = fits; ranked = x; makes = q; spelled = refl; strong = strong; low = λ g. omega (arith, g) }
reduces m leaf r few _ _ _ (testing s l h a w st le y p) k t v x q fits strong =
    record { laid = l ++ ended (spelling a) mark.Question; hole = 2; rank = k; tree = t; stands = testing s l h a w st le y p; fits = fits; ranked = x; makes = q; spelled = refl; strong = strong; low = λ g. omega (arith, g) }
reduces m leaf r few _ _ _ (choosing s l h a b w u st le y z p o) k t v x q fits strong =
    either_way (λ g. Standing m leaf g ((l ++ (spelling a ++ (token.Mark mark.Question ∷ ended (spelling b) mark.Colon))) ++ spelling t) r) (nat_le r 2) (open_.Other w u ∷ s, v)
    (λ g. reduced m r s g) (m.picked w u v)
    (λ yes. subst (λ ts. Standing m leaf (reduced m r s (m.picked w u v)) ts r) (choice_spelled l (spelling a) (spelling b) (spelling t))
    (reduces m leaf r few s l h st 2 (choice a b t) (m.picked w u v)
    (conditional 2 a b t (omega arith) y z (lower 2 k t fits x)) (ap (λ g. m.picked g u v) p ∙ (ap (λ g. m.picked (made m leaf a) g v) o ∙ ap (m.picked (made m leaf a) (made m leaf b)) q)) le (grind (arith, nat_tests, yes))))
    (λ no. record {
      laid = l ++ (spelling a ++ (token.Mark mark.Question ∷ ended (spelling b) mark.Colon));
      hole = 2;
      rank = k;
      tree = t;
      stands = choosing s l h a b w u st le y z p o;
      fits = fits;
      ranked = x;
      makes = q;
      spelled = refl;
      strong = strong;
      low = λ g. omega (arith, g);
    })

-- an operand of any rank was read last
pub record Valued {A : Type 0} (m : Making A) (leaf : TokenKind → A) (s : List (Open A)) (v : A) (tokens : Spelled) : Type 0 where
  pub laid : Spelled
  pub hole : ℕ
  pub tree : Tree
  pub stands : Stands m leaf s laid hole
  pub ranked : (k : ℕ) → Ranked k tree
  pub makes : v ≡ made m leaf tree
  pub spelled : laid ++ spelling tree ≡ tokens

-- an operand is awaited
pub record Awaiting {A : Type 0} (m : Making A) (leaf : TokenKind → A) (s : List (Open A)) (tokens : Spelled) : Type 0 where
  pub hole : ℕ
  pub stands : Stands m leaf s tokens hole

-- what was read of these tokens
abbrev pub Read : {A : Type 0} → Making A → (TokenKind → A) → Option (State A) → Spelled → Type 0
Read m leaf None tokens = Unit {0}
Read m leaf (Some (s, None)) tokens = Awaiting m leaf s tokens
Read m leaf (Some (s, Some v)) tokens = Valued m leaf s v tokens

-- by a test, where nothing is asked of what is refused
if_read : {A : Type 0} (m : Making A) (leaf : TokenKind → A) (tokens : Spelled) (b : Bool) (x : Option (State A)) → (IsTrue b → Read m leaf x tokens)
    → Read m leaf (if b then x else None) tokens
if_read m leaf tokens true x h = h refl
if_read m leaf tokens false x h = tt

mark_before_read : {A : Type 0} (m : Making A) (leaf : TokenKind → A) (s : List (Open A)) (l : Spelled) (h : ℕ) → Stands m leaf s l h → (op : Mark)
    → Read m leaf (mark_before s op) (ended l op)
mark_before_read m leaf s l h st mark.LeftParen = record { hole = 2; stands = parting s l h st }
mark_before_read m leaf s l h st op =
    if_read m leaf (ended l op) (is_sign op) (awaits s (open_.Prefix op)) (λ y. record { hole = 13; stands = signing s l h op st y })

before_read : {A : Type 0} (m : Making A) (leaf : TokenKind → A) (s : List (Open A)) (l : Spelled) (h : ℕ) → Stands m leaf s l h → (t : TokenKind)
    → Read m leaf (before leaf s t) (l ++ t ∷ [])
before_read m leaf s l h st (token.Mark op) = mark_before_read m leaf s l h st op
before_read m leaf s l h st t =
    if_read m leaf (l ++ t ∷ []) (is_operand t) (Some (s, Some (leaf t)))
    (λ y. record { laid = l; hole = h; tree = operand t; stands = st; ranked = λ k. single k t y; makes = refl; spelled = refl })

-- a binary operator behind what stands, which goes on with its operand
operator_read : {A : Type 0} (m : Making A) (leaf : TokenKind → A) (op : Mark) (n : ℕ) (p : List (Open A) × A) (tokens : Spelled) → binary_rank op ≡ Some n
    → Standing m leaf p tokens n → Read m leaf (operator op n p) (ended tokens op)
operator_read m leaf op n (s, v) tokens e i =
    let bounds = rank_bounds op n e in
    record {
      hole = n + 1;
      stands = subst (λ ts. Stands m leaf (open_.Infix op n v ∷ s) ts (n + 1)) (sym (append_assoc i.laid (spelling i.tree) (token.Mark op ∷ [])) ∙ ap (λ ts. ended ts op) i.spelled)
          (between s i.laid i.hole op n i.tree v i.stands (i.low bounds.0) e (lower n i.rank i.tree i.strong i.ranked) i.makes);
    }

question_read : {A : Type 0} (m : Making A) (leaf : TokenKind → A) (p : List (Open A) × A) (tokens : Spelled)
    → Standing m leaf p tokens 3 → Read m leaf (question p) (ended tokens mark.Question)
question_read m leaf (s, v) tokens i =
    record {
      hole = 2;
      stands = subst (λ ts. Stands m leaf (open_.Test v ∷ s) ts 2) (sym (append_assoc i.laid (spelling i.tree) (token.Mark mark.Question ∷ [])) ∙ ap (λ ts. ended ts mark.Question) i.spelled)
          (testing s i.laid i.hole i.tree v i.stands (hole_small m leaf s i.laid i.hole i.stands (i.low (omega arith))) (lower 3 i.rank i.tree i.strong i.ranked) i.makes);
    }

-- `:` behind what stands: only where the test of a conditional expression is open
colon_stands : {A : Type 0} (m : Making A) (leaf : TokenKind → A) (s : List (Open A)) (l : Spelled) (h : ℕ) → Stands m leaf s l h → (k : ℕ) (t : Tree) (v : A) → Ranked k t
    → h ≤ k → v ≡ made m leaf t → Read m leaf (colon (s, v)) (l ++ ended (spelling t) mark.Colon)
colon_stands m leaf _ _ _ bottom k t v x fits q = tt
colon_stands m leaf _ _ _ (between s l h op n a w st le e y p) k t v x fits q = tt
colon_stands m leaf _ _ _ (signing s l h op st y) k t v x fits q = tt
colon_stands m leaf _ _ _ (parting s l h st) k t v x fits q = tt
colon_stands m leaf _ _ _ (testing s l h a w st le y p) k t v x fits q =
    record {
      hole = 2;
      stands = subst (λ ts. Stands m leaf (open_.Other w v ∷ s) ts 2)
          (ap (λ z. l ++ z) (sym (append_assoc (spelling a) (token.Mark mark.Question ∷ []) (ended (spelling t) mark.Colon))) ∙ sym (append_assoc l (ended (spelling a) mark.Question) (ended (spelling t) mark.Colon)))
          (choosing s l h a t w v st le y (lower 2 k t fits x) p q);
    }
colon_stands m leaf _ _ _ (choosing s l h a b w u st le y z p o) k t v x fits q = tt

colon_read : {A : Type 0} (m : Making A) (leaf : TokenKind → A) (p : List (Open A) × A) (tokens : Spelled) (r : ℕ)
    → Standing m leaf p tokens r → Read m leaf (colon p) (ended tokens mark.Colon)
colon_read m leaf (s, v) tokens r i =
    subst (λ ts. Read m leaf (colon (s, v)) ts) (sym (append_assoc i.laid (spelling i.tree) (token.Mark mark.Colon ∷ [])) ∙ ap (λ ts. ended ts mark.Colon) i.spelled)
    (colon_stands m leaf s i.laid i.hole i.stands i.rank i.tree v i.ranked i.fits i.makes)

-- `)` behind what stands: only where a parenthesis is open
right_paren_stands : {A : Type 0} (m : Making A) (leaf : TokenKind → A) (s : List (Open A)) (l : Spelled) (h : ℕ) → Stands m leaf s l h → (k : ℕ) (t : Tree) (v : A) → Ranked k t
    → h ≤ k → v ≡ made m leaf t → Read m leaf (right_paren m (s, v)) (l ++ ended (spelling t) mark.RightParen)
right_paren_stands m leaf _ _ _ bottom k t v x fits q = tt
right_paren_stands m leaf _ _ _ (between s l h op n a w st le e y p) k t v x fits q = tt
right_paren_stands m leaf _ _ _ (signing s l h op st y) k t v x fits q = tt
right_paren_stands m leaf _ _ _ (parting s l h st) k t v x fits q =
    record {
      laid = l;
      hole = h;
      tree = enclosed t;
      stands = st;
      ranked = λ j. parted j t (lower 2 k t fits x);
      makes = ap m.within q;
      spelled = sym (append_assoc l (token.Mark mark.LeftParen ∷ []) (ended (spelling t) mark.RightParen));
    }
right_paren_stands m leaf _ _ _ (testing s l h a w st le y p) k t v x fits q = tt
right_paren_stands m leaf _ _ _ (choosing s l h a b w u st le y z p o) k t v x fits q = tt

right_paren_read : {A : Type 0} (m : Making A) (leaf : TokenKind → A) (p : List (Open A) × A) (tokens : Spelled) (r : ℕ)
    → Standing m leaf p tokens r → Read m leaf (right_paren m p) (ended tokens mark.RightParen)
right_paren_read m leaf (s, v) tokens r i =
    subst (λ ts. Read m leaf (right_paren m (s, v)) ts) (sym (append_assoc i.laid (spelling i.tree) (token.Mark mark.RightParen ∷ [])) ∙ ap (λ ts. ended ts mark.RightParen) i.spelled)
    (right_paren_stands m leaf s i.laid i.hole i.stands i.rank i.tree v i.ranked i.fits i.makes)

-- what stands before an operator of rank r that follows an operand of any rank
before_rank : {A : Type 0} (m : Making A) (leaf : TokenKind → A) (s : List (Open A)) (v : A) (tokens : Spelled) → Valued m leaf s v tokens → (r : ℕ) → r ≤ 12
    → Standing m leaf (reduced m r s v) tokens r
before_rank m leaf s v tokens i r few =
    subst (λ ts. Standing m leaf (reduced m r s v) ts r) i.spelled
    (reduces m leaf r few s i.laid i.hole i.stands 13 i.tree v (i.ranked 13) i.makes (hole_below m leaf s i.laid i.hole i.stands) (omega (arith, few)))

other_mark_read : {A : Type 0} (m : Making A) (leaf : TokenKind → A) (s : List (Open A)) (v : A) (tokens : Spelled) → Valued m leaf s v tokens → (op : Mark)
    → Read m leaf (other_mark m s v op) (ended tokens op)
other_mark_read m leaf s v tokens i mark.Question = question_read m leaf (reduced m 3 s v) tokens (before_rank m leaf s v tokens i 3 (omega arith))
other_mark_read m leaf s v tokens i mark.Colon = colon_read m leaf (reduced m 0 s v) tokens 0 (before_rank m leaf s v tokens i 0 (omega arith))
other_mark_read m leaf s v tokens i mark.RightParen = right_paren_read m leaf (reduced m 0 s v) tokens 0 (before_rank m leaf s v tokens i 0 (omega arith))
other_mark_read m leaf s v tokens i _ = tt

mark_behind_read : {A : Type 0} (m : Making A) (leaf : TokenKind → A) (s : List (Open A)) (v : A) (tokens : Spelled) → Valued m leaf s v tokens → (op : Mark) (o : Option ℕ)
    → binary_rank op ≡ o → Read m leaf (mark_behind m s v op o) (ended tokens op)
mark_behind_read m leaf s v tokens i op (Some n) e =
    operator_read m leaf op n (reduced m n s v) tokens e (before_rank m leaf s v tokens i n (rank_bounds op n e).1)
mark_behind_read m leaf s v tokens i op None e = other_mark_read m leaf s v tokens i op

behind_read : {A : Type 0} (m : Making A) (leaf : TokenKind → A) (s : List (Open A)) (v : A) (tokens : Spelled) → Valued m leaf s v tokens → (t : TokenKind)
    → Read m leaf (behind m s v t) (tokens ++ t ∷ [])
behind_read m leaf s v tokens i (token.Mark op) = mark_behind_read m leaf s v tokens i op (binary_rank op) refl
behind_read m leaf s v tokens i _ = tt

step_read : {A : Type 0} (m : Making A) (leaf : TokenKind → A) (state : State A) (tokens : Spelled) → Read m leaf (Some state) tokens → (t : TokenKind)
    → Read m leaf (step m leaf state t) (tokens ++ t ∷ [])
step_read m leaf (s, None) tokens i t = before_read m leaf s tokens i.hole i.stands t
step_read m leaf (s, Some v) tokens i t = behind_read m leaf s v tokens i t

-- these tokens spell a tree of the grammar, which makes this
pub record IsMade {A : Type 0} (m : Making A) (leaf : TokenKind → A) (tokens : Spelled) (v : A) : Type 0 where
  pub tree : Tree
  pub ranked : Ranked 2 tree
  pub spelled : spelling tree ≡ tokens
  pub makes : v ≡ made m leaf tree

alone_stands : {A : Type 0} (m : Making A) (leaf : TokenKind → A) (s : List (Open A)) (l : Spelled) (h : ℕ) → Stands m leaf s l h → (k : ℕ) (t : Tree) (v w : A) → Ranked k t
    → h ≤ k → v ≡ made m leaf t → alone (s, v) ≡ Some w → IsMade m leaf (l ++ spelling t) w
alone_stands m leaf _ _ _ bottom k t v w x fits q e = record { tree = t; ranked = lower 2 k t fits x; spelled = refl; makes = same_Some w v (sym e) ∙ q }
alone_stands m leaf _ _ _ (between s l h op n a u st le e y p) k t v w x fits q g = cc
alone_stands m leaf _ _ _ (signing s l h op st y) k t v w x fits q g = cc
alone_stands m leaf _ _ _ (parting s l h st) k t v w x fits q g = cc
alone_stands m leaf _ _ _ (testing s l h a u st le y p) k t v w x fits q g = cc
alone_stands m leaf _ _ _ (choosing s l h a b u z st le y o p i) k t v w x fits q g = cc

alone_made : {A : Type 0} (m : Making A) (leaf : TokenKind → A) (p : List (Open A) × A) (tokens : Spelled) (r : ℕ) (w : A)
    → Standing m leaf p tokens r → alone p ≡ Some w → IsMade m leaf tokens w
alone_made m leaf (s, v) tokens r w i e =
    subst (λ ts. IsMade m leaf ts w) i.spelled (alone_stands m leaf s i.laid i.hole i.stands i.rank i.tree v w i.ranked i.fits i.makes e)

finish_made : {A : Type 0} (m : Making A) (leaf : TokenKind → A) (state : State A) (tokens : Spelled) (w : A) → Read m leaf (Some state) tokens
    → finish m state ≡ Some w → IsMade m leaf tokens w
finish_made m leaf (s, None) tokens w i e = cc
finish_made m leaf (s, Some v) tokens w i e = alone_made m leaf (reduced m 0 s v) tokens 0 w (before_rank m leaf s v tokens i 0 (omega arith)) e

run_made : {A : Type 0} (m : Making A) (leaf : TokenKind → A) (ts : Spelled) (state : Option (State A)) (tokens : Spelled) (w : A) → Read m leaf state tokens
    → run m leaf state ts ≡ Some w → IsMade m leaf (tokens ++ ts) w
run_made m leaf [] None tokens w i e = cc
run_made m leaf [] (Some state) tokens w i e = subst (λ x. IsMade m leaf x w) (sym (append-nil tokens)) (finish_made m leaf state tokens w i e)
run_made m leaf (t ∷ ts) None tokens w i e = cc
run_made m leaf (t ∷ ts) (Some state) tokens w i e =
    subst (λ x. IsMade m leaf x w) (append_assoc tokens (t ∷ []) ts)
    (run_made m leaf ts (step m leaf state t) (tokens ++ t ∷ []) w (step_read m leaf state tokens i t) e)

-- what tokens make is what a tree makes that they spell
pub sound : {A : Type 0} (m : Making A) (leaf : TokenKind → A) (ts : Spelled) (w : A) → result_of m leaf ts ≡ Some w → IsMade m leaf ts w
sound m leaf ts w e = run_made m leaf ts (Some ([], None)) [] w (record { hole = 2; stands = bottom }) e
