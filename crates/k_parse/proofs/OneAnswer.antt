-- A token list has one answer: its tree, or its refusal.
use Rattle.std.proofs.Common.{ℕ, ◌≡◌, ◌<◌, List, [], ◌∷◌, ◌++◌, Ok, Err, inl, inr, refl, sym, ap, subst, ◌∙◌, append_assoc, arith}
use Rattle.std.specs.Prelude.{◌⊎◌, Result}
use Rattle.std.proofs.lemmas.List.{map-append, append-nil}
use Rattle.k_parse_steps.specs.Types.{Token}
use Rattle.k_parse.specs.declared.fault.ParseFault.{ParseFault}
use Rattle.k_tree.specs.declared.tree.unit.Unit as source
use Rattle.k_tree.specs.Count.{unit_count}
use Rattle.k_parse.specs.Beginnings.{kinds, Begins, IsRefusalAt, IsFirstWrong}
use Rattle.k_parse.specs.declared.fault.ParseFault.TheVariants as fault
use Rattle.k_parse.specs.Parse.{IsTreeOf, IsRefused, IsParse, nesting_limit}
use Rattle.k_parse.proofs.Trees.{placed_spells, one_tree}

-- two cuts of one list at a token: the same cut, or what stands before the one begins with what the other has up to its token
data Cuts (xs ys : List Token) (x y : Token) : Type 0 where
  same : xs ≡ ys → x ≡ y → Cuts xs ys x y
  later : (zs : List Token) → xs ≡ (ys ++ y ∷ []) ++ zs → Cuts xs ys x y
  sooner : (zs : List Token) → ys ≡ (xs ++ x ∷ []) ++ zs → Cuts xs ys x y

cons_head : (x y : Token) (xs ys : List Token) → x ∷ xs ≡ y ∷ ys → x ≡ y
cons_head x y xs ys e = cc

cons_tail : (x y : Token) (xs ys : List Token) → x ∷ xs ≡ y ∷ ys → xs ≡ ys
cons_tail x y xs ys e = cc

cuts_behind : (a b x y : Token) (xs ys : List Token) → a ≡ b → Cuts xs ys x y → Cuts (a ∷ xs) (b ∷ ys) x y
cuts_behind a b x y xs ys e (same p q) = same (cc) q
cuts_behind a b x y xs ys e (later zs p) = later zs (cc)
cuts_behind a b x y xs ys e (sooner zs p) = sooner zs (cc)

cuts : (xs ys : List Token) (x y : Token) (after rest : List Token) → xs ++ x ∷ after ≡ ys ++ y ∷ rest → Cuts xs ys x y
cuts [] [] x y after rest e = same refl (cons_head x y after rest e)
cuts [] (b ∷ ys) x y after rest e = sooner ys (ap (λ t. t ∷ ys) (sym (cons_head x b after (ys ++ y ∷ rest) e)))
cuts (a ∷ xs) [] x y after rest e = later xs (ap (λ t. t ∷ xs) (cons_head a y (xs ++ x ∷ after) rest e))
cuts (a ∷ xs) (b ∷ ys) x y after rest e =
    cuts_behind a b x y xs ys (cons_head a b (xs ++ x ∷ after) (ys ++ y ∷ rest) e)
    (cuts xs ys x y after rest (cons_tail a b (xs ++ x ∷ after) (ys ++ y ∷ rest) e))

-- a beginning of what begins a source begins it
begins_less : (limit : ℕ) (xs ys : List Token) → Begins limit (xs ++ ys) → Begins limit xs
begins_less limit xs ys b = record {
  tree = b.tree;
  rest = kinds ys ++ b.rest;
  ranked = b.ranked;
  within = b.within;
  spelled = b.spelled ∙ ap (λ ks. ks ++ b.rest) (map-append (λ (t : Token). t.what) xs ys) ∙ append_assoc (kinds xs) (kinds ys) b.rest;
}

-- one refusal at one token
one_refusal : (before : List Token) (t : Token) (f g : ParseFault) → IsRefusalAt f before t → IsRefusalAt g before t → f ≡ g
one_refusal before t (fault.Syntax p) (fault.Syntax q) h k = ap fault.Syntax (h.0 ∙ sym k.0)
one_refusal before t (fault.Syntax p) (fault.TooDeep q) h k = absurd (h.1 k.1.0 k.1.1)
one_refusal before t (fault.TooDeep p) (fault.Syntax q) h k = absurd (k.1 h.1.0 h.1.1)
one_refusal before t (fault.TooDeep p) (fault.TooDeep q) h k = ap fault.TooDeep (h.0 ∙ sym k.0)
one_refusal before t f fault.NodesMany h k = absurd k
one_refusal before t f fault.Memory h k = absurd k
one_refusal before t fault.NodesMany g h k = absurd h
one_refusal before t fault.Memory g h k = absurd h

at_cuts : (limit : ℕ) (tokens : List Token) (f g : ParseFault) (a : IsFirstWrong limit tokens f) (b : IsFirstWrong limit tokens g)
    → Cuts a.before b.before a.wrong b.wrong → f ≡ g
at_cuts limit tokens f g a b (same p q) =
    one_refusal b.before b.wrong f g (subst (λ t. IsRefusalAt f b.before t) q (subst (λ ts. IsRefusalAt f ts a.wrong) p a.refusal)) b.refusal
at_cuts limit tokens f g a b (later zs p) = absurd (b.stop (begins_less limit (b.before ++ b.wrong ∷ []) zs (subst (Begins limit) p a.begin)))
at_cuts limit tokens f g a b (sooner zs p) = absurd (a.stop (begins_less limit (a.before ++ a.wrong ∷ []) zs (subst (Begins limit) p b.begin)))

-- a list has one first wrong token, and one refusal there
wrong_once : (limit : ℕ) (tokens : List Token) (f g : ParseFault) → IsFirstWrong limit tokens f → IsFirstWrong limit tokens g → f ≡ g
wrong_once limit tokens f g a b =
    at_cuts limit tokens f g a b (cuts a.before b.before a.wrong b.wrong a.after b.after (sym a.split ∙ b.split))

-- a list with a tree has no wrong token
tree_right : (tokens : List Token) (u : source.Unit) (f : ParseFault) → IsTreeOf tokens u → IsFirstWrong nesting_limit tokens f → ⊥
tree_right tokens u f is a =
    let list : List Token = (a.before ++ a.wrong ∷ []) ++ a.after in
    let split : tokens ≡ list = a.split ∙ sym (append_assoc a.before (a.wrong ∷ []) a.after) in
    let all : Begins nesting_limit list = record {
      tree = u;
      rest = [];
      ranked = is.ranked;
      within = is.nests;
      spelled = placed_spells u tokens is.ranked is.placed ∙ ap kinds split ∙ sym (append-nil (kinds list));
    } in
    a.stop (begins_less nesting_limit (a.before ++ a.wrong ∷ []) a.after all)

-- a refusal is for the nodes of a tree, or at a first wrong token
by_fault : (tokens : List Token) (f : ParseFault) → IsRefused tokens f
    → ((f ≡ fault.NodesMany) × ((u : source.Unit) × IsTreeOf tokens u × (262144 < unit_count u))) ⊎ IsFirstWrong nesting_limit tokens f
by_fault tokens (fault.Syntax p) h = inr h
by_fault tokens (fault.TooDeep p) h = inr h
by_fault tokens fault.NodesMany h = inl (refl, h)
by_fault tokens fault.Memory h = inr h

-- a list with a tree within the limits is not refused
tree_taken : (tokens : List Token) (u : source.Unit) (f : ParseFault) → IsParse tokens (Ok u) → IsRefused tokens f → ⊥
tree_taken tokens u f is h = elim (by_fault tokens f h) [
  | inl many ↦
      let same : u ≡ many.1.0 = one_tree tokens many.1.0 many.1.1 u is.0.ranked is.0.placed in
      let few = is.1 in
      let more = many.1.2 in
      let count : unit_count u ≡ unit_count many.1.0 = ap unit_count same in
      omega (arith, few, more, count)
  | inr wrong ↦ tree_right tokens u f is.0 wrong
]

refused_once : (tokens : List Token) (f g : ParseFault) → IsRefused tokens f → IsRefused tokens g → f ≡ g
refused_once tokens f g h k = elim (by_fault tokens f h) [
  | inl many ↦ elim (by_fault tokens g k) [
    | inl more ↦ many.0 ∙ sym more.0
    | inr wrong ↦ absurd (tree_right tokens many.1.0 g many.1.1 wrong)
  ]
  | inr wrong ↦ elim (by_fault tokens g k) [
    | inl more ↦ absurd (tree_right tokens more.1.0 f more.1.1 wrong)
    | inr other ↦ wrong_once nesting_limit tokens f g wrong other
  ]
]

-- a token list has one answer
pub one_answer : (tokens : List Token) (x y : Result source.Unit ParseFault) → IsParse tokens x → IsParse tokens y → x ≡ y
one_answer tokens (Ok u) (Ok v) p q = ap Ok (one_tree tokens v q.0 u p.0.ranked p.0.placed)
one_answer tokens (Ok u) (Err f) p q = absurd (tree_taken tokens u f p q)
one_answer tokens (Err f) (Ok u) p q = absurd (tree_taken tokens u f q p)
one_answer tokens (Err f) (Err g) p q = ap Err (refused_once tokens f g p q)
