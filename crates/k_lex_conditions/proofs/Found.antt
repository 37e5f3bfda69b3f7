-- What the code puts in place of `defined` is what the definition says.
use Rattle.std.proofs.Common.{ℕ, ◌≡◌, Bool, true, false, if◌then◌else◌, IsTrue, List, [], ◌∷◌, ◌++◌, Option, Some, None, refl, ap, sym, subst, ◌∙◌, append_assoc}
use Rattle.std.proofs.lemmas.Option.{same_Some}
use Rattle.k_num.specs.declared.place.Place.{Place}
use Rattle.k_tree.specs.declared.tokens.Token.{Token}
use Rattle.k_tree.specs.declared.tokens.TokenKind.{TokenKind}
use Rattle.k_tree.specs.declared.tokens.TokenKind.TheVariants as token
use Rattle.k_tree.specs.declared.tokens.mark.Mark.TheVariants as mark
use Rattle.k_lex_conditions.specs.declared.finding.Stage.{Stage}
use Rattle.k_lex_conditions.specs.declared.finding.Stage.TheVariants as stage
use Rattle.k_lex_conditions.specs.Defined.{is_defined, found, number_at, Replaced, nothing, kept, bare, parted, IsReplaced}
use Rattle.k_lex_conditions.specs.Finding.{bare_name, opened_name, behind_defined, closing, in_front, follow, replaced_from}

-- the names that `defined` finds
abbrev Found : Type 0
Found = List ℕ → Bool

-- the rest of a line is replaced by these, by where the line stands
abbrev After : Found → Stage → List Token → List Token → Type 0
After names stage.Ready ts us = Replaced names ts us
After names stage.Behind ts us = (d : Token) → IsTrue (is_defined d.what) → Replaced names (d ∷ ts) us
After names stage.Opened ts us = (d l : Token) → IsTrue (is_defined d.what) → l.what ≡ token.Mark mark.LeftParen → Replaced names (d ∷ l ∷ ts) us
After names (stage.Closing known place) ts us = (d l t : Token) → IsTrue (is_defined d.what) → l.what ≡ token.Mark mark.LeftParen
    → found names t.what ≡ Some known → t.place ≡ place → Replaced names (d ∷ l ∷ t ∷ ts) us

-- nothing is not something
none_some : {A : Type 0} (x : A) → None ≡ Some x → ⊥
none_some x e = cc

-- what stands in front of a list
record Fronted (xs : List Token) (o : Option (List Token)) (us : List Token) : Type 0 where
  rest : List Token
  there : o ≡ Some rest
  whole : xs ++ rest ≡ us

front_of : (xs : List Token) (o : Option (List Token)) (us : List Token) → in_front xs o ≡ Some us → Fronted xs o us
front_of xs None us e = absurd (none_some us e)
front_of xs (Some ys) us e = record { rest = ys; there = refl; whole = same_Some (xs ++ ys) us e }

-- what the rest of a line is replaced by, wherever it stands
abbrev Goes : Found → List Token → Type 0
Goes names ts = (at : Stage) (ys : List Token) → replaced_from names at ts ≡ Some ys → After names at ts ys

ready_by : (names : Found) (ts : List Token) → Goes names ts → (t : Token) (us : List Token) (b : Bool) → is_defined t.what ≡ b
    → follow (λ next. replaced_from names next ts) (if b then Some (stage.Behind, None) else Some (stage.Ready, Some t)) ≡ Some us → Replaced names (t ∷ ts) us
ready_by names ts goes t us true h e =
    let f = front_of [] (replaced_from names stage.Behind ts) us e in
    subst (λ xs. Replaced names (t ∷ ts) xs) f.whole (goes stage.Behind f.rest f.there t h)
ready_by names ts goes t us false h e =
    let f = front_of (t ∷ []) (replaced_from names stage.Ready ts) us e in
    subst (λ xs. Replaced names (t ∷ ts) xs) f.whole (kept t ts f.rest h (goes stage.Ready f.rest f.there))

bare_by : (names : Found) (ts : List Token) → Goes names ts → (t : Token) (us : List Token) (o : Option Bool) → found names t.what ≡ o
    → follow (λ next. replaced_from names next ts) (bare_name t.place o) ≡ Some us → (d : Token) → IsTrue (is_defined d.what) → Replaced names (d ∷ t ∷ ts) us
bare_by names ts goes t us None h e d q = absurd (none_some us e)
bare_by names ts goes t us (Some known) h e d q =
    let f = front_of (number_at known t.place ∷ []) (replaced_from names stage.Ready ts) us e in
    subst (λ xs. Replaced names (d ∷ t ∷ ts) xs) f.whole (bare d t known ts f.rest q h (goes stage.Ready f.rest f.there))

behind_by : (names : Found) (ts : List Token) → Goes names ts → (t : Token) (us : List Token) (w : TokenKind) → t.what ≡ w
    → follow (λ next. replaced_from names next ts) (behind_defined names t.place w) ≡ Some us → (d : Token) → IsTrue (is_defined d.what) → Replaced names (d ∷ t ∷ ts) us
behind_by names ts goes t us (token.Mark mark.LeftParen) h e d q =
    let f = front_of [] (replaced_from names stage.Opened ts) us e in
    subst (λ xs. Replaced names (d ∷ t ∷ ts) xs) f.whole (goes stage.Opened f.rest f.there d t q h)
behind_by names ts goes t us w h e d q = bare_by names ts goes t us (found names w) (ap (found names) h) e d q

opened_by : (names : Found) (ts : List Token) → Goes names ts → (t : Token) (us : List Token) (o : Option Bool) → found names t.what ≡ o
    → follow (λ next. replaced_from names next ts) (opened_name t.place o) ≡ Some us → (d l : Token) → IsTrue (is_defined d.what) → l.what ≡ token.Mark mark.LeftParen
    → Replaced names (d ∷ l ∷ t ∷ ts) us
opened_by names ts goes t us None h e d l q p = absurd (none_some us e)
opened_by names ts goes t us (Some known) h e d l q p =
    let f = front_of [] (replaced_from names (stage.Closing known t.place) ts) us e in
    subst (λ xs. Replaced names (d ∷ l ∷ t ∷ ts) xs) f.whole (goes (stage.Closing known t.place) f.rest f.there d l t q p h refl)

closing_by : (names : Found) (ts : List Token) → Goes names ts → (known : Bool) (place : Place) (t : Token) (us : List Token) (w : TokenKind) → t.what ≡ w
    → follow (λ next. replaced_from names next ts) (closing known place w) ≡ Some us → (d l n : Token) → IsTrue (is_defined d.what) → l.what ≡ token.Mark mark.LeftParen
    → found names n.what ≡ Some known → n.place ≡ place → Replaced names (d ∷ l ∷ n ∷ t ∷ ts) us
closing_by names ts goes known place t us (token.Mark mark.RightParen) h e d l n q p g at =
    let f = front_of (number_at known place ∷ []) (replaced_from names stage.Ready ts) us e in
    subst (λ xs. Replaced names (d ∷ l ∷ n ∷ t ∷ ts) xs) (ap (λ z. number_at known z ∷ f.rest) at ∙ f.whole)
    (parted d l n t known ts f.rest q p g h (goes stage.Ready f.rest f.there))
closing_by names ts goes known place t us w h e d l n q p g at = absurd (none_some us e)

-- what is put there is what the definition says
found_right : (names : Found) (ts : List Token) (at : Stage) (us : List Token) → replaced_from names at ts ≡ Some us → After names at ts us
found_right names [] stage.Ready us e = subst (λ xs. Replaced names [] xs) (same_Some [] us e) nothing
found_right names [] stage.Behind us e = absurd (none_some us e)
found_right names [] stage.Opened us e = absurd (none_some us e)
found_right names [] (stage.Closing known place) us e = absurd (none_some us e)
found_right names (t ∷ ts) stage.Ready us e = ready_by names ts (λ at ys g. found_right names ts at ys g) t us (is_defined t.what) refl e
found_right names (t ∷ ts) stage.Behind us e = behind_by names ts (λ at ys g. found_right names ts at ys g) t us t.what refl e
found_right names (t ∷ ts) stage.Opened us e = opened_by names ts (λ at ys g. found_right names ts at ys g) t us (found names t.what) refl e
found_right names (t ∷ ts) (stage.Closing known place) us e = closing_by names ts (λ at ys g. found_right names ts at ys g) known place t us t.what refl e

-- a name behind `defined` is no parenthesis
behind_named : (names : Found) (place : Place) (known : Bool) (w : TokenKind) → found names w ≡ Some known → behind_defined names place w ≡ bare_name place (Some known)
behind_named names place known (token.Mark mark.LeftParen) h = absurd (none_some known h)
behind_named names place known w h = ap (bare_name place) h

-- whatever the definition says is put there
all_found : (names : Found) (ts us : List Token) → Replaced names ts us → replaced_from names stage.Ready ts ≡ Some us
all_found names _ _ nothing = refl
all_found names _ _ (kept t ts us h x) =
    ap (λ b. follow (λ next. replaced_from names next ts) (if b then Some (stage.Behind, None) else Some (stage.Ready, Some t))) h
    ∙ ap (in_front (t ∷ [])) (all_found names ts us x)
all_found names _ _ (bare d t known ts us h f x) =
    ap (λ b. follow (λ next. replaced_from names next (t ∷ ts)) (if b then Some (stage.Behind, None) else Some (stage.Ready, Some d))) h
    ∙ (ap (λ o. in_front [] (follow (λ next. replaced_from names next ts) o)) (behind_named names t.place known t.what f)
    ∙ ap (λ o. in_front [] (in_front (number_at known t.place ∷ []) o)) (all_found names ts us x))
all_found names _ _ (parted d l t r known ts us h p f q x) =
    ap (λ b. follow (λ next. replaced_from names next (l ∷ t ∷ r ∷ ts)) (if b then Some (stage.Behind, None) else Some (stage.Ready, Some d))) h
    ∙ (ap (λ w. in_front [] (follow (λ next. replaced_from names next (t ∷ r ∷ ts)) (behind_defined names l.place w))) p
    ∙ (ap (λ o. in_front [] (in_front [] (follow (λ next. replaced_from names next (r ∷ ts)) (opened_name t.place o)))) f
    ∙ (ap (λ w. in_front [] (in_front [] (in_front [] (follow (λ next. replaced_from names next ts) (closing known t.place w))))) q
    ∙ ap (λ o. in_front [] (in_front [] (in_front [] (in_front (number_at known t.place ∷ []) o)))) (all_found names ts us x))))

is_replaced_by : (names : Found) (ts : List Token) (o : Option (List Token)) → replaced_from names stage.Ready ts ≡ o → IsReplaced names ts o
is_replaced_by names ts (Some us) e = found_right names ts stage.Ready us e
is_replaced_by names ts None e = λ us x. none_some us (sym e ∙ all_found names ts us x)

-- the tokens with each `defined` replaced, or none
pub is_replaced : (names : Found) (ts : List Token) (o : Option (List Token)) → o ≡ replaced_from names stage.Ready ts → IsReplaced names ts o
is_replaced names ts o e = is_replaced_by names ts o (sym e)

-- what was put first stands in front
pub in_front_again : (xs ys : List Token) (o : Option (List Token)) → in_front (xs ++ ys) o ≡ in_front xs (in_front ys o)
in_front_again xs ys None = refl
in_front_again xs ys (Some zs) = ap Some (append_assoc xs ys zs)
