-- Notes at the places of tokens stand before tokens of lines of text, and before no other byte.
use Rattle.std.proofs.Common.{◌≡◌, ℕ, zero, suc, ◌+◌, ◌-◌, ◌<◌, Bool, true, false, eqb, ◌⊎◌, if◌then◌else◌, List, [], ◌∷◌, ◌++◌, Result, Ok, Err, take, drop, refl, sym, ap, subst, ◌∙◌, inl, inr, append_assoc, append-nil, arith}
use Rattle.std.specs.Prelude.{IfOk}
use Rattle.std.proofs.lemmas.Bool.{and_parts, cases_Bool, eqb-true}
use Rattle.std.proofs.lemmas.Result.{IfOk-at_ok}
use Rattle.k_num.specs.declared.place.Place.{Place}
use Rattle.k_tree.specs.declared.tokens.Token.{Token}
use Rattle.k_lex_pieces.specs.declared.fault.Fault.{Fault}
use Rattle.k_lex_pieces.specs.declared.pieces.Piece.{Piece}
use Rattle.k_lex_pieces.specs.declared.pieces.Piece.TheVariants as p
use Rattle.k_lex_pieces.specs.Bytes.{after}
use Rattle.k_lex_pieces.specs.Outcome.{◌>>=◌}
use Rattle.k_lex.specs.declared.lines.Mode.{Mode}
use Rattle.k_lex.specs.Lines.{State, step}
use Rattle.k_lex.specs.Tokens.{piece_in, turn, run}
use Rattle.k_lex.proofs.Outcomes.{Each, each_append, bind_ok, turn_ok}
use Rattle.k_pragma.specs.declared.notes.Note.{Note}
use Rattle.k_pragma.specs.Insertions.{same_place}
use Rattle.k_pragma_laws.proofs.Steps.{Adds, IsText, IsSolid, step_adds}

-- ---- places in order

-- a place stands before another
abbrev pub Earlier : Place → Place → Type 0
Earlier a b = (a.line < b.line) ⊎ ((a.line ≡ b.line) × (a.column < b.column))

-- a place stands at another or behind it
abbrev pub AtLeast : Place → Place → Type 0
AtLeast a b = (b ≡ a) ⊎ Earlier a b

earlier_after : (place : Place) (b : ℕ) → Earlier place (after place b)
earlier_after place b = by (eqb b 10)
  where
    by : (newline : Bool) → Earlier place (if newline then record { line = place.line + 1; column = 1 } else record { line = place.line; column = place.column + 1 })
    by true = inl (omega arith)
    by false = inr (refl, omega arith)

earlier_trans : (a b c : Place) → Earlier a b → Earlier b c → Earlier a c
earlier_trans a b c (inl x) (inl y) = inl (omega arith)
earlier_trans a b c (inl x) (inr y) = let e : b.line ≡ c.line = y.0 in inl (omega arith)
earlier_trans a b c (inr x) (inl y) = let e : a.line ≡ b.line = x.0 in inl (omega arith)
earlier_trans a b c (inr x) (inr y) = let l : a.column < b.column = x.1 in let r : b.column < c.column = y.1 in inr (x.0 ∙ y.0, omega arith)

earlier_not_same : (a : Place) → Earlier a a → ⊥
earlier_not_same a (inl x) = absurd (omega arith)
earlier_not_same a (inr x) = let l : a.column < a.column = x.1 in absurd (omega arith)

later_trans : (a b c : Place) → Earlier a b → AtLeast b c → Earlier a c
later_trans a b c x (inl e) = subst (Earlier a) (sym e) x
later_trans a b c x (inr y) = earlier_trans a b c x y

pub each_map : {X : Type 0} (P Q : X → Type 0) (xs : List X) → ((x : X) → P x → Q x) → Each P xs → Each Q xs
each_map P Q [] f h = tt
each_map P Q (x ∷ xs) f h = (f x h.0, each_map P Q xs f h.1)

-- ---- the places of the tokens that are still to come

-- the rest of the text adds tokens from this place on, and ends there or behind it
pub record Later (place : Place) (before : List Token) (end : State × Place) : Type 0 where
  pub more : List Token
  pub grown : end.0.tokens ≡ before ++ more
  pub placed : Each (λ (token : Token). AtLeast place token.place) more
  pub last : AtLeast place end.1

later_last : (place : Place) (old : State) → IfOk (step place [] [] p.Newline old >>= λ new. Ok (new, place)) (Later place old.tokens)
later_last place old =
    bind_ok (Adds old.mode place p.Newline old) (Later place old.tokens) (step place [] [] p.Newline old) (λ new. Ok (new, place)) (step_adds old.mode place [] [] p.Newline old)
    (λ new adds. by new adds)
  where
    by : (new : State) → Adds old.mode place p.Newline old new → Later place old.tokens (new, place)
    by new (inl e) = record { more = []; grown = e ∙ sym (append-nil old.tokens); placed = tt; last = inl refl }
    by new (inr g) = absurd (g.solid)

later_behind : (place next : Place) (before : List Token) (end : State × Place) → Earlier place next → Later next before end → Later place before end
later_behind place next before end first l = record {
  more = l.more;
  grown = l.grown;
  placed = each_map (λ (token : Token). AtLeast next token.place) (λ (token : Token). AtLeast place token.place) l.more (λ token h. inr (later_trans place next token.place first h)) l.placed;
  last = inr (later_trans place next end.1 first l.last);
}

later_turn : (mode : Mode) (place next : Place) (c : Piece) (old new : State) (end : State × Place) → Earlier place next → Adds mode place c old new → Later next new.tokens end → Later place old.tokens end
later_turn mode place next c old new end first (inl e) l = later_behind place next old.tokens end first (subst (λ ts. Later next ts end) e l)
later_turn mode place next c old new end first (inr g) l =
    let back = later_behind place next new.tokens end first l in
    let At = λ (token : Token). AtLeast place token.place in
    record {
      more = g.group ++ back.more;
      grown = back.grown ∙ ap (λ ts. ts ++ back.more) g.grown ∙ append_assoc old.tokens g.group back.more;
      placed = each_append At g.group back.more (each_map (λ (token : Token). token.place ≡ place) At g.group (λ token h. inl h) g.placed) back.placed;
      last = back.last;
    }

weaker_ok : {X : Type 0} (P Q : X → Type 0) (given : Result X Fault) → ((x : X) → P x → Q x) → IfOk given P → IfOk given Q
weaker_ok P Q (Ok x) to holds = to x holds
weaker_ok P Q (Err fault) to holds = tt

run_later : (skip : ℕ) (place : Place) (old : State) (text : List ℕ) → IfOk (run skip place old text) (Later place old.tokens)
run_later zero place old [] = later_last place old
run_later (suc skip) place old [] = later_last place old
run_later (suc skip) place old (b ∷ bs) =
    weaker_ok (Later (after place b) old.tokens) (Later place old.tokens) (run skip (after place b) old bs) (λ end. later_behind place (after place b) old.tokens end (earlier_after place b))
    (run_later skip (after place b) old bs)
run_later zero place old (b ∷ bs) =
    let x = piece_in old.mode (b ∷ bs) in
    bind_ok (Adds old.mode place x.0 old) (Later place old.tokens) (turn place old (b ∷ bs) x) (λ new. run (x.1 - 1) (after place b) new bs)
    (turn_ok (Adds old.mode place x.0 old) place old (b ∷ bs) x (step_adds old.mode place (take x.1 (b ∷ bs)) (drop x.1 (b ∷ bs)) x.0 old))
    (λ new adds. weaker_ok (Later (after place b) new.tokens) (Later place old.tokens) (run (x.1 - 1) (after place b) new bs)
    (λ end. later_turn old.mode place (after place b) x.0 old new end (earlier_after place b) adds) (run_later (x.1 - 1) (after place b) new bs))

-- ---- notes

-- one of the tokens stands at the place
abbrev pub AnyAt : Place → List Token → Type 0
AnyAt place [] = ⊥
AnyAt place (x ∷ xs) = (x.place ≡ place) ⊎ AnyAt place xs

-- the place is that of a token, or of the end
abbrev pub IsAt : List Token → Place → Place → Type 0
IsAt tokens last place = AnyAt place tokens ⊎ (place ≡ last)

-- no note stands at the place
abbrev pub IsSilent : List Note → Place → Type 0
IsSilent notes place = Each (λ (n : Note). same_place n.place place ≡ false) notes

-- no note stands at the place, or a token of a line of text does
abbrev pub IsAllowed : List Note → Place → Mode → Piece → Type 0
IsAllowed notes place mode c = IsSilent notes place ⊎ (IsText mode × IsSolid c)

-- Notes are allowed where they stand, in this rest of a text, of which the first skip bytes belong to the piece before.
abbrev pub Fits : List Note → ℕ → Place → State → List ℕ → Type 0
Fits notes skip place old [] = Unit {0}
Fits notes (suc skip) place old (b ∷ bs) = IsSilent notes place × Fits notes skip (after place b) old bs
Fits notes zero place old (b ∷ bs) =
    let piece = piece_in old.mode (b ∷ bs) in
    IfOk (turn place old (b ∷ bs) piece) (λ new. IsAllowed notes place old.mode piece.0 × Fits notes (piece.1 - 1) (after place b) new bs)

pub any_in : (place : Place) (xs ys : List Token) → AnyAt place (xs ++ ys) → AnyAt place xs ⊎ AnyAt place ys
any_in place [] ys h = inr h
any_in place (x ∷ xs) ys (inl e) = inl (inl e)
any_in place (x ∷ xs) ys (inr h) = by (any_in place xs ys h)
  where
    by : AnyAt place xs ⊎ AnyAt place ys → AnyAt place (x ∷ xs) ⊎ AnyAt place ys
    by (inl k) = inl (inr k)
    by (inr k) = inr k

-- no token stands here, where each stands before or behind
none_at : (place : Place) (P : Place → Type 0) (xs : List Token) → (P place → ⊥) → Each (λ (token : Token). P token.place) xs → AnyAt place xs → ⊥
none_at place P [] never h any = any
none_at place P (x ∷ xs) never h (inl e) = never (subst P e h.0)
none_at place P (x ∷ xs) never h (inr any) = none_at place P xs never h.1 any

-- no token stands at a byte that adds none
no_token : (place next : Place) (before : List Token) (end : State × Place) → Earlier place next → Each (λ (token : Token). Earlier token.place place) before → Later next before end
    → IsAt end.0.tokens end.1 place → ⊥
no_token place next before end first earlier l (inr e) = earlier_not_same place (later_trans place next place first (subst (AtLeast next) (sym e) l.last))
no_token place next before end first earlier l (inl any) = by (any_in place before l.more (subst (AnyAt place) l.grown any))
  where
    by : AnyAt place before ⊎ AnyAt place l.more → ⊥
    by (inl k) = none_at place (λ q. Earlier q place) before (earlier_not_same place) earlier k
    by (inr k) = none_at place (AtLeast next) l.more (λ h. earlier_not_same place (later_trans place next place first h)) l.placed k

same_places : (a b : Place) → same_place a b ≡ true → a ≡ b
same_places a b h =
    let parts = and_parts (eqb a.line b.line) (eqb a.column b.column) h in
    let line : a.line ≡ b.line = eqb-true a.line b.line parts.0 in
    let column : a.column ≡ b.column = eqb-true a.column b.column parts.1 in
    λ i. record { line = line i; column = column i }

-- where no note can stand at the place, none does
silent : (notes : List Note) (place : Place) (At : Place → Type 0) → Each (λ (n : Note). At n.place) notes → (At place → ⊥) → IsSilent notes place
silent [] place At each never = tt
silent (n ∷ notes) place At each never = (
  elim (cases_Bool (same_place n.place place)) [
    | inl e ↦ absurd (never (subst At (same_places n.place place e) each.0))
    | inr e ↦ e
  ],
  silent notes place At each.1 never,
)

fits_turn : (notes : List Note) (place : Place) (old : State) (b : ℕ) (bs : List ℕ) (end : State × Place) (given : Result State Fault)
    → let x = piece_in old.mode (b ∷ bs) in
    IfOk given (Adds old.mode place x.0 old) → (given >>= λ new. run (x.1 - 1) (after place b) new bs) ≡ Ok end
    → Each (λ (token : Token). Earlier token.place place) old.tokens → Each (λ (n : Note). IsAt end.0.tokens end.1 n.place) notes
    → ((new : State) → run (x.1 - 1) (after place b) new bs ≡ Ok end → Each (λ (token : Token). Earlier token.place (after place b)) new.tokens → Fits notes (x.1 - 1) (after place b) new bs)
    → IfOk given (λ new. IsAllowed notes place old.mode x.0 × Fits notes (x.1 - 1) (after place b) new bs)
fits_turn notes place old b bs end (Err f) adds e earlier at next = tt
fits_turn notes place old b bs end (Ok new) adds e earlier at next = (allowed adds, next new e (grown adds))
  where
    first : Earlier place (after place b)
    first = earlier_after place b

    before : Each (λ (token : Token). Earlier token.place (after place b)) old.tokens
    before = each_map (λ (token : Token). Earlier token.place place) (λ (token : Token). Earlier token.place (after place b)) old.tokens
        (λ token h. earlier_trans token.place place (after place b) h first) earlier

    allowed : Adds old.mode place (piece_in old.mode (b ∷ bs)).0 old new → IsAllowed notes place old.mode (piece_in old.mode (b ∷ bs)).0
    allowed (inr g) = inr (g.text, g.solid)
    allowed (inl k) = inl (silent notes place (IsAt end.0.tokens end.1) at
        (no_token place (after place b) old.tokens end first earlier (subst (λ ts. Later (after place b) ts end) k (IfOk-at_ok (Later (after place b) new.tokens) e (run_later ((piece_in old.mode (b ∷ bs)).1 - 1) (after place b) new bs)))))

    grown : Adds old.mode place (piece_in old.mode (b ∷ bs)).0 old new → Each (λ (token : Token). Earlier token.place (after place b)) new.tokens
    grown (inl k) = subst (λ ts. Each (λ (token : Token). Earlier token.place (after place b)) ts) (sym k) before
    grown (inr g) = subst (λ ts. Each (λ (token : Token). Earlier token.place (after place b)) ts) (sym g.grown)
        (each_append (λ (token : Token). Earlier token.place (after place b)) old.tokens g.group before
        (each_map (λ (token : Token). token.place ≡ place) (λ (token : Token). Earlier token.place (after place b)) g.group (λ token h. subst (λ q. Earlier q (after place b)) (sym h) first) g.placed))

-- NOTES AT PLACES OF TOKENS are allowed where they stand.
pub fits : (notes : List Note) (skip : ℕ) (place : Place) (old : State) (text : List ℕ) (end : State × Place) → run skip place old text ≡ Ok end
    → Each (λ (token : Token). Earlier token.place place) old.tokens → Each (λ (n : Note). IsAt end.0.tokens end.1 n.place) notes → Fits notes skip place old text
fits notes zero place old [] end e earlier at = tt
fits notes (suc skip) place old [] end e earlier at = tt
fits notes (suc skip) place old (b ∷ bs) end e earlier at = (
  silent notes place (IsAt end.0.tokens end.1) at
      (no_token place (after place b) old.tokens end (earlier_after place b) earlier (IfOk-at_ok (Later (after place b) old.tokens) e (run_later skip (after place b) old bs))),
  fits notes skip (after place b) old bs end e
      (each_map (λ (token : Token). Earlier token.place place) (λ (token : Token). Earlier token.place (after place b)) old.tokens
      (λ token h. earlier_trans token.place place (after place b) h (earlier_after place b)) earlier) at,
)
fits notes zero place old (b ∷ bs) end e earlier at =
    let x = piece_in old.mode (b ∷ bs) in
    fits_turn notes place old b bs end (turn place old (b ∷ bs) x)
    (turn_ok (Adds old.mode place x.0 old) place old (b ∷ bs) x (step_adds old.mode place (take x.1 (b ∷ bs)) (drop x.1 (b ∷ bs)) x.0 old)) e earlier at
    (λ new went before. fits notes (x.1 - 1) (after place b) new bs end went before at)
