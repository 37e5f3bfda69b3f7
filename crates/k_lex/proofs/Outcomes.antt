-- What holds of each item of a list, and of the value of a result.
use Rattle.std.proofs.Common.{◌≡◌, ℕ, Bool, true, false, if◌then◌else◌, List, [], ◌∷◌, ◌++◌, Option, Some, None, Result, Ok, Err, take, drop, refl}
use Rattle.std.specs.Prelude.{IfOk}
use Rattle.k_num.specs.declared.place.Place.{Place}
use Rattle.k_tree.specs.declared.tokens.Token.{Token}
use Rattle.k_lex_pieces.specs.declared.fault.Fault.{Fault}
use Rattle.k_lex_pieces.specs.declared.fault.Refusal.TheVariants as r
use Rattle.k_lex_pieces.specs.declared.pieces.Piece.{Piece}
use Rattle.k_lex_pieces.specs.Outcome.{◌>>=◌, refused}
use Rattle.k_lex.specs.declared.lines.Mode.{Mode}
use Rattle.k_lex.specs.declared.lines.Mode.TheVariants as m
use Rattle.k_lex.specs.Lines.{State, include, joins_lines, step}
use Rattle.k_lex.specs.Tokens.{answer, splice_of, turn, turn_at}

-- P holds of each item
abbrev pub Each : {X : Type 0} → (X → Type 0) → List X → Type 0
Each P [] = Unit {0}
Each P (x ∷ xs) = P x × Each P xs

pub each_append : {X : Type 0} (P : X → Type 0) (xs ys : List X) → Each P xs → Each P ys → Each P (xs ++ ys)
each_append P [] ys front back = back
each_append P (x ∷ xs) ys front back = (front.0, each_append P xs ys front.1 back)

pub each_one_more : {X : Type 0} (P : X → Type 0) (xs : List X) (x : X) → Each P xs → P x → Each P (xs ++ x ∷ [])
each_one_more P xs x front last = each_append P xs (x ∷ []) front (last, tt)

pub either_way : {X : Type 0} (P : X → Type 0) (b : Bool) (x y : X) → P x → P y → P (if b then x else y)
either_way P true x y first second = first
either_way P false x y first second = second

-- P of the value of either outcome of a test, where there is one
pub cond_ok : {X : Type 0} (P : X → Type 0) (b : Bool) (x y : Result X Fault) → IfOk x P → IfOk y P → IfOk (if b then x else y) P
cond_ok P b x y first second = either_way (λ z. IfOk z P) b x y first second

-- P of the value of a result that a test lets through
pub when_ok : {X : Type 0} (P : X → Type 0) (b : Bool) (x y : Result X Fault) → (b ≡ true → IfOk x P) → IfOk y P → IfOk (if b then x else y) P
when_ok P true x y first second = first refl
when_ok P false x y first second = second

-- Q of what comes of a value with P
pub bind_ok : {X Y : Type 0} (P : X → Type 0) (Q : Y → Type 0) (given : Result X Fault) (f : X → Result Y Fault) → IfOk given P → ((x : X) → P x → IfOk (f x) Q) → IfOk (given >>= f) Q
bind_ok P Q (Ok x) f first next = next x first
bind_ok P Q (Err fault) f first next = tt

-- Q of what comes of any value
pub bind_any : {X Y : Type 0} (Q : Y → Type 0) (given : Result X Fault) (f : X → Result Y Fault) → ((x : X) → IfOk (f x) Q) → IfOk (given >>= f) Q
bind_any Q (Ok x) f next = next x
bind_any Q (Err fault) f next = tt

-- Q of what comes of a value that is given
pub bind_equal : {X Y : Type 0} (Q : Y → Type 0) (given : Result X Fault) (f : X → Result Y Fault) → ((x : X) → given ≡ Ok x → IfOk (f x) Q) → IfOk (given >>= f) Q
bind_equal Q (Ok x) f next = next x refl
bind_equal Q (Err fault) f next = tt

pub answered : (P : List Token → Type 0) (given : Result (List Token) Fault) → IfOk given P → IfOk (answer given) P
answered P (Ok list) holds = holds
answered P (Err fault) holds = tt

-- ---- where C would join lines

-- any fact of what goes on, since nothing does
joins_ok : (P : State → Type 0) (mode : Mode) (at : Place) (old : State) → IfOk (joins_lines mode at old) P
joins_ok P m.Start at old = tt
joins_ok P m.Middle at old = tt
joins_ok P (m.Hash hash) at old = tt
joins_ok P (m.Define hash) at old = tt
joins_ok P (m.Body name) at old = tt
joins_ok P (m.Again a) at old = tt
joins_ok P (m.Include hash) at old = tt
joins_ok P (m.Header d) at old = bind_any P (include d.name d.header old) (λ new. refused r.BadByte at) (λ new. tt)
joins_ok P m.Pragma at old = tt

-- P of what a piece does, where its step has it
pub turn_ok : (P : State → Type 0) (place : Place) (old : State) (text : List ℕ) (piece : Piece × ℕ) → IfOk (step place (take piece.1 text) (drop piece.1 text) piece.0 old) P → IfOk (turn place old text piece) P
turn_ok P place old text piece h = by (splice_of old.mode place text piece.1)
  where
    by : (o : Option Place) → IfOk (turn_at o place old text piece) P
    by None = h
    by (Some at) = joins_ok P old.mode at old
