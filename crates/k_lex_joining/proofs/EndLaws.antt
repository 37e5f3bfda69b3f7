-- Where the reading of a source ends.
use Rattle.std.proofs.Common.{◌≡◌, ℕ, zero, suc, ◌-◌, ◌≤◌, Bool, true, false, if◌then◌else◌, List, [], ◌∷◌, ◌++◌, length, refl, ap, subst, ◌∙◌, arith}
use Rattle.std.specs.Prelude.{Result, Ok, Err, nat_lt}
use Rattle.std.proofs.lemmas.Bool.Decides.{nat_tests}
use Rattle.k_num.specs.declared.place.Place.{Place}
use Rattle.k_tree.specs.declared.tokens.Token.{Token}
use Rattle.k_tree.specs.declared.tokens.TokenKind.TheVariants as t
use Rattle.k_lex_pieces.specs.declared.fault.Fault.{Fault}
use Rattle.k_lex_pieces.specs.declared.fault.Refusal.TheVariants as r
use Rattle.k_lex_pieces.specs.declared.pieces.Piece.TheVariants.{Newline}
use Rattle.k_lex_pieces.specs.Bytes.{after, behind}
use Rattle.k_lex_pieces.specs.Outcome.{◌>>=◌, refused}
use Rattle.k_lex.specs.Lines.{State, step}
use Rattle.k_lex.specs.Tokens.{piece_in, turn, run, joined, first_place, nothing_read}
use Rattle.k_lex_joining.specs.Laws.{StatedEndsSo}

-- the place that a reading has at its end is that
abbrev IsAt : Place → Result (State × Place) Fault → Type 0
IsAt place (Ok end) = end.1 ≡ place
IsAt place (Err e) = Unit {0}

last : (place : Place) (r : Result State Fault) → IsAt place (r >>= λ new. Ok (new, place))
last place (Ok new) = refl
last place (Err e) = tt

further : (place : Place) (r : Result State Fault) (next : State → Result (State × Place) Fault) → ((new : State) → IsAt place (next new)) → IsAt place (r >>= next)
further place (Ok new) next is = is new
further place (Err e) next is = tt

-- a reading ends behind the last byte
ends_behind : (skip : ℕ) (place : Place) (old : State) (bytes : List ℕ) → IsAt (behind place bytes) (run skip place old bytes)
ends_behind skip place old [] = last place (step place [] [] Newline old)
ends_behind (suc skip) place old (b ∷ bs) = ends_behind skip (after place b) old bs
ends_behind zero place old (b ∷ bs) =
    further (behind (after place b) bs) (turn place old (b ∷ bs) (piece_in old.mode (b ∷ bs))) _
    (λ new. ends_behind ((piece_in old.mode (b ∷ bs)).1 - 1) (after place b) new bs)

-- what is not too long is read
read_whole : (long : Bool) (what : Result (List Token) Fault) → long ≡ false → (if long then refused r.SourceLong first_place else what) ≡ what
read_whole true what short = absurd (cc)
read_whole false what short = refl

pub stated_ends_so : StatedEndsSo
stated_ends_so limits source s place short read =
    read_whole (nat_lt limits.source (length source)) _ (fits limits.source (length source) short)
    ∙ (ap (λ (r : Result (State × Place) Fault). r >>= λ end. Ok (joined end.0.tokens ++ record { what = t.End; place = end.1 } ∷ [])) read
    ∙ ap (λ (p : Place). Ok (joined s.tokens ++ record { what = t.End; place = p } ∷ [])) there)
  where
    fits : (limit n : ℕ) → n ≤ limit → nat_lt limit n ≡ false
    fits limit n within = grind (arith, nat_tests, within)

    at_end : IsAt (behind first_place source) (Ok (s, place))
    at_end = subst (λ (r : Result (State × Place) Fault). IsAt (behind first_place source) r) read (ends_behind 0 first_place (nothing_read limits) source)

    there : place ≡ behind first_place source
    there = at_end
