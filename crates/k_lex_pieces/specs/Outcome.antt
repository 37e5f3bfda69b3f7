-- Believed with the theorem on the top call.
-- What a part of the lexer answers: a value, or the first fault.
use Rattle.std.specs.Prelude.{◌≡◌, Result, Ok, Err}
use Rattle.k_num.specs.declared.place.Place.{Place}
use Rattle.k_lex_pieces.specs.declared.fault.Fault.{Fault}
use Rattle.k_lex_pieces.specs.declared.fault.Refusal.{Refusal}
use Rattle.k_lex_pieces.specs.declared.fault.Stop.{Stop}
use Rattle.k_lex_pieces.specs.declared.fault.Stop.TheVariants as stop

infixl 10 ◌>>=◌
-- go on with the value, or keep the first fault
abbrev pub ◌>>=◌ : {A B : Type 0} → Result A Fault → (A → Result B Fault) → Result B Fault
(Ok x) >>= f = f x
(Err e) >>= f = Err e

-- a fault at a place, and no value
abbrev pub refused : {A : Type 0} → Refusal → Place → Result A Fault
refused what place = Err (record { what = what; place = place })

-- the call stopped for this cause, or for want of memory
abbrev pub Fails : {Y : Type 0} → Stop → Result Y Fault → Type 0
Fails stop.Memory want = Unit {0}
Fails (stop.Refused f) want = want ≡ Err f

-- What a call answered, seen by view, is what is wanted, unless memory ran out.
abbrev pub Gives : {X Y : Type 0} → (X → Y) → Result X Stop → Result Y Fault → Type 0
Gives view (Ok x) want = want ≡ Ok (view x)
Gives view (Err e) want = Fails e want
