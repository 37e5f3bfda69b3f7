-- What is told of the tokens of a use.
use Rattle.std.proofs.Common.{◌≡◌, ℕ, Bool, true, false, List, [], ◌∷◌, ◌++◌, Result, Ok, Err, ap, sym, subst, ◌∙◌, refl, append_assoc}
use Rattle.std.proofs.lemmas.Bool.{false≢true}
use Rattle.std.proofs.lemmas.List.{append-nil}
use Rattle.k_num.specs.declared.place.Place.{Place}
use Rattle.k_tree.specs.declared.tokens.Token.{Token}
use Rattle.k_lex_expansion.specs.declared.tokens.Listed.{Listed}
use Rattle.k_lex_lines.specs.declared.lines.Fault.{Fault}
use Rattle.k_lex_lines.specs.Text.{token_at, kind_of, before_tokens, tokens_of}
use Rattle.k_lex_reading.specs.declared.fault.ReadFault.{ReadFault}
use Rattle.k_lex_reading.specs.declared.fault.ReadFault.TheVariants as stop
use Rattle.k_lex_reading.specs.Told.{FailsAs, tokens_before}

-- tokens, or a fault
abbrev Tokens : Type 0
Tokens = Result (List Token) Fault

abbrev ok_tokens : List Token → Tokens
ok_tokens us = Ok us

-- whether there is a fault
abbrev is_fault : Tokens → Bool
is_fault (Ok us) = false
is_fault (Err e) = true

before_fault : (us : List Token) (want : Tokens) (f : Fault) → ◌≡◌ {A = Tokens} (tokens_before us want) (Err f) → want ≡ Err f
before_fault us (Ok vs) f e = absurd (false≢true (ap is_fault e))
before_fault us (Err g) f e = e

-- a token more
before_token : (us : List Token) (t : Token) (ts : Tokens) → tokens_before us (before_tokens (Ok t) ts) ≡ tokens_before (us ++ t ∷ []) ts
before_token us t (Ok ts) = ap ok_tokens (sym (append_assoc us (t ∷ []) ts))
before_token us t (Err e) = refl

pub token_fails : (e : ReadFault) (old out : List Token) (place : Place) (list rest more : List Listed) (t : Listed) → rest ≡ t ∷ more
    → tokens_before out (tokens_of place rest) ≡ tokens_before old (tokens_of place list) → FailsAs e (token_at place (kind_of place t.spelling)) → FailsAs e (tokens_of place list)
token_fails (stop.Refused f) old out place list rest more t is so fails =
    before_fault old (tokens_of place list) f (sym so ∙ (ap (λ (x : List Listed). tokens_before out (tokens_of place x)) is
    ∙ ap (λ (x : Result Token Fault). tokens_before out (before_tokens x (tokens_of place more))) fails))
token_fails stop.Memory old out place list rest more t is so fails = tt

pub token_added : (old out new : List Token) (place : Place) (list rest more : List Listed) (t : Listed) (what : Token) → rest ≡ t ∷ more
    → tokens_before out (tokens_of place rest) ≡ tokens_before old (tokens_of place list) → token_at place (kind_of place t.spelling) ≡ Ok what → new ≡ out ++ what ∷ []
    → tokens_before new (tokens_of place more) ≡ tokens_before old (tokens_of place list)
token_added old out new place list rest more t what is so ok new_is =
    ap (λ (x : List Token). tokens_before x (tokens_of place more)) new_is
    ∙ (sym (before_token out what (tokens_of place more))
    ∙ (ap (λ (x : Result Token Fault). tokens_before out (before_tokens x (tokens_of place more))) (sym ok)
    ∙ (ap (λ (x : List Listed). tokens_before out (tokens_of place x)) (sym is) ∙ so)))

pub all_added : (old out : List Token) (place : Place) (list rest : List Listed) → rest ≡ [] → tokens_before out (tokens_of place rest) ≡ tokens_before old (tokens_of place list)
    → ◌≡◌ {A = Tokens} (Ok out) (tokens_before old (tokens_of place list))
all_added old out place list rest is so = ap ok_tokens (sym (append-nil out)) ∙ (ap (λ (x : List Listed). tokens_before out (tokens_of place x)) (sym is) ∙ so)
