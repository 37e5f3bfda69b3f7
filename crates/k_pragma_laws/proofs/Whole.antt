-- The tokens of an annotated source.
use Rattle.std.proofs.Common.{◌≡◌, ℕ, zero, suc, ◌≤◌, Bool, true, false, ltb, ◌⊎◌, if◌then◌else◌, List, [], ◌∷◌, ◌++◌, Some, Result, Ok, Err, length, map, slice_get, refl, sym, ap, subst, ◌∙◌, inl, inr}
use Rattle.std.proofs.lemmas.Bool.{le-ltb}
use Rattle.std.proofs.lemmas.List.{map-append}
use Rattle.std.proofs.lemmas.Option.{none-some, same_Some}
use Rattle.k_num.specs.declared.place.Place.{Place}
use Rattle.k_tree.specs.declared.tokens.Token.{Token}
use Rattle.k_tree.specs.declared.tokens.TokenKind.{TokenKind}
use Rattle.k_tree.specs.declared.tokens.TokenKind.TheVariants as t
use Rattle.k_lex_pieces.specs.declared.fault.Fault.{Fault}
use Rattle.k_lex_pieces.specs.declared.fault.Refusal.TheVariants as r
use Rattle.k_lex_pieces.specs.Outcome.{◌>>=◌, refused}
use Rattle.k_lex.specs.Laws.{kinds_of}
use Rattle.k_lex.specs.Lines.{State}
use Rattle.k_lex.specs.PragmaLines.{pragma_lines}
use Rattle.k_lex.specs.Tokens.{answer, first_place, join, join_kinds, joined, limits, nothing_read, run, tokens}
use Rattle.k_lex.proofs.Outcomes.{Each}
use Rattle.k_pragma.specs.declared.notes.Note.{Note}
use Rattle.k_pragma_written.specs.Written.{if_tokens}
use Rattle.k_pragma.specs.Insertions.{annotated, annotated_by, beginning, notes_of, with_notes}
use Rattle.k_pragma.specs.Marked.{pragmas_in}
use Rattle.k_regions.specs.Laws.{HasThePlace}
use Rattle.k_regions.specs.Regions.{regions_of}
use Rattle.k_regions.proofs.Origins.{come_of_tokens}
use Rattle.k_pragma_laws.specs.Laws.{AnnotatingKeepsTokens, InsertingKeepsTokens, ReadsAs}
use Rattle.k_pragma_laws.proofs.Notes.{IsHarmless}
use Rattle.k_pragma_laws.proofs.Allowed.{AnyAt, IsAt, any_in, each_map, fits}
use Rattle.k_pragma_laws.proofs.Blind.{unplaced, unplaced_token}
use Rattle.k_pragma_laws.proofs.Harmless.{notes_of_right}
use Rattle.k_pragma_laws.proofs.Keeping.{keeps}
use Rattle.k_pragma_laws.proofs.Reading.{final, run_blind}

-- the list of what has been read
abbrev whole : State × Place → List Token
whole end = joined end.0.tokens ++ record { what = t.End; place = end.1 } ∷ []

-- ---- tokens that are joined

join_kinds_unplaced : (a : Token) (ts : List Token) (b : Token) (x y : TokenKind)
    → map unplaced_token (join_kinds a ts b x y) ≡ join_kinds (unplaced_token a) (map unplaced_token ts) (unplaced_token b) x y
join_kinds_unplaced a ts b (t.Str x) (t.Str y) = refl
join_kinds_unplaced a ts b (t.Str x) (t.Name y) = refl
join_kinds_unplaced a ts b (t.Str x) (t.Word y) = refl
join_kinds_unplaced a ts b (t.Str x) (t.Number kind y) = refl
join_kinds_unplaced a ts b (t.Str x) (t.Char y) = refl
join_kinds_unplaced a ts b (t.Str x) (t.Mark y) = refl
join_kinds_unplaced a ts b (t.Str x) t.End = refl
join_kinds_unplaced a ts b (t.Name x) y = refl
join_kinds_unplaced a ts b (t.Word x) y = refl
join_kinds_unplaced a ts b (t.Number kind x) y = refl
join_kinds_unplaced a ts b (t.Char x) y = refl
join_kinds_unplaced a ts b (t.Mark x) y = refl
join_kinds_unplaced a ts b t.End y = refl

join_unplaced : (a : Token) (ts : List Token) → map unplaced_token (join a ts) ≡ join (unplaced_token a) (map unplaced_token ts)
join_unplaced a [] = refl
join_unplaced a (b ∷ ts) = join_kinds_unplaced a ts b a.what b.what

joined_unplaced : (ts : List Token) → map unplaced_token (joined ts) ≡ joined (map unplaced_token ts)
joined_unplaced [] = refl
joined_unplaced (a ∷ ts) = join_unplaced a (joined ts) ∙ ap (join (unplaced_token a)) (joined_unplaced ts)

kinds_unplaced : (ts : List Token) → kinds_of (map unplaced_token ts) ≡ kinds_of ts
kinds_unplaced [] = refl
kinds_unplaced (a ∷ ts) = ap (λ kinds. a.what ∷ kinds) (kinds_unplaced ts)

-- the kinds of tokens that are joined go by their kinds
kinds_joined : (ts : List Token) → kinds_of (joined ts) ≡ kinds_of (joined (map unplaced_token ts))
kinds_joined ts = sym (kinds_unplaced (joined ts)) ∙ ap kinds_of (joined_unplaced ts)

kinds_whole : (a b : State × Place) → unplaced a.0 ≡ unplaced b.0 → kinds_of (whole a) ≡ kinds_of (whole b)
kinds_whole a b e =
    let tokens_same : map unplaced_token a.0.tokens ≡ map unplaced_token b.0.tokens = ap (λ (s : State). s.tokens) e in
    let what = λ (token : Token). token.what in
    map-append what (joined a.0.tokens) (record { what = t.End; place = a.1 } ∷ [])
    ∙ ap (λ kinds. kinds ++ t.End ∷ []) (kinds_joined a.0.tokens ∙ ap (λ ts. kinds_of (joined ts)) tokens_same ∙ sym (kinds_joined b.0.tokens))
    ∙ sym (map-append what (joined b.0.tokens) (record { what = t.End; place = b.1 } ∷ []))

-- ---- the places of the list

join_kinds_any : (place : Place) (a : Token) (ts : List Token) (b : Token) (x y : TokenKind) → AnyAt place (join_kinds a ts b x y) → AnyAt place (a ∷ b ∷ ts)
join_kinds_any place a ts b (t.Str x) (t.Str y) (inl e) = inl e
join_kinds_any place a ts b (t.Str x) (t.Str y) (inr h) = inr (inr h)
join_kinds_any place a ts b (t.Str x) (t.Name y) h = h
join_kinds_any place a ts b (t.Str x) (t.Word y) h = h
join_kinds_any place a ts b (t.Str x) (t.Number kind y) h = h
join_kinds_any place a ts b (t.Str x) (t.Char y) h = h
join_kinds_any place a ts b (t.Str x) (t.Mark y) h = h
join_kinds_any place a ts b (t.Str x) t.End h = h
join_kinds_any place a ts b (t.Name x) y h = h
join_kinds_any place a ts b (t.Word x) y h = h
join_kinds_any place a ts b (t.Number kind x) y h = h
join_kinds_any place a ts b (t.Char x) y h = h
join_kinds_any place a ts b (t.Mark x) y h = h
join_kinds_any place a ts b t.End y h = h

join_any : (place : Place) (a : Token) (ts : List Token) → AnyAt place (join a ts) → AnyAt place (a ∷ ts)
join_any place a [] h = h
join_any place a (b ∷ ts) h = join_kinds_any place a ts b a.what b.what h

joined_any : (place : Place) (ts : List Token) → AnyAt place (joined ts) → AnyAt place ts
joined_any place [] h = h
joined_any place (a ∷ ts) h = by (λ k. joined_any place ts k) (join_any place a (joined ts) h)
  where
    by : (AnyAt place (joined ts) → AnyAt place ts) → AnyAt place (a ∷ joined ts) → AnyAt place (a ∷ ts)
    by more (inl e) = inl e
    by more (inr k) = inr (more k)

any_from : (xs : List Token) (n : ℕ) (token : Token) (place : Place) → slice_get xs n ≡ Some token → token.place ≡ place → AnyAt place xs
any_from [] n token place at e = absurd (none-some token at)
any_from (x ∷ xs) zero token place at e = inl (ap (λ (y : Token). y.place) (same_Some x token at) ∙ e)
any_from (x ∷ xs) (suc n) token place at e = inr (any_from xs n token place at e)

place_at : (end : State × Place) (place : Place) → HasThePlace (whole end) place → IsAt end.0.tokens end.1 place
place_at end place h = by (any_in place (joined end.0.tokens) (record { what = t.End; place = end.1 } ∷ []) (any_from (whole end) h.0 h.1.0 place h.1.1.0 h.1.1.1))
  where
    by : AnyAt place (joined end.0.tokens) ⊎ AnyAt place (record { what = t.End; place = end.1 } ∷ []) → IsAt end.0.tokens end.1 place
    by (inl k) = inl (joined_any place end.0.tokens k)
    by (inr (inl e)) = inr (sym e)
    by (inr (inr k)) = absurd k

-- ---- whole texts

-- an accepted text has been read to its end
read_whole : (bytes : List ℕ) (list : List Token) → tokens bytes ≡ Ok list → (end : State × Place) × ((run 0 first_place (nothing_read limits) bytes ≡ Ok end) × (list ≡ whole end))
read_whole bytes list = by (ltb 1048576 (length bytes)) (run 0 first_place (nothing_read limits) bytes) refl
  where
    by : (long : Bool) (given : Result (State × Place) Fault) → run 0 first_place (nothing_read limits) bytes ≡ given
        → answer (if long then refused r.SourceLong first_place else (given >>= λ end. Ok (whole end))) ≡ Ok list
        → (end : State × Place) × ((run 0 first_place (nothing_read limits) bytes ≡ Ok end) × (list ≡ whole end))
    by true given at e = absurd (cc)
    by false (Err f) at e = absurd (cc)
    by false (Ok end) at e = (end, (at, (let same : list ≡ whole end = cc in same)))

-- a text that is not too long and has been read is accepted
accepted : (text : List ℕ) (end : State × Place) → length text ≤ 1048576 → run 0 first_place (nothing_read limits) text ≡ Ok end → tokens text ≡ Ok (whole end)
accepted text end few e =
    ap (λ (long : Bool). answer (if long then refused r.SourceLong first_place else (run 0 first_place (nothing_read limits) text >>= λ new. Ok (whole new)))) (le-ltb 1048576 (length text) few)
    ∙ ap (λ given. answer (given >>= λ new. Ok (whole new))) e

finished : (given : Result (State × Place) Fault) (s : State) → final given ≡ Some s → (end : State × Place) × ((given ≡ Ok end) × (unplaced end.0 ≡ s))
finished (Ok end) s e = (end, (refl, same_Some (unplaced end.0) s e))
finished (Err f) s e = absurd (none-some s e)

-- NOTES at the places of tokens keep the tokens.
notes_keep : (bytes : List ℕ) (list : List Token) (notes : List Note) → tokens bytes ≡ Ok list → Each (λ n. IsHarmless n × HasThePlace list n.place) notes
    → length (with_notes notes beginning 0 bytes) ≤ 1048576 → ReadsAs (with_notes notes beginning 0 bytes) list
notes_keep bytes list notes e right few =
    let read = read_whole bytes list e in
    let end = read.0 in
    let text = with_notes notes beginning 0 bytes in
    let harmless : Each IsHarmless notes = each_map (λ n. IsHarmless n × HasThePlace list n.place) IsHarmless notes (λ n h. h.0) right in
    let at : Each (λ (n : Note). IsAt end.0.tokens end.1 n.place) notes =
    each_map (λ n. IsHarmless n × HasThePlace list n.place) (λ n. IsAt end.0.tokens end.1 n.place) notes (λ n h. place_at end n.place (subst (λ xs. HasThePlace xs n.place) read.1.1 h.1)) right in
    let given = run_blind 0 first_place (nothing_read limits) text
    ∙ keeps notes harmless 0 first_place 0 (nothing_read limits) bytes end read.1.0 (fits notes 0 first_place (nothing_read limits) bytes end read.1.0 tt at) in
    let done = finished (run 0 first_place (nothing_read limits) text) (unplaced end.0) given in
    (whole done.0, (accepted text done.0 few done.1.0, kinds_whole done.0 end done.1.1 ∙ ap kinds_of (sym read.1.1)))

pub inserting_keeps_tokens : InsertingKeepsTokens
unfolding annotated annotated_by
inserting_keeps_tokens bytes list written typed marks regions rows among e at few =
    let found : if_tokens (tokens bytes) ≡ list = ap if_tokens e in
    let notes = λ (ts : List Token). notes_of (pragma_lines bytes) ts regions (pragmas_in among marks.counted written 0 typed.functions) rows in
    let right : Each (λ n. IsHarmless n × HasThePlace list n.place) (notes list) =
    notes_of_right (pragma_lines bytes) list (HasThePlace list) among marks.counted written typed.functions regions rows at in
    subst (λ ts. length (with_notes (notes ts) beginning 0 bytes) ≤ 1048576 → ReadsAs (with_notes (notes ts) beginning 0 bytes) list) (sym found)
    (notes_keep bytes list (notes list) e right) few

pub annotating_keeps_tokens : AnnotatingKeepsTokens
annotating_keeps_tokens bytes list written unit typed marks rows among e placed is few =
    inserting_keeps_tokens bytes list written typed marks (regions_of typed) rows among e (λ n region at. (come_of_tokens unit typed list placed is n region at).place) few
