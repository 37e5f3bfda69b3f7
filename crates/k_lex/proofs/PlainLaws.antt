-- Sources without directives: their tokens are their pieces.
use Rattle.std.proofs.Common.{◌≡◌, ℕ, zero, suc, ◌+◌, ◌-◌, ◌<◌, ◌≤◌, Bool, true, false, ◌&&◌, ◌||◌, not, nat_lt, leb, ◌==◌, if◌then◌else◌, List, [], ◌∷◌, ◌++◌, Option, Some, None, Result, Ok, Err, length, take, drop, codes, refl, sym, ap, subst, ◌∙◌, ◌⊎◌, inl, inr, append_assoc, add-zero, arith}
use Rattle.std.proofs.lemmas.Bool.Decides.{nat_tests}
use Rattle.std.proofs.lemmas.List.{length-take, length-take-le, length-append, append-nil}
use Rattle.k_num.specs.declared.place.Place.{Place}
use Rattle.k_tree.specs.declared.tokens.Token.{Token}
use Rattle.k_tree.specs.declared.tokens.TokenKind.{TokenKind}
use Rattle.k_tree.specs.declared.tokens.TokenKind.TheVariants as t
use Rattle.k_lex_pieces.specs.declared.fault.Fault.{Fault}
use Rattle.k_lex_pieces.specs.declared.fault.Refusal.{Refusal}
use Rattle.k_lex_pieces.specs.declared.fault.Refusal.TheVariants as r
use Rattle.k_lex_pieces.specs.declared.pieces.Piece.{Piece}
use Rattle.k_lex_pieces.specs.declared.pieces.Piece.TheVariants as p
use Rattle.k_lex.specs.declared.lines.Mode.{Mode}
use Rattle.k_lex.specs.declared.lines.Mode.TheVariants as m
use Rattle.k_lex.specs.declared.lines.Limits.{Limits}
use Rattle.k_lex_macros.specs.declared.macros.Lexeme.{Lexeme}
use Rattle.k_lex_pieces.specs.Bytes.{same, begins, after, behind}
use Rattle.k_lex_pieces.specs.Pieces.{class_of, piece_by}
use Rattle.k_lex_pieces.specs.Splices.{splice_in}
use Rattle.k_lex_macros.specs.Macros.{Macro, lexeme, full_or, fulls, used, replaced}
use Rattle.k_lex.specs.Lines
use Rattle.k_lex.specs.Lines.{State, token_of, token_in_text, in_text, add, has_room, is_literal, joins_lines, step, step_in}
use Rattle.k_lex_pieces.specs.Outcome.{◌>>=◌, refused}
use Rattle.k_lex.specs.Tokens.{piece_in, splice_of, turn, turn_at, run, joined, first_place, nothing_read, answer, fault_of, limits}
use Rattle.k_lex.specs.Cuts.{Cut, joined_pieces}
use Rattle.k_lex.specs.Laws.{is_space, splice_at, tokens_of, unjoined, pieces_from, with_end, IsLimit, has_no_hash, SourceIsItsPieces}
use Rattle.k_lex_pieces.proofs.PieceLaws.{piece_length}
use Rattle.k_lex.proofs.CutLaws.{behind_first}

-- ---- what a run gives, and what it should

-- the tokens of what has been read, and where it ends
abbrev seen : Result (State × Place) Fault → Result (List Token × Place) Fault
seen found = found >>= λ end. Ok (end.0.tokens, end.1)

-- the tokens before, and behind them those that are wanted
abbrev wanted : List Token → Place → Result (List Token) Fault → Result (List Token × Place) Fault
wanted before final want = want >>= λ made. Ok (before ++ made, final)

abbrev IsTooMany : Result (State × Place) Fault → Type 0
IsTooMany (Ok end) = ⊥
IsTooMany (Err fault) = fault.what ≡ r.TokensMany

-- the two agree, or a source of so many bytes passed a limit
abbrev Agrees : ℕ → List Token → Place → Result (State × Place) Fault → Result (List Token) Fault → Type 0
Agrees total before final found want = (seen found ≡ wanted before final want) ⊎ (IsTooMany found × (400000 < total))

-- one token more before what is wanted
more_wanted : (before : List Token) (token : Token) (final : Place) (more : Result (List Token) Fault) → wanted (before ++ token ∷ []) final more ≡ wanted before final (more >>= λ made. Ok (token ∷ made))
more_wanted before token final (Err fault) = refl
more_wanted before token final (Ok made) = ap (λ (ts : List Token). Ok (ts, final)) (append_assoc before (token ∷ []) made)

longer : (total : ℕ) (before : List Token) (final : Place) (token : Token) (found : Result (State × Place) Fault) (more : Result (List Token) Fault) → Agrees total (before ++ token ∷ []) final found more → Agrees total before final found (more >>= λ made. Ok (token ∷ made))
longer total before final token found more (inl e) = inl (e ∙ more_wanted before token final more)
longer total before final token found more (inr limit) = inr limit

-- what a token gives, where literal says whether its room is asked for first
abbrev token_turn : Place → Bool → Bool → Result TokenKind Fault → (TokenKind → State) → Result State Fault
token_turn place literal room given put =
    if literal && not room then refused r.TokensMany place
    else given >>= λ what. (if room then Ok (put what) else refused r.TokensMany place)

agrees_at_token : (total : ℕ) (before : List Token) (final place : Place) (literal room : Bool) (given : Result TokenKind Fault) (put : TokenKind → State) (go : State → Result (State × Place) Fault) (more : Result (List Token) Fault)
    → (room ≡ false → 400000 < total)
    → ((what : TokenKind) → room ≡ true → Agrees total (before ++ record { what = what; place = place } ∷ []) final (go (put what)) more)
    → Agrees total before final (token_turn place literal room given put >>= go) (given >>= λ what. more >>= λ made. Ok (record { what = what; place = place } ∷ made))
agrees_at_token total before final place true false given put go more over next = inr (refl, over refl)
agrees_at_token total before final place false false (Ok what) put go more over next = inr (refl, over refl)
agrees_at_token total before final place false false (Err fault) put go more over next = inl refl
agrees_at_token total before final place true true (Err fault) put go more over next = inl refl
agrees_at_token total before final place false true (Err fault) put go more over next = inl refl
agrees_at_token total before final place true true (Ok what) put go more over next = longer total before final (record { what = what; place = place }) (go (put what)) more (next what refl)
agrees_at_token total before final place false true (Ok what) put go more over next = longer total before final (record { what = what; place = place }) (go (put what)) more (next what refl)

-- ---- a token, where there are no macros

used_none : (what : TokenKind) → used [] what ≡ None
used_none t.End = refl
used_none (t.Name name) = refl
used_none (t.Word word) = refl
used_none (t.Number kind value) = refl
used_none (t.Char value) = refl
used_none (t.Str bytes) = refl
used_none (t.Mark mark) = refl

replaced_none : (table : List Macro) (x : Lexeme) → table ≡ [] → replaced table x ≡ x ∷ []
replaced_none table x e = ap (full_or (fulls table) x) (ap (λ (macros : List Macro). used macros x.what) e ∙ used_none x.what)

-- the state with the token that a piece is
abbrev with_token : Place → List ℕ → State → TokenKind → State
with_token place s old what = record old { mode = m.Middle; tokens = old.tokens ++ record { what = what; place = place } ∷ []; spelled = old.spelled + length s }

add_one : (place : Place) (s : List ℕ) (old : State) (what : TokenKind) → old.macros ≡ [] → add place (replaced old.macros (lexeme what (length s))) old ≡ (if has_room old 1 (length s) then Ok (with_token place s old what) else refused r.TokensMany place)
add_one place s old what none =
    let put = λ (n : ℕ). (if has_room old 1 n then Ok (record old { mode = m.Middle; tokens = old.tokens ++ record { what = what; place = place } ∷ []; spelled = old.spelled + n }) else refused r.TokensMany place) in
    ap (λ (xs : List Lexeme). add place xs old) (replaced_none old.macros (lexeme what (length s)) none) ∙ ap put (add-zero (length s))

same_bind : (given : Result TokenKind Fault) (f g : TokenKind → Result State Fault) → ((what : TokenKind) → f what ≡ g what) → (given >>= f) ≡ (given >>= g)
same_bind (Ok what) f g each = each what
same_bind (Err fault) f g each = refl

token_in_text_turn : (place : Place) (s : List ℕ) (piece : Piece) (old : State) → old.macros ≡ [] → token_in_text place s piece old ≡ token_turn place (is_literal piece) (has_room old 1 (length s)) (token_of place s piece) (with_token place s old)
token_in_text_turn place s piece old none =
    ap (λ (other : Result State Fault). if is_literal piece && not (has_room old 1 (length s)) then refused r.TokensMany place else other)
    (same_bind (token_of place s piece) (λ what. add place (replaced old.macros (lexeme what (length s))) old)
    (λ what. if has_room old 1 (length s) then Ok (with_token place s old what) else refused r.TokensMany place) (λ what. add_one place s old what none))

-- ---- a piece

-- the line is no directive
abbrev IsText : Mode → Type 0
IsText m.Start = Unit {0}
IsText m.Middle = Unit {0}
IsText (m.Hash hash) = ⊥
IsText (m.Define hash) = ⊥
IsText (m.Body at) = ⊥
IsText (m.Again again) = ⊥
IsText (m.Include hash) = ⊥
IsText (m.Header directive) = ⊥
IsText m.Pragma = ⊥

-- no directive has been read, and what has been read is no longer than the source was so far
abbrev IsPlain : ℕ → ℕ → ℕ → State → Type 0
IsPlain total skip left s = IsText s.mode × (s.macros ≡ []) × (s.limits ≡ limits) × (length s.tokens + left ≤ total + skip) × (s.spelled + left ≤ total + skip)

over_limit : (total left : ℕ) (s : List ℕ) (old : State) → IsPlain total 0 (suc left) old → length s ≤ suc left → has_room old 1 (length s) ≡ false → 400000 < total
over_limit total left s old plain le full =
    let tokens_limit : old.limits.tokens ≡ 400000 = ap (λ (l : Limits). l.tokens) plain.2 in
    let spelling_limit : old.limits.spelling ≡ 4194304 = ap (λ (l : Limits). l.spelling) plain.2 in
    over (length old.tokens) old.spelled old.limits.tokens old.limits.spelling total left (length s) tokens_limit spelling_limit plain.3 plain.4 le full
  where
    over : (count spelled most longest total left n : ℕ) → most ≡ 400000 → longest ≡ 4194304 → count + suc left ≤ total + 0 → spelled + suc left ≤ total + 0 → n ≤ suc left
        → (leb (count + 1) most && leb (spelled + n) longest) ≡ false → 400000 < total
    over count spelled most longest total left n me le count_le spelled_le n_le full = grind (arith, nat_tests)

plain_with_token : (total left n : ℕ) (place : Place) (s : List ℕ) (old : State) (what : TokenKind) → IsPlain total 0 (suc left) old → 1 ≤ n → length s ≤ n → IsPlain total (n - 1) left (with_token place s old what)
plain_with_token total left n place s old what plain some le =
    (tt, plain.1, plain.2, omega (arith, plain.3, length-append old.tokens (record { what = what; place = place } ∷ [])), omega (arith, plain.4))

-- what the rest gives, from any state that a piece can lead to
abbrev Goes : ℕ → ℕ → ℕ → Place → (State → Result (State × Place) Fault) → List Cut → Type 0
Goes total skip left final go cuts = (new : State) → IsPlain total skip left new → Agrees total new.tokens final (go new) (tokens_of cuts)

agrees_at_piece : (total left n : ℕ) (final place : Place) (s : List ℕ) (piece : Piece) (old : State) (go : State → Result (State × Place) Fault) (cuts : List Cut)
    → IsPlain total 0 (suc left) old → 1 ≤ n → n ≤ suc left → length s ≤ n → Goes total (n - 1) left final go cuts
    → Agrees total old.tokens final (token_in_text place s piece old >>= go) (token_of place s piece >>= λ what. tokens_of cuts >>= λ more. Ok (record { what = what; place = place } ∷ more))
agrees_at_piece total left n final place s piece old go cuts plain some within le next =
    let want = token_of place s piece >>= λ what. tokens_of cuts >>= λ more. Ok (record { what = what; place = place } ∷ more) in
    subst (λ (given : Result State Fault). Agrees total old.tokens final (given >>= go) want) (sym (token_in_text_turn place s piece old plain.1))
    (agrees_at_token total old.tokens final place (is_literal piece) (has_room old 1 (length s)) (token_of place s piece) (with_token place s old) go (tokens_of cuts)
    (over_limit total left s old plain (omega arith))
    (λ what room. next (with_token place s old what) (plain_with_token total left n place s old what plain some le)))

-- the tokens that a piece and those behind it are, where C joins no lines
abbrev made_of : Cut → List Cut → Result (List Token) Fault
made_of cut cuts =
    if is_space cut.what then tokens_of cuts
    else token_of cut.place cut.spelling cut.what >>= λ what. tokens_of cuts >>= λ more. Ok (record { what = what; place = cut.place } ∷ more)

agrees_in_text : (total left n : ℕ) (final place : Place) (s : List ℕ) (piece : Piece) (old : State) (go : State → Result (State × Place) Fault) (cuts : List Cut)
    → IsPlain total 0 (suc left) old → 1 ≤ n → n ≤ suc left → length s ≤ n → Goes total (n - 1) left final go cuts
    → Agrees total old.tokens final (in_text place s piece old >>= go) (made_of (record { place = place; what = piece; spelling = s }) cuts)
agrees_in_text total left n final place s p.Blank old go cuts plain some within le next = next old (plain.0, plain.1, plain.2, omega (arith, plain.3), omega (arith, plain.4))
agrees_in_text total left n final place s p.Comment old go cuts plain some within le next = next old (plain.0, plain.1, plain.2, omega (arith, plain.3), omega (arith, plain.4))
agrees_in_text total left n final place s p.Newline old go cuts plain some within le next = next (Lines.in_mode m.Start old) (tt, plain.1, plain.2, omega (arith, plain.3), omega (arith, plain.4))
agrees_in_text total left n final place s p.Name old go cuts plain some within le next = agrees_at_piece total left n final place s p.Name old go cuts plain some within le next
agrees_in_text total left n final place s p.Number old go cuts plain some within le next = agrees_at_piece total left n final place s p.Number old go cuts plain some within le next
agrees_in_text total left n final place s p.Character old go cuts plain some within le next = agrees_at_piece total left n final place s p.Character old go cuts plain some within le next
agrees_in_text total left n final place s p.Str old go cuts plain some within le next = agrees_at_piece total left n final place s p.Str old go cuts plain some within le next
agrees_in_text total left n final place s (p.Mark mark) old go cuts plain some within le next = agrees_at_piece total left n final place s (p.Mark mark) old go cuts plain some within le next
agrees_in_text total left n final place s p.Header old go cuts plain some within le next = agrees_at_piece total left n final place s p.Header old go cuts plain some within le next
agrees_in_text total left n final place s p.OpenComment old go cuts plain some within le next = agrees_at_piece total left n final place s p.OpenComment old go cuts plain some within le next
agrees_in_text total left n final place s p.OpenLiteral old go cuts plain some within le next = agrees_at_piece total left n final place s p.OpenLiteral old go cuts plain some within le next
agrees_in_text total left n final place s p.Unknown old go cuts plain some within le next = agrees_at_piece total left n final place s p.Unknown old go cuts plain some within le next

step_in_text : (mode : Mode) (place : Place) (s rest : List ℕ) (piece : Piece) (old : State) → IsText mode → same s (codes "#") ≡ false → step_in mode place s rest piece old ≡ in_text place s piece old
step_in_text m.Start place s rest piece old text apart = ap (λ (b : Bool). if b then Ok (Lines.in_mode (m.Hash place) old) else in_text place s piece old) apart
step_in_text m.Middle place s rest piece old text apart = refl
step_in_text (m.Hash hash) place s rest piece old text apart = absurd text
step_in_text (m.Define hash) place s rest piece old text apart = absurd text
step_in_text (m.Body at) place s rest piece old text apart = absurd text
step_in_text (m.Again again) place s rest piece old text apart = absurd text
step_in_text (m.Include hash) place s rest piece old text apart = absurd text
step_in_text (m.Header directive) place s rest piece old text apart = absurd text
step_in_text m.Pragma place s rest piece old text apart = absurd text

piece_in_text : (mode : Mode) (text : List ℕ) → IsText mode → piece_in mode text ≡ piece_by class_of text
piece_in_text m.Start text plain = refl
piece_in_text m.Middle text plain = refl
piece_in_text (m.Hash hash) text plain = absurd plain
piece_in_text (m.Define hash) text plain = absurd plain
piece_in_text (m.Body at) text plain = absurd plain
piece_in_text (m.Again again) text plain = absurd plain
piece_in_text (m.Include hash) text plain = absurd plain
piece_in_text (m.Header directive) text plain = absurd plain
piece_in_text m.Pragma text plain = absurd plain

-- a piece that begins with another byte is not `#`
not_hash : (n b : ℕ) (bs : List ℕ) → 1 ≤ n → not (b == 35) ≡ true → same (take n (b ∷ bs)) (codes "#") ≡ false
not_hash zero b bs some other = absurd (omega arith)
not_hash (suc k) b bs some other = grind (arith, nat_tests)

-- ---- where C would join lines

or_never : (b c : Bool) → (b || (false && c)) ≡ b
or_never true c = refl
or_never false c = refl

splice_in_text : (mode : Mode) (place : Place) (text : List ℕ) (n : ℕ) → IsText mode → splice_of mode place text n ≡ (if begins (codes "//") text then splice_in place n text else None)
splice_in_text m.Start place text n plain = ap (λ (v : Bool). if v then splice_in place n text else None) (or_never (begins (codes "//") text) (not (begins (codes "/*") text)))
splice_in_text m.Middle place text n plain = ap (λ (v : Bool). if v then splice_in place n text else None) (or_never (begins (codes "//") text) (not (begins (codes "/*") text)))
splice_in_text (m.Hash hash) place text n plain = absurd plain
splice_in_text (m.Define hash) place text n plain = absurd plain
splice_in_text (m.Body at) place text n plain = absurd plain
splice_in_text (m.Again again) place text n plain = absurd plain
splice_in_text (m.Include hash) place text n plain = absurd plain
splice_in_text (m.Header directive) place text n plain = absurd plain
splice_in_text m.Pragma place text n plain = absurd plain

-- the pieces of a text, one behind another, are it
pieces_whole : (skip : ℕ) (place : Place) (text : List ℕ) → joined_pieces (pieces_from skip place text) ≡ drop skip text
pieces_whole zero place [] = refl
pieces_whole (suc skip) place [] = refl
pieces_whole (suc skip) place (b ∷ bs) = pieces_whole skip (after place b) bs
pieces_whole zero place (b ∷ bs) =
    let x = piece_by class_of (b ∷ bs) in
    ap (λ t. take x.1 (b ∷ bs) ++ t) (pieces_whole (x.1 - 1) (after place b) bs) ∙ behind_first x.1 b bs (piece_length class_of b bs).0

splice_by_pieces : (place : Place) (b : ℕ) (bs : List ℕ) → let x = piece_by class_of (b ∷ bs) in
    splice_at (record { place = place; what = x.0; spelling = take x.1 (b ∷ bs) }) (pieces_from (x.1 - 1) (after place b) bs) ≡ (if begins (codes "//") (b ∷ bs) then splice_in place x.1 (b ∷ bs) else None)
splice_by_pieces place b bs =
    let x = piece_by class_of (b ∷ bs) in
    let s = take x.1 (b ∷ bs) in
    let within = piece_length class_of b bs in
    ap (λ (t : List ℕ). if begins (codes "//") t then splice_in place (length s) t else None)
    (ap (λ t. s ++ t) (pieces_whole (x.1 - 1) (after place b) bs) ∙ behind_first x.1 b bs within.0)
    ∙ ap (λ (k : ℕ). if begins (codes "//") (b ∷ bs) then splice_in place k (b ∷ bs) else None) (length-take-le x.1 (b ∷ bs) within.1)

joins_in_text : (mode : Mode) (at : Place) (old : State) → IsText mode → joins_lines mode at old ≡ refused r.BadByte at
joins_in_text m.Start at old plain = refl
joins_in_text m.Middle at old plain = refl
joins_in_text (m.Hash hash) at old plain = absurd plain
joins_in_text (m.Define hash) at old plain = absurd plain
joins_in_text (m.Body name) at old plain = absurd plain
joins_in_text (m.Again again) at old plain = absurd plain
joins_in_text (m.Include hash) at old plain = absurd plain
joins_in_text (m.Header directive) at old plain = absurd plain
joins_in_text m.Pragma at old plain = absurd plain

agrees_unjoined : (total : ℕ) (final place : Place) (found : Option Place) (old : State) (text : List ℕ) (x : Piece × ℕ) (go : State → Result (State × Place) Fault) (want : Result (List Token) Fault) → IsText old.mode
    → Agrees total old.tokens final (turn_at None place old text x >>= go) want → Agrees total old.tokens final (turn_at found place old text x >>= go) (unjoined found want)
agrees_unjoined total final place None old text x go want plain agrees = agrees
agrees_unjoined total final place (Some at) old text x go want plain agrees = inl (ap (λ (given : Result State Fault). seen (given >>= go)) (joins_in_text old.mode at old plain))

-- ---- all pieces

first_free : (b rest : Bool) → (b && rest) ≡ true → b ≡ true
first_free true rest e = refl
first_free false rest e = absurd (cc)

rest_free : (b rest : Bool) → (b && rest) ≡ true → rest ≡ true
rest_free true rest e = e
rest_free false rest e = absurd (cc)

-- what has been read, and where
abbrev ended : Place → State → Result (State × Place) Fault
ended place new = Ok (new, place)

run_plain : (total skip : ℕ) (place : Place) (old : State) (text : List ℕ) → has_no_hash text ≡ true → IsPlain total skip (length text) old → Agrees total old.tokens (behind place text) (run skip place old text) (tokens_of (pieces_from skip place text))
run_plain total skip place old [] free plain = last total skip
  where
    done : (step place [] [] p.Newline old >>= ended place) ≡ Ok (Lines.in_mode m.Start old, place)
    done = ap (λ (given : Result State Fault). given >>= ended place) (step_in_text old.mode place [] [] p.Newline old plain.0 refl)

    last : (total skip : ℕ) → Agrees total old.tokens place (run skip place old []) (Ok [])
    last total zero = inl (ap seen done ∙ ap (λ (ts : List Token). Ok (ts, place)) (sym (append-nil old.tokens)))
    last total (suc skip) = inl (ap seen done ∙ ap (λ (ts : List Token). Ok (ts, place)) (sym (append-nil old.tokens)))
run_plain total (suc skip) place old (b ∷ bs) free plain =
    run_plain total skip (after place b) old bs (rest_free (not (b == 35)) (has_no_hash bs) free) (plain.0, plain.1, plain.2, omega (arith, plain.3), omega (arith, plain.4))
run_plain total zero place old (b ∷ bs) free plain =
    let x = piece_by class_of (b ∷ bs) in
    let s = take x.1 (b ∷ bs) in
    let within = piece_length class_of b bs in
    let cuts = pieces_from (x.1 - 1) (after place b) bs in
    let final = behind (after place b) bs in
    let go = λ (new : State). run (x.1 - 1) (after place b) new bs in
    let cut : Cut = record { place = place; what = x.0; spelling = s } in
    let found = splice_of old.mode place (b ∷ bs) x.1 in
    let same_step : turn_at None place old (b ∷ bs) x ≡ in_text place s x.0 old =
    step_in_text old.mode place s (drop x.1 (b ∷ bs)) x.0 old plain.0 (not_hash x.1 b bs within.0 (first_free (not (b == 35)) (has_no_hash bs) free)) in
    let same_splice : found ≡ splice_at cut cuts = splice_in_text old.mode place (b ∷ bs) x.1 plain.0 ∙ sym (splice_by_pieces place b bs) in
    let next : Goes total (x.1 - 1) (length bs) final go cuts = λ new plain. run_plain total (x.1 - 1) (after place b) new bs (rest_free (not (b == 35)) (has_no_hash bs) free) plain in
    let agrees = agrees_in_text total (length bs) x.1 final place s x.0 old go cuts plain within.0 within.1 (omega (arith, length-take x.1 (b ∷ bs))) next in
    let stepped : Agrees total old.tokens final (turn_at None place old (b ∷ bs) x >>= go) (made_of cut cuts) =
    subst (λ (given : Result State Fault). Agrees total old.tokens final (given >>= go) (made_of cut cuts)) (sym same_step) agrees in
    subst (λ (y : Piece × ℕ). Agrees total old.tokens final (turn place old (b ∷ bs) y >>= λ new. run (y.1 - 1) (after place b) new bs) (tokens_of (cut ∷ cuts))) (sym (piece_in_text old.mode (b ∷ bs) plain.0))
    (subst (λ (o : Option Place). Agrees total old.tokens final (turn place old (b ∷ bs) x >>= go) (unjoined o (made_of cut cuts))) same_splice
    (agrees_unjoined total final place found old (b ∷ bs) x go (made_of cut cuts) plain.0 stepped))

-- ---- the whole source

-- the list that what has been read gives
abbrev whole : Result (State × Place) Fault → Result (List Token) Fault
whole found = found >>= λ end. Ok (joined end.0.tokens ++ record { what = t.End; place = end.1 } ∷ [])

whole_seen : (found : Result (State × Place) Fault) → whole found ≡ (seen found >>= λ x. Ok (with_end x.1 x.0))
whole_seen (Ok end) = refl
whole_seen (Err fault) = refl

whole_wanted : (final : Place) (want : Result (List Token) Fault) → (wanted [] final want >>= λ x. Ok (with_end x.1 x.0)) ≡ (want >>= λ made. Ok (with_end final made))
whole_wanted final (Ok made) = refl
whole_wanted final (Err fault) = refl

too_many : (found : Result (State × Place) Fault) → IsTooMany found → IsLimit (answer (whole found))
too_many (Ok end) h = absurd h
too_many (Err fault) h = subst (λ (what : Refusal). IsLimit (Err (fault_of what fault.place))) (sym h) tt

-- the answer is that of the pieces, or a limit is passed
abbrev IsOf : ℕ → Result (List Token) Fault → Result (List Token) Fault → Type 0
IsOf total found want = (answer found ≡ answer want) ⊎ (IsLimit (answer found) × (400000 < total))

whole_agrees : (total : ℕ) (final : Place) (found : Result (State × Place) Fault) (want : Result (List Token) Fault) → Agrees total [] final found want → IsOf total (whole found) (want >>= λ made. Ok (with_end final made))
whole_agrees total final found want (inl e) = inl (ap answer (whole_seen found ∙ ap (λ (r : Result (List Token × Place) Fault). r >>= λ x. Ok (with_end x.1 x.0)) e ∙ whole_wanted final want))
whole_agrees total final found want (inr limit) = inr (too_many found limit.0, limit.1)

within_source : (total : ℕ) (long : Bool) (found want : Result (List Token) Fault) → (long ≡ true → 400000 < total) → IsOf total found want → IsOf total (if long then refused r.SourceLong first_place else found) want
within_source total true found want over agrees = inr (tt, over refl)
within_source total false found want over agrees = agrees

pub source_is_its_pieces : SourceIsItsPieces
source_is_its_pieces source free =
    let total = length source in
    let start = nothing_read limits in
    let final = behind first_place source in
    let want = tokens_of (pieces_from 0 first_place source) in
    within_source total (nat_lt limits.source total) (whole (run 0 first_place start source)) (want >>= λ made. Ok (with_end final made))
    (λ long. over total long)
    (whole_agrees total final (run 0 first_place start source) want (run_plain total 0 first_place start source free (tt, refl, refl, omega arith, omega arith)))
  where
    over : (total : ℕ) → nat_lt 1048576 total ≡ true → 400000 < total
    over total long = grind (arith, nat_tests)
