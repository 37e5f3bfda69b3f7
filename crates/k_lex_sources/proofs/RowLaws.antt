-- The lines of a text, piece by piece.
use Rattle.std.proofs.Common.{◌≡◌, ℕ, zero, suc, ◌-◌, ◌<◌, ◌≤◌, Bool, true, false, ◌&&◌, not, if◌then◌else◌, eqb, List, [], ◌∷◌, ◌++◌, length, take, drop, refl, sym, ap, subst, ◌∙◌, arith}
use Rattle.std.proofs.Math.Seq.{drop-nil}
use Rattle.k_num.specs.declared.place.Place.{Place}
use Rattle.k_lex_pieces.specs.declared.pieces.Piece.{Piece}
use Rattle.k_lex_pieces.specs.declared.pieces.Piece.TheVariants as p
use Rattle.k_lex_pieces.specs.Pieces.{class_of, class_in_pragma, piece_by}
use Rattle.k_lex_pieces.proofs.PieceLaws.{piece_length}
use Rattle.k_lex_sources.specs.declared.rows.Cut.{Cut}
use Rattle.k_lex_sources.specs.declared.rows.Row.{Row}
use Rattle.k_lex_sources.specs.declared.rows.Reading.{Reading}
use Rattle.k_lex_sources.specs.declared.rows.Turn.{Turn}
use Rattle.k_lex_sources.specs.declared.rows.Turn.TheVariants as t
use Rattle.k_lex_sources.specs.Rows.{quoted, with_quoted, piece_in, cut_of, row_of, behind, front_of, is_read_pragma, pragma_of, rows_from}
use Rattle.std.specs.Prelude.{None}
use Rattle.k_lex_sources.specs.Turning.{Turned, onward}

-- ---- how long a piece is

quoted_within : (quote : ℕ) (escaped : Bool) (bs : List ℕ) → quoted quote escaped bs ≤ length bs
quoted_within quote escaped [] = omega arith
quoted_within quote escaped (b ∷ bs) = by (eqb b 10) (not escaped && eqb b quote) (quoted quote (not escaped && eqb b 92) bs) (quoted_within quote (not escaped && eqb b 92) bs)
  where
    by : (newline closes : Bool) (n : ℕ) → n ≤ length bs → (if newline then 0 else (if closes then 1 else suc n)) ≤ suc (length bs)
    by true closes n short = omega arith
    by false true n short = omega arith
    by false false n short = omega (arith, short)

-- the number is that of bytes of such a text
abbrev IsWithin : ℕ → List ℕ → Type 0
IsWithin n bs = (1 ≤ n) × (n ≤ suc (length bs))

with_quoted_within : (b : ℕ) (bs : List ℕ) (piece : Piece × ℕ) (what : Piece) → IsWithin piece.1 bs → IsWithin (with_quoted (b ∷ bs) piece what).1 bs
with_quoted_within b bs piece p.OpenLiteral short = (omega arith, omega (arith, quoted_within b false bs))
with_quoted_within b bs piece p.Blank short = short
with_quoted_within b bs piece p.Newline short = short
with_quoted_within b bs piece p.Comment short = short
with_quoted_within b bs piece p.Name short = short
with_quoted_within b bs piece p.Number short = short
with_quoted_within b bs piece p.Character short = short
with_quoted_within b bs piece p.Str short = short
with_quoted_within b bs piece (p.Mark m) short = short
with_quoted_within b bs piece p.Header short = short
with_quoted_within b bs piece p.OpenComment short = short
with_quoted_within b bs piece p.Unknown short = short

piece_in_within : (pragma : Bool) (b : ℕ) (bs : List ℕ) → IsWithin (piece_in pragma (b ∷ bs)).1 bs
piece_in_within true b bs = piece_length class_in_pragma b bs
piece_in_within false b bs = with_quoted_within b bs (piece_by class_of (b ∷ bs)) (piece_by class_of (b ∷ bs)).0 (piece_length class_of b bs)

-- the piece at the front of a text that is not empty has a byte, and no more than the text
pub count_within : (unread : List Place) (row : List Cut) (text : List ℕ) (places : List Place) → 0 < length text
    → (1 ≤ (front_of unread row false text places).count) × ((front_of unread row false text places).count ≤ length text)
count_within unread row [] places some = absurd (omega (arith, some))
count_within unread row (b ∷ bs) places some = piece_in_within (is_read_pragma unread (pragma_of row)) b bs

-- ---- the bytes of a piece are passed

drop_more : (n : ℕ) (places : List Place) → drop n (drop 1 places) ≡ drop (suc n) places
drop_more n [] = drop-nil n
drop_more n (place ∷ places) = refl

passed : (unread : List Place) (n : ℕ) (row : List Cut) (spaced : Bool) (text : List ℕ) (places : List Place)
    → rows_from unread n row spaced text places ≡ rows_from unread 0 row spaced (drop n text) (drop n places)
passed unread zero row spaced text places = refl
passed unread (suc n) row spaced [] places = refl
passed unread (suc n) row spaced (b ∷ bs) places =
    passed unread n row spaced bs (drop 1 places) ∙ ap (λ (ps : List Place). rows_from unread 0 row spaced (drop n bs) ps) (drop_more n places)

-- the same behind the first byte of a piece
passed_piece : (unread : List Place) (n : ℕ) (row : List Cut) (spaced : Bool) (b : ℕ) (bs : List ℕ) (places : List Place) → 1 ≤ n
    → rows_from unread (n - 1) row spaced bs (drop 1 places) ≡ rows_from unread 0 row spaced (drop n (b ∷ bs)) (drop n places)
passed_piece unread zero row spaced b bs places some = absurd (omega (arith, some))
passed_piece unread (suc n) row spaced b bs places some =
    ap (λ (m : ℕ). rows_from unread m row spaced bs (drop 1 places)) less
    ∙ (passed unread n row spaced bs (drop 1 places) ∙ ap (λ (ps : List Place). rows_from unread 0 row spaced (drop n bs) ps) (drop_more n places))
  where
    less : suc n - 1 ≡ n
    less = omega arith

behind_same : (row : List Cut) (cut : Piece → Cut) (next other : List Cut → Bool → List Row) (turn : Turn)
    → ((cuts : List Cut) (blank : Bool) → next cuts blank ≡ other cuts blank) → behind row cut next turn ≡ behind row cut other turn
behind_same row cut next other t.Skips same = same row true
behind_same row cut next other t.Ends same = ap (λ (rows : List Row). row_of row None ∷ rows) (same [] true)
behind_same row cut next other (t.Stops fault) same = refl
behind_same row cut next other (t.Takes piece) same = same (row ++ cut piece ∷ []) false

-- the lines of a text go on behind its first piece
goes_on : (unread : List Place) (row : List Cut) (spaced : Bool) (text : List ℕ) (places : List Place) → 0 < length text
    → rows_from unread 0 row spaced text places
    ≡ behind row (cut_of spaced (take (front_of unread row false text places).count text) places)
    (λ cuts blank. rows_from unread 0 cuts blank (drop (front_of unread row false text places).count text) (drop (front_of unread row false text places).count places))
    (front_of unread row false text places).turn
goes_on unread row spaced [] places some = absurd (omega (arith, some))
goes_on unread row spaced (b ∷ bs) places some =
    behind_same row _ _ _ (front_of unread row false (b ∷ bs) places).turn
    (λ cuts blank. passed_piece unread (front_of unread row false (b ∷ bs) places).count cuts blank b bs places (count_within unread row (b ∷ bs) places some).0)

-- a piece did its turn, and all the lines come of those so far and those from here on
pub turned : (unread : List Place) (old new : Reading) (goes : Bool) (text : List ℕ) (places : List Place) (turn : Turn) (n : ℕ) (all : List Row) → 0 < length text
    → turn ≡ (front_of unread old.cuts false text places).turn → n ≡ (front_of unread old.cuts false text places).count
    → Turned old new goes (cut_of old.spaced (take n text) places) turn
    → old.rows ++ rows_from unread 0 old.cuts old.spaced text places ≡ all
    → new.rows ++ onward goes (rows_from unread 0 new.cuts new.spaced (drop n text) (drop n places)) ≡ all
turned unread old new goes text places turn n all some turn_is n_is did left =
    sym (did (λ cuts blank. rows_from unread 0 cuts blank (drop n text) (drop n places)))
    ∙ (ap (λ (rows : List Row). old.rows ++ rows) here ∙ left)
  where
    by_turn : behind old.cuts (cut_of old.spaced (take (front_of unread old.cuts false text places).count text) places)
        (λ cuts blank. rows_from unread 0 cuts blank (drop (front_of unread old.cuts false text places).count text) (drop (front_of unread old.cuts false text places).count places)) turn
        ≡ rows_from unread 0 old.cuts old.spaced text places
    by_turn = ap (λ (one : Turn). behind old.cuts (cut_of old.spaced (take (front_of unread old.cuts false text places).count text) places)
        (λ cuts blank. rows_from unread 0 cuts blank (drop (front_of unread old.cuts false text places).count text) (drop (front_of unread old.cuts false text places).count places)) one) turn_is
        ∙ sym (goes_on unread old.cuts old.spaced text places some)

    here : behind old.cuts (cut_of old.spaced (take n text) places) (λ cuts blank. rows_from unread 0 cuts blank (drop n text) (drop n places)) turn
        ≡ rows_from unread 0 old.cuts old.spaced text places
    here = ap (λ (m : ℕ). behind old.cuts (cut_of old.spaced (take m text) places) (λ cuts blank. rows_from unread 0 cuts blank (drop m text) (drop m places)) turn) n_is ∙ by_turn

-- the same for texts that are what is left
pub goes_further : (unread : List Place) (old new : Reading) (goes : Bool) (text spelling more : List ℕ) (places theirs : List Place) (turn : Turn) (n : ℕ) (all : List Row)
    → 0 < length text → turn ≡ (front_of unread old.cuts false text places).turn → n ≡ (front_of unread old.cuts false text places).count
    → spelling ≡ take n text → more ≡ drop n text → theirs ≡ drop n places → goes ≡ true
    → Turned old new goes (cut_of old.spaced spelling places) turn
    → old.rows ++ rows_from unread 0 old.cuts old.spaced text places ≡ all
    → new.rows ++ rows_from unread 0 new.cuts new.spaced more theirs ≡ all
goes_further unread old new goes text spelling more places theirs turn n all some turn_is n_is spelling_is more_is theirs_is goes_is did left =
    ap (λ (xs : List ℕ). new.rows ++ rows_from unread 0 new.cuts new.spaced xs theirs) more_is
    ∙ (ap (λ (ps : List Place). new.rows ++ rows_from unread 0 new.cuts new.spaced (drop n text) ps) theirs_is
    ∙ (sym (ap (λ (b : Bool). new.rows ++ onward b (rows_from unread 0 new.cuts new.spaced (drop n text) (drop n places))) goes_is)
    ∙ turned unread old new goes text places turn n all some turn_is n_is (subst (λ (s : List ℕ). Turned old new goes (cut_of old.spaced s places) turn) spelling_is did) left))
