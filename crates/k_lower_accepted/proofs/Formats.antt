-- The pieces of a format, and the bytes in them, are no more than the bytes that spell it; and each string of a source whose strings fit is short.
use Rattle.std.proofs.Common.{ℕ, suc, ◌≡◌, ◌+◌, ◌≤◌, Bool, true, false, if◌then◌else◌, ◌&&◌, List, [], ◌∷◌, map, length, Option, Some, None, refl, ap, arith}
use Rattle.std.specs.Prelude.{◌==◌, nat_le, nat_lt, slice_get, sum, sum_by, All}
use Rattle.std.proofs.lemmas.Bool.{and_from, le-leb, leb-true}
use Rattle.std.proofs.lemmas.List.{length-map}
use Rattle.std.proofs.lemmas.List.Elements.{All-nil, All-cons}
use Rattle.std.proofs.lemmas.List.Sums.{sum_by-cons}
use Rattle.std.proofs.lemmas.Option.{none-some, same_Some}
use Rattle.k_tree.specs.declared.tokens.TokenKind.{TokenKind}
use Rattle.k_tree.specs.declared.tokens.TokenKind.TheVariants as token
use Rattle.k_tree.specs.Literals.{string_bytes}
use Rattle.k_tree.specs.Spelling.{Spelled}
use Rattle.k_types_meaning.specs.declared.tree.expression.Piece.{Piece}
use Rattle.k_types_meaning.specs.declared.tree.expression.Piece.TheVariants as piece
use Rattle.k_types_meaning.specs.declared.tree.expression.Written.{Written}
use Rattle.k_types_meaning.specs.declared.tree.expression.Written.TheVariants as written
use Rattle.k_types_meaning.specs.declared.tree.unit.TUnit.{TUnit}
use Rattle.k_types_meaning.specs.Formats.{FormatMark, Literal, Takes, Reading, Outside, Behind, mark_before, mark_ended, marks_from, byte_before, pieces_of}
use Rattle.k_world.specs.declared.act.Out.TheVariants as out
use Rattle.k_code.specs.Named.{chunk_bytes, out_is_short}
use Rattle.k_evaluation.specs.Library.{chunk_of, conversion_of}
use Rattle.k_lower_texts.specs.Laws.{FormatsFollow, NumbersFollow, TokenPasses}
use Rattle.k_lower_texts.specs.Passing.{Asks}
use Rattle.k_lower_runs.specs.Sound.{call_fits}

-- WHAT IS ASKED: texts are short, and calls fit
abbrev pub asks_of : TUnit → Asks
asks_of unit = record {
  bytes = λ bytes. nat_le (length bytes) 4194304;
  format = λ pieces. out_is_short (out.Format (map chunk_of pieces));
  call = λ of n. call_fits (slice_get unit.functions n) of;
  number = λ of z. true;
}

-- marks that there may be are no more than this
abbrev Short : Option (List FormatMark) → ℕ → Type 0
Short o n = (marks : List FormatMark) → o ≡ Some marks → length marks ≤ n

short_none : (n : ℕ) → Short None n
short_none n marks is = absurd (none-some marks is)

short_more : (o : Option (List FormatMark)) (n : ℕ) → Short o n → Short o (suc n)
short_more o n h marks is = let few : length marks ≤ n = h marks is in omega (arith, few)

short_if : (b : Bool) (o p : Option (List FormatMark)) (n : ℕ) → Short o n → Short p n → Short (if b then o else p) n
short_if true o p n h k = h
short_if false o p n h k = k

short_before : (mark : Option FormatMark) (o : Option (List FormatMark)) (n : ℕ) → Short o n → Short (mark_before mark o) (suc n)
short_before None o n h marks is = short_none (suc n) marks is
short_before (Some mark) None n h marks is = short_none (suc n) marks is
short_before (Some mark) (Some rest) n h marks is =
    let few : length rest ≤ n = h rest refl in
    let same : length (mark ∷ rest) ≡ length marks = ap length (same_Some (mark ∷ rest) marks is) in
    omega (arith, few, same)

short_from : (reading : Reading) (text : List ℕ) → Short (marks_from reading text) (length text)
short_from Outside [] marks is = let same : 0 ≡ length marks = ap (λ (ms : List FormatMark). length ms) (same_Some [] marks is) in omega (arith, same)
short_from Outside (b ∷ text) marks is =
    short_if (b == 37) (marks_from (Behind 0) text) (if b == 0 then None else mark_before (Some (Literal b)) (marks_from Outside text)) (suc (length text))
    (short_more (marks_from (Behind 0) text) (length text) (short_from (Behind 0) text))
    (short_if (b == 0) None (mark_before (Some (Literal b)) (marks_from Outside text)) (suc (length text)) (short_none (suc (length text)))
    (short_before (Some (Literal b)) (marks_from Outside text) (length text) (short_from Outside text))) marks is
short_from (Behind n) [] marks is = short_none 0 marks is
short_from (Behind n) (b ∷ text) marks is =
    short_if ((b == 108) && nat_lt n 2) (marks_from (Behind (suc n)) text) (mark_before (mark_ended n b) (marks_from Outside text)) (suc (length text))
    (short_more (marks_from (Behind (suc n)) text) (length text) (short_from (Behind (suc n)) text))
    (short_before (mark_ended n b) (marks_from Outside text) (length text) (short_from Outside text)) marks is

-- the bytes in pieces
abbrev bytes_in : List Piece → ℕ
bytes_in pieces = sum_by chunk_bytes (map chunk_of pieces)

bytes_cons : (p : Piece) (pieces : List Piece) → bytes_in (p ∷ pieces) ≡ chunk_bytes (chunk_of p) + bytes_in pieces
bytes_cons p pieces = sum_by-cons chunk_bytes (chunk_of p) (map chunk_of pieces)

conversion_has_none : (how : Written) → chunk_bytes (conversion_of how) ≡ 0
conversion_has_none written.Byte = refl
conversion_has_none written.Decimal = refl
conversion_has_none written.Hex = refl

-- a byte before pieces
before_long : (b : ℕ) (pieces : List Piece) → length (byte_before b pieces) ≤ 1 + length pieces
before_long b [] = omega arith
before_long b (piece.Bytes bytes ∷ pieces) = omega arith
before_long b (piece.Argument how ∷ pieces) = omega arith

before_bytes : (b : ℕ) (pieces : List Piece) → bytes_in (byte_before b pieces) ≡ 1 + bytes_in pieces
before_bytes b [] = bytes_cons (piece.Bytes (b ∷ [])) []
before_bytes b (piece.Bytes bytes ∷ pieces) =
    let one : bytes_in (piece.Bytes (b ∷ bytes) ∷ pieces) ≡ length (b ∷ bytes) + bytes_in pieces = bytes_cons (piece.Bytes (b ∷ bytes)) pieces in
    let two : bytes_in (piece.Bytes bytes ∷ pieces) ≡ length bytes + bytes_in pieces = bytes_cons (piece.Bytes bytes) pieces in
    omega (arith, one, two)
before_bytes b (piece.Argument how ∷ pieces) = bytes_cons (piece.Bytes (b ∷ [])) (piece.Argument how ∷ pieces)

-- pieces are no more than the marks that they are made of
record AreFew (marks : List FormatMark) : Type 0 where
  long : length (pieces_of marks) ≤ length marks
  bytes : bytes_in (pieces_of marks) ≤ length marks

pieces_few : (marks : List FormatMark) → AreFew marks
pieces_few [] = record { long = omega arith; bytes = omega arith }
pieces_few (Literal b ∷ marks) =
    let rest : AreFew marks = pieces_few marks in
    let l : length (pieces_of marks) ≤ length marks = rest.long in
    let c : bytes_in (pieces_of marks) ≤ length marks = rest.bytes in
    let x : length (byte_before b (pieces_of marks)) ≤ 1 + length (pieces_of marks) = before_long b (pieces_of marks) in
    let y : bytes_in (byte_before b (pieces_of marks)) ≡ 1 + bytes_in (pieces_of marks) = before_bytes b (pieces_of marks) in
    record { long = omega (arith, l, x); bytes = omega (arith, c, y) }
pieces_few (Takes how kind ∷ marks) =
    let rest : AreFew marks = pieces_few marks in
    let l : length (pieces_of marks) ≤ length marks = rest.long in
    let c : bytes_in (pieces_of marks) ≤ length marks = rest.bytes in
    let y : bytes_in (piece.Argument how ∷ pieces_of marks) ≡ chunk_bytes (conversion_of how) + bytes_in (pieces_of marks) = bytes_cons (piece.Argument how) (pieces_of marks) in
    let z : chunk_bytes (conversion_of how) ≡ 0 = conversion_has_none how in
    record { long = omega (arith, l); bytes = omega (arith, c, y, z) }

-- A FORMAT is short where its string is
pub formats_follow : (unit : TUnit) → FormatsFollow (asks_of unit)
unfolding out_is_short
formats_follow unit bytes marks short is =
    let low : length bytes ≤ 4194304 = leb-true (length bytes) 4194304 short in
    let few : length marks ≤ length bytes = short_from Outside bytes marks is in
    let made : AreFew marks = pieces_few marks in
    let l : length (pieces_of marks) ≤ length marks = made.long in
    let c : bytes_in (pieces_of marks) ≤ length marks = made.bytes in
    let chunks : length (map chunk_of (pieces_of marks)) ≡ length (pieces_of marks) = length-map (pieces_of marks) chunk_of in
    and_from (nat_le (length (map chunk_of (pieces_of marks))) 4194304) (nat_le (bytes_in (pieces_of marks)) 4194304)
    (le-leb (length (map chunk_of (pieces_of marks))) 4194304 (omega (arith, chunks, l, few, low))) (le-leb (bytes_in (pieces_of marks)) 4194304 (omega (arith, c, few, low)))

-- nothing is asked of constants
pub numbers_follow : (unit : TUnit) → NumbersFollow (asks_of unit)
numbers_follow unit = record { conversions = λ kind z. refl; sizes = λ n few. refl; short = λ bytes h. leb-true (length bytes) 4194304 h }

-- EACH STRING is short where all together are
token_short : (unit : TUnit) (t : TokenKind) → string_bytes t ≤ 4194304 → TokenPasses (asks_of unit) t
token_short unit (token.Str bytes) few = le-leb (length bytes) 4194304 few
token_short unit (token.Number kind n) few = refl
token_short unit (token.Char z) few = refl
token_short unit _ few = tt

pub strings_pass : (unit : TUnit) (tokens : Spelled) → sum (map string_bytes tokens) ≤ 4194304 → All (TokenPasses (asks_of unit)) tokens
strings_pass unit [] few = All-nil (TokenPasses (asks_of unit))
strings_pass unit (t ∷ tokens) few =
    let total : sum (string_bytes t ∷ map string_bytes tokens) ≡ string_bytes t + sum (map string_bytes tokens) = sum_by-cons (λ x. x) (string_bytes t) (map string_bytes tokens) in
    All-cons (TokenPasses (asks_of unit)) t tokens (token_short unit t (omega (arith, total, few))) (strings_pass unit tokens (omega (arith, total, few)))
