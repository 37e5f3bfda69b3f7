-- No format of a source whose strings fit writes more bytes than an int can count.
use Rattle.std.proofs.Common.{ℕ, suc, ◌≡◌, ◌+◌, ◌*◌, ◌<◌, ◌≤◌, Bool, true, false, if◌then◌else◌, ◌&&◌, List, [], ◌∷◌, map, length, Option, Some, None, refl, ap, arith}
use Rattle.std.specs.Prelude.{◌==◌, int_le, pos, nat_le, nat_lt, sum, All}
use Rattle.std.proofs.lemmas.Bool.{and_from, le-leb, leb-true}
use Rattle.std.proofs.lemmas.List.Elements.{All-nil, All-cons, All-head, All-tail}
use Rattle.std.proofs.lemmas.List.Sums.{sum_by-cons}
use Rattle.std.proofs.lemmas.Option.{none-some, same_Some}
use Rattle.k_num.specs.declared.numbers.Kind.TheVariants.{U64}
use Rattle.k_num.specs.Kind.{greatest, is_held, least}
use Rattle.k_num.proofs.KindLaws.{held_converted}
use Rattle.k_tree.specs.declared.tokens.TokenKind.{TokenKind}
use Rattle.k_tree.specs.declared.tokens.TokenKind.TheVariants as token
use Rattle.k_tree.specs.Literals.{NumberIsHeld, string_bytes}
use Rattle.k_tree.specs.Spelling.{Spelled}
use Rattle.k_types_meaning.specs.declared.tree.expression.Piece.{Piece}
use Rattle.k_types_meaning.specs.declared.tree.expression.Piece.TheVariants as piece
use Rattle.k_types_meaning.specs.Formats.{FormatMark, Literal, Takes, Reading, Outside, Behind, mark_before, mark_ended, marks_from, byte_before, pieces_of}
use Rattle.k_lower_texts.specs.Laws.{FormatsFollow, NumbersFollow, TokenPasses}
use Rattle.k_lower_texts.specs.Passing.{Asks}
use Rattle.k_evaluation_laws.specs.Ranges.{CharacterIsHeld}
use Rattle.k_evaluation_laws.proofs.Ranges.{is_in_range, most_written}

-- WHAT IS ASKED: strings are short, formats write few bytes, and constants are numbers of their kinds
abbrev pub asks : Asks
asks = record {
  bytes = λ bytes. nat_le (length bytes) 4194304;
  format = λ pieces. nat_le (most_written pieces) 2147483647;
  call = λ of n. true;
  number = is_in_range;
}

-- marks that there may be are no more than this
abbrev Short : Option (List FormatMark) → ℕ → Type 0
Short o n = (marks : List FormatMark) → o ≡ Some marks → length marks ≤ n

short_none : (n : ℕ) → Short None n
short_none n marks is = absurd (none-some marks is)

short_more : (o : Option (List FormatMark)) (n : ℕ) → Short o n → Short o (suc n)
short_more o n h marks is = let few : length marks ≤ n = h marks is in omega (arith, few)

short_if : (b : Bool) (o p : Option (List FormatMark)) (n : ℕ) → Short o n → Short p n → Short (if b then o else p) n
short_if true o p n h k = h
short_if false o p n h k = k

short_before : (mark : Option FormatMark) (o : Option (List FormatMark)) (n : ℕ) → Short o n → Short (mark_before mark o) (suc n)
short_before None o n h marks is = short_none (suc n) marks is
short_before (Some mark) None n h marks is = short_none (suc n) marks is
short_before (Some mark) (Some rest) n h marks is =
    let few : length rest ≤ n = h rest refl in
    let same : length (mark ∷ rest) ≡ length marks = ap length (same_Some (mark ∷ rest) marks is) in
    omega (arith, few, same)

short_from : (reading : Reading) (text : List ℕ) → Short (marks_from reading text) (length text)
short_from Outside [] marks is = let same : 0 ≡ length marks = ap (λ (ms : List FormatMark). length ms) (same_Some [] marks is) in omega (arith, same)
short_from Outside (b ∷ text) marks is =
    short_if (b == 37) (marks_from (Behind 0) text) (if b == 0 then None else mark_before (Some (Literal b)) (marks_from Outside text)) (suc (length text))
    (short_more (marks_from (Behind 0) text) (length text) (short_from (Behind 0) text))
    (short_if (b == 0) None (mark_before (Some (Literal b)) (marks_from Outside text)) (suc (length text)) (short_none (suc (length text)))
    (short_before (Some (Literal b)) (marks_from Outside text) (length text) (short_from Outside text))) marks is
short_from (Behind n) [] marks is = short_none 0 marks is
short_from (Behind n) (b ∷ text) marks is =
    short_if ((b == 108) && nat_lt n 2) (marks_from (Behind (suc n)) text) (mark_before (mark_ended n b) (marks_from Outside text)) (suc (length text))
    (short_more (marks_from (Behind (suc n)) text) (length text) (short_from (Behind (suc n)) text))
    (short_before (mark_ended n b) (marks_from Outside text) (length text) (short_from Outside text)) marks is

-- pieces write at most 65 bytes for each mark
before_most : (b : ℕ) (pieces : List Piece) → most_written (byte_before b pieces) ≡ 1 + most_written pieces
before_most b [] = omega arith
before_most b (piece.Bytes bytes ∷ pieces) = omega arith
before_most b (piece.Argument how ∷ pieces) = omega arith

pieces_few : (marks : List FormatMark) → most_written (pieces_of marks) ≤ 65 * length marks
pieces_few [] = omega arith
pieces_few (Literal b ∷ marks) =
    let rest : most_written (pieces_of marks) ≤ 65 * length marks = pieces_few marks in
    let one : most_written (byte_before b (pieces_of marks)) ≡ 1 + most_written (pieces_of marks) = before_most b (pieces_of marks) in
    omega (arith, rest, one)
pieces_few (Takes how kind ∷ marks) = let rest : most_written (pieces_of marks) ≤ 65 * length marks = pieces_few marks in omega (arith, rest)

pub formats_follow : FormatsFollow asks
formats_follow bytes marks short is =
    let low : length bytes ≤ 4194304 = leb-true (length bytes) 4194304 short in
    let few : length marks ≤ length bytes = short_from Outside bytes marks is in
    let made : most_written (pieces_of marks) ≤ 65 * length marks = pieces_few marks in
    le-leb (most_written (pieces_of marks)) 2147483647 (omega (arith, low, few, made))

-- what typing makes of constants is so
size_held : (n : ℕ) → n < 134217728 → is_held U64 (pos n) ≡ true
size_held n few = and_from (int_le (least U64) (pos n)) (int_le (pos n) (greatest U64)) (le-leb 0 n (omega arith)) (le-leb n 18446744073709551615 (omega (arith, few)))

pub numbers_follow : NumbersFollow asks
numbers_follow = record {
  conversions = λ kind z. held_converted kind z;
  sizes = size_held;
  short = λ bytes h. leb-true (length bytes) 4194304 h;
}

-- EACH LITERAL is so where all are
token_passes : (t : TokenKind) → string_bytes t ≤ 4194304 → NumberIsHeld t → CharacterIsHeld t → TokenPasses asks t
token_passes (token.Str bytes) few number character = le-leb (length bytes) 4194304 few
token_passes (token.Number kind n) few number character = number
token_passes (token.Char z) few number character = character
token_passes _ few number character = tt

pub literals_pass : (tokens : Spelled) → sum (map string_bytes tokens) ≤ 4194304 → All NumberIsHeld tokens → All CharacterIsHeld tokens → All (TokenPasses asks) tokens
literals_pass [] few numbers characters = All-nil (TokenPasses asks)
literals_pass (t ∷ tokens) few numbers characters =
    let total : sum (string_bytes t ∷ map string_bytes tokens) ≡ string_bytes t + sum (map string_bytes tokens) = sum_by-cons (λ x. x) (string_bytes t) (map string_bytes tokens) in
    All-cons (TokenPasses asks) t tokens (token_passes t (omega (arith, total, few)) (All-head NumberIsHeld t tokens numbers) (All-head CharacterIsHeld t tokens characters))
    (literals_pass tokens (omega (arith, total, few)) (All-tail NumberIsHeld t tokens numbers) (All-tail CharacterIsHeld t tokens characters))
