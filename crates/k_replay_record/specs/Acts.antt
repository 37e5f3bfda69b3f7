-- Believed with a public law.
-- What an act gives for the values of its operands, and the bytes that it writes. Where operands are missing or of another sort, or the
-- numbers have no result, it gives nothing.
use Rattle.std.specs.Prelude.{ℕ, ◌&&◌, ◌==◌, Bool, true, false, not, ℤ, pos, ◌+ℤ◌, ◌-ℤ◌, int_lt, int_le, int_div, List, [], ◌∷◌, ◌++◌, length, slice_get, Option, Some, None, Result, Ok, Err}
use Rattle.std.specs.Fmt.{digits, signed_decimal}
use Rattle.k_num.specs.declared.numbers.Kind.{Kind}
use Rattle.k_num.specs.declared.numbers.Kind.TheVariants.{U8, I64, U64}
use Rattle.k_num.specs.declared.numbers.Bin.{Bin}
use Rattle.k_num.specs.declared.numbers.Bin.TheVariants.{Lt, Le, Gt, Ge, Ne}
use Rattle.k_num.specs.declared.numbers.Un.{Un}
use Rattle.k_num.specs.declared.numbers.NumTrap.{NumTrap}
use Rattle.k_num.specs.Arithmetic as arithmetic
use Rattle.k_num.specs.Arithmetic.{truth, is_zero}
use Rattle.k_num.specs.Kind.{converted, remainder}
use Rattle.k_mem.specs.declared.pointer.Pointer.{Pointer}
use Rattle.k_world.specs.Acts.{right_kind, at_least_one, distance}
use Rattle.k_replay_record.specs.declared.record.Act.{Act}
use Rattle.k_replay_record.specs.declared.record.Act.TheVariants as act
use Rattle.k_replay_record.specs.declared.record.Datum.{Datum}
use Rattle.k_replay_record.specs.declared.record.Datum.TheVariants as datum
use Rattle.k_replay_record.specs.declared.record.Piece.{Piece}
use Rattle.k_replay_record.specs.declared.record.Piece.TheVariants as piece

-- what may not be there; else nothing
abbrev pub or_nothing : Option Datum → Datum
or_nothing None = datum.Nothing
or_nothing (Some d) = d

-- the value of an operand, by its number
abbrev pub datum_at : List Datum → ℕ → Datum
datum_at values n = or_nothing (slice_get values n)

-- the number that a value is
abbrev pub number_of : Datum → Option ℤ
number_of (datum.Number a) = Some a
number_of _ = None

-- the pointer that a value is
abbrev pub pointer_of : Datum → Option Pointer
pointer_of (datum.At p) = Some p
pointer_of _ = None

-- the number that an operand is
abbrev pub number_at : List Datum → ℕ → Option ℤ
number_at values n = number_of (datum_at values n)

-- the pointer that an operand is
abbrev pub pointer_at : List Datum → ℕ → Option Pointer
pointer_at values n = pointer_of (datum_at values n)

-- what f gives for one that is there
abbrev pub on_one : {A : Type 0} → (A → Datum) → Option A → Datum
on_one f None = datum.Nothing
on_one f (Some a) = f a

-- what f gives for two that are there
abbrev pub on_both : {A B : Type 0} → (A → B → Datum) → Option A → Option B → Datum
on_both f None second = datum.Nothing
on_both f (Some a) None = datum.Nothing
on_both f (Some a) (Some b) = f a b

-- the number that an operation gives
abbrev pub given : Result ℤ NumTrap → Datum
given (Ok z) = datum.Number z
given (Err trap) = datum.Nothing

-- a binary operation on numbers (C17 6.5.5 to 6.5.14)
abbrev pub calculated : Bin → Kind → ℤ → ℤ → Datum
calculated op kind a b = given (arithmetic.value op kind (converted kind a) (converted (right_kind op kind) b))

-- a unary operation on a number (6.5.3.3)
abbrev pub changed : Un → Kind → ℤ → Datum
changed op kind a = given (arithmetic.unary_value op kind (converted kind a))

-- a pointer is moved by a number of elements, each of which is so many numbers (6.5.6p8); offsets are counted modulo 2^64
abbrev pub moved : Bool → ℕ → Pointer → ℤ → Datum
moved minus scale p n = datum.At (record { object = p.object; offset = remainder U64 (pos p.offset +ℤ distance minus scale (converted I64 n)) })

-- how far the first of two pointers lies behind the second
abbrev pub behind : Pointer → Pointer → ℤ
behind p q = pos p.offset -ℤ pos q.offset

-- they point to the same element
abbrev pub is_same : Pointer → Pointer → Bool
is_same p q = (p.object == q.object) && (p.offset == q.offset)

-- how two pointers compare: by order as their offsets do (6.5.8p5), else whether they are the same (6.5.9p6)
abbrev pub compares : Bin → Pointer → Pointer → Bool
compares Lt p q = int_lt (behind p q) (pos 0)
compares Le p q = int_le (behind p q) (pos 0)
compares Gt p q = int_lt (pos 0) (behind p q)
compares Ge p q = int_le (pos 0) (behind p q)
compares Ne p q = not (is_same p q)
compares op p q = is_same p q

-- the elements of so many numbers between two pointers (6.5.6p9)
abbrev pub apart : ℕ → Pointer → Pointer → Datum
apart scale p q = datum.Number (int_div (behind p q) (pos (at_least_one scale)))

-- what f writes for a number that is there
abbrev pub bytes_on : (ℤ → List ℕ) → Option ℤ → List ℕ
bytes_on f None = []
bytes_on f (Some a) = f a

-- a number modulo 256, as a byte (7.21.7.3)
abbrev pub as_byte : ℤ → List ℕ
as_byte a = remainder U8 a ∷ []

-- the bytes of a piece (7.21.6.1)
unfoldable pub piece_bytes : Piece → List Datum → List ℕ
piece_bytes (piece.Bytes bytes) values = bytes
piece_bytes (piece.Byte n) values = bytes_on as_byte (number_at values n)
piece_bytes (piece.Decimal n) values = bytes_on signed_decimal (number_at values n)
piece_bytes (piece.Hex n) values = bytes_on (λ a. digits 16 false (remainder U64 a)) (number_at values n)

-- the bytes of pieces, in order
abbrev pub text_of : List Piece → List Datum → List ℕ
text_of [] values = []
text_of (p ∷ pieces) values = piece_bytes p values ++ text_of pieces values

-- the bytes that an act writes
unfoldable pub written : Act → List Datum → List ℕ
written act.Put values = bytes_on as_byte (number_at values 0)
written (act.Print pieces) values = text_of pieces values
written (act.Puts bytes) values = bytes
written _ values = []

-- the act writes, if anything, to the output
unfoldable pub writes : Act → Bool
writes act.Put = true
writes (act.Print pieces) = true
writes (act.Puts bytes) = true
writes _ = false

-- the value that an act gives: of an output the byte, the count of bytes, or 0 (7.21.7.8p3, 7.21.6.1p14, 7.21.7.9p3)
unfoldable pub value : Act → List Datum → Datum
value (act.Same n) values = datum_at values n
value (act.Binary op kind) values = on_both (calculated op kind) (number_at values 0) (number_at values 1)
value (act.Unary op kind) values = on_one (changed op kind) (number_at values 0)
value (act.Convert kind) values = on_one (λ a. datum.Number (converted kind a)) (number_at values 0)
value act.Truth values = on_one (λ a. datum.Number (truth (not (is_zero a)))) (number_at values 0)
value (act.Offset minus scale) values = on_both (moved minus scale) (pointer_at values 0) (number_at values 1)
value (act.PtrCompare op) values = on_both (λ p q. datum.Number (truth (compares op p q))) (pointer_at values 0) (pointer_at values 1)
value (act.Distance scale) values = on_both (apart scale) (pointer_at values 0) (pointer_at values 1)
value (act.Input number) values = datum.Number number
value act.Put values = on_one (λ a. datum.Number (pos (remainder U8 a))) (number_at values 0)
value (act.Print pieces) values = datum.Number (pos (length (text_of pieces values)))
value (act.Puts bytes) values = datum.Number (pos 0)
value act.Call values = datum.Nothing
