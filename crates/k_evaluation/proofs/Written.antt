-- What operations write are bytes, where the texts that they write are.
use Rattle.std.proofs.Common.{◌≡◌, ℕ, zero, suc, ◌+◌, ◌/◌, ◌%◌, ◌==◌, ◌<◌, ◌≤◌, ℤ, pos, negsuc, List, [], ◌∷◌, ◌++◌, map, length, Option, Some, None, Result, Ok, Err, Bool, true, false, nat_lt, if◌then◌else◌, arith}
use Rattle.std.proofs.lemmas.Nat.{mod_below}
use Rattle.std.specs.Fmt.{digits, digits_onto, digit_glyph, decimal, signed_decimal}
use Rattle.k_num.specs.declared.numbers.Kind.TheVariants.{U8, U64}
use Rattle.k_num.specs.declared.initial.Initial.{Initial}
use Rattle.k_num.specs.declared.place.Place.{Place}
use Rattle.k_num.specs.Kind.{remainder}
use Rattle.k_num.proofs.KindLaws.{remainder_below}
use Rattle.k_optab.specs.declared.class.Class.{Class}
use Rattle.k_optab.specs.declared.event.Event.{Event}
use Rattle.k_optab.specs.Latencies.{latency}
use Rattle.k_ending.specs.declared.ending.Trap.{Trap}
use Rattle.k_mem.specs.declared.pointer.Pointer.{Pointer}
use Rattle.k_mem.specs.declared.start.Start.{Start}
use Rattle.k_mem.specs.Memory.{Memory}
use Rattle.k_mem.specs.Calls.{push_of}
use Rattle.k_world.specs.declared.act.Act.{Act}
use Rattle.k_world.specs.declared.act.Act.TheVariants as act
use Rattle.k_world.specs.declared.act.Chunk.{Chunk}
use Rattle.k_world.specs.declared.act.Chunk.TheVariants as chunk
use Rattle.k_world.specs.declared.act.Out.{Out}
use Rattle.k_world.specs.declared.act.Out.TheVariants as out
use Rattle.k_world.specs.declared.value.Held.{Held}
use Rattle.k_world.specs.declared.value.Value.{Value}
use Rattle.k_world.specs.declared.value.Value.TheVariants as value
use Rattle.k_world.specs.Acts.{effect, first_number, behind_value, conversion_bytes, bytes_before, argument_before, formatted, written, output_effect, store_effect, pointer_and_number}
use Rattle.k_world.specs.Changes.{with_elements, with_string}
use Rattle.k_world.specs.Operands.{values_of}
use Rattle.k_world.specs.Operations.{Made, Gives, Ends, operation, counted}
use Rattle.k_world.specs.Worlds.{World}
use Rattle.k_world.specs.WorldLaws.{AreBytes}
use Rattle.k_world.proofs.Sound.{operation_cases}
use Rattle.k_evaluation.specs.declared.operand.Operand.{Operand}
use Rattle.k_evaluation.specs.declared.operand.Operand.TheVariants.{Holding}
use Rattle.k_evaluation.specs.States.{Program, State, Outcome, Goes, Stops, Part, follow, ◌>>=◌, gives, traps, read, made, makes, computes, sets, region, control, controls, settles, settled, enters, exits}
use Rattle.k_evaluation.specs.Objects.{made_object, makes_object, with_items_at, fills, live, keeps, block, makes_string}

-- BYTES
pub bytes_both : (xs ys : List ℕ) → AreBytes xs → AreBytes ys → AreBytes (xs ++ ys)
bytes_both [] ys h k = k
bytes_both (x ∷ xs) ys h k = (h.0, bytes_both xs ys h.1 k)

pub bytes_first : (xs ys : List ℕ) → AreBytes (xs ++ ys) → AreBytes xs
bytes_first [] ys h = tt
bytes_first (x ∷ xs) ys h = (h.0, bytes_first xs ys h.1)

pub bytes_second : (xs ys : List ℕ) → AreBytes (xs ++ ys) → AreBytes ys
bytes_second [] ys h = h
bytes_second (x ∷ xs) ys h = bytes_second xs ys h.1

glyph_small : (b : Bool) (d : ℕ) → d < 16 → (if b then 48 + d else 87 + d) < 256
glyph_small true d low = omega (arith, low)
glyph_small false d low = omega (arith, low)

digit_small : (base n : ℕ) → 0 < base → base ≤ 16 → digit_glyph false (n % base) < 256
digit_small base n some low =
    let less : n % base < base = mod_below n base some in
    glyph_small (nat_lt (n % base) 10) (n % base) (omega (arith, less, low))

onto_by : (b : Bool) (digit : ℕ) (acc onto : List ℕ) → digit < 256 → AreBytes acc → AreBytes onto → AreBytes (if b then digit ∷ acc else onto)
onto_by true digit acc onto small h k = (small, h)
onto_by false digit acc onto small h k = k

onto_bytes : (k base n : ℕ) (acc : List ℕ) → 0 < base → base ≤ 16 → AreBytes acc → AreBytes (digits_onto k base false n acc)
onto_bytes zero base n acc some low h = h
onto_bytes (suc k) base n acc some low h =
    onto_by (n / base == 0) (digit_glyph false (n % base)) acc (digits_onto k base false (n / base) (digit_glyph false (n % base) ∷ acc)) (digit_small base n some low) h
    (onto_bytes k base (n / base) (digit_glyph false (n % base) ∷ acc) some low (digit_small base n some low, h))

digits_bytes : (base n : ℕ) → 0 < base → base ≤ 16 → AreBytes (digits base false n)
unfolding digits
digits_bytes base n some low = onto_bytes 64 base n [] some low tt

signed_bytes : (z : ℤ) → AreBytes (signed_decimal z)
signed_bytes (pos n) = digits_bytes 10 n (omega arith) (omega arith)
signed_bytes (negsuc n) = (omega arith, digits_bytes 10 (suc n) (omega arith) (omega arith))

-- the texts of these are bytes
abbrev pub ChunksAreClean : List Chunk → Type 0
ChunksAreClean [] = Unit {0}
ChunksAreClean (chunk.Bytes bytes ∷ chunks) = AreBytes bytes × ChunksAreClean chunks
ChunksAreClean (chunk.Byte ∷ chunks) = ChunksAreClean chunks
ChunksAreClean (chunk.Decimal ∷ chunks) = ChunksAreClean chunks
ChunksAreClean (chunk.Hex ∷ chunks) = ChunksAreClean chunks

abbrev pub OutIsClean : Out → Type 0
OutIsClean out.Byte = Unit {0}
OutIsClean (out.Line bytes) = AreBytes bytes
OutIsClean (out.Format chunks) = ChunksAreClean chunks

abbrev pub ActIsClean : Act → Type 0
ActIsClean (act.Output what) = OutIsClean what
ActIsClean _ = Unit {0}

abbrev ResultIsBytes : Result (List ℕ) Trap → Type 0
ResultIsBytes (Ok bytes) = AreBytes bytes
ResultIsBytes (Err t) = Unit {0}

before_bytes : (bytes : List ℕ) (rest : Result (List ℕ) Trap) → AreBytes bytes → ResultIsBytes rest → ResultIsBytes (bytes_before bytes rest)
before_bytes bytes (Ok more) h k = bytes_both bytes more h k
before_bytes bytes (Err t) h k = tt

argument_bytes : (c : Chunk) (a : Option ℤ) (rest : Result (List ℕ) Trap) → ((z : ℤ) → AreBytes (conversion_bytes c z)) → ResultIsBytes rest → ResultIsBytes (argument_before c a rest)
argument_bytes c None rest each k = tt
argument_bytes c (Some z) rest each k = before_bytes (conversion_bytes c z) rest (each z) k

byte_bytes : (z : ℤ) → AreBytes (conversion_bytes chunk.Byte z)
byte_bytes z = (remainder_below U8 z, tt)

hex_bytes : (z : ℤ) → AreBytes (conversion_bytes chunk.Hex z)
hex_bytes z = digits_bytes 16 (remainder U64 z) (omega arith) (omega arith)

formatted_bytes : (chunks : List Chunk) (values : List Value) → ChunksAreClean chunks → ResultIsBytes (formatted chunks values)
formatted_bytes [] values h = tt
formatted_bytes (chunk.Bytes bytes ∷ chunks) values h = before_bytes bytes (formatted chunks values) h.0 (formatted_bytes chunks values h.1)
formatted_bytes (chunk.Byte ∷ chunks) values h =
    argument_bytes chunk.Byte (first_number values) (formatted chunks (behind_value values)) byte_bytes (formatted_bytes chunks (behind_value values) h)
formatted_bytes (chunk.Decimal ∷ chunks) values h =
    argument_bytes chunk.Decimal (first_number values) (formatted chunks (behind_value values)) signed_bytes (formatted_bytes chunks (behind_value values) h)
formatted_bytes (chunk.Hex ∷ chunks) values h =
    argument_bytes chunk.Hex (first_number values) (formatted chunks (behind_value values)) hex_bytes (formatted_bytes chunks (behind_value values) h)

written_bytes : (what : Out) (values : List Value) → OutIsClean what → ResultIsBytes (written what values)
written_bytes out.Byte values h = argument_bytes chunk.Byte (first_number values) (Ok []) byte_bytes tt
written_bytes (out.Line bytes) values h = bytes_both bytes (10 ∷ []) h (omega arith, tt)
written_bytes (out.Format chunks) values h = formatted_bytes chunks values h

output_bytes : (number : ℕ) (bytes : Result (List ℕ) Trap) (w : World) → ResultIsBytes bytes → AreBytes w.output → AreBytes (output_effect number bytes w).output
output_bytes number (Ok bytes) w h k = bytes_both w.output bytes k h
output_bytes number (Err t) w h k = k

store_bytes : (number : ℕ) (s : Option (Pointer × ℤ)) (w : World) → AreBytes w.output → AreBytes (store_effect number s w).output
store_bytes number None w k = k
store_bytes number (Some s) w k = k

effect_bytes : (what : Act) (number : ℕ) (values : List Value) (w : World) → ActIsClean what → AreBytes w.output → AreBytes (effect what number values w).output
unfolding effect
effect_bytes (act.Binary op kind) number values w h k = k
effect_bytes (act.Unary op kind) number values w h k = k
effect_bytes (act.Convert kind) number values w h k = k
effect_bytes act.Move number values w h k = k
effect_bytes (act.Offset minus scale) number values w h k = k
effect_bytes (act.PtrCompare op) number values w h k = k
effect_bytes (act.PtrDistance scale) number values w h k = k
effect_bytes act.Load number values w h k = k
effect_bytes act.Store number values w h k = store_bytes number (pointer_and_number values) w k
effect_bytes act.Input number values w h k = k
effect_bytes (act.Output what) number values w h k = output_bytes number (written what values) w (written_bytes what values h) k
effect_bytes act.Test number values w h k = k
effect_bytes act.Call number values w h k = k

-- PARTS: what comes of one has written bytes
abbrev pub CleanOutcome : {A : Type 0} → Outcome A → Type 0
CleanOutcome (Goes a t) = AreBytes t.world.output
CleanOutcome (Stops end w) = AreBytes w.output

-- a part writes bytes
pub record IsClean {A : Type 0} (part : Part A) : Type 0 where
  pub clean : (s : State) → AreBytes s.world.output → CleanOutcome (part s)

clean_follow : {A B : Type 0} (o : Outcome A) (next : A → Part B) → CleanOutcome o → ((a : A) → IsClean (next a)) → CleanOutcome (follow o next)
clean_follow (Goes a t) next h k = (k a).clean t h
clean_follow (Stops end w) next h k = h

-- one part behind another
pub then_clean : {A B : Type 0} (part : Part A) (next : A → Part B) → IsClean part → ((a : A) → IsClean (next a)) → IsClean (part >>= next)
then_clean part next h k = record { clean = λ s bytes. clean_follow (part s) next (h.clean s bytes) k }

pub gives_clean : {A : Type 0} (a : A) → IsClean (gives a)
gives_clean a = record { clean = λ s bytes. bytes }

pub traps_clean : {A : Type 0} (trap : Trap) (place : Place) → IsClean (traps {A = A} trap place)
traps_clean trap place = record { clean = λ s bytes. bytes }

pub sets_clean : (n : ℕ) (slot : Option Held) → IsClean (sets n slot)
sets_clean n slot = record { clean = λ s bytes. bytes }

pub control_clean : IsClean control
control_clean = record { clean = λ s bytes. bytes }

pub settles_clean : (stays : Bool) (c : Option ℕ) → IsClean (settles stays c)
settles_clean true c = record { clean = λ s bytes. bytes }
settles_clean false c = record { clean = λ s bytes. bytes }

pub settled_clean : {A : Type 0} (stays : Bool) (part : Part A) → IsClean part → IsClean (settled stays part)
settled_clean stays part h =
    then_clean control (λ c. part >>= λ a. settles stays c >>= λ done. gives a) control_clean
    (λ c. then_clean part (λ a. settles stays c >>= λ done. gives a) h
    (λ a. then_clean (settles stays c) (λ done. gives a) (settles_clean stays c) (λ done. gives_clean a)))

pub region_clean : {A : Type 0} (number : ℕ) (part : Part A) → IsClean part → IsClean (region number part)
region_clean number part h =
    then_clean (enters number) (λ entered. part >>= λ a. exits >>= λ left. gives a) (record { clean = λ s bytes. bytes })
    (λ entered. then_clean part (λ a. exits >>= λ left. gives a) h
    (λ a. then_clean exits (λ left. gives a) (record { clean = λ s bytes. bytes }) (λ left. gives_clean a)))

pub block_clean : {A : Type 0} (part : Part A) → IsClean part → IsClean (block part)
block_clean part h =
    then_clean live (λ count. part >>= λ a. keeps count >>= λ kept. gives a) (record { clean = λ s bytes. bytes })
    (λ count. then_clean part (λ a. keeps count >>= λ kept. gives a) h
    (λ a. then_clean (keeps count) (λ kept. gives a) (record { clean = λ s bytes. bytes }) (λ kept. gives_clean a)))

object_clean : (place : Place) (count : ℕ) (s : State) (m : Option Memory) → AreBytes s.world.output → CleanOutcome (made_object place s (with_elements count s.world m))
object_clean place count s None bytes = bytes
object_clean place count s (Some m) bytes = bytes

pub makes_object_clean : (place : Place) (start : Start) (count : ℕ) → IsClean (makes_object place start count)
makes_object_clean place start count = record { clean = λ s bytes. object_clean place count s (push_of s.world.memory start count) bytes }

pub makes_string_clean : (place : Place) (bytes : List ℕ) → IsClean (makes_string place bytes)
makes_string_clean place text = record {
  clean = λ s bytes. object_clean place (length (text ++ 0 ∷ [])) s (with_string s.world.memory (text ++ 0 ∷ [])) bytes;
}

filled_bytes : (v : Value) (items : List Initial) (w : World) → AreBytes w.output → AreBytes (with_items_at v items w).output
filled_bytes (value.Number z) items w h = h
filled_bytes (value.Pointer p) items w h = h

pub fills_clean : (home : Held) (items : List Initial) → IsClean (fills home items)
fills_clean home items = record { clean = λ s bytes. filled_bytes home.value items s.world bytes }

-- AN OPERATION
abbrev MadeClean : Made → Type 0
MadeClean (Gives held w) = AreBytes w.output
MadeClean (Ends end w) = AreBytes w.output

made_clean : (s : State) (m : Made) → MadeClean m → CleanOutcome (made s m)
made_clean s (Gives held w) h = h
made_clean s (Ends end w) h = h

module _ (program : Program) (class : Class) (place : Place) (what : Act) (operands : List Operand) (h : ActIsClean what) where
  pub makes_clean : IsClean (makes program class place what operands)
  makes_clean = record {
    clean =
        λ s bytes. made_clean s (operation class (latency program.latencies class) place what (map (read s) operands) s.world)
        (operation_cases MadeClean class (latency program.latencies class) place what (map (read s) operands) s.world (λ end early. bytes)
        (λ some v. effect_bytes what s.world.made (values_of (map (read s) operands))
        (counted class (latency program.latencies class) place what (map (read s) operands) s.world) h bytes));
  }

  pub computes_clean : IsClean (computes program class place what operands)
  computes_clean = then_clean (makes program class place what operands) (λ held. gives (Holding held)) makes_clean (λ held. gives_clean (Holding held))
