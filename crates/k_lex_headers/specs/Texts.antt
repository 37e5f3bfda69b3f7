-- For contracts between crates: nobody has to believe it.
-- The macros of the headers (C17 7), as lines of a C source define them.
use Rattle.std.specs.Prelude.{ℕ, List, ◌++◌, codes}

-- the type size_t (7.19)
unfoldable pub size : List ℕ
size =
    codes "#define size_t unsigned long\n"

-- EOF (7.21.1)
unfoldable pub eof : List ℕ
eof =
    codes "#define EOF (-1)\n"

-- the limits that no weak name gives (5.2.4.2.1)
unfoldable pub limits : List ℕ
limits =
    codes "#define INT_MIN (-2147483647-1)\n"
    ++ codes "#define INT_MAX 2147483647\n"
    ++ codes "#define UINT_MAX 4294967295U\n"
    ++ codes "#define LONG_MIN (-9223372036854775807L-1)\n"
    ++ codes "#define LONG_MAX 9223372036854775807L\n"
    ++ codes "#define ULONG_MAX 18446744073709551615UL\n"

-- the types of times (7.27.1)
unfoldable pub times : List ℕ
times =
    codes "#define clock_t long\n"
    ++ codes "#define time_t long\n"
    ++ codes "#define CLOCKS_PER_SEC 1000000L\n"

-- `bool` and its values (7.18)
unfoldable pub booleans : List ℕ
booleans =
    codes "#define bool _Bool\n"
    ++ codes "#define true 1\n"
    ++ codes "#define false 0\n"
    ++ codes "#define __bool_true_false_are_defined 1\n"

-- types of exact widths (7.20.1.1)
unfoldable pub exact_types : List ℕ
exact_types =
    codes "#define int8_t signed char\n"
    ++ codes "#define int16_t short\n"
    ++ codes "#define int32_t int\n"
    ++ codes "#define int64_t long\n"
    ++ codes "#define uint8_t unsigned char\n"
    ++ codes "#define uint16_t unsigned short\n"
    ++ codes "#define uint32_t unsigned int\n"
    ++ codes "#define uint64_t unsigned long\n"

-- types of least widths (7.20.1.2)
unfoldable pub least_types : List ℕ
least_types =
    codes "#define int_least8_t signed char\n"
    ++ codes "#define int_least16_t short\n"
    ++ codes "#define int_least32_t int\n"
    ++ codes "#define int_least64_t long\n"
    ++ codes "#define uint_least8_t unsigned char\n"
    ++ codes "#define uint_least16_t unsigned short\n"
    ++ codes "#define uint_least32_t unsigned int\n"
    ++ codes "#define uint_least64_t unsigned long\n"

-- the fastest types, and those that hold pointers and everything (7.20.1.3 to 7.20.1.5)
unfoldable pub fast_types : List ℕ
fast_types =
    codes "#define int_fast8_t signed char\n"
    ++ codes "#define int_fast16_t long\n"
    ++ codes "#define int_fast32_t long\n"
    ++ codes "#define int_fast64_t long\n"
    ++ codes "#define uint_fast8_t unsigned char\n"
    ++ codes "#define uint_fast16_t unsigned long\n"
    ++ codes "#define uint_fast32_t unsigned long\n"
    ++ codes "#define uint_fast64_t unsigned long\n"
    ++ codes "#define intptr_t long\n"
    ++ codes "#define intmax_t long\n"
    ++ codes "#define uintptr_t unsigned long\n"
    ++ codes "#define uintmax_t unsigned long\n"

-- limits of these types (7.20.2, 7.20.3)
unfoldable pub widths : List ℕ
widths =
    codes "#define INT8_MIN (-128)\n"
    ++ codes "#define INT16_MIN (-32767-1)\n"
    ++ codes "#define INT32_MIN (-2147483647-1)\n"
    ++ codes "#define INT64_MIN (-9223372036854775807L-1)\n"
    ++ codes "#define INT8_MAX 127\n"
    ++ codes "#define INT16_MAX 32767\n"
    ++ codes "#define INT32_MAX 2147483647\n"
    ++ codes "#define INT64_MAX 9223372036854775807L\n"
    ++ codes "#define UINT8_MAX 255\n"
    ++ codes "#define UINT16_MAX 65535\n"
    ++ codes "#define UINT32_MAX 4294967295U\n"
    ++ codes "#define UINT64_MAX 18446744073709551615UL\n"
    ++ codes "#define INTMAX_MIN (-9223372036854775807L-1)\n"
    ++ codes "#define INTMAX_MAX 9223372036854775807L\n"
    ++ codes "#define UINTMAX_MAX 18446744073709551615UL\n"
    ++ codes "#define SIZE_MAX 18446744073709551615UL\n"

-- constants of these types (7.20.4)
unfoldable pub constants : List ℕ
constants =
    codes "#define INT8_C(c) c\n"
    ++ codes "#define INT16_C(c) c\n"
    ++ codes "#define INT32_C(c) c\n"
    ++ codes "#define INT64_C(c) c ## L\n"
    ++ codes "#define UINT8_C(c) c\n"
    ++ codes "#define UINT16_C(c) c\n"
    ++ codes "#define UINT32_C(c) c ## U\n"
    ++ codes "#define UINT64_C(c) c ## UL\n"

-- conversions of these types (7.8.1)
unfoldable pub formats : List ℕ
formats =
    codes "#define PRId8 \"d\"\n"
    ++ codes "#define PRIi8 \"i\"\n"
    ++ codes "#define PRIu8 \"u\"\n"
    ++ codes "#define PRIx8 \"x\"\n"
    ++ codes "#define PRIX8 \"X\"\n"
    ++ codes "#define PRIo8 \"o\"\n"
    ++ codes "#define PRId16 \"d\"\n"
    ++ codes "#define PRIi16 \"i\"\n"
    ++ codes "#define PRIu16 \"u\"\n"
    ++ codes "#define PRIx16 \"x\"\n"
    ++ codes "#define PRIX16 \"X\"\n"
    ++ codes "#define PRIo16 \"o\"\n"
    ++ codes "#define PRId32 \"d\"\n"
    ++ codes "#define PRIi32 \"i\"\n"
    ++ codes "#define PRIu32 \"u\"\n"
    ++ codes "#define PRIx32 \"x\"\n"
    ++ codes "#define PRIX32 \"X\"\n"
    ++ codes "#define PRIo32 \"o\"\n"
    ++ codes "#define PRId64 \"ld\"\n"
    ++ codes "#define PRIi64 \"li\"\n"
    ++ codes "#define PRIu64 \"lu\"\n"
    ++ codes "#define PRIx64 \"lx\"\n"
    ++ codes "#define PRIX64 \"lX\"\n"
    ++ codes "#define PRIo64 \"lo\"\n"
    ++ codes "#define PRIdMAX \"ld\"\n"
    ++ codes "#define PRIiMAX \"li\"\n"
    ++ codes "#define PRIuMAX \"lu\"\n"
    ++ codes "#define PRIxMAX \"lx\"\n"
    ++ codes "#define PRIXMAX \"lX\"\n"
    ++ codes "#define PRIoMAX \"lo\"\n"
    ++ codes "#define PRIdPTR \"ld\"\n"
    ++ codes "#define PRIiPTR \"li\"\n"
    ++ codes "#define PRIuPTR \"lu\"\n"
    ++ codes "#define PRIxPTR \"lx\"\n"
    ++ codes "#define PRIXPTR \"lX\"\n"
    ++ codes "#define PRIoPTR \"lo\"\n"
