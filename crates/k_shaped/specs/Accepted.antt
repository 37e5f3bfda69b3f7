-- Believed with a public law.
-- Which conversions a format may have (C17 7.21.6.1p6, p7): those that the standard defines, with a width and a precision of at most 4,095.
use Rattle.std.specs.Prelude.{ℕ, Bool, true, not, ◌&&◌, ◌||◌, ◌==◌, nat_le, Option, Some, None}
use Rattle.std.specs.Option.{is_none}
use Rattle.k_shaped.specs.declared.shape.Shape.{Shape}
use Rattle.k_shaped.specs.declared.shape.Length.{Length}
use Rattle.k_shaped.specs.declared.shape.Length.TheVariants.{Plain, Long}
use Rattle.k_shaped.specs.Letters.{is_signed, is_based, is_whole, is_real, is_number}

-- at most 4,095, where there is a precision
unfoldable pub is_small : Option ℕ → Bool
is_small None = true
is_small (Some p) = nat_le p 4095

-- `d i u o x X f F e E g G c s %`
unfoldable pub is_letter : ℕ → Bool
is_letter c = is_number c || c == 99 || c == 115 || c == 37

-- `+` and the blank with a sign, `#` with `o x X`, `0` with numbers
unfoldable pub have_flags : Shape → Bool
have_flags s =
    (not (s.plus || s.space) || (is_signed s.conversion || is_real s.conversion))
    && (not s.hash || is_based s.conversion)
    && (not s.zero || is_number s.conversion)

-- a precision with numbers and with `s`
unfoldable pub has_precision : Shape → Bool
has_precision s = is_none s.precision || (is_number s.conversion || s.conversion == 115)

-- `l` with numbers, each other length with whole numbers
unfoldable pub has_length : ℕ → Length → Bool
has_length c Plain = true
has_length c Long = is_number c
has_length c _ = is_whole c

-- `%%` has nothing between
unfoldable pub stands_alone : Shape → Bool
stands_alone s = not (s.conversion == 37) || (not s.minus && s.width == 0)

-- all of that
unfoldable pub is_accepted : Shape → Length → Bool
is_accepted s l =
    is_letter s.conversion && (nat_le s.width 4095 && is_small s.precision) && have_flags s && has_precision s
    && has_length s.conversion l && stands_alone s
