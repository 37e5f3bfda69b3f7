-- Believed with a public law.
-- The lines of a group, and what follows it in its section (C17 6.10p1), whatever stands in them.
use Rattle.std.specs.Prelude.{◌≡◌, Bool, true, false, ◌||◌, not, List, [], ◌∷◌, ◌++◌, Option, is_none}
use Rattle.k_num.specs.declared.place.Place.{Place}
use Rattle.k_lex_lines.specs.declared.lines.Placed.{Placed}
use Rattle.k_lex_lines.specs.declared.lines.Fault.{Fault}
use Rattle.k_lex_lines.specs.declared.lines.Test.{Test}
use Rattle.k_lex_lines.specs.declared.lines.Line.{Line}
use Rattle.k_lex_lines.specs.declared.lines.Branch.TheVariants as parts
use Rattle.k_lex_lines.specs.declared.lines.Line.TheVariants as l

-- the line parts no lines, and what stands in it may stand where nothing is read
abbrev pub is_part : Line → Bool
is_part (l.Text ts) = true
is_part (l.Broken always fault) = not always
is_part (l.Branch hash form it) = false
is_part (l.Directive hash form it) = true

-- a form that is looked at is right
abbrev pub is_right : Bool → Option Fault → Bool
is_right looked form = not looked || is_none form

mutual
  -- the lines of a group: parts, and sections, each of `#if` with its group and what follows that up to its `#endif`; the form of no directive is looked at
  pub data IsGroup : List Line → Type 0 where
    empty : IsGroup []
    part : (line : Line) (ts : List Line) → is_part line ≡ true → IsGroup ts → IsGroup (line ∷ ts)
    section : (hash : Place) (form : Option Fault) (test : Test) (ts us vs : List Line) → IsGroup ts → IsRest false us → IsGroup vs
        → IsGroup (l.Branch hash form (parts.Starts test) ∷ (ts ++ (us ++ vs)))

  -- what follows a group up to the `#endif` of its section, where the forms of `#else` and `#endif` are looked at or not
  pub data IsRest : Bool → List Line → Type 0 where
    ended : (looked : Bool) (hash : Place) (form : Option Fault) → is_right looked form ≡ true → IsRest looked (l.Branch hash form parts.Endif ∷ [])
    last : (looked : Bool) (hash end : Place) (form end_form : Option Fault) (ts : List Line) → is_right looked form ≡ true → is_right looked end_form ≡ true → IsGroup ts
        → IsRest looked (l.Branch hash form parts.Final ∷ (ts ++ l.Branch end end_form parts.Endif ∷ []))
    other : (looked : Bool) (hash : Place) (form : Option Fault) (asked : List Placed) (ts us : List Line) → IsGroup ts → IsRest looked us
        → IsRest looked (l.Branch hash form (parts.Elif asked) ∷ (ts ++ us))
