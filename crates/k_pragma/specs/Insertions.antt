-- Believed with the theorem on the top call.
-- *Annotation*: the source with a comment before each function and loop that has a row, and a line before each marked loop.
use Rattle.std.specs.Prelude.{ℕ, ◌+◌, ◌==◌, nat_eq, nat_lt, Bool, false, not, ◌&&◌, ◌||◌, if◌then◌else◌, List, [], ◌∷◌, ◌++◌, Option, Some, None, Result, codes, slice_get}
use Rattle.std.specs.List.{flat_map, list_any}
use Rattle.std.specs.Fmt.{decimal}
use Rattle.k_num.specs.declared.place.Place.{Place}
use Rattle.k_optab.specs.declared.region.Region.{Region}
use Rattle.k_optab.specs.declared.region.RegionKind.{RegionKind}
use Rattle.k_optab.specs.declared.region.RegionKind.TheVariants.{Func, Loop, Body}
use Rattle.k_selfpar.specs.declared.row.Row.{Row}
use Rattle.k_tree.specs.declared.tokens.Token.{Token}
use Rattle.k_types_meaning.specs.declared.tree.unit.TUnit.{TUnit}
use Rattle.k_marks_meaning.specs.declared.Marks.{Marks}
use Rattle.k_lex.specs.declared.fault.LexFault.{LexFault}
use Rattle.k_lex.specs.PragmaLines.{pragma_lines}
use Rattle.k_pragma_written.specs.Written.{if_tokens}
use Rattle.k_pragma_written.specs.declared.told.Written.{Written}
use Rattle.k_pragma.specs.declared.notes.Note.{Note}
use Rattle.k_pragma.specs.declared.pragmas.Pragma.{Pragma}
use Rattle.k_pragma.specs.Marked.{pragmas_in}
use Rattle.k_pragma.specs.Names.{is_in_word}

-- the comment on a region of this kind with a row
abbrev pub comment : List ℕ → Row → List ℕ
comment kind row =
    codes "/* kremlin: " ++ kind ++ codes " n=" ++ decimal row.instances ++ codes " work=" ++ decimal row.work ++ codes " path=" ++ decimal row.path
    ++ codes " sp=" ++ decimal row.sp.0 ++ codes "/" ++ decimal row.sp.1 ++ codes " */"

-- the line of the loop of a region; where it has none, nothing
abbrev pub line_of : ℕ → List Pragma → List ℕ
line_of region [] = []
line_of region (p ∷ ps) = if nat_eq p.region region then p.text else line_of region ps

-- two places are one
abbrev pub same_place : Place → Place → Bool
same_place a b = nat_eq a.line b.line && nat_eq a.column b.column

-- a place comes before another
abbrev pub is_before : Place → Place → Bool
is_before a b = nat_lt a.line b.line || (nat_eq a.line b.line && nat_lt a.column b.column)

-- the first place, if it comes before the second; else what is given
abbrev pub if_before : Place → Place → Place → Place
if_before one place other = if is_before one place then one else other

-- the place of the last token before a place; without one what is given
abbrev pub token_before : Place → Place → List Token → Place
token_before other place [] = other
token_before other place (t ∷ ts) = token_before (if_before t.place place other) place ts

-- before all places
abbrev pub nowhere : Place
nowhere = record { line = 0; column = 0 }

-- a place comes between two others
abbrev pub is_between : Place → Place → Place → Bool
is_between first last p = is_before first p && is_before p last

-- a line of a `#pragma` stands before a place and behind the token before it
abbrev pub follows_pragma : List Place → List Token → Place → Bool
follows_pragma lines tokens place = list_any (is_between (token_before nowhere place tokens) place) lines

-- THE EIGHTH CONDITION: the line of the loop of a region at this place, unless a line of a `#pragma` stands there
abbrev pub line_at : List Place → List Token → Place → ℕ → List Pragma → List ℕ
line_at lines tokens place region pragmas = if follows_pragma lines tokens place then [] else line_of region pragmas

-- what is inserted at a place: this comment, and behind it this line
abbrev pub a_note : Place → List ℕ → List ℕ → List Note
a_note place comment line = record { place = place; comment = comment; line = line } ∷ []

-- what is inserted at the place of a region of a kind that has this row: of a body nothing
abbrev pub note_by : List Place → List Token → RegionKind → Place → List Pragma → Row → List Note
note_by lines tokens Func place pragmas row = a_note place (comment (codes "func") row) []
note_by lines tokens Loop place pragmas row = a_note place (comment (codes "loop") row) (line_at lines tokens place row.region pragmas)
note_by lines tokens Body place pragmas row = []

-- the same of a region, where there is one
abbrev pub note_for : List Place → List Token → Option Region → List Pragma → Row → List Note
note_for lines tokens None pragmas row = []
note_for lines tokens (Some region) pragmas row = note_by lines tokens region.kind region.place pragmas row

-- what is inserted at the place of the region that a row names
abbrev pub note_of : List Place → List Token → List Region → List Pragma → Row → List Note
note_of lines tokens regions pragmas row = note_for lines tokens (slice_get regions row.region) pragmas row

-- what is inserted at the places of regions, in the order of their rows, which is that of the regions
unfoldable pub notes_of : List Place → List Token → List Region → List Pragma → List Row → List Note
notes_of lines tokens regions pragmas rows = flat_map (note_of lines tokens regions pragmas) rows

-- a text goes on with a word
abbrev pub goes_on : List ℕ → Bool
goes_on [] = false
goes_on (b ∷ bs) = is_in_word b

-- THE FOURTH CONDITION: a text spells `for` at its front
abbrev pub spells_for : List ℕ → Bool
spells_for (a ∷ (b ∷ (c ∷ rest))) = (a == 102) && ((b == 111) && ((c == 114) && not (goes_on rest)))
spells_for _ = false

-- the comment at a place before this text, and behind it the line of a marked loop
abbrev pub note_text : List ℕ → Note → List ℕ
note_text text n = n.comment ++ (if spells_for text then n.line else [])

-- what is inserted at a place before this text, if it is the note's
abbrev pub inserted_by : Place → List ℕ → Note → List ℕ
inserted_by place text n = if same_place n.place place then note_text text n else []

-- what is inserted at a place before this text
abbrev pub inserted_at : Place → List ℕ → List Note → List ℕ
inserted_at place text notes = flat_map (inserted_by place text) notes

-- behind a `/` one space stands before what is inserted
abbrev pub parted : ℕ → List ℕ → List ℕ
parted before [] = []
parted before (b ∷ bs) = if before == 47 then 32 ∷ b ∷ bs else b ∷ bs

-- the place behind a byte
abbrev pub behind : Place → ℕ → Place
behind place b =
    if b == 10 then record { line = place.line + 1; column = 1 } else record { line = place.line; column = place.column + 1 }

-- the place of the first byte
abbrev pub beginning : Place
beginning = record { line = 1; column = 1 }

-- THE BYTES WITH WHAT IS INSERTED, from a place on, with this byte before it
abbrev pub with_notes : List Note → Place → ℕ → List ℕ → List ℕ
with_notes notes place before [] = []
with_notes notes place before (b ∷ bs) =
    parted before (inserted_at place (b ∷ bs) notes) ++ b ∷ with_notes notes (behind place b) b bs

-- the bytes with what is inserted, by the tokens of the source
unfoldable pub annotated_by : List ℕ → List Token → Written → TUnit → Marks → List Region → List Row → List ℕ → List ℕ
annotated_by bytes tokens written unit marks regions rows among =
    with_notes (notes_of (pragma_lines bytes) tokens regions (pragmas_in among marks.counted written 0 unit.functions) rows) beginning 0 bytes

-- *ANNOTATION*, by what the tree of the source tells: the loops of regions among these may be marked
unfoldable pub annotated : List ℕ → Result (List Token) LexFault → Written → TUnit → Marks → List Region → List Row → List ℕ → List ℕ
annotated bytes tokens written unit marks regions rows among = annotated_by bytes (if_tokens tokens) written unit marks regions rows among
