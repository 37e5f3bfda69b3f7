-- Believed with a public law.
-- The forms of directives (C17 6.10).
use Rattle.std.specs.Prelude.{ℕ, ◌==◌, Bool, true, false, ◌&&◌, ◌||◌, not, List, [], ◌∷◌, ◌++◌, Option, Some, None, Result, Ok, Err, if◌then◌else◌, is_none, length, take, codes}
use Rattle.k_num.specs.declared.place.Place.{Place}
use Rattle.k_lex_pieces.specs.declared.fault.Fault as pieces
use Rattle.k_lex_pieces.specs.declared.pieces.Piece.{Piece}
use Rattle.k_lex_pieces.specs.declared.pieces.Piece.TheVariants as p
use Rattle.k_lex_pieces.specs.Bytes.{begins, same}
use Rattle.k_lex_pieces.specs.Outcome.{◌>>=◌}
use Rattle.k_lex_pieces.specs.Pieces.{class_in_include, piece_by}
use Rattle.k_lex_pieces.specs.Words.{word_of}
use Rattle.k_lex_sources.specs.declared.rows.Cut.{Cut}
use Rattle.k_lex_lines.specs.declared.lines.Placed.{Placed}
use Rattle.k_lex_lines.specs.declared.lines.Fault.{Fault}
use Rattle.k_lex_lines.specs.declared.lines.Wrong.TheVariants as wrong
use Rattle.k_lex_lines.specs.declared.lines.Test.TheVariants as t
use Rattle.k_lex_lines.specs.declared.lines.Branch.{Branch}
use Rattle.k_lex_lines.specs.declared.lines.Branch.TheVariants as b
use Rattle.k_lex_lines.specs.declared.lines.Directive.{Directive}
use Rattle.k_lex_lines.specs.declared.lines.Directive.TheVariants as d
use Rattle.k_lex_lines.specs.declared.lines.Line.{Line}
use Rattle.k_lex_lines.specs.declared.lines.Line.TheVariants as l
use Rattle.k_lex_forms.specs.declared.words.Parting.{Parting}
use Rattle.k_lex_forms.specs.declared.words.Parting.TheVariants as k
use Rattle.k_lex_forms.specs.declared.words.Kind.{Kind}
use Rattle.k_lex_forms.specs.declared.words.Kind.TheVariants as o
use Rattle.k_lex_bodies.specs.Forms.{unformed, cut_short, is_name, is_plain_name, is_spelled}
use Rattle.k_lex_forms.specs.Tokens.{first_fault, right_tokens}
use Rattle.k_lex_bodies.specs.Bodies.{parameter_list, body_of}

-- ---- names and conditions

-- these are the last tokens of their line
abbrev pub alone : {A : Type 0} → Place → List Cut → A → Result A pieces.Fault
alone hash [] value = Ok value
alone hash (cut ∷ cuts) value = Err (unformed hash)

-- a name, which may be a keyword or not
abbrev pub is_named : Bool → Cut → Bool
is_named keywords cut = is_name cut.what && (keywords || is_none (word_of cut.spelling))

-- one name and nothing else (6.10.1p5, 6.10.3.5)
abbrev pub one_name : Bool → Place → Option pieces.Fault → List Cut → Result (List ℕ) pieces.Fault
one_name keywords hash end [] = Err (cut_short hash end)
one_name keywords hash end (cut ∷ cuts) = if is_named keywords cut then alone hash cuts cut.spelling else Err (unformed hash)

-- tokens, or the first fault in them
abbrev pub unless : Option pieces.Fault → List Placed → Result (List Placed) pieces.Fault
unless None ts = Ok ts
unless (Some fault) ts = Err fault

-- the tokens of a condition (6.10.1p1)
abbrev pub condition : List Cut → Result (List Placed) pieces.Fault
condition cuts = unless (first_fault cuts) (right_tokens cuts)

-- ---- macros

-- a list of parameters stands directly behind a macro's name (6.10.3p10)
abbrev pub has_list : List Cut → Bool
has_list [] = false
has_list (cut ∷ cuts) = is_spelled (codes "(") cut && not cut.spaced

-- the names of parameters, where a macro has a list of them
abbrev pub if_listed : Bool → List (List ℕ) → Option (List (List ℕ))
if_listed listed names = if listed then Some names else None

-- the macro of this name with these parameters, if it has a list of them, whose body is these tokens
abbrev pub with_body : Place → Option pieces.Fault → Cut → Bool → List (List ℕ) → List Cut → Result Directive pieces.Fault
with_body hash end name listed names cuts =
    body_of (record { hash = hash; end = end; listed = listed }) names cuts
    >>= λ body. Ok (d.Define name.place (record { name = name.spelling; parameters = if_listed listed names; body = body }))

-- what stands behind `#define` and a name
abbrev pub behind_name : Place → Option pieces.Fault → Cut → List Cut → Result Directive pieces.Fault
behind_name hash end name [] = with_body hash end name false [] []
behind_name hash end name (cut ∷ cuts) =
    if has_list (cut ∷ cuts) then (parameter_list hash end cuts >>= λ found. with_body hash end name true found.0 found.1)
    else with_body hash end name false [] (cut ∷ cuts)

-- what stands behind `#define` (6.10.3)
abbrev pub macro_of : Place → Option pieces.Fault → List Cut → Result Directive pieces.Fault
macro_of hash end [] = Err (cut_short hash end)
macro_of hash end (cut ∷ cuts) = if is_plain_name cut then behind_name hash end cut cuts else Err (unformed hash)

-- ---- headers

-- the bytes of a token, with a space for the blanks before it
abbrev pub spelled_one : Cut → List ℕ
spelled_one cut = (if cut.spaced then 32 ∷ [] else []) ++ cut.spelling

-- the same for some tokens
abbrev pub spelled : List Cut → List ℕ
spelled [] = []
spelled (cut ∷ cuts) = spelled_one cut ++ spelled cuts

-- A header's name of so many bytes at the front of a text, with nothing behind it. What closes not, or is in quotes, is no header's name, whatever is behind it.
abbrev pub header_in : Place → Place → List ℕ → Piece → ℕ → Result Directive pieces.Fault
header_in hash place text p.Header n = if n == length text then Ok (d.Include place (take n text)) else Err (unformed hash)
header_in hash place text piece n = Ok (d.Include place (take n text))

-- the header's name at the front of a text
abbrev pub header_at : Place → Place → List ℕ → Result Directive pieces.Fault
header_at hash place text = header_in hash place text (piece_by class_in_include text).0 (piece_by class_in_include text).1

-- a token begins as a header's name does, or in quotes
abbrev pub begins_header : List ℕ → Bool
begins_header spelling = begins (codes "<") spelling || begins (codes "\"") spelling

-- what stands behind `#include` (6.10.2)
abbrev pub header_of : Place → Option pieces.Fault → List Cut → Result Directive pieces.Fault
header_of hash end [] = Err (cut_short hash end)
header_of hash end (cut ∷ cuts) =
    if begins_header cut.spelling then header_at hash cut.place (cut.spelling ++ spelled cuts) else Err (unformed hash)

-- ---- directives

-- the directive that a word names, if it names one that parts lines
abbrev pub branch_named : List ℕ → Option Parting
branch_named s =
    if same s (codes "if") then Some k.If
    else (if same s (codes "ifdef") then Some k.Ifdef
    else (if same s (codes "ifndef") then Some k.Ifndef
    else (if same s (codes "elif") then Some k.Elif
    else (if same s (codes "else") then Some k.Else
    else (if same s (codes "endif") then Some k.Endif
    else None)))))

-- the same for others
abbrev pub other_named : List ℕ → Option Kind
other_named s =
    if same s (codes "define") then Some o.Define
    else (if same s (codes "undef") then Some o.Undef
    else (if same s (codes "include") then Some o.Include
    else (if same s (codes "error") then Some o.Error
    else (if same s (codes "pragma") then Some o.Pragma
    else None))))

-- a fault of tokens, as one of a source
abbrev pub lexical : pieces.Fault → Fault
lexical fault = record { what = wrong.Lexical fault.what; place = fault.place }

-- the same, if there is one
abbrev pub form_of : Option pieces.Fault → Option Fault
form_of None = None
form_of (Some fault) = Some (lexical fault)

-- a directive that parts lines, by the tokens behind its word and the fault that its line ends with
abbrev pub branch_in : Parting → Place → Option pieces.Fault → List Cut → Result Branch pieces.Fault
branch_in k.If hash end cuts = condition cuts >>= λ ts. Ok (b.Starts (t.AsksCondition ts))
branch_in k.Ifdef hash end cuts = one_name true hash end cuts >>= λ name. Ok (b.Starts (t.AsksName true name))
branch_in k.Ifndef hash end cuts = one_name true hash end cuts >>= λ name. Ok (b.Starts (t.AsksName false name))
branch_in k.Elif hash end cuts = condition cuts >>= λ ts. Ok (b.Elif ts)
branch_in k.Else hash end cuts = alone hash cuts b.Final
branch_in k.Endif hash end cuts = alone hash cuts b.Endif

-- one of its kind that asks nothing, in place of one that has a fault
abbrev pub blank_branch : Parting → Branch
blank_branch k.Elif = b.Elif []
blank_branch k.Else = b.Final
blank_branch k.Endif = b.Endif
blank_branch _ = b.Starts (t.AsksCondition [])

-- the line of such a directive with this `#`
abbrev pub branch_of : Place → Option pieces.Fault → Branch → Result Branch pieces.Fault → Line
branch_of hash end blank (Ok it) = l.Branch hash (form_of end) it
branch_of hash end blank (Err fault) = l.Branch hash (Some (lexical fault)) blank

-- the same by its word
abbrev pub branch_line : Place → Option pieces.Fault → List Cut → Parting → Line
branch_line hash end cuts kind = branch_of hash end (blank_branch kind) (branch_in kind hash end cuts)

-- another directive, by the same; nothing behind `#error` and `#pragma` is looked at
abbrev pub directive_in : Kind → Place → Option pieces.Fault → List Cut → Result Directive pieces.Fault
directive_in o.Define hash end cuts = macro_of hash end cuts
directive_in o.Undef hash end cuts = one_name false hash end cuts >>= λ name. Ok (d.Undefine name)
directive_in o.Include hash end cuts = header_of hash end cuts
directive_in o.Error hash end cuts = Ok d.Error
directive_in o.Pragma hash end cuts = Ok d.Nothing

-- the fault that the end of the line gives such a directive
abbrev pub end_for : Kind → Option pieces.Fault → Option pieces.Fault
end_for o.Error end = None
end_for o.Pragma end = None
end_for _ end = end

-- the line of such a directive with this `#`
abbrev pub directive_of : Place → Option pieces.Fault → Result Directive pieces.Fault → Line
directive_of hash end (Ok it) = l.Directive hash (form_of end) it
directive_of hash end (Err fault) = l.Directive hash (Some (lexical fault)) d.Nothing

-- the same by its word
abbrev pub directive_line : Place → Option pieces.Fault → List Cut → Kind → Line
directive_line hash end cuts kind = directive_of hash (end_for kind end) (directive_in kind hash end cuts)

-- a word that names a directive which parts no lines, or none
abbrev pub by_kind : Place → Option pieces.Fault → List Cut → Option Kind → Line
by_kind hash end cuts None = l.Directive hash (Some (lexical (unformed hash))) d.Nothing
by_kind hash end cuts (Some kind) = directive_line hash end cuts kind

-- a word that names a directive which parts lines, or not
abbrev pub by_parting : Place → Option pieces.Fault → List Cut → List ℕ → Option Parting → Line
by_parting hash end cuts word None = by_kind hash end cuts (other_named word)
by_parting hash end cuts word (Some kind) = branch_line hash end cuts kind

-- what stands behind the first `#` of a line (6.10p1)
abbrev pub behind_hash : Place → Option pieces.Fault → List Cut → Line
behind_hash hash end [] = l.Directive hash (form_of end) d.Nothing
behind_hash hash end (word ∷ cuts) = by_parting hash end cuts word.spelling (branch_named word.spelling)
