-- Believed with a public law.
-- What annotating keeps of a source.
use Rattle.std.specs.Prelude.{◌≡◌, ◌≤◌, ℕ, Bool, List, Ok, length, slice_get, Some}
use Rattle.k_optab.specs.declared.region.Region.{Region}
use Rattle.k_selfpar.specs.declared.row.Row.{Row}
use Rattle.k_tree.specs.declared.tokens.Token.{Token}
use Rattle.k_tree.specs.declared.tree.unit.Unit as source
use Rattle.k_tree.specs.Places.{Placed}
use Rattle.k_types_meaning.specs.declared.tree.unit.TFunc.{TFunc}
use Rattle.k_types_meaning.specs.declared.tree.unit.TUnit.{TUnit}
use Rattle.k_types_meaning.specs.declared.tree.unit.TVariable.{TVariable}
use Rattle.k_types_meaning.specs.Bare.{IsTyped}
use Rattle.k_marks_meaning.specs.declared.Marks.{Marks}
use Rattle.k_lex.specs.Laws.{kinds_of}
use Rattle.k_lex.specs.Tokens.{tokens}
use Rattle.k_regions.specs.Laws.{HasThePlace}
use Rattle.k_regions.specs.Regions.{regions_of}
use Rattle.k_pragma_texts.specs.declared.occurrence.LoopText.{LoopText}
use Rattle.k_pragma_texts.specs.Texts.{function_held}
use Rattle.k_pragma_written.specs.declared.told.Written.{Written}
use Rattle.k_pragma.specs.declared.pragmas.Pragma.{Pragma}
use Rattle.k_pragma.specs.Clauses.{all_names, pragma_text}
use Rattle.k_pragma.specs.Insertions.{annotated}
use Rattle.k_pragma.specs.Marked.{pragmas_in}
use Rattle.k_pragma.specs.Names.{names_of}

-- a text is accepted by the lexer, and has the kinds of these tokens in the same order
abbrev pub ReadsAs : List ℕ → List Token → Type 0
ReadsAs text list = (again : List Token) × ((tokens text ≡ Ok again) × (kinds_of again ≡ kinds_of list))

-- C17 5.1.1.2: what is inserted before tokens of a source adds no token and changes none, whatever names, typed tree, marks, rows and loops it is
-- made of: the annotated source, where it is not too long, has the source's tokens but for their places
abbrev pub InsertingKeepsTokens : Type 0
InsertingKeepsTokens =
    (bytes : List ℕ) (list : List Token) (written : Written) (typed : TUnit) (marks : Marks) (regions : List Region) (rows : List Row) (among : List ℕ)
    → tokens bytes ≡ Ok list
    → ((n : ℕ) (r : Region) → slice_get regions n ≡ Some r → HasThePlace list r.place)
    → length (annotated bytes (tokens bytes) written typed marks regions rows among) ≤ 1048576
    → ReadsAs (annotated bytes (tokens bytes) written typed marks regions rows among) list

-- C17 5.1.1.2: ANNOTATING KEEPS THE TOKENS: of each source that has these tokens, this tree and this typed tree
abbrev pub AnnotatingKeepsTokens : Type 0
AnnotatingKeepsTokens =
    (bytes : List ℕ) (list : List Token) (written : Written) (unit : source.Unit) (typed : TUnit) (marks : Marks) (rows : List Row) (among : List ℕ)
    → tokens bytes ≡ Ok list
    → Placed unit list
    → IsTyped unit typed
    → length (annotated bytes (tokens bytes) written typed marks (regions_of typed) rows among) ≤ 1048576
    → ReadsAs (annotated bytes (tokens bytes) written typed marks (regions_of typed) rows among) list

-- a name is that of one of these variables, by its number
pub record IsNameOfOne (names : List (List ℕ)) (vs : List TVariable) (name : List ℕ) : Type 0 where
  pub number : ℕ
  pub variable : TVariable
  pub stands : slice_get vs number ≡ Some variable
  pub named : slice_get names number ≡ Some name

-- these are names of variables, and no two are one
pub record AreNamesOfThem (names : List (List ℕ)) (vs : List TVariable) (list : List (List ℕ)) : Type 0 where
  pub each : (n : ℕ) (name : List ℕ) → slice_get list n ≡ Some name → IsNameOfOne names vs name
  pub once : (n m : ℕ) (name : List ℕ) → slice_get list n ≡ Some name → slice_get list m ≡ Some name → n ≡ m

-- a line is that of a loop of one of these functions, and the names in its clauses are different names of variables of this function
pub record NamesVariables (written : Written) (functions : List TFunc) (line : List ℕ) : Type 0 where
  pub number : ℕ
  pub function : TFunc
  pub at : slice_get functions number ≡ Some function
  pub loop : LoopText
  pub is : line ≡ pragma_text (names_of written number) (function_held function).occurs loop function.variables
  pub names : AreNamesOfThem (names_of written number) function.variables
      (all_names (names_of written number) (function_held function).occurs loop function.variables)

-- THE NAMES OF A LINE'S CLAUSES are different names of variables of the function in which its loop stands
abbrev pub ClauseNamesAreVariables : Type 0
ClauseNamesAreVariables =
    (among : List ℕ) (counted : List Bool) (written : Written) (functions : List TFunc) (n : ℕ) (p : Pragma)
    → slice_get (pragmas_in among counted written 0 functions) n ≡ Some p
    → NamesVariables written functions p.text
