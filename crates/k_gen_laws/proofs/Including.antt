-- The first line of made programs, `#include <stdio.h>`, is read to the macros of that header.
use Rattle.std.proofs.Common.{◌≡◌, ℕ, ◌+◌, ◌<◌, List, [], ◌∷◌, ◌++◌, refl, sym, ◌∙◌, arith}
use Rattle.std.specs.Prelude.{codes}
use Rattle.k_num.specs.declared.place.Place.{Place}
use Rattle.k_lex_pieces.specs.declared.pieces.Piece.TheVariants as p
use Rattle.k_lex_pieces.proofs.PieceLaws.{blank_is, header_is, include_other_is, name_is, newline_is, other_is}
use Rattle.k_lex_macros.specs.Macros.{header_of}
use Rattle.k_lex.specs.declared.lines.Mode.{Mode}
use Rattle.k_lex.specs.declared.lines.Mode.TheVariants as m
use Rattle.k_lex.specs.Lines.{State}
use Rattle.k_lex.specs.Tokens.{first_place, limits, nothing_read, run}
use Rattle.k_lex.proofs.RunLaws.{run_step}
use Rattle.k_gen_laws.proofs.Scanning.{stdio}
use Rattle.k_gen_laws.proofs.Trees.{at}

-- what has been read in a mode, with no macro
abbrev in_line : Mode → State
in_line mode = record { limits = limits; mode = mode; name = []; body = []; macros = []; tokens = []; spelled = 0 }

-- what has been read behind the line
abbrev pub included : State
included = record { limits = limits; mode = m.Start; name = []; body = []; macros = stdio; tokens = []; spelled = 0 }

abbrev hash : Place
hash = at 1 1

module _ (rest : List ℕ) where
  abbrev behind_header : List ℕ
  behind_header = 10 ∷ rest

  abbrev behind_blank : List ℕ
  behind_blank = codes "<stdio.h>" ++ behind_header

  abbrev behind_name : List ℕ
  behind_name = 32 ∷ behind_blank

  abbrev behind_hash : List ℕ
  behind_hash = codes "include" ++ behind_name

  abbrev whole : List ℕ
  whole = 35 ∷ behind_hash

  abbrev header_mode : Mode
  header_mode = m.Header (record { hash = hash; name = at 1 10; header = header_of (codes "<stdio.h>") })

  at_hash : run 0 (at 1 2) (in_line (m.Hash hash)) behind_hash ≡ run 0 first_place (nothing_read limits) whole
  at_hash =
      run_step first_place (at 1 2) (nothing_read limits) (in_line (m.Hash hash)) whole (35 ∷ []) behind_hash p.Unknown 1 (run 0 first_place (nothing_read limits) whole)
      (other_is 35 behind_hash refl refl refl refl refl refl refl) (omega arith) refl refl refl refl refl

  at_name : run 0 (at 1 9) (in_line (m.Include hash)) behind_name ≡ run 0 (at 1 2) (in_line (m.Hash hash)) behind_hash
  at_name =
      run_step (at 1 2) (at 1 9) (in_line (m.Hash hash)) (in_line (m.Include hash)) behind_hash (codes "include") behind_name p.Name 7
      (run 0 (at 1 2) (in_line (m.Hash hash)) behind_hash)
      (name_is 105 (codes "nclude" ++ behind_name) 6 (omega arith) refl refl) (omega arith) refl refl refl refl refl

  at_blank : run 0 (at 1 10) (in_line (m.Include hash)) behind_blank ≡ run 0 (at 1 9) (in_line (m.Include hash)) behind_name
  at_blank =
      run_step (at 1 9) (at 1 10) (in_line (m.Include hash)) (in_line (m.Include hash)) behind_name (32 ∷ []) behind_blank p.Blank 1
      (run 0 (at 1 9) (in_line (m.Include hash)) behind_name)
      (blank_is 32 behind_blank (omega arith) refl ∙ include_other_is 32 behind_blank refl) (omega arith) refl refl refl refl refl

  at_header : run 0 (at 1 19) (in_line header_mode) behind_header ≡ run 0 (at 1 10) (in_line (m.Include hash)) behind_blank
  at_header =
      run_step (at 1 10) (at 1 19) (in_line (m.Include hash)) (in_line header_mode) behind_blank (codes "<stdio.h>") behind_header p.Header 9
      (run 0 (at 1 10) (in_line (m.Include hash)) behind_blank)
      (header_is (codes "stdio.h>" ++ behind_header) 8 refl) (omega arith) refl refl refl refl refl

  at_end : run 0 (at 2 1) included rest ≡ run 0 (at 1 19) (in_line header_mode) behind_header
  at_end =
      run_step (at 1 19) (at 2 1) (in_line header_mode) included behind_header (10 ∷ []) rest p.Newline 1
      (run 0 (at 1 19) (in_line header_mode) behind_header)
      (newline_is rest) (omega arith) refl refl refl refl refl

  -- THE LINE is read
  pub includes : run 0 first_place (nothing_read limits) (codes "#include <stdio.h>\n" ++ rest) ≡ run 0 (at 2 1) included rest
  includes = sym (at_end ∙ at_header ∙ at_blank ∙ at_name ∙ at_hash)
