-- What the soundness of a function's block rests on: parts that grow, pieces of what is open, and which tokens pass a test.
use Rattle.std.proofs.Common.{List, [], ◌∷◌, ◌++◌, sym, subst, append_assoc}
use Rattle.k_parse_steps.specs.Types.{Token, Stmt, Frame}
use Rattle.k_tree.specs.Places.{lay_stmts, Stand}
use Rattle.k_tree.specs.Ranked.{RankedParts, no_parts, statement, declaration}
use Rattle.k_parse_steps.specs.Statements.{Parts, Frames}
use Rattle.k_parse_steps.proofs.StatementState.{lay_frame, lay_frames, lay_base, IsPart, a_stmt, a_declaration}

-- one part more
pub parts_push : (ps : Parts) (x : Stmt) → RankedParts ps → IsPart x → RankedParts (ps ++ x ∷ [])
parts_push [] _ h (a_stmt x r) = statement x [] r no_parts
parts_push [] _ h (a_declaration p specs list r) = declaration p specs list [] r no_parts
parts_push (_ ∷ ps) x (statement y _ a b) r = statement y (ps ++ x ∷ []) a (parts_push ps x b r)
parts_push (_ ∷ ps) x (declaration p specs list _ a b) r = declaration p specs list (ps ++ x ∷ []) a (parts_push ps x b r)

pub base_open : (ps : Parts) (f : Frame) (s : Frames) (us : List Token) → Stand (lay_base ps (f ∷ s)) us → Stand (lay_base ps s ++ lay_frame f) us
base_open ps f s us st = subst (λ x. Stand x us) (sym (append_assoc (lay_stmts ps) (lay_frames s) (lay_frame f))) st

pub base_close : (ps : Parts) (f : Frame) (s : Frames) (us : List Token) → Stand (lay_base ps s ++ lay_frame f) us → Stand (lay_base ps (f ∷ s)) us
base_close ps f s us st = subst (λ x. Stand x us) (append_assoc (lay_stmts ps) (lay_frames s) (lay_frame f)) st
