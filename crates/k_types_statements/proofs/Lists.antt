-- Statements, and parts of a switch, one after the other.
use Rattle.std.proofs.Common.{◌≡◌, ℕ, ◌+◌, List, [], ◌++◌, drop, map, refl, sym, ap, subst}
use Rattle.k_num.specs.declared.numbers.Kind.{Kind}
use Rattle.k_tree.specs.declared.tree.statement.Part.{Part}
use Rattle.k_tree.specs.declared.tree.statement.Stmt.{Stmt}
use Rattle.k_types_meaning.specs.declared.tree.statement.TPart.{TPart}
use Rattle.k_types_meaning.specs.declared.tree.statement.TStmt.{TStmt}
use Rattle.k_types_meaning.specs.Made.{Made, Fine, Faulty}
use Rattle.k_types_meaning.specs.Statements.{Around, Known, Judged, in_order, each_in, judge_stmt, parts_in_order, no_labels}
use Rattle.k_types_meaning.specs.Statements as statements
use Rattle.k_types_names.specs.Scoping.{outside}
use Rattle.k_types_statements.specs.declared.switch.Labels.{Labels}
use Rattle.k_types_statements.specs.Labels.{judge_part, Holds}

-- items before those that are made
abbrev pub items_before : {A : Type 0} → List A → Made (List A) → Made (List A)
items_before xs (Fine ys) = Fine (xs ++ ys)
items_before xs (Faulty f fs) = Faulty f fs

-- items before those that are judged
abbrev pub judged_behind : {A : Type 0} → List A → Judged (List A) → Judged (List A)
judged_behind xs j = record { made = items_before xs j.made; after = j.after }

-- nothing before what is made
nothing_before : {A : Type 0} (m : Made (List A)) → items_before [] m ≡ m
nothing_before (Fine ys) = refl
nothing_before (Faulty f fs) = refl

-- nothing before what is judged
nothing_behind : {A : Type 0} (j : Judged (List A)) → judged_behind [] j ≡ j
nothing_behind {A} j = ap (λ (m : Made (List A)). let k : Judged (List A) = record { made = m; after = j.after } in k) (nothing_before j.made)

module _ (around : Around) (stmts : List Stmt) where
  -- the statements from a place on
  abbrev from : ℕ → Known → Judged (List TStmt)
  from i k = in_order k (each_in around (map judge_stmt (drop i stmts)))

  -- all statements
  abbrev all : Known → Judged (List TStmt)
  all k = in_order k (each_in around (map judge_stmt stmts))

  -- the statements before a place were judged: with those from it on they come to the whole
  abbrev pub AreBefore : ℕ → List TStmt → Known → Known → Type 0
  AreBefore i xs older newer = (judged_behind xs (from i newer) ≡ all older) × (outside newer.names ≡ outside older.names)

module _ (around : Around) (kind : Kind) (parts : List Part) where
  -- the parts from a place on, behind these labels
  abbrev parts_from : ℕ → statements.Labels → Known → Judged (List TPart)
  parts_from i labels k = parts_in_order around kind labels k (map judge_part (drop i parts))

  -- all parts
  abbrev all_parts : Known → Judged (List TPart)
  all_parts k = parts_in_order around kind no_labels k (map judge_part parts)

  -- the parts before a place were judged: with those from it on, behind the labels that are kept, they come to the whole
  abbrev pub PartsBefore : ℕ → List TPart → Labels → Known → Known → Type 0
  PartsBefore i xs kept older newer =
      (labels : statements.Labels) × Holds kept labels × (judged_behind xs (parts_from i labels newer) ≡ all_parts older)
      × (outside newer.names ≡ outside older.names)

  -- before the first
  pub parts_begin : (xs : List TPart) (kept : Labels) (older : Known) → xs ≡ [] → Holds kept no_labels → PartsBefore 0 xs kept older older
  parts_begin xs kept older is holds =
      let none : PartsBefore 0 [] kept older older = (no_labels, holds, nothing_behind (all_parts older), refl) in
      subst (λ l. PartsBefore 0 l kept older older) (sym is) none
