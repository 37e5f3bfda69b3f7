-- Believed with the theorem on the top call.
-- *Typing* of statements (C17 6.8). What is known goes from one statement to the next, also behind one with faults.
use Rattle.std.specs.Prelude.{ℕ, Bool, true, false, ◌||◌, if◌then◌else◌, ℤ, List, [], ◌∷◌, ◌++◌, map, length, Option, Some, None}
use Rattle.std.specs.Ordering.{int_eq}
use Rattle.k_num.specs.declared.numbers.Kind.{Kind}
use Rattle.k_num.specs.declared.numbers.Kind.TheVariants.{I32}
use Rattle.k_num.specs.declared.place.Place.{Place}
use Rattle.k_num.specs.Kind.{converted, promoted}
use Rattle.k_tree.specs.declared.tokens.word.Word.{Word}
use Rattle.k_tree.specs.declared.tree.expression.Expr.{Expr}
use Rattle.k_tree.specs.declared.tree.declaration.Declarator.{Declarator}
use Rattle.k_tree.specs.declared.tree.statement.First.{First}
use Rattle.k_tree.specs.declared.tree.statement.First.TheVariants as first
use Rattle.k_tree.specs.declared.tree.statement.Stmt.{Stmt, fold-Stmt}
use Rattle.k_tree.specs.declared.tree.statement.Part.TheOpen.{Part-F, Stmt-F}
use Rattle.k_types_meaning.specs.declared.fault.TypeFault.TheVariants as fault
use Rattle.k_types_meaning.specs.declared.types.CType.{CType}
use Rattle.k_types_meaning.specs.declared.types.CType.TheVariants as ctype
use Rattle.k_types_meaning.specs.declared.tree.declaration.TDeclarator.{TDeclarator}
use Rattle.k_types_meaning.specs.declared.tree.expression.TExpr.{TExpr}
use Rattle.k_types_meaning.specs.declared.tree.statement.Spot.{Spot}
use Rattle.k_types_meaning.specs.declared.tree.statement.TFirst.{TFirst}
use Rattle.k_types_meaning.specs.declared.tree.statement.TFirst.TheVariants as typed_first
use Rattle.k_types_meaning.specs.declared.tree.statement.TStmt.{TStmt}
use Rattle.k_types_meaning.specs.declared.tree.statement.TStmt.TheVariants as typed
use Rattle.k_types_meaning.specs.declared.tree.statement.TPart.{TPart}
use Rattle.k_types_meaning.specs.declared.tree.statement.TPart.TheVariants as typed_part
use Rattle.k_types_meaning.specs.Constants.{constant}
use Rattle.k_types_meaning.specs.Conversions.{Typed, in_kind, passed}
use Rattle.k_types_meaning.specs.Declarations.{Object, Saying, saying, declarator_judged, names_behind, type_for, type_or_int}
use Rattle.k_types_meaning.specs.Dimensions.{dimensions}
use Rattle.k_types_meaning.specs.Expressions.{judge}
use Rattle.k_types_meaning.specs.Made.{Made, Fine, Faulty, both, three, four, then_made, refused}
use Rattle.k_types_meaning.specs.Names.{Names}
use Rattle.k_types_meaning.specs.Types.{number_kind}

-- a variable of a function: where it stands, and its type
pub record Variable : Type 0 where
  pub place : Place
  pub of : CType

-- What is known at a place in a function: what names mean, the variables so far, and those to which `&` is applied so far.
pub record Known : Type 0 where
  pub names : Names
  pub variables : List Variable
  pub taken : List ℕ

-- What lies around a statement: whether a loop does, whether a switch does, and what its function gives.
pub record Around : Type 0 where
  pub in_loop : Bool
  pub in_switch : Bool
  pub result : CType

-- what a part comes to, and what is known behind it
pub record Judged (A : Type 0) : Type 0 where
  pub made : Made A
  pub after : Known

-- a statement that has no number yet
abbrev pub spot : Place → Spot
spot p = record { number = 0; place = p }

-- the variables that `&` is applied to in an expression that was judged
abbrev pub taken_of : Made Typed → List ℕ
taken_of (Fine v) = v.taken
taken_of (Faulty f fs) = []

-- what is known behind an expression
abbrev pub behind : Known → Made Typed → Known
behind known m = record known { taken = known.taken ++ taken_of m }

-- an expression at this place
abbrev pub at_known : Known → Expr → Made Typed
at_known known e = judge known.names e

-- what is made, where there is a number
abbrev pub conditioned : {A : Type 0} → Place → Option Kind → A → Made A
conditioned p None made = refused (fault.Kinds p)
conditioned p (Some kind) made = Fine made

-- C17 6.8.3, 6.8.4, 6.8.5: a condition is a number; else that is a fault of the statement
abbrev pub condition : {A : Type 0} → Place → Typed → A → Made A
condition p v made = conditioned p (number_kind v.of) made

-- C17 6.2.1p4: a scope is opened
abbrev pub opened : Known → Known
opened known = record known { names = [] ∷ known.names }

-- the variables that `&` is applied to in a declarator that was judged
abbrev pub object_taken : Made Object → List ℕ
object_taken (Fine o) = o.taken
object_taken (Faulty f fs) = []

-- the type of a variable that is declared
abbrev pub variable_type : Saying → Known → Declarator → CType
variable_type s known d = type_or_int (type_for false s (dimensions known.names d.dims) d)

-- C17 6.7: one declarator of a declaration in a function
abbrev pub declared : Saying → Known → Declarator → Made Object → Judged TDeclarator
declared s known d m = record {
  made = then_made m (λ o. Fine (record { place = o.place; variable = length known.variables; init = o.init }));
  after = record {
    names = names_behind false s (length known.variables) known.names d;
    variables = known.variables ++ record { place = d.place; of = variable_type s known d } ∷ [];
    taken = known.taken ++ object_taken m;
  };
}

-- C17 6.7: a declarator, where this is known
unfoldable pub declare : Saying → Known → Declarator → Judged TDeclarator
declare s known d = declared s known d (declarator_judged false s (length known.variables) known.names d)

-- a part before others
abbrev pub judged_before : {A : Type 0} → Judged A → Judged (List A) → Judged (List A)
judged_before a rest = record { made = both a.made rest.made (λ x xs. Fine (x ∷ xs)); after = rest.after }

-- C17 6.7: the declarators of a declaration, one after the other
abbrev pub declare_all : Saying → Known → List Declarator → Judged (List TDeclarator)
declare_all s known [] = record { made = Fine []; after = known }
declare_all s known (d ∷ ds) = judged_before (declare s known d) (declare_all s (declare s known d).after ds)

-- parts one after the other
abbrev pub in_order : {A : Type 0} → Known → List (Known → Judged A) → Judged (List A)
in_order known [] = record { made = Fine []; after = known }
in_order known (part ∷ parts) = judged_before (part known) (in_order (part known).after parts)

-- what is made of a part, by a function
abbrev pub judged_as : {A B : Type 0} → (A → B) → Judged A → Judged B
judged_as make a = record { made = then_made a.made (λ x. Fine (make x)); after = a.after }

-- the values of the cases of a switch so far, and whether it had a default
pub record Labels : Type 0 where
  pub cases : List ℤ
  pub defaulted : Bool

-- no label yet
abbrev pub no_labels : Labels
no_labels = record { cases = []; defaulted = false }

-- what a part of a switch comes to, what is known behind it, and the labels up to it
pub record JudgedPart : Type 0 where
  pub made : Made TPart
  pub after : Known
  pub labels : Labels

-- a statement where this lies around it and this is known
abbrev pub Statement : Type 0
Statement = Around → Known → Judged TStmt

-- a part of a switch on this kind, behind these labels
abbrev pub SwitchPart : Type 0
SwitchPart = Around → Kind → Labels → Known → JudgedPart

-- C17 6.8.3: an expression
unfoldable pub expr_rule : Place → Expr → Statement
expr_rule p e around known = record {
  made = then_made (at_known known e) (λ v. Fine (typed.Expr (spot p) v.tree));
  after = behind known (at_known known e);
}

-- C17 6.8.3: `;`
unfoldable pub empty_rule : Place → Statement
empty_rule p around known = record { made = Fine (typed.Empty (spot p)); after = known }

-- C17 6.2.1p4: a statement is left: the names that were declared in it are known no more
abbrev pub scope_left : {A : Type 0} → Known → Judged A → Judged A
scope_left known s = record { made = s.made; after = record s.after { names = known.names } }

-- statements where this lies around each of them
abbrev pub each_in : Around → List Statement → List (Known → Judged TStmt)
each_in around [] = []
each_in around (s ∷ statements) = s around ∷ each_in around statements

-- C17 6.8.2: a block, whose names are known in it alone
unfoldable pub block_rule : Place → List Statement → Statement
block_rule p parts around known = scope_left known (judged_as (typed.Block (spot p)) (in_order (opened known) (each_in around parts)))

-- C17 6.8.4.1: an `if` of which this is judged: its test is a number
abbrev pub if_made : Place → Typed → TStmt → Option TStmt → Made TStmt
if_made p v first second = condition p v (typed.If (spot p) v.tree first second)

-- what may follow an `if`
abbrev pub else_judged : Around → Known → Option Statement → Judged (Option TStmt)
else_judged around known None = record { made = Fine None; after = known }
else_judged around known (Some other) = judged_as Some (other around known)

-- an `if` whose parts are judged
abbrev pub if_judged : Place → Made Typed → Judged TStmt → Judged (Option TStmt) → Judged TStmt
if_judged p test first second = record { made = three test first.made second.made (if_made p); after = second.after }

-- C17 6.8.4.1: an `if`
unfoldable pub if_rule : Place → Expr → Statement → Option Statement → Statement
if_rule p test first second around known =
    if_judged p (at_known known test) (first around (behind known (at_known known test)))
    (else_judged around (first around (behind known (at_known known test))).after second)

-- what lies around the body of a loop
abbrev pub inside_loop : Around → Around
inside_loop around = record around { in_loop = true }

-- a loop of which test and body are judged
abbrev pub while_judged : Place → Made Typed → Judged TStmt → Judged TStmt
while_judged p test body = record {
  made = both test body.made (λ v s. condition p v (typed.While (spot p) 0 v.tree s));
  after = body.after;
}

-- C17 6.8.5.1: a `while` loop
unfoldable pub while_rule : Place → Expr → Statement → Statement
while_rule p test body around known =
    while_judged p (at_known known test) (body (inside_loop around) (behind known (at_known known test)))

-- a `do` loop of which body and test are judged
abbrev pub do_judged : Place → Judged TStmt → Made Typed → Judged TStmt
do_judged p body test = record {
  made = both body.made test (λ s v. condition p v (typed.DoWhile (spot p) 0 s v.tree));
  after = behind body.after test;
}

-- C17 6.8.5.2: a `do` loop
unfoldable pub do_rule : Place → Statement → Expr → Statement
do_rule p body test around known =
    do_judged p (body (inside_loop around) known) (at_known (body (inside_loop around) known).after test)

-- the first part of a `for`
abbrev pub first_judged : Known → First → Judged TFirst
first_judged known first.Nothing = record { made = Fine typed_first.Nothing; after = known }
first_judged known (first.Value e) = record {
  made = then_made (at_known known e) (λ v. Fine (typed_first.Value v.tree));
  after = behind known (at_known known e);
}
first_judged known (first.Declare specs list) = judged_as typed_first.Declare (declare_all (saying false specs) known list)

-- an expression that may be left out
abbrev pub option_judged : Known → Option Expr → Judged (Option Typed)
option_judged known None = record { made = Fine None; after = known }
option_judged known (Some e) = record { made = then_made (at_known known e) (λ v. Fine (Some v)); after = behind known (at_known known e) }

-- the tree of what may be left out
abbrev pub option_tree : Option Typed → Option TExpr
option_tree None = None
option_tree (Some v) = Some v.tree

-- the test of a `for`, which may be left out
abbrev pub for_condition : Place → Option Typed → TStmt → Made TStmt
for_condition p None made = Fine made
for_condition p (Some v) made = condition p v made

-- a `for` of which this is judged
abbrev pub for_made : Place → TFirst → Option Typed → Option Typed → TStmt → Made TStmt
for_made p start test step body = for_condition p test (typed.For (spot p) 0 start (option_tree test) (option_tree step) body)

-- a `for` whose parts are judged
abbrev pub for_judged : Place → Judged TFirst → Judged (Option Typed) → Judged (Option Typed) → Judged TStmt → Judged TStmt
for_judged p start test step body = record {
  made = four start.made test.made step.made body.made (for_made p);
  after = body.after;
}

-- a `for` behind its step
abbrev pub for_body : Place → Judged TFirst → Statement → Around → Judged (Option Typed) → Judged (Option Typed) → Judged TStmt
for_body p start body around test step = for_judged p start test step (body (inside_loop around) step.after)

-- a `for` behind its test
abbrev pub for_parts : Place → Judged TFirst → Statement → Around → Judged (Option Typed) → Option Expr → Judged TStmt
for_parts p start body around test step = for_body p start body around test (option_judged test.after step)

-- a `for` behind its first part, whose names are known
abbrev pub for_behind : Place → Option Expr → Option Expr → Statement → Around → Judged TFirst → Judged TStmt
for_behind p test step body around start = for_parts p start body around (option_judged start.after test) step

-- C17 6.8.5.3, 6.8.5p5: a `for`, whose names are known in it alone
unfoldable pub for_rule : Place → First → Option Expr → Option Expr → Statement → Statement
for_rule p start test step body around known = scope_left known (for_behind p test step body around (first_judged (opened known) start))

-- C17 6.8.6.3: a `break` stands in a loop or a switch
unfoldable pub break_rule : Place → Statement
break_rule p around known = record {
  made = if around.in_loop || around.in_switch then Fine (typed.Break (spot p)) else refused (fault.JumpOutside p);
  after = known;
}

-- C17 6.8.6.2: a `continue` stands in a loop
unfoldable pub continue_rule : Place → Statement
continue_rule p around known = record {
  made = if around.in_loop then Fine (typed.Continue (spot p)) else refused (fault.JumpOutside p);
  after = known;
}

-- a value that was passed to the result of a function
abbrev pub return_made : Place → Option TExpr → Made TStmt
return_made p None = refused (fault.Kinds p)
return_made p (Some tree) = Fine (typed.Return (spot p) (Some tree))

-- a `return` without a value, by the result of its function
abbrev pub return_nothing : Place → CType → Made TStmt
return_nothing p ctype.Void = Fine (typed.Return (spot p) None)
return_nothing p _ = refused (fault.Kinds p)

-- C17 6.8.6.4: a `return`, by the result of its function: void has no value, another has one
unfoldable pub return_rule : Place → Option Expr → Statement
return_rule p None around known = record { made = return_nothing p around.result; after = known }
return_rule p (Some e) around known = record {
  made = then_made (at_known known e) (λ v. return_made p (passed around.result v));
  after = behind known (at_known known e);
}

-- C17 6.7: a declaration
unfoldable pub declare_rule : Place → List Word → List Declarator → Statement
declare_rule p specs list around known = judged_as (typed.Declare (spot p)) (declare_all (saying false specs) known list)

-- what lies around the parts of a switch
abbrev pub inside_switch : Around → Around
inside_switch around = record around { in_switch = true }

-- a part of a switch before others
abbrev pub part_before : JudgedPart → Judged (List TPart) → Judged (List TPart)
part_before part rest = record { made = both part.made rest.made (λ x xs. Fine (x ∷ xs)); after = rest.after }

-- the parts of a switch in their order
abbrev pub parts_in_order : Around → Kind → Labels → Known → List SwitchPart → Judged (List TPart)
parts_in_order around kind labels known [] = record { made = Fine []; after = known }
parts_in_order around kind labels known (part ∷ parts) =
    part_before (part around kind labels known)
    (parts_in_order around kind (part around kind labels known).labels (part around kind labels known).after parts)

-- the promoted kind, or int
abbrev pub promoted_or_int : Option Kind → Kind
promoted_or_int None = I32
promoted_or_int (Some kind) = promoted kind

-- the kind of what is switched on: an int where it is no number, since the switch is refused in any case
abbrev pub kind_or_int : Made Typed → Kind
kind_or_int (Fine v) = promoted_or_int (number_kind v.of)
kind_or_int (Faulty f fs) = I32

-- a switch of which this is judged, by the kind of what is switched on
abbrev pub switched : Place → Typed → List TPart → Option Kind → Made TStmt
switched p v parts None = refused (fault.Kinds p)
switched p v parts (Some kind) = Fine (typed.Switch (spot p) (promoted kind) (in_kind kind (promoted kind) v.tree) parts)

-- a switch whose parts are judged
abbrev pub switch_judged : Place → Made Typed → Judged (List TPart) → Judged TStmt
switch_judged p on parts = record { made = both on parts.made (λ v list. switched p v list (number_kind v.of)); after = parts.after }

-- C17 6.8.4.2: a switch is on a number, which is promoted
unfoldable pub switch_rule : Place → Expr → List SwitchPart → Statement
switch_rule p on parts around known =
    switch_judged p (at_known known on)
    (parts_in_order (inside_switch around) (kind_or_int (at_known known on)) no_labels (behind known (at_known known on)) parts)

-- the value is among these
abbrev pub is_among : List ℤ → ℤ → Bool
is_among [] z = false
is_among (x ∷ xs) z = int_eq x z || is_among xs z

-- a case, by the constant that it names, if any: it is converted to the kind of the switch, and differs from those before it
abbrev pub case_made : Place → Kind → Labels → Option ℤ → Made TPart
case_made p kind labels None = refused (fault.Kinds p)
case_made p kind labels (Some z) =
    if is_among labels.cases (converted kind z) then refused (fault.CaseAgain p) else Fine (typed_part.Case p (converted kind z))

-- the labels behind a case with this constant
abbrev pub constant_labels : Kind → Labels → Option ℤ → Labels
constant_labels kind labels None = labels
constant_labels kind labels (Some z) = record labels { cases = converted kind z ∷ labels.cases }

-- the labels behind a case
abbrev pub case_labels : Kind → Labels → Made Typed → Labels
case_labels kind labels (Fine v) = constant_labels kind labels (constant v.tree)
case_labels kind labels (Faulty f fs) = labels

-- C17 6.8.4.2p3: a `case`
unfoldable pub case_rule : Place → Expr → SwitchPart
case_rule p e around kind labels known = record {
  made = then_made (at_known known e) (λ v. case_made p kind labels (constant v.tree));
  after = behind known (at_known known e);
  labels = case_labels kind labels (at_known known e);
}

-- C17 6.8.4.2p3: there is at most one `default`
unfoldable pub default_rule : Place → SwitchPart
default_rule p around kind labels known = record {
  made = if labels.defaulted then refused (fault.CaseAgain p) else Fine (typed_part.Default p);
  after = known;
  labels = record labels { defaulted = true };
}

-- a statement of a switch that is judged
abbrev pub does_judged : Place → Labels → Judged TStmt → JudgedPart
does_judged p labels s = record { made = then_made s.made (λ stmt. Fine (typed_part.Does p stmt)); after = s.after; labels = labels }

-- C17 6.8.4.2: a statement in the braces of a switch
unfoldable pub does_rule : Place → Statement → SwitchPart
does_rule p s around kind labels known = does_judged p labels (s around known)

-- a statement, whose statements and parts are known
abbrev pub stmt_step : Stmt-F SwitchPart Statement → Statement
stmt_step (Stmt-F.Expr p e) = expr_rule p e
stmt_step (Stmt-F.Empty p) = empty_rule p
stmt_step (Stmt-F.Block p parts) = block_rule p parts
stmt_step (Stmt-F.If p test first second) = if_rule p test first second
stmt_step (Stmt-F.While p test body) = while_rule p test body
stmt_step (Stmt-F.DoWhile p body test) = do_rule p body test
stmt_step (Stmt-F.For p start test step body) = for_rule p start test step body
stmt_step (Stmt-F.Switch p on parts) = switch_rule p on parts
stmt_step (Stmt-F.Break p) = break_rule p
stmt_step (Stmt-F.Continue p) = continue_rule p
stmt_step (Stmt-F.Return p value) = return_rule p value
stmt_step (Stmt-F.Declare p specs list) = declare_rule p specs list

-- a part of a switch, whose statement is known
abbrev pub part_step : Part-F SwitchPart Statement → SwitchPart
part_step (Part-F.Case p e) = case_rule p e
part_step (Part-F.Default p) = default_rule p
part_step (Part-F.Does p s) = does_rule p s

-- C17 6.8: a statement
abbrev pub judge_stmt : Stmt → Statement
judge_stmt = fold-Stmt SwitchPart Statement part_step stmt_step

-- C17 6.8.2: the statements of a function's block
unfoldable pub judge_body : Around → Known → List Stmt → Judged (List TStmt)
judge_body around known body = in_order known (each_in around (map judge_stmt body))
