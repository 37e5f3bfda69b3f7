-- For contracts between crates: nobody has to believe it.
-- The labels of a switch as they are kept, and what its parts give.
use Rattle.std.specs.Prelude.{◌≡◌, Bool, not, ℤ, [], ◌∷◌, Option, Some, None, Result, Ok, Err}
use Rattle.std.specs.BTreeSet.{contains}
use Rattle.std.specs.Ordering.{int_cmp}
use Rattle.k_num.specs.declared.numbers.Kind.{Kind}
use Rattle.k_num.specs.Kind.{converted}
use Rattle.k_tree.specs.declared.tree.statement.Part.{Part, fold-Part}
use Rattle.k_types_meaning.specs.declared.fault.TypeFault.{TypeFault}
use Rattle.k_types_meaning.specs.declared.types.CType.TheVariants as ctype
use Rattle.k_types_meaning.specs.declared.tree.expression.TExpr.{TExpr}
use Rattle.k_types_meaning.specs.declared.tree.statement.TPart.{TPart}
use Rattle.k_types_meaning.specs.Constants.{constant}
use Rattle.k_types_meaning.specs.Conversions.{Typed}
use Rattle.k_types_meaning.specs.Made.{Fine}
use Rattle.k_types_meaning.specs.Statements.{Known, JudgedPart, Statement, SwitchPart, part_step, stmt_step, is_among}
use Rattle.k_types_meaning.specs.Statements as statements
use Rattle.k_types_rules.specs.Views.{Refuses}
use Rattle.k_types_names.specs.Scoping.{outside}
use Rattle.k_types_statements.specs.declared.switch.Labels.{Labels}

-- C17 6.8.4.2: a part of a switch
abbrev pub judge_part : Part → SwitchPart
judge_part = fold-Part SwitchPart Statement part_step stmt_step

-- an expression of which only the tree is known
abbrev pub without_type : TExpr → Typed
without_type e = record { tree = e; of = ctype.Void; place = None; taken = [] }

-- a value in a kind, if there is one
abbrev pub converted_option : Kind → Option ℤ → Option ℤ
converted_option kind None = None
converted_option kind (Some z) = Some (converted kind z)

-- C17 6.8.4.2p5: the value of the constant of a case, in the kind of its switch
abbrev pub case_value : Kind → TExpr → Option ℤ
case_value kind e = converted_option kind (constant e)

-- The labels are these.
abbrev pub Holds : Labels → statements.Labels → Type 0
Holds kept labels = (kept.defaulted ≡ labels.defaulted) × ((z : ℤ) → contains int_cmp kept.cases z ≡ is_among labels.cases z)

-- The value was put among the labels, and was not there before exactly where this says so.
abbrev pub Adds : {E : Type 0} → Result Bool E → Labels → Labels → ℤ → Type 0
Adds (Ok added) older newer value = (labels : statements.Labels) → Holds older labels
    → (added ≡ not (is_among labels.cases value)) × Holds newer (record labels { cases = value ∷ labels.cases })
Adds (Err refused) older newer value = Unit {0}

-- A part was judged, what is known goes on behind it, the scopes around the innermost one are as they were, and the labels up to it
-- are kept; or it has a fault first.
abbrev pub PartRuns : Result TPart TypeFault → Known → Known → Labels → JudgedPart → Type 0
PartRuns (Ok x) older newer labels j =
    (j.made ≡ Fine x) × (newer ≡ j.after) × (outside newer.names ≡ outside older.names) × Holds labels j.labels
PartRuns (Err f) older newer labels j = Refuses f j.made
