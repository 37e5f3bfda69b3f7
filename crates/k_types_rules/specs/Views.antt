-- For contracts between crates: nobody has to believe it.
-- What lent types and judged expressions stand for, and what the calls of this crate give.
use Rattle.std.specs.Prelude.{◌≡◌, ℕ, List, ◌++◌, Option, Some, None, ◌⊎◌, Result, Ok, Err}
use Rattle.k_types_meaning.specs.declared.fault.TypeFault.{TypeFault}
use Rattle.k_types_meaning.specs.declared.fault.TypeFault.TheVariants as fault
use Rattle.k_types_meaning.specs.declared.types.Element.{Element}
use Rattle.k_types_meaning.specs.declared.types.CType.{CType}
use Rattle.k_types_meaning.specs.declared.types.CType.TheVariants as ctype
use Rattle.k_types_meaning.specs.Conversions.{Typed}
use Rattle.k_types_meaning.specs.Made.{Made, Fine, refused, faults_of, StartsWith}
use Rattle.k_types_rules.specs.declared.element.ElementView.{ElementView}
use Rattle.k_types_rules.specs.declared.view.TypeView.{TypeView}
use Rattle.k_types_rules.specs.declared.view.TypeView.TheVariants as view
use Rattle.k_types_rules.specs.declared.judged.TypedExpr.{TypedExpr}

-- the element that is lent
abbrev pub element_of : ElementView → Element
element_of e = record { kind = e.kind; dims = e.dims.now; fixed = e.fixed }

-- the type that is lent
abbrev pub type_of : TypeView → CType
type_of view.Void = ctype.Void
type_of (view.Number kind) = ctype.Number kind
type_of (view.Pointer e) = ctype.Pointer (element_of e)
type_of (view.Array count e) = ctype.Array count (element_of e)

-- the element that may be lent
abbrev pub element_option : Option ElementView → Option Element
element_option None = None
element_option (Some e) = Some (element_of e)

-- the type that may be lent
abbrev pub type_option : Option TypeView → Option CType
type_option None = None
type_option (Some of) = Some (type_of of)

-- a judged expression, with the variables to which `&` is applied in it
abbrev pub typed : TypedExpr → List ℕ → Typed
typed j taken = record { tree = j.tree; of = type_of j.of; place = j.place; taken = taken }

-- A fault agrees with what judging gives: it is the first one; want of memory agrees with all.
abbrev pub Refuses : {A : Type 0} → TypeFault → Made A → Type 0
Refuses f m = (f ≡ fault.Memory) ⊎ StartsWith f (faults_of m)

-- A rule gave what it gives to these operands, of which `&` is applied to these variables, or its first fault; want of memory
-- agrees with all.
abbrev pub Agrees : Result TypedExpr TypeFault → List ℕ → Made Typed → Type 0
Agrees (Ok j) taken m = m ≡ Fine (typed j taken)
Agrees (Err f) taken m = Refuses f m

-- A rule that may apply `&` to a variable gave what it gives, and put the variables to which it applies `&` behind the older ones.
abbrev pub AgreesAfter : Result TypedExpr TypeFault → List ℕ → List ℕ → List ℕ → Made Typed → Type 0
AgreesAfter (Ok j) taken older newer m = (more : List ℕ) × (m ≡ Fine (typed j (taken ++ more))) × (newer ≡ older ++ more)
AgreesAfter (Err f) taken older newer m = Refuses f m

-- What is written to was tested: it is a place that is not const, or the fault is there.
abbrev pub Writes : Result (Unit {0}) TypeFault → Typed → Made Typed → Type 0
Writes (Ok done) v m = m ≡ Fine v
Writes (Err f) v m = m ≡ refused f
