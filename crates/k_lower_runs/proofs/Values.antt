-- Expressions whose code does what they mean: operands and arguments that read the same, and rows of one, two and many operands.
use Rattle.std.proofs.Common.{ℕ, ◌≡◌, ◌+◌, ◌≤◌, false, List, [], ◌∷◌, map, Some, refl, sym, ap, ◌∙◌, arith}
use Rattle.k_num.specs.declared.place.Place.{Place}
use Rattle.k_optab.specs.declared.class.Class.{Class}
use Rattle.k_world.specs.declared.act.Act.{Act}
use Rattle.k_world.specs.declared.value.Held.{Held}
use Rattle.k_code.specs.declared.code.Code.{Code}
use Rattle.k_code.specs.declared.instruction.Arg.{Arg}
use Rattle.k_code.specs.declared.instruction.Arg.TheVariants.{Reg}
use Rattle.k_code.specs.declared.instruction.Do.{Do}
use Rattle.k_code.specs.Named.{operands}
use Rattle.k_code.specs.Steps.{Configuration, Going, behind, onward, operation_of, read_of, with_register}
use Rattle.k_evaluation.specs.declared.operand.Operand.{Operand}
use Rattle.k_evaluation.specs.declared.operand.Operand.TheVariants.{Holding}
use Rattle.k_evaluation.specs.declared.operand.Target.{Target}
use Rattle.k_evaluation.specs.declared.operand.Target.TheVariants as target
use Rattle.k_evaluation.specs.States.{Program, State, Outcome, Goes, Stops, Part, gives, read, makes, computes}
use Rattle.k_lower_code.specs.Pieces.{Piece, only, does, sets}
use Rattle.k_lower_code.specs.Lowered.{Designated, InRegister, InMemory}
pub use Rattle.k_lower_runs.specs.Doing.{Within, number, variable, held, constant, Same, SamePlace, in_register, in_memory, AllSame, IfUsed, Always, Does}
use Rattle.k_lower_runs.proofs.Leads.{Registers, at, Agrees, Keeps, keeps_fewer, Leads, Follows, only_follows, binds}
use Rattle.k_lower_runs.proofs.Instructions.{operation_follows}

pub reads_same : (count low high : ℕ) (registers : Registers) (s : State) (o : Operand) (a : Arg) → Within count low high registers o a → Agrees count s registers
    → read s o ≡ read_of registers a
reads_same count low high registers s _ _ (number z) agrees = refl
reads_same count low high registers s _ _ (variable n broken below) agrees = ap (λ slot. record { slot = slot; broken = broken }) (sym (agrees.hold n below))
reads_same count low high registers s _ _ (held h q at_least at_most is) agrees = ap (λ slot. record { slot = slot; broken = false }) (sym is)
reads_same count low high registers s _ _ (constant v q at_least at_most is) agrees = ap (λ slot. record { slot = slot; broken = false }) (sym is)

-- what is so of an operand stays so where its temporaries hold what they held
pub within_kept : (count low high : ℕ) (old new : Registers) (o : Operand) (a : Arg) → ((q : ℕ) → low ≤ q → q ≤ high → new q ≡ old q)
    → Within count low high old o a → Within count low high new o a
within_kept count low high old new _ _ keeps (number z) = number z
within_kept count low high old new _ _ keeps (variable n broken below) = variable n broken below
within_kept count low high old new _ _ keeps (held h q at_least at_most is) = held h q at_least at_most (keeps q at_least at_most ∙ is)
within_kept count low high old new _ _ keeps (constant v q at_least at_most is) = constant v q at_least at_most (keeps q at_least at_most ∙ is)

pub same_kept : (count r : ℕ) (old new : Registers) (o : Operand) (a : Arg) → count ≤ r → Keeps count (r + 1) old new → Same count r old o a → Same count r new o a
same_kept count r old new o a low keeps = within_kept count r r old new o a (λ q at_least at_most. keeps q (omega (arith, low, at_least)) (omega (arith, at_most)))

-- and it is so of more temporaries
pub within_more : (count low high lower higher : ℕ) (registers : Registers) (o : Operand) (a : Arg) → lower ≤ low → high ≤ higher
    → Within count low high registers o a → Within count lower higher registers o a
within_more count low high lower higher registers _ _ less more (number z) = number z
within_more count low high lower higher registers _ _ less more (variable n broken below) = variable n broken below
within_more count low high lower higher registers _ _ less more (held h q at_least at_most is) = held h q (omega (arith, less, at_least)) (omega (arith, at_most, more)) is
within_more count low high lower higher registers _ _ less more (constant v q at_least at_most is) = constant v q (omega (arith, less, at_least)) (omega (arith, at_most, more)) is

-- both are registers, or both stand in memory
abbrev pub Matches : Target → Designated → Type 0
Matches (target.InRegister n broken) (InRegister m other) = Unit {0}
Matches (target.InMemory o) (InMemory a) = Unit {0}
Matches t d = ⊥

pub same_matches : (count r : ℕ) (registers : Registers) (t : Target) (d : Designated) → SamePlace count r registers t d → Matches t d
same_matches count r registers _ _ (in_register n broken below) = tt
same_matches count r registers _ _ (in_memory o a same) = tt

pub place_kept : (count r : ℕ) (old new : Registers) (t : Target) (d : Designated) → count ≤ r → Keeps count (r + 1) old new → SamePlace count r old t d → SamePlace count r new t d
place_kept count r old new _ _ low keeps (in_register n broken below) = in_register n broken below
place_kept count r old new _ _ low keeps (in_memory o a same) = in_memory o a (same_kept count r old new o a low keeps same)

pub all_read : (count r : ℕ) (registers : Registers) (s : State) (os : List Operand) (args : List Arg) → AllSame count r registers os args → Agrees count s registers
    → map (read s) os ≡ map (read_of registers) args
all_read count r registers s [] [] same agrees = refl
all_read count r registers s (o ∷ os) [] same agrees = absurd same
all_read count r registers s [] (a ∷ args) same agrees = absurd same
all_read count r registers s (o ∷ os) (a ∷ args) same agrees =
    ap (λ x. x ∷ map (read s) os) (reads_same count r r registers s o a same.0 agrees)
    ∙ ap (λ xs. read_of registers a ∷ xs) (all_read count (r + 1) registers s os args same.1 agrees)

module _ (code : Code) (deep count : ℕ) where
  -- what is so of registers stays so as long as those up to a temporary are kept
  abbrev pub StaysUpTo : ℕ → (Registers → Type 0) → Type 0
  StaysUpTo r Q = (old new : Registers) → Keeps count (r + 1) old new → Q old → Q new

  -- a piece that uses the temporaries behind one keeps what is so of it
  pub also : {A B : Type 0} (r : ℕ) (part : Part A) (piece : Piece B) (V : A → B → Registers → Type 0) (Q : Registers → Type 0) → StaysUpTo r Q
      → Follows code deep count (r + 1) Always part piece V → Follows code deep count r Q part piece (λ a b new. V a b new × Q new)
  also {A = A} {B = B} r part piece V Q stays follows site first s registers has agrees q =
      from (part s) (follows site first s registers has agrees tt) where
        from : (o : Outcome A) → Leads code deep count site (Going (at site first registers s.world)) (first + piece.size) (r + 1) registers (λ a new. V a piece.gives new) o
            → Leads code deep count site (Going (at site first registers s.world)) (first + piece.size) r registers (λ a new. V a piece.gives new × Q new) o
        from (Goes a t) leads = (leads.0, leads.1, leads.2, keeps_fewer count r (r + 1) registers leads.0 (omega arith) leads.3, (leads.4, stays registers leads.0 leads.3 q), leads.5)
        from (Stops end w) leads = leads

  -- the same of a piece before which something is so of registers
  pub also_under : {A B : Type 0} (r : ℕ) (P : Registers → Type 0) (part : Part A) (piece : Piece B) (V : A → B → Registers → Type 0) (Q : Registers → Type 0) → StaysUpTo r Q
      → Follows code deep count (r + 1) P part piece V → Follows code deep count r (λ new. P new × Q new) part piece (λ a b new. V a b new × Q new)
  also_under {A = A} {B = B} r P part piece V Q stays follows site first s registers has agrees both =
      from (part s) (follows site first s registers has agrees both.0) where
        from : (o : Outcome A) → Leads code deep count site (Going (at site first registers s.world)) (first + piece.size) (r + 1) registers (λ a new. V a piece.gives new) o
            → Leads code deep count site (Going (at site first registers s.world)) (first + piece.size) r registers (λ a new. V a piece.gives new × Q new) o
        from (Goes a t) leads = (leads.0, leads.1, leads.2, keeps_fewer count r (r + 1) registers leads.0 (omega arith) leads.3, (leads.4, stays registers leads.0 leads.3 both.1), leads.5)
        from (Stops end w) leads = leads

  -- what follows under less follows under more
  pub under : {A B : Type 0} (r : ℕ) (P Q : Registers → Type 0) (part : Part A) (piece : Piece B) (V W : A → B → Registers → Type 0)
      → ((registers : Registers) → Q registers → P registers) → ((a : A) (new : Registers) → V a piece.gives new → W a piece.gives new)
      → Follows code deep count r P part piece V → Follows code deep count r Q part piece W
  under {A = A} r P Q part piece V W less more follows site first s registers has agrees q =
      from (part s) (follows site first s registers has agrees (less registers q)) where
        from : (o : Outcome A) → Leads code deep count site (Going (at site first registers s.world)) (first + piece.size) r registers (λ a new. V a piece.gives new) o
            → Leads code deep count site (Going (at site first registers s.world)) (first + piece.size) r registers (λ a new. W a piece.gives new) o
        from (Goes a t) leads = (leads.0, leads.1, leads.2, leads.3, more a leads.0 leads.4, leads.5)
        from (Stops end w) leads = leads

  -- AN OPERATION AS AN OPERAND
  pub computes_follow : (r : ℕ) (P : Registers → Type 0) (program : Program) (place : Place) (class : Class) (what : Act) (read_here : List Operand) (act : ℕ → Do)
      → count ≤ r → operation_of (act r) ≡ Some (class, what)
      → ((s : State) (registers : Registers) → Agrees count s registers → P registers → map (read s) read_here ≡ map (read_of registers) (operands (act r)))
      → ((held : Held) (c : Configuration) → behind code place (act r) held c ≡ onward c (with_register (Some r) (Some held) c.frame) c.world)
      → Follows code deep count r P (computes program class place what read_here) (sets program place act r) (λ o a new. Same count r new o a)
  computes_follow r P program place class what read_here act low of reads set =
      binds code deep count r P (makes program class place what read_here) (does program place (act r)) (λ h done new. new r ≡ Some h)
      (λ h. gives (Holding h)) (λ done. only (Reg r false)) (λ o a new. Same count r new o a) (λ first. refl)
      (operation_follows code deep count r r P program place class what read_here (act r) of reads set low (omega arith))
      (λ h. only_follows code deep count r (λ new. new r ≡ Some h) (Holding h) (Reg r false) (λ o a new. Same count r new o a) (λ new is. held h r (omega arith) (omega arith) is))

  -- a piece that uses temporaries behind one
  pub lower : {A B : Type 0} (r : ℕ) (part : Part A) (piece : Piece B) (V : A → B → Registers → Type 0)
      → Follows code deep count (r + 1) Always part piece V → Follows code deep count r Always part piece V
  lower r part piece V follows = under r Always Always part piece (λ a b new. V a b new × Unit {0}) V (λ registers p. p) (λ a new both. both.0)
      (also r part piece V Always (λ old new keeps p. p) follows)

  -- AN OPERATION AS AN OPERAND whose value is left in its temporary
  pub operation_held : (r : ℕ) (P : Registers → Type 0) (program : Program) (place : Place) (class : Class) (what : Act) (read_here : List Operand) (act : Do)
      → count ≤ r → operation_of act ≡ Some (class, what)
      → ((s : State) (registers : Registers) → Agrees count s registers → P registers → map (read s) read_here ≡ map (read_of registers) (operands act))
      → ((held : Held) (c : Configuration) → behind code place act held c ≡ onward c (with_register (Some r) (Some held) c.frame) c.world)
      → Follows code deep count r P (computes program class place what read_here) (does program place act) (λ o u new. Same count r new o (Reg r false))
  operation_held r P program place class what read_here act low of reads set site first s registers has agrees p =
      from (makes program class place what read_here s) (operation_follows code deep count r r P program place class what read_here act of reads set low (omega arith) site first s registers has agrees p) where
        from : (o : Outcome Held) → Leads code deep count site (Going (at site first registers s.world)) (first + 1) r registers (λ h new. new r ≡ Some h) o
            → Leads code deep count site (Going (at site first registers s.world)) (first + 1) r registers (λ v new. Same count r new v (Reg r false))
            (Rattle.k_evaluation.specs.States.follow o (λ h. gives (Holding h)))
        from (Goes h t) leads = (leads.0, leads.1, leads.2, leads.3, held h r (omega arith) (omega arith) leads.4, leads.5)
        from (Stops end w) leads = leads
