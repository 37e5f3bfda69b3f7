-- Where code leads: the words in which a piece of code does what a part of *Evaluation* says, and how pieces one behind another do.
use Rattle.std.proofs.Common.{ℕ, zero, suc, ◌≡◌, ◌+◌, ◌≤◌, List, [], ◌∷◌, ◌++◌, length, refl, subst, ap, ◌∙◌, arith}
use Rattle.k_ending.specs.declared.ending.End.{End}
use Rattle.k_code.specs.declared.code.Code.{Code}
use Rattle.k_code.specs.declared.instruction.Instr.{Instr}
use Rattle.k_code.specs.Runs.{steps}
use Rattle.k_code.specs.Steps.{Run, Going, Over, step}
use Rattle.k_evaluation.specs.States.{Outcome, Goes, Stops, Part, follow, ◌>>=◌, gives}
use Rattle.k_lower_code.specs.Pieces.{Piece, only, ◌>>>◌}
use Rattle.k_lower_code.proofs.Sizes.{IsSized}
pub use Rattle.k_lower_runs.specs.Following.{Registers, Site, at, live_at, Agrees, Begins, Keeps, HasAt, Reaches, EndsSo, Leads, Follows, GoesOn}
use Rattle.k_num.specs.declared.place.Place.{Place}
use Rattle.k_optab.specs.declared.class.Class.{Class}
use Rattle.k_world.specs.declared.act.Act.{Act}
use Rattle.k_world.specs.declared.value.Read.{Read}
use Rattle.k_world.specs.Operations.{Made, Gives, Ends, operation}
use Rattle.k_world.specs.WorldLaws.{WhereMade}
use Rattle.k_code.proofs.Kept.{OneFewer, operation_kept}
use Rattle.k_evaluation_control.specs.Laws.{IsTidy}
use Rattle.k_evaluation_control.proofs.Tidy.{operation_tidy}
use Rattle.k_world.specs.Worlds.{World}
use Rattle.k_code.specs.Runs.{world_of}

pub keeps_itself : (count r : ℕ) (registers : Registers) → Keeps count r registers registers
keeps_itself count r registers k low high = refl

pub keeps_both : (count r : ℕ) (a b c : Registers) → Keeps count r a b → Keeps count r b c → Keeps count r a c
keeps_both count r a b c first second k low high = second k low high ∙ first k low high

pub keeps_fewer : (count r s : ℕ) (a b : Registers) → r ≤ s → Keeps count s a b → Keeps count r a b
keeps_fewer count r s a b low keeps k at_least below = keeps k at_least (omega (arith, below, low))

pub goes_itself : (w : World) → GoesOn w w
goes_itself w = record { numbers = refl; calls = refl; size = refl; left = omega arith; tidy = λ live tidy. tidy }

pub goes_both : (a b c : World) → GoesOn a b → GoesOn b c → GoesOn a c
goes_both a b c first second = record {
  numbers = second.numbers ∙ first.numbers;
  calls = second.calls ∙ first.calls;
  size = second.size ∙ first.size;
  left = (let one : b.left ≤ a.left = first.left in let two : c.left ≤ b.left = second.left in omega (arith, one, two));
  tidy = λ live tidy. second.tidy live (first.tidy live tidy);
}

-- an operation that was made leaves them so
-- AN OPERATION was made: one fewer is left, and a tidy world is tidy
pub record Moves (before after : World) : Type 0 where
  pub fewer : OneFewer before after
  pub tidy : (live : ℕ) → IsTidy live before → IsTidy live after

both_moves : (w : World) (m : Made) → WhereMade OneFewer w m → ((live : ℕ) → IsTidy live w → WhereMade (λ before after. IsTidy live after) w m) → WhereMade Moves w m
both_moves w (Gives h after) fewer tidy = record { fewer = fewer; tidy = tidy }
both_moves w (Ends end after) fewer tidy = tt

pub operation_moves : (class : Class) (latency : ℕ) (place : Place) (what : Act) (reads : List Read) (w : World) → WhereMade Moves w (operation class latency place what reads w)
operation_moves class latency place what reads w =
    both_moves w (operation class latency place what reads w) (operation_kept class latency place what reads w) (λ live tidy. operation_tidy live class latency place what reads w tidy)

pub goes_by_operation : (before after : World) → Moves before after → GoesOn before after
goes_by_operation before after moves = record {
  numbers = moves.fewer.same.numbers;
  calls = moves.fewer.same.calls;
  size = moves.fewer.same.size;
  left = (let one : after.left + 1 ≡ before.left = moves.fewer.left in omega (arith, one));
  tidy = moves.tidy;
}

module _ (code : Code) where
  pub has_first : (first : ℕ) (one other : List Instr) → HasAt code first (one ++ other) → HasAt code first one
  has_first first [] other has = tt
  has_first first (i ∷ one) other has = (has.0, has_first (first + 1) one other has.1)

  pub has_rest : (first : ℕ) (one other : List Instr) (size : ℕ) → length one ≡ size → HasAt code first (one ++ other) → HasAt code (first + size) other
  has_rest first [] other size is has =
      subst (λ n. HasAt code n other) (let e : first ≡ first + size = omega (arith, is) in e) has
  has_rest first (i ∷ one) other size is has =
      subst (λ n. HasAt code n other) (let e : (first + 1) + length one ≡ first + size = omega (arith, is) in e) (has_rest (first + 1) one other (length one) refl has.1)

  steps_both : (a b : ℕ) (r : Run) → steps code (a + b) r ≡ steps code a (steps code b r)
  steps_both zero b r = ap (λ n. steps code n r) (let e : 0 + b ≡ b = omega arith in e)
  steps_both (suc a) b r =
      ap (λ n. steps code n r) (let e : suc a + b ≡ suc (a + b) = omega arith in e) ∙ ap (step code) (steps_both a b r)

  pub reaches_itself : (r : Run) → Reaches code r r
  reaches_itself r = (0, refl)

  pub reaches_both : (a b c : Run) → Reaches code a b → Reaches code b c → Reaches code a c
  reaches_both a b c first second =
      (second.0 + first.0, steps_both second.0 first.0 a ∙ ap (steps code second.0) first.1 ∙ second.1)

  -- so does a run that leads there
  pub ends_from : (before from : Run) (end : End) (w : World) → Reaches code before from → EndsSo code from end w → EndsSo code before end w
  ends_from before from end w reaches ends = record {
    last = ends.last;
    reaches = reaches_both before from (Over end ends.last) reaches ends.reaches;
    events = ends.events;
    output = ends.output;
    deeds = ends.deeds;
  }

  -- or one that ends in that world
  pub ends_at : (from : Run) (end : End) (w : World) → Reaches code from (Over end w) → EndsSo code from end w
  ends_at from end w reaches = record { last = w; reaches = reaches; events = refl; output = refl; deeds = refl }

  module _ (deep count : ℕ) where
    -- it leads on from where another run leads to
    pub leads_from : {A : Type 0} (site : Site) (before from : Run) (next r : ℕ) (a b : Registers) (V : A → Registers → Type 0) (o : Outcome A)
        → Reaches code before from → Keeps count r a b → GoesOn (world_of before) (world_of from) → Leads code deep count site from next r b V o → Leads code deep count site before next r a V o
    leads_from site before from next r a b V (Goes x s) reaches keeps on leads = (
      leads.0,
      reaches_both before from (Going (at site next leads.0 s.world)) reaches leads.1,
      leads.2,
      keeps_both count r a b leads.0 keeps leads.3,
      leads.4,
      goes_both (world_of before) (world_of from) s.world on leads.5,
    )
    leads_from site before from next r a b V (Stops end w) reaches keeps on leads = ends_from before from end w reaches leads

    -- nothing happens
    pub only_follows : {A B : Type 0} (r : ℕ) (P : Registers → Type 0) (a : A) (b : B) (V : A → B → Registers → Type 0)
        → ((new : Registers) → P new → V a b new) → Follows code deep count r P (gives a) (only b) V
    only_follows r P a b V from site first s registers has agrees p =
        (registers, (0, ap (λ n. Going (at site n registers s.world)) (let e : first ≡ first + 0 = omega arith in e)), agrees.0, keeps_itself count r registers, from registers p, goes_itself s.world)

    -- one piece behind another, and one part behind another
    pub binds : {A B C D : Type 0} (r : ℕ) (P : Registers → Type 0) (part : Part A) (piece : Piece C) (V : A → C → Registers → Type 0)
        (next : A → Part B) (after : C → Piece D) (W : B → D → Registers → Type 0) → IsSized piece
        → Follows code deep count r P part piece V → ((a : A) → Follows code deep count r (V a piece.gives) (next a) (after piece.gives) W)
        → Follows code deep count r P (part >>= next) (piece >>> after) W
    binds {A = A} {B = B} {C = C} {D = D} r P part piece V next after W sized one other site first s registers has agrees p =
        goes_on (part s) (one site first s registers (has_first first (piece.code first) _ has) agrees p) where
          goes_on : (o : Outcome A) → Leads code deep count site (Going (at site first registers s.world)) (first + piece.size) r registers (λ a new. V a piece.gives new) o
              → Leads code deep count site (Going (at site first registers s.world)) (first + (piece.size + (after piece.gives).size)) r registers (λ b new. W b (after piece.gives).gives new) (follow o next)
          goes_on (Goes a t) leads =
              leads_from site (Going (at site first registers s.world)) (Going (at site (first + piece.size) leads.0 t.world)) (first + (piece.size + (after piece.gives).size)) r registers leads.0 _ (next a t) leads.1 leads.3 leads.5
              (subst (λ n. Leads code deep count site (Going (at site (first + piece.size) leads.0 t.world)) n r leads.0 (λ b new. W b (after piece.gives).gives new) (next a t))
              (let e : (first + piece.size) + (after piece.gives).size ≡ first + (piece.size + (after piece.gives).size) = omega arith in e)
              (other a site (first + piece.size) t leads.0 (has_rest first (piece.code first) _ piece.size (sized first) has) (leads.2, leads.5.tidy (live_at deep) agrees.1) leads.4))
          goes_on (Stops end w) leads = leads
