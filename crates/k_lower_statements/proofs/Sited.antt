-- Stretches at their sites, emitted as pieces.
use Rattle.std.proofs.Common.{ℕ, zero, suc, ◌≡◌, ◌≢◌, ◌+◌, List, length, slice_get, Option, Result, Ok, Err, refl, sym, ap, subst, ◌∙◌, arith}
use Rattle.std.specs.Prelude.{IfOk}
use Rattle.k_num.specs.declared.memory.NoMemory.{NoMemory}
use Rattle.k_types_meaning.specs.declared.tree.declaration.TDeclarator.{TDeclarator}
use Rattle.k_types_meaning.specs.declared.tree.expression.TExpr.{TExpr}
use Rattle.k_types_meaning.specs.declared.tree.statement.Spot.{Spot}
use Rattle.k_code.specs.declared.instruction.Do.TheVariants.{Jump}
use Rattle.k_code.specs.declared.instruction.Instr.{Instr}
use Rattle.k_evaluation.specs.Declarations.{elements_of}
use Rattle.k_lower_code.proofs.Objects.{variable_size}
use Rattle.k_lower_code.specs.Declarations.{begins_register, declares, declares_all, declares_by, drops, makes_variable}
use Rattle.k_lower_code.specs.Pieces.{does}
use Rattle.k_lower_code.specs.Statements.{break, continue, declaration, expression, return, returns_value}
use Rattle.k_lower_code.specs.Stretches.{Inside, Site}
use Rattle.k_lower_expressions.proofs.Emitted.{Emitted, Emits}
use Rattle.k_lower_statements.specs.Sites.{at_site, objects_at}

module _ (w : Inside) where
  -- a declarator of a register
  pub register_emitted : (d : TDeclarator) (site : Site) (n : ℕ) (old new : List Instr) → n ≡ elements_of (slice_get w.vars d.variable) → n ≡ 0
      → Emitted {A = Unit {0}} tt (begins_register w d d.init) old new → Emitted site.objects (objects_at site (declares w d)) old new
  unfolding declares
  register_emitted d site n old new found none one =
      subst (λ (m : ℕ). Emitted site.objects (objects_at site (declares_by w d m)) old new) (sym none ∙ found) (record {
        gives = omega arith;
        code = one.code;
        size = one.size;
      })

  object_by : (d : TDeclarator) (site : Site) (n : ℕ) (b : ℕ) (old new : List Instr) → n ≢ 0 → b ≡ site.objects + 1
      → Emitted {A = Unit {0}} tt (makes_variable w d n site.objects) old new → Emitted b (objects_at site (declares_by w d n)) old new
  object_by d site zero b old new some next one = absurd (some refl)
  object_by d site (suc n) b old new some next one = record {
    gives = next;
    code = one.code;
    size = one.size ∙ ap (λ (k : ℕ). length old + k) (variable_size w d (suc n) site.objects 0);
  }

  -- a declarator of a variable that is memory
  pub object_emitted : (d : TDeclarator) (site : Site) (n : ℕ) (result : Result ℕ NoMemory) (old new : List Instr) → n ≡ elements_of (slice_get w.vars d.variable) → n ≢ 0
      → IfOk result (λ b. b ≡ site.objects + 1) → Emitted {A = Unit {0}} tt (makes_variable w d n site.objects) old new → Emits result (objects_at site (declares w d)) old new
  unfolding declares
  object_emitted d site n (Ok b) old new found some next one =
      subst (λ (m : ℕ). Emitted b (objects_at site (declares_by w d m)) old new) found (object_by d site n b old new some next one)
  object_emitted d site n (Err e) old new found some next one = tt

  -- statements without parts
  module _ (spot : Spot) (site : Site) (result : Result (Unit {0}) NoMemory) (old new : List Instr) where
    pub break_emitted : Emits result (does w.program spot.place (Jump site.breaks)) old new → Emits result (at_site site (break w spot)) old new
    unfolding break
    break_emitted emits = emits

    pub continue_emitted : Emits result (does w.program spot.place (Jump site.continues)) old new → Emits result (at_site site (continue w spot)) old new
    unfolding continue
    continue_emitted emits = emits

    pub expression_emitted : (e : TExpr) → Emits result (drops w e) old new → Emits result (at_site site (expression w spot e)) old new
    unfolding expression
    expression_emitted e emits = emits

    pub return_emitted : (value : Option TExpr) → Emits result (returns_value w spot.place value) old new → Emits result (at_site site (return w spot value)) old new
    unfolding return
    return_emitted value emits = emits

  pub declaration_emitted : (spot : Spot) (site : Site) (list : List TDeclarator) (result : Result ℕ NoMemory) (old new : List Instr)
      → Emits result (objects_at site (declares_all w spot.place list)) old new → Emits result (objects_at site (declaration w spot list)) old new
  unfolding declaration
  declaration_emitted spot site list result old new emits = emits
