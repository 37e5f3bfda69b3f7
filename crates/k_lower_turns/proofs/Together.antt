-- The parts around the body of a loop make the loop with it.
use Rattle.std.proofs.Common.{ℕ, ◌≡◌, ◌+◌, Bool, List, [], ◌∷◌, ◌++◌, length, Option, None, Result, Ok, Err, refl, sym, ap, subst, ◌∙◌, append_assoc, arith}
use Rattle.k_num.specs.declared.memory.NoMemory.{NoMemory}
use Rattle.k_optab.specs.declared.class.Class.TheVariants as class
use Rattle.k_types_meaning.specs.declared.tree.expression.TExpr.{TExpr}
use Rattle.k_types_meaning.specs.declared.tree.statement.Spot.{Spot}
use Rattle.k_code.specs.declared.instruction.Do.{Do}
use Rattle.k_code.specs.declared.instruction.Do.TheVariants.{Test, Jump, Enter, Exit, Save, Back, Restore}
use Rattle.k_code.specs.declared.instruction.Instr.{Instr}
use Rattle.k_evaluation.specs.Loops.{stays_behind_loop}
use Rattle.k_lower_code.specs.Loops.{LoopParts, before_body, before_turns, body_size, if_so, inside_loop, one_if, restores_step, saves_body, source_loop, step_or_none, test_or_one, turn_size}
use Rattle.k_lower_code.specs.Pieces.{◌>>>◌, instruction}
use Rattle.k_lower_code.specs.Stretches.{Inside, Stretch, over, over_size, pad, pad_size, settled_unless}
use Rattle.k_lower_expressions.proofs.Emitted.{Emitted, Emits, emitted_behind}
use Rattle.k_lower_extents.specs.declared.extent.Extent.{Extent}
use Rattle.k_lower_extents.specs.Extents.{extent_of}
use Rattle.k_lower_statements.specs.Sites.{at_site, site_of}
use Rattle.k_lower_statements.specs.declared.site.Site as declared_site
use Rattle.k_lower_turns.specs.declared.numbers.Numbers.{Numbers}
use Rattle.k_lower_turns.specs.declared.turns.Turns.{Turns}
use Rattle.k_lower_turns.specs.Turns.{enters, leaves, loop_of, numbers_of, shape, source_turns}

-- A LOOP OF THE SOURCE is this loop, and the control source behind it
pub source_is : (w : Inside) (spot : Spot) (number : ℕ) (test step : Option TExpr) (body : Stretch) (tested : Bool)
    → source_loop w spot number test step body tested
    ≡ settled_unless (stays_behind_loop (source_turns w spot number tested (extent_of body)).counted body.jumps) w.program (inside_loop w.program (loop_of w (source_turns w spot number tested (extent_of body)) test step body))
source_is w spot number test step body tested = refl

-- the texts of the parts, one behind the other
texts : (front restore save enter body jump way exit back again step test turn end : List Instr)
    → (front ++ (restore ++ (save ++ enter))) ++ (body ++ ((jump ++ (way ++ (exit ++ back))) ++ (again ++ (step ++ (test ++ (turn ++ end))))))
    ≡ (front ++ (((((((((restore ++ save) ++ (enter ++ body)) ++ jump) ++ way) ++ (exit ++ back)) ++ again) ++ step) ++ test) ++ turn)) ++ end
texts front restore save enter body jump way exit back again step test turn end = simp append_assoc

-- where the body stands, the step and the test, and how many instructions there are
at_body : (f j c s : ℕ) → f + ((1 + j) + (c + (s + 1))) ≡ f + (1 + j) + (c + s + 1)
at_body f j c s = omega arith

at_step : (f j c s b o p r : ℕ)
    → f + ((1 + j) + (c + (s + 1))) + b + (o + (p + (1 + s))) + r ≡ f + (1 + j) + (c + s + 1 + b + (o + p) + 1 + s) + r
at_step f j c s b o p r = omega arith

at_test : (f j c s b o p r m : ℕ)
    → f + ((1 + j) + (c + (s + 1))) + b + (o + (p + (1 + s))) + r + m ≡ f + (1 + j) + (c + s + 1 + b + (o + p) + 1 + s + r + m)
at_test f j c s b o p r m = omega arith

in_all : (j c s b o p r m n : ℕ)
    → ((1 + j) + (c + (s + 1))) + (b + ((o + (p + (1 + s))) + (r + (m + (n + (1 + 1))))))
    ≡ (1 + j) + (c + s + 1 + b + (o + p) + 1 + s + r + m) + n + 1 + 1
in_all j c s b o p r m n = omega arith

module _ (w : Inside) (t : Turns) (test step : Option TExpr) (body : Stretch) (site : declared_site.Site) (old mid inner new : List Instr) where
  -- the loop with a body of this extent
  abbrev with_body : Extent → Turns
  with_body x = record { place = t.place; region = t.region; counted = t.counted; tested = t.tested; body = x }

  -- where its parts stand
  abbrev stands : Extent → Numbers
  stands x = numbers_of (shape (with_body x) (step_or_none w step).size (test_or_one w test).size) site (length old)

  -- the whole loop is emitted
  abbrev Whole : Type 0
  Whole = Emitted {A = Unit {0}} tt (at_site (site_of site) (inside_loop w.program (loop_of w t test step body))) old new

  -- where its parts stand so
  abbrev Around : Turns → Numbers → Type 0
  Around u n =
      Emitted {A = Unit {0}} tt (enters w.program u n) old mid → Emitted {A = Unit {0}} tt (at_site (site_of n.body) body) mid inner
      → Emitted {A = Unit {0}} tt (leaves w u n test step) inner new → Whole

  around_itself : Around (with_body (extent_of body)) (stands (extent_of body))
  around_itself entered within left =
      let u : Turns = with_body (extent_of body) in
      let n : Numbers = stands (extent_of body) in
      let l : LoopParts = loop_of w t test step body in
      let all = emitted_behind {A = Unit {0}} {B = Unit {0}} (enters w.program u n) (λ x. at_site (site_of n.body) body >>> λ y. leaves w u n test step) tt tt old mid new entered
      (emitted_behind {A = Unit {0}} {B = Unit {0}} (at_site (site_of n.body) body) (λ y. leaves w u n test step) tt tt mid inner new within left) in
      let f : ℕ = length old in
      let j : ℕ = one_if l.tested in
      let c : ℕ = one_if l.counted in
      let s : ℕ = one_if (saves_body l) in
      let b : ℕ = body.size in
      let o : ℕ = over_size body.jumps.breaks in
      let p : ℕ = pad_size body.jumps.breaks in
      let r : ℕ = one_if (restores_step l) in
      let instr : Do → Instr = instruction w.program l.place in
      let front : List Instr = instr (Enter l.region) ∷ if_so w.program l.place l.tested (Jump n.test) in
      let restore : List Instr = if_so w.program l.place l.counted Restore in
      let save : List Instr = if_so w.program l.place (saves_body l) Save in
      let jump : List Instr = over w.program l.place body.jumps.breaks n.body.continues in
      let pads : List Instr = pad w.program l.place Exit body.jumps.breaks n.end in
      let back : List Instr = if_so w.program l.place (saves_body l) Back in
      let again : List Instr = if_so w.program l.place (restores_step l) Restore in
      let tested : Instr = instr (Test l.test.gives n.top n.end None class.Test) in
      let parts : ℕ → ℕ → ℕ → List Instr = λ x y z.
      old ++ ((front ++ (restore ++ (save ++ (instr (Enter (l.region + 1)) ∷ [])))) ++ (body.code (site_of n.body) x ++ ((jump ++ (pads ++ (instr Exit ∷ back))) ++ (again ++ (l.step.code y ++ (l.test.code z ++ (tested ∷ (instr Exit ∷ [])))))))) in
      let body_at : ℕ = f + before_turns l + before_body l in
      let step_at : ℕ = f + before_turns l + body_size l + one_if (restores_step l) in
      let test_at : ℕ = f + before_turns l + turn_size l in
      record {
        gives = refl;
        code = all.code ∙ (ap (λ (x : ℕ). parts x (f + ((1 + j) + (c + (s + 1))) + b + (o + (p + (1 + s))) + r) (f + ((1 + j) + (c + (s + 1))) + b + (o + (p + (1 + s))) + r + l.step.size)) (at_body f j c s)
            ∙ (ap (λ (y : ℕ). parts body_at y (f + ((1 + j) + (c + (s + 1))) + b + (o + (p + (1 + s))) + r + l.step.size)) (at_step f j c s b o p r)
            ∙ (ap (λ (z : ℕ). parts body_at step_at z) (at_test f j c s b o p r l.step.size)
            ∙ ap (λ (text : List Instr). old ++ text) (texts front restore save (instr (Enter (l.region + 1)) ∷ []) (body.code (site_of n.body) body_at) jump pads (instr Exit ∷ []) back again (l.step.code step_at) (l.test.code test_at) (tested ∷ []) (instr Exit ∷ [])))));
        size = all.size ∙ ap (λ (k : ℕ). f + k) (in_all j c s b o p r l.step.size l.test.size);
      }

  around_numbered : (n : Numbers) → n ≡ stands (extent_of body) → Around (with_body (extent_of body)) n
  around_numbered n is = subst (λ (m : Numbers). Around (with_body (extent_of body)) m) (sym is) around_itself

  -- WHERE A LOOP WAS ENTERED, its body emitted at its site, and the loop left, the whole loop was emitted
  pub turns_emitted : (n : Numbers) → extent_of body ≡ t.body
      → n ≡ numbers_of (shape t (step_or_none w step).size (test_or_one w test).size) site (length old)
      → Emitted {A = Unit {0}} tt (enters w.program t n) old mid → Emitted {A = Unit {0}} tt (at_site (site_of n.body) body) mid inner
      → Emitted {A = Unit {0}} tt (leaves w t n test step) inner new
      → Emitted {A = Unit {0}} tt (at_site (site_of site) (inside_loop w.program (loop_of w t test step body))) old new
  turns_emitted n same = subst (λ (x : Extent). n ≡ stands x → Around (with_body x) n) same (around_numbered n)

  -- the same of the call that leaves it
  pub turns_emits : (result : Result (Unit {0}) NoMemory) (n : Numbers) → extent_of body ≡ t.body
      → n ≡ numbers_of (shape t (step_or_none w step).size (test_or_one w test).size) site (length old)
      → Emitted {A = Unit {0}} tt (enters w.program t n) old mid → Emitted {A = Unit {0}} tt (at_site (site_of n.body) body) mid inner
      → Emits result (leaves w t n test step) inner new
      → Emits result (at_site (site_of site) (inside_loop w.program (loop_of w t test step body))) old new
  turns_emits (Ok u) n same numbers entered within left = turns_emitted n same numbers entered within left
  turns_emits (Err e) n same numbers entered within left = tt
