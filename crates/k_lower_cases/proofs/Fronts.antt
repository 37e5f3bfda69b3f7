-- A switch is what stands before its statements, and its statements behind that.
use Rattle.std.proofs.Common.{ℕ, zero, suc, ◌≡◌, ◌≢◌, ◌+◌, Bool, true, List, [], ◌∷◌, ◌++◌, length, map, Result, Ok, Err, refl, sym, ap, subst, ◌∙◌, append_assoc, arith}
use Rattle.k_num.specs.declared.memory.NoMemory.{NoMemory}
use Rattle.k_num.specs.declared.numbers.Kind.{Kind}
use Rattle.k_num.specs.declared.place.Place.{Place}
use Rattle.k_marks_meaning.specs.Jumps.{is_left, out_of_switch}
use Rattle.k_types_meaning.specs.declared.tree.expression.TExpr.{TExpr}
use Rattle.k_types_meaning.proofs.Folds.{done_Switch}
use Rattle.k_types_meaning.specs.declared.tree.statement.Spot.{Spot}
use Rattle.k_types_meaning.specs.declared.tree.statement.TPart.{TPart}
use Rattle.k_types_meaning.specs.declared.tree.statement.TStmt.TheVariants as stmt
use Rattle.k_code.specs.declared.instruction.Arg.{Arg}
use Rattle.k_code.specs.declared.instruction.Do.TheVariants.{Jump}
use Rattle.k_code.specs.declared.instruction.Instr.{Instr}
use Rattle.k_evaluation.specs.States.{Program}
use Rattle.k_lower_code.specs.Declarations.{means, temporary}
use Rattle.k_lower_code.specs.Pieces.{Piece, does, instruction}
use Rattle.k_lower_code.specs.Statements.{lower_step, lowered, part_step}
use Rattle.k_lower_code.specs.Stretches.{Inside, Site, Stretch, in_order, settled_unless}
use Rattle.k_lower_code.specs.Switches.{PartLowered, ACase, ADefault, AStatement, before_default, cases_code, cases_size, has_case, skips, skips_size, statements_code, statements_of, switch, switches}
use Rattle.k_lower_expressions.proofs.Emitted.{Emitted, Emits, nothing_emitted}
use Rattle.k_lower_extents.specs.Extents.{lowered_part}
use Rattle.k_lower_statements.specs.Sites.{at_site}
use Rattle.k_lower_cases.specs.Cases.{cases, front, front_in, is_any, skip, switches_in, value_of, with_breaks}

-- there are some
pub any : (n : ℕ) → n ≢ 0 → is_any n ≡ true
any zero some = absurd (some refl)
any (suc n) some = refl

pub one_skip : (n : ℕ) → n ≢ 0 → skips_size n ≡ 1
one_skip zero some = absurd (some refl)
one_skip (suc n) some = refl

-- the cases have instructions where there is a case
two_more : (n : ℕ) → 2 + n ≡ suc (1 + n)
two_more n = omega arith

pub any_case : (ps : List PartLowered) → is_any (cases_size ps) ≡ has_case ps
any_case [] = refl
any_case (ACase place z ∷ ps) = ap is_any (two_more (cases_size ps))
any_case (ADefault ∷ ps) = any_case ps
any_case (AStatement s ∷ ps) = any_case ps

module _ (program : Program) (place : Place) where
  -- the jump over instructions
  pub none_skipped : (n : ℕ) (old : List Instr) → n ≡ 0 → Emitted {A = Unit {0}} tt (skip program place n) old old
  none_skipped n old none = subst (λ (m : ℕ). Emitted {A = Unit {0}} tt (skip program place m) old old) (sym none) (nothing_emitted {A = Unit {0}} tt old)

  jump_emitted : (n to : ℕ) (result : Result (Unit {0}) NoMemory) (old new : List Instr) → to ≡ length old + 1 + suc n
      → Emits result (does program place (Jump to)) old new → Emits result (skip program place (suc n)) old new
  jump_emitted n to (Ok done) old new is jumps = record {
    gives = refl;
    code = jumps.code ∙ ap (λ (t : ℕ). old ++ instruction program place (Jump t) ∷ []) is;
    size = jumps.size;
  }
  jump_emitted n to (Err e) old new is jumps = tt

  pub some_skipped : (n number behind to : ℕ) (result : Result (Unit {0}) NoMemory) (old new : List Instr) → n ≢ 0
      → number ≡ length old → behind ≡ number + 1 → to ≡ behind + n
      → Emits result (does program place (Jump to)) old new → Emits result (skip program place n) old new
  some_skipped zero number behind to result old new some here next is jumps = absurd (some refl)
  some_skipped (suc n) number behind to result old new some here next is jumps =
      jump_emitted n to result old new (omega (arith, here, next, is)) jumps

  module _ (kind : Kind) (r : ℕ) (parts : List PartLowered) (on : Piece Arg) where
    abbrev skipped : ℕ
    skipped = skips_size (before_default parts)

    -- the value, the cases and the jump were emitted
    all_emitted : (a : Arg) (at : ℕ) (old one two new : List Instr) → Emitted a on old one
        → at ≡ length one + cases_size parts + skipped
        → Emitted {A = Unit {0}} tt (cases program kind r a parts at) one two
        → Emitted {A = Unit {0}} tt (skip program place (before_default parts)) two new
        → Emitted {A = Unit {0}} tt (front program place kind r parts on) old new
    all_emitted a at old one two new valued is selects skips_ =
        (let first : length one ≡ length old + on.size = valued.size in
        (let second : length two ≡ length one + cases_size parts = selects.size in
        (let third : length new ≡ length two + skipped = skips_.size in
        (let begins : at ≡ length old + on.size + cases_size parts + skipped = omega (arith, first, is) in
        (let jumps : length two ≡ length old + on.size + cases_size parts = omega (arith, first, second) in
        (let front_code : List Instr = on.code (length old) in
        (let middle : List Instr = cases_code program kind r on.gives parts (length old + on.size + cases_size parts + skipped) (length old + on.size) in
        (let back : List Instr = skips program place (before_default parts) (length old + on.size + cases_size parts) in
        record {
          gives = refl;
          code = skips_.code
              ∙ ((λ i. selects.code i ++ skips program place (before_default parts) (jumps i))
              ∙ ((λ i. (valued.code i ++ cases_code program kind r (valued.gives i) parts (begins i) (first i)) ++ back)
              ∙ (ap (λ (m : List Instr). m ++ back) (append_assoc old front_code middle)
              ∙ append_assoc old (front_code ++ middle) back)));
          size = omega (arith, first, second, third);
        }))))))))

    pub front_emitted : (a : Arg) (at : ℕ) (result : Result (Unit {0}) NoMemory) (old one two new : List Instr) → Emitted a on old one
        → at ≡ length one + cases_size parts + skipped
        → Emitted {A = Unit {0}} tt (cases program kind r a parts at) one two
        → Emits result (skip program place (before_default parts)) two new
        → Emits result (front program place kind r parts on) old new
    front_emitted a at (Ok done) old one two new valued is selects skips_ = all_emitted a at old one two new valued is selects skips_
    front_emitted a at (Err e) old one two new valued is selects skips_ = tt

    -- THE STATEMENTS BEHIND THEM
    abbrev statements : Stretch
    statements = in_order program place (statements_of parts)

    done_emitted : (site : Site) (old mid new : List Instr)
        → Emitted {A = Unit {0}} tt (front program place kind r parts on) old mid
        → Emitted {A = Unit {0}} tt (at_site (with_breaks site (length mid + statements.size)) statements) mid new
        → Emitted {A = Unit {0}} tt (at_site site (switches program place kind r parts on)) old new
    done_emitted site old mid new begun done =
        (let size : length mid ≡ length old + (on.size + cases_size parts + skipped) = begun.size in
        (let there : length mid ≡ length old + on.size + cases_size parts + skipped = omega (arith, size) in
        (let behind : length new ≡ length mid + statements.size = done.size in
        record {
          gives = refl;
          code = done.code
              ∙ ((λ i. begun.code i ++ statements.code (with_breaks site (there i + statements.size)) (there i))
              ∙ append_assoc old ((front program place kind r parts on).code (length old))
              (statements_code program place parts site (length old + on.size + cases_size parts + skipped)));
          size = omega (arith, size, behind);
        })))

    -- A SWITCH was emitted, before its control source is settled
    pub switch_emitted : (site : Site) (result : Result (Unit {0}) NoMemory) (old mid new : List Instr)
        → Emitted {A = Unit {0}} tt (front program place kind r parts on) old mid
        → Emits result (at_site (with_breaks site (length mid + statements.size)) statements) mid new
        → Emits result (at_site site (switches program place kind r parts on)) old new
    switch_emitted site (Ok given) old mid new begun done = done_emitted site old mid new begun done
    switch_emitted site (Err e) old mid new begun done = tt

module _ (w : Inside) (place : Place) (kind : Kind) (on : TExpr) (parts : List PartLowered) where
  -- what stands before the statements was emitted, by the numbers that were counted before
  pub front_by : (r size before number behind jump at : ℕ) (used : Bool) (e : TExpr) (a : Arg) (result : Result (Unit {0}) NoMemory) (old one two new : List Instr)
      → r ≡ temporary w → size ≡ cases_size parts → before ≡ before_default parts → used ≡ is_any size → e ≡ on
      → Emitted a ((means w e).value used r) old one
      → number ≡ length one → behind ≡ number + size → jump ≡ skips_size before → at ≡ behind + jump
      → Emitted {A = Unit {0}} tt (cases w.program kind r a parts at) one two
      → Emits result (skip w.program place before) two new
      → Emits result (front_in w place kind on parts) old new
  front_by r size before number behind jump at used e a result old one two new r_is size_is before_is used_is e_is valued here next jump_is at_is selects skips_ =
      (let with_case : used ≡ has_case parts = used_is ∙ (ap is_any size_is ∙ any_case parts) in
      (let same : (means w e).value used r ≡ (means w on).value (has_case parts) (temporary w) = (λ i. (means w (e_is i)).value (with_case i) (r_is i)) in
      (let jumps : jump ≡ skips_size (before_default parts) = jump_is ∙ ap skips_size before_is in
      front_emitted w.program place kind (temporary w) parts ((means w on).value (has_case parts) (temporary w)) a at result old one two new
      (subst (λ (p : Piece Arg). Emitted a p old one) same valued)
      (omega (arith, here, next, jumps, at_is, size_is))
      (subst (λ (n : ℕ). Emitted {A = Unit {0}} tt (cases w.program kind n a parts at) one two) r_is selects)
      (subst (λ (n : ℕ). Emits result (skip w.program place n) two new) before_is skips_))))

  -- THE WHOLE SWITCH was emitted, by what was counted of its statements
  pub switch_done : (site inner : Site) (size : ℕ) (result : Result (Unit {0}) NoMemory) (old mid new : List Instr)
      → Emitted {A = Unit {0}} tt (front_in w place kind on parts) old mid
      → size ≡ (in_order w.program place (statements_of parts)).size → inner ≡ with_breaks site (length mid + size)
      → Emits result (at_site inner (in_order w.program place (statements_of parts))) mid new
      → Emits result (at_site site (switches_in w place kind on parts)) old new
  switch_done site inner size result old mid new begun size_is inner_is done =
      switch_emitted w.program place kind (temporary w) parts (value_of w on parts) site result old mid new begun
      (subst (λ (s : Site). Emits result (at_site s (in_order w.program place (statements_of parts))) mid new)
      (inner_is ∙ ap (λ (n : ℕ). with_breaks site (length mid + n)) size_is) done)

-- a switch is this, with its control source settled
pub settled_switch : (w : Inside) (spot : Spot) (kind : Kind) (on : TExpr) (parts : List PartLowered)
    → switch w spot kind on parts
    ≡ settled_unless (is_left (out_of_switch (in_order w.program spot.place (statements_of parts)).jumps)) w.program (switches_in w spot.place kind on parts)
unfolding switch
settled_switch w spot kind on parts = refl

-- and the same of a switch in the tree
pub lowered_switch : (w : Inside) (spot : Spot) (kind : Kind) (on : TExpr) (parts : List TPart)
    → lowered w (stmt.Switch spot kind on parts)
    ≡ settled_unless (is_left (out_of_switch (in_order w.program spot.place (statements_of (map (lowered_part w) parts))).jumps)) w.program
    (switches_in w spot.place kind on (map (lowered_part w) parts))
lowered_switch w spot kind on parts =
    done_Switch PartLowered Stretch part_step (lower_step w) spot kind on parts ∙ settled_switch w spot kind on (map (lowered_part w) parts)
