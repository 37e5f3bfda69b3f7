use Rattle.std.proofs.Common.{ℕ, ◌≡◌, ◌≤◌, List, length, Result, Err, inl, refl, sym, subst, rules, arith}
use Rattle.k_types_meaning.specs.declared.tree.unit.TUnit.{TUnit}
use Rattle.k_top_answers.specs.declared.failure.Failure.{Failure}
use Rattle.k_top_answers.specs.declared.failure.Failure.TheVariants as why
use Rattle.k_top_lemmas.specs.declared.program.Program.{Program}
use Rattle.k_top_answers.specs.Failures.{failure_of_lex, failure_of_parse, failure_of_types}
use Rattle.k_top_lemmas.specs.Parts.{AcceptsSource}
use Rattle.k_top_lemmas.proofs.RegionLemmas.{source_regions}
use Rattle.k_top_lemmas.proofs.SourceLemmas.{accepted, lex_fails, parse_fails, source_short, type_fails}
use Rattle.k_top_programs.proofs.program.accept.Goals as goal

pub returns-in_err-tokens-clause-source : goal.returns-in_err-tokens-clause-source
returns-in_err-tokens-clause-source c =
    let same : c.from_residual.result ≡ Err (failure_of_lex c.in_err-tokens.field-0.0) = first_of (search rules, grind arith, cc) in
    subst (λ (r : Result Program Failure). AcceptsSource r c.args.source.now) (sym same)
    (lex_fails c.args.source.now c.in_err-tokens.field-0.0 c.in_err-tokens.ensures.refused)

pub returns-in_err-unit-clause-source : goal.returns-in_err-unit-clause-source
returns-in_err-unit-clause-source c =
    let same : c.from_residual-in_err-unit.result ≡ Err (failure_of_parse c.in_err-unit.field-0.0) = first_of (search rules, grind arith, cc) in
    subst (λ (r : Result Program Failure). AcceptsSource r c.args.source.now) (sym same)
    (parse_fails c.args.source.now c.in_ok-tokens.tokens c.in_err-unit.field-0.0 c.in_ok-tokens.ensures.tokens c.in_err-unit.ensures.refused)

pub returns-in_err-typed-clause-source : goal.returns-in_err-typed-clause-source
returns-in_err-typed-clause-source c =
    let same : c.from_residual-in_err-typed.result ≡ Err (failure_of_types c.in_err-typed.field-0.0) = first_of (search rules, grind arith, cc) in
    subst (λ (r : Result Program Failure). AcceptsSource r c.args.source.now) (sym same)
    (type_fails c.args.source.now c.in_ok-tokens.tokens c.in_ok-unit.unit c.in_err-typed.field-0.0 c.in_ok-tokens.ensures.tokens c.in_ok-unit.ensures.tree
    c.in_err-typed.ensures.refused)

pub returns-in_err-marks-clause-source : goal.returns-in_err-marks-clause-source
returns-in_err-marks-clause-source c =
    let same : c.from_residual-in_err-marks.result ≡ Err why.NoMemory = first_of (search rules, grind arith, cc) in
    subst (λ (r : Result Program Failure). AcceptsSource r c.args.source.now) (sym same) (inl refl)

pub returns-in_err-kept-clause-source : goal.returns-in_err-kept-clause-source
returns-in_err-kept-clause-source c =
    let same : c.from_residual-in_err-kept.result ≡ Err why.NoMemory = first_of (search rules, grind arith, cc) in
    subst (λ (r : Result Program Failure). AcceptsSource r c.args.source.now) (sym same) (inl refl)

pub returns-clause-source : goal.returns-clause-source
returns-clause-source c =
    accepted (λ failure. ⊥) (λ (t : TUnit). t ≡ c.in_ok-typed.typed) c.args.source.now c.in_ok-tokens.tokens
    c.in_ok-unit.unit c.in_ok-typed.typed c.in_ok-tokens.ensures.tokens c.in_ok-unit.ensures.tree c.in_ok-typed.ensures.faultless c.in_ok-typed.ensures.typed refl

pub returns-clause-can_run : goal.returns-clause-can_run
returns-clause-can_run c = record {
  unit = c.in_ok-unit.unit;
  accepted = record {
    tokens = c.in_ok-tokens.tokens;
    strings = c.in_ok-tokens.ensures.strings;
    ranked = c.in_ok-unit.ensures.tree.0.ranked;
    placed = c.in_ok-unit.ensures.tree.0.placed;
    few = c.in_ok-unit.ensures.tree.1;
    faultless = c.in_ok-typed.ensures.faultless;
    typed = c.in_ok-typed.ensures.typed;
    latencies = c.requires;
  };
  regions = source_regions c.args.source.now c.in_ok-tokens.tokens c.in_ok-unit.unit c.in_ok-typed.typed c.in_ok-tokens.ensures.tokens
      c.in_ok-unit.ensures.tree c.in_ok-typed.ensures.faultless c.in_ok-typed.ensures.typed;
  marks = c.in_ok-marks.ensures;
  short = subst (λ (bytes : List ℕ). length bytes ≤ 1048576) (sym c.in_ok-kept.ensures) (source_short c.args.source.now c.in_ok-tokens.tokens c.in_ok-tokens.ensures.tokens);
}
