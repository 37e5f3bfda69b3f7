-- What typing says of a statement: of its loops, of its expression statements, and of the variables that it declares.
use Rattle.std.proofs.Common.{◌≡◌, ℕ, ◌≤◌, List, [], ◌∷◌, ◌++◌, map, Option, Some, None, sym, subst}
use Rattle.k_num.specs.declared.numbers.Kind.{Kind}
use Rattle.k_types_meaning.specs.declared.tree.expression.TExpr.{TExpr}
use Rattle.k_types_meaning.specs.declared.tree.statement.TPart.{TPart, fold-TPart}
use Rattle.k_types_meaning.specs.declared.tree.statement.TStmt.{TStmt}
use Rattle.k_marks_meaning.specs.declared.uses.Use.{Use}
use Rattle.k_marks_meaning.specs.Uses.{option_uses}
use Rattle.k_marks_meaning.specs.Contents.{Inside, inside, part_inside, row}
use Rattle.k_marks_laws.specs.Counted.{IsNotDeclared, EachNamed}
use Rattle.k_marks_laws.specs.Reduced.{joined, expressions_in, expressions_step, part_expressions}
use Rattle.k_marks_laws.specs.Turns.{TLoop}
use Rattle.k_marks_laws.specs.Standing.{Standing, StandingPart, loops_in, loops_of_all, loops_of_parts, standing, standing_part}
use Rattle.k_marks_laws.proofs.Declared.{DeclaresFrom, from_both, from_lower}
use Rattle.k_marks_laws.proofs.Good.{GoodOption, AllGood}

-- this, where a loop has a step
abbrev pub WithStep : Option TExpr → Type 0 → Type 0
WithStep None X = Unit {0}
WithStep (Some e) X = X

pub with_step : (step : Option TExpr) (X : Type 0) → X → WithStep step X
with_step None X h = tt
with_step (Some e) X h = h

-- what typing says of a loop, where variables are of these kinds. Only a loop with a step may be counted, and only there is it asked what the body declares:
-- the test of a `do` stands behind its body
pub record GoodLoop (K : ℕ → Kind → Type 0) (l : TLoop) : Type 0 where
  pub test : GoodOption K l.test
  pub step : GoodOption K l.step
  pub scopes : WithStep l.step (EachNamed (λ n. IsNotDeclared n (inside l.body).uses) (option_uses l.test))
  pub actions : AllGood K (expressions_in l.body)

abbrev pub AllLoops : (ℕ → Kind → Type 0) → List TLoop → Type 0
AllLoops K [] = Unit {0}
AllLoops K (l ∷ ls) = GoodLoop K l × AllLoops K ls

pub loops_both : (K : ℕ → Kind → Type 0) (xs ys : List TLoop) → AllLoops K xs → AllLoops K ys → AllLoops K (xs ++ ys)
loops_both K [] ys h k = k
loops_both K (x ∷ xs) ys h k = (h.0, loops_both K xs ys h.1 k)

pub good_both : (K : ℕ → Kind → Type 0) (xs ys : List TExpr) → AllGood K xs → AllGood K ys → AllGood K (xs ++ ys)
good_both K [] ys h k = k
good_both K (x ∷ xs) ys h k = (h.0, good_both K xs ys h.1 k)

-- the expression statements in a part of a switch
abbrev pub part_expressions_in : TPart → List TExpr
part_expressions_in = fold-TPart (List TExpr) (List TExpr) part_expressions expressions_step

-- loops, expression statements and uses of which typing says that
pub record SoundOf (K : ℕ → Kind → Type 0) (low : ℕ) (ls : List TLoop) (es : List TExpr) (us : List Use) : Type 0 where
  pub loops : AllLoops K ls
  pub actions : AllGood K es
  pub declared : DeclaresFrom low us

-- those of a statement
abbrev pub Sound : (ℕ → Kind → Type 0) → ℕ → TStmt → Type 0
Sound K low t = SoundOf K low (loops_in t) (expressions_in t) (inside t).uses

-- those of statements
abbrev pub SoundAll : (ℕ → Kind → Type 0) → ℕ → List TStmt → Type 0
SoundAll K low ts = SoundOf K low (loops_of_all (map standing ts)) (joined (map expressions_in ts)) (row (map inside ts)).uses

-- those of a part of a switch
abbrev pub SoundPart : (ℕ → Kind → Type 0) → ℕ → TPart → Type 0
SoundPart K low t = SoundOf K low (standing_part t).loops (part_expressions_in t) (part_inside t).uses

-- those of parts
abbrev pub SoundParts : (ℕ → Kind → Type 0) → ℕ → List TPart → Type 0
SoundParts K low ts = SoundOf K low (loops_of_parts (map standing_part ts)) (joined (map part_expressions_in ts)) (row (map part_inside ts)).uses

module _ (K : ℕ → Kind → Type 0) (low : ℕ) where
  pub nothing_sound : SoundOf K low [] [] []
  nothing_sound = record { loops = tt; actions = tt; declared = tt }

  pub sound_then : (fs gs : List TLoop) (es ds : List TExpr) (us ws : List Use) → SoundOf K low fs es us → SoundOf K low gs ds ws → SoundOf K low (fs ++ gs) (es ++ ds) (us ++ ws)
  sound_then fs gs es ds us ws a b = record {
    loops = loops_both K fs gs a.loops b.loops;
    actions = good_both K es ds a.actions b.actions;
    declared = from_both low us ws a.declared b.declared;
  }

  -- other uses before those
  pub sound_behind : (fs : List TLoop) (es : List TExpr) (us ws : List Use) → DeclaresFrom low us → SoundOf K low fs es ws → SoundOf K low fs es (us ++ ws)
  sound_behind fs es us ws h a = record { loops = a.loops; actions = a.actions; declared = from_both low us ws h a.declared }

  -- by what is found in a statement
  pub sound_by : (t : TStmt) (a : Standing) (es : List TExpr) (i : Inside) → standing t ≡ a → expressions_in t ≡ es → inside t ≡ i → SoundOf K low a.loops es i.uses → Sound K low t
  sound_by t a es i first second third h = record {
    loops = subst (λ (x : Standing). AllLoops K x.loops) (sym first) h.loops;
    actions = subst (AllGood K) (sym second) h.actions;
    declared = subst (λ (x : Inside). DeclaresFrom low x.uses) (sym third) h.declared;
  }

  -- by what is found in a part
  pub part_sound_by : (t : TPart) (a : StandingPart) (es : List TExpr) (i : Inside) → standing_part t ≡ a → part_expressions_in t ≡ es → part_inside t ≡ i → SoundOf K low a.loops es i.uses
      → SoundPart K low t
  part_sound_by t a es i first second third h = record {
    loops = subst (λ (x : StandingPart). AllLoops K x.loops) (sym first) h.loops;
    actions = subst (AllGood K) (sym second) h.actions;
    declared = subst (λ (x : Inside). DeclaresFrom low x.uses) (sym third) h.declared;
  }

pub sound_lower : (K : ℕ → Kind → Type 0) (low high : ℕ) (fs : List TLoop) (es : List TExpr) (us : List Use) → low ≤ high → SoundOf K high fs es us → SoundOf K low fs es us
sound_lower K low high fs es us less a = record { loops = a.loops; actions = a.actions; declared = from_lower low high us less a.declared }
