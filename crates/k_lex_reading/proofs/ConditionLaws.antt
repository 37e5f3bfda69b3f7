-- What is told of conditions.
use Rattle.std.proofs.Common.{◌≡◌, ℕ, Bool, List, [], ◌∷◌, ◌++◌, Option, Some, None, Result, Ok, Err, ap, sym, subst, ◌∙◌, refl, map}
use Rattle.k_num.specs.declared.place.Place.{Place}
use Rattle.k_tree.specs.declared.tokens.Token.{Token}
use Rattle.k_lex_conditions.specs.Conditions.{IsDecided}
use Rattle.k_lex_expansion.specs.declared.macros.Macro.{Macro}
use Rattle.k_lex_lines.specs.declared.lines.Placed.{Placed}
use Rattle.k_lex_lines.specs.declared.lines.Fault.{Fault}
use Rattle.k_lex_lines.specs.declared.rules.Count.{Count}
use Rattle.k_lex_lines.specs.declared.rules.Rules.{Rules}
use Rattle.k_lex_lines.specs.Text.{Text, in_condition}
use Rattle.k_lex_lines.specs.Directives.{decision, of_directive, Evaluates}
use Rattle.k_lex_reading.specs.Texts.{WasRead}

-- nothing is there but so much made
abbrev pub made_so_far : ℕ → Count
made_so_far made = record { made = made; sizes = record { tokens = 0; bytes = 0 } }

-- tokens were read, and they are decided
pub decided_so : (rules : Rules) (macros : List Macro) (hash : Place) (made : ℕ) (ts : List Placed) (total : Count) (none out : List Token) (holds : Option Bool) → none ≡ []
    → WasRead macros rules.limits.made (in_condition hash) None ts (made_so_far made) none total out → IsDecided rules.names (map (λ (t : Token). t.what) out) holds
    → Evaluates rules macros hash made ts (decision hash total.made holds)
decided_so rules macros hash made ts total none out holds empty w d = record {
  read = Ok (w.us, total);
  text = w.text;
  decided = record {
    holds = holds;
    decided = subst (λ (x : List Token). IsDecided rules.names (map (λ (t : Token). t.what) x) holds) (w.added ∙ ap (λ (x : List Token). x ++ w.us) empty) d;
    is = refl;
  };
}

-- they are refused
pub refused_so : (rules : Rules) (macros : List Macro) (hash : Place) (made : ℕ) (ts : List Placed) (f : Fault)
    → Text macros rules.limits.made (in_condition hash) None (made_so_far made) ts (Err f) → Evaluates rules macros hash made ts (Err (of_directive hash f.what f.place))
refused_so rules macros hash made ts f text = record { read = Err f; text = text; decided = refl }
