-- Believed with a public law.
-- A program as the stages before lowering give it.
use Rattle.std.specs.Prelude.{◌≡◌, ◌≤◌, List, [], map}
use Rattle.k_tree.specs.declared.tokens.Token.{Token}
use Rattle.k_tree.specs.declared.tree.unit.Unit as source
use Rattle.k_tree.specs.Count.{unit_count}
use Rattle.k_tree.specs.Literals.{StringsFit}
use Rattle.k_tree.specs.Places.{Placed}
use Rattle.k_tree.specs.Ranked.{RankedUnit}
use Rattle.k_types_meaning.specs.Bare.{IsTyped}
use Rattle.k_types_meaning.specs.Units.{faults}
use Rattle.k_evaluation.specs.Laws.{AreAtMost}
use Rattle.k_evaluation.specs.States.{Program}

-- A SOURCE IS ACCEPTED as this program: its tokens have strings within the limit, its tree is one that the grammar gives, stands over the tokens and
-- has no more nodes than it may, it has no fault in names and types, this is its typed tree, and each class of operations takes at most 10,000
pub record IsAccepted (unit : source.Unit) (program : Program) : Type 0 where
  pub tokens : List Token
  pub strings : StringsFit (map (λ (t : Token). t.what) tokens)
  pub ranked : RankedUnit unit
  pub placed : Placed unit tokens
  pub few : unit_count unit ≤ 262144
  pub faultless : faults unit ≡ []
  pub typed : IsTyped unit program.unit
  pub latencies : AreAtMost 10000 program.latencies
