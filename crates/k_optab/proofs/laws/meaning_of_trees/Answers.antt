use Rattle.k_optab.proofs.Choices.{choices_are_bounded, regions_are_bounded}
use Rattle.k_optab.proofs.Trees.{trees_have_bounded_paths}
use Rattle.k_optab.proofs.laws.meaning_of_trees.Goals as goal

pub returns-clause-instances : goal.returns-clause-instances
returns-clause-instances c = trees_have_bounded_paths

pub returns-clause-choices : goal.returns-clause-choices
returns-clause-choices c = choices_are_bounded

pub returns-clause-regions : goal.returns-clause-regions
returns-clause-regions c = regions_are_bounded
