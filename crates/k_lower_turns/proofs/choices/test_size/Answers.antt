use Rattle.std.proofs.Common.{ap}
use Rattle.std.specs.Option.{option_copied}
use Rattle.k_lower_expressions.specs.Arounds.{inside_of}
use Rattle.k_lower_turns.proofs.Sizes.{test_has}
use Rattle.k_lower_turns.proofs.choices.test_size.Goals as goal

pub returns-in_ok-extent_of-in-Some : goal.returns-in_ok-extent_of-in-Some
returns-in_ok-extent_of-in-Some c =
    test_has (inside_of c.args.around.now) (option_copied c.args.test) c.in-Some.e.now c.get.result.now c.in_ok-extent_of-in-Some.field-0 (ap option_copied c.in-Some.is) c.get.ensures c.in_ok-extent_of-in-Some.ensures
