use Rattle.std.proofs.Common.{◌<◌, length, arith, get_or, None}
use Rattle.std.specs.Option.{ForSome}
use Rattle.k_graph.specs.declared.level.Measured.{Measured}
use Rattle.k_graph.specs.declared.tree.Instance.{Instance}
use Rattle.k_graph.proofs.Outwards.{starts_around, starts_below, found, further, known_parent, parent_below, place_falls}
use Rattle.k_graph.proofs.parents.parent_of.Goals as goal

pub loop-outer-init : goal.loop-outer-init
loop-outer-init c = record {
  around = λ m there. starts_around c.args.list.now c.requires.nested c.args.index c.index_before-outer.result c.index_before-outer.ensures m there;
  below = starts_below c.args.index c.index_before-outer.result c.index_before-outer.ensures;
}

pub returns-then-enter-list : goal.returns-then-enter-list
returns-then-enter-list c = λ m there.
    found c.args.list.now c.requires.nested c.args.index c.in-Some.candidate _ _ m c.loop-outer.outer c.requires.there
    (c.loop-outer.invariant.below c.in-Some.candidate c.in-Some.is) c.in-Some.is (c.loop-outer.invariant.around m there) there c.if-enter-list.true

-- what a read past the end would give
abbrev blank : Measured
blank = record { closed = record { region = 0; depth = 0; enter = 0; exit = 0; start = 0; end = 0 }; work = 0; path = 0 }

abbrev no_instance : Instance
no_instance = record { region = 0; depth = 0; start = 0; end = 0; work = 0; path = 0; parent = None }

-- the parent of the candidate lies below it
its_parent_below : (c : goal.After-outer-in-Some-1) → ForSome (get_or c.args.tree.now c.in-Some.candidate no_instance).parent (λ r. r < c.in-Some.candidate)
its_parent_below c =
    let less : c.in-Some.candidate < c.args.index = c.loop-outer.invariant.below c.in-Some.candidate c.in-Some.is in
    let there : c.args.index < length c.args.list.now = c.requires.there in
    parent_below c.args.list.now c.requires.nested c.in-Some.candidate blank _ (omega arith)
    (known_parent c.args.list.now c.requires.nested c.args.tree.now c.in-Some.candidate blank _ c.requires.parents (omega arith) (omega (arith, c.requires.so_far)))

pub loop-outer-smaller : goal.loop-outer-smaller
loop-outer-smaller c = place_falls _ c.loop-outer.outer c.in-Some.candidate c.in-Some.is (its_parent_below c)

pub loop-outer-preserved : goal.loop-outer-preserved
loop-outer-preserved c =
    let less : c.in-Some.candidate < c.args.index = c.loop-outer.invariant.below c.in-Some.candidate c.in-Some.is in
    let there : c.args.index < length c.args.list.now = c.requires.there in
    record {
      around = λ m at.
          further c.args.list.now c.requires.nested c.args.index c.in-Some.candidate _ _ m c.loop-outer.outer c.requires.there less c.in-Some.is
          (c.loop-outer.invariant.around m at) at _ c.if-enter-list.false
          (known_parent c.args.list.now c.requires.nested c.args.tree.now c.in-Some.candidate _ _ c.requires.parents (omega arith) (omega (arith, c.requires.so_far)));
      below = λ q is. let low : q < c.in-Some.candidate = its_parent_below c q is in omega arith;
    }
