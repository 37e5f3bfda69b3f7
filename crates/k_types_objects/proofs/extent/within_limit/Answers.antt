use Rattle.std.proofs.Common.{◌≡◌, Some, None, ap, sym, ◌∙◌, arith}
use Rattle.k_types_meaning.specs.Dimensions.{all_sizes}
use Rattle.k_types_objects.specs.Products.{counted, starts}
use Rattle.k_types_objects.specs.KeptSizes.{sizes_in}
use Rattle.k_types_objects.proofs.Extents.{none_within, too_many, few, put_first}
use Rattle.k_types_objects.proofs.extent.within_limit.Goals as goal

pub returns-in_default : goal.returns-in_default
returns-in_default c =
    let sizes = sizes_in c.args.sizes.now in
    let all = c.count.ensures ∙ ap (λ n. counted n sizes) c.start.ensures.value in
    let none : None ≡ counted (starts c.args.first) sizes = sym c.in_default.is ∙ all in
    none_within c.args.first sizes none

pub returns-then-count-gt-LIMIT : goal.returns-then-count-gt-LIMIT
returns-then-count-gt-LIMIT c =
    let sizes = sizes_in c.args.sizes.now in
    let all = c.count.ensures ∙ ap (λ n. counted n sizes) c.start.ensures.value in
    let some : Some c.in-Some.count ≡ counted (starts c.args.first) sizes = sym c.in-Some.is ∙ all in
    too_many c.args.first c.in-Some.count sizes some (omega (arith, c.if-count-gt-LIMIT.true))

pub returns : goal.returns
returns c =
    let sizes = sizes_in c.args.sizes.now in
    let all = c.count.ensures ∙ ap (λ n. counted n sizes) c.start.ensures.value in
    let some : Some c.in-Some.count ≡ counted (starts c.args.first) sizes = sym c.in-Some.is ∙ all in
    few c.args.first c.in-Some.count sizes c.put_sizes.new.dims some (omega (arith, c.if-count-gt-LIMIT.false))
    (put_first c.args.first (all_sizes sizes) c.in_ok-dims.dims c.put_sizes.new.dims c.in_ok-dims.ensures c.in_ok-put_sizes.ensures)
