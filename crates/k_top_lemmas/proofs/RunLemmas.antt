-- A run of an accepted program meets what its report and its listing ask of it.
use Rattle.std.proofs.Common.{ℕ, zero, suc, ℤ, ◌≡◌, ◌+◌, ◌*◌, ◌^◌, ◌<◌, ◌≤◌, nat_lt, Bool, true, false, cond, refl, arith, sym, subst, List, [], ◌∷◌, length, filter, mul-le-mul, FitsSigned, w32, Option, Some, None}
use Rattle.std.specs.List.{All, AllByRecursion}
use Rattle.std.proofs.lemmas.List.{length-append}
use Rattle.std.proofs.lemmas.List.Elements.{All-from_recursion, recursion_from_All}
use Rattle.k_optab.specs.declared.closed.Closed.{Closed}
use Rattle.k_optab.specs.declared.event.Event.{Event}
use Rattle.k_optab.specs.declared.event.Event.TheVariants.{Op, Enter, Exit}
use Rattle.k_optab.specs.declared.node.Node.{Node}
use Rattle.k_optab.specs.Entered.{EnterBelow, IsOfMain}
use Rattle.k_optab.specs.Events.{Operation, SourcesAreEarlier, made_before, operations, total_latency}
use Rattle.k_optab.specs.InstanceLaws.{IsCounted}
use Rattle.k_optab.specs.Instances.{closed_from, instance_of, tracked, until_exit}
use Rattle.k_optab.specs.Tree.{EachWith, IsNodeOf, IsTree}
use Rattle.k_optab.proofs.Counting.{intervals_count_operations}
use Rattle.k_optab.proofs.Nesting.{intervals_are_ordered}
use Rattle.k_ending.specs.declared.ending.End.TheVariants.{Returned}
use Rattle.k_tree.specs.declared.tree.unit.Unit as source
use Rattle.k_tree.specs.Count.{unit_count}
use Rattle.k_marks_meaning.specs.Marking.{marks_of}
use Rattle.k_marks_meaning.specs.declared.Marks.{Marks}
use Rattle.k_evaluation.specs.Laws.{IsReturned}
use Rattle.k_evaluation.specs.States as evaluation
use Rattle.k_evaluation.proofs.Runs.{bounded_time, earlier_sources, kept_budget}
use Rattle.k_graph.specs.Listings.{IsListed, IsListing}
use Rattle.k_graph.specs.declared.tree.Instance.{Instance}
use Rattle.k_dict_saved.specs.Files.{AreRegions}
use Rattle.k_report_profile.specs.RunReport.{IsWhole}
use Rattle.k_regions.specs.Laws.{entries}
use Rattle.k_regions.specs.Regions.{regions_of}
use Rattle.k_regions.proofs.Entries.{enter_few}
use Rattle.k_regions.proofs.Few.{are_few}
use Rattle.k_regions.proofs.Whole.{are_of_main, enter_theirs, return_ints}
use Rattle.k_lower_accepted.specs.Accepted.{IsAccepted}
use Rattle.k_report.specs.Graph.{IsWithin}
use Rattle.k_top_lemmas.specs.declared.running.Ready.{Ready}
use Rattle.k_top_answers.specs.Answers.{ran_of}
use Rattle.k_top_lemmas.specs.Parts.{IsFit, running_of}
use Rattle.k_top_answers.specs.Steps.{Running, run_of}

-- a run's program, as runs have it
abbrev pub program_of : Running → evaluation.Program
program_of r = record { unit = r.typed; marks = marks_of r.typed; latencies = r.latencies }

-- a run of which the laws of runs speak: that of an accepted source, with latencies of at most 10,000, in which at most 1,000,000,000 operations
-- are made
pub record IsSound (r : Running) : Type 0 where
  pub unit : source.Unit
  pub accepted : IsAccepted unit (program_of r)
  pub regions : AreRegions (regions_of r.typed)
  pub steps : r.steps ≤ 1000000000

-- a program that is ready to run has such a run
pub sound : (r : Ready) (depth : ℕ) → IsFit r depth → IsSound (running_of r)
sound r depth fit = record {
  unit = fit.program.unit;
  accepted = subst (λ (marks : Marks). IsAccepted fit.program.unit (record { unit = r.program.typed; marks = marks; latencies = r.program.latencies })) fit.program.marks
      fit.program.accepted;
  regions = fit.program.regions;
  steps = fit.steps;
}

-- numbers of operations, and their time
time_bounded : (time steps : ℕ) → time ≤ steps * 10000 → steps ≤ 1000000000 → time ≤ 17592186044416
time_bounded time steps h few = omega (arith, h, few)

time_short : (time : ℕ) → time ≤ 17592186044416 → time < 2 ^ 62
time_short time h = omega (arith, h)

counted : (count steps : ℕ) → count ≤ steps → steps ≤ 1000000000 → count ≤ 1000000000
counted count steps h few = omega (arith, h, few)

module _ (r : Running) (is : IsSound r) where
  pub run_sources : SourcesAreEarlier (operations (run_of r).events)
  unfolding run_of
  run_sources = earlier_sources (program_of r) r.input r.steps

  run_counted : length (operations (run_of r).events) ≤ r.steps
  unfolding run_of
  run_counted = kept_budget (program_of r) r.input r.steps

  run_time : total_latency (operations (run_of r).events) ≤ r.steps * 10000
  unfolding run_of
  run_time = bounded_time (program_of r) r.input r.steps 10000 is.accepted.latencies

  pub run_short : total_latency (operations (run_of r).events) < 2 ^ 62
  run_short =
      let time : ℕ = total_latency (operations (run_of r).events) in
      time_short time (time_bounded time r.steps run_time is.steps)

  run_below : EnterBelow (length (regions_of r.typed)) (run_of r).events
  unfolding run_of
  run_below = enter_theirs is.unit (program_of r) r.input r.steps is.accepted.typed is.accepted.faultless

  run_of_main : IsReturned (run_of r).end → IsOfMain (regions_of r.typed) (run_of r).events
  unfolding run_of
  run_of_main returned = are_of_main is.unit (program_of r) r.input r.steps is.accepted.typed is.accepted.faultless returned

  run_entries : entries (run_of r).events ≤ length (regions_of r.typed) * (r.steps + 1)
  unfolding run_of
  run_entries = enter_few is.unit (program_of r) r.input r.steps is.accepted.typed is.accepted.faultless

  pub run_gives_int : (exit : ℤ) → (run_of r).end ≡ Returned exit → FitsSigned w32 exit
  unfolding run_of
  run_gives_int exit returned = return_ints is.unit (program_of r) r.input r.steps exit is.accepted.typed is.accepted.faultless returned

  -- A REPORT can be made of it, where main returned
  pub run_whole : (exit : ℤ) (depth : ℕ) → (run_of r).end ≡ Returned exit → FitsSigned w32 exit → 1 ≤ depth → depth ≤ 32 → IsWhole (ran_of r exit depth)
  run_whole exit depth returned fits some tracked =
      record {
        exit = fits;
        sources = run_sources;
        few = counted (length (operations (run_of r).events)) r.steps run_counted is.steps;
        work = time_bounded (total_latency (operations (run_of r).events)) r.steps run_time is.steps;
        regions = is.regions;
        entered = run_below;
        main = run_of_main (subst IsReturned (sym returned) tt);
        some = some;
        tracked = tracked;
      }

-- AN INSTANCE of a listing has an interval of the operations that were made
made_at_most : (place : ℕ) (events : List Event) → made_before place events ≤ length (operations events)
made_at_most zero events = omega arith
made_at_most (suc place) [] = omega arith
made_at_most (suc place) (Op class latency sources at ∷ events) = let rest : made_before place events ≤ length (operations events) = made_at_most place events in omega (arith, rest)
made_at_most (suc place) (Enter region ∷ events) = made_at_most place events
made_at_most (suc place) (Exit ∷ events) = made_at_most place events

within : (events : List Event) (all : List Closed) (i : Closed) (n : Instance) → i.start ≤ i.end → IsCounted events i → IsListed (operations events) all i n
    → IsWithin (length (operations events)) n
within events all i n ordered count listed =
    let start : n.start ≡ i.start = listed.start in
    let end : n.end ≡ i.end = listed.end in
    let counted : made_before i.exit events ≡ i.end = count.end in
    let most : made_before i.exit events ≤ length (operations events) = made_at_most i.exit events in
    record { in_order = omega (arith, start, end, ordered); made_by_then = omega (arith, end, counted, most) }

each_within : (events : List Event) (all list : List Closed) (tree : List Instance) → AllByRecursion (λ i. i.start ≤ i.end) list → AllByRecursion (IsCounted events) list
    → EachWith (IsListed (operations events) all) list tree → AllByRecursion (IsWithin (length (operations events))) tree
each_within events all [] [] ordered count listed = tt
each_within events all [] (n ∷ tree) ordered count listed = absurd listed
each_within events all (i ∷ list) [] ordered count listed = absurd listed
each_within events all (i ∷ list) (n ∷ tree) ordered count listed =
    (within events all i n ordered.0 count.0 listed.0, each_within events all list tree ordered.1 count.1 listed.1)

pub listing_within : (depth : ℕ) (events : List Event) (tree : List Instance) → IsListing depth events tree → All (IsWithin (length (operations events))) tree
listing_within depth events tree listed =
    All-from_recursion (IsWithin (length (operations events))) tree
    (each_within events (tracked depth events) (tracked depth events) tree
    (recursion_from_All (λ i. i.start ≤ i.end) (tracked depth events) (intervals_are_ordered depth events))
    (recursion_from_All (IsCounted events) (tracked depth events) (intervals_count_operations depth events)) listed)

-- THE INSTANCES of a run are no more than its entries
instance_few : (region depth enter start : ℕ) (found : Option (List Event)) → length (instance_of region depth enter start found) ≤ 1
instance_few region depth enter start None = omega arith
instance_few region depth enter start (Some inside) = omega arith

closed_few : (events : List Event) (before made depth : ℕ) → length (closed_from events before made depth) ≤ entries events
closed_few [] before made depth = omega arith
closed_few (Op class latency sources place ∷ events) before made depth = closed_few events (before + 1) (made + 1) depth
closed_few (Enter region ∷ events) before made depth =
    let one = instance_few region depth before made (until_exit events 0) in
    let rest = closed_few events (before + 1) made (depth + 1) in
    let both = length-append (instance_of region depth before made (until_exit events 0)) (closed_from events (before + 1) made (depth + 1)) in
    omega (arith, one, rest, both)
closed_few (Exit ∷ events) before made depth = closed_few events (before + 1) made _

kept_few : (b : Bool) (i : Closed) (kept list : List Closed) → length kept ≤ length list → length (cond b (i ∷ kept) kept) ≤ suc (length list)
kept_few true i kept list few = omega (arith, few)
kept_few false i kept list few = omega (arith, few)

filter_few : (passes : Closed → Bool) (list : List Closed) → length (filter passes list) ≤ length list
filter_few passes [] = omega arith
filter_few passes (i ∷ list) = kept_few (passes i) i (filter passes list) list (filter_few passes list)

each_length : (ops : List Operation) (list : List Closed) (nodes : List Node) → EachWith (IsNodeOf ops) list nodes → length nodes ≡ length list
each_length ops [] [] each = refl
each_length ops [] (n ∷ nodes) each = absurd each
each_length ops (i ∷ list) [] each = absurd each
each_length ops (i ∷ list) (n ∷ nodes) each = let rest = each_length ops list nodes each.1 in omega (arith, rest)

nodes_few : (depth : ℕ) (events : List Event) (nodes : List Node) → IsTree depth events nodes → length nodes ≤ entries events
nodes_few depth events nodes is =
    let same = each_length (operations events) (tracked depth events) nodes is in
    let some = filter_few (λ i. nat_lt i.depth depth) (closed_from events 0 0 0) in
    let all = closed_few events 0 0 0 in
    omega (arith, same, some, all)

-- a product of two numbers within limits
product_within : (count steps : ℕ) → count ≤ 524288 → steps ≤ 1000000000 → count * (steps + 1) ≤ 576460752303423488
product_within count steps few limited =
    let most : count * (steps + 1) ≤ 524288 * 1000000001 = mul-le-mul few (let more : steps + 1 ≤ 1000000001 = omega (arith, limited) in more) in
    omega (arith, most)

-- so they are few
pub run_few : (r : Running) (depth : ℕ) (nodes : List Node) → IsSound r → IsTree depth (run_of r).events nodes → length nodes ≤ 576460752303423488
run_few r depth nodes is listed =
    let count : ℕ = length (regions_of r.typed) in
    let twice : count ≤ 2 * unit_count is.unit = are_few is.unit r.typed is.accepted.typed in
    let tree_few : unit_count is.unit ≤ 262144 = is.accepted.few in
    let made : length nodes ≤ entries (run_of r).events = nodes_few depth (run_of r).events nodes listed in
    let entered : entries (run_of r).events ≤ count * (r.steps + 1) = run_entries r is in
    let bounded : count * (r.steps + 1) ≤ 576460752303423488 = product_within count r.steps (omega (arith, twice, tree_few)) is.steps in
    omega (arith, made, entered, bounded)
