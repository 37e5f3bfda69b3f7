use Rattle.std.proofs.Common.{◌+◌, List, length, subst, arith}
use Rattle.k_dict_entries.specs.Entries.{AreRuns}
use Rattle.k_dict_entries.specs.declared.entry.Run.{Run}
use Rattle.k_selfpar.specs.Counts.{weighed}
use Rattle.k_selfpar.specs.Sums.{path_at, work_at}
use Rattle.k_selfpar.proofs.Adding.{path_is, run_step, work_is}
use Rattle.k_selfpar.proofs.sums.sums_of_children.Goals as goal

pub overflow_mul-children : goal.overflow_mul-children
overflow_mul-children c =
    let paths = run_step (path_at c.args.dict.now) c.loop-run.children.paths (weighed (path_at c.args.dict.now) c.args.runs.now) c.loop-run.rest.now c.in-Some.later.now
    c.in-Some.run'.now c.entry-child.result.now.path c.in-Some.ensures.cases.0
    (path_is c.args.dict.now c.requires.interned.earlier c.in-Some.run'.now.entry c.entry-child.result.now c.entry-child.ensures.value) c.loop-run.invariant.paths in
    omega (arith, paths, c.requires.paths)

pub overflow_add-children : goal.overflow_add-children
overflow_add-children c =
    let paths = run_step (path_at c.args.dict.now) c.loop-run.children.paths (weighed (path_at c.args.dict.now) c.args.runs.now) c.loop-run.rest.now c.in-Some.later.now
    c.in-Some.run'.now c.entry-child.result.now.path c.in-Some.ensures.cases.0
    (path_is c.args.dict.now c.requires.interned.earlier c.in-Some.run'.now.entry c.entry-child.result.now c.entry-child.ensures.value) c.loop-run.invariant.paths in
    omega (arith, paths, c.requires.paths)

pub overflow_mul-children-in-Some : goal.overflow_mul-children-in-Some
overflow_mul-children-in-Some c =
    let works = run_step (work_at c.args.dict.now) c.loop-run.children.works (weighed (work_at c.args.dict.now) c.args.runs.now) c.loop-run.rest.now c.in-Some.later.now
    c.in-Some.run'.now c.entry-child.result.now.work c.in-Some.ensures.cases.0
    (work_is c.args.dict.now c.requires.interned.earlier c.in-Some.run'.now.entry c.entry-child.result.now c.entry-child.ensures.value) c.loop-run.invariant.works in
    omega (arith, works, c.requires.works)

pub overflow_add-children-in-Some : goal.overflow_add-children-in-Some
overflow_add-children-in-Some c =
    let works = run_step (work_at c.args.dict.now) c.loop-run.children.works (weighed (work_at c.args.dict.now) c.args.runs.now) c.loop-run.rest.now c.in-Some.later.now
    c.in-Some.run'.now c.entry-child.result.now.work c.in-Some.ensures.cases.0
    (work_is c.args.dict.now c.requires.interned.earlier c.in-Some.run'.now.entry c.entry-child.result.now c.entry-child.ensures.value) c.loop-run.invariant.works in
    omega (arith, works, c.requires.works)

pub loop-run-preserved : goal.loop-run-preserved
loop-run-preserved c =
    let P : List Run → Type 0 = λ r. AreRuns c.loop-run.invariant.runs.0 (length c.args.dict.now) r in
    let runs = subst P c.in-Some.ensures.cases.0 c.loop-run.invariant.runs.1 in
    record {
      paths = run_step (path_at c.args.dict.now) c.loop-run.children.paths (weighed (path_at c.args.dict.now) c.args.runs.now) c.loop-run.rest.now c.in-Some.later.now
          c.in-Some.run'.now c.entry-child.result.now.path c.in-Some.ensures.cases.0
          (path_is c.args.dict.now c.requires.interned.earlier c.in-Some.run'.now.entry c.entry-child.result.now c.entry-child.ensures.value) c.loop-run.invariant.paths;
      works = run_step (work_at c.args.dict.now) c.loop-run.children.works (weighed (work_at c.args.dict.now) c.args.runs.now) c.loop-run.rest.now c.in-Some.later.now
          c.in-Some.run'.now c.entry-child.result.now.work c.in-Some.ensures.cases.0
          (work_is c.args.dict.now c.requires.interned.earlier c.in-Some.run'.now.entry c.entry-child.result.now c.entry-child.ensures.value) c.loop-run.invariant.works;
      runs = (c.in-Some.run'.now.entry + 1, runs.3);
    }
