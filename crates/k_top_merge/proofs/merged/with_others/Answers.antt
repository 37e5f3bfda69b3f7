use Rattle.std.proofs.Common.{ℕ, List}
use Rattle.k_edge.specs.FilesWords.{FilesState}
use Rattle.k_top_lemmas.proofs.Merging.{later_once, others_end, others_fail, others_go_on, others_start}
use Rattle.k_top_merge.proofs.merged.with_others.Goals as goal

pub loop-part-init : goal.loop-part-init
loop-part-init g c = record {
  once = c.requires.once;
  merged = c.requires.merged;
  leads = others_start c.args.parts.now c.args.last.now.file c.args.sum (g.F.Files.seen c.args.files.now);
}

pub returns-in-Err : goal.returns-in-Err
returns-in-Err g c =
    let first : List ℕ = c.args.last.now.file in
    let old : FilesState = g.F.Files.seen c.args.files.now in
    let mid : FilesState = g.F.Files.seen c.loop-part.files in
    others_fail c.args.parts.now first c.args.sum old c.loop-part.rest.now c.loop-part.last.now.file c.loop-part.sum mid c.loop-part.invariant.leads c.in-Some.part.now
    c.in-Some.later.now c.in-Some.ensures.cases.0 c.loop-part.invariant.once (g.F.Files.seen c.load_next.new.files) c.in-Err.failure c.in-Err.ensures.loads

pub loop-part-preserved : goal.loop-part-preserved
loop-part-preserved g c =
    let first : List ℕ = c.args.last.now.file in
    let old : FilesState = g.F.Files.seen c.args.files.now in
    let mid : FilesState = g.F.Files.seen c.loop-part.files in
    record {
      once = later_once c.args.parts.now first c.args.sum old c.loop-part.rest.now c.loop-part.last.now.file c.loop-part.sum mid c.loop-part.invariant.leads c.in-Some.part.now
          c.in-Some.later.now c.in-Some.ensures.cases.0 c.loop-part.invariant.once;
      merged = c.in-Ok.ensures.merged;
      leads = others_go_on c.args.parts.now first c.args.sum old c.loop-part.rest.now c.loop-part.last.now.file c.loop-part.sum mid c.loop-part.invariant.leads c.in-Some.part.now
          c.in-Some.later.now c.in-Some.ensures.cases.0 c.loop-part.invariant.once c.in-Ok.sum (g.F.Files.seen c.load_next.new.files) c.in-Ok.ensures.loads;
    }

pub returns : goal.returns
returns g c =
    let first : List ℕ = c.args.last.now.file in
    let old : FilesState = g.F.Files.seen c.args.files.now in
    let mid : FilesState = g.F.Files.seen c.loop-part.files in
    others_end c.args.parts.now first c.args.sum old c.loop-part.rest.now c.loop-part.last.now.file c.loop-part.sum mid c.loop-part.invariant.leads c.in_default.ensures.cases
    c.as_str.result.now c.as_str.ensures c.finished.result c.finished.ensures
