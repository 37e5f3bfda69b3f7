use Rattle.std.proofs.Common.{◌≡◌, length, reverse, arith}
use Rattle.std.proofs.lemmas.List.{length-reverse}
use Rattle.k_hcpa_summaries.proofs.Opens.{open_wider, open_first, goes_further, number_below, read_back}
use Rattle.k_hcpa_summaries.proofs.Steps.{on_more, on_read, refused}
use Rattle.k_hcpa_summaries.proofs.closing.intern_all.Goals as goal

pub returns-in-Err-clause-closes : goal.returns-in-Err-clause-closes
returns-in-Err-clause-closes c =
    let now = c.loop-level.invariant in
    let l = c.in-Some.level.now in
    let outer = c.in-Some.outer.now in
    let path = c.in-Some-split_last.split.0.now in
    let others = c.in-Some-split_last.split.1.now in
    let all_paths = reverse c.args.paths.now in
    let all_levels = reverse c.args.levels.now in
    let read_levels = read_back c.loop-level.levels.now outer l c.in-Some.ensures.cases.0 in
    let read_paths = read_back c.loop-level.paths.now others path c.in-Some-split_last.ensures.cases.0 in
    let same : length (reverse others) ≡ length (reverse outer) = omega (arith, length-reverse others, length-reverse outer, c.in-Some.ensures.cases.1, c.in-Some-split_last.ensures.cases.1, now.paths) in
    refused c.args.work path all_paths (reverse others) l all_levels (reverse outer) c.args.dict.now c.loop-level.dict c.intern_level.new.dict c.loop-level.last c.in-Err.fault
    (on_read c.args.work path all_paths (reverse others) (reverse c.loop-level.paths.now) l all_levels (reverse outer) (reverse c.loop-level.levels.now) c.args.dict.now c.loop-level.dict c.loop-level.last read_paths read_levels now.on)
    same c.in-Err.ensures.answer

pub loop-level-preserved : goal.loop-level-preserved
loop-level-preserved c =
    let now = c.loop-level.invariant in
    let l = c.in-Some.level.now in
    let outer = c.in-Some.outer.now in
    let path = c.in-Some-split_last.split.0.now in
    let others = c.in-Some-split_last.split.1.now in
    let all_paths = reverse c.args.paths.now in
    let all_levels = reverse c.args.levels.now in
    let dict = c.loop-level.dict in
    let new = c.intern_level.new.dict in
    let read_levels = read_back c.loop-level.levels.now outer l c.in-Some.ensures.cases.0 in
    let read_paths = read_back c.loop-level.paths.now others path c.in-Some-split_last.ensures.cases.0 in
    let are = open_first (length dict) l (reverse outer) (reverse c.loop-level.levels.now) read_levels now.runs in
    record {
      on = on_more c.args.work path all_paths (reverse others) l all_levels (reverse outer) c.args.dict.now dict new c.loop-level.last c.in-Ok.number
          (on_read c.args.work path all_paths (reverse others) (reverse c.loop-level.paths.now) l all_levels (reverse outer) (reverse c.loop-level.levels.now) c.args.dict.now dict c.loop-level.last read_paths read_levels now.on)
          c.in-Ok.ensures.interned c.in-Ok.ensures.answer;
      runs = open_wider (length dict) (length new) (reverse outer) c.in-Ok.ensures.kept.longer are.2;
      below = number_below dict new _ c.in-Ok.number c.in-Ok.ensures.answer;
      kept = goes_further c.args.dict.now dict new now.kept c.in-Ok.ensures.kept;
      paths = omega (arith, c.in-Some.ensures.cases.1, c.in-Some-split_last.ensures.cases.1, now.paths);
    }

pub intern_level-requires-clause-level : goal.intern_level-requires-clause-level
intern_level-requires-clause-level c =
    let now = c.loop-level.invariant in
    let l = c.in-Some.level.now in
    let outer = c.in-Some.outer.now in
    let are = open_first (length c.loop-level.dict) l (reverse outer) (reverse c.loop-level.levels.now) (read_back c.loop-level.levels.now outer l c.in-Some.ensures.cases.0) now.runs in
    (are.0, are.1, tt)
