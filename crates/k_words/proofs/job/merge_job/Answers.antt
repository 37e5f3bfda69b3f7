use Rattle.std.proofs.Common.{ap, string_bytes}
use Rattle.k_words.specs.Settings.{seen_words}
use Rattle.k_words.proofs.FilesToMerge.{few_files, few_words}
use Rattle.k_words.proofs.job.merge_job.Goals as goal

pub parts_of-requires : goal.parts_of-requires
parts_of-requires c = few_words c.in-Some.files.now
    (few_files (seen_words c.args.arguments.now) (string_bytes c.in-Some.save.now) (seen_words c.in-Some.files.now) (ap seen_words c.in-Some.ensures.cases.0) c.in_default.ensures)
