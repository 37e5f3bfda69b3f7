use Rattle.k_sum_read.proofs.Whole.{finished, refused_head, refused_listing}
use Rattle.k_sum_read.proofs.reading.read_all.Goals as goal

pub returns-in-Err : goal.returns-in-Err
returns-in-Err c = refused_head c.args.text.now c.in-Err.halt c.in-Err.ensures

pub returns-in-Err-list_lines : goal.returns-in-Err-list_lines
returns-in-Err-list_lines c = refused_listing c.args.text.now c.in-Ok.counts c.in-Ok.list_text.now c.in-Ok.ensures c.in-Err-list_lines.halt c.in-Err-list_lines.ensures

pub returns-in-Ok-list_lines : goal.returns-in-Ok-list_lines
returns-in-Ok-list_lines c =
    finished c.args.text.now c.in-Ok.counts c.in-Ok.list_text.now c.in-Ok.ensures c.in-Ok-list_lines.listing c.in-Ok-list_lines.roots_text.now c.in-Ok-list_lines.ensures c.finish.result c.finish.ensures
