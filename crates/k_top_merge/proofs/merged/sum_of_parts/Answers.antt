use Rattle.std.proofs.Common.{◌≡◌, ◌∷◌, Err, List, sym, subst}
use Rattle.k_edge.specs.FilesWords.{FilesState}
use Rattle.k_words.specs.Parts.{AreNamedOnce}
use Rattle.k_words.specs.declared.merging.Part.{Part}
use Rattle.k_top_lemmas.specs.Merges.{FindsSum}
use Rattle.k_top_lemmas.proofs.Merging.{sum_more, sum_stops}
use Rattle.k_top_merge.proofs.merged.sum_of_parts.Goals as goal

pub returns-in-Ok : goal.returns-in-Ok
returns-in-Ok g c =
    let old : FilesState = g.F.Files.seen c.args.files.now in
    let mid : FilesState = g.F.Files.seen c.load_first.new.files in
    let new : FilesState = g.F.Files.seen c.with_others.new.files in
    let split : c.args.parts.now ≡ c.in-Some.first.now ∷ c.in-Some.others.now = c.in-Some.ensures.cases.0 in
    subst (λ (l : List Part). FindsSum c.with_others.result l old new) (sym split)
    (sum_more c.in-Some.first.now c.in-Some.others.now old (subst AreNamedOnce split c.requires) c.in-Ok.sum mid new c.with_others.result c.in-Ok.ensures.loads c.with_others.ensures)

pub returns-in-Err : goal.returns-in-Err
returns-in-Err g c =
    let old : FilesState = g.F.Files.seen c.args.files.now in
    let new : FilesState = g.F.Files.seen c.load_first.new.files in
    let split : c.args.parts.now ≡ c.in-Some.first.now ∷ c.in-Some.others.now = c.in-Some.ensures.cases.0 in
    subst (λ (l : List Part). FindsSum (Err c.in-Err.failure) l old new) (sym split)
    (sum_stops c.in-Some.first.now c.in-Some.others.now old (subst AreNamedOnce split c.requires) new c.in-Err.failure c.in-Err.ensures.loads)
