use Rattle.std.proofs.Common.{◌≡◌, ℕ, ◌<◌, ◌≤◌, List, length, take, get_or, get_or-set_same, subst, ap, ◌∙◌, arith}
use Rattle.std.proofs.lemmas.List.{length-take-le}
use Rattle.k_shadow.specs.declared.row.Row.{Row}
use Rattle.k_shadow.specs.Rows.{seen, blank_row, times_of}
use Rattle.k_shadow.proofs.Entries.{row_written, stamped-set}
use Rattle.k_shadow.proofs.saved_rows.write_entry.Goals as goal

pub returns-then-not-kept-clause-held : goal.returns-then-not-kept-clause-held
returns-then-not-kept-clause-held c = λ on.
    let rows = c.args.rows.now.items in
    let at = c.args.at in
    let row = c.write.new.self in
    let live = c.args.versions.now.live in
    let current = c.args.current.now in
    let stamp : row.stamp ≡ c.args.versions.now.given = c.write.ensures.stamp ∙ c.last_given.ensures.last in
    let room : length live ≤ length current = omega (arith, c.last_given.ensures.shallow) in
    let within : at < length rows = omega (arith, c.requires.within) in
    let each : (k : ℕ) → k < length live → get_or row.times k 0 ≡ get_or (take (length live) current) k 0 = row_each row live current c.depth.result c.depth.ensures.count room c.write.ensures.times in
    ap (λ r. times_of (seen r) live) (get_or-set_same rows at row (blank_row 32) within)
    ∙ row_written row live current c.args.versions.now.given room stamp each c.last_given.ensures.given
  where
    row_each : (row : Row 32) (live current : List ℕ) (depth : ℕ) → depth ≡ length live → length live ≤ length current → ((k : ℕ) → k < length (take depth current) → get_or row.times k 0 ≡ get_or (take depth current) k 0) → (k : ℕ) → k < length live → get_or row.times k 0 ≡ get_or (take (length live) current) k 0
    row_each row live current depth e room each k lt =
        let P : ℕ → Type 0 = λ n. (k : ℕ) → k < length (take n current) → get_or row.times k 0 ≡ get_or (take n current) k 0 in
        subst P e each k (omega (arith, length-take-le (length live) current room))

pub returns-then-not-kept-clause-stamped : goal.returns-then-not-kept-clause-stamped
returns-then-not-kept-clause-stamped c =
    let row = c.write.new.self in
    let low : row.stamp ≤ c.args.versions.now.given = omega (arith, c.write.ensures.stamp, c.last_given.ensures.last) in
    stamped-set c.args.versions.now.given c.args.at row c.args.rows.now.items low
