use Rattle.std.proofs.Common.{◌≡◌, ◌∙◌, [], ◌∷◌, map, true, refl, rules}
use Rattle.std.specs.Result.{is_ok}
use Rattle.std.proofs.lemmas.List.{map-append}
use Rattle.csv.specs.Records.{fields_of}
use Rattle.k_data_laws.proofs.Records.{all_read, none_read, one_more_read}
use Rattle.k_data_laws.proofs.read_back.read_records.Goals as goal

pub loop-row-init : goal.loop-row-init
loop-row-init c =
    let made = c.from_reader-reader.ensures in
    let builder = c.has_headers.ensures in
    let start = c.into_iter-row-iterator.ensures.into_iter_gives ∙ refl in
    let own = c.into_byte_records-row-items.ensures.rdr in
    rw (start, own, c.new-table.ensures.items) (
      none_read c.args.text.now c.from_reader-reader.result (rw builder at made.trim ∙ c.new.ensures.trim) (rw builder at made.has_headers) made.headers
          (rw builder at made.config ∙ c.new.ensures.config) made.source made.state,
      c.into_byte_records-row-items.ensures.left,
    )

pub loop-row-preserved : goal.loop-row-preserved
loop-row-preserved c =
    let has = c.loop-row.invariant.0 in
    let step = rw (c.in-Some.is, c.in_ok-row.was) at ((c.next.ensures.steps c.loop-row.invariant.1 has.trims).0 has.ready) in
    let pushed : is_ok c.push.result ≡ true = search rules in
    let items = rw pushed at c.push.ensures.items in
    (rw (items, map-append fields_of c.loop-row.table.items (c.in_ok-row.field-0 ∷ [])) (one_more_read c.args.text.now (map fields_of c.loop-row.table.items) c.loop-row.row-iterator.rdr c.next.new.self.rdr (fields_of c.in_ok-row.field-0) has step.0 step.1), step.2)

pub returns : goal.returns
returns c =
    let has = c.loop-row.invariant.0 in
    all_read c.args.text.now (map fields_of c.loop-row.table.items) c.loop-row.row-iterator.rdr c.next.new.self.rdr has
    (rw c.in-None.is at ((c.next.ensures.steps c.loop-row.invariant.1 has.trims).0 has.ready))
