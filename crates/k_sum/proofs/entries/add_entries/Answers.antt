use Rattle.std.proofs.Common.{ℕ, List, length, Ok, Err, sym, subst}
use Rattle.k_dict_entries.specs.Entries.{NameBelow}
use Rattle.k_sum.specs.Joining.{JoinsOne}
use Rattle.k_sum.proofs.Joins.{goes_on_unpushed, joining_more, joining_refused, next_below, next_few}
use Rattle.k_sum.proofs.entries.add_entries.Goals as goal

pub add_entry-requires-clause-below : goal.add_entry-requires-clause-below
add_entry-requires-clause-below c =
    let P : List ℕ → Type 0 = λ l. NameBelow (length l) c.in-Some.entry.now.runs in
    subst P (sym c.as_slice.ensures)
    (next_below c.args.dict.now c.args.entries.now c.loop-entry.rest.now c.in-Some.later.now c.loop-entry.dict c.loop-entry.numbers c.in-Some.entry.now
    c.loop-entry.invariant.joining c.in-Some.ensures.cases.0 c.requires.earlier)

pub add_entry-requires-clause-few : goal.add_entry-requires-clause-few
add_entry-requires-clause-few c =
    next_few c.args.dict.now c.args.entries.now c.loop-entry.rest.now c.in-Some.later.now c.loop-entry.dict c.loop-entry.numbers c.in-Some.entry.now
    c.loop-entry.invariant.joining c.in-Some.ensures.cases.0 c.requires.few

pub returns-in-Err-clause-joins : goal.returns-in-Err-clause-joins
returns-in-Err-clause-joins c =
    let P : List ℕ → Type 0 = λ l. JoinsOne c.loop-entry.dict l c.in-Some.entry.now (Err c.in-Err.fault) c.add_entry.new.dict in
    joining_refused c.args.dict.now c.args.entries.now c.loop-entry.rest.now c.in-Some.later.now c.loop-entry.dict c.loop-entry.numbers c.in-Some.entry.now
    c.loop-entry.invariant.joining c.in-Some.ensures.cases.0 c.in-Err.fault c.add_entry.new.dict (subst P c.as_slice.ensures c.in-Err.ensures.joins)

pub returns-in-Err-push-clause-joins : goal.returns-in-Err-push-clause-joins
returns-in-Err-push-clause-joins c =
    let P : List ℕ → Type 0 = λ l. JoinsOne c.loop-entry.dict l c.in-Some.entry.now (Ok c.in-Ok.number) c.add_entry.new.dict in
    goes_on_unpushed c.args.dict.now c.args.entries.now c.loop-entry.rest.now c.in-Some.later.now c.loop-entry.dict c.loop-entry.numbers c.in-Some.entry.now
    c.loop-entry.invariant.joining c.in-Some.ensures.cases.0 c.add_entry.new.dict c.in-Ok.number (subst P c.as_slice.ensures c.in-Ok.ensures.joins)

pub loop-entry-preserved : goal.loop-entry-preserved
loop-entry-preserved c =
    let P : List ℕ → Type 0 = λ l. JoinsOne c.loop-entry.dict l c.in-Some.entry.now (Ok c.in-Ok.number) c.add_entry.new.dict in
    record {
      joining = joining_more c.args.dict.now c.args.entries.now c.loop-entry.rest.now c.in-Some.later.now c.loop-entry.dict c.loop-entry.numbers
          c.in-Some.entry.now c.loop-entry.invariant.joining c.in-Some.ensures.cases.0 c.add_entry.new.dict c.in-Ok.number c.push.new.self
          (subst P c.as_slice.ensures c.in-Ok.ensures.joins) c.in_default-push.ensures.ok;
      interned = c.in-Ok.ensures.interned;
    }
