use Rattle.std.proofs.Common.{◌≡◌, ◌<◌, ap, ◌∙◌, sym, subst, arith, length}
use Rattle.k_dict_entries.specs.Gathering.{IsSound, State, closed, closed_to, state}
use Rattle.k_dict_entries.proofs.Machine.{closed_to-first}
use Rattle.k_dict_entries.proofs.Sound.{closed_sound, leads_on}
use Rattle.k_dict_entries.proofs.gathering.Gathering.close_to.Goals as goal

pub returns-in-Err-clause-leads : goal.returns-in-Err-clause-leads
returns-in-Err-clause-leads c =
    let test = c.loop-alloc-test.true in let count = c.len.ensures in
    let deep : c.args.depth < length c.loop-alloc.self.levels = omega arith in
    leads_on (Unit {0}) c.in-Err.fault (state c.close.new.self) c.args.depth (state c.loop-alloc.self) (state c.args.self.now) deep c.loop-alloc.invariant.leads c.in-Err.ensures.leads

pub loop-alloc-preserved : goal.loop-alloc-preserved
loop-alloc-preserved c =
    let test = c.loop-alloc-test.true in let count = c.len.ensures in
    let deep : c.args.depth < length c.loop-alloc.self.levels = omega arith in
    let is : state c.close.new.self ≡ closed (state c.loop-alloc.self) = c.in_default.ensures.leads in
    let P : State → Type 0 = IsSound in
    record {
      leads = ap (closed_to c.args.depth) is ∙ sym (closed_to-first c.args.depth (state c.loop-alloc.self) deep) ∙ c.loop-alloc.invariant.leads;
      sound = subst P (sym is) (closed_sound (state c.loop-alloc.self) c.loop-alloc.invariant.sound);
      interned = c.in_default.ensures.interned;
    }
