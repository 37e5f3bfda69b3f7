use Rattle.std.proofs.Common.{subst, ◌≡◌}
use Rattle.std.specs.Prelude.{◌++◌, ◌/◌, ◌^◌, max}
use Rattle.k_real.specs.Codes.{real_of}
use Rattle.k_real.specs.Digits.{value}
use Rattle.k_real.specs.Texts.{digits, count, scaled}
use Rattle.k_real.specs.General.{stripped}
use Rattle.k_real.proofs.GeneralLaws.{plain_written}
use Rattle.k_real.proofs.general.put_plain.Goals as goal

pub returns : goal.returns
returns c =
    let out = c.args.out.now.items in
    let many = c.args.many in
    plain_written c.in_ok-ys.ys.items out c.put_whole.new.out.items c.put_stripped.new.out.items many (scaled many (real_of c.args.a)) c.in_ok-ys.ensures
    (subst (λ u. c.put_whole.new.out.items ≡ out ++ digits (max 1 (count (value u / 10 ^ many))) (value u / 10 ^ many)) c.deref.ensures.value c.in_ok-put_whole.ensures)
    (subst (λ u. c.put_stripped.new.out.items ≡ c.put_whole.new.out.items ++ stripped many (value u)) c.deref-2.ensures.value c.in_ok-put_stripped.ensures)
