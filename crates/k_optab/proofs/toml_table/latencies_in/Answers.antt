use Rattle.std.proofs.Common.{refl}
use Rattle.k_optab.proofs.toml_table.latencies_in.Goals as goal

pub returns : goal.returns
returns c =
    rw (
      c.set-12.ensures,
      c.set-11.ensures,
      c.set-10.ensures,
      c.set-9.ensures,
      c.set-8.ensures,
      c.set-7.ensures,
      c.set-6.ensures,
      c.set-5.ensures,
      c.set-4.ensures,
      c.set-3.ensures,
      c.set-2.ensures,
      c.set.ensures,
      c.standard-table.ensures,
      c.latency_at.ensures,
      c.latency_at-2.ensures,
      c.latency_at-3.ensures,
      c.latency_at-4.ensures,
      c.latency_at-5.ensures,
      c.latency_at-6.ensures,
      c.latency_at-7.ensures,
      c.latency_at-8.ensures,
      c.latency_at-9.ensures,
      c.latency_at-10.ensures,
      c.latency_at-11.ensures,
      c.latency_at-12.ensures,
    ) refl
