use Rattle.std.proofs.Common.{◌≡◌, [], ◌∷◌, ◌++◌}
use Rattle.k_types_names.proofs.Growth.{Adds, a_growing, argument_added, byte_added}
use Rattle.k_types_names.proofs.Kept.{on_ok}
use Rattle.k_types_names.proofs.formats.Growing.add.Goals as goal

pub returns-in-Literal : goal.returns-in-Literal
returns-in-Literal c =
    on_ok c.push.result (c.push.new.self ≡ c.args.self.now.bytes ++ c.in-Literal.byte ∷ [])
    (Adds c.args.self.now (a_growing c.args.self.now.pieces c.push.new.self c.args.self.now.kinds) c.args.found) c.push.ensures.ok
    (λ new marks. byte_added c.args.self.now c.args.found marks c.in-Literal.byte c.push.new.self c.in-Literal.is new)

pub returns-in_ok-push-in-Takes : goal.returns-in_ok-push-in-Takes
returns-in_ok-push-in-Takes c =
    on_ok c.push-in-Takes-2.result (c.push-in-Takes-2.new.self ≡ c.end_bytes.new.self.kinds ++ c.in-Takes.kind ∷ [])
    (Adds c.args.self.now (a_growing c.push-in-Takes.new.self c.end_bytes.new.self.bytes c.push-in-Takes-2.new.self) c.args.found) c.push-in-Takes-2.ensures.ok
    (λ taken marks. argument_added c.args.self.now c.args.found marks c.in-Takes.written c.in-Takes.kind c.in-Takes.is
    c.end_bytes.new.self.pieces c.push-in-Takes.new.self c.end_bytes.new.self.bytes c.end_bytes.new.self.kinds c.push-in-Takes-2.new.self
    c.in_ok-end_bytes-in-Takes.ensures.pieces c.in_ok-push-in-Takes.ensures.ok c.in_ok-end_bytes-in-Takes.ensures.bytes
    c.in_ok-end_bytes-in-Takes.ensures.kinds taken)
