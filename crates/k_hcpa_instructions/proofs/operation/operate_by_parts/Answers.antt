use Rattle.std.proofs.Common.{◌≡◌, ℕ, ◌+◌, ◌*◌, List, Option, length, subst, sym, ap, ◌∙◌, length-append}
use Rattle.k_code.specs.Named.{operands, register_set}
use Rattle.k_code.specs.Steps.{operation_of}
use Rattle.k_hcpa_meaning.specs.Locations.{operand_locations, register_location}
use Rattle.k_hcpa_meaning.specs.Timings.{Location}
use Rattle.k_hcpa_times.specs.Seen.{Keeps, Room, Seen, levels}
use Rattle.k_hcpa_instructions.specs.Kinds.{HaveRoom, effects_of, hidden_of}
use Rattle.k_hcpa_instructions.proofs.Behind.{levels_raised, places_kept, room_back, room_front, room_kept, steps_taken}
use Rattle.k_hcpa_instructions.proofs.operation.operate_by_parts.Goals as goal

pub give_effect-requires-clause-room : goal.give_effect-requires-clause-room
give_effect-requires-clause-room g c =
    let r0 : Room → Type 0 = g.T.Timed.room c.args.times.now in
    let r1 : Room → Type 0 = g.T.Timed.room c.raise_hidden.new.times in
    let r2 : Room → Type 0 = g.T.Timed.room c.settle.new.self in
    let some : List Location = effects_of (operation_of c.args.instr.now.act) c.args.element in
    let more : List Location = register_location c.args.first (register_set c.args.instr.now.act) in
    let begun : Keeps r0 r1 = λ at h. c.raise_hidden.ensures.kept at (c.raise_operands.ensures.kept at (c.begin.ensures.kept at h)) in
    room_kept r1 r2 some c.settle.ensures.kept (room_kept r0 r1 some (places_kept r0 r1 begun) (room_front r0 some more c.requires.room))

pub give_register-requires-clause-room : goal.give_register-requires-clause-room
give_register-requires-clause-room g c =
    let r0 : Room → Type 0 = g.T.Timed.room c.args.times.now in
    let r1 : Room → Type 0 = g.T.Timed.room c.raise_hidden.new.times in
    let r2 : Room → Type 0 = g.T.Timed.room c.settle.new.self in
    let r3 : Room → Type 0 = g.T.Timed.room c.give_effect.new.times in
    let some : List Location = effects_of (operation_of c.args.instr.now.act) c.args.element in
    let more : List Location = register_location c.args.first (register_set c.args.instr.now.act) in
    let begun : Keeps r0 r1 = λ at h. c.raise_hidden.ensures.kept at (c.raise_operands.ensures.kept at (c.begin.ensures.kept at h)) in
    subst (λ (r : Option ℕ). HaveRoom r3 (register_location c.args.first r)) (sym c.requires.sets)
    (room_kept r2 r3 more (places_kept r2 r3 c.give_effect.ensures.kept)
    (room_kept r1 r2 more c.settle.ensures.kept (room_kept r0 r1 more (places_kept r0 r1 begun) (room_back r0 some more c.requires.room))))

pub returns-clause-steps : goal.returns-clause-steps
returns-clause-steps g c =
    let s0 : Seen = g.T.Timed.seen c.args.times.now in
    let s1 : Seen = g.T.Timed.seen c.begin.new.self in
    let s2 : Seen = g.T.Timed.seen c.raise_operands.new.times in
    let some : List Location = operand_locations c.args.first (operands c.args.instr.now.act) in
    let more : List Location = hidden_of (operation_of c.args.instr.now.act) c.args.element in
    let one : levels s1 ≡ levels s0 = ap levels c.begin.ensures.begun in
    let two : levels s2 ≡ levels s1 = ap levels c.raise_operands.ensures.raised ∙ levels_raised some s1 in
    c.raise_hidden.ensures.steps
    ∙ ap (λ n. c.raise_operands.new.steps + length more * n) (two ∙ one)
    ∙ ap (λ n. n + length more * levels s0) (c.raise_operands.ensures.steps ∙ ap (λ n. c.begin.new.steps + length some * n) one ∙ ap (λ n. n + length some * levels s0) c.begin.ensures.steps)
    ∙ steps_taken c.args.steps.now (levels s0) (length some) (length more)
    ∙ ap (λ n. c.args.steps.now + (1 + n) * levels s0) (sym (length-append some more))
