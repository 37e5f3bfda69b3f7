-- What acts see of a world.
use Rattle.std.proofs.Common.{ℕ, List, Ok, refl, ap}
use Rattle.k_mem.specs.Memory.{Memory}
use Rattle.k_world.specs.declared.act.Act.TheVariants as act
use Rattle.k_world.specs.Acts.{work, hidden, given_by, offset_work, compare_work, distance_work, load_work, store_work, next_byte, one_pointer, pointer_and_number, two_pointers, element_read, origin_of}
use Rattle.k_world_laws.specs.Laws.{WorkSeesMemoryAndInput, HiddenSees}

pub work_sees : WorkSeesMemoryAndInput
unfolding work
work_sees (act.Binary op kind) values v w memory input = refl
work_sees (act.Unary op kind) values v w memory input = refl
work_sees (act.Convert kind) values v w memory input = refl
work_sees act.Move values v w memory input = refl
work_sees (act.Offset minus scale) values v w memory input =
    ap (λ (m : Memory). given_by (λ n. offset_work minus scale m n.0 n.1) (pointer_and_number values)) memory
work_sees (act.PtrCompare op) values v w memory input = ap (λ (m : Memory). given_by (λ p. compare_work op m p.0 p.1) (two_pointers values)) memory
work_sees (act.PtrDistance scale) values v w memory input =
    ap (λ (m : Memory). given_by (λ p. distance_work scale m p.0 p.1) (two_pointers values)) memory
work_sees act.Load values v w memory input = ap (λ (m : Memory). given_by (load_work m) (one_pointer values)) memory
work_sees act.Store values v w memory input = ap (λ (m : Memory). given_by (λ n. store_work m n.0 n.1) (pointer_and_number values)) memory
work_sees act.Input values v w memory input = ap (λ (bytes : List ℕ). Ok (next_byte bytes)) input
work_sees (act.Output what) values v w memory input = refl
work_sees act.Test values v w memory input = refl
work_sees act.Call values v w memory input = refl

pub hidden_sees : HiddenSees
unfolding hidden
hidden_sees (act.Binary op kind) values v w same = refl
hidden_sees (act.Unary op kind) values v w same = refl
hidden_sees (act.Convert kind) values v w same = refl
hidden_sees act.Move values v w same = refl
hidden_sees (act.Offset minus scale) values v w same = refl
hidden_sees (act.PtrCompare op) values v w same = refl
hidden_sees (act.PtrDistance scale) values v w same = refl
hidden_sees act.Load values v w same = λ i. origin_of (element_read (same.0 i) (one_pointer values)) (same.1 i)
hidden_sees act.Store values v w same = refl
hidden_sees act.Input values v w same = same
hidden_sees (act.Output what) values v w same = same
hidden_sees act.Test values v w same = refl
hidden_sees act.Call values v w same = refl
