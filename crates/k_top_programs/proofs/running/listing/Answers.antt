use Rattle.std.proofs.Common.{ℕ, List, IfOk, subst, ◌≡◌}
use Rattle.k_ending.specs.declared.listing.Listing.{Listing}
use Rattle.k_evaluation.specs.Runs.{listing_of, run}
use Rattle.k_evaluation.specs.States.{Program}
use Rattle.k_marks_meaning.specs.declared.Marks.{Marks}
use Rattle.k_top_programs.proofs.running.listing.Goals as goal

pub plain-requires : goal.plain-requires
plain-requires c = record { unit = c.requires.unit; accepted = c.requires.accepted; marks = c.requires.marks }

pub returns : goal.returns
unfolding Rattle.k_top_answers.specs.Steps.run_of
returns c =
    let p = c.args.ready.now.program in
    let with_marks : Marks → Program = λ marks. record { unit = p.typed; marks = marks; latencies = p.latencies } in
    subst (λ (marks : Marks). IfOk c.plain.result (λ (l : Listing). l ≡ listing_of (run (with_marks marks) c.args.ready.now.input c.args.ready.now.steps))) c.requires.marks
    (subst (λ (input : List ℕ). IfOk c.plain.result (λ (l : Listing). l ≡ listing_of (run (with_marks p.marks) input c.args.ready.now.steps))) c.as_slice.ensures
    c.plain.ensures)
