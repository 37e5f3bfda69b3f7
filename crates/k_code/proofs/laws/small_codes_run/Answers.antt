use Rattle.k_code.proofs.Examples as run
use Rattle.k_code.proofs.laws.small_codes_run.Goals as goal

pub returns : goal.returns
returns c = record {
  operations = run.operations;
  conversion = run.conversion;
  test_true = run.test_true;
  test_false = run.test_false;
  two_turns = run.two_turns;
  save = run.save;
  keep = run.keep;
  back = run.back;
  restore = run.restore;
  regions = run.regions;
  call = run.call;
  call_for_nothing = run.call_for_nothing;
  operand_lacking = run.operand_lacking;
  operand_dropped = run.operand_dropped;
  call_too_large = run.call_too_large;
  call_of_main = run.call_of_main;
  object_filled = run.object_filled;
  element_stored = run.element_stored;
  second_object = run.second_object;
  program_object = run.program_object;
  program_string = run.program_string;
  pointer_moved = run.pointer_moved;
  pointers_compared = run.pointers_compared;
  object_unset = run.object_unset;
  object_closed = run.object_closed;
  newer_closed = run.newer_closed;
  object_of_call = run.object_of_call;
  forgotten = run.forgotten;
  fall_off = run.fall_off;
  bytes = run.bytes;
  format = run.format;
  trapped = run.trapped;
  out_of_steps = run.out_of_steps;
  end_as_int = run.end_as_int;
  end_with_pointer = run.end_with_pointer;
  end_with_nothing = run.end_with_nothing;
  stays_without_main = run.stays_without_main;
}
