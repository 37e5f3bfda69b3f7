use Rattle.std.proofs.Common.{rules, ◌≡◌, true, false}
use Rattle.std.specs.Char.{is_ascii_hexdigit}
use Rattle.k_hexadecimal.proofs.HexadecimalLaws.{read_more, read_to, read_all, still_behind, later_behind}
use Rattle.k_hexadecimal.proofs.hexadecimal.read.Goals as goal

pub returns-then-not-is_ascii_hexdigit-clause-value : goal.returns-then-not-is_ascii_hexdigit-clause-value
returns-then-not-is_ascii_hexdigit-clause-value c =
    let hex : is_ascii_hexdigit c.in-Some.b.now ≡ false = search rules in
    read_to c.args.start c.loop-b.s c.loop-b.rest.now c.in-Some.later.now c.args.text.now c.in-Some.b.now c.in-Some.ensures.cases.0 hex c.loop-b.invariant.reads

pub returns-then-not-is_ascii_hexdigit-clause-rest : goal.returns-then-not-is_ascii_hexdigit-clause-rest
returns-then-not-is_ascii_hexdigit-clause-rest c =
    let hex : is_ascii_hexdigit c.in-Some.b.now ≡ false = search rules in
    still_behind c.loop-b.rest.now c.in-Some.later.now c.args.text.now c.in-Some.b.now c.in-Some.ensures.cases.0 hex c.loop-b.invariant.rest

pub loop-b-preserved : goal.loop-b-preserved
loop-b-preserved c =
    let hex : is_ascii_hexdigit c.in-Some.b.now ≡ true = search rules in
    record {
      reads = read_more c.args.start c.loop-b.s c.with_digit-s.result c.loop-b.rest.now c.in-Some.later.now c.args.text.now c.in-Some.b.now c.digit_of.result c.in-Some.ensures.cases.0 hex c.digit_of.ensures
          c.loop-b.invariant.reads c.with_digit-s.ensures.value;
      rest = later_behind c.loop-b.rest.now c.in-Some.later.now c.args.text.now c.in-Some.b.now c.in-Some.ensures.cases.0 hex c.loop-b.invariant.rest;
      within = search rules;
      room = search rules;
    }

pub returns-clause-value : goal.returns-clause-value
returns-clause-value c = read_all c.args.start c.loop-b.s c.loop-b.rest.now c.args.text.now c.in_default.ensures.cases c.loop-b.invariant.reads
