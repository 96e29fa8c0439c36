-- What the tries came to.
use Rattle.std.proofs.Common.{◌∙◌}
use Rattle.apf_book.proofs.Trying.{none_yet, raced_then, asked_again, answers_then, after_then, heard_all_then}
use Rattle.apf_book.proofs.LifeTurning.{same_book_then}
use Rattle.apf_book.proofs.life_book.LifeBook.arrive.Goals as goal

pub loop-init : goal.loop-init
loop-init g c = record { iterator = search; far = none_yet c.args.self.now c.args.pass.now c.requires.is_new }

pub loop-preserved : goal.loop-preserved
loop-preserved g c = record { iterator = search; far = raced_then c.args.self.now c.args.pass.now c.loop.self c.loop.pass c.try_arrive.new.self c.try_arrive.new.pass c.loop.invariant.far c.in_default.ensures.same c.in_default.ensures.same_request c.in_default.ensures.heard c.in_default.ensures.raced }

pub try_arrive-requires-clause-asked : goal.try_arrive-requires-clause-asked
try_arrive-requires-clause-asked g c = asked_again c.args.self.now c.args.pass.now c.loop.self c.loop.pass c.args.dealt.now c.args.cost c.loop.invariant.far c.requires.asked

pub returns-in-Some-try_arrive : goal.returns-in-Some-try_arrive
returns-in-Some-try_arrive g c =
    let far = c.loop.invariant.far in
    let e = c.in-Some-try_arrive.ensures in
    record {
      same = same_book_then c.args.self.now c.loop.self c.try_arrive.new.self far.same e.same;
      same_request = record { pass = e.same_request.pass ∙ far.request.pass; number = e.same_request.number ∙ far.request.number };
      answer = answers_then c.args.self.now c.args.pass.now c.loop.self c.loop.pass c.args.dealt.now c.args.cost c.in-Some-try_arrive.arrived c.try_arrive.new.self c.try_arrive.new.pass far e.answer;
      after = after_then c.args.self.now c.args.pass.now c.loop.self c.loop.pass c.in-Some-try_arrive.arrived c.try_arrive.new.pass far e.after;
      heard = heard_all_then c.args.self.now c.args.pass.now c.loop.self c.loop.pass c.try_arrive.new.self far e.heard;
    }
