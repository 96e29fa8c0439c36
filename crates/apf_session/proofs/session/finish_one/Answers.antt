-- What a request was told stays, by the two calls.
use Rattle.apf_session.proofs.Staying.{trans, polled, finished}
use Rattle.apf_session.proofs.session.finish_one.Goals as goal

pub returns-clause-told : goal.returns-clause-told
returns-clause-told g c =
    trans c.args.request.now.token c.poll.new.self.token c.finish.new.self.token
    (polled c.args.request.now c.poll.new.self c.poll.result c.poll.ensures.answers)
    (finished c.poll.new.self c.finish.new.self c.finish.result c.finish.ensures.answers c.finish.ensures.steps)
