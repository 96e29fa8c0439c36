-- A reader that was interrupted gave nothing, and is not at its end.
use Rattle.std.proofs.Common.{[], append-nil}
use Rattle.apf_lines.specs.Lines.{Stays}
use Rattle.apf_service.proofs.Answering.{Consumes-nil}
use Rattle.apf_service.proofs.serving.read_on.Goals as goal

pub returns-in-Err-clause-read : goal.returns-in-Err-clause-read
returns-in-Err-clause-read g c =
    let was = g.I.Read.remaining c.args.input.now in
    let left = g.I.Read.remaining c.fill.new.input in
    let stays : Stays was left c.args.lines.now c.fill.new.self = c.in-Err.ensures.reads in
    record {
      more = [];
      given = Consumes-nil was left stays.kept;
      end = λ e. cc;
      of_each = λ bytes u. rw append-nil (stays.of_each bytes u);
    }
