-- The state goes on by what the request read.
use Rattle.std.proofs.Common.{◌<◌, ℕ, [], ◌∷◌, ◌++◌, length, refl, ap, ◌∙◌, arith}
use Rattle.std.proofs.lemmas.Option.{slice_get_read}
use Rattle.apf_stream.specs.Deeds.{Serves, unserved}
use Rattle.apf_words.specs.declared.decision.Decision.TheVariants.{Cancelled}
use Rattle.apf_stream.specs.States.{State, state_of}
use Rattle.apf_stream.proofs.Lefts.{leaves_fewer, starts_fewer}
use Rattle.apf_stream.proofs.Places.{reading_not_fresh}
use Rattle.apf_stream.proofs.Readings.{reads_free, reads_runs, reads_waits, tied_free, tied_runs, tied_waits}
use Rattle.apf_stream.proofs.stream.Stream.read.Goals as goal

pub unreachable-requires : goal.unreachable-requires
unreachable-requires c =
    let l' = c.place-place.new.self.level in
    reading_not_fresh c.args.slot c.args.self.now.level.level l' c.place-place.result c.in-Fresh.field-0 c.place-place.ensures.reads c.requires.waits.place c.in-Fresh.is

pub returns-in-Waits-clause-reads : goal.returns-in-Waits-clause-reads
returns-in-Waits-clause-reads c =
    let s : State = state_of c.args.self.now in
    let l' = c.place-place.new.self.level in
    let e = c.place-place.ensures in
    let serves : Serves s.level l' = record { same = e.same; operators = e.operators; history = e.history } in
    reads_waits s c.args.slot c.requires.waits l' c.place-place.result e.reads serves c.args.ends.now.items c.in-Waits.is

pub returns-in-Waits-clause-still : goal.returns-in-Waits-clause-still
returns-in-Waits-clause-still c =
    let s : State = state_of c.args.self.now in
    let l' = c.place-place.new.self.level in
    let e = c.place-place.ensures in
    let serves : Serves s.level l' = record { same = e.same; operators = e.operators; history = e.history } in
    tied_waits s c.args.slot c.requires.waits l' c.place-place.result e.reads serves c.in-Waits.is

pub returns-in_ok-start-in-Runs-clause-reads : goal.returns-in_ok-start-in-Runs-clause-reads
returns-in_ok-start-in-Runs-clause-reads c =
    let s : State = state_of c.args.self.now in
    let l' = c.place-place.new.self.level in
    let e = c.place-place.ensures in
    let serves : Serves s.level l' = record { same = e.same; operators = e.operators; history = e.history } in
    reads_runs s c.args.slot c.requires.waits l' c.place-place.result e.reads serves c.start.new.self c.args.ends.now.items c.in-Runs.is c.in_ok-start-in-Runs.ensures.started

pub returns-in_ok-start-in-Runs-clause-tied : goal.returns-in_ok-start-in-Runs-clause-tied
returns-in_ok-start-in-Runs-clause-tied c isnt =
    let s : State = state_of c.args.self.now in
    let l' = c.place-place.new.self.level in
    let e = c.place-place.ensures in
    let serves : Serves s.level l' = record { same = e.same; operators = e.operators; history = e.history } in
    tied_runs s c.args.slot c.requires.waits l' c.place-place.result e.reads serves c.start.new.self c.in-Runs.is c.in_ok-start-in-Runs.ensures.started

pub returns-in_ok-start-in-Runs-clause-still : goal.returns-in_ok-start-in-Runs-clause-still
returns-in_ok-start-in-Runs-clause-still c tied =
    let s : State = state_of c.args.self.now in
    let l' = c.place-place.new.self.level in
    let e = c.place-place.ensures in
    let serves : Serves s.level l' = record { same = e.same; operators = e.operators; history = e.history } in
    tied_runs s c.args.slot c.requires.waits l' c.place-place.result e.reads serves c.start.new.self c.in-Runs.is c.in_ok-start-in-Runs.ensures.started

pub returns-in_ok-start-in-Runs-clause-fewer : goal.returns-in_ok-start-in-Runs-clause-fewer
returns-in_ok-start-in-Runs-clause-fewer c isnt = starts_fewer c.args.self.now.calendar c.args.slot c.start.new.self c.in_ok-start-in-Runs.ensures.started

pub returns-in_ok-start-in-Runs-clause-no_more : goal.returns-in_ok-start-in-Runs-clause-no_more
returns-in_ok-start-in-Runs-clause-no_more c = let f = starts_fewer c.args.self.now.calendar c.args.slot c.start.new.self c.in_ok-start-in-Runs.ensures.started in omega arith

pub returns-in_ok-tell-in-Free-clause-reads : goal.returns-in_ok-tell-in-Free-clause-reads
returns-in_ok-tell-in-Free-clause-reads c =
    let s : State = state_of c.args.self.now in
    let l' = c.place-place.new.self.level in
    let e = c.place-place.ensures in
    let serves : Serves s.level l' = record { same = e.same; operators = e.operators; history = e.history } in
    let w = c.requires.waits in
    let low : c.args.slot < length s.holds = let a = w.but.inside in let b = w.but.count.holds in omega arith in
    let hold = c.index-hold.result.now in
    reads_free s c.args.slot w l' c.place-place.result e.reads serves c.leave.new.self hold c.args.ends.now.items c.tell.new.ends.items c.in-Free.is c.leave.ensures
    (slice_get_read s.holds (length s.holds) c.args.slot hold refl low c.index-hold.ensures)
    (c.in_ok-tell-in-Free.ensures ∙ ap (λ (t : ℕ). c.args.ends.now.items ++ (unserved hold Cancelled t ∷ [])) c.time-over_at.ensures.time)

pub returns-in_ok-tell-in-Free-clause-tied : goal.returns-in_ok-tell-in-Free-clause-tied
returns-in_ok-tell-in-Free-clause-tied c isnt =
    let s : State = state_of c.args.self.now in
    let l' = c.place-place.new.self.level in
    let e = c.place-place.ensures in
    let serves : Serves s.level l' = record { same = e.same; operators = e.operators; history = e.history } in
    tied_free s c.args.slot c.requires.waits l' c.place-place.result e.reads serves c.leave.new.self c.in-Free.is c.leave.ensures

pub returns-in_ok-tell-in-Free-clause-still : goal.returns-in_ok-tell-in-Free-clause-still
returns-in_ok-tell-in-Free-clause-still c tied =
    let s : State = state_of c.args.self.now in
    let l' = c.place-place.new.self.level in
    let e = c.place-place.ensures in
    let serves : Serves s.level l' = record { same = e.same; operators = e.operators; history = e.history } in
    tied_free s c.args.slot c.requires.waits l' c.place-place.result e.reads serves c.leave.new.self c.in-Free.is c.leave.ensures

pub returns-in_ok-tell-in-Free-clause-fewer : goal.returns-in_ok-tell-in-Free-clause-fewer
returns-in_ok-tell-in-Free-clause-fewer c isnt = leaves_fewer c.args.self.now.calendar c.args.slot c.leave.new.self c.requires.waits.guest c.leave.ensures

pub returns-in_ok-tell-in-Free-clause-no_more : goal.returns-in_ok-tell-in-Free-clause-no_more
returns-in_ok-tell-in-Free-clause-no_more c = let f = leaves_fewer c.args.self.now.calendar c.args.slot c.leave.new.self c.requires.waits.guest c.leave.ensures in omega arith
