-- The request is where the answer says.
use Rattle.std.proofs.Common.{[], None, refl, sym, ap, ◌∙◌, subst, ⊎_elim, set}
use Rattle.std.proofs.lemmas.List.{append-nil}
use Rattle.apf_local.specs.declared.answer.Answer.{Answer}
use Rattle.apf_calendar.specs.Guests.{SlotsView, Starts, with_slot}
use Rattle.apf_stream.specs.declared.asked.Hold.{Hold}
use Rattle.apf_stream.specs.Deeds.{FollowsAnswer}
use Rattle.apf_stream.specs.Runs.{ArrivesAs}
use Rattle.apf_stream.specs.States.{State, state_of}
use Rattle.apf_stream.specs.Ties.{AreTied}
use Rattle.apf_stream.proofs.Places.{place_by_answer}
use Rattle.apf_stream.proofs.Arriving.{waits_in, never, tied_waits, tied_over, tied_runs, arrived, with_comer}
use Rattle.apf_stream.proofs.stream.Stream.take.Goals as goal

pub unreachable-requires : goal.unreachable-requires
unreachable-requires c =
    let s : State = state_of c.args.self.now in
    let hold : Hold = record { asked = c.args.asked; cost = c.cost_of-cost.result; queue = c.queue_in.result } in
    let no = never s c.args.slot c.args.asked c.requires.tied c.requires.free c.arrive-answer.new.self.level hold c.arrive-answer.result.0 c.arrive-answer.result.1 refl c.arrive-answer.ensures.arrives in
    ⊎_elim (λ e. no (λ x. absurd (cc)) (ap place_by_answer e)) (⊎_elim (λ e. no (λ x. absurd (cc)) (ap place_by_answer e)) (λ e. no (λ x. absurd (cc)) (ap place_by_answer e))) c.in-Busy.is

pub start-requires : goal.start-requires
start-requires c = record { waits = waits_in (state_of c.args.self.now) c.args.slot c.args.asked c.requires.tied c.requires.free c.arrive.new.self c.arrive.ensures }

pub leave-requires : goal.leave-requires
leave-requires c = record { waits = waits_in (state_of c.args.self.now) c.args.slot c.args.asked c.requires.tied c.requires.free c.arrive.new.self c.arrive.ensures }

pub returns-in_ok-start-in-Run-clause-arrives : goal.returns-in_ok-start-in-Run-clause-arrives
returns-in_ok-start-in-Run-clause-arrives c =
    let s : State = state_of c.args.self.now in
    let hold : Hold = record { asked = c.args.asked; cost = c.cost_of-cost.result; queue = c.queue_in.result } in
    let e = c.arrive-answer.ensures in
    let answer = c.arrive-answer.result.0 in
    let slot = c.args.slot in
    let comer = with_comer s slot c.args.asked c.requires.tied c.requires.free in
    let starts : Starts comer slot c.start.new.self = subst (λ (v : SlotsView). Starts v slot c.start.new.self) c.arrive.ensures c.in_ok-start-in-Run.ensures.started in
    arrived s slot c.args.asked c.requires.tied c.requires.free c.arrive-answer.new.self.level hold answer c.arrive-answer.result.1 refl e.arrives c.start.new.self [] c.requires.forward c.requires.over c.cost_of-cost.ensures.cost c.queue_in.ensures e.same e.operators
    (subst (λ (a : Answer). FollowsAnswer a slot hold comer c.start.new.self []) (sym c.in-Run.is) (starts, refl))
    c.args.ends.now.items c.args.ends.now.items (sym (append-nil c.args.ends.now.items))

pub returns-in_ok-start-in-Run-clause-tied : goal.returns-in_ok-start-in-Run-clause-tied
returns-in_ok-start-in-Run-clause-tied c =
    let s : State = state_of c.args.self.now in
    let hold : Hold = record { asked = c.args.asked; cost = c.cost_of-cost.result; queue = c.queue_in.result } in
    let slot = c.args.slot in
    let comer = with_comer s slot c.args.asked c.requires.tied c.requires.free in
    let starts : Starts comer slot c.start.new.self = subst (λ (v : SlotsView). Starts v slot c.start.new.self) c.arrive.ensures c.in_ok-start-in-Run.ensures.started in
    tied_runs s slot c.args.asked c.requires.tied c.requires.free c.arrive-answer.new.self.level hold c.arrive-answer.result.0 c.arrive-answer.result.1 refl c.arrive-answer.ensures.arrives c.start.new.self c.in-Run.is starts

pub returns-in-Waits-clause-arrives : goal.returns-in-Waits-clause-arrives
returns-in-Waits-clause-arrives c =
    let s : State = state_of c.args.self.now in
    let hold : Hold = record { asked = c.args.asked; cost = c.cost_of-cost.result; queue = c.queue_in.result } in
    let e = c.arrive-answer.ensures in
    let answer = c.arrive-answer.result.0 in
    let slot = c.args.slot in
    let comer = with_comer s slot c.args.asked c.requires.tied c.requires.free in
    let before = c.args.ends.now.items in
    subst (λ (v : SlotsView). ArrivesAs slot c.args.asked s before (record { level = c.arrive-answer.new.self.level; slots = v; holds = set s.holds slot hold; charges = s.charges }) before) (sym c.arrive.ensures)
    (arrived s slot c.args.asked c.requires.tied c.requires.free c.arrive-answer.new.self.level hold answer c.arrive-answer.result.1 refl e.arrives comer [] c.requires.forward c.requires.over c.cost_of-cost.ensures.cost c.queue_in.ensures e.same e.operators
    (subst (λ (a : Answer). FollowsAnswer a slot hold comer comer []) (sym c.in-Waits.is) (refl, refl))
    before before (sym (append-nil before)))

pub returns-in-Waits-clause-tied : goal.returns-in-Waits-clause-tied
returns-in-Waits-clause-tied c =
    let s : State = state_of c.args.self.now in
    let hold : Hold = record { asked = c.args.asked; cost = c.cost_of-cost.result; queue = c.queue_in.result } in
    let slot = c.args.slot in
    subst (λ (v : SlotsView). AreTied (record { level = c.arrive-answer.new.self.level; slots = v; holds = set s.holds slot hold; charges = s.charges })) (sym c.arrive.ensures)
    (tied_waits s slot c.args.asked c.requires.tied c.requires.free c.arrive-answer.new.self.level hold c.arrive-answer.result.0 c.arrive-answer.result.1 refl c.arrive-answer.ensures.arrives c.in-Waits.is)

pub returns-in_ok-tell-in-Over-clause-tied : goal.returns-in_ok-tell-in-Over-clause-tied
returns-in_ok-tell-in-Over-clause-tied c =
    let s : State = state_of c.args.self.now in
    let hold : Hold = record { asked = c.args.asked; cost = c.cost_of-cost.result; queue = c.queue_in.result } in
    let slot = c.args.slot in
    subst (λ (v : SlotsView). AreTied (record { level = c.arrive-answer.new.self.level; slots = v; holds = set s.holds slot hold; charges = s.charges })) (sym (c.leave.ensures ∙ ap (λ (v : SlotsView). with_slot v slot None) c.arrive.ensures))
    (tied_over s slot c.args.asked c.requires.tied c.requires.free c.arrive-answer.new.self.level hold c.arrive-answer.result.0 c.arrive-answer.result.1 refl c.arrive-answer.ensures.arrives c.in-Over.decision c.in-Over.is)
