-- The request is cancelled, and reads that.
use Rattle.std.proofs.Common.{◌≡◌, ◌≢◌, ℕ, List, Some, sym, ap, ◌∙◌, subst}
use Rattle.std.specs.Prelude.{slice_get}
use Rattle.apf_gate.specs.StationCalls.{TriesToCancel}
use Rattle.apf_gate.specs.Tokens.{PassToken}
use Rattle.apf_local.specs.declared.answer.Place.{Place}
use Rattle.apf_local.specs.declared.answer.Place.TheVariants as places
use Rattle.apf_local.specs.Owners.{Steps}
use Rattle.apf_local.specs.Worlds.{IsDecidedIn}
use Rattle.apf_stream.specs.States.{State, state_of}
use Rattle.apf_stream.proofs.Places.{token_of}
use Rattle.apf_stream.proofs.Readings.{waits_still}
use Rattle.apf_stream.proofs.stream.Stream.give_up.Goals as goal

pub read-requires : goal.read-requires
read-requires c = record { waits = waits_still (state_of c.args.self.now) c.args.slot c.cancel.new.self.level c.requires.leaving c.cancel.ensures.slots }

-- the Pass of the slot
token : (c : goal.In_ok-read) → (t : PassToken) × (slice_get c.args.self.now.level.level.owner.passes c.args.slot ≡ Some t)
token c =
    let stay = c.cancel.ensures.slots in
    let waits = ap (λ (l : List Place). slice_get l c.args.slot) stay.places ∙ c.requires.leaving.place in
    let t = token_of c.args.slot c.cancel.new.self.level c.read.new.self.level.level c.in_ok-read.field-0 c.in_ok-read.ensures.reads.reads.reads waits in
    (t.0, ap (λ (l : List PassToken). slice_get l c.args.slot) (sym stay.passes) ∙ t.1)

-- one that is decided does not wait
over : (c : goal.In_ok-read) → c.in_ok-read.field-0 ≢ places.Waits
over c =
    let t = token c in
    let stay = c.cancel.ensures.slots in
    let number = c.ticket-ticket.ensures.number t.0 t.1 in
    c.in_ok-read.ensures.decided t.0 (ap (λ (l : List PassToken). slice_get l c.args.slot) stay.passes ∙ t.1)
    (subst (λ (k : ℕ). IsDecidedIn c.cancel.new.self.level.owner.book k) number (c.cancel.ensures.ends c.args.slot c.requires.leaving.place t.0 t.1 (sym number)))

pub returns-clause-cancels : goal.returns-clause-cancels
returns-clause-cancels c =
    let s : State = state_of c.args.self.now in
    let e = c.cancel.ensures in
    let r = c.in_ok-read.ensures.reads in
    let t = token c in
    record {
      told = r.told;
      cancels = record {
        cancelled = c.cancel.new.self.level;
        answer = c.cancel.result;
        token = t.0;
        of_slot = t.1;
        cancels = subst (λ (k : ℕ). Steps s.level.owner.stations c.cancel.new.self.level.owner.stations (λ station station'. TriesToCancel station k c.cancel.result station')) (c.ticket-ticket.ensures.number t.0 t.1) e.cancels;
        same = e.same;
        stays = e.slots;
        history = e.history;
        place = c.in_ok-read.field-0;
        read = r.reads;
        over = over c;
      };
      told_are = r.told_are;
    }

pub returns-clause-tied : goal.returns-clause-tied
returns-clause-tied c = c.in_ok-read.ensures.tied (over c)
