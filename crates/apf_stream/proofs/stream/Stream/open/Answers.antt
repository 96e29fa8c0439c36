use Rattle.std.proofs.Common.{◌≡◌, length, ℕ, Result, Ok, Err, sym, ap, subst, arith}
use Rattle.std.specs.Prelude.{IfErr}
use Rattle.std.specs.Result.{IsErrAnd}
use Rattle.apf_local.specs.Openings.{IsOpenFault}
use Rattle.apf_local.specs.declared.fault.OpenFault.{OpenFault}
use Rattle.apf_local.specs.declared.fault.OpenFault.TheVariants.{NoMemory}
use Rattle.apf_model.specs.declared.config.Config.{Config}
use Rattle.apf_stream.specs.declared.stream.Stream.{Stream}
use Rattle.apf_calendar.specs.Guests.{SlotsView}
use Rattle.apf_stream.specs.States.{State}
use Rattle.apf_stream.proofs.Tying.{opening_tied}
use Rattle.apf_stream.proofs.stream.Stream.open.Goals as goal

pub returns-clause-tied : goal.returns-clause-tied
returns-clause-tied c =
    let s : State = record { level = c.in_ok-level.level.level; slots = c.in_ok-calendar.calendar; holds = c.in_ok-holds.holds.items; charges = c.in_ok-charges.charges } in
    let opened = c.in_ok-level.ensures.opened in
    let len = c.in_ok-holds.ensures.len in
    let ok = c.in_ok-holds.holds.ok.0 in
    let many : length c.in_ok-holds.holds.items ≡ c.args.slots = omega arith in
    opening_tied s c.args.slots opened.count opened.free (ap (λ (v : SlotsView). v.slots) c.in_ok-calendar.ensures) many

-- memory may be refused at any time
refused : (config : Config) (slots : ℕ) (r : Result Stream OpenFault) → IsErrAnd r (λ (e : OpenFault). e ≡ NoMemory) → IfErr r (IsOpenFault config slots)
refused config slots (Ok s) is = tt
refused config slots (Err e) is = subst (λ (x : OpenFault). IsOpenFault config slots x) (sym is) tt

pub returns-in_err-holds-clause-fault : goal.returns-in_err-holds-clause-fault
returns-in_err-holds-clause-fault c = refused c.args.config.now c.args.slots c.from_residual-in_err-holds.result c.from_residual-in_err-holds.ensures.1

pub returns-in_err-charges-clause-fault : goal.returns-in_err-charges-clause-fault
returns-in_err-charges-clause-fault c = refused c.args.config.now c.args.slots c.from_residual-in_err-charges.result c.from_residual-in_err-charges.ensures.1

pub returns-in_err-room-clause-fault : goal.returns-in_err-room-clause-fault
returns-in_err-room-clause-fault c = refused c.args.config.now c.args.slots c.from_residual-in_err-room.result c.from_residual-in_err-room.ensures.1
