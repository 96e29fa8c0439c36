-- A slot whose request was settled, and then gave its seats back.
use Rattle.std.proofs.Common.{rules, ◌≡◌, ◌<◌, ℕ, List, length, get_or, set, Some, refl, sym, ap, ◌∙◌, subst}
use Rattle.std.specs.Prelude.{slice_get}
use Rattle.std.proofs.lemmas.Option.{slice_get-get_or}
use Rattle.apf_history.specs.declared.events.Event.{Event}
use Rattle.apf_model.specs.World.{width}
use Rattle.apf_gate.specs.Tokens.{PassToken}
use Rattle.apf_book.specs.LifeBook.{IsLifeKept}
use Rattle.apf_local.specs.declared.answer.Place.{Place}
use Rattle.apf_local.specs.declared.answer.Place.TheVariants as places
use Rattle.apf_local.specs.Levels.{LocalView, SameLocal, SlotMoves, Finishes, SettlesOn}
use Rattle.apf_line.specs.SeatTime.{seat_time_of}
use Rattle.apf_line.specs.Seats.{HeldSeats}
use Rattle.apf_local.specs.Owners.{SameOwner}
use Rattle.apf_local.proofs.Beginning.{opened}
use Rattle.apf_local.proofs.Charged.{settles_on}
use Rattle.apf_local.proofs.Seats.{held_then, settled_view}
use Rattle.apf_local.proofs.Slots.{owner_then, local_kept}
use Rattle.apf_local.proofs.level.LocalLevel.finish_measured.Goals as goal

pub settle-settled-requires-clause-runs : goal.settle-settled-requires-clause-runs
settle-settled-requires-clause-runs c = λ t at.
    let inside : c.args.slot < length c.self.inside.places.items = (search rules) in
    let is : get_or c.self.inside.places.items c.args.slot places.Runs ≡ places.Runs = (search rules) in
    let here : slice_get c.self.inside.places.items c.args.slot ≡ Some places.Runs = slice_get-get_or c.self.inside.places.items c.args.slot places.Runs inside ∙ ap (λ (p : Place). Some p) is in
    c.self.invariant.at c.args.slot places.Runs t here at

pub give_back-requires-clause-runs : goal.give_back-requires-clause-runs
give_back-requires-clause-runs c = λ t at.
    let inside : c.args.slot < length c.self.inside.places.items = (search rules) in
    let is : get_or c.self.inside.places.items c.args.slot places.Runs ≡ places.Runs = (search rules) in
    let here : slice_get c.self.inside.places.items c.args.slot ≡ Some places.Runs = slice_get-get_or c.self.inside.places.items c.args.slot places.Runs inside ∙ ap (λ (p : Place). Some p) is in
    c.self.invariant.at c.args.slot places.Runs t here (subst (λ (ts : List PassToken). slice_get ts c.args.slot ≡ Some t) c.settle-settled.ensures.stay.passes at)

pub invariant_of-self : goal.invariant_of-self
invariant_of-self c =
    let l : LocalView = record { owner = c.self.inside.owner; sizes = c.self.inside.dealer; places = c.self.inside.places.items } in
    let h = c.has_a_history-2.ensures in
    let moves = c.give_back.ensures.gives in
    let kept = c.give_back.ensures.history h.view h.kept in
    let stopped = (opened c.every_level_has_histories.ensures).served h.view c.give_back.new.self.book c.dispatch.new.self.book c.dispatch.result c.dispatch.ensures.same.book (c.dispatch.ensures.served h.view kept) in
    let first : SameOwner l.owner c.give_back.new.self = owner_then l.owner c.settle-settled.new.self c.give_back.new.self c.settle-settled.ensures.same c.give_back.ensures.same in
    let now = moves.now ∙ ap (λ (ts : List PassToken). set ts c.args.slot moves.after) c.settle-settled.ensures.stay.passes in
    local_kept l c.self.invariant c.give_back.new.self c.dispatch.new.self first c.dispatch.ensures.same c.dispatch.ensures.stay c.args.slot places.Free moves.after now moves.does.is (λ e. absurd (let z : places.Free ≡ places.Waits = e in cc)) stopped

pub returns-clause-same : goal.returns-clause-same
returns-clause-same c =
    let l : LocalView = record { owner = c.self.inside.owner; sizes = c.self.inside.dealer; places = c.self.inside.places.items } in
    let first : SameOwner l.owner c.give_back.new.self = owner_then l.owner c.settle-settled.new.self c.give_back.new.self c.settle-settled.ensures.same c.give_back.ensures.same in
    subst (λ (x : LocalView). SameLocal x (record { owner = c.dispatch.new.self; sizes = c.self.inside.dealer; places = set c.self.inside.places.items c.args.slot places.Free })) c.self.view_is (record { owner = owner_then l.owner c.give_back.new.self c.dispatch.new.self first c.dispatch.ensures.same; sizes = refl })

pub returns-clause-finishes : goal.returns-clause-finishes
returns-clause-finishes c =
    let moves = c.give_back.ensures.gives in
    let inside : c.args.slot < length c.self.inside.places.items = (search rules) in
    let is : get_or c.self.inside.places.items c.args.slot places.Runs ≡ places.Runs = (search rules) in
    let here : slice_get c.self.inside.places.items c.args.slot ≡ Some places.Runs = slice_get-get_or c.self.inside.places.items c.args.slot places.Runs inside ∙ ap (λ (p : Place). Some p) is in
    subst (λ (x : LocalView). SlotMoves c.args.slot x (record { owner = c.dispatch.new.self; sizes = c.self.inside.dealer; places = set c.self.inside.places.items c.args.slot places.Free }) Finishes) c.self.view_is (record {
      before = moves.before;
      after = moves.after;
      place = places.Runs;
      place' = places.Free;
      was = subst (λ (ts : List PassToken). slice_get ts c.args.slot ≡ Some moves.before) c.settle-settled.ensures.stay.passes moves.was;
      was_at = here;
      now = c.dispatch.ensures.stay.passes ∙ (moves.now ∙ ap (λ (ts : List PassToken). set ts c.args.slot moves.after) c.settle-settled.ensures.stay.passes);
      now_at = refl;
      does = record { ran = refl; place_is = refl; waiting = c.give_back.result; gives = moves.does };
    })

pub returns-clause-settles : goal.returns-clause-settles
returns-clause-settles c = λ released t at v is.
    let here : slice_get c.self.inside.owner.passes c.args.slot ≡ Some t = subst (λ (x : LocalView). slice_get x.owner.passes c.args.slot ≡ Some t) (sym c.self.view_is) at in
    let kept : IsLifeKept v c.self.inside.owner.book = subst (λ (x : LocalView). IsLifeKept v x.owner.book) (sym c.self.view_is) is in
    let amount : c.seat_time-amount.result ≡ seat_time_of (width c.self.inside.owner.gate.shape.widths t.pass.number) c.args.micros = c.seat_time-amount.ensures.value ∙ ap (λ (w : ℕ). seat_time_of w c.args.micros) (c.width.ensures.width t here) in
    subst (λ (x : LocalView). SettlesOn v x.owner.book t.pass.number (seat_time_of (width x.owner.gate.shape.widths t.pass.number) c.args.micros) c.settle-settled.result c.dispatch.new.self.book) c.self.view_is
    (subst (λ (m : ℕ). SettlesOn v c.self.inside.owner.book t.pass.number m c.settle-settled.result c.dispatch.new.self.book) amount
    (settles_on v c.self.inside.owner.book c.settle-settled.new.self.book c.give_back.new.self.book c.dispatch.new.self.book t.pass.number c.seat_time-amount.result c.dispatch.result kept c.give_back.ensures.history c.dispatch.ensures.served c.settle-settled.result (c.settle-settled.ensures.settles t here v kept)))

pub returns-clause-held : goal.returns-clause-held
returns-clause-held c = λ released t at v is.
    let here : slice_get c.self.inside.owner.passes c.args.slot ≡ Some t = subst (λ (x : LocalView). slice_get x.owner.passes c.args.slot ≡ Some t) (sym c.self.view_is) at in
    let kept : IsLifeKept v c.self.inside.owner.book = subst (λ (x : LocalView). IsLifeKept v x.owner.book) (sym c.self.view_is) is in
    let then = settled_view v c.self.inside.owner.book c.settle-settled.new.self.book t.pass.number c.seat_time-amount.result c.settle-settled.result kept (c.settle-settled.ensures.settles t here v kept) in
    let there : slice_get c.settle-settled.new.self.passes c.args.slot ≡ Some t = ap (λ (ts : List PassToken). slice_get ts c.args.slot) c.settle-settled.ensures.stay.passes ∙ here in
    held_then c.give_back.new.self c.dispatch.new.self c.dispatch.ensures.same v.history t.pass.number
    (subst (λ (h : List Event). HeldSeats c.give_back.new.self.gate.shape c.give_back.new.self.book.desk.desk.knows.trace h t.pass.number) then.2 (c.give_back.ensures.held t there then.0 then.1))
