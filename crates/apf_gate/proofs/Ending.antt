-- What the end of a batch tells of its tokens.
use Rattle.std.proofs.Common.{◌≡◌, ◌≢◌, ◌⊎◌, ℕ, ◌<◌, true, List, length, Some, sym, refl, ap, ◌∙◌, inl, inr, ⊎_elim, arith}
use Rattle.std.specs.Prelude.{Any}
use Rattle.apf_words.specs.declared.decision.Decision.{Decision}
use Rattle.apf_words.specs.declared.decision.Decision.TheVariants.{Execute, QueueFull, Closed, Cancelled, ConcurrencyLimit}
use Rattle.apf_model.specs.declared.response.Response.TheVariants.{Reject}
use Rattle.apf_gate.specs.declared.record.State.TheVariants.{Took, Over}
use Rattle.apf_gate.specs.declared.record.Service.TheVariants.{RefusedFull, RefusedClosed, Settled}
use Rattle.apf_gate.specs.declared.record.PassRecord.{PassRecord}
use Rattle.apf_gate.specs.declared.record.DeskRecord.{DeskRecord}
use Rattle.apf_gate.specs.Records.{service}
use Rattle.apf_gate.specs.Rule.{Every}
use Rattle.apf_gate.specs.Slots.{slot_of}
use Rattle.apf_gate.specs.Account.{HoldsSlot}
use Rattle.apf_gate.specs.Tokens.{GateId, PassToken, StationToken}
use Rattle.apf_gate.specs.Ends.{WordsView, IsDecided, IsEnded, EndsWith, Wrote, ExecutedIt, LimitedIt, IsBack, WroteCancelled, ClosedFirst, EndAgrees}
use Rattle.apf_gate.proofs.WordNumbers.{some_same}
use Rattle.apf_gate.proofs.Lists.{every_map, every_all, all_every, AnyOf, any_place, any_with, any_elim, every_both}
use Rattle.apf_gate.proofs.HandedIn.{IsPassHere, passes_here, holder_there, station_there}
use Rattle.apf_gate.proofs.Ended.{IsDecidedSo, longest, told, cancelled_by_one, cancelled_is_written, cancelled_by_no_other, closed_by_one, closed_is_seen, closed_is_first, closed_by_no_other, desk_decided, full_was_refused, closed_was_written, limit_was_written, executed, pass_decided, back_by, gone, drained, at_most_one}

-- the end of a batch is an end
abbrev pub ended_of : (g : GateId) (d : DeskRecord) (ps : List PassToken) (ts : List StationToken) (w : WordsView) → EndsWith g d ps ts w → IsEnded g d ps ts w.level
ended_of g d ps ts w e = record {
  account = e.account;
  sound = e.sound;
  slots = e.slots;
  shape = e.shape;
  laws = e.laws;
  level_is = e.level;
  stand = e.stand;
  apart = e.apart;
  all_passes = e.all_passes ∙ e.batch;
  all_stations = e.all_stations;
}

module _ (g : GateId) (d : DeskRecord) (ps : List PassToken) (ts : List StationToken) (w : WordsView) (e : EndsWith g d ps ts w) where
  abbrev i : IsEnded g d ps ts w.level
  i = ended_of g d ps ts w e

  -- in a batch each request holds its slot
  holds : (r : ℕ) → r < length g.shape.widths → HoldsSlot e.account r
  holds r l =
      let few = e.shape.few_slots in
      let batch = e.batch in
      let small : slot_of r < g.shape.slots = omega arith in
      let own = e.slots.current (slot_of r) small in
      let below = own.0 in
      let same = own.1 in omega arith

  pass_there : (r : ℕ) → r < length g.shape.widths → AnyOf (λ t. t.pass.number ≡ r) ps
  pass_there r l = holder_there g d ps ts w.level i r l (holds r l)

  -- what a request's word holds, the trace makes of it
  so : (r : ℕ) (x : Decision) → r < length g.shape.widths → IsDecided w r x → IsDecidedSo g d ps ts w.level i r x
  so r x l is = some_same _ _ (sym (e.decided r l) ∙ is)

  word : (r : ℕ) (x : Decision) → r < length g.shape.widths → IsDecidedSo g d ps ts w.level i r x → IsDecided w r x
  word r x l is = e.decided r l ∙ ap Some is

  -- of the request's own Pass, which was handed in
  of_pass : (P : PassToken → Type 0) (r : ℕ) → r < length g.shape.widths → ((t : PassToken) → t.pass.number ≡ r → e.account.pass r ≡ t.pass → P t) → Any P ps
  of_pass P r l f = any_place P ps (any_with (λ (t : PassToken). t.pass.number ≡ r) (IsPassHere g d ps ts w.level i) P ps (λ t n h. f t n (ap e.account.pass (sym n) ∙ h.1)) (pass_there r l) (passes_here g d ps ts w.level i))

  wrote_cancelled : (r : ℕ) → r < length g.shape.widths → Every (λ t. WroteCancelled r t → IsDecided w r Cancelled) ts
  wrote_cancelled r l = every_map (λ (t : StationToken). WroteCancelled r t → IsDecidedSo g d ps ts w.level i r Cancelled) (λ (t : StationToken). WroteCancelled r t → IsDecided w r Cancelled) ts
      (λ t f c. word r Cancelled l (f c)) (cancelled_is_written g d ps ts w.level i r)

  closed : (r : ℕ) → r < length g.shape.widths → IsDecided w r Closed → ((service d r ≡ RefusedClosed) ⊎ Any (Wrote r Closed) ps) × (w.level.closed ≡ true)
  closed r l is = let x = closed_was_written g d ps ts w.level i r l (so r Closed l is) in (
    ⊎_elim (λ (o : service d r ≡ RefusedClosed). inl o) (λ (o : (e.account.pass r).wrote ≡ Some Closed). inr (of_pass (Wrote r Closed) r l (λ t n same. (n, ap (λ (p : PassRecord). p.wrote) (sym same) ∙ o)))) x.0,
    x.1,
  )

  limited : (r : ℕ) → r < length g.shape.widths → IsDecided w r ConcurrencyLimit → Any (LimitedIt r) ps × (g.shape.response ≡ Reject)
  limited r l is = let x = limit_was_written g d ps ts w.level i r l (so r ConcurrencyLimit l is) in
      (of_pass (LimitedIt r) r l (λ t n same. (n, ap (λ (p : PassRecord). p.saw_no_room) (sym same) ∙ x.0, ap (λ (p : PassRecord). p.wrote) (sym same) ∙ x.1)), x.2)

  executes : (r : ℕ) → r < length g.shape.widths → IsDecided w r Execute → (service d r ≡ Settled) ⊎ Any (ExecutedIt r) ps
  executes r l is = ⊎_elim (λ (o : service d r ≡ Settled). inl o)
      (λ (o : ((e.account.pass r).took ≡ true) × ((e.account.pass r).wrote ≡ Some Execute)).
      inr (of_pass (ExecutedIt r) r l (λ t n same. (n, ap (λ (p : PassRecord). p.took) (sym same) ∙ o.0, ap (λ (p : PassRecord). p.wrote) (sym same) ∙ o.1))))
      (executed g d ps ts w.level i r l (so r Execute l is))

  written : Every (λ (t : PassToken). (x : Decision) → t.pass.wrote ≡ Some x → IsDecided w t.pass.number x) ps
  written = every_map (IsPassHere g d ps ts w.level i) (λ (t : PassToken). (x : Decision) → t.pass.wrote ≡ Some x → IsDecided w t.pass.number x) ps
      (λ t h x is. word t.pass.number x h.0 (pass_decided g d ps ts w.level i t.pass.number h.0 x (ap (λ (o : PassRecord). o.wrote) h.1 ∙ is))) (passes_here g d ps ts w.level i)

  -- what is so of a request by the token of its Pass
  back : Every IsBack ps → (r : ℕ) → r < length g.shape.widths → ((e.account.pass r).state ≢ Took) × (service d r ≡ Settled → (e.account.pass r).state ≡ Over)
  back all r l = any_elim (λ (t : PassToken). t.pass.number ≡ r) (λ (t : PassToken). (IsPassHere g d ps ts w.level i) t × IsBack t) ps
      (λ t n h. back_by g d ps ts w.level i t r n l h.0 h.1)
      (any_place (λ (t : PassToken). t.pass.number ≡ r) ps (pass_there r l)) (every_both (IsPassHere g d ps ts w.level i) IsBack (λ (t : PassToken). (IsPassHere g d ps ts w.level i) t × IsBack t) ps (λ t a b. (a, b)) (passes_here g d ps ts w.level i) all)

  pub agrees : EndAgrees g d ps ts w
  agrees = record {
    each_pass = λ r l. any_place (λ (t : PassToken). t.pass.number ≡ r) ps (pass_there r l);
    each_station = λ k l. any_place (λ (t : StationToken). t.station.number ≡ k) ts (station_there g d ps ts w.level i k l);
    last = (e.account.trace, longest g d ps ts w.level i, (e.level, e.decided));
    told = λ r x l was. word r x l (told g d ps ts w.level i r x was);
    cancelled_by_one = λ r l is. any_place (WroteCancelled r) ts (cancelled_by_one g d ps ts w.level i r (so r Cancelled l is));
    cancelled_is_written = λ r l. all_every (λ (t : StationToken). WroteCancelled r t → IsDecided w r Cancelled) ts (wrote_cancelled r l);
    cancelled_by_no_other = λ r. at_most_one g d ps ts w.level i (WroteCancelled r) (cancelled_by_no_other g d ps ts w.level i r);
    closed_by_one = λ is. any_place ClosedFirst ts (closed_by_one g d ps ts w.level i is);
    closed_is_first = all_every (λ (t : StationToken). ClosedFirst t → w.level.closed ≡ true) ts (closed_is_first g d ps ts w.level i);
    closed_by_no_other = at_most_one g d ps ts w.level i ClosedFirst (closed_by_no_other g d ps ts w.level i);
    closed_is_seen = all_every (λ (t : StationToken). t.station.knows.saw_closed ≡ true → w.level.closed ≡ true) ts (closed_is_seen g d ps ts w.level i);
    executed = executes;
    settled = λ r l is. word r Execute l (desk_decided g d ps ts w.level i r Settled Execute l is refl);
    full_was_refused = λ r l is. full_was_refused g d ps ts w.level i r l (so r QueueFull l is);
    refused_as_full = λ r l is. word r QueueFull l (desk_decided g d ps ts w.level i r RefusedFull QueueFull l is refl);
    closed_was_written = closed;
    refused_as_closed = λ r l is. word r Closed l (desk_decided g d ps ts w.level i r RefusedClosed Closed l is refl);
    limit_was_written = limited;
    written = all_every (λ (t : PassToken). (x : Decision) → t.pass.wrote ≡ Some x → IsDecided w t.pass.number x) ps written;
    drained = λ all held waits. drained g d ps ts w.level i (λ r l. let b = back (every_all IsBack ps all) r l in gone g d ps ts w.level i r l b.0 b.1 held (waits r l));
  }
