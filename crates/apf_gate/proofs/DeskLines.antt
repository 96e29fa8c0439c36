-- The Desk at a seat, the request that it holds, and the lines on requests as it changes one.
use Rattle.std.proofs.Common.{◌≡◌, ◌≢◌, ℕ, ◌<◌, false, List, [], ◌∷◌, length, Option, Some, None, sym, ap, ◌∙◌, subst, arith}
use mathlib.Core.Logic.{dite}
use mathlib.Core.Option.{some}
use lib.ListN.{get_elem?}
use native.Mathlib.Decide.{ℕ_discrete}
use Rattle.apf_model.specs.declared.moves.Stage.TheVariants.{Waits, Gone}
use Rattle.apf_model.specs.World.{World, put}
use Rattle.apf_gate.specs.declared.record.Actor.TheVariants.{OfDesk}
use Rattle.apf_gate.specs.declared.record.Shape.{Shape}
use Rattle.apf_gate.specs.declared.record.Service.{Service}
use Rattle.apf_gate.specs.declared.record.Service.TheVariants.{Held}
use Rattle.apf_gate.specs.declared.record.PassRecord.{PassRecord}
use Rattle.apf_gate.specs.declared.record.DeskRecord.{DeskRecord}
use Rattle.apf_gate.specs.declared.record.Record.TheVariants.{Desk}
use Rattle.apf_gate.specs.Records.{level_of, service_of, service}
use Rattle.apf_gate.specs.Traces.{world_of}
use Rattle.apf_gate.specs.Requests.{IsRequest, stage_of}
use Rattle.apf_gate.specs.Account.{IsKnown}
use Rattle.apf_gate.specs.Rule.{IsRuled}
use Rattle.apf_gate.specs.Gauges.{AreLaws}
use Rattle.apf_gate.specs.DeskSteps.{CountsWaiting}
use Rattle.apf_gate.proofs.Puts.{put_here, put_else}
use Rattle.apf_gate.proofs.WordNumbers.{some_same}
use Rattle.apf_gate.proofs.Requests.{IsSame, request_elsewhere}
use Rattle.apf_gate.proofs.Views.{Table}

-- what the Desk has of requests, and which of them it holds
abbrev pub Services : Type 0
Services = List (ℕ × Service)

pub record HoldsOne (services : Services) (held : Option ℕ) : Type 0 where
  pub held_is : (r : ℕ) → held ≡ Some r → service_of services r ≡ Held
  pub is_held : (r : ℕ) → service_of services r ≡ Held → held ≡ Some r

-- the service of the request changes, and not to or from being held
pub holds_still : (xs : Services) (held : Option ℕ) (r : ℕ) (a : Service) → service_of xs r ≢ Held → a ≢ Held → HoldsOne xs held → HoldsOne ((r, a) ∷ xs) held
holds_still xs held r a was is k = record {
  held_is = λ j e. put_else (service_of xs) r a j (λ y. was (ap (service_of xs) (sym y) ∙ k.held_is j e)) ∙ k.held_is j e;
  is_held = λ j e. dite (ℕ_discrete j r)
      (λ y. absurd (is (sym (put_here (service_of xs) r a) ∙ (ap (put (service_of xs) r a) (sym y) ∙ e))))
      (λ ne. k.is_held j (sym (put_else (service_of xs) r a j ne) ∙ e));
}

-- the request is held, where none was
pub holds_now : (xs : Services) (r : ℕ) → HoldsOne xs None → HoldsOne ((r, Held) ∷ xs) (Some r)
holds_now xs r k = record {
  held_is = λ j e. ap (put (service_of xs) r Held) (sym (some_same r j e)) ∙ put_here (service_of xs) r Held;
  is_held = λ j e. dite (ℕ_discrete j r)
      (λ y. ap Some (sym y))
      (λ ne. absurd (let z = k.is_held j (sym (put_else (service_of xs) r Held j ne) ∙ e) in cc));
}

-- the request that was held is held no more
pub holds_none : (xs : Services) (r : ℕ) (a : Service) → a ≢ Held → HoldsOne xs (Some r) → HoldsOne ((r, a) ∷ xs) None
holds_none xs r a is k = record {
  held_is = λ j e. absurd (let z = e in cc);
  is_held = λ j e. dite (ℕ_discrete j r)
      (λ y. absurd (is (sym (put_here (service_of xs) r a) ∙ (ap (put (service_of xs) r a) (sym y) ∙ e))))
      (λ ne. absurd (ne (sym (some_same r j (k.is_held j (sym (put_else (service_of xs) r a j ne) ∙ e))))));
}

module _ (s : Shape) where
  -- what the rule says of the Desk at a seat
  pub record IsAt (t : Table) (h : IsRuled s t) (d : DeskRecord) : Type 0 where
    pub record_is : h.account.desk ≡ d
    pub known : IsKnown s OfDesk d.knows h.account.trace
    pub request : (r : ℕ) → r < length s.widths → IsRequest s r (h.account.pass r) (service d r) (world_of s h.account.trace)
    pub holds : HoldsOne d.services d.held

  pub is_at_desk : (t : Table) (h : IsRuled s t) (d : DeskRecord) → h.account.desk ≡ d → IsAt t h d
  is_at_desk t h d is = record {
    record_is = is;
    known = subst (λ (o : DeskRecord). IsKnown s OfDesk o.knows h.account.trace) is h.sound.desk_knows;
    request = subst (λ (o : DeskRecord). (r : ℕ) → r < length s.widths → IsRequest s r (h.account.pass r) (service o r) (world_of s h.account.trace)) is h.sound.request;
    holds = subst (λ (o : DeskRecord). HoldsOne o.services o.held) is (record { held_is = h.sound.held; is_held = h.sound.is_held });
  }

  pub is_at : (t : Table) (h : IsRuled s t) (id : ℕ) (d : DeskRecord) → get_elem? t.views id ≡ some (Desk d ∷ []) → IsAt t h d
  is_at t h id d at = is_at_desk t h d (h.views id (Desk d ∷ []) at).0.0.1

  -- the lines on requests, where the service of one changes
  pub requests_but : (pass : ℕ → PassRecord) (xs : Services) (w w' : World) (r : ℕ) (a : Service) → ((j : ℕ) → j ≢ r → IsSame w w' j) → (w.is_open ≡ false → w'.is_open ≡ false)
      → ((j : ℕ) → j < length s.widths → IsRequest s j (pass j) (service_of xs j) w) → IsRequest s r (pass r) a w'
      → (j : ℕ) → j < length s.widths → IsRequest s j (pass j) (service_of ((r, a) ∷ xs) j) w'
  requests_but pass xs w w' r a same closes k mine j l = dite (ℕ_discrete j r)
      (λ y. subst (λ z. IsRequest s z (pass z) (put (service_of xs) r a z) w') (sym y) (subst (λ b. IsRequest s r (pass r) b w') (sym (put_here (service_of xs) r a)) mine))
      (λ ne. subst (λ b. IsRequest s j (pass j) b w') (sym (put_else (service_of xs) r a j ne)) (request_elsewhere s j (pass j) (service_of xs j) w w' (same j ne) closes (k j l)))

  -- where a request waits in the Desk's record, the level word has some that wait
  pub counts_waiting : AreLaws s → (t : Table) (h : IsRuled s t) (d : DeskRecord) → IsAt t h d → CountsWaiting d (level_of s.widths (world_of s h.account.trace))
  counts_waiting laws t h d k r inside waits =
      let w = world_of s h.account.trace in
      let there : r < length s.widths = subst (λ (x : Shape). r < length x.widths) k.known.shape_is inside in
      let stage : w.stage r ≡ Waits = (k.request r there).stage ∙ ap (stage_of (h.account.pass r)) waits in
      let sums = (laws.sums w r Waits Gone there stage).1 in omega arith
