-- No exchange is lost where one account has the records of all tokens.
use Rattle.std.proofs.Common.{◌≡◌, ◌≢◌, ◌⊎◌, ℕ, ◌<◌, ◌≤◌, Bool, true, false, List, [], ◌∷◌, ◌++◌, length, Option, Some, None, sym, refl, ap, ◌∙◌, subst, inl, inr, ⊎_elim, arith}
use Rattle.std.specs.Prelude.{if◌then◌else◌, not, Any}
use Rattle.std.proofs.lemmas.List.{append_cancel_right, length-append}
use mathlib.Core.Logic.{dite}
use native.Mathlib.Decide.{ℕ_discrete}
use Rattle.std.proofs.Math.Decide.{dec_lt}
use Rattle.apf_words.specs.Level.{Level}
use Rattle.apf_model.specs.declared.moves.Move.{Move}
use Rattle.apf_words.specs.declared.decision.Decision.{Decision}
use Rattle.apf_words.specs.declared.decision.Decision.TheVariants.{Cancelled}
use Rattle.apf_model.specs.declared.moves.Move.TheVariants.{Decide, Close, See}
use Rattle.apf_gate.specs.declared.record.Shape.{Shape}
use Rattle.apf_gate.specs.declared.record.Actor.{Actor}
use Rattle.apf_gate.specs.declared.record.Actor.TheVariants.{OfPass, OfDesk, OfStation}
use Rattle.apf_gate.specs.declared.record.Entry.{Entry}
use Rattle.apf_gate.specs.declared.record.Knowledge.{Knowledge}
use Rattle.apf_gate.specs.declared.record.PassRecord.{PassRecord}
use Rattle.apf_gate.specs.declared.record.DeskRecord.{DeskRecord}
use Rattle.apf_gate.specs.declared.record.StationRecord.{StationRecord}
use Rattle.apf_gate.specs.declared.answers.TryTake.TheVariants as tried
use Rattle.apf_gate.specs.declared.answers.TryGrant.TheVariants as granted
use Rattle.apf_gate.specs.declared.answers.TrySetLimit.TheVariants as set
use Rattle.apf_gate.specs.declared.answers.Close as closed_type
use Rattle.apf_gate.specs.declared.answers.Close.TheVariants as closed
use Rattle.apf_gate.specs.declared.answers.Cancel as cancel_type
use Rattle.apf_gate.specs.declared.answers.Cancel.TheVariants as cancels
use Rattle.apf_gate.specs.Slots.{slot_of}
use Rattle.apf_gate.specs.Records.{level_of, own_width}
use Rattle.apf_gate.specs.Traces.{entry, world_of, NoneOf, GoesOn, IsToken}
use Rattle.apf_gate.specs.Account.{HoldsSlot, AreInOrder}
use Rattle.apf_gate.specs.Rule.{Every}
use Rattle.apf_gate.specs.Steps.{Both, SawLevel, SawDecision, IsOver}
use Rattle.apf_gate.specs.StationSteps.{StationClosesLevel, StationLoadsDecision, StationExchangesDecision}
use Rattle.apf_gate.specs.StationCalls.{ClosesTo, TriesToCancel, TriesToSet}
use Rattle.apf_gate.specs.PassSteps.{is_no_room, seen_no_room}
use Rattle.apf_gate.specs.PassCalls.{TriesToTake}
use Rattle.apf_gate.specs.DeskCalls.{TriesToGrant, TriesToEnter}
use Rattle.apf_gate.specs.declared.answers.TryEnter.TheVariants as entered
use Rattle.apf_gate.specs.Tokens.{GateId, PassToken, StationToken}
use Rattle.apf_gate.specs.Ends.{IsEnded}
use Rattle.apf_gate.specs.Hidden.{trace_of}
use Rattle.apf_gate.specs.Lost.{PassesSawAtMost, OthersSawAtMost, StationsSawAtMost, SawMost, seen_world, ClosesAsSeen, CancelsAsSeen}
use Rattle.apf_gate.proofs.Lists.{every_all, every_both, any_place, any_elim}
use Rattle.apf_gate.proofs.Determined.{joined, none_right, known_of}
use Rattle.apf_gate.proofs.HandedIn.{IsPassHere, IsStationHere, passes_here, stations_here, desk_here, station_there, holder_there}
use Rattle.apf_gate.proofs.Between.{nobody_came}

order_after : (s : Shape) (front es : List Entry) → AreInOrder s (front ++ es) → AreInOrder s es
order_after s [] es k = k
order_after s (x ∷ front) es k = order_after s front es k.1

-- once a request made a step, none that held its slot before makes one
order_none : (s : Shape) (q c : ℕ) (between trace : List Entry) → AreInOrder s (between ++ trace) → slot_of c ≡ slot_of q → q < c → c < length s.widths → ¬ NoneOf (OfPass c) trace → NoneOf (OfPass q) between
order_none s q c [] trace k same l inside own = tt
order_none s q c (y ∷ ys) trace k same l inside own = ((λ e. own (none_right (OfPass c) ys trace (k.0 q c e same l inside))), order_none s q c ys trace k.1 same l inside own)

module _ (g : GateId) (d : DeskRecord) (ps : List PassToken) (ts : List StationToken) (v : Level) (e : IsEnded g d ps ts v)
    (who : Actor) (m : Entry) (between trace : List Entry) (is : trace_of e.account who ≡ m ∷ (between ++ trace)) where
  abbrev pub IsQuiet : Actor → Type 0
  IsQuiet o = NoneOf o between ⊎ (length (trace_of e.account o) ≤ length trace)

  abbrev pub IsQuietPass : ℕ → Type 0
  IsQuietPass r = (NoneOf (OfPass r) between × (¬ NoneOf (OfPass r) trace)) ⊎ (length (e.account.pass r).knows.trace ≤ length trace)

  in_order : IsToken g.shape who → AreInOrder g.shape (between ++ trace)
  in_order i =
      let k = known_of g.shape e.account e.sound who i in
      let whole : (k.0 ++ m ∷ []) ++ (between ++ trace) ≡ e.account.trace = joined k.0 (m ∷ []) (between ++ trace) ∙ (ap (λ t. k.0 ++ t) (sym is) ∙ k.1) in
      order_after g.shape (k.0 ++ m ∷ []) (between ++ trace) (subst (AreInOrder g.shape) (sym whole) e.slots.order)

  holder : Every (λ (t : PassToken). IsQuietPass t.pass.number) ps → (r : ℕ) → r < length g.shape.widths → HoldsSlot e.account r → IsQuietPass r
  holder qp r l h = any_elim (λ (t : PassToken). t.pass.number ≡ r) (λ (t : PassToken). IsQuietPass t.pass.number) ps (λ t n q. subst IsQuietPass n q)
      (any_place (λ (t : PassToken). t.pass.number ≡ r) ps (holder_there g d ps ts v e r l h)) qp

  pass_quiet : IsToken g.shape who → Every (λ (t : PassToken). IsQuietPass t.pass.number) ps → (r : ℕ) → r < length g.shape.widths → IsQuiet (OfPass r)
  pass_quiet i qp r l = dite (dec_lt (slot_of r) g.shape.slots)
      (λ small. dite (ℕ_discrete (e.account.current (slot_of r)) r)
      (λ h. ⊎_elim (λ (x : NoneOf (OfPass r) between × (¬ NoneOf (OfPass r) trace)). inl x.0) (λ (x : length (e.account.pass r).knows.trace ≤ length trace). inr x) (holder qp r l h))
      (λ not.
      let c = e.account.current (slot_of r) in
      let own = e.slots.current (slot_of r) small in
      let more = e.slots.older r l small not in
      ⊎_elim
      (λ (x : NoneOf (OfPass c) between × (¬ NoneOf (OfPass c) trace)). dite (dec_lt r c)
      (λ before. inl (order_none g.shape r c between trace (in_order i) own.1 before own.0 x.1))
      (λ after. let new = ap (λ (p : PassRecord). length p.knows.trace) (e.slots.later r l (omega arith)).0 in inr (omega arith)))
      (λ (x : length (e.account.pass c).knows.trace ≤ length trace). inr (omega arith))
      (holder qp c own.0 (ap e.account.current own.1))))
      (λ big. let none = ap (λ (t : List Entry). length t) (e.slots.absent r l (omega arith)) in inr (omega arith))

  pub quiet : IsToken g.shape who → NoneOf who between → Every (λ (t : PassToken). IsQuietPass t.pass.number) ps → IsQuiet OfDesk → Every (λ (t : StationToken). IsQuiet (OfStation t.station.number)) ts → between ≡ []
  quiet i none qp qd qs = nobody_came g.shape e.account who m between trace e.sound i is none others
    where
      others : (other : Actor) → IsToken g.shape other → other ≢ who → IsQuiet other
      others OfDesk j ne = qd
      others (OfStation k) j ne = any_elim (λ (t : StationToken). t.station.number ≡ k) (λ (t : StationToken). IsQuiet (OfStation t.station.number)) ts (λ t n q. subst (λ x. IsQuiet (OfStation x)) n q)
          (any_place (λ (t : StationToken). t.station.number ≡ k) ts (station_there g d ps ts v e k j)) qs
      others (OfPass r) j ne = pass_quiet i qp r j

-- a load of the level word that saw no room changes no number in it
same_level : (s : Shape) (who : Actor) (r : ℕ) (b : Bool) (es : List Entry) → level_of s.widths (world_of s (entry who (if b then Some (See r) else None) ∷ es)) ≡ level_of s.widths (world_of s es)
same_level s who r true es = refl
same_level s who r false es = refl

-- two loads with nobody between find one word
twice : (who : Actor) (known k1 k2 : Knowledge) (level other : Level) (own : Option Move) (a : SawLevel who known level own k1) (b : SawLevel who k1 other None k2)
    → level_of known.shape.widths (world_of known.shape (entry who own ∷ (a.between ++ known.trace))) ≡ level_of known.shape.widths (world_of known.shape (a.between ++ known.trace)) → b.between ≡ [] → other ≡ level
twice who known k1 k2 level other own a b same nobody =
    let shape = ap (λ (k : Knowledge). k.shape) a.is_after in
    let trace = ap (λ (k : Knowledge). k.trace) a.is_after in
    sym b.found ∙ ((λ i. level_of (shape i).widths (world_of (shape i) (nobody i ++ trace i))) ∙ (same ∙ a.found))

-- what was seen grows
longer : (who : Actor) (known k1 : Knowledge) (level : Level) (own : Option Move) → SawLevel who known level own k1 → length known.trace < length k1.trace
longer who known k1 level own a =
    let e = ap (λ (k : Knowledge). length k.trace) a.is_after in
    let f = length-append a.between known.trace in omega arith

pub grant : (g : GateId) (d d' : DeskRecord) (ps : List PassToken) (ts : List StationToken) (v : Level) (r : ℕ) → IsEnded g d' ps ts v
    → PassesSawAtMost (length d.knows.trace) ps → StationsSawAtMost (length d.knows.trace) ts → ¬ TriesToGrant d r granted.Raced d'
grant g d d' ps ts v r e passes stations x =
    let level = x.0 in
    let other = x.1 in
    let first = x.4.1 in
    let second = x.4.2 in
    let k1 = first.0 in
    let k2 = second.0 in
    let a = first.1 in
    let b : SawLevel OfDesk k1 other None k2 = subst (λ (o : DeskRecord). SawLevel OfDesk o.knows other None k2) first.3 second.1 in
    let t : d'.knows.trace ≡ entry OfDesk None ∷ (b.between ++ k1.trace) = ap (λ (o : DeskRecord). o.knows.trace) second.3 ∙ ap (λ (k : Knowledge). k.trace) b.is_after in
    let l = longer OfDesk d.knows k1 level None a in
    let is : trace_of e.account OfDesk ≡ entry OfDesk None ∷ (b.between ++ k1.trace) = ap (λ (o : DeskRecord). o.knows.trace) (desk_here g d' ps ts v e) ∙ t in
    let nobody = quiet g d' ps ts v e OfDesk (entry OfDesk None) b.between k1.trace is tt b.of_others
    (every_both (IsPassHere g d' ps ts v e) (λ (t : PassToken). length t.pass.knows.trace ≤ length d.knows.trace) (λ (t : PassToken). IsQuietPass g d' ps ts v e OfDesk (entry OfDesk None) b.between k1.trace is t.pass.number) ps
    (λ t h few. let same = ap (λ (o : PassRecord). length o.knows.trace) h.1 in inr (omega arith)) (passes_here g d' ps ts v e) (every_all (λ (t : PassToken). length t.pass.knows.trace ≤ length d.knows.trace) ps passes))
    (inl b.of_others)
    (every_both (IsStationHere g d' ps ts v e) (λ (t : StationToken). length t.station.knows.trace ≤ length d.knows.trace) (λ (t : StationToken). IsQuiet g d' ps ts v e OfDesk (entry OfDesk None) b.between k1.trace is (OfStation t.station.number)) ts
    (λ t h few. let same = ap (λ (o : StationRecord). length o.knows.trace) h.1 in inr (omega arith)) (stations_here g d' ps ts v e) (every_all (λ (t : StationToken). length t.station.knows.trace ≤ length d.knows.trace) ts stations)) in
    x.2 (twice OfDesk d.knows k1 k2 level other None a b refl nobody)

pub take : (g : GateId) (d : DeskRecord) (ps : List PassToken) (ts : List StationToken) (v : Level) (p p' : PassRecord) → IsEnded g d ps ts v
    → Any (λ (t : PassToken). t.pass ≡ p') ps → OthersSawAtMost p.number (length p.knows.trace) ps → length d.knows.trace ≤ length p.knows.trace → StationsSawAtMost (length p.knows.trace) ts
    → ¬ TriesToTake p tried.Raced p'
take g d ps ts v p p' e there passes desk stations x =
    let level = x.0 in
    let other = x.1 in
    let first = x.6.1 in
    let second = x.6.2 in
    let k1 = first.0 in
    let k2 = second.0 in
    let n = p.number in
    let own = seen_no_room p level in
    let a = first.1 in
    let b : SawLevel (OfPass n) k1 other None k2 = subst (λ (o : PassRecord). SawLevel (OfPass o.number) o.knows other None k2) first.2 second.1 in
    let t : p'.knows.trace ≡ entry (OfPass n) None ∷ (b.between ++ k1.trace) = ap (λ (o : PassRecord). o.knows.trace) second.2 ∙ ap (λ (k : Knowledge). k.trace) b.is_after in
    let number : p'.number ≡ n = ap (λ (o : PassRecord). o.number) second.2 ∙ ap (λ (o : PassRecord). o.number) first.2 in
    let l = longer (OfPass n) p.knows k1 level own a in
    let mine : (n < length g.shape.widths) × (e.account.pass n ≡ p') =
    any_elim (λ (t : PassToken). t.pass ≡ p') (IsPassHere g d ps ts v e) ps
    (λ t same h. let at : t.pass.number ≡ n = ap (λ (o : PassRecord). o.number) same ∙ number in (subst (λ y. y < length g.shape.widths) at h.0, ap e.account.pass (sym at) ∙ (h.1 ∙ same))) there (passes_here g d ps ts v e) in
    let is : trace_of e.account (OfPass n) ≡ entry (OfPass n) None ∷ (b.between ++ k1.trace) = ap (λ (o : PassRecord). o.knows.trace) mine.1 ∙ t in
    let head : ¬ NoneOf (OfPass n) k1.trace = (λ none. (subst (NoneOf (OfPass n)) (ap (λ (k : Knowledge). k.trace) a.is_after) none).0 refl) in
    let nobody = quiet g d ps ts v e (OfPass n) (entry (OfPass n) None) b.between k1.trace is mine.0 b.of_others
    (every_both (IsPassHere g d ps ts v e) (λ (t : PassToken). t.pass.number ≢ n → length t.pass.knows.trace ≤ length p.knows.trace) (λ (t : PassToken). IsQuietPass g d ps ts v e (OfPass n) (entry (OfPass n) None) b.between k1.trace is t.pass.number) ps
    (λ t h few. dite (ℕ_discrete t.pass.number n)
    (λ same. inl (subst (λ y. NoneOf (OfPass y) b.between × (¬ NoneOf (OfPass y) k1.trace)) (sym same) (b.of_others, head)))
    (λ ne. let z = few ne in let same = ap (λ (o : PassRecord). length o.knows.trace) h.1 in inr (omega arith)))
    (passes_here g d ps ts v e) (every_all (λ (t : PassToken). t.pass.number ≢ n → length t.pass.knows.trace ≤ length p.knows.trace) ps passes))
    (inr (let same = ap (λ (o : DeskRecord). length o.knows.trace) (desk_here g d ps ts v e) in omega arith))
    (every_both (IsStationHere g d ps ts v e) (λ (t : StationToken). length t.station.knows.trace ≤ length p.knows.trace) (λ (t : StationToken). IsQuiet g d ps ts v e (OfPass n) (entry (OfPass n) None) b.between k1.trace is (OfStation t.station.number)) ts
    (λ t h few. let same = ap (λ (o : StationRecord). length o.knows.trace) h.1 in inr (omega arith)) (stations_here g d ps ts v e) (every_all (λ (t : StationToken). length t.station.knows.trace ≤ length p.knows.trace) ts stations)) in
    x.2 (twice (OfPass n) p.knows k1 k2 level other own a b (same_level p.knows.shape (OfPass n) n (is_no_room level (own_width p)) (a.between ++ p.knows.trace)) nobody)

pub enter : (g : GateId) (ps : List PassToken) (ts : List StationToken) (v : Level) (o o' : Both) → IsEnded g o'.desk ps ts v
    → OthersSawAtMost o.pass.number (length o.desk.knows.trace) ps → StationsSawAtMost (length o.desk.knows.trace) ts → ¬ NoneOf (OfPass o.pass.number) o.pass.knows.trace
    → ¬ TriesToEnter o entered.Raced o'
enter g ps ts v o o' e passes stations stepped x =
    let d = o.desk in
    let d' = o'.desk in
    let n = o.pass.number in
    let level = x.0 in
    let other = x.1 in
    let first = x.4.1 in
    let second = x.4.2 in
    let k1 = first.0 in
    let k2 = second.0 in
    let a = first.1 in
    let b : SawLevel OfDesk k1 other None k2 = subst (λ (y : Both). SawLevel OfDesk y.desk.knows other None k2) first.3 second.1 in
    let t : k2.trace ≡ entry OfDesk None ∷ (b.between ++ k1.trace) = ap (λ (k : Knowledge). k.trace) b.is_after in
    let on : GoesOn k2.trace (OfPass n) k1.trace = subst (λ (y : Both). GoesOn k2.trace (OfPass y.pass.number) y.pass.knows.trace) first.3 second.2.trace in
    let apart : on.0 ≡ entry OfDesk None ∷ b.between = append_cancel_right on.0 (entry OfDesk None ∷ b.between) k1.trace (on.1 ∙ t) in
    let none_own : NoneOf (OfPass n) b.between = (subst (NoneOf (OfPass n)) apart on.2).1 in
    let before = first.2.trace in
    let own : ¬ NoneOf (OfPass n) k1.trace = (λ none. stepped (none_right (OfPass n) before.0 o.pass.knows.trace (subst (NoneOf (OfPass n)) (sym before.1) none))) in
    let l = longer OfDesk d.knows k1 level None a in
    let is : trace_of e.account OfDesk ≡ entry OfDesk None ∷ (b.between ++ k1.trace) = ap (λ (y : DeskRecord). y.knows.trace) (desk_here g d' ps ts v e) ∙ (ap (λ (y : Both). y.desk.knows.trace) second.3 ∙ t) in
    let nobody = quiet g d' ps ts v e OfDesk (entry OfDesk None) b.between k1.trace is tt b.of_others
    (every_both (IsPassHere g d' ps ts v e) (λ (t : PassToken). t.pass.number ≢ n → length t.pass.knows.trace ≤ length d.knows.trace) (λ (t : PassToken). IsQuietPass g d' ps ts v e OfDesk (entry OfDesk None) b.between k1.trace is t.pass.number) ps
    (λ t h few. dite (ℕ_discrete t.pass.number n)
    (λ same. inl (subst (λ y. NoneOf (OfPass y) b.between × (¬ NoneOf (OfPass y) k1.trace)) (sym same) (none_own, own)))
    (λ ne. let z = few ne in let same = ap (λ (y : PassRecord). length y.knows.trace) h.1 in inr (omega arith)))
    (passes_here g d' ps ts v e) (every_all (λ (t : PassToken). t.pass.number ≢ n → length t.pass.knows.trace ≤ length d.knows.trace) ps passes))
    (inl b.of_others)
    (every_both (IsStationHere g d' ps ts v e) (λ (t : StationToken). length t.station.knows.trace ≤ length d.knows.trace) (λ (t : StationToken). IsQuiet g d' ps ts v e OfDesk (entry OfDesk None) b.between k1.trace is (OfStation t.station.number)) ts
    (λ t h few. let same = ap (λ (y : StationRecord). length y.knows.trace) h.1 in inr (omega arith)) (stations_here g d' ps ts v e) (every_all (λ (t : StationToken). length t.station.knows.trace ≤ length d.knows.trace) ts stations)) in
    x.2 (twice OfDesk d.knows k1 k2 level other None a b refl nobody)

-- nobody came between the last step of a Station and what stood before it, where the Station had seen as much as any other token
module _ (g : GateId) (d : DeskRecord) (ps : List PassToken) (ts : List StationToken) (v : Level) (c c' : StationRecord) (e : IsEnded g d ps ts v) (most : SawMost c c' d ps ts) (number : c'.number ≡ c.number)
    (m : Entry) (between trace : List Entry) (is : c'.knows.trace ≡ m ∷ (between ++ trace)) where
  mine : (c.number < g.shape.stations) × (e.account.station c.number ≡ c')
  mine = any_elim (λ (t : StationToken). t.station ≡ c') (IsStationHere g d ps ts v e) ts
      (λ t same h. let at : t.station.number ≡ c.number = ap (λ (o : StationRecord). o.number) same ∙ number in (subst (λ y. y < g.shape.stations) at h.0, ap e.account.station (sym at) ∙ (h.1 ∙ same))) most.there (stations_here g d ps ts v e)

  last : trace_of e.account (OfStation c.number) ≡ m ∷ (between ++ trace)
  last = ap (λ (o : StationRecord). o.knows.trace) mine.1 ∙ is

  pub nobody_since : NoneOf (OfStation c.number) between → length c.knows.trace ≤ length trace → between ≡ []
  nobody_since none saw = quiet g d ps ts v e (OfStation c.number) m between trace last mine.0 none
      (every_both (IsPassHere g d ps ts v e) (λ (t : PassToken). length t.pass.knows.trace ≤ length c.knows.trace) (λ (t : PassToken). IsQuietPass g d ps ts v e (OfStation c.number) m between trace last t.pass.number) ps
      (λ t h few. let same = ap (λ (o : PassRecord). length o.knows.trace) h.1 in inr (omega arith)) (passes_here g d ps ts v e) (every_all (λ (t : PassToken). length t.pass.knows.trace ≤ length c.knows.trace) ps most.passes_saw))
      (inr (let same = ap (λ (o : DeskRecord). length o.knows.trace) (desk_here g d ps ts v e) in let z = most.desk_saw in omega arith))
      (every_both (IsStationHere g d ps ts v e) (λ (t : StationToken). t.station.number ≢ c.number → length t.station.knows.trace ≤ length c.knows.trace) (λ (t : StationToken). IsQuiet g d ps ts v e (OfStation c.number) m between trace last (OfStation t.station.number)) ts
      (λ t h few. dite (ℕ_discrete t.station.number c.number)
      (λ same. inl (subst (λ y. NoneOf (OfStation y) between) (sym same) none))
      (λ ne. let z = few ne in let same = ap (λ (o : StationRecord). length o.knows.trace) h.1 in inr (omega arith)))
      (stations_here g d ps ts v e) (every_all (λ (t : StationToken). t.station.number ≢ c.number → length t.station.knows.trace ≤ length c.knows.trace) ts most.stations_saw))

pub set_limit : (g : GateId) (d : DeskRecord) (ps : List PassToken) (ts : List StationToken) (v : Level) (limit : ℕ) (c c' : StationRecord) → IsEnded g d ps ts v → SawMost c c' d ps ts → ¬ TriesToSet c limit set.Raced c'
set_limit g d ps ts v limit c c' e most x =
    let level = x.0 in
    let other = x.1 in
    let first = x.3.1 in
    let second = x.3.2 in
    let k1 = first.0 in
    let k2 = second.0 in
    let n = c.number in
    let a = first.1 in
    let b : SawLevel (OfStation n) k1 other None k2 = subst (λ (o : StationRecord). SawLevel (OfStation o.number) o.knows other None k2) first.2 second.1 in
    let t : c'.knows.trace ≡ entry (OfStation n) None ∷ (b.between ++ k1.trace) = ap (λ (o : StationRecord). o.knows.trace) second.2 ∙ ap (λ (k : Knowledge). k.trace) b.is_after in
    let number : c'.number ≡ n = ap (λ (o : StationRecord). o.number) second.2 ∙ ap (λ (o : StationRecord). o.number) first.2 in
    let l = longer (OfStation n) c.knows k1 level None a in
    let nobody = nobody_since g d ps ts v c c' e most number (entry (OfStation n) None) b.between k1.trace t b.of_others (omega arith) in
    x.2 (twice (OfStation n) c.knows k1 k2 level other None a b refl nobody)

-- a step on the level word with nobody between found the level that its token had seen
seen_level : (who : Actor) (known k1 : Knowledge) (level : Level) (own : Option Move) (a : SawLevel who known level own k1) → a.between ≡ [] → level_of known.shape.widths (world_of known.shape known.trace) ≡ level
seen_level who known k1 level own a nobody = (λ i. level_of known.shape.widths (world_of known.shape (sym nobody i ++ known.trace))) ∙ a.found

closes : (g : GateId) (d : DeskRecord) (ps : List PassToken) (ts : List StationToken) (v : Level) (c c' : StationRecord) → IsEnded g d ps ts v → SawMost c c' d ps ts → (level : Level) → StationClosesLevel c level c'
    → (c'.knows.trace ≡ entry (OfStation c.number) (Some Close) ∷ c.knows.trace) × (not (seen_world c).is_open ≡ level.closed)
closes g d ps ts v c c' e most level x =
    let n = c.number in
    let a = x.1 in
    let t : c'.knows.trace ≡ entry (OfStation n) (Some Close) ∷ (a.between ++ c.knows.trace) = ap (λ (o : StationRecord). o.knows.trace) x.2 ∙ ap (λ (k : Knowledge). k.trace) a.is_after in
    let nobody = nobody_since g d ps ts v c c' e most (ap (λ (o : StationRecord). o.number) x.2) (entry (OfStation n) (Some Close)) a.between c.knows.trace t a.of_others (omega arith) in
    (t ∙ (λ i. entry (OfStation n) (Some Close) ∷ (nobody i ++ c.knows.trace)), ap (λ (y : Level). y.closed) (seen_level (OfStation n) c.knows x.0 level (Some Close) a nobody))

is_open : (b : Bool) → not b ≡ false → b ≡ true
is_open true e = refl
is_open false e = absurd (let z = e in cc)

is_closed : (b : Bool) → not b ≡ true → b ≡ false
is_closed true e = absurd (let z = e in cc)
is_closed false e = refl

pub close : (g : GateId) (d : DeskRecord) (ps : List PassToken) (ts : List StationToken) (v : Level) (answer : closed_type.Close) (c c' : StationRecord) → IsEnded g d ps ts v → SawMost c c' d ps ts → ClosesTo c answer c' → ClosesAsSeen c answer c'
close g d ps ts v closed.First c c' e most x = let y = closes g d ps ts v c c' e most x.0 x.1 in record { next = y.0; first = is_open (seen_world c).is_open (y.1 ∙ x.2) }
close g d ps ts v closed.Already c c' e most x = let y = closes g d ps ts v c c' e most x.0 x.1 in record { next = y.0; first = is_closed (seen_world c).is_open (y.1 ∙ x.2) }

-- a step on a decision word with nobody between
decides : (g : GateId) (d : DeskRecord) (ps : List PassToken) (ts : List StationToken) (v : Level) (c c' : StationRecord) → IsEnded g d ps ts v → SawMost c c' d ps ts
    → (r : ℕ) (found left : Option Decision) (own : Option Move) (known' : Knowledge) → SawDecision (OfStation c.number) c.knows r found left own known' → c' ≡ record c { knows = known' }
    → ((seen_world c).decision r ≡ found) × (c'.knows.trace ≡ entry (OfStation c.number) own ∷ c.knows.trace)
decides g d ps ts v c c' e most r found left own known' a is =
    let n = c.number in
    let t : c'.knows.trace ≡ entry (OfStation n) own ∷ (a.between ++ c.knows.trace) = ap (λ (o : StationRecord). o.knows.trace) is ∙ ap (λ (k : Knowledge). k.trace) a.is_after in
    let nobody = nobody_since g d ps ts v c c' e most (ap (λ (o : StationRecord). o.number) is) (entry (OfStation n) own) a.between c.knows.trace t a.of_others (omega arith) in
    ((λ i. (world_of c.knows.shape (sym nobody i ++ c.knows.trace)).decision r) ∙ a.found_is, t ∙ (λ i. entry (OfStation n) own ∷ (nobody i ++ c.knows.trace)))

pub cancel : (g : GateId) (d : DeskRecord) (ps : List PassToken) (ts : List StationToken) (v : Level) (r : ℕ) (answer : cancel_type.Cancel) (c c' : StationRecord) → IsEnded g d ps ts v → SawMost c c' d ps ts → TriesToCancel c r answer c' → CancelsAsSeen c r answer c'
cancel g d ps ts v r (cancels.Is answer) c c' e most x = ⊎_elim
    (λ (y : StationExchangesDecision r c c' × (answer ≡ Cancelled)). let z = decides g d ps ts v c c' e most r None (Some Cancelled) (Some (Decide r Cancelled)) y.0.0 y.0.1 y.0.2 in inl (z.0, y.1, z.1))
    (λ (y : StationLoadsDecision r c (Some answer) c'). inr (decides g d ps ts v c c' e most r (Some answer) (Some answer) None y.0 y.1 y.2)) x
cancel g d ps ts v r cancels.Other c c' e most x =
    let n = c.number in
    let a = x.1 in
    let t : c'.knows.trace ≡ entry (OfStation n) None ∷ (a.between ++ c.knows.trace) = ap (λ (o : StationRecord). o.knows.trace) x.2 ∙ ap (λ (k : Knowledge). k.trace) a.is_after in
    let nobody = nobody_since g d ps ts v c c' e most (ap (λ (o : StationRecord). o.number) x.2) (entry (OfStation n) None) a.between c.knows.trace t a.of_others (omega arith) in
    (subst (λ (l : List Entry). IsOver (world_of c.knows.shape (l ++ c.knows.trace)) r) nobody a.is_over, t ∙ (λ i. entry (OfStation n) None ∷ (nobody i ++ c.knows.trace)))
