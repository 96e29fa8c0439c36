-- What keeps the Desk in agreement with a history.
use Rattle.std.proofs.Common.{◌≡◌, ◌≢◌, ◌↔◌, ℕ, ◌⊎◌, inl, inr, Bool, true, false, not, eqb, List, [], ◌∷◌, Option, Some, None, refl, sym, ap, ◌∙◌, subst}
use Rattle.std.specs.Prelude.{Contains}
use Rattle.std.proofs.lemmas.Bool.{cases_eq}
use Rattle.apf_words.specs.declared.decision.Decision.{Decision}
use Rattle.apf_words.specs.declared.decision.Decision.TheVariants.{Cancelled}
use Rattle.apf_history.specs.declared.events.Event.{Event}
use Rattle.apf_history.specs.declared.events.Event.TheVariants.{Enter, Strike}
use Rattle.apf_history.specs.declared.events.Status.{Status}
use Rattle.apf_history.specs.declared.events.Status.TheVariants as status_is
use Rattle.apf_model.specs.World.{put}
use Rattle.apf_model.specs.History.{request_of, has_arrived, waiting}
use Rattle.apf_model.specs.Order.{status, makes, has_entered, changed, AreStatuses, Follows}
use Rattle.apf_gate.specs.declared.record.Service.{Service}
use Rattle.apf_gate.specs.declared.record.Service.TheVariants.{NotHanded, Handed, RefusedFull, RefusedClosed, Waiting, Held, Settled, Left}
use Rattle.apf_gate.specs.declared.record.DeskRecord.{DeskRecord}
use Rattle.apf_gate.specs.Records.{told_of, service, KnowsMore}
use Rattle.apf_gate.specs.Requests as requests
use Rattle.apf_book.specs.BookView.{logged}
use Rattle.apf_book.specs.Agreeing.{IsDeskOf}
use Rattle.apf_book.specs.Moves.{Moves}
use Rattle.apf_book.specs.Said.{saying, Says}
use Rattle.apf_book.proofs.Puts.{put_here, put_else}
use Rattle.apf_book.proofs.Knowing.{told_still}
use Rattle.apf_book.proofs.Lists.{Contains-filter}
use Rattle.apf_book.proofs.Moving.{moves_same}

-- steps after which the history says what it said
pub agreed_moves : (desk desk' : DeskRecord) (h : List Event) (r : ℕ) → IsDeskOf h desk → Moves desk r (logged (service desk r)) desk' → Says [] desk.knows desk'.knows → desk'.held ≡ None → IsDeskOf h desk'
agreed_moves desk desk' h r kept moves says held = record {
  said = kept.said ∙ sym says.is;
  did = λ j. elim (cases_eq j r) [
    | inl same ↦ ap (λ (i : ℕ). logged (service desk' i)) same ∙ (moves.here ∙ (kept.did r ∙ ap (λ (i : ℕ). Some (status h i)) (sym same)))
    | inr other ↦ ap logged (moves.others j other) ∙ kept.did j
  ];
  holds_none = held;
  struck = λ j is. told_still desk.knows desk'.knows j Cancelled moves.more (kept.struck j is);
}

-- steps that did nothing and said nothing
pub agreed_quiet : (desk desk' : DeskRecord) (h : List Event) → IsDeskOf h desk → (desk'.services ≡ desk.services) × (desk'.held ≡ desk.held) → KnowsMore desk.knows desk'.knows → Says [] desk.knows desk'.knows → IsDeskOf h desk'
agreed_quiet desk desk' h kept same more says = agreed_moves desk desk' h 0 kept (moves_same desk desk' 0 same.0 more) says (same.1 ∙ kept.holds_none)

-- steps after which the history has an event more, which they made
pub agreed_after : (desk desk' : DeskRecord) (h : List Event) (e : Event) → IsDeskOf h desk → Moves desk (request_of e) (Some (makes e)) desk' → Says (saying e ∷ []) desk.knows desk'.knows → desk'.held ≡ None
    → (makes e ≡ status_is.Struck → told_of desk'.knows.told (request_of e) ≡ Some Cancelled) → IsDeskOf (e ∷ h) desk'
agreed_after desk desk' h e kept moves says held told = record {
  said = ap (λ (xs : List (ℕ × Status)). saying e ∷ xs) kept.said ∙ sym says.is;
  did = λ j. elim (cases_eq j (request_of e)) [
    | inl same ↦ ap (λ (i : ℕ). logged (service desk' i)) same ∙ (moves.here ∙ (ap (λ (s : Status). Some s) (sym (put_here (status h) (request_of e) (makes e))) ∙ ap (λ (i : ℕ). Some (status (e ∷ h) i)) (sym same)))
    | inr other ↦ ap logged (moves.others j other) ∙ (kept.did j ∙ ap (λ (s : Status). Some s) (sym (put_else (status h) (request_of e) (makes e) j other)))
  ];
  holds_none = held;
  struck = λ j is. elim (cases_eq j (request_of e)) [
    | inl same ↦ ap (told_of desk'.knows.told) same ∙ told (sym (put_here (status h) (request_of e) (makes e)) ∙ (ap (status (e ∷ h)) (sym same) ∙ is))
    | inr other ↦ told_still desk.knows desk'.knows j Cancelled moves.more (kept.struck j (sym (put_else (status h) (request_of e) (makes e) j other) ∙ is))
  ];
}

-- what the Desk did, where the history says this
pub is_waiting : (x : Service) → logged x ≡ Some status_is.Waits → x ≡ Waiting
is_waiting NotHanded e = absurd (cc)
is_waiting Handed e = absurd (cc)
is_waiting RefusedFull e = absurd (cc)
is_waiting RefusedClosed e = absurd (cc)
is_waiting Waiting e = refl
is_waiting Held e = absurd (cc)
is_waiting Settled e = absurd (cc)
is_waiting Left e = absurd (cc)

pub is_settled : (x : Service) → logged x ≡ Some status_is.Dispatched → x ≡ Settled
is_settled NotHanded e = absurd (cc)
is_settled Handed e = absurd (cc)
is_settled RefusedFull e = absurd (cc)
is_settled RefusedClosed e = absurd (cc)
is_settled Waiting e = absurd (cc)
is_settled Held e = absurd (cc)
is_settled Settled e = refl
is_settled Left e = absurd (cc)

pub is_full : (x : Service) → logged x ≡ Some status_is.Full → x ≡ RefusedFull
is_full NotHanded e = absurd (cc)
is_full Handed e = absurd (cc)
is_full RefusedFull e = refl
is_full RefusedClosed e = absurd (cc)
is_full Waiting e = absurd (cc)
is_full Held e = absurd (cc)
is_full Settled e = absurd (cc)
is_full Left e = absurd (cc)

module _ (h : List Event) (statuses : AreStatuses h) (desk : DeskRecord) (kept : IsDeskOf h desk) where
  -- of a request that did not arrive the history says nothing
  pub agreed_away : (r : ℕ) → has_arrived h r ≡ false → logged (service desk r) ≡ Some status_is.Away
  agreed_away r new = kept.did r ∙ ap (λ (s : Status). Some s) ((statuses.away r).1 new)

  -- a member of a queue waits
  pub agreed_waits : (q r : ℕ) → Contains (waiting h q) r → service desk r ≡ Waiting
  agreed_waits q r member = is_waiting (service desk r) (kept.did r ∙ ap (λ (s : Status). Some s) ((statuses.waits r).1 (q, member)))

  -- a member of a queue of which a decision was told was told cancelled
  pub agreed_cancelled : (q r : ℕ) (found : Option Decision) → Contains (waiting h q) r → (service desk r ≡ Waiting → (found ≡ None) ⊎ (found ≡ Some Cancelled)) → found ≢ None → found ≡ Some Cancelled
  agreed_cancelled q r found member says some = elim (says (agreed_waits q r member)) [
    | inl none ↦ absurd (some none)
    | inr is ↦ is
  ]

entered_logged : (x : Service) (s : Status) → logged x ≡ Some s → has_entered s ≡ requests.has_entered x
entered_logged NotHanded s e = let is : status_is.Away ≡ s = cc in ap has_entered (sym is)
entered_logged Handed s e = let is : status_is.Away ≡ s = cc in ap has_entered (sym is)
entered_logged RefusedFull s e = let is : status_is.Full ≡ s = cc in ap has_entered (sym is)
entered_logged RefusedClosed s e = let is : status_is.Away ≡ s = cc in ap has_entered (sym is)
entered_logged Waiting s e = let is : status_is.Waits ≡ s = cc in ap has_entered (sym is)
entered_logged Held s e = absurd (cc)
entered_logged Settled s e = let is : status_is.Dispatched ≡ s = cc in ap has_entered (sym is)
entered_logged Left s e = let is : status_is.Struck ≡ s = cc in ap has_entered (sym is)

-- a Pass entered exactly if its request has an Enter
pub agreed_entered : (h : List Event) (statuses : AreStatuses h) (desk : DeskRecord) (kept : IsDeskOf h desk) (r : ℕ) (entered : Bool) → entered ≡ requests.has_entered (service desk r)
    → (entered ≡ true) ↔ ((q : ℕ) × Contains h (Enter r q))
agreed_entered h statuses desk kept r entered is =
    let same : has_entered (status h r) ≡ entered = entered_logged (service desk r) (status h r) (kept.did r) ∙ sym is in
    let law = statuses.entered r in
    ((λ yes. law.0 (same ∙ yes)), (λ logs. sym same ∙ law.1 logs))

abbrev pub said_of_status : Option Status → Status
said_of_status None = status_is.Away
said_of_status (Some s) = s

-- a request that did not arrive has no Enter
pub agreed_not_entered : (h : List Event) (statuses : AreStatuses h) (desk : DeskRecord) (kept : IsDeskOf h desk) (r : ℕ) → has_arrived h r ≡ false → requests.has_entered (service desk r) ≡ false
agreed_not_entered h statuses desk kept r new =
    sym (entered_logged (service desk r) (status h r) (kept.did r)) ∙ ap has_entered ((statuses.away r).1 new)

-- the Desk heard, and then handed over a request that did not arrive
module _ (h : List Event) (statuses : AreStatuses h) (desk heard : DeskRecord) (kept : IsDeskOf h desk) (same : (heard.services ≡ desk.services) × (heard.held ≡ desk.held)) (more : KnowsMore desk.knows heard.knows) (quiet : Says [] desk.knows heard.knows) (r r' : ℕ) (is : r' ≡ r) (new : has_arrived h r ≡ false) where
  pub agreed_away_heard : logged (service heard r') ≡ Some status_is.Away
  agreed_away_heard = agreed_away h statuses heard (agreed_quiet desk heard h kept same more quiet) r' (subst (λ (i : ℕ). has_arrived h i ≡ false) (sym is) new)

  -- it was refused, and not as full
  pub agreed_refused : (desk' : DeskRecord) → Moves heard r' (Some status_is.Away) desk' → Says [] heard.knows desk'.knows → desk'.held ≡ heard.held → IsDeskOf h desk'
  agreed_refused desk' moves says held =
      agreed_moves heard desk' h r' (agreed_quiet desk heard h kept same more quiet) (subst (λ (x : Option Status). Moves heard r' x desk') (sym agreed_away_heard) moves) says (held ∙ (same.1 ∙ kept.holds_none))

  -- it entered, or was refused as full
  pub agreed_arrived : (desk' : DeskRecord) (e : Event) → request_of e ≡ r → Moves heard r' (Some (makes e)) desk' → Says ((r', makes e) ∷ []) heard.knows desk'.knows → desk'.held ≡ heard.held → makes e ≢ status_is.Struck → IsDeskOf (e ∷ h) desk'
  agreed_arrived desk' e of moves says held other =
      agreed_after heard desk' h e (agreed_quiet desk heard h kept same more quiet)
      (subst (λ (i : ℕ). Moves heard i (Some (makes e)) desk') (is ∙ sym of) moves)
      (subst (λ (i : ℕ). Says ((i, makes e) ∷ []) heard.knows desk'.knows) (is ∙ sym of) says) (held ∙ (same.1 ∙ kept.holds_none)) (λ struck. absurd (other struck))

-- a request of which the log says nothing never arrived
pub agreed_away_new : (h : List Event) (statuses : AreStatuses h) (desk : DeskRecord) (kept : IsDeskOf h desk) (r : ℕ) → logged (service desk r) ≡ Some status_is.Away → has_arrived h r ≡ false
agreed_away_new h statuses desk kept r is = (statuses.away r).0 (ap said_of_status (sym (sym is ∙ kept.did r)))

-- nor did one whose Pass was never handed over
pub agreed_new : (h : List Event) (statuses : AreStatuses h) (desk : DeskRecord) (kept : IsDeskOf h desk) (r : ℕ) → service desk r ≡ NotHanded → has_arrived h r ≡ false
agreed_new h statuses desk kept r is = agreed_away_new h statuses desk kept r (ap logged is)

-- a head that waits still
pub agreed_head : (h : List Event) (statuses : AreStatuses h) (desk desk' : DeskRecord) (q r : ℕ) → IsDeskOf h desk → Contains (waiting h q) r → Moves desk r (Some status_is.Waits) desk' → Says [] desk.knows desk'.knows → desk'.held ≡ None → IsDeskOf h desk'
agreed_head h statuses desk desk' q r kept member moves says held =
    agreed_moves desk desk' h r kept (subst (λ (x : Option Status). Moves desk r x desk') (sym (ap logged (agreed_waits h statuses desk kept q r member))) moves) says held

-- a request that was struck waits in no queue
pub struck_waits_not : (h : List Event) (r q : ℕ) → AreStatuses (Strike r q ∷ h) → (p : ℕ) → ¬ Contains (waiting (Strike r q ∷ h) p) r
struck_waits_not h r q statuses p member =
    let waits = (statuses.waits r).1 (p, member) in
    let bad : status_is.Struck ≡ status_is.Waits = sym (put_here (status h) r status_is.Struck) ∙ waits in cc

-- nobody comes to wait by a strike
pub strike_adds_none : (h : List Event) (r q : ℕ) → Follows h (Strike r q) → (p j : ℕ) → Contains (waiting (Strike r q ∷ h) p) j → Contains (waiting h p) j
strike_adds_none h r q follows p j member =
    let there = subst (λ (xs : List ℕ). Contains xs j) (follows.queues p) member in
    elim (cases_eq p q) [
      | inl same ↦ (let at = subst (λ (xs : List ℕ). Contains xs j) (ap (put (waiting h) q (changed (Strike r q) (waiting h q))) same ∙ put_here (waiting h) q (changed (Strike r q) (waiting h q))) there in
          subst (λ (x : ℕ). Contains (waiting h x) j) (sym same) (Contains-filter (λ i. not (eqb r i)) (waiting h q) j at))
      | inr other ↦ subst (λ (xs : List ℕ). Contains xs j) (put_else (waiting h) q (changed (Strike r q) (waiting h q)) p other) there
    ]
