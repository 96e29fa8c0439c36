-- The lines on a request: what follows from them, and how they go on.
use Rattle.std.proofs.Common.{◌≡◌, ◌≢◌, ◌⊎◌, ℕ, Bool, true, false, Option, Some, None, sym, refl, ap, ◌∙◌, subst, inl, inr, ⊎_elim}
use Rattle.apf_words.specs.declared.decision.Decision.{Decision}
use Rattle.apf_words.specs.declared.decision.Decision.TheVariants.{Execute, QueueFull, Cancelled, ConcurrencyLimit}
use Rattle.apf_model.specs.declared.moves.Stage.TheVariants.{Away, Waits, Stands}
use Rattle.apf_model.specs.declared.response.Response.TheVariants.{Reject}
use Rattle.apf_model.specs.World.{World, IsWaiting}
use Rattle.apf_gate.specs.declared.record.Shape.{Shape}
use Rattle.apf_gate.specs.declared.record.State.{State}
use Rattle.apf_gate.specs.declared.record.State.TheVariants.{Fresh, Took, InLine, Over}
use Rattle.apf_gate.specs.declared.record.Service.{Service}
use Rattle.apf_gate.specs.declared.record.Service.TheVariants.{NotHanded, Handed, RefusedFull, RefusedClosed, Waiting, Held, Settled, Left}
use Rattle.apf_gate.specs.declared.record.PassRecord.{PassRecord}
use Rattle.apf_gate.specs.Requests.{IsRequest, IsState, IsHanded, MayHold, MayHaveWritten, stage_of, stage_of_pass, stage_of_settled, was_handed, has_entered, written}
use Rattle.apf_gate.specs.PassSteps.{MayFind}
use Rattle.apf_gate.specs.DeskSteps.{DeskMayFind}
use Rattle.apf_gate.proofs.WordNumbers.{some_same}

-- a word that holds a decision but cancelled holds what was written
pub found_is_written : (x : Option Decision) (found : Option Decision) (d : Decision) → MayHold x found → found ≡ Some d → d ≢ Cancelled → x ≡ Some d
found_is_written None found d holds is other = ⊎_elim (λ (e : found ≡ None). absurd (let z = sym e ∙ is in cc)) (λ (e : found ≡ Some Cancelled). absurd (other (sym (some_same _ _ (sym e ∙ is))))) holds
found_is_written (Some x) found d holds is other = sym holds ∙ is

-- a word holds what was written
pub written_is_found : (x found : Option Decision) → MayHold x found → x ≢ None → found ≡ x
written_is_found None found holds some = absurd (some refl)
written_is_found (Some x) found holds some = holds

-- nothing was written where the word is undecided
pub none_written : (x found : Option Decision) → MayHold x found → found ≡ None → x ≡ None
none_written None found holds is = refl
none_written (Some x) found holds is = absurd (let z = sym holds ∙ is in cc)

pub handed_or_not : (a : Service) → (a ≡ NotHanded) ⊎ (was_handed a ≡ true)
handed_or_not NotHanded = inl refl
handed_or_not Handed = inr refl
handed_or_not RefusedFull = inr refl
handed_or_not RefusedClosed = inr refl
handed_or_not Waiting = inr refl
handed_or_not Held = inr refl
handed_or_not Settled = inr refl
handed_or_not Left = inr refl

-- what is written by a Pass alone was not written by the Desk
limit_of_pass : (p : PassRecord) (a : Service) → written p a ≡ Some ConcurrencyLimit → a ≡ NotHanded
limit_of_pass p NotHanded e = refl
limit_of_pass p Handed e = absurd (cc)
limit_of_pass p RefusedFull e = absurd (cc)
limit_of_pass p RefusedClosed e = absurd (cc)
limit_of_pass p Waiting e = absurd (cc)
limit_of_pass p Held e = absurd (cc)
limit_of_pass p Settled e = absurd (cc)
limit_of_pass p Left e = absurd (cc)

-- a step that leaves these alone
pub state_same : (f : State) (p q : PassRecord) → q.took ≡ p.took → q.asked ≡ p.asked → q.wrote ≡ p.wrote → IsState f p → IsState f q
state_same Fresh p q took asked wrote k = (took ∙ k.0, asked ∙ k.1, wrote ∙ k.2)
state_same Took p q took asked wrote k = (took ∙ k.0, asked ∙ k.1)
state_same InLine p q took asked wrote k = (took ∙ k.0, asked ∙ k.1, wrote ∙ k.2)
state_same Over p q took asked wrote k = λ e. asked ∙ k (sym took ∙ e)

-- a step leaves this request alone
pub record IsSame (w w' : World) (r : ℕ) : Type 0 where
  pub stage : w'.stage r ≡ w.stage r
  pub decision : w'.decision r ≡ w.decision r
  pub saw : w'.saw_no_room r ≡ w.saw_no_room r

module _ (s : Shape) where
  pub request_elsewhere : (r : ℕ) (p : PassRecord) (a : Service) (w w' : World) → IsSame w w' r → (w.is_open ≡ false → w'.is_open ≡ false) → IsRequest s r p a w → IsRequest s r p a w'
  request_elsewhere r p a w w' same closes k = record {
    own = k.own;
    tied = k.tied;
    stage = same.stage ∙ k.stage;
    saw = same.saw ∙ k.saw;
    word = subst (MayHold (written p a)) (sym same.decision) k.word;
    closed = λ e. closes (k.closed e);
  }

  -- the Desk did another thing with the request, which says the same of its Pass and of what was written
  pub request_served : (r : ℕ) (p : PassRecord) (a b : Service) (w w' : World) → was_handed b ≡ was_handed a → has_entered b ≡ has_entered a → written p b ≡ written p a → (a ≡ Left → b ≡ Left)
      → w'.stage r ≡ stage_of p b → w'.decision r ≡ w.decision r → w'.saw_no_room r ≡ w.saw_no_room r → (w.is_open ≡ false → w'.is_open ≡ false) → IsRequest s r p a w → IsRequest s r p b w'
  request_served r p a b w w' handed entered wrote still stage decision saw closes k = record {
    own = k.own;
    tied = record { number = k.tied.number; handed = k.tied.handed ∙ sym handed; entered = k.tied.entered ∙ sym entered; left = λ e. still (k.tied.left e) };
    stage = stage;
    saw = saw ∙ k.saw;
    word = subst (λ (x : Option Decision × Option Decision). MayHold x.0 x.1) (λ i. (sym wrote i, sym decision i)) k.word;
    closed = λ e. closes (k.closed (sym wrote ∙ e));
  }

  module _ (r : ℕ) (p : PassRecord) (a : Service) (w : World) (k : IsRequest s r p a w) where
    -- what the state of a Pass says of it
    pub in_state : (f : State) → p.state ≡ f → IsState f p
    in_state f e = subst (λ x. IsState x p) e k.own.state

    -- a request that the Desk has was handed to it
    pub is_handed : was_handed a ≡ true → IsHanded p
    is_handed e = k.own.handed (k.tied.handed ∙ e)

    -- the Desk did nothing with the request of a Pass that did not ask
    pub not_handed : p.asked ≡ false → a ≡ NotHanded
    not_handed e = ⊎_elim (λ (x : a ≡ NotHanded). x) (λ (x : was_handed a ≡ true). absurd (let y = (is_handed x).asked in let z = sym e ∙ y in cc)) (handed_or_not a)

    -- a fresh Pass has not come
    pub record IsFresh : Type 0 where
      pub took_none : p.took ≡ false
      pub not_asked : p.asked ≡ false
      pub wrote_none : p.wrote ≡ None
      pub free : a ≡ NotHanded
      pub not_handed_over : p.handed ≡ false
      pub not_entered : p.entered ≡ false
      pub away : w.stage r ≡ Away

    pub is_fresh : p.state ≡ Fresh → IsFresh
    is_fresh e =
        let f = in_state Fresh e in
        let free = not_handed f.1 in record {
          took_none = f.0;
          not_asked = f.1;
          wrote_none = f.2;
          free = free;
          not_handed_over = k.tied.handed ∙ ap was_handed free;
          not_entered = k.tied.entered ∙ ap has_entered free;
          away = k.stage ∙ (ap (stage_of p) free ∙ ap (λ x. stage_of_pass x p.took) e);
        }

    -- the word of a request that the Desk did nothing with
    pub own_word : a ≡ NotHanded → MayHold p.wrote (w.decision r)
    own_word free = subst (λ x. MayHold x (w.decision r)) (ap (written p) free) k.word

    -- what is told of a request fits the state of its Pass
    pub may_find : MayFind p.state p.wrote (w.decision r)
    may_find = by_state p.state refl
      where
        by_state : (f : State) → p.state ≡ f → MayFind f p.wrote (w.decision r)
        by_state Fresh e = let f = is_fresh e in subst (λ x. MayHold x (w.decision r)) f.wrote_none (own_word f.free)
        by_state Took e = own_word (not_handed (in_state Took e).1)
        by_state InLine e = λ is.
            let x = found_is_written (written p a) (w.decision r) ConcurrencyLimit k.word is (λ z. cc) in
            let free = limit_of_pass p a x in
            let y = sym (in_state InLine e).2 ∙ (sym (ap (written p) free) ∙ x) in absurd (cc)
        by_state Over e = λ some. written_is_found p.wrote (w.decision r)
            (own_word (⊎_elim (λ (x : a ≡ NotHanded). x) (λ (x : was_handed a ≡ true). absurd (some (is_handed x).wrote_none)) (handed_or_not a))) some

    -- and what the Desk did with it
    pub desk_may_find : DeskMayFind a (w.decision r)
    desk_may_find = by_service a refl
      where
        not_full : (x : Option Decision) → p.wrote ≡ x → x ≡ Some QueueFull → ⊥
        not_full x is e = subst (MayHaveWritten s p) (is ∙ e) k.own.wrote

        by_service : (b : Service) → a ≡ b → DeskMayFind b (w.decision r)
        by_service NotHanded e = λ is. not_full p.wrote refl (found_is_written p.wrote (w.decision r) QueueFull (own_word e) is (λ z. cc))
        by_service Handed e = subst (λ b. MayHold (written p b) (w.decision r)) e k.word
        by_service RefusedFull e = subst (λ b. MayHold (written p b) (w.decision r)) e k.word
        by_service RefusedClosed e = subst (λ b. MayHold (written p b) (w.decision r)) e k.word
        by_service Waiting e = subst (λ b. MayHold (written p b) (w.decision r)) e k.word
        by_service Held e = subst (λ b. MayHold (written p b) (w.decision r)) e k.word
        by_service Settled e = subst (λ b. MayHold (written p b) (w.decision r)) e k.word
        by_service Left e = subst (λ b. MayHold (written p b) (w.decision r)) e k.word

    -- who is decided queue-full was refused so by the Desk
    pub full_refused : w.decision r ≡ Some QueueFull → a ≢ RefusedFull → ⊥
    full_refused is other = by_service a refl (found_is_written (written p a) (w.decision r) QueueFull k.word is (λ z. cc))
      where
        by_service : (b : Service) → a ≡ b → written p a ≡ Some QueueFull → ⊥
        by_service NotHanded e x = subst (MayHaveWritten s p) (sym (ap (written p) e) ∙ x) k.own.wrote
        by_service Handed e x = let z = sym (ap (written p) e) ∙ x in cc
        by_service RefusedFull e x = other e
        by_service RefusedClosed e x = let z = sym (ap (written p) e) ∙ x in cc
        by_service Waiting e x = let z = sym (ap (written p) e) ∙ x in cc
        by_service Held e x = let z = sym (ap (written p) e) ∙ x in cc
        by_service Settled e x = let z = sym (ap (written p) e) ∙ x in cc
        by_service Left e x = let z = sym (ap (written p) e) ∙ x in cc

    -- a Pass that wrote execute took its seats, and holds them until it is over
    took_stands : p.took ≡ true → p.state ≢ Over → a ≡ NotHanded → w.stage r ≡ Stands
    took_stands took not_over free = k.stage ∙ (ap (stage_of p) free ∙ by_state p.state refl)
      where
        by_state : (f : State) → p.state ≡ f → stage_of_pass f p.took ≡ Stands
        by_state Fresh e = absurd (let z = sym (in_state Fresh e).0 ∙ took in cc)
        by_state Took e = refl
        by_state InLine e = absurd (let z = sym (in_state InLine e).0 ∙ took in cc)
        by_state Over e = absurd (not_over e)

    settled_stands : p.state ≢ Over → (f : State) → p.state ≡ f → stage_of_settled f ≡ Stands
    settled_stands not_over Fresh e = refl
    settled_stands not_over Took e = refl
    settled_stands not_over InLine e = refl
    settled_stands not_over Over e = absurd (not_over e)

    -- who executes stands until its Pass is over
    pub executes : w.decision r ≡ Some Execute → ((p.wrote ≡ Some Execute) × (a ≡ NotHanded)) ⊎ (a ≡ Settled)
    executes is = by_service a refl (found_is_written (written p a) (w.decision r) Execute k.word is (λ z. cc))
      where
        by_service : (b : Service) → a ≡ b → written p a ≡ Some Execute → ((p.wrote ≡ Some Execute) × (a ≡ NotHanded)) ⊎ (a ≡ Settled)
        by_service NotHanded e x = inl ((sym (ap (written p) e) ∙ x), e)
        by_service Handed e x = absurd (let z = sym (ap (written p) e) ∙ x in cc)
        by_service RefusedFull e x = absurd (let z = sym (ap (written p) e) ∙ x in cc)
        by_service RefusedClosed e x = absurd (let z = sym (ap (written p) e) ∙ x in cc)
        by_service Waiting e x = absurd (let z = sym (ap (written p) e) ∙ x in cc)
        by_service Held e x = absurd (let z = sym (ap (written p) e) ∙ x in cc)
        by_service Settled e x = inr e
        by_service Left e x = absurd (let z = sym (ap (written p) e) ∙ x in cc)

    pub executes_took : p.wrote ≡ Some Execute → p.took ≡ true
    executes_took is = subst (MayHaveWritten s p) is k.own.wrote

    pub stands : p.state ≢ Over → w.decision r ≡ Some Execute → w.stage r ≡ Stands
    stands not_over is = ⊎_elim
        (λ (x : (p.wrote ≡ Some Execute) × (a ≡ NotHanded)). took_stands (executes_took x.0) not_over x.1)
        (λ (x : a ≡ Settled). k.stage ∙ (ap (stage_of p) x ∙ settled_stands not_over p.state refl))
        (executes is)

    -- a request waits only on a level with queues
    pub waits_in_queues : s.response ≡ Reject → ¬ IsWaiting w r
    waits_in_queues reject e = absurd (let x = k.own.queues (k.tied.entered ∙ waiting a (sym k.stage ∙ e)) in cc)
      where
        of_pass : (f : State) (took : Bool) → stage_of_pass f took ≡ Waits → ⊥
        of_pass Fresh took x = cc
        of_pass Took took x = cc
        of_pass InLine took x = cc
        of_pass Over true x = cc
        of_pass Over false x = cc

        of_settled : (f : State) → stage_of_settled f ≡ Waits → ⊥
        of_settled Fresh x = cc
        of_settled Took x = cc
        of_settled InLine x = cc
        of_settled Over x = cc

        waiting : (a : Service) → stage_of p a ≡ Waits → has_entered a ≡ true
        waiting NotHanded x = absurd (of_pass p.state p.took x)
        waiting Handed x = absurd (of_pass p.state p.took x)
        waiting RefusedFull x = absurd (of_pass p.state p.took x)
        waiting RefusedClosed x = absurd (of_pass p.state p.took x)
        waiting Waiting x = refl
        waiting Held x = refl
        waiting Settled x = refl
        waiting Left x = refl
