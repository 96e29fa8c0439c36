-- How queues of slots begin.
use Rattle.std.proofs.Common.{◌≡◌, ℕ, Bool, zero, suc, List, [], length, get_or, replicate, Option, None, refl, sym, ap, ◌∙◌, subst, arith}
use Rattle.std.specs.Prelude.{Contains}
use Rattle.std.proofs.lemmas.List.{length-replicate}
use Rattle.apf_gate.specs.Slots.{slot_of}
use Rattle.apf_history.specs.declared.events.Event.{Event}
use Rattle.apf_model.specs.History.{NamesRequests, NamesQueues, waiting, IsLegal}
use Rattle.apf_history.specs.declared.events.Charge.{Charge}
use Rattle.apf_history.specs.declared.events.LogEntry.{LogEntry}
use Rattle.apf_model.specs.Fair.{Numbers, opening_numbers}
use Rattle.apf_model.specs.Charged.{events, charged_numbers, charge_of, log_of, FollowsChoices}
use Rattle.apf_queue.specs.View.{QueuesView, opening_view, queue_count, queue_in, numbers_in}
use Rattle.apf_book.specs.Life.{LifeView, IsLifeOf, holding, holder_by, AreWithin, life_most, IsOpening}
use Rattle.apf_book.proofs.Lists.{Contains-none, no_queue}

no_holder : (n i : ℕ) → get_or (replicate {A = ℕ} n 0) i 0 ≡ 0
no_holder zero i = refl
no_holder (suc n) zero = refl
no_holder (suc n) (suc i) = no_holder n i

none_there : (n i : ℕ) → get_or (replicate {A = Option Charge} n None) i None ≡ None
none_there zero i = refl
none_there (suc n) zero = refl
none_there (suc n) (suc i) = none_there n i

pub life_opens : (v : LifeView) (s : QueuesView) (holders : List ℕ) (running : List (Option Charge)) (queues limit slots hand : ℕ) (known : Bool) (places : ℕ) → s ≡ opening_view queues limit slots → numbers_in s ≡ opening_numbers queues → holders ≡ replicate slots 0 → running ≡ replicate places None
    → IsOpening v queues limit → IsLifeOf v (record { queues = s; holders = holders; hand = hand; known = known; running = running })
life_opens v s holders running queues limit slots hand known places opening start held none o =
    let count : length holders ≡ slots = ap (λ (x : List ℕ). length x) held ∙ length-replicate slots 0 in
    let empty : (q : ℕ) → queue_in s q ≡ [] = λ (q : ℕ). ap (λ (x : QueuesView). queue_in x q) opening ∙ no_queue queues q in
    let same : opening_numbers queues ≡ charged_numbers v.queues v.costs v.log = ap opening_numbers (sym o.queues_are) ∙ sym (ap (charged_numbers v.queues v.costs) o.no_log) in
    record {
      queue_is = λ q. ap (holding holders) (empty q) ∙ sym (ap (λ (h : List Event). waiting h q) o.nothing);
      in_slots = λ q slot c. absurd (Contains-none slot (subst (λ (xs : List ℕ). Contains xs slot) (empty q) c));
      in_place = λ q slot c. absurd (Contains-none slot (subst (λ (xs : List ℕ). Contains xs slot) (empty q) c));
      fair = (subst (λ (h : List Event). IsLegal v.hands v.limit h) (sym o.nothing) tt, subst (λ (l : List LogEntry). FollowsChoices v.queues v.costs l) (sym o.no_log) tt);
      events_are = ap events o.no_log ∙ sym o.nothing;
      within = subst (λ (x : Numbers). AreWithin (life_most v.history) x) (sym start) (record { next = λ q. omega arith; virtual_time = omega arith });
      numbers_are = start ∙ same;
      charged = λ q slot c. absurd (Contains-none slot (subst (λ (xs : List ℕ). Contains xs slot) (empty q) c));
      deck = ap queue_count opening ∙ (length-replicate queues [] ∙ sym o.queues_are);
      limit = ap (λ (x : QueuesView). x.length_limit) opening ∙ sym o.limit_is;
      one_holder_each = count ∙ sym (ap (λ (x : QueuesView). length x.costs) opening ∙ length-replicate slots 0);
      names_queues = subst (λ (h : List Event). NamesQueues v.queues h) (sym o.nothing) tt;
      names_requests = subst (λ (h : List Event). NamesRequests (length v.costs) h) (sym o.nothing) tt;
      low = o.low;
      few = o.few;
      holders_are = λ slot l. ap (λ (x : List ℕ). get_or x slot 0) held ∙ no_holder slots slot ∙ sym (ap (λ (h : List Event). holder_by h slot) o.nothing);
      running = λ r l holds. ap (λ (x : List (Option Charge)). get_or x (slot_of r) None) none ∙ none_there places (slot_of r) ∙ sym (ap (λ (l' : List LogEntry). charge_of v.costs l' r) o.no_log);
      unsettled = λ never. o.no_log ∙ sym (ap log_of o.nothing);
    }
