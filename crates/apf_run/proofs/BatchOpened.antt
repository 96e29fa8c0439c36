-- A level that was opened as a batch, and why one is not.
use Rattle.std.proofs.Common.{◌≡◌, ◌≢◌, ℕ, zero, suc, ◌*◌, ◌<◌, ◌≤◌, inl, List, [], ◌∷◌, length, Option, Some, None, refl, sym, ap, ◌∙◌, subst, arith}
use Rattle.std.specs.Prelude.{map, max, slice_get, option_map}
use Rattle.std.proofs.lemmas.List.{length-map}
use Rattle.std.proofs.lemmas.Option.{slice_get-map, slice_get_within}
use Rattle.apf_words.specs.Limits.{max_requests, max_queues}
use Rattle.apf_flow.specs.Sizes.{Sizes}
use Rattle.apf_model.specs.World.{width}
use Rattle.apf_model.specs.declared.config.Config.{Config}
use Rattle.apf_model.specs.declared.response.Response.{Response}
use Rattle.apf_model.specs.declared.response.Response.TheVariants.{Queue, Reject}
use Rattle.apf_gate.specs.Gauges.{IsShape}
use Rattle.apf_gate.specs.Opens.{IsWidth}
use Rattle.apf_gate.specs.Slots.{slot_of, next_of}
use Rattle.apf_gate.specs.Tokens.{PassToken}
use Rattle.apf_gate.specs.declared.fault.GateFault.{GateFault}
use Rattle.apf_gate.specs.declared.fault.GateFault.TheVariants as gate
use Rattle.apf_book.specs.declared.fault.BookFault.{BookFault}
use Rattle.apf_book.specs.declared.fault.BookFault.TheVariants as book
use Rattle.apf_book.specs.LifeBook.{then_came_all}
use Rattle.apf_queue.specs.View.{queue_count, IsQueueShape}
use Rattle.apf_files.specs.declared.requests.Request.{Request}
use Rattle.apf_local.specs.declared.answer.Ask.{Ask}
use Rattle.apf_local.specs.declared.fault.OpenFault.{OpenFault as LocalFault}
use Rattle.apf_local.specs.declared.fault.OpenFault.TheVariants as local
use Rattle.apf_local.specs.Batches.{HaveWidths, IsBatch, CanOpenBatch, IsBatchFault, IsBatchGateFault}
use Rattle.apf_local.specs.Levels.{LocalView}
use Rattle.apf_local.specs.Openings.{HasQueues, IsQueueFault, set_by}
use Rattle.apf_session.specs.Openings.{shape_for, IsGateFault}
use Rattle.apf_level.specs.Opening.{FaultBy, SettledBy}
use Rattle.apf_run.specs.Asks.{asks_of, charged_asks}
use Rattle.apf_run.specs.Faults.{CanRun, IsReplayFault, told_of_local}
use Rattle.apf_run.specs.Batches.{numbers_in, AreOfSlots, IsOfSlots}
use Rattle.apf_run.proofs.Renaming.{served_named}

some_is : {A : Type 0} (a b : A) → ◌≡◌ {A = Option A} (Some a) (Some b) → a ≡ b
some_is a b is = cc

at_place : {A : Type 0} (xs : List A) (i : ℕ) → i < length xs → (x : A) × (slice_get xs i ≡ Some x)
at_place [] i low = absurd (omega (arith, low))
at_place (x ∷ xs) zero low = (x, refl)
at_place (x ∷ xs) (suc i) low = at_place xs i (omega (arith, low))

abbrev widths_of : List Request → List ℕ
widths_of rs = map (λ a. a.width) (asks_of rs)

abbrev charged : Request → Ask
charged q = record { width = q.width; hash = q.hash; cost = max q.width 1 }

width_at : (rs : List Request) (i : ℕ) (q : Request) → slice_get rs i ≡ Some q → width (widths_of rs) i ≡ q.width
width_at [] i q is = absurd (let z : ◌≡◌ {A = Option Request} None (Some q) = is in cc)
width_at (r ∷ rs) zero q is = ap (λ (x : Request). x.width) (some_is r q is)
width_at (r ∷ rs) (suc i) q is = width_at rs i q is

asked_at : (rs : List Request) (i : ℕ) (q : Request) → slice_get rs i ≡ Some q → slice_get (charged_asks rs) i ≡ Some (charged q)
asked_at [] i q is = absurd (let z : ◌≡◌ {A = Option Request} None (Some q) = is in cc)
asked_at (r ∷ rs) zero q is = ap (λ (x : Request). Some (charged x)) (some_is r q is)
asked_at (r ∷ rs) (suc i) q is = asked_at rs i q is

request_at : (rs : List Request) (i : ℕ) (a : Ask) → slice_get (charged_asks rs) i ≡ Some a → (q : Request) × (slice_get rs i ≡ Some q) × (charged q ≡ a)
request_at [] i a is = absurd (let z : ◌≡◌ {A = Option Ask} None (Some a) = is in cc)
request_at (r ∷ rs) zero a is = (r, refl, some_is (charged r) a is)
request_at (r ∷ rs) (suc i) a is = request_at rs i a is

long : (rs : List Request) → length (widths_of rs) ≡ length rs
long rs = length-map (asks_of rs) (λ a. a.width) ∙ length-map rs (λ q. record { width = q.width; hash = q.hash })

module _ (config : Config) (rs : List Request) where
  width_here : HaveWidths (charged_asks rs) → (i : ℕ) → i < length (widths_of rs) → IsWidth (width (widths_of rs) i)
  width_here have i low =
      let q = at_place rs i (let l = long rs in omega (arith, low)) in
      subst IsWidth (sym (width_at rs i q.0 q.1)) (have i (charged q.0) (asked_at rs i q.0 q.1))

  shape : (1 ≤ config.limit) × (config.limit ≤ 10000) → HaveWidths (charged_asks rs) → length (charged_asks rs) ≤ max_requests → IsShape (shape_for config (asks_of rs) 1)
  shape limit have few = record {
    some_limit = limit.0;
    small_limit = limit.1;
    widths = width_here have;
    few_slots = (let l = long rs in let m = length-map rs charged in omega (arith, few));
    all_slots = omega arith;
    few_numbers = (let l = long rs in let m = length-map rs charged in omega (arith, few));
    few_stations = omega arith;
  }

  as_many : length (charged_asks rs) ≡ length (asks_of rs)
  as_many = length-map rs charged ∙ sym (length-map rs (λ q. record { width = q.width; hash = q.hash }))

  settled : (r : Response) → HasQueues r config (length (charged_asks rs)) → SettledBy r config (asks_of rs)
  settled Queue has = (has.0, subst (λ (n : ℕ). IsQueueShape config.queues config.queue_length_limit n) as_many has.1)
  settled Reject has = tt

  pub can_run : CanOpenBatch config (charged_asks rs) → CanRun config rs 1
  can_run can = (shape can.0 can.1 can.2, settled config.limit_response can.3)

  gate_fault : (f : GateFault) → IsBatchGateFault config (charged_asks rs) f → IsGateFault config (asks_of rs) 1 f
  gate_fault gate.BadLimit is = ((λ e. cc), is)
  gate_fault (gate.BadWidth r) is =
      let bad = is.1 in
      let q = request_at rs r bad.ask bad.is in
      let inside : r < length (widths_of rs) = (let low = slice_get_within rs r q.0 q.1 in let l = long rs in omega (arith, low)) in (
        (λ e. cc),
        (
          is.0.0,
          is.0.1,
          inside,
          (λ wide. bad.bad (subst IsWidth (width_at rs r q.0 q.1 ∙ ap (λ (a : Ask). a.width) q.2) wide)),
          (λ j low.
              let p = at_place rs j (let l = long rs in omega (arith, low, inside)) in
              subst IsWidth (sym (width_at rs j p.0 p.1)) (bad.first j (charged p.0) low (asked_at rs j p.0 p.1))),
        ),
      )
  gate_fault gate.TooMany is = ((λ e. cc), (is.0.0, is.0.1, width_here is.1, inl (let l = long rs in let m = length-map rs charged in let many = is.2 in omega arith)))
  gate_fault gate.NoMemory is = absurd is

  level_fault : (r : Response) (f : BookFault) → IsQueueFault r config (length (charged_asks rs)) f → (f ≢ book.NoMemory) × FaultBy r config (asks_of rs) f
  level_fault Queue (book.Dealer f) is = ((λ e. cc), is)
  level_fault Queue (book.Queues f) is = ((λ e. cc), (is.0, is.1, (λ made. is.2 (subst (λ (n : ℕ). IsQueueShape config.queues config.queue_length_limit n) (sym as_many) made))))
  level_fault Queue book.NoMemory is = absurd is
  level_fault Reject (book.Dealer f) is = absurd is
  level_fault Reject (book.Queues f) is = absurd is
  level_fault Reject book.NoMemory is = absurd is

  pub replay_fault : (f : LocalFault) → IsBatchFault config (charged_asks rs) f → IsReplayFault config rs 1 (told_of_local f)
  replay_fault (local.Gate f) is = gate_fault f is
  replay_fault (local.Level f) is = let here = level_fault config.limit_response f is.3 in (here.0, shape is.0 is.1 is.2, here.1)
  replay_fault local.NoMemory is = tt

slot_next : (i w : ℕ) → i < 16384 → slot_of (next_of i w) ≡ i
slot_next i w low = omega (arith, low)

few_cards : (r : Response) (config : Config) (n : ℕ) → HasQueues r config n → set_by r config.queues ≤ max_queues
few_cards Queue config n has = has.1.few_queues
few_cards Reject config n has = omega arith

pub of_slots : (config : Config) (rs : List Request) (l : LocalView) → CanOpenBatch config (charged_asks rs) → IsBatch config (charged_asks rs) l → queue_count l.owner.book.queues.queues ≡ l.sizes.deck → IsOfSlots l
of_slots config rs l can is queues =
    let opened = is.opened.owner in
    let fresh = is.fresh in
    let v = is.lived.view in
    let next = fresh.history v is.lived.kept in
    let blank : v.history ≡ [] = opened.blank v is.lived.kept in
    let count : length l.owner.passes ≡ length (charged_asks rs) = fresh.same.owner.slots ∙ opened.all_passes in
    record {
      view = then_came_all next.events v;
      kept = next.kept;
      of_slots = served_named (numbers_in l) v.hands v.limit next.events v.history next.servings next.kept.of_life.fair.0 (subst (AreOfSlots (numbers_in l)) (sym blank) tt);
      numbered = numbered;
      few = (let f = opened.few in omega (arith, count));
      queues = queues;
      deck = subst (λ (z : Sizes). z.deck ≤ max_queues) (sym (fresh.same.sizes ∙ is.opened.sizes)) (few_cards config.limit_response config (length (charged_asks rs)) can.3);
      room = fresh.same.owner.book.room ∙ (opened.room ∙ ap (λ (n : ℕ). 2 * n) (sym count));
    } where
      numbered : (i r : ℕ) → slice_get (numbers_in l) i ≡ Some r → slot_of r ≡ i
      numbered i r at =
          let count : length l.owner.passes ≡ length (charged_asks rs) = is.fresh.same.owner.slots ∙ is.opened.owner.all_passes in
          let low : i < length l.owner.passes = (let a = slice_get_within (numbers_in l) i r at in let b = length-map l.owner.passes (λ (t : PassToken). t.pass.number) in omega (arith, a, b)) in
          let t = at_place l.owner.passes i low in
          let a = at_place (charged_asks rs) i (omega (arith, low, count)) in
          let number = is.fresh.numbers i a.0 t.0 (omega (arith, low, count)) a.1 t.1 in
          let same : r ≡ t.0.pass.number = some_is r t.0.pass.number (sym at ∙ (slice_get-map (λ (x : PassToken). x.pass.number) l.owner.passes i ∙ ap (option_map (λ (x : PassToken). x.pass.number)) t.1)) in
          let few = is.opened.owner.few in
          ap slot_of (same ∙ number) ∙ slot_next i a.0.width (omega (arith, low, count, few))
