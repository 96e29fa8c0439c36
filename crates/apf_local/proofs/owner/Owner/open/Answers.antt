-- An owner of a gate that was just opened.
use Rattle.std.proofs.Common.{replicate, rules, ◌≡◌, ◌≤◌, ◌<◌, ◌*◌, ℕ, zero, suc, List, [], ◌∷◌, length, get_or, Some, refl, sym, ap, ◌∙◌, subst, arith}
use Rattle.std.specs.Prelude.{map, Option}
use Rattle.std.proofs.lemmas.Option.{get_or_from_slice_get, slice_get_within}
use Rattle.apf_words.specs.Limits.{max_requests}
use Rattle.apf_history.specs.declared.events.Event.{Event}
use Rattle.apf_model.specs.declared.config.Config.{Config}
use Rattle.apf_model.specs.declared.response.Response.{Response}
use Rattle.apf_model.specs.declared.response.Response.TheVariants.{Queue, Reject}
use Rattle.std.proofs.lemmas.List.{length-append}
use Rattle.apf_gate.specs.declared.record.Shape.{Shape}
use Rattle.apf_gate.specs.Gauges.{max_numbers, spread}
use Rattle.apf_gate.specs.Slots.{coded_width}
use Rattle.apf_gate.specs.Records.{new_desk}
use Rattle.apf_gate.specs.Tokens.{GateId, PassToken, StationToken, DeskToken, desk_gate}
use Rattle.apf_book.specs.Said.{saying, sayings}
use Rattle.apf_book.specs.Life.{LifeView}
use Rattle.apf_book.specs.LifeBook.{LifeBookView, IsLifeKept}
use Rattle.apf_flow.specs.Sizes.{IsDealable}
use Rattle.apf_queue.specs.View.{IsQueueShape}
use Rattle.apf_local.specs.Openings.{line_of, set_by, HasQueues}
use Rattle.apf_local.proofs.Beginning.{beginning, is_beginning, opened}
use Rattle.apf_local.proofs.owner.Owner.open.Goals as goal

pub invariant_of-owner : goal.invariant_of-owner
invariant_of-owner c =
    let gate : GateId = c.in_ok-gate.gate in
    let made = c.in_ok-book.ensures in
    let steps = length c.in_ok-book.book.desk.desk.knows.trace in
    let slots : gate.shape.slots ≡ c.args.slots = (search rules) in
    record {
      desk = ap desk_gate made.desk ∙ ap desk_gate c.in_ok-gate.ensures.desk;
      response_is = sym (ap (λ s. s.response) c.in_ok-gate.ensures.shape);
      room = made.room ∙ ap (λ (n : ℕ). 2 * n) (sym slots);
      known = made.known_is;
      passes_own = λ k t at. (c.in_ok-gate.ensures.fresh k t at).0;
      stations_own = c.in_ok-gate.ensures.own;
      all_passes = (search rules);
      all_stations = (search rules);
      newest = λ k t at.
          let e = get_or_from_slice_get c.in_ok-gate.passes.items k _ t (c.in_ok-gate.ensures.each_pass k (subst (λ (n : ℕ). k < n) c.in_ok-gate.ensures.counts.0 at)) in
          subst (λ (x : PassToken). length x.pass.knows.trace ≤ steps) (sym e) (omega arith);
      stations_newest = λ k t at.
          let e = get_or_from_slice_get c.in_ok-gate.stations.items k _ t (c.in_ok-gate.ensures.each_station k (subst (λ (n : ℕ). k < n) c.in_ok-gate.ensures.counts.1 at)) in
          subst (λ (x : StationToken). length x.station.knows.trace ≤ steps) (sym e) (omega arith);
    }

-- a book whose Desk made no step is of no history in which anything happened
says_nothing : (h : List Event) → map saying h ≡ [] → h ≡ []
says_nothing [] is = refl
says_nothing (e ∷ h) is = absurd (cc)

blank : (b : LifeBookView) (d : DeskToken) (v : LifeView) → b.desk ≡ d → d.desk ≡ new_desk d.desk.knows.shape → IsLifeKept v b → v.history ≡ []
blank b d v same fresh kept = says_nothing v.history (kept.agrees.said ∙ (ap (λ (x : DeskToken). sayings x.desk.knows.trace) same ∙ ap (λ x. sayings x.knows.trace) fresh))

-- the book of settings, which are those of the level
pub returns-clause-deck : goal.returns-clause-deck
returns-clause-deck c =
    let line : Config = c.settings-line.result in
    let shape = c.in_ok-gate.desk.desk.knows.shape in
    let v = beginning shape line.queues line.queue_length_limit in
    let kept = c.in_ok-book.ensures.opens v (is_beginning shape line.queues line.queue_length_limit c.is_of_a_gate.ensures.shape) refl in
    kept.of_life.deck ∙ ap (λ (x : Config). x.queues) c.settings-line.ensures

pub returns-clause-stopped : goal.returns-clause-stopped
returns-clause-stopped c =
    let line : Config = c.settings-line.result in
    let shape = c.in_ok-gate.desk.desk.knows.shape in
    let v = beginning shape line.queues line.queue_length_limit in
    let kept = c.in_ok-book.ensures.opens v (is_beginning shape line.queues line.queue_length_limit c.is_of_a_gate.ensures.shape) refl in
    (opened c.every_level_has_histories.ensures).begins v c.in_ok-book.book refl kept

-- the queues of a level's settings
settled : (r : Response) (c : Config) (slots : ℕ) → IsDealable (set_by r c.queues) (set_by r c.hand_size) → IsQueueShape (set_by r c.queues) (set_by r c.queue_length_limit) slots → HasQueues r c slots
settled Queue c slots dealable shape = (dealable, shape)
settled Reject c slots dealable shape = tt

pub returns-clause-settings : goal.returns-clause-settings
returns-clause-settings c =
    let config : Config = c.args.config.now in
    let line : Config = c.settings-line.result in
    let is : line ≡ line_of config = c.settings-line.ensures in
    let shape = c.is_of_a_gate.ensures.shape in
    let slots : c.in_ok-gate.desk.desk.knows.shape.slots ≡ c.args.slots = (search rules) in
    let dealable : IsDealable line.queues line.hand_size = (search rules) in (
      (c.in_ok-gate.ensures.is_shape.some_limit, c.in_ok-gate.ensures.is_shape.small_limit),
      subst (λ (n : ℕ). n ≤ max_requests) slots shape.few_slots,
      settled config.limit_response config c.args.slots (subst (λ (x : Config). IsDealable x.queues x.hand_size) is dealable)
          (subst (λ (x : Config). IsQueueShape x.queues x.queue_length_limit c.args.slots) is c.in_ok-book.ensures.settings),
    )

-- all numbers have a width
length_spread : (ws : List ℕ) (n : ℕ) → length (spread ws n) ≡ n
unfolding spread
length_spread ws zero = refl
length_spread ws (suc n) = length-append (spread ws n) (get_or ws n (coded_width n) ∷ []) ∙ (let h = length_spread ws n in omega arith)

number_is : (t u : PassToken) → ◌≡◌ {A = Option PassToken} (Some t) (Some u) → t.pass.number ≡ u.pass.number
number_is t u e = ap (λ (x : PassToken). x.pass.number) (let is : t ≡ u = (cc) in is)

pub returns-clause-opened : goal.returns-clause-opened
returns-clause-opened c =
    let line : Config = c.settings-line.result in
    let shape = c.in_ok-gate.desk.desk.knows.shape in
    let v = beginning shape line.queues line.queue_length_limit in
    let kept = c.in_ok-book.ensures.opens v (is_beginning shape line.queues line.queue_length_limit c.is_of_a_gate.ensures.shape) refl in
    let desk : c.in_ok-gate.desk.desk ≡ new_desk c.in_ok-gate.desk.desk.knows.shape = (search rules) in
    let slots : shape.slots ≡ c.args.slots = (search rules) in
    record {
      limit = search rules;
      response = search rules;
      slots_are = search rules;
      desk = ap desk_gate c.in_ok-book.ensures.desk ∙ ap desk_gate c.in_ok-gate.ensures.desk;
      one_station = search rules;
      new_station = λ k t at.
          let e = get_or_from_slice_get c.in_ok-gate.stations.items k _ t (c.in_ok-gate.ensures.each_station k (subst (λ (n : ℕ). k < n) c.in_ok-gate.ensures.counts.1 at)) in
          subst (λ (x : StationToken). x.station.knows.trace ≡ []) (sym e) refl;
      queue_limit = kept.of_life.limit ∙ ap (λ (x : Config). x.queue_length_limit) c.settings-line.ensures;
      fresh = λ k t at. (c.in_ok-gate.ensures.fresh k t at).1;
      numbered = λ k t at.
          let low : k < length c.in_ok-gate.passes.items = slice_get_within c.in_ok-gate.passes.items k t at in
          let e = sym at ∙ c.in_ok-gate.ensures.each_pass k (subst (λ (n : ℕ). k < n) c.in_ok-gate.ensures.counts.0 low) in
          number_is t _ e;
      numbers = ap (λ (x : Shape). length x.widths) c.in_ok-gate.ensures.shape ∙ length_spread _ max_numbers;
      widths = ap (λ (x : Shape). x.widths) c.in_ok-gate.ensures.shape ∙ ap (λ (ws : List ℕ). spread ws max_numbers) (let ones : c.as_slice.result.now ≡ replicate c.args.slots 1 = (search rules) in ones);
      blank = λ w of. blank c.in_ok-book.book c.in_ok-gate.desk w c.in_ok-book.ensures.desk desk of;
      few = subst (λ (n : ℕ). n ≤ max_requests) slots c.is_of_a_gate.ensures.shape.few_slots;
      all_passes = search rules;
      all_stations = search rules;
      room = c.in_ok-book.ensures.room;
      places = c.in_ok-book.ensures.places;
    }
