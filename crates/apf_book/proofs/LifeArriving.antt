-- What every history has of an arrival, of which the Desk heard first.
use Rattle.std.proofs.Common.{◌≡◌, ◌≢◌, ℕ, ◌<◌, false, List, [], ◌∷◌, length, length-set, set, Some, refl, sym, ap, ◌∙◌, subst, inl, inr, arith}
use Rattle.apf_history.specs.declared.events.Event.{Event}
use Rattle.apf_history.specs.declared.events.Event.TheVariants.{Enter, Full}
use Rattle.apf_history.specs.declared.events.Status.TheVariants as status_is
use Rattle.apf_model.specs.History.{request_of, has_arrived, waiting, IsShortest}
use Rattle.apf_model.specs.World.{put, width}
use Rattle.apf_model.specs.Order.{makes}
use Rattle.apf_model.specs.declared.response.Response.TheVariants.{Queue, Reject}
use Rattle.apf_gate.specs.declared.record.Service.TheVariants.{NotHanded}
use Rattle.apf_gate.specs.declared.record.Shape.{Shape}
use Rattle.apf_gate.specs.Slots.{slot_of}
use Rattle.apf_gate.specs.Records.{service, KnowsMore}
use Rattle.apf_gate.specs.Requests.{WaitsAlone}
use Rattle.apf_gate.specs.Tokens.{PassToken, DeskToken}
use Rattle.apf_queue.specs.View.{queue_count, StandsNowhere}
use Rattle.apf_book.specs.Histories.{Laws}
use Rattle.apf_book.specs.Life.{LifeView, IsLifeOf, SameSlots, IsAskedBy, AreAsked, sizes_in, Comes, asked, then_came}
use Rattle.apf_book.specs.RecentEvents.{AreRecentEventsOf}
use Rattle.apf_book.specs.BookView.{logged}
use Rattle.apf_book.specs.Tries.{IsNewTo}
use Rattle.apf_book.specs.Agreeing.{IsDeskOf}
use Rattle.apf_book.specs.Moves.{Moves}
use Rattle.apf_book.specs.Said.{Says}
use Rattle.apf_book.specs.LifeBook.{LifeBookView, IsLifeKept}
use Rattle.apf_book.proofs.Agreeing.{agreed_away_heard, agreed_refused, agreed_arrived}
use Rattle.apf_book.proofs.LifeAsks.{asks_then, asks_here, asks_else}
use Rattle.apf_book.proofs.LifeKeeping.{life_rekept, life_quiet, life_statuses, life_new, new_stands_nowhere}

-- a gate with queues does not reject
pub has_queues : (desk gate : Shape) → desk ≡ gate → gate.response ≡ Queue → desk.response ≡ Reject → ⊥
has_queues desk gate same queues rejects = let bad : Queue ≡ Reject = sym queues ∙ (ap (λ (s : Shape). s.response) (sym same) ∙ rejects) in cc

-- the log says nothing of a request that is new
pub is_away : (b : LifeBookView) (token : PassToken) (r : ℕ) → r ≡ token.pass.number → IsNewTo b token → (token.pass.handed ≡ false → service b.desk.desk token.pass.number ≡ NotHanded) → logged (service b.desk.desk r) ≡ Some status_is.Away
is_away b token r same new not_handed = ap (λ (i : ℕ). logged (service b.desk.desk i)) same
    ∙ elim new.away [
      | inl never ↦ ap logged (not_handed never)
      | inr again ↦ again.1
    ]

module _ (laws : Laws) (v : LifeView) (b : LifeBookView) (kept : IsLifeKept v b) (r : ℕ) (away : logged (service b.desk.desk r) ≡ Some status_is.Away) where
  pub is_new : has_arrived v.history r ≡ false
  is_new = life_new laws v b kept r away

  -- its slot stands in no queue
  pub stands_nowhere : WaitsAlone b.desk.desk.knows.shape b.desk.desk r → StandsNowhere b.queues.queues (slot_of r)
  stands_nowhere alone = new_stands_nowhere laws v b kept r is_new alone

  -- it comes to the shortest queue of its hand
  pub comes : (hand : List ℕ) (q : ℕ) → r < length b.desk.desk.knows.shape.widths → q < queue_count b.queues.queues → IsShortest (waiting v.history) hand q → Comes v r hand q
  comes hand q inside queue shortest = record {
    is_request = let n = kept.one_cost_each in omega (arith, inside);
    is_queue = let n = kept.of_life.deck in omega (arith, queue);
    is_new = is_new;
    is_shortest = shortest;
  }

  module _ (heard : DeskToken) (same : (heard.desk.services ≡ b.desk.desk.services) × (heard.desk.held ≡ b.desk.desk.held)) (more : KnowsMore b.desk.desk.knows heard.desk.knows) (quiet : Says [] b.desk.desk.knows heard.desk.knows) (r' : ℕ) (is : r' ≡ r) where
    kept_heard : IsLifeKept v (record b { desk = heard })
    kept_heard = life_quiet v b heard kept same more quiet

    pub life_away : logged (service heard.desk r') ≡ Some status_is.Away
    life_away = agreed_away_heard v.history (life_statuses laws v b kept) b.desk.desk heard.desk kept.agrees same more quiet r r' is is_new

    -- it was refused, and not as full
    pub life_refused : (desk' : DeskToken) → Moves heard.desk r' (Some status_is.Away) desk'.desk → Says [] heard.desk.knows desk'.desk.knows → desk'.desk.held ≡ heard.desk.held → IsLifeKept v (record b { desk = desk' })
    life_refused desk' moves says held =
        life_rekept v v (record b { desk = heard }) (record b { desk = desk' }) kept_heard moves.more kept_heard.no_queues refl (refl, refl, refl) kept.of_life
        (agreed_refused v.history (life_statuses laws v b kept) b.desk.desk heard.desk kept.agrees same more quiet r r' is is_new desk'.desk moves says held) kept.notes (λ none. asks_then v b.queues b.queues heard.desk.knows desk'.desk.knows refl moves.more (kept_heard.asks none))

    life_arrived : (b.desk.desk.knows.shape.response ≡ Reject → ⊥) → (v' : LifeView) (b' : LifeBookView) (e : Event) → request_of e ≡ r → v'.history ≡ e ∷ v.history → length v'.costs ≡ length v.costs → SameSlots b.queues b'.queues → IsLifeOf v' b'.queues → AreRecentEventsOf (e ∷ v.history) b'.notes
        → Moves heard.desk r' (Some (makes e)) b'.desk.desk → Says ((r', makes e) ∷ []) heard.desk.knows b'.desk.desk.knows → b'.desk.desk.held ≡ heard.desk.held → makes e ≢ status_is.Struck → (b'.queues.known ≡ false → AreAsked (sizes_in v' b'.queues) b'.desk.desk.knows.trace v'.costs v'.hands v'.history) → IsLifeKept v' b'
    life_arrived has v' b' e of history costs holders queues notes moves says held other asks =
        life_rekept v v' (record b { desk = heard }) b' kept_heard moves.more (λ rejects. absurd (has (ap (λ (s : Shape). s.response) (sym more.shape) ∙ rejects))) costs holders queues
        (subst (λ (h : List Event). IsDeskOf h b'.desk.desk) (sym history)
        (agreed_arrived v.history (life_statuses laws v b kept) b.desk.desk heard.desk kept.agrees same more quiet r r' is is_new b'.desk.desk e of moves says held other))
        (subst (λ (h : List Event). AreRecentEventsOf h b'.notes) (sym history) notes) asks

    -- what it asks for, and what the others asked for
    asks_arrived : (b' : LifeBookView) (hand : List ℕ) (cost : ℕ) → b.queues.known ≡ false → b'.queues.hand ≡ b.queues.hand → KnowsMore heard.desk.knows b'.desk.desk.knows → r < length v.costs → IsAskedBy (sizes_in v b'.queues) b'.desk.desk.knows.trace hand cost r
        → IsAskedBy (sizes_in v b'.queues) b'.desk.desk.knows.trace (put v.hands r hand r) (width (set v.costs r cost) r) r × AreAsked (sizes_in v b'.queues) b'.desk.desk.knows.trace (set v.costs r cost) (put v.hands r hand) v.history
    asks_arrived b' hand cost none same knows inside by = (
      asks_here (sizes_in v b'.queues) b'.desk.desk.knows.trace v.costs v.hands r hand cost inside by,
      asks_else (sizes_in v b'.queues) b'.desk.desk.knows.trace v.costs v.hands r hand cost v.history is_new (asks_then v b.queues b'.queues heard.desk.knows b'.desk.desk.knows same knows (kept_heard.asks none)),
    )

    -- it entered
    pub life_entered : (b.desk.desk.knows.shape.response ≡ Reject → ⊥) → (b' : LifeBookView) (hand : List ℕ) (q cost : ℕ) → SameSlots b.queues b'.queues → IsLifeOf (then_came (asked v r hand cost) (Enter r q)) b'.queues → AreRecentEventsOf (Enter r q ∷ v.history) b'.notes
        → Moves heard.desk r' (Some status_is.Waits) b'.desk.desk → Says ((r', status_is.Waits) ∷ []) heard.desk.knows b'.desk.desk.knows → b'.desk.desk.held ≡ heard.desk.held → (b'.queues.known ≡ false → IsAskedBy (sizes_in v b'.queues) b'.desk.desk.knows.trace hand cost r) → IsLifeKept (then_came (asked v r hand cost) (Enter r q)) b'
    life_entered has b' hand q cost holders queues notes moves says held by =
        life_arrived has (then_came (asked v r hand cost) (Enter r q)) b' (Enter r q) refl refl (length-set v.costs r cost) holders queues notes moves says held (λ e. cc) (λ none. asks_arrived b' hand cost (sym holders.2 ∙ none) holders.1 moves.more (let n = queues.names_requests.0 in let l = length-set v.costs r cost in omega arith) (by none))

    -- it was refused as full
    pub life_full : (b.desk.desk.knows.shape.response ≡ Reject → ⊥) → (b' : LifeBookView) (hand : List ℕ) (q cost : ℕ) → SameSlots b.queues b'.queues → IsLifeOf (then_came (asked v r hand cost) (Full r q)) b'.queues → AreRecentEventsOf (Full r q ∷ v.history) b'.notes
        → Moves heard.desk r' (Some status_is.Full) b'.desk.desk → Says ((r', status_is.Full) ∷ []) heard.desk.knows b'.desk.desk.knows → b'.desk.desk.held ≡ heard.desk.held → (b'.queues.known ≡ false → IsAskedBy (sizes_in v b'.queues) b'.desk.desk.knows.trace hand cost r) → IsLifeKept (then_came (asked v r hand cost) (Full r q)) b'
    life_full has b' hand q cost holders queues notes moves says held by =
        life_arrived has (then_came (asked v r hand cost) (Full r q)) b' (Full r q) refl refl (length-set v.costs r cost) holders queues notes moves says held (λ e. cc) (λ none. asks_arrived b' hand cost (sym holders.2 ∙ none) holders.1 moves.more (let n = queues.names_requests.0 in let l = length-set v.costs r cost in omega arith) (by none))
