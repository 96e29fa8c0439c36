-- One event more.
use Rattle.std.proofs.Common.{◌≡◌, [], ◌∷◌, ◌++◌, sym, subst}
use Rattle.circular_buffer.specs.Buffer.{buffer, keep_last}
use Rattle.apf_book.specs.declared.life_event.LifeEvent.{LifeEvent}
use Rattle.apf_book.specs.RecentEvents.{RecentEventsView, AreRecentEventsOf}
use Rattle.apf_book.proofs.Noting.{noted_enter, noted_full, noted_dispatch, noted_strike}
use Rattle.apf_book.proofs.recent_events.RecentEvents.note.Goals as goal

pub returns-in-Enter-clause-notes : goal.returns-in-Enter-clause-notes
returns-in-Enter-clause-notes g c h is =
    noted_enter h c.args.event _ c.push_back-oldest.new.self (subst (λ (n : RecentEventsView). AreRecentEventsOf h n) (sym c.self.view_is) is) (subst (λ (e : LifeEvent). c.push_back-oldest.new.self ≡ buffer (keep_last c.self.inside.newest.capacity (c.self.inside.newest.items ++ e ∷ [])) c.self.inside.newest.capacity) c.of.ensures c.push_back-oldest.ensures.items) c.in-Enter.field-0 c.in-Enter.field-1 c.in-Enter.is

pub returns-in-Full-clause-notes : goal.returns-in-Full-clause-notes
returns-in-Full-clause-notes g c h is =
    noted_full h c.args.event _ c.push_back-oldest.new.self (subst (λ (n : RecentEventsView). AreRecentEventsOf h n) (sym c.self.view_is) is) (subst (λ (e : LifeEvent). c.push_back-oldest.new.self ≡ buffer (keep_last c.self.inside.newest.capacity (c.self.inside.newest.items ++ e ∷ [])) c.self.inside.newest.capacity) c.of.ensures c.push_back-oldest.ensures.items) c.in-Full.field-0 c.in-Full.field-1 c.in-Full.is

pub returns-in-Dispatch-clause-notes : goal.returns-in-Dispatch-clause-notes
returns-in-Dispatch-clause-notes g c h is =
    noted_dispatch h c.args.event _ c.push_back-oldest.new.self (subst (λ (n : RecentEventsView). AreRecentEventsOf h n) (sym c.self.view_is) is) (subst (λ (e : LifeEvent). c.push_back-oldest.new.self ≡ buffer (keep_last c.self.inside.newest.capacity (c.self.inside.newest.items ++ e ∷ [])) c.self.inside.newest.capacity) c.of.ensures c.push_back-oldest.ensures.items) c.in-Dispatch.field-0 c.in-Dispatch.field-1 c.in-Dispatch.is

pub returns-in-Strike-clause-notes : goal.returns-in-Strike-clause-notes
returns-in-Strike-clause-notes g c h is =
    noted_strike h c.args.event _ c.push_back-oldest.new.self (subst (λ (n : RecentEventsView). AreRecentEventsOf h n) (sym c.self.view_is) is) (subst (λ (e : LifeEvent). c.push_back-oldest.new.self ≡ buffer (keep_last c.self.inside.newest.capacity (c.self.inside.newest.items ++ e ∷ [])) c.self.inside.newest.capacity) c.of.ensures c.push_back-oldest.ensures.items) c.in-Strike.field-0 c.in-Strike.field-1 c.in-Strike.is
