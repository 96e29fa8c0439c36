-- The last Pass's request is put behind those of the Passes that came after it.
use Rattle.std.proofs.Common.{rules, sym, subst, List, ℕ, ◌≡◌, ◌+◌, ◌<◌, length, get_or}
use Rattle.std.proofs.lemmas.List.Elements.{All-push}
use Rattle.apf_gate.specs.declared.record.State.TheVariants.{Fresh}
use Rattle.apf_gate.specs.Tokens.{PassToken, pass_gate}
use Rattle.apf_session.specs.declared.answer.Place.TheVariants as places
use Rattle.apf_session.specs.Requests.{RequestView, AreAway, place_of}
use Rattle.apf_session.proofs.Beginning.{all_left, still_numbered, next_numbered}
use Rattle.apf_session.proofs.session.requests_of.Goals as goal

pub loop-pass-preserved : goal.loop-pass-preserved
loop-pass-preserved g c =
    let xs : List PassToken = c.loop-pass.passes.items in
    let ys : List PassToken = c.pop.new.self.items in
    let pass : PassToken = c.in-Some.pass in
    let requests : List RequestView = c.loop-pass.requests.items in
    let r : RequestView = c.new.result in
    let was = c.loop-pass.invariant in
    let items = c.in-Some.ensures.items in
    let pushed = sym c.in_default-push.ensures.items in
    record {
      count = search rules;
      fresh = all_left xs ys pass items (λ (t : PassToken). (pass_gate t ≡ g.K.Naming.level.gate) × (t.pass.state ≡ Fresh)) was.fresh;
      rest = still_numbered xs ys pass items was.rest;
      numbered = subst (λ (l : List RequestView). (i : ℕ) (d : RequestView) → i < length l → (get_or l i d).number + i + 1 ≡ length c.args.passes.items) pushed
          (next_numbered xs ys pass items requests r (length c.args.passes.items) c.new.ensures.number was.count was.rest was.numbered);
      away = subst AreAway pushed (All-push (λ (q : RequestView). place_of q.token ≡ places.Away) requests r was.away c.new.ensures.away);
    }
