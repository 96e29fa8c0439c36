-- The slot's request, over its try and its arrival in the line.
use Rattle.std.proofs.Common.{◌≡◌, ◌≢◌, inl, inr, List, set, Some, refl, sym, ap, ◌∙◌, subst}
use Rattle.std.specs.Prelude.{slice_get}
use Rattle.apf_words.specs.declared.decision.Decision.{Decision}
use Rattle.apf_words.specs.declared.decision.Decision.TheVariants.{Execute, QueueFull, Closed, Cancelled, ConcurrencyLimit}
use Rattle.apf_gate.specs.Tokens.{PassToken}
use Rattle.apf_local.specs.declared.admitting.Admitted.TheVariants as admitted
use Rattle.apf_line.specs.declared.attempts.Tried.{Tried}
use Rattle.apf_line.specs.declared.attempts.Tried.TheVariants as tries
use Rattle.apf_local.specs.Owners.{Moves, Comes, IsRefusal}
use Rattle.apf_local.proofs.Places.{set_again}
use Rattle.apf_local.proofs.Slots.{owner_then, get_same}
use Rattle.apf_local.proofs.admitting.come.Goals as goal

not_execute : (t : PassToken) (d : Decision) → IsRefusal t d → d ≢ Execute
not_execute t d (inl closed) is = let z = sym closed ∙ is in cc
not_execute t d (inr (inl cancelled)) is = let z = sym cancelled ∙ is in cc
not_execute t d (inr (inr no_room)) is = let z = sym no_room.0 ∙ is in cc

not_full : (t : PassToken) (d : Decision) → IsRefusal t d → ◌≡◌ (admitted.Over d) (admitted.Over QueueFull) → ⊥
not_full t d (inl closed) is = let z : admitted.Over Closed ≡ admitted.Over QueueFull = subst (λ x. admitted.Over x ≡ admitted.Over QueueFull) closed is in cc
not_full t d (inr (inl cancelled)) is = let z : admitted.Over Cancelled ≡ admitted.Over QueueFull = subst (λ x. admitted.Over x ≡ admitted.Over QueueFull) cancelled is in cc
not_full t d (inr (inr no_room)) is = let z : admitted.Over ConcurrencyLimit ≡ admitted.Over QueueFull = subst (λ x. admitted.Over x ≡ admitted.Over QueueFull) no_room.0 is in cc

pub returns-in-Run-clause-stands : goal.returns-in-Run-clause-stands
returns-in-Run-clause-stands c =
    let moves : Moves c.args.slot c.args.owner.now.passes c.take_seats.new.self.passes (Comes c.args.ask tries.Run) = subst (λ (t : Tried). Moves c.args.slot c.args.owner.now.passes c.take_seats.new.self.passes (Comes c.args.ask t)) c.in-Run.is c.take_seats.ensures.takes in
    record {
      before = moves.before;
      after = moves.after;
      was = moves.was;
      now = moves.now;
      does = record {
        number = moves.does.number;
        is = moves.does.is;
        tried = record { took = tries.Run; then = moves.after; number = refl; is = moves.does.is; follows = refl };
        came = λ e. cc;
        history = λ v kept. ((λ e. cc), (λ e. cc), c.take_seats.ensures.history v kept);
      };
    }

pub returns-in-Over-clause-stands : goal.returns-in-Over-clause-stands
returns-in-Over-clause-stands c =
    let d = c.in-Over.decision in
    let moves : Moves c.args.slot c.args.owner.now.passes c.take_seats.new.self.passes (Comes c.args.ask (tries.Over d c.in-Over._waiting)) = subst (λ (t : Tried). Moves c.args.slot c.args.owner.now.passes c.take_seats.new.self.passes (Comes c.args.ask t)) c.in-Over.is c.take_seats.ensures.takes in
    record {
      before = moves.before;
      after = moves.after;
      was = moves.was;
      now = moves.now;
      does = record {
        number = moves.does.number;
        is = (moves.does.is.0, moves.does.is.1, not_execute moves.after d moves.does.is.2);
        tried = record { took = tries.Over d c.in-Over._waiting; then = moves.after; number = refl; is = moves.does.is; follows = refl };
        came = λ e. cc;
        history = λ v kept. ((λ e. cc), not_full moves.after d moves.does.is.2, c.take_seats.ensures.history v kept);
      };
    }

pub returns-in-Blocked-clause-same : goal.returns-in-Blocked-clause-same
returns-in-Blocked-clause-same c = owner_then c.args.owner.now c.take_seats.new.self c.enqueue.new.owner c.take_seats.ensures.same c.enqueue.ensures.same

pub returns-in-Blocked-clause-stands : goal.returns-in-Blocked-clause-stands
returns-in-Blocked-clause-stands c =
    let i = c.args.slot in
    let ps = c.args.owner.now.passes in
    let moves : Moves i ps c.take_seats.new.self.passes (Comes c.args.ask tries.Blocked) = subst (λ (t : Tried). Moves i ps c.take_seats.new.self.passes (Comes c.args.ask t)) c.in-Blocked.is c.take_seats.ensures.takes in
    let stands = c.enqueue.ensures.stands in
    let same : stands.before ≡ moves.after = get_same ps i moves.after stands.before (subst (λ (xs : List PassToken). slice_get xs i ≡ Some stands.before) moves.now stands.was) in
    record {
      before = moves.before;
      after = stands.after;
      was = moves.was;
      now = stands.now ∙ (ap (λ (xs : List PassToken). set xs i stands.after) moves.now ∙ set_again ps i moves.after stands.after);
      does = record {
        number = stands.does.number ∙ (ap (λ (t : PassToken). t.pass.number) same ∙ moves.does.number);
        is = stands.does.is;
        tried = record { took = tries.Blocked; then = moves.after; number = stands.does.number ∙ ap (λ (t : PassToken). t.pass.number) same; is = moves.does.is; follows = tt };
        came = stands.does.came;
        history = λ v kept. stands.does.history v (c.take_seats.ensures.history v kept);
      };
    }
