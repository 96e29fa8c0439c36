-- What a token knows after a step, and what the step tells it.
use Rattle.std.specs.Prelude.{◌||◌}
use Rattle.std.proofs.Common.{◌≡◌, ◌≢◌, ℕ, true, List, [], ◌∷◌, ◌++◌, length, Option, Some, None, refl, sym, ap, ◌∙◌, subst, ⊎_elim}
use Rattle.std.proofs.lemmas.Bool.{not-true, not_from_false, or_cases}
use mathlib.Core.Logic.{dite}
use native.Mathlib.Decide.{ℕ_discrete}
use Rattle.apf_words.specs.Level.{Level}
use Rattle.apf_words.specs.declared.decision.Decision.{Decision}
use Rattle.apf_model.specs.declared.moves.Move.{Move}
use Rattle.apf_model.specs.declared.response.Response.TheVariants.{Reject}
use Rattle.apf_model.specs.World.{put}
use Rattle.apf_model.specs.Schedule.{IsSchedule}
use Rattle.apf_gate.specs.declared.record.Shape.{Shape}
use Rattle.apf_gate.specs.declared.record.Actor.{Actor}
use Rattle.apf_gate.specs.declared.record.Entry.{Entry}
use Rattle.apf_gate.specs.declared.record.Knowledge.{Knowledge}
use Rattle.apf_gate.specs.Records.{level_of, told_of, told_more, saw_level, saw_decision}
use Rattle.apf_gate.specs.Traces.{opening_of, entry, moves, world_of, GoesOn}
use Rattle.apf_gate.specs.Account.{IsIdle, IsKnown}
use Rattle.apf_gate.specs.Steps.{IsOver, IsInRange, SawLevel, SawDecision, FindsOther}
use Rattle.apf_gate.proofs.Puts.{put_here, put_else}
use Rattle.apf_gate.proofs.Later.{IsNext}

-- what the token `who` knows after a step of `by`, which is its own or that of a token that it is joined to
module _ (s : Shape) (who by : Actor) (known : Knowledge) (es : List Entry) (m : Option Move) (k : IsKnown s who known es) (next : IsNext s by m es) where
  abbrev now : List Entry
  now = entry by m ∷ es

  still_told : (r : ℕ) → told_of known.told r ≢ None → (world_of s now).decision r ≡ told_of known.told r
  still_told r some = next.later.kept r (λ none. some (sym (k.told r some) ∙ none)) ∙ k.told r some

  -- of a step that tells it no decision
  pub follows : IsKnown s who (record known { trace = now }) now
  follows = record { shape_is = k.shape_is; closed = λ c. next.later.closed (k.closed c); told = still_told; newer = ([], refl, tt) }

  -- its trace is behind by steps of others
  pub ahead : by ≢ who → GoesOn now who known.trace
  ahead other = (entry by m ∷ k.newer.0, ap (λ l. entry by m ∷ l) k.newer.1, (other, k.newer.2))

  told_now : (r : ℕ) (e : Option Decision) → (e ≢ None → (world_of s now).decision r ≡ e) → (j : ℕ) → told_of (told_more known.told r e) j ≢ None → (world_of s now).decision j ≡ told_of (told_more known.told r e) j
  told_now r None becomes j some = still_told j some
  told_now r (Some x) becomes j some = dite (ℕ_discrete j r)
      (λ y. subst (λ z. (world_of s now).decision z ≡ told_of ((r, x) ∷ known.told) z) (sym y) (becomes (λ n. cc) ∙ sym (put_here (told_of known.told) r (Some x))))
      (λ ne. still_told j (λ none. some (put_else (told_of known.told) r (Some x) j ne ∙ none)) ∙ sym (put_else (told_of known.told) r (Some x) j ne))

  -- of a step on the word of r, which is at e now
  pub decision_known : (r : ℕ) (e : Option Decision) → (e ≢ None → (world_of s now).decision r ≡ e) → IsKnown s who (saw_decision known r e now) now
  decision_known r e becomes = record { shape_is = k.shape_is; closed = λ c. next.later.closed (k.closed c); told = told_now r e becomes; newer = ([], refl, tt) }

  -- of a step on the level word, which said l
  pub level_known : (l : Level) → level_of s.widths (world_of s es) ≡ l → IsKnown s who (saw_level known l now) now
  level_known l is = record {
    shape_is = k.shape_is;
    closed = λ e. next.later.closed (⊎_elim k.closed (λ (c : l.closed ≡ true). not-true _ (ap (λ (x : Level). x.closed) is ∙ c)) (or_cases known.saw_closed l.closed e));
    told = still_told;
    newer = ([], refl, tt);
  }

-- what a step tells its own token
module _ (s : Shape) (who : Actor) (known : Knowledge) (es : List Entry) (m : Option Move) (k : IsKnown s who known es) (next : IsNext s who m es) where
  legal_by_own : IsSchedule (opening_of known.shape) (moves (entry who m ∷ es))
  legal_by_own = subst (λ x. IsSchedule (opening_of x) (moves (entry who m ∷ es))) (sym k.shape_is) next.schedule

  goes_on : (newer : List Entry) × (entry who m ∷ es ≡ newer ++ known.trace)
  goes_on = (entry who m ∷ k.newer.0, ap (λ l. entry who m ∷ l) (sym k.newer.1))

  pub level_told : (l : Level) → level_of s.widths (world_of s es) ≡ l → IsInRange l → (s.response ≡ Reject → l.waiters ≡ 0) → SawLevel who known l m (saw_level known l (entry who m ∷ es))
  level_told l is in_range no_queues = record {
    between = k.newer.0;
    of_others = k.newer.2;
    found = (λ i. level_of (k.shape_is i).widths (world_of (k.shape_is i) (k.newer.1 i))) ∙ is;
    is_after = ap (λ x. saw_level known l (entry who m ∷ x)) (sym k.newer.1);
    is_schedule = legal_by_own;
    in_range = in_range;
    no_queues = λ e. no_queues (ap (λ (y : Shape). y.response) (sym k.shape_is) ∙ e);
    stays_closed = λ e. ap (λ (x : Level). x.closed) (sym is) ∙ not_from_false _ (k.closed e);
    more = record { shape = refl; closed = λ e. ap (λ b. b || l.closed) e; told = λ r some. refl; trace = goes_on };
  }

  -- what is told of one request more, and what was told of the others
  told_stays : (r : ℕ) (e : Option Decision) → (e ≢ None → (world_of s (entry who m ∷ es)).decision r ≡ e) → (j : ℕ) → told_of known.told j ≢ None → told_of (told_more known.told r e) j ≡ told_of known.told j
  told_stays r None becomes j some = refl
  told_stays r (Some x) becomes j some = dite (ℕ_discrete j r)
      (λ y. ap (put (told_of known.told) r (Some x)) y ∙ (put_here (told_of known.told) r (Some x) ∙ (sym (becomes (λ n. cc)) ∙ (ap (world_of s (entry who m ∷ es)).decision (sym y) ∙ still j some))))
      (λ ne. put_else (told_of known.told) r (Some x) j ne)
    where
      still : (j : ℕ) → told_of known.told j ≢ None → (world_of s (entry who m ∷ es)).decision j ≡ told_of known.told j
      still j some = next.later.kept j (λ none. some (sym (k.told j some) ∙ none)) ∙ k.told j some

  pub decision_told : (r : ℕ) (d e : Option Decision) → (world_of s es).decision r ≡ d → (e ≢ None → (world_of s (entry who m ∷ es)).decision r ≡ e) → SawDecision who known r d e m (saw_decision known r e (entry who m ∷ es))
  decision_told r d e was becomes = record {
    between = k.newer.0;
    of_others = k.newer.2;
    found_is = (λ i. (world_of (k.shape_is i) (k.newer.1 i)).decision r) ∙ was;
    is_after = ap (λ x. saw_decision known r e (entry who m ∷ x)) (sym k.newer.1);
    is_schedule = legal_by_own;
    stays = λ some. sym was ∙ k.told r some;
    more = record { shape = refl; closed = λ e. e; told = told_stays r e becomes; trace = goes_on };
  }

  -- a load that tells no decision, of a word that another request has
  pub other_found : m ≡ None → (r : ℕ) → IsIdle (world_of s es) r → IsOver (world_of s es) r → length s.widths ≢ s.slots → FindsOther who known r (record known { trace = entry who None ∷ es })
  other_found none r idle over no_batch = record {
    between = k.newer.0;
    of_others = k.newer.2;
    is_idle = subst (λ (x : Shape × List Entry). IsIdle (world_of x.0 x.1) r) (λ i. (sym k.shape_is i, sym k.newer.1 i)) idle;
    is_over = subst (λ (x : Shape × List Entry). IsOver (world_of x.0 x.1) r) (λ i. (sym k.shape_is i, sym k.newer.1 i)) over;
    no_batch = subst (λ (x : Shape). length x.widths ≢ x.slots) (sym k.shape_is) no_batch;
    is_after = ap (λ x. record known { trace = entry who None ∷ x }) (sym k.newer.1);
    is_schedule = subst (λ y. IsSchedule (opening_of known.shape) (moves (entry who y ∷ es))) none legal_by_own;
    more = record { shape = refl; closed = λ e. e; told = λ r some. refl; trace = (entry who None ∷ k.newer.0, ap (λ l. entry who None ∷ l) (sym k.newer.1)) };
  }
