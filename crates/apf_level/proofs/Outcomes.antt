-- Lists of Passes of which each says the same of its request's end.
use Rattle.std.proofs.Common.{◌≡◌, ◌↔◌, ℕ, ◌==◌, ◌<◌, ◌&&◌, ◌||◌, Bool, true, false, inl, inr, Option, Some, List, [], ◌∷◌, length, map, refl, sym, ap, ◌∙◌, subst}
use Rattle.std.specs.Prelude.{slice_index_or, All, Any, Contains}
use Rattle.std.proofs.lemmas.List.{length-map, get_or-map, get_or_default}
use Rattle.apf_words.specs.Level.{Level}
use Rattle.apf_words.specs.declared.decision.Decision.{Decision}
use Rattle.apf_history.specs.declared.events.Event.{Event}
use Rattle.apf_history.specs.declared.events.Event.TheVariants.{Enter}
use Rattle.apf_model.specs.Outcome.{ExecutesArrivals}
use Rattle.apf_gate.specs.Tokens.{PassToken, StationToken}
use Rattle.apf_book.specs.Laws.{took_in}
use Rattle.apf_level.specs.Levels.{LevelId}
use Rattle.apf_level.specs.Heard.{Outcome, GoOnFrom, outcome_of}
use Rattle.apf_level.proofs.Following.{from_dones}
use Rattle.apf_level.specs.Reports.{Ended}

-- as `took_in`, of outcomes
abbrev took_of : List Outcome → ℕ → Bool
took_of [] r = false
took_of (o ∷ os) r = ((o.number == r) && o.took) || took_of os r

took_map : (tokens : List PassToken) (r : ℕ) → took_in tokens r ≡ took_of (map outcome_of tokens) r
took_map [] r = refl
took_map (token ∷ tokens) r = ap (λ (b : Bool). ((token.pass.number == r) && token.pass.took) || b) (took_map tokens r)

module _ (ps ds : List PassToken) (same : map outcome_of ps ≡ map outcome_of ds) where
  pub same_length : length ps ≡ length ds
  same_length = sym (length-map ps outcome_of) ∙ (ap (λ (l : List Outcome). length l) same ∙ length-map ds outcome_of)

  same_at : (i : ℕ) (d : PassToken) → i < length ds → outcome_of (slice_index_or ps i d) ≡ outcome_of (slice_index_or ds i d)
  same_at i d low =
      let below : i < length ps = subst (λ n. i < n) (sym same_length) low in
      sym (get_or-map outcome_of ps i d (outcome_of d) below) ∙ (ap (λ (l : List Outcome). slice_index_or l i (outcome_of d)) same ∙ get_or-map outcome_of ds i d (outcome_of d) low)

  -- what outcomes say of all, or of one
  pub all_same : (P : Outcome → Type 0) → All (λ t. P (outcome_of t)) ps → All (λ t. P (outcome_of t)) ds
  all_same P all i d low = subst P (same_at i d low) (all i d (subst (λ n. i < n) (sym same_length) low))

  pub any_same : (P : Outcome → Type 0) → Any (λ t. P (outcome_of t)) ps → Any (λ t. P (outcome_of t)) ds
  any_same P any =
      let i = any.0 in
      let low : i < length ds = subst (λ n. i < n) same_length any.2 in
      let there : PassToken = slice_index_or ds i any.1 in
      (i, there, low, get_or_default ds i there any.1 low, subst P (same_at i any.1 low) (subst (λ t. P (outcome_of t)) (sym any.3) any.4))

  pub took_same : took_in ps ≡ took_in ds
  took_same = λ i r. (took_map ps r ∙ (ap (λ (l : List Outcome). took_of l r) same ∙ sym (took_map ds r))) i

-- what is told of some Passes is told of others that say the same, of the same words
pub ended_same : (k : LevelId) (level level' : Level) (f f' : ℕ → Option Decision) (h : List Event) (ps ds : List PassToken) (ss : List StationToken) → map outcome_of ps ≡ map outcome_of ds → GoOnFrom ds ps []
    → level' ≡ level → f ≡ f' → Ended k level f h ps ss → Ended k level' f' h ds ss
ended_same k level level' f f' h ps ds ss same on a b e =
    subst (λ (l : Level). Ended k l f' h ds ss) (sym a) (subst (λ (g : ℕ → Option Decision). Ended k level g h ds ss) b (record {
      drained = e.drained;
      of_log = e.of_log;
      nobody_waits = e.nobody_waits;
      agrees = e.agrees;
      arrivals = subst (ExecutesArrivals h f) (took_same ps ds same) e.arrivals;
      made = record {
        trace = e.made.trace;
        made = e.made.made;
        schedule = e.made.schedule;
        says = e.made.says;
        word = e.made.word;
        from_passes = from_dones e.made.trace ds ps on e.made.from_passes;
        goes_on = e.made.goes_on;
      };
      logs_nothing = e.logs_nothing;
      decides = e.decides;
      told_one = λ r d low was. elim was [
        | inl any ↦ e.told_one r d low (inl (any_same ds ps (sym same) (λ (o : Outcome). (o.number ≡ r) × (o.told ≡ Some d)) any))
        | inr of_station ↦ e.told_one r d low (inr of_station)
      ];
      entered = all_same ps ds same (λ (o : Outcome). (o.entered ≡ true) ↔ ((q : ℕ) × Contains h (Enter o.number q))) e.entered;
      each = λ r low. any_same ps ds same (λ (o : Outcome). o.number ≡ r) (e.each r low);
      each_station = e.each_station;
      told = all_same ps ds same (λ (o : Outcome). f o.number ≡ o.told) e.told;
      all_decided = e.all_decided;
      cancelled_by = e.cancelled_by;
      cancelled_is_written = e.cancelled_is_written;
      closed_by = e.closed_by;
      closed_is_first = e.closed_is_first;
      closed_is_seen = e.closed_is_seen;
    }))
