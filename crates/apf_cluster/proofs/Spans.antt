-- What was told and set stands in the strip of a level.
use Rattle.std.proofs.Common.{◌≡◌, ◌∙◌, ℕ, List, [], ◌∷◌, ◌++◌, Option, Some, None, refl, sym, ap, subst}
use Rattle.std.specs.List.{flat_map}
use Rattle.std.proofs.lemmas.List.{flat_map_more}
use Rattle.apf_stream.specs.declared.deed.NewLimit.{NewLimit}
use Rattle.apf_stream.specs.declared.ended.Ended.{Ended}
use Rattle.apf_strips.specs.Spans.{AreBins, SeriesView, Span}
use Rattle.apf_strips.specs.declared.strip.Strip.{Strip}
use Rattle.apf_cluster.specs.Drawn.{AreDrawn, AreInStrip, AreToldIn, DrawsLimit, last_limit, last_since, limits_of, rejected_of, seats_of, span, waits_of}
use Rattle.apf_cluster.specs.declared.drawn.Drawn.{Drawn}

-- these spans more
abbrev pub Adds : List Span → SeriesView → SeriesView → Type 0
Adds more s s' = (before : List Span) → AreBins before s → AreBins (before ++ more) s'

more_of : (f : Ended → List Span) (told : List Ended) (e : Ended) (s s' : SeriesView) → Adds (f e) s s' → AreBins (flat_map f told) s → AreBins (flat_map f (told ++ e ∷ [])) s'
more_of f told e s s' adds are = subst (λ (l : List Span). AreBins l s') (flat_map_more f [] told e) (adds (flat_map f told) are)

pub one_more : (told : List Ended) (e : Ended) (s s' : Strip) → Adds (seats_of e) s.seats s'.seats → Adds (waits_of e) s.waiting s'.waiting → Adds (rejected_of e) s.rejected s'.rejected → AreToldIn told s → AreToldIn (told ++ e ∷ []) s'
one_more told e s s' seats waits rejected are = record {
  seats = more_of seats_of told e s.seats s'.seats seats are.seats;
  waiting = more_of waits_of told e s.waiting s'.waiting waits are.waiting;
  rejected = more_of rejected_of told e s.rejected s'.rejected rejected are.rejected;
}

-- ---- limits

pub limits_more : (limit since : ℕ) (under : List NewLimit) (new : NewLimit) → limits_of limit since under ++ span (last_limit limit under) (last_since since under) new.at ∷ [] ≡ limits_of limit since (under ++ new ∷ [])
limits_more limit since [] new = refl
limits_more limit since (n ∷ under) new = ap (λ (l : List Span). span limit since n.at ∷ l) (limits_more n.limit n.at under new)

limit_last : (limit : ℕ) (under : List NewLimit) (new : NewLimit) → new.limit ≡ last_limit limit (under ++ new ∷ [])
limit_last limit [] new = refl
limit_last limit (n ∷ under) new = limit_last n.limit under new

since_last : (since : ℕ) (under : List NewLimit) (new : NewLimit) → new.at ≡ last_since since (under ++ new ∷ [])
since_last since [] new = refl
since_last since (n ∷ under) new = since_last n.at under new

-- the limit in force until a time
until : (end first : ℕ) (under : List NewLimit) (told : List Ended) (d : Drawn) (s s' : Strip) → AreDrawn first under told d → Adds (span d.limit d.since end ∷ []) s.limit s'.limit
    → AreBins (limits_of first 0 under) s.limit → AreBins (limits_of first 0 under ++ span (last_limit first under) (last_since 0 under) end ∷ []) s'.limit
until end first under told d s s' are adds bins =
    subst (λ (n : ℕ). AreBins (limits_of first 0 under ++ span n (last_since 0 under) end ∷ []) s'.limit) are.limit
    (subst (λ (n : ℕ). AreBins (limits_of first 0 under ++ span d.limit n end ∷ []) s'.limit) are.since (adds (limits_of first 0 under) bins))

-- ---- with a strip, and without one

pub sets_none : (new : NewLimit) (d d' : Drawn) → d'.strip ≡ None → d'.limit ≡ new.limit → d'.since ≡ new.at → DrawsLimit new d d'
sets_none new d d' none limit since first under told are = record {
  limit = limit ∙ limit_last first under new;
  since = since ∙ since_last 0 under new;
  strip = subst (λ (o : Option Strip). AreInStrip first (under ++ new ∷ []) told o) (sym none) tt;
}

pub sets_in : (new : NewLimit) (d d' : Drawn) (s s' : Strip) → d.strip ≡ Some s → d'.strip ≡ Some s' → d'.limit ≡ new.limit → d'.since ≡ new.at → s' ≡ record s { limit = s'.limit } → Adds (span d.limit d.since new.at ∷ []) s.limit s'.limit
    → DrawsLimit new d d'
sets_in new d d' s s' is is' limit since same adds first under told are =
    let was : AreInStrip first under told (Some s) = subst (λ (o : Option Strip). AreInStrip first under told o) is are.strip in
    let told_in : AreToldIn told (record s { limit = s'.limit }) = record { seats = was.0.seats; waiting = was.0.waiting; rejected = was.0.rejected } in
    let limits : AreBins (limits_of first 0 (under ++ new ∷ [])) s'.limit = subst (λ (l : List Span). AreBins l s'.limit) (limits_more first 0 under new) (until new.at first under told d s s' are adds was.1) in
    record {
      limit = limit ∙ limit_last first under new;
      since = since ∙ since_last 0 under new;
      strip = subst (λ (o : Option Strip). AreInStrip first (under ++ new ∷ []) told o) (sym is') (subst (λ (t : Strip). AreToldIn told t) (sym same) told_in, limits);
    }
