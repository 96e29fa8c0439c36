-- The records of a gate's tokens determine its trace, and so its words: no step is hidden.
use Rattle.std.proofs.Common.{◌≡◌, ◌≢◌, ◌⊎◌, List, [], ◌∷◌, ◌++◌, length, sym, refl, ap, ◌∙◌, subst, inl, inr, ⊎_elim, arith}
use Rattle.std.proofs.lemmas.List.{append_cancel_right, length-append}
use mathlib.Core.Logic.{dite}
use native.Mathlib.Decide.{ℕ_discrete}
use Rattle.apf_gate.specs.declared.record.Shape.{Shape}
use Rattle.apf_gate.specs.declared.record.Actor.{Actor}
use Rattle.apf_gate.specs.declared.record.Actor.TheVariants.{OfPass, OfDesk, OfStation}
use Rattle.apf_gate.specs.declared.record.Entry.{Entry}
use Rattle.apf_gate.specs.Traces.{NoneOf, GoesOn, IsToken, AreMade}
use Rattle.apf_gate.specs.Account.{Account, IsSound}
use Rattle.apf_gate.specs.Hidden.{trace_of, OthersStay, AllButJoinedStay, SaysOneStep}
use Rattle.apf_gate.proofs.Later.{other_pass, other_station}

-- two lists that are each an ending of the other are one
both_ways : (xs ys l m : List Entry) → l ++ ys ≡ xs → m ++ xs ≡ ys → xs ≡ ys
both_ways xs ys [] m a b = sym a
both_ways xs ys (z ∷ l) m a b =
    absurd (let p = ap (λ (k : List Entry). length k) a in let q = ap (λ (k : List Entry). length k) b in let u = length-append (z ∷ l) ys in let v = length-append m xs in omega arith)

pub joined : (xs ys zs : List Entry) → (xs ++ ys) ++ zs ≡ xs ++ (ys ++ zs)
joined [] ys zs = refl
joined (x ∷ xs) ys zs = ap (λ l. x ∷ l) (joined xs ys zs)

all_of : (xs : List Entry) → xs ++ [] ≡ xs
all_of [] = refl
all_of (x ∷ xs) = ap (λ l. x ∷ l) (all_of xs)

abbrev pub first_of : Entry → List Entry → Entry
first_of x [] = x
first_of x (y ∷ ys) = y

abbrev pub rest_of : List Entry → List Entry
rest_of [] = []
rest_of (y ∷ ys) = ys

pub same_first : (x y : Entry) (xs ys : List Entry) → x ∷ xs ≡ y ∷ ys → x ≡ y
same_first x y xs ys e = ap (first_of x) e

pub same_rest : (x y : Entry) (xs ys : List Entry) → x ∷ xs ≡ y ∷ ys → xs ≡ ys
same_rest x y xs ys e = ap rest_of e

none_left : (who : Actor) (xs ys : List Entry) → NoneOf who (xs ++ ys) → NoneOf who xs
none_left who [] ys k = tt
none_left who (x ∷ xs) ys k = (k.0, none_left who xs ys k.1)

pub none_right : (who : Actor) (xs ys : List Entry) → NoneOf who (xs ++ ys) → NoneOf who ys
none_right who [] ys k = k
none_right who (x ∷ xs) ys k = none_right who xs ys k.1

none_joined : (who : Actor) (xs ys : List Entry) → NoneOf who xs → NoneOf who ys → NoneOf who (xs ++ ys)
none_joined who [] ys a b = b
none_joined who (x ∷ xs) ys a b = (a.0, none_joined who xs ys a.1 b)

-- a token whose own step is the newest of the trace saw the whole of it
newest : (who : Actor) (later saw : List Entry) (m : Entry) (es : List Entry) → later ++ saw ≡ m ∷ es → NoneOf who later → m.by ≡ who → saw ≡ m ∷ es
newest who [] saw m es is none own = is
newest who (x ∷ later) saw m es is none own = absurd (none.0 (ap (λ (y : Entry). y.by) (same_first x m (later ++ saw) es is) ∙ own))

same_actor : (a b : Actor) → (a ≡ b) ⊎ (a ≢ b)
same_actor (OfPass i) (OfPass j) = dite (ℕ_discrete i j) (λ e. inl (ap OfPass e)) (λ ne. inr (λ e. other_pass j i (λ x. ne (sym x)) e))
same_actor (OfPass i) OfDesk = inr (λ e. cc)
same_actor (OfPass i) (OfStation j) = inr (λ e. cc)
same_actor OfDesk (OfPass j) = inr (λ e. cc)
same_actor OfDesk OfDesk = inl refl
same_actor OfDesk (OfStation j) = inr (λ e. cc)
same_actor (OfStation i) (OfPass j) = inr (λ e. cc)
same_actor (OfStation i) OfDesk = inr (λ e. cc)
same_actor (OfStation i) (OfStation j) = dite (ℕ_discrete i j) (λ e. inl (ap OfStation e)) (λ ne. inr (λ e. other_station j i (λ x. ne (sym x)) e))

module _ (s : Shape) where
  pub known_of : (g : Account) → IsSound s g → (who : Actor) → IsToken s who → GoesOn g.trace who (trace_of g who)
  known_of g k (OfPass r) in_range = (k.pass_knows r in_range).newer
  known_of g k OfDesk in_range = k.desk_knows.newer
  known_of g k (OfStation j) in_range = (k.station_knows j).newer

  -- the maker of the newest step saw the whole trace
  newest_saw : (g : Account) → IsSound s g → (x : Entry) (es : List Entry) → g.trace ≡ x ∷ es → IsToken s x.by → trace_of g x.by ≡ x ∷ es
  newest_saw g k x es is in_range = let l = known_of g k x.by in_range in newest x.by l.0 (trace_of g x.by) x es (l.1 ∙ is) l.2 refl

  -- the trace goes on from any other that the same records explain
  goes_on : (g h : Account) → IsSound s g → IsSound s h → ((who : Actor) → IsToken s who → trace_of h who ≡ trace_of g who) → (es : List Entry) → h.trace ≡ es → AreMade s es → (later : List Entry) × (later ++ es ≡ g.trace)
  goes_on g h a b same [] is made = (g.trace, all_of g.trace)
  goes_on g h a b same (x ∷ es) is made =
      let i = made.0 in
      let l = known_of g a x.by i in (l.0, ap (λ t. l.0 ++ t) (sym (newest_saw h b x es is i) ∙ same x.by i) ∙ l.1)

  pub none : (g h : Account) → IsSound s g → IsSound s h → ((who : Actor) → IsToken s who → trace_of h who ≡ trace_of g who) → h.trace ≡ g.trace
  none g h a b same =
      let x = goes_on g h a b same h.trace refl b.made in
      let y = goes_on h g b a (λ who i. sym (same who i)) g.trace refl a.made in
      both_ways h.trace g.trace y.0 x.0 y.1 x.1

  -- each of these steps is the token's own
  abbrev AllOf : Actor → List Entry → Type 0
  AllOf who [] = Unit {0}
  AllOf who (x ∷ xs) = (x.by ≡ who) × AllOf who xs

  all_own : (who : Actor) (xs ys : List Entry) → AreMade s (xs ++ ys) → ((other : Actor) → IsToken s other → other ≢ who → NoneOf other xs) → AllOf who xs
  all_own who [] ys made others = tt
  all_own who (x ∷ xs) ys made others = (
    ⊎_elim (λ (e : x.by ≡ who). e) (λ (ne : x.by ≢ who). absurd ((others x.by made.0 ne).0 refl)) (same_actor x.by who),
    all_own who xs ys made.2 (λ other i ne. (others other i ne).1),
  )

  -- an ending where one token's steps are all, and none
  no_more : (who : Actor) (xs : List Entry) → AllOf who xs → NoneOf who xs → xs ≡ []
  no_more who [] all none = refl
  no_more who (x ∷ xs) all none = absurd (none.0 all.0)

  -- what stands in front of the old trace is the one step
  only_step : (m : Entry) (l a later between : List Entry) → later ++ (m ∷ between) ≡ l ++ a → NoneOf m.by later → NoneOf m.by between → NoneOf m.by a → AllOf m.by l → l ≡ m ∷ []
  only_step m [] a later between is none_later none_between none_a own = absurd ((none_right m.by later (m ∷ between) (subst (NoneOf m.by) (sym is) none_a)).0 refl)
  only_step m (y ∷ l) a (z ∷ later) between is none_later none_between none_a own = absurd (none_later.0 (ap (λ (x : Entry). x.by) (same_first z y (later ++ (m ∷ between)) (l ++ a) is) ∙ own.0))
  only_step m (y ∷ l) a [] between is none_later none_between none_a own =
      let rest = no_more m.by l own.1 (none_left m.by l a (subst (NoneOf m.by) (same_rest m y between (l ++ a) is) none_between)) in
      λ i. sym (same_first m y between (l ++ a) is) i ∷ rest i

  -- what each token but this one saw goes on by steps of others
  abbrev OthersGoOn : Actor → Account → Account → Type 0
  OthersGoOn who g h = (other : Actor) → IsToken s other → other ≢ who → GoesOn (trace_of h other) other (trace_of g other)

  -- the new trace goes on from the old one
  ahead : (g h : Account) (m : Entry) → IsSound s g → IsSound s h → IsToken s m.by → OthersGoOn m.by g h → SaysOneStep m (trace_of g m.by) (trace_of h m.by)
      → (es : List Entry) → g.trace ≡ es → AreMade s es → (l : List Entry) × (l ++ es ≡ h.trace)
  ahead g h m a b i on one [] is made = (h.trace, all_of h.trace)
  ahead g h m a b i on one (x ∷ es) is made =
      let j = made.0 in
      let saw = newest_saw g a x es is j in ⊎_elim
      (λ (e : x.by ≡ m.by).
      let k = known_of h b m.by i in (
        k.0 ++ (m ∷ one.between),
        joined k.0 (m ∷ one.between) (x ∷ es) ∙ (ap (λ t. k.0 ++ (m ∷ (one.between ++ t))) (sym saw ∙ ap (trace_of g) e) ∙ (ap (λ t. k.0 ++ t) (sym one.is_after) ∙ k.1)),
      ))
      (λ (ne : x.by ≢ m.by).
      let k = known_of h b x.by j in
      let z = on x.by j ne in
      (k.0 ++ z.0, joined k.0 z.0 (x ∷ es) ∙ (ap (λ t. k.0 ++ (z.0 ++ t)) (sym saw) ∙ (ap (λ t. k.0 ++ t) z.1 ∙ k.1))))
      (same_actor x.by m.by)

  -- the one step that its token's record says is what stands in front of the old trace
  one_more : (g h : Account) (m : Entry) → IsSound s g → IsSound s h → IsToken s m.by → OthersGoOn m.by g h → SaysOneStep m (trace_of g m.by) (trace_of h m.by) → h.trace ≡ m ∷ g.trace
  one_more g h m a b i on said =
      let f = ahead g h m a b i on said g.trace refl a.made in
      let l = f.0 in
      let own = known_of g a m.by i in
      let now = known_of h b m.by i in
      let others : (other : Actor) → IsToken s other → other ≢ m.by → NoneOf other l = (λ other j ne.
      let x = known_of g a other j in
      let y = known_of h b other j in
      let z = on other j ne in
      let same : (y.0 ++ z.0) ++ trace_of g other ≡ (l ++ x.0) ++ trace_of g other = joined y.0 z.0 (trace_of g other) ∙ (ap (λ t. y.0 ++ t) z.1 ∙ (y.1 ∙ (sym f.1 ∙ (ap (λ t. l ++ t) (sym x.1) ∙ sym (joined l x.0 (trace_of g other)))))) in
      none_left other l x.0 (subst (NoneOf other) (append_cancel_right (y.0 ++ z.0) (l ++ x.0) (trace_of g other) same) (none_joined other y.0 z.0 y.2 z.2))) in
      let all : AllOf m.by l = all_own m.by l g.trace (subst (AreMade s) (sym f.1) b.made) others in
      let split : (now.0 ++ (m ∷ said.between)) ++ trace_of g m.by ≡ (l ++ own.0) ++ trace_of g m.by =
      joined now.0 (m ∷ said.between) (trace_of g m.by) ∙ (ap (λ t. now.0 ++ t) (sym said.is_after) ∙ (now.1 ∙ (sym f.1 ∙ (ap (λ t. l ++ t) (sym own.1) ∙ sym (joined l own.0 (trace_of g m.by)))))) in
      let is = append_cancel_right (now.0 ++ (m ∷ said.between)) (l ++ own.0) (trace_of g m.by) split in
      sym f.1 ∙ ap (λ t. t ++ g.trace) (only_step m l own.0 now.0 said.between is now.2 said.of_others own.2 all)

  pub one : (g h : Account) (m : Entry) → IsSound s g → IsSound s h → IsToken s m.by → OthersStay s m.by g h → SaysOneStep m (trace_of g m.by) (trace_of h m.by) → h.trace ≡ m ∷ g.trace
  one g h m a b i stay said = one_more g h m a b i (λ other j ne. ([], sym (stay other j ne), tt)) said

  pub both : (g h : Account) (who : Actor) (m : Entry) → IsSound s g → IsSound s h → IsToken s who → m.by ≡ OfDesk → AllButJoinedStay s who g h → SaysOneStep m (trace_of g OfDesk) (trace_of h OfDesk)
      → GoesOn (trace_of h OfDesk) who (trace_of g who) → trace_of h who ≡ trace_of h OfDesk → h.trace ≡ m ∷ g.trace
  both g h who m a b inside own stay said on same = one_more g h m a b (subst (IsToken s) (sym own) tt) (λ other j ne. ⊎_elim
      (λ (e : other ≡ who). subst (λ (o : Actor). GoesOn (trace_of h o) o (trace_of g o)) (sym e) (on.0, on.1 ∙ sym same, on.2))
      (λ (apart : other ≢ who). ([], sym (stay other j (λ e. ne (e ∙ sym own)) apart), tt))
      (same_actor other who)) (subst (λ (o : Actor). SaysOneStep m (trace_of g o) (trace_of h o)) (sym own) said)
