-- What the slots of a level hold, as one of them goes on.
use Rattle.std.proofs.Common.{◌≡◌, ◌≢◌, ℕ, zero, suc, ◌<◌, ◌≤◌, List, [], ◌∷◌, length, get_or, set, Option, Some, None, refl, sym, ap, ◌∙◌, arith}
use Rattle.std.specs.Prelude.{slice_get}
use Rattle.std.proofs.Math.Nat.{le_trans}
use Rattle.std.proofs.lemmas.List.{get_or_past}
use Rattle.apf_words.specs.declared.decision.Decision.{Decision}
use Rattle.apf_words.specs.declared.decision.Decision.TheVariants.{Execute, QueueFull, Closed, Cancelled, ConcurrencyLimit}
use Rattle.apf_gate.specs.Tokens.{PassToken}
use Rattle.apf_local.specs.declared.answer.Ask.{Ask}
use Rattle.apf_local.specs.declared.answer.Place.{Place}
use Rattle.apf_local.specs.declared.answer.Place.TheVariants as places
use Rattle.apf_local.specs.Levels.{LocalView, SlotMoves}
use Rattle.apf_local.specs.Tries.{Places, place_by}
use Rattle.apf_service.specs.Tallies.{Held, held_by, slots_of}
use Rattle.apf_service.specs.Kept.{no_slot}

-- a slot whose request, which this Pass has, is at this place
abbrev pub held : Place → PassToken → Held
held place token = record { place = place; number = token.pass.number }

none_is : {A : Type 0} (x : A) → ◌≡◌ {A = Option A} None (Some x) → ⊥
none_is x is = cc

some_is : {A : Type 0} (x y : A) → ◌≡◌ {A = Option A} (Some x) (Some y) → x ≡ y
some_is x y is = cc

pub held_get : (ps : List Place) (ts : List PassToken) (i : ℕ) (p : Place) (t : PassToken) → slice_get ps i ≡ Some p → slice_get ts i ≡ Some t → get_or (held_by ps ts) i no_slot ≡ held p t
held_get [] ts i p t at_p at_t = absurd (none_is p at_p)
held_get (q ∷ ps) [] i p t at_p at_t = absurd (none_is t at_t)
held_get (q ∷ ps) (u ∷ ts) zero p t at_p at_t = ap (λ (x : Place). held x u) (some_is q p at_p) ∙ ap (λ (y : PassToken). held p y) (some_is u t at_t)
held_get (q ∷ ps) (u ∷ ts) (suc i) p t at_p at_t = held_get ps ts i p t at_p at_t

held_within : (ps : List Place) (ts : List PassToken) (i : ℕ) (p : Place) (t : PassToken) → slice_get ps i ≡ Some p → slice_get ts i ≡ Some t → i < length (held_by ps ts)
held_within [] ts i p t at_p at_t = absurd (none_is p at_p)
held_within (q ∷ ps) [] i p t at_p at_t = absurd (none_is t at_t)
held_within (q ∷ ps) (u ∷ ts) zero p t at_p at_t = omega arith
held_within (q ∷ ps) (u ∷ ts) (suc i) p t at_p at_t = let l = held_within ps ts i p t at_p at_t in omega arith

held_set : (ps : List Place) (ts : List PassToken) (i : ℕ) (p : Place) (t : PassToken) → held_by (set ps i p) (set ts i t) ≡ set (held_by ps ts) i (held p t)
held_set [] ts i p t = refl
held_set (q ∷ ps) [] zero p t = refl
held_set (q ∷ ps) [] (suc i) p t = refl
held_set (q ∷ ps) (u ∷ ts) zero p t = refl
held_set (q ∷ ps) (u ∷ ts) (suc i) p t = ap (λ (xs : List Held). held q u ∷ xs) (held_set ps ts i p t)

pub held_few : (ps : List Place) (ts : List PassToken) → length (held_by ps ts) ≤ length ps
held_few [] ts = omega arith
held_few (q ∷ ps) [] = omega arith
held_few (q ∷ ps) (u ∷ ts) = let l = held_few ps ts in omega arith

pub held_all : (ps : List Place) (ts : List PassToken) → length ts ≡ length ps → length (held_by ps ts) ≡ length ps
held_all [] ts same = refl
held_all (q ∷ ps) [] same = absurd (let n : 0 ≡ suc (length ps) = same in cc)
held_all (q ∷ ps) (u ∷ ts) same = let l = held_all ps ts (omega (arith, same)) in omega (arith, l)

-- a slot that the level does not have
pub past_slot : (l : LocalView) (slot : ℕ) → length l.places ≤ slot → get_or (slots_of l) slot no_slot ≡ no_slot
past_slot l slot past = get_or_past (slots_of l) slot no_slot (le_trans (held_few l.places l.owner.passes) past)

-- where a slot with its Pass is, and the number of that
pub held_place : (ps : List Place) (ts : List PassToken) (i : ℕ) (p : Place) → length ts ≡ length ps → slice_get ps i ≡ Some p → (get_or (held_by ps ts) i no_slot).place ≡ p
held_place [] ts i p same at_p = absurd (none_is p at_p)
held_place (q ∷ ps) [] i p same at_p = absurd (let n : 0 ≡ suc (length ps) = same in cc)
held_place (q ∷ ps) (u ∷ ts) zero p same at_p = some_is q p at_p
held_place (q ∷ ps) (u ∷ ts) (suc i) p same at_p = held_place ps ts i p (omega (arith, same)) at_p

pub held_number : (ps : List Place) (ts : List PassToken) (i n : ℕ) → length ts ≡ length ps → i < length ps → ((t : PassToken) → slice_get ts i ≡ Some t → n ≡ t.pass.number) → (get_or (held_by ps ts) i no_slot).number ≡ n
held_number [] ts i n same inside of = absurd (omega (arith, inside))
held_number (q ∷ ps) [] i n same inside of = absurd (let m : 0 ≡ suc (length ps) = same in cc)
held_number (q ∷ ps) (u ∷ ts) zero n same inside of = sym (of u refl)
held_number (q ∷ ps) (u ∷ ts) (suc i) n same inside of = held_number ps ts i n (omega (arith, same)) (omega (arith, inside)) of

-- a slot whose request waits waits by the level's places too
pub reads_waiting : (ps : List Place) (ts : List PassToken) (i : ℕ) (p : Place) → (get_or (held_by ps ts) i no_slot).place ≡ places.Waits → slice_get ps i ≡ Some p → p ≡ places.Waits
reads_waiting [] ts i p waits at = absurd (none_is p at)
reads_waiting (q ∷ ps) [] i p waits at = absurd cc
reads_waiting (q ∷ ps) (u ∷ ts) zero p waits at = sym (some_is q p at) ∙ waits
reads_waiting (q ∷ ps) (u ∷ ts) (suc i) p waits at = reads_waiting ps ts i p waits at

-- who read its decision arrived
never_fresh : (found : Option Decision) (ask : Ask) → place_by found ≢ places.Fresh ask
never_fresh None ask is = cc
never_fresh (Some Execute) ask is = cc
never_fresh (Some QueueFull) ask is = cc
never_fresh (Some Closed) ask is = cc
never_fresh (Some Cancelled) ask is = cc
never_fresh (Some ConcurrencyLimit) ask is = cc

pub not_fresh : (place : Place) (before after : PassToken) → Places place before after → (ask : Ask) → place ≢ places.Fresh ask
not_fresh place before after reads ask is = never_fresh reads.found ask (sym reads.says ∙ is)

-- one slot moves, and the others are as they were
module _ (slot : ℕ) (l l' : LocalView) (Does : Place → PassToken → Place → PassToken → Type 0) (m : SlotMoves slot l l' Does) where
  pub moved_slots : slots_of l' ≡ set (slots_of l) slot (held m.place' m.after)
  moved_slots = ap (λ (ps : List Place). held_by ps l'.owner.passes) m.now_at ∙ (ap (λ (ts : List PassToken). held_by (set l.places slot m.place') ts) m.now ∙ held_set l.places l.owner.passes slot m.place' m.after)

  pub was_held : get_or (slots_of l) slot no_slot ≡ held m.place m.before
  was_held = held_get l.places l.owner.passes slot m.place m.before m.was_at m.was

  pub is_inside : slot < length (slots_of l)
  is_inside = held_within l.places l.owner.passes slot m.place m.before m.was_at m.was

-- the number of the slot's Pass is what the slot holds
pub number_of : (l : LocalView) (slot n : ℕ) → length l.owner.passes ≡ length l.places → slot < length l.places → ((t : PassToken) → slice_get l.owner.passes slot ≡ Some t → n ≡ t.pass.number) → n ≡ (get_or (slots_of l) slot no_slot).number
number_of l slot n same inside of = sym (held_number l.places l.owner.passes slot n same inside of)

-- what is so of the number of the slot's Pass is so of what the slot holds
held_so : (ps : List Place) (ts : List PassToken) (i : ℕ) (P : ℕ → Type 0) → length ts ≡ length ps → i < length ps → ((t : PassToken) → slice_get ts i ≡ Some t → P t.pass.number) → P (get_or (held_by ps ts) i no_slot).number
held_so [] ts i P same inside of = absurd (omega arith)
held_so (q ∷ ps) [] i P same inside of = absurd (let n : 0 ≡ suc (length ps) = same in cc)
held_so (q ∷ ps) (u ∷ ts) zero P same inside of = of u refl
held_so (q ∷ ps) (u ∷ ts) (suc i) P same inside of = held_so ps ts i P (omega (arith, same)) (omega (arith, inside)) of

pub slot_so : (l : LocalView) (slot : ℕ) (P : ℕ → Type 0) → length l.owner.passes ≡ length l.places → slot < length l.places → ((t : PassToken) → slice_get l.owner.passes slot ≡ Some t → P t.pass.number) → P (get_or (slots_of l) slot no_slot).number
slot_so l slot P same inside of = held_so l.places l.owner.passes slot P same inside of
