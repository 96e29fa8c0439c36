-- Seats that are cut and joined.
use Rattle.std.proofs.Common.{◌≡◌, ◌≢◌, ◌⊎◌, ℕ, zero, suc, List, [], ◌∷◌, ◌++◌, length, set, sym, refl, ap, ◌∙◌, subst, inl, inr, ⊎_elim}
use mathlib.Core.Option.{some, some-injective, some-ne-none}
use lib.ListN.{get_elem?}
use Rattle.atomic_table.specs.Table.{Splits, Joins}
use Rattle.atomic_table.proofs.Lists.{at_set}
use Rattle.apf_model.specs.World.{put}
use Rattle.apf_gate.specs.declared.record.Shape.{Shape}
use Rattle.apf_gate.specs.declared.record.Record.{Record}
use Rattle.apf_gate.specs.declared.record.Record.TheVariants.{Pass, Desk, Station}
use Rattle.apf_gate.specs.Account.{Account, IsSound, AreSlots}
use Rattle.apf_gate.specs.Rule.{Every, AreApart, token_of, IsRecord, IsKeptAt, IsView, IsRuled, without_first, first_alone, without_last, last_alone}
use Rattle.apf_gate.proofs.Gathering.{every_front, every_last}
use Rattle.apf_gate.proofs.Puts.{put_here, put_else}
use Rattle.apf_gate.proofs.Lists.{every_map, every_both}

at_end : {A : Type 0} (l : List A) (a b : A) (j : ℕ) → get_elem? (l ++ a ∷ []) j ≡ some b → (get_elem? l j ≡ some b) ⊎ ((j ≡ length l) × (a ≡ b))
at_end [] a b zero e = inr (refl, some-injective a b e)
at_end [] a b (suc j) e = absurd (some-ne-none b (sym e))
at_end (x ∷ xs) a b zero e = inl e
at_end (x ∷ xs) a b (suc j) e = ⊎_elim (λ t. inl t) (λ t. inr (ap suc t.0, t.1)) (at_end xs a b j e)

pub front_of : (xs : List Record) (x : Record) → without_last (xs ++ x ∷ []) ≡ xs
front_of [] x = refl
front_of (y ∷ []) x = refl
front_of (y ∷ z ∷ zs) x = ap (λ l. y ∷ l) (front_of (z ∷ zs) x)

pub last_of : (xs : List Record) (x : Record) → last_alone (xs ++ x ∷ []) ≡ x ∷ []
last_of [] x = refl
last_of (y ∷ []) x = refl
last_of (y ∷ z ∷ zs) x = last_of (z ∷ zs) x

apart_front : (xs : List Record) (x : Record) → AreApart (xs ++ x ∷ []) → AreApart xs × Every (λ o. token_of o ≢ token_of x) xs
apart_front [] x k = (tt, tt)
apart_front (y ∷ ys) x k = let h = apart_front ys x k.1 in ((every_front (λ z. token_of z ≢ token_of y) ys x k.0, h.0), ((λ e. every_last (λ z. token_of z ≢ token_of y) ys x k.0 (sym e)), h.1))

module _ (s : Shape) where
  -- the account with one token's record kept at another seat
  abbrev moved : Account → ℕ → ℕ → Account
  moved g x i = record g { seat = put g.seat x i }

  same_record : (g : Account) (x i : ℕ) (y : Record) → IsRecord s g y → IsRecord s (moved g x i) y
  same_record g x i (Desk d) k = k
  same_record g x i (Pass p) k = k
  same_record g x i (Station t) k = k

  still_sound : (g : Account) (x i : ℕ) → IsSound s g → IsSound s (moved g x i)
  still_sound g x i k = record {
    schedule = k.schedule;
    made = k.made;
    request = k.request;
    pass_knows = k.pass_knows;
    desk_knows = k.desk_knows;
    station_knows = k.station_knows;
    held = k.held;
    is_held = k.is_held;
  }

  same_slots : (g : Account) (x i : ℕ) → AreSlots s g → AreSlots s (moved g x i)
  same_slots g x i k = record { current = k.current; inside = k.inside; idle = k.idle; later = k.later; past = k.past; noted = k.noted; nobody = k.nobody; newest = k.newest; older = k.older; order = k.order; absent = k.absent }

  -- a record that another token has stays where it was
  stays : (g : Account) (x i j : ℕ) (y : Record) → token_of y ≢ x → IsKeptAt s g j y → IsKeptAt s (moved g x i) j y
  stays g x i j y other k = (put_else g.seat x i (token_of y) other ∙ k.0, same_record g x i y k.1)

  -- the record is kept at the new seat
  goes : (g : Account) (i j : ℕ) (y : Record) → IsKeptAt s g j y → IsKeptAt s (moved g (token_of y) i) i y
  goes g i j y k = (put_here g.seat (token_of y) i, same_record g (token_of y) i y k.1)

  -- a view at another seat than that which the token had
  view_stays : (g : Account) (x i was j : ℕ) (v : List Record) → g.seat x ≡ was → j ≢ was → IsView s g j v → IsView s (moved g x i) j v
  view_stays g x i was j v seat other k =
      (every_map (IsKeptAt s g j) (IsKeptAt s (moved g x i) j) v (λ y e. stays g x i j y (λ same. other (sym e.0 ∙ (ap g.seat same ∙ seat))) e) k.0, k.1)

  -- the first token's part goes to a seat of its own
  pub cuts : (id : ℕ) (v : List Record) (x : Record) (xs : List Record) → v ≡ x ∷ xs → Splits (IsRuled s) id v (without_first v) (first_alone v)
  cuts id v x xs is t h at =
      let g = h.account in
      let new : ℕ = length (set t.views id (without_first v)) in
      let f = subst (IsView s g id) is (h.views id v at) in
      let g' = moved g (token_of x) new in record {
        account = g';
        sound = still_sound g (token_of x) new h.sound;
        slots = same_slots g (token_of x) new h.slots;
        packs = h.packs;
        views = λ j u e. ⊎_elim
            (λ (y : get_elem? (set t.views id (without_first v)) j ≡ some u). ⊎_elim
            (λ (z : (j ≡ id) × (without_first v ≡ u)). subst (λ (o : ℕ × List Record). IsView s g' o.0 o.1) (λ i. (sym z.0 i, (ap without_first (sym is) ∙ z.1) i))
            (every_both (IsKeptAt s g id) (λ o. token_of o ≢ token_of x) (IsKeptAt s g' id) xs (λ o a b. stays g (token_of x) new id o b a) f.0.1 f.1.0, f.1.1))
            (λ (z : (j ≢ id) × (get_elem? t.views j ≡ some u)). view_stays g (token_of x) new id j u f.0.0.0 z.0 (h.views j u z.1))
            (at_set t.views id j (without_first v) u y))
            (λ (y : (j ≡ new) × (first_alone v ≡ u)). subst (λ (o : ℕ × List Record). IsView s g' o.0 o.1) (λ i. (sym y.0 i, (ap first_alone (sym is) ∙ y.1) i))
            ((goes g new id x f.0.0, tt), (tt, tt)))
            (at_end (set t.views id (without_first v)) (first_alone v) u j e);
      }

  -- the last token's part goes to a seat of its own
  pub cuts_last : (id : ℕ) (v : List Record) (xs : List Record) (x : Record) → v ≡ xs ++ x ∷ [] → Splits (IsRuled s) id v (without_last v) (last_alone v)
  cuts_last id v xs x is t h at =
      let g = h.account in
      let new : ℕ = length (set t.views id (without_last v)) in
      let f = subst (IsView s g id) is (h.views id v at) in
      let mine = every_last (IsKeptAt s g id) xs x f.0 in
      let front = every_front (IsKeptAt s g id) xs x f.0 in
      let far = apart_front xs x f.1 in
      let g' = moved g (token_of x) new in record {
        account = g';
        sound = still_sound g (token_of x) new h.sound;
        slots = same_slots g (token_of x) new h.slots;
        packs = h.packs;
        views = λ j u e. ⊎_elim
            (λ (y : get_elem? (set t.views id (without_last v)) j ≡ some u). ⊎_elim
            (λ (z : (j ≡ id) × (without_last v ≡ u)). subst (λ (o : ℕ × List Record). IsView s g' o.0 o.1) (λ i. (sym z.0 i, (sym (front_of xs x) ∙ (ap without_last (sym is) ∙ z.1)) i))
            (every_both (IsKeptAt s g id) (λ o. token_of o ≢ token_of x) (IsKeptAt s g' id) xs (λ o a b. stays g (token_of x) new id o b a) front far.1, far.0))
            (λ (z : (j ≢ id) × (get_elem? t.views j ≡ some u)). view_stays g (token_of x) new id j u mine.0 z.0 (h.views j u z.1))
            (at_set t.views id j (without_last v) u y))
            (λ (y : (j ≡ new) × (last_alone v ≡ u)). subst (λ (o : ℕ × List Record). IsView s g' o.0 o.1) (λ i. (sym y.0 i, (sym (last_of xs x) ∙ (ap last_alone (sym is) ∙ y.1)) i))
            ((goes g new id x mine, tt), (tt, tt)))
            (at_end (set t.views id (without_last v)) (last_alone v) u j e);
      }

  -- one token's part is joined in front of another seat's
  pub joins : (id : ℕ) (v : List Record) (other : ℕ) (x : Record) → Joins (IsRuled s) id v other (x ∷ []) ((x ∷ []) ++ v) []
  joins id v other x t h at apart there =
      let g = h.account in
      let f = h.views id v at in
      let g' = moved g (token_of x) id in
      let w = ⊎_elim (λ (y : (other ≡ id) × ((x ∷ []) ++ v ≡ x ∷ [])). absurd (apart y.0)) (λ (y : (other ≢ id) × (get_elem? t.views other ≡ some (x ∷ []))). h.views other (x ∷ []) y.1) (at_set t.views id other ((x ∷ []) ++ v) (x ∷ []) there) in
      let seat = w.0.0.0 in
      let others = λ (o : Record) (e : IsKeptAt s g id o) (same : token_of o ≡ token_of x). apart (sym seat ∙ (ap g.seat (sym same) ∙ e.0)) in record {
        account = g';
        sound = still_sound g (token_of x) id h.sound;
        slots = same_slots g (token_of x) id h.slots;
        packs = h.packs;
        views = λ j u e. ⊎_elim
            (λ (y : (j ≡ other) × ([] ≡ u)). subst (IsView s g' j) y.1 (tt, tt))
            (λ (y : (j ≢ other) × (get_elem? (set t.views id ((x ∷ []) ++ v)) j ≡ some u)). ⊎_elim
            (λ (z : (j ≡ id) × ((x ∷ []) ++ v ≡ u)). subst (λ (o : ℕ × List Record). IsView s g' o.0 o.1) (λ i. (sym z.0 i, z.1 i))
            ((goes g id other x w.0.0, every_map (IsKeptAt s g id) (IsKeptAt s g' id) v (λ o k. stays g (token_of x) id id o (others o k) k) f.0), (every_map (IsKeptAt s g id) (λ o. token_of o ≢ token_of x) v others f.0, f.1)))
            (λ (z : (j ≢ id) × (get_elem? t.views j ≡ some u)). view_stays g (token_of x) id other j u seat y.0 (h.views j u z.1))
            (at_set t.views id j ((x ∷ []) ++ v) u y.1))
            (at_set (set t.views id ((x ∷ []) ++ v)) other j [] u e);
      }
