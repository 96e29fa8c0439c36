-- What windows hand out is in order, and nothing is lost.
use Rattle.std.proofs.Common.{◌≡◌, ℕ, false, List, [], ◌∷◌, ◌++◌, Option, Some, None, IsPermutation, refl, sym, subst, append_assoc, arith}
use Rattle.std.specs.List.{AllByRecursion}
use Rattle.std.specs.Option.{option_to_list}
use Rattle.std.proofs.lemmas.Bool.Decides.{nat_tests}
use Rattle.std.proofs.lemmas.List.{append-nil}
use Rattle.std.proofs.lemmas.List.Elements.{All-from_recursion, recursion_from_All}
use Rattle.std.proofs.lemmas.List.Sorted.{All-permutation, IsPermutation-append_right, IsPermutation-cons, IsPermutation-middle, IsPermutation-refl, IsPermutation-sym, IsPermutation-to_front, IsPermutation-trans}
use Rattle.apf_times.specs.declared.window.Place.{Place}
use Rattle.apf_times.specs.declared.window.Arrival.{Arrival}
use Rattle.apf_times.specs.Windows.{WindowView, HandsOut, NoneBefore, is_late, precedes}
use Rattle.apf_times.specs.WindowRuns.{Call, IsCallOf, IsWindowRun, all_came, all_out, AreInPlace}

-- what is not before b, which is not before c, is not before c
pub not_before_trans : (a b c : Place) → precedes a b ≡ false → precedes b c ≡ false → precedes a c ≡ false
not_before_trans a b c h k = grind (arith, nat_tests)

pub not_before_itself : (a : Place) → precedes a a ≡ false
not_before_itself a = grind (arith, nat_tests)

-- the last that was handed out is before none of these
abbrev pub IsLastOf : {T : Type 0} → Option Place → List (Arrival T) → Type 0
IsLastOf None hs = hs ≡ []
IsLastOf (Some last) hs = AllByRecursion (λ h. precedes last h.place ≡ false) hs

-- what is true when these came, and those were handed out
pub record IsTold {T : Type 0} (came out : List (Arrival T)) (v : WindowView T) : Type 0 where
  pub same : IsPermutation came (out ++ v.held)
  pub order : AreInPlace out
  pub below : AllByRecursion (λ h. NoneBefore h v.held) out
  pub last : IsLastOf v.last out

module _ {T : Type 0} where
  moved : (P : Arrival T → Type 0) (xs ys : List (Arrival T)) → IsPermutation xs ys → AllByRecursion P xs → AllByRecursion P ys
  moved P xs ys same all = recursion_from_All P ys (All-permutation P xs ys same (All-from_recursion P xs all))

  all_moved : (hs xs ys : List (Arrival T)) → IsPermutation xs ys → AllByRecursion (λ h. NoneBefore h xs) hs → AllByRecursion (λ h. NoneBefore h ys) hs
  all_moved [] xs ys same all = all
  all_moved (h ∷ hs) xs ys same all = (moved (λ y. precedes y.place h.place ≡ false) xs ys same all.0, all_moved hs xs ys same all.1)

  -- what was not late is before none that was handed out
  in_time : (hs us : List (Arrival T)) (x : Arrival T) (last : Option Place) → is_late x.place last ≡ false → IsLastOf last hs → AllByRecursion (λ h. NoneBefore h us) hs → AllByRecursion (λ h. NoneBefore h (x ∷ us)) hs
  in_time [] us x last time of all = all
  in_time (h ∷ hs) us x None time of all = absurd (cc)
  in_time (h ∷ hs) us x (Some last) time of all = ((not_before_trans x.place last h.place time of.0, all.0), in_time hs us x (Some last) time of.1 all.1)

  heads : (hs us : List (Arrival T)) (x : Arrival T) → AllByRecursion (λ h. NoneBefore h (x ∷ us)) hs → AllByRecursion (λ h. precedes x.place h.place ≡ false) hs
  heads [] us x all = all
  heads (h ∷ hs) us x all = (all.0.0, heads hs us x all.1)

  tails : (hs us : List (Arrival T)) (x : Arrival T) → AllByRecursion (λ h. NoneBefore h (x ∷ us)) hs → AllByRecursion (λ h. NoneBefore h us) hs
  tails [] us x all = all
  tails (h ∷ hs) us x all = (all.0.1, tails hs us x all.1)

  added : (P : Arrival T → Type 0) (hs : List (Arrival T)) (x : Arrival T) → AllByRecursion P hs → P x → AllByRecursion P (hs ++ x ∷ [])
  added P [] x all one = (one, tt)
  added P (h ∷ hs) x all one = (all.0, added P hs x all.1 one)

  pub in_place : (hs : List (Arrival T)) (x : Arrival T) → AreInPlace hs → AllByRecursion (λ h. precedes x.place h.place ≡ false) hs → AreInPlace (hs ++ x ∷ [])
  in_place [] x order all = (tt, tt)
  in_place (h ∷ hs) x order all = (added (λ y. precedes y.place h.place ≡ false) hs x order.0 all.0, in_place hs x order.1 all.1)

  -- the first of these is handed out
  out_of : (hs from came : List (Arrival T)) (first : Arrival T) (v : WindowView T) → HandsOut from first v → AllByRecursion (λ h. NoneBefore h from) hs → AreInPlace hs → IsPermutation came (hs ++ from)
      → IsTold came (hs ++ first ∷ []) v
  out_of hs from came first v gives below order same =
      let all = all_moved hs from (first ∷ v.held) gives.same below in
      let before = heads hs v.held first all in
      let together : IsPermutation came (hs ++ first ∷ v.held) = IsPermutation-trans came (hs ++ from) (hs ++ first ∷ v.held) same (IsPermutation-append_right hs from (first ∷ v.held) gives.same) in
      record {
        same = subst (IsPermutation came) (sym (append_assoc hs (first ∷ []) v.held)) together;
        order = in_place hs first order before;
        below = added (λ h. NoneBefore h v.held) hs first (tails hs v.held first all) gives.is_first;
        last = subst (λ l. IsLastOf l (hs ++ first ∷ [])) (sym gives.last) (added (λ h. precedes first.place h.place ≡ false) hs first before (not_before_itself first.place));
      }

  -- one more came
  joined : (came hs us : List (Arrival T)) (x : Arrival T) → IsPermutation came (hs ++ us) → IsPermutation (came ++ x ∷ []) (hs ++ x ∷ us)
  joined came hs us x same =
      IsPermutation-trans (came ++ x ∷ []) (x ∷ came) (hs ++ x ∷ us) (IsPermutation-to_front came x)
      (IsPermutation-trans (x ∷ came) (x ∷ (hs ++ us)) (hs ++ x ∷ us) (IsPermutation-cons x came (hs ++ us) same) (IsPermutation-sym (hs ++ x ∷ us) (x ∷ (hs ++ us)) (IsPermutation-middle hs x us)))

  call_told : (came out : List (Arrival T)) (u v : WindowView T) (entry given : Option (Arrival T)) → IsTold came out u → IsCallOf entry u given v → IsTold (came ++ option_to_list entry) (out ++ option_to_list given) v
  call_told came out u v None None told call =
      subst (λ l. IsTold l (out ++ []) v) (sym (append-nil came)) (subst (λ l. IsTold came l v) (sym (append-nil out)) (subst (IsTold came out) (sym call.1) told))
  call_told came out u v None (Some f) told call =
      subst (λ l. IsTold l (out ++ f ∷ []) v) (sym (append-nil came)) (out_of out u.held came f v call told.below told.order told.same)
  call_told came out u v (Some x) None told call =
      subst (λ l. IsTold (came ++ x ∷ []) l v) (sym (append-nil out)) (record {
        same = IsPermutation-trans (came ++ x ∷ []) (out ++ x ∷ u.held) (out ++ v.held) (joined came out u.held x told.same) (IsPermutation-append_right out (x ∷ u.held) v.held call.1.1);
        order = told.order;
        below = all_moved out (x ∷ u.held) v.held call.1.1 (in_time out u.held x u.last call.0 told.last told.below);
        last = subst (λ l. IsLastOf l out) (sym call.1.2) told.last;
      })
  call_told came out u v (Some x) (Some f) told call =
      out_of out (x ∷ u.held) (came ++ x ∷ []) f v call.1.1 (in_time out u.held x u.last call.0 told.last told.below) told.order (joined came out u.held x told.same)

  -- after each run
  pub told : (size : ℕ) (calls : List (Call T)) (v : WindowView T) → IsWindowRun size calls v → IsTold (all_came calls) (all_out calls) v
  told size [] v run = record {
    same = subst (IsPermutation []) (sym run.0) (IsPermutation-refl []);
    order = tt;
    below = tt;
    last = subst (λ l. IsLastOf {T = T} l []) (sym run.1) refl;
  }
  told size (call ∷ calls) v run = call_told (all_came calls) (all_out calls) run.0 v call.came call.out (told size calls run.0 run.1) run.2

  pub run_same : (size : ℕ) (calls : List (Call T)) (v : WindowView T) → IsWindowRun size calls v → IsPermutation (all_came calls) (all_out calls ++ v.held)
  run_same size calls v run = (told size calls v run).same

  pub run_order : (size : ℕ) (calls : List (Call T)) (v : WindowView T) → IsWindowRun size calls v → AreInPlace (all_out calls)
  run_order size calls v run = (told size calls v run).order
