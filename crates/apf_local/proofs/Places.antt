-- The tokens of an owner after a step.
use Rattle.std.proofs.Common.{◌≡◌, ℕ, zero, suc, ◌<◌, ◌≤◌, List, [], ◌∷◌, length, get_or, set, Some, refl, sym, ap, ◌∙◌, subst, arith}
use Rattle.std.specs.Prelude.{slice_get}
use Rattle.std.proofs.lemmas.Option.{slice_get_read}
use Rattle.std.proofs.lemmas.List.{length-set, length-append}
use Rattle.std.proofs.lemmas.List.Elements.{All-set}
use Rattle.apf_gate.specs.declared.record.Knowledge.{Knowledge}
use Rattle.apf_gate.specs.Records.{KnowsMore}
use Rattle.apf_gate.specs.Tokens.{PassToken, StationToken, pass_gate}
use Rattle.apf_book.specs.LifeBook.{LifeBookView}
use Rattle.apf_book.specs.LifeCalls.{SameLifeBook}
use Rattle.apf_local.specs.Owners.{OwnerView, IsOwner, SameOwner, Moves}

pub set_again : {A : Type 0} (xs : List A) (i : ℕ) (x y : A) → set (set xs i x) i y ≡ set xs i y
set_again [] i x y = refl
set_again (z ∷ zs) zero x y = refl
set_again (z ∷ zs) (suc i) x y = ap (λ l. z ∷ l) (set_again zs i x y)

pub set_thrice : {A : Type 0} (xs : List A) (i : ℕ) (x y z : A) → set (set (set xs i x) i y) i z ≡ set xs i z
set_thrice xs i x y z = set_again (set xs i x) i y z ∙ set_again xs i x z

pub set_four : {A : Type 0} (xs : List A) (i : ℕ) (w x y z : A) → set (set (set (set xs i w) i x) i y) i z ≡ set xs i z
set_four xs i w x y z = set_again (set (set xs i w) i x) i y z ∙ set_thrice xs i w x z

-- a token that knows more saw no fewer steps
pub not_less : (k k' : Knowledge) → KnowsMore k k' → length k.trace ≤ length k'.trace
not_less k k' m = let e = ap (λ l. length l) m.trace.1 in let f = length-append m.trace.0 k.trace in omega arith

pub was : (o now : OwnerView) (i : ℕ) (p : PassToken) → o ≡ now → i < length now.passes → p ≡ get_or o.passes i p → slice_get now.passes i ≡ Some p
was o now i p same inside value =
    subst (λ (x : OwnerView). slice_get x.passes i ≡ Some p) same (slice_get_read o.passes (length o.passes) i p refl (subst (λ (x : OwnerView). i < length x.passes) (sym same) inside) value)

-- the Pass of one slot went from one to another
pub moved : (o now : OwnerView) (i : ℕ) (p q : PassToken) (ps : List PassToken) (Does : PassToken → PassToken → Type 0) → o ≡ now → i < length now.passes → p ≡ get_or o.passes i p → ps ≡ set o.passes i q → Does p q → Moves i now.passes ps Does
moved o now i p q ps Does same inside value is does = record {
  before = p;
  after = q;
  was = was o now i p same inside value;
  now = is ∙ ap (λ (x : OwnerView). set x.passes i q) same;
  does = does;
}

pub same_owner : (o now : OwnerView) → o ≡ now → (b' : LifeBookView) → SameLifeBook o.book b' → (ps : List PassToken) → length ps ≡ length o.passes → (ts : List StationToken) → length ts ≡ length o.stations
    → SameOwner now (record { gate = o.gate; response = o.response; book = b'; passes = ps; stations = ts })
same_owner o now is b' same ps p ts t = subst (λ (x : OwnerView). SameOwner x (record { gate = o.gate; response = o.response; book = b'; passes = ps; stations = ts })) is (record { gate = refl; book = same; slots = p; stations = t })

-- a Pass and the Desk told each other
pub heard : (o : OwnerView) → IsOwner o → (i : ℕ) (q : PassToken) (b' : LifeBookView) (ps : List PassToken) → pass_gate q ≡ o.gate → SameLifeBook o.book b' → q.pass.knows.trace ≡ b'.desk.desk.knows.trace → ps ≡ set o.passes i q
    → IsOwner (record { gate = o.gate; response = o.response; book = b'; passes = ps; stations = o.stations })
heard o is i q b' ps own same follows so =
    let more = not_less o.book.desk.desk.knows b'.desk.desk.knows same.more in
    let e = ap (λ l. length l) follows in
    subst (λ (xs : List PassToken). IsOwner (record { gate = o.gate; response = o.response; book = b'; passes = xs; stations = o.stations })) (sym so) (record {
      desk = same.gate ∙ is.desk;
      response_is = is.response_is;
      room = same.room ∙ is.room;
      known = same.known ∙ is.known;
      passes_own = All-set (λ (t : PassToken). pass_gate t ≡ o.gate) o.passes i q own is.passes_own;
      stations_own = is.stations_own;
      all_passes = length-set o.passes i q ∙ is.all_passes;
      all_stations = is.all_stations;
      newest = All-set (λ (t : PassToken). length t.pass.knows.trace ≤ length b'.desk.desk.knows.trace) o.passes i q (omega arith) (λ k t at. let l = is.newest k t at in omega arith);
      stations_newest = λ k t at. let l = is.stations_newest k t at in omega arith;
    })
