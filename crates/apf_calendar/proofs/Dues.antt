-- What is due of a guest, by where it is.
use Rattle.std.proofs.Common.{◌≡◌, ◌≢◌, ℕ, ◌≤◌, ◌==◌, Bool, true, false, Option, Some, None, refl, sym, subst, ap, ◌∙◌, arith}
use Rattle.std.proofs.lemmas.Bool.Decides.{nat_tests}
use Rattle.apf_times.specs.declared.course.Times.{Times}
use Rattle.apf_times.specs.declared.due.Due.{Due}
use Rattle.apf_times.specs.Dues.{finish, giving_up, turn}
use Rattle.apf_calendar.specs.declared.guest.Guest.{Guest}
use Rattle.apf_calendar.specs.declared.guest.Stay.{Stay}
use Rattle.apf_calendar.specs.declared.guest.Stay.TheVariants.{Waits, Impatient, Holds}
use Rattle.apf_calendar.specs.Guests.{due_in, due_of, unless_never}

pub due_holds : (patience : ℕ) (g : Guest) (since : ℕ) → g.stay ≡ Holds since → due_of patience g ≡ Some (finish g.line since g.times.runs_for)
due_holds patience g since e = ap (due_in patience g.line g.times) e

pub due_waits : (patience : ℕ) (g : Guest) → g.stay ≡ Waits → patience ≢ 0 → due_of patience g ≡ Some (giving_up g.line g.times.arrives_at patience)
due_waits patience g e some =
    let b : (patience == 0) ≡ false = grind (arith, nat_tests) in
    ap (due_in patience g.line g.times) e ∙ ap (λ t. unless_never t (giving_up g.line g.times.arrives_at patience)) b

some_is : {A : Type 0} (a b : A) → ◌≡◌ {A = Option A} (Some a) (Some b) → a ≡ b
some_is a b is = cc

none_is : {A : Type 0} (b : A) → ◌≡◌ {A = Option A} None (Some b) → ⊥
none_is b is = cc

small_unless : (never : Bool) (x : Due) (line : ℕ) (d : Due) → x.request ≡ line → turn x.kind ≤ 1 → unless_never never x ≡ Some d → (d.request ≡ line) × (turn d.kind ≤ 1)
small_unless true x line d named low e = absurd (none_is d e)
small_unless false x line d named low e = let s = some_is x d e in (ap (λ y. y.request) (sym s) ∙ named, subst (λ y. turn y.kind ≤ 1) s low)

-- what is due of a guest names its line, and is a finish or the end of a patience
pub due_small : (patience line : ℕ) (times : Times) (stay : Stay) (d : Due) → due_in patience line times stay ≡ Some d → (d.request ≡ line) × (turn d.kind ≤ 1)
due_small patience line times Waits d e = small_unless (patience == 0) (giving_up line times.arrives_at patience) line d refl (omega arith) e
due_small patience line times Impatient d e = absurd (none_is d e)
due_small patience line times (Holds since) d e = let s = some_is (finish line since times.runs_for) d e in (ap (λ x. x.request) (sym s), subst (λ x. turn x.kind ≤ 1) s (omega arith))
