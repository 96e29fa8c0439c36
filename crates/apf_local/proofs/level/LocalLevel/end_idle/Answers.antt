-- The Passes of free slots are done.
use Rattle.std.proofs.Common.{◌≡◌, ◌<◌, ℕ, length, get_or, Some, refl, sym, ap, ◌∙◌, subst}
use Rattle.std.specs.Prelude.{slice_get, All}
use Rattle.std.proofs.lemmas.Option.{slice_get-get_or}
use Rattle.apf_book.specs.LifeBook.{IsLifeKept}
use Rattle.apf_line.specs.Reports.{EndedBy}
use Rattle.apf_local.specs.declared.answer.Place.{Place}
use Rattle.apf_local.specs.declared.answer.Place.TheVariants as places
use Rattle.apf_local.specs.Levels.{LocalView, id_of}
use Rattle.apf_local.proofs.Beginning.{of_each}
use Rattle.apf_local.proofs.level.LocalLevel.end_idle.Goals as goal

pub end-requires-clause-done : goal.end-requires-clause-done
end-requires-clause-done c = λ k d low.
    let ps = c.self.inside.places.items in
    let inside : k < length ps = subst (λ (n : ℕ). k < n) (sym c.self.invariant.count) low in
    let free : All (λ (p : Place). p ≡ places.Free) ps = subst (λ (l : LocalView). All (λ (p : Place). p ≡ places.Free) l.places) (sym c.self.view_is) c.requires.free in
    let here : slice_get ps k ≡ Some places.Free = slice_get-get_or ps k places.Free inside ∙ ap (λ (p : Place). Some p) (free k places.Free inside) in
    c.self.invariant.at k places.Free (get_or c.self.inside.owner.passes k d) here (slice_get-get_or c.self.inside.owner.passes k d low)

pub returns : goal.returns
returns c = of_each _ _ (λ r ends v is.
    let l : LocalView = record { owner = c.self.inside.owner; sizes = c.self.inside.dealer; places = c.self.inside.places.items } in
    let kept : IsLifeKept v l.owner.book = subst (λ (x : LocalView). IsLifeKept v x.owner.book) (sym c.self.view_is) is in
    subst (λ (x : LocalView). EndedBy x.owner.book.desk.desk (id_of x) v x.owner.passes x.owner.stations r) c.self.view_is (ends (id_of l) v refl (record { queues = c.self.invariant.deck; limit = refl; hand = c.self.invariant.hand; settles = refl }) kept)) c.end.result c.end.ensures
