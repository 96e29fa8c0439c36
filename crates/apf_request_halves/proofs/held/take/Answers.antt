-- A line is taken out of the store.
use Rattle.std.proofs.Common.{◌≡◌, ◌≢◌, ℕ, List, [], Bool, false, ap, sym, ◌∙◌, Option, Some, None, IfSome, IfNone, map, ◌∷◌}
use Rattle.std.specs.Prelude.{bytes_eq, Vec, IsPermutation}
use Rattle.std.specs.List.{AllByRecursion}
use Rattle.std.specs.Map.{lookup_entry, remove_entry}
use Rattle.std.specs.Cmp.Lexicographic.{bytes_decides}
use Rattle.std.specs.declared.alloc.Global.{Global}
use Rattle.std.proofs.lemmas.List.Elements.{All-cons, All-nil}
use Rattle.lru.specs.LruCache.{lru_cache}
use Rattle.apf_request_halves.specs.declared.held.Held.{Held}
use Rattle.apf_request_halves.specs.Held.{Placed, placed}
use Rattle.apf_request_halves.specs.Reading.{IsWithout}
use Rattle.apf_request_halves.proofs.Judging.{other}
use Rattle.apf_request_halves.proofs.Store.{each_fails, falling_out, none_out, one_out, passes}
use Rattle.apf_request_halves.proofs.held.take.Goals as goal

abbrev has_id : List ℕ → Vec ℕ Global → Bool
has_id id x = bytes_eq id x.items

out : (id : List ℕ) (es : List (Vec ℕ Global × Held)) (o : Option (Vec ℕ Global × Held)) → lookup_entry (has_id id) es ≡ o
    → IfSome o (λ line. IsPermutation (map placed es) (placed line ∷ map placed (remove_entry (has_id id) es)))
out id es None is = tt
out id es (Some e) is = one_out (has_id id) placed es e is

named : (id : List ℕ) (es : List (Vec ℕ Global × Held)) (o : Option (Vec ℕ Global × Held)) → lookup_entry (has_id id) es ≡ o → IfSome o (λ line. line.0.items ≡ id)
named id es None is = tt
named id es (Some e) is = sym ((bytes_decides id e.0.items).0 (passes (has_id id) es e is))

-- an id that the test does not find is another one
other_id : (id x : List ℕ) → bytes_eq id x ≡ false → x ≢ id
other_id id x fails same = other id x fails (sym same)

-- where the test finds none, no line has the id
without : (id : List ℕ) (es : List (Vec ℕ Global × Held)) → AllByRecursion (λ e. has_id id e.0 ≡ false) es → IsWithout id (map placed es)
without id [] fails = All-nil (λ (p : Placed). p.request.audit_id ≢ id)
without id (e ∷ es) fails = All-cons (λ (p : Placed). p.request.audit_id ≢ id) (placed e) (map placed es) (other_id id e.0.items fails.0) (without id es fails.1)

pub returns-clause-some : goal.returns-clause-some
returns-clause-some c = rw c.pop_entry.ensures.entries (out c.args.id.now c.args.store.now.entries c.pop_entry.result (sym c.pop_entry.ensures.value))

pub returns-clause-id : goal.returns-clause-id
returns-clause-id c = named c.args.id.now c.args.store.now.entries c.pop_entry.result (sym c.pop_entry.ensures.value)

pub returns-clause-order : goal.returns-clause-order
returns-clause-order c = rw c.pop_entry.ensures.entries (λ top falls. falling_out (has_id c.args.id.now) placed top c.args.store.now.entries falls)

pub returns-clause-none : goal.returns-clause-none
returns-clause-none c = kept c.pop_entry.result (sym c.pop_entry.ensures.value)
  where
    kept : (o : Option (Vec ℕ Global × Held)) → lookup_entry (has_id c.args.id.now) c.args.store.now.entries ≡ o
        → IfNone o ((c.pop_entry.new.self ≡ c.args.store.now) × IsWithout c.args.id.now (map placed c.args.store.now.entries))
    kept None is = (
      c.pop_entry.ensures.entries ∙ ap (λ es. lru_cache es c.args.store.now.cap) (none_out (has_id c.args.id.now) c.args.store.now.entries is),
      without c.args.id.now c.args.store.now.entries (each_fails (has_id c.args.id.now) c.args.store.now.entries is),
    )
    kept (Some e) is = tt
