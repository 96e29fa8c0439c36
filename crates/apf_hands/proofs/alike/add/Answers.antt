-- The hash stands behind the others at these queues, and nothing changes at others.
use Rattle.std.proofs.Common.{◌≡◌, ℕ, List, [], ◌∷◌, ◌++◌, Bool, true, false, Option, None, Some, Vec, Global, cond, refl, sym, ap, ◌∙◌, append-nil, rules}
use Rattle.std.specs.Prelude.{bytes_eq, if◌then◌else◌}
use Rattle.std.specs.Borrow.{Bor}
use Rattle.std.specs.BTreeMap.{BTreeMap, get_by}
use Rattle.std.specs.Cmp.Lexicographic.{slice_cmp}
use Rattle.std.specs.Ordering.{nat_cmp}
use Rattle.std.proofs.lemmas.Map.Text.{btree_map_updates_str}
use Rattle.std.proofs.lemmas.Slice.Eq.{bytes_eq-Decides}
use Rattle.apf_hands.specs.Holders.{listed}
use Rattle.apf_hands.proofs.alike.add.Goals as goal

added : (queues others : List ℕ) (hash : ℕ) (new : Vec ℕ Global) (old : List ℕ → Option (Vec ℕ Global)) → new.items ≡ listed (old queues) ++ hash ∷ []
    → listed (cond (bytes_eq queues others) (Some new) (old others)) ≡ listed (old others) ++ (if bytes_eq queues others then hash ∷ [] else [])
added queues others hash new old is = by (bytes_eq queues others) refl
  where
    by : (b : Bool) → bytes_eq queues others ≡ b → listed (cond b (Some new) (old others)) ≡ listed (old others) ++ (if b then hash ∷ [] else [])
    by true e = is ∙ ap (λ (qs : List ℕ). listed (old qs) ++ hash ∷ []) ((bytes_eq-Decides queues others).0 e)
    by false e = sym (append-nil (listed (old others)))

pub returns-in-Some : goal.returns-in-Some
returns-in-Some c =
    let queues = c.args.queues.now in
    let map = c.args.alike.now in
    let pushed = c.push.new.self in
    let found : get_by (λ key. slice_cmp nat_cmp queues key.now) map ≡ Some c.in-Some.hashes.now = search (c.in-Some.ensures.value, rules) in
    let items : pushed.items ≡ listed (get_by (λ key. slice_cmp nat_cmp queues key.now) map) ++ c.args.hash ∷ [] =
    c.in_ok-push.ensures.items ∙ ap (λ (o : Option (Vec ℕ Global)). listed o ++ c.args.hash ∷ []) (sym found) in
    λ others.
    ap (λ (o : Option (Vec ℕ Global)). listed o) (btree_map_updates_str queues map (c.get_mut.follows.lender pushed) (Some pushed) ((c.get_mut.follows.holds pushed).3 (search rules)) others)
    ∙ added queues others c.args.hash pushed (λ qs. get_by (λ key. slice_cmp nat_cmp qs key.now) map) items

pub returns : goal.returns
returns c =
    let queues = c.args.queues.now in
    let map = c.args.alike.now in
    let pushed = c.push-2.new.self in
    let found : get_by (λ key. slice_cmp nat_cmp queues key.now) map ≡ None = search (c.in_default.ensures.value, rules) in
    let items : pushed.items ≡ listed (get_by (λ key. slice_cmp nat_cmp queues key.now) map) ++ c.args.hash ∷ [] =
    c.in_ok-push-2.ensures.items ∙ (ap (λ (hs : List ℕ). hs ++ c.args.hash ∷ []) c.new-hashes.ensures.items ∙ ap (λ (o : Option (Vec ℕ Global)). listed o ++ c.args.hash ∷ []) (sym found)) in
    λ others.
    ap (λ (o : Option (Vec ℕ Global)). listed o) (btree_map_updates_str queues c.get_mut.follows.lender-at-none c.insert.new.self (Some pushed) c.in_ok-insert.ensures.updates others
    ∙ ap (λ (m : BTreeMap (Bor (List ℕ)) (Vec ℕ Global)). cond (bytes_eq queues others) (Some pushed) (get_by (λ key. slice_cmp nat_cmp others key.now) m)) c.get_mut.follows.holds-at-none)
    ∙ added queues others c.args.hash pushed (λ qs. get_by (λ key. slice_cmp nat_cmp qs key.now) map) items
