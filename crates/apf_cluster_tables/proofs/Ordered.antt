-- The order of places, by four numbers, and that of pairs, by six.
use Rattle.std.proofs.Common.{◌≡◌, ℕ, [], ◌∷◌, Bool, true, false, refl, ap, ◌∙◌}
use Rattle.std.specs.Prelude.{cond, nat_lt, ◌==◌, ◌&&◌, ◌||◌}
use Rattle.std.specs.Ordering.{nat_cmp, ordering_then, is_lt}
use Rattle.std.specs.declared.cmp.Ordering.{Ordering}
use Rattle.std.specs.declared.cmp.Ordering.TheVariants.{Less, Equal, Greater}
use Rattle.apf_cluster_tables.specs.Pairs.{is_less}

-- what was told apart by two numbers goes on by others
by_tests : (p q : Bool) (o : Ordering) → is_lt (ordering_then (cond p Less (cond q Equal Greater)) o) ≡ (p || (q && is_lt o))
by_tests true q o = refl
by_tests false true o = refl
by_tests false false o = refl

then_by : (a b : ℕ) (o : Ordering) → is_lt (ordering_then (nat_cmp a b) o) ≡ (nat_lt a b || ((a == b) && is_lt o))
then_by a b o = by_tests (nat_lt a b) (a == b) o

last_by : (p q : Bool) → is_lt (cond p Less (cond q Equal Greater)) ≡ p
last_by true q = refl
last_by false true = refl
last_by false false = refl

last_one : (a b : ℕ) → is_lt (nat_cmp a b) ≡ nat_lt a b
last_one a b = last_by (nat_lt a b) (a == b)

-- what tells apart first is told apart first, however it is grouped
regroup : (o p q : Ordering) → ordering_then (ordering_then o p) q ≡ ordering_then o (ordering_then p q)
regroup Less p q = refl
regroup Equal p q = refl
regroup Greater p q = refl

-- the order by four numbers
pub four_order : (a b c d e f g h : ℕ) → is_lt (ordering_then (ordering_then (ordering_then (nat_cmp a b) (nat_cmp c d)) (nat_cmp e f)) (nat_cmp g h))
    ≡ (nat_lt a b || ((a == b) && (nat_lt c d || ((c == d) && (nat_lt e f || ((e == f) && nat_lt g h))))))
four_order a b c d e f g h =
    let last : is_lt (ordering_then (nat_cmp e f) (nat_cmp g h)) ≡ (nat_lt e f || ((e == f) && nat_lt g h)) = then_by e f (nat_cmp g h) ∙ ap (λ (t : Bool). nat_lt e f || ((e == f) && t)) (last_one g h) in
    let more : is_lt (ordering_then (nat_cmp c d) (ordering_then (nat_cmp e f) (nat_cmp g h))) ≡ (nat_lt c d || ((c == d) && (nat_lt e f || ((e == f) && nat_lt g h)))) =
    then_by c d (ordering_then (nat_cmp e f) (nat_cmp g h)) ∙ ap (λ (t : Bool). nat_lt c d || ((c == d) && t)) last in
    ap is_lt (regroup (ordering_then (nat_cmp a b) (nat_cmp c d)) (nat_cmp e f) (nat_cmp g h) ∙ regroup (nat_cmp a b) (nat_cmp c d) (ordering_then (nat_cmp e f) (nat_cmp g h)))
    ∙ (then_by a b (ordering_then (nat_cmp c d) (ordering_then (nat_cmp e f) (nat_cmp g h))) ∙ ap (λ (t : Bool). nat_lt a b || ((a == b) && t)) more)

-- ---- six numbers

less_by : (a b : ℕ) (o : Ordering) (t : Bool) → is_lt o ≡ t → is_lt (ordering_then (nat_cmp a b) o) ≡ (nat_lt a b || ((a == b) && t))
less_by a b o t is = then_by a b o ∙ ap (λ (s : Bool). nat_lt a b || ((a == b) && s)) is

end_by : (p q : Bool) → is_lt (cond p Less (cond q Equal Greater)) ≡ (p || (q && false))
end_by true q = refl
end_by false true = refl
end_by false false = refl

six_group : (a b c d e f : Ordering) → ordering_then (ordering_then (ordering_then (ordering_then (ordering_then a b) c) d) e) f ≡ ordering_then a (ordering_then b (ordering_then c (ordering_then d (ordering_then e f))))
six_group a b c d e f =
    regroup (ordering_then (ordering_then (ordering_then a b) c) d) e f
    ∙ regroup (ordering_then (ordering_then a b) c) d (ordering_then e f)
    ∙ regroup (ordering_then a b) c (ordering_then d (ordering_then e f))
    ∙ regroup a b (ordering_then c (ordering_then d (ordering_then e f)))

-- the order by six numbers
pub six_order : (a a' b b' c c' d d' e e' f f' : ℕ)
    → is_lt (ordering_then (ordering_then (ordering_then (ordering_then (ordering_then (nat_cmp a a') (nat_cmp b b')) (nat_cmp c c')) (nat_cmp d d')) (nat_cmp e e')) (nat_cmp f f'))
    ≡ is_less (a ∷ b ∷ c ∷ d ∷ e ∷ f ∷ []) (a' ∷ b' ∷ c' ∷ d' ∷ e' ∷ f' ∷ [])
six_order a a' b b' c c' d d' e e' f f' =
    ap is_lt (six_group (nat_cmp a a') (nat_cmp b b') (nat_cmp c c') (nat_cmp d d') (nat_cmp e e') (nat_cmp f f'))
    ∙ less_by a a' _ _ (less_by b b' _ _ (less_by c c' _ _ (less_by d d' _ _ (less_by e e' _ _ (end_by (nat_lt f f') (f == f'))))))
