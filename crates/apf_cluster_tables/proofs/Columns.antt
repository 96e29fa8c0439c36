-- Columns that are written one after another.
use Rattle.std.proofs.Common.{◌≡◌, ℕ, zero, suc, ◌+◌, List, [], ◌++◌, Option, codes, refl, sym, ap, ◌∙◌, subst, arith, add-one, append_assoc}
use Rattle.std.specs.Prelude.{drop}
use Rattle.std.specs.Io.KnownBytes.{Appends}
use Rattle.std.proofs.KnownBytes.{Appends-nil, Appends-trans}
use Rattle.std.proofs.lemmas.List.{append-nil}
use Rattle.apf_cluster_tables.specs.Beside.{column_beside, columns_beside, rest_of}
use Rattle.apf_cluster_tables.specs.Both.{absent}

-- ---- columns of what is not there

absent_more : (n : ℕ) → codes " -" ++ absent n ≡ absent n ++ codes " -"
absent_more zero = refl
absent_more (suc n) = ap (λ (t : List ℕ). codes " -" ++ t) (absent_more n) ∙ sym (append_assoc (codes " -") (absent n) (codes " -"))

pub absent_next : (n : ℕ) → absent (n + 1) ≡ absent n ++ codes " -"
absent_next n = ap absent (add-one n) ∙ absent_more n

-- ---- columns of two texts

-- some columns were written, and so many are to come, of these texts
pub record AreWritten (before out : Option (List ℕ)) (left : ℕ) (one other whole : List ℕ) : Type 0 where
  pub done : List ℕ
  pub written : Appends before out done
  pub rest : done ++ columns_beside left one other ≡ whole

pub none_written : (out : Option (List ℕ)) (left columns : ℕ) (one other : List ℕ) → left ≡ columns → AreWritten out out left one other (columns_beside columns one other)
none_written out left columns one other is = record { done = []; written = Appends-nil out; rest = ap (λ (n : ℕ). columns_beside n one other) is }

pub one_written : (before out after : Option (List ℕ)) (left : ℕ) (one other begun begun_2 first second whole : List ℕ) → begun ≡ drop 1 one → begun_2 ≡ drop 1 other → first ≡ rest_of begun → second ≡ rest_of begun_2
    → Appends out after (column_beside begun begun_2) → AreWritten before out (suc left) one other whole → AreWritten before after left first second whole
unfolding columns_beside
one_written before out after left one other begun begun_2 first second whole begun_is begun_2_is first_is second_is column h =
    let next : column_beside begun begun_2 ++ columns_beside left first second ≡ columns_beside (suc left) one other = rw (first_is, second_is, begun_is, begun_2_is) refl in
    record {
      done = h.done ++ column_beside begun begun_2;
      written = Appends-trans before out after h.done (column_beside begun begun_2) h.written column;
      rest = append_assoc h.done (column_beside begun begun_2) (columns_beside left first second) ∙ (ap (λ (t : List ℕ). h.done ++ t) next ∙ h.rest);
    }

pub all_written : (before out : Option (List ℕ)) (left : ℕ) (one other whole : List ℕ) → left ≡ 0 → AreWritten before out left one other whole → Appends before out whole
unfolding columns_beside
all_written before out zero one other whole is h = subst (Appends before out) (sym (append-nil h.done) ∙ h.rest) h.written
all_written before out (suc left) one other whole is h = absurd (omega (arith, is))
