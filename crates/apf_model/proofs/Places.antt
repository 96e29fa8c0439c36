-- The places of a schedule.
use Rattle.std.proofs.Common.{◌≡◌, ◌+◌, Bool, true, false, cond, List, [], ◌∷◌, ◌++◌, ap, ◌∙◌, zero-add}
use Rattle.std.specs.Prelude.{count_by}
use Rattle.std.proofs.lemmas.List.Sums.{sum_by-cons, sum_by-append}
use Rattle.apf_model.specs.declared.moves.Move.{Move}
use Rattle.apf_model.specs.World.{Opening, Allowed}
use Rattle.apf_model.specs.Schedule.{world, IsSchedule}

-- each beginning of a schedule is a schedule
pub IsSchedule-append : (o : Opening) (later earlier : List Move) → IsSchedule o (later ++ earlier) → IsSchedule o earlier
IsSchedule-append o [] earlier s = s
IsSchedule-append o (m ∷ later) earlier s = IsSchedule-append o later earlier s.1

-- a step of a schedule was allowed where it came
pub allowed_at : (o : Opening) (later : List Move) (m : Move) (earlier : List Move) → IsSchedule o (later ++ m ∷ earlier) → Allowed o.widths m (world o earlier)
allowed_at o later m earlier s = (IsSchedule-append o later (m ∷ earlier) s).0

pub count_by-cons : (p : Move → Bool) (m : Move) (ms : List Move) → count_by p (m ∷ ms) ≡ cond (p m) 1 0 + count_by p ms
count_by-cons p m ms = sum_by-cons (λ x. cond (p x) 1 0) m ms

pub count_by-append : (p : Move → Bool) (ms ns : List Move) → count_by p (ms ++ ns) ≡ count_by p ms + count_by p ns
count_by-append p ms ns = sum_by-append (λ x. cond (p x) 1 0) ms ns

pub count_yes : (p : Move → Bool) (m : Move) (ms : List Move) → p m ≡ true → count_by p (m ∷ ms) ≡ 1 + count_by p ms
count_yes p m ms is = count_by-cons p m ms ∙ ap (λ b. cond b 1 0 + count_by p ms) is

pub count_no : (p : Move → Bool) (m : Move) (ms : List Move) → p m ≡ false → count_by p (m ∷ ms) ≡ count_by p ms
count_no p m ms isnt = count_by-cons p m ms ∙ (ap (λ b. cond b 1 0 + count_by p ms) isnt ∙ zero-add (count_by p ms))
