-- What is made of a line.
use Rattle.std.proofs.Common.{◌≡◌, ◌≢◌, ◌+◌, ℕ, List, [], ◌∷◌, Bool, true, false, Some, None, Ok, refl, arith, append-nil}
use Rattle.std.specs.Prelude.{bytes_eq}
use Rattle.std.specs.Cmp.Lexicographic.{bytes_decides}
use Rattle.std.proofs.lemmas.List.Elements.{All-cons, All-nil}
use Rattle.std.proofs.lemmas.List.Sorted.{IsPermutation-refl}
use Rattle.apf_request_lines.specs.declared.line.RequestLine.{RequestLine}
use Rattle.apf_request_lines.specs.Lines.{line_read, request}
use Rattle.apf_request_halves.specs.Held.{Placed}
use Rattle.apf_request_halves.specs.Reading.{HadToGo, IsHeld, Judges}
use Rattle.apf_request_halves.proofs.Falling.{falling_up}

-- no test both fails and passes
pub not_both : (b : Bool) → b ≡ false → b ≡ true → ⊥
not_both b fails passes = absurd cc

-- bytes that differ are others
pub other : (some id : List ℕ) → bytes_eq some id ≡ false → some ≢ id
other some id fails same = not_both (bytes_eq some id) fails ((bytes_decides some id).1 same)

-- it is no line of a request
pub judged_none : (number : ℕ) (line id : List ℕ) (old : List Placed) → line_read line ≡ Ok None → Judges number line id old None false old
judged_none number line id old is = record {
  gone = [];
  all = rw (is, append-nil old) (IsPermutation-refl old);
  count = refl;
  few = λ few. few;
  order = λ falls. falling_up (number + 1) number old (omega arith) falls;
  had_to = λ falls. All-nil (HadToGo old);
  same_id = tt;
  other_id = rw is (All-nil (λ (p : Placed). p.request.audit_id ≢ id));
}

-- it has the id
pub judged_answered : (number : ℕ) (line id : List ℕ) (old : List Placed) (r : RequestLine) → line_read line ≡ Ok (Some (request r)) → r.audit_id.items ≡ id → Judges number line id old (Some r) false old
judged_answered number line id old r is same = record {
  gone = [];
  all = rw (is, append-nil old) (IsPermutation-refl (record { number = number; request = request r } ∷ old));
  count = refl;
  few = λ few. few;
  order = λ falls. falling_up (number + 1) number old (omega arith) falls;
  had_to = λ falls. All-nil (HadToGo old);
  same_id = same;
  other_id = tt;
}

-- it is held
pub judged_held : (line id : List ℕ) (old new : List Placed) (p : Placed) (is_gone : Bool) → line_read line ≡ Ok (Some p.request) → p.request.audit_id ≢ id → IsHeld p old is_gone new → Judges p.number line id old None is_gone new
judged_held line id old new p is_gone is differs holds = record {
  gone = holds.gone;
  all = rw is holds.all;
  count = holds.count;
  few = λ few. holds.few;
  order = holds.order;
  had_to = holds.had_to;
  same_id = tt;
  other_id = rw is (All-cons (λ (q : Placed). q.request.audit_id ≢ id) p [] differs (All-nil (λ (q : Placed). q.request.audit_id ≢ id)));
}
