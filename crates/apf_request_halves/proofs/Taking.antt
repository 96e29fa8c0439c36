-- Lines that are read, held and answered.
use Rattle.std.proofs.Common.{◌≡◌, ◌<◌, ◌≤◌, ◌+◌, ◌⊎◌, ℕ, List, [], ◌∷◌, ◌++◌, Bool, true, false, Option, Some, None, length, refl, sym, ap, ◌∙◌, subst, inl, inr, cond, arith, append_assoc, append-nil}
use Rattle.std.specs.Prelude.{All, IsPermutation, count_by, nat_lt}
use Rattle.std.specs.Io.KnownBytes.{IsAtEnd}
use Rattle.std.specs.List.{flat_map}
use Rattle.std.proofs.lemmas.List.{length-append, take_all}
use Rattle.std.proofs.lemmas.List.Concat.{flat_map-append}
use Rattle.std.proofs.lemmas.List.Elements.{All-append, All-from_recursion, All-nil}
use Rattle.std.proofs.lemmas.List.Sorted.{IsPermutation-refl, IsPermutation-trans, IsPermutation-append_left, IsPermutation-append_right, IsPermutation-append_comm, length_permutation}
use Rattle.std.proofs.lemmas.Bool.Decides.{nat_tests}
use Rattle.apf_lines.specs.Lines.{AreLines, AreUncut, CutsLine, HasNoLf, LinesView, lf, with_lf}
use Rattle.apf_request_lines.specs.Lines.{line_read}
use Rattle.apf_request_halves.specs.Held.{Placed}
use Rattle.apf_request_halves.specs.Reading.{AreAnswered, AreFalling, Asked, HadToGo, HalvesView, HasRead, IsMissed, IsWithout, answers_of, given, limit_after, limit_by, max_held, max_line, reach, request_at, requests_from}
use Rattle.apf_request_halves.proofs.Answering.{answered_push, answered_still, answers_push, count_front, count_held, limit_few, limit_push, went_still}
use Rattle.apf_request_halves.proofs.Falling.{falling_up}
use Rattle.apf_request_halves.proofs.Judging.{not_both}

-- nothing was read yet
pub nothing_read : (v : HalvesView) → v.lines ≡ record { longest = max_line; line = []; kept = []; is_skipped = false } → v.held ≡ [] → v.number ≡ 0 → v.dropped ≡ 0 → v.limit ≡ reach → v.is_ended ≡ false
    → (left : Option (List ℕ)) → HasRead [] [] left v
unfolding requests_from
nothing_read v lines held number dropped limit not_ended left = record {
  lines = [];
  rest = [];
  are = record { joined = refl; whole = All-from_recursion HasNoLf [] tt };
  uncut = subst (AreUncut []) (sym lines) (record { dropped = []; are = refl; both = refl });
  longest = ap (λ (l : LinesView). l.longest) lines;
  number = number;
  gone = [];
  all = rw held (IsPermutation-refl []);
  dropped = dropped;
  few = subst (λ (ps : List Placed). length ps ≤ max_held) (sym held) (omega arith);
  order = subst (AreFalling (v.number + 1)) (sym held) tt;
  had_to = All-nil (HadToGo []);
  each = tt;
  limit = limit;
  within = omega (arith, number);
  end = λ is. absurd (not_both v.is_ended not_ended is);
}

-- one more line
pub requests_push : (number : ℕ) (lines : List (List ℕ)) (line : List ℕ) → requests_from number (lines ++ line ∷ []) ≡ requests_from number lines ++ request_at (number + length lines) line
unfolding requests_from
requests_push number [] line =
    let same : number + 0 ≡ number = omega arith in
    rw same (append-nil (request_at number line))
requests_push number (first ∷ lines) line =
    let same : number + 1 + length lines ≡ number + length (first ∷ lines) = omega arith in
    ap (λ rs. request_at number first ++ rs) (requests_push (number + 1) lines line ∙ ap (λ n. requests_from (number + 1) lines ++ request_at n line) same)
    ∙ sym (append_assoc (request_at number first) (requests_from (number + 1) lines) (request_at (number + length (first ∷ lines)) line))

-- the bytes with one more line cut off
pub lines_push : (bytes : List ℕ) (lines : List (List ℕ)) (rest line later : List ℕ) → AreLines bytes lines rest → rest ≡ line ++ (lf ∷ later) → HasNoLf line → AreLines bytes (lines ++ line ∷ []) later
lines_push bytes lines rest line later are first whole = record {
  joined =
      are.joined ∙ ap (λ r. flat_map with_lf lines ++ r) (first ∙ sym (append_assoc line (lf ∷ []) later))
      ∙ sym (append_assoc (flat_map with_lf lines) (with_lf line) later)
      ∙ ap (λ ls. ls ++ later) (ap (λ l. flat_map with_lf lines ++ l) (sym (append-nil (with_lf line))) ∙ sym (flat_map-append with_lf lines (line ∷ [])));
  whole = All-append HasNoLf lines (line ∷ []) are.whole (All-from_recursion HasNoLf (line ∷ []) (whole, tt));
}

-- requests that come, are answered, held or go
pub regroup : {P : Type 0} (told held gone came out new more : List P) → IsPermutation (came ++ held) (out ++ (new ++ more))
    → (all : List P) → IsPermutation all (told ++ (held ++ gone)) → IsPermutation (all ++ came) ((told ++ out) ++ (new ++ (more ++ gone)))
regroup told held gone came out new more moves all before =
    let a : IsPermutation (all ++ came) ((told ++ (held ++ gone)) ++ came) = IsPermutation-append_left came all (told ++ (held ++ gone)) before in
    let b : IsPermutation (told ++ ((held ++ gone) ++ came)) (told ++ (came ++ (held ++ gone))) = IsPermutation-append_right told ((held ++ gone) ++ came) (came ++ (held ++ gone)) (IsPermutation-append_comm (held ++ gone) came) in
    let c : IsPermutation (told ++ ((came ++ held) ++ gone)) (told ++ ((out ++ (new ++ more)) ++ gone)) =
    IsPermutation-append_right told ((came ++ held) ++ gone) ((out ++ (new ++ more)) ++ gone) (IsPermutation-append_left gone (came ++ held) (out ++ (new ++ more)) moves) in
    let one : (told ++ (held ++ gone)) ++ came ≡ told ++ ((held ++ gone) ++ came) = append_assoc told (held ++ gone) came in
    let two : told ++ (came ++ (held ++ gone)) ≡ told ++ ((came ++ held) ++ gone) = ap (λ l. told ++ l) (sym (append_assoc came held gone)) in
    let three : told ++ ((out ++ (new ++ more)) ++ gone) ≡ (told ++ out) ++ (new ++ (more ++ gone)) = simp append_assoc in
    IsPermutation-trans (all ++ came) (told ++ ((held ++ gone) ++ came)) ((told ++ out) ++ (new ++ (more ++ gone)))
    (subst (IsPermutation (all ++ came)) one a)
    (IsPermutation-trans (told ++ ((held ++ gone) ++ came)) (told ++ ((came ++ held) ++ gone)) ((told ++ out) ++ (new ++ (more ++ gone)))
    (subst (IsPermutation (told ++ ((held ++ gone) ++ came))) two b) (subst (IsPermutation (told ++ ((came ++ held) ++ gone))) three c))

-- the view with one more line that was read
abbrev pub after_line : HalvesView → LinesView → List Placed → Bool → ℕ → HalvesView
after_line v lines held is_gone limit = record { lines = lines; held = held; number = v.number + 1; dropped = v.dropped + cond is_gone 1 0; limit = limit; is_ended = v.is_ended }

-- of the requests that come, and those that are held, these are answered, held, or had to go
pub record Moves (v : HalvesView) (came out new more : List Placed) (is_gone : Bool) : Type 0 where
  pub all : IsPermutation (came ++ v.held) (out ++ (new ++ more))
  pub count : length more ≡ cond is_gone 1 0
  pub few : length v.held ≤ max_held → length new ≤ max_held
  pub order : AreFalling (v.number + 1) v.held → AreFalling (v.number + 1 + 1) new
  pub had_to : AreFalling (v.number + 1) v.held → All (HadToGo new) more

-- a line was cut off, and its request, if it has one, was answered or is held
pub line_went : (bytes : List ℕ) (asked : List Asked) (left : Option (List ℕ)) (v : HalvesView) (h : HasRead bytes asked left v) → v.is_ended ≡ false → (line : List ℕ) (ls : LinesView) → CutsLine h.rest line ls
    → ls.longest ≡ max_line → (came out new more : List Placed) (is_gone : Bool) → request_at (v.number + 1) line ≡ came → Moves v came out new more is_gone → (told : List Asked) → answers_of told ≡ answers_of asked ++ out
    → AreAnswered (h.lines ++ line ∷ []) v.is_ended (more ++ h.gone) [] told → v.number < limit_by told → HasRead bytes told left (after_line v ls new is_gone (limit_by told))
line_went bytes asked left v h not_ended line ls cuts longest came out new more is_gone is moves told same each goes_on =
    let place : 1 + length h.lines ≡ v.number + 1 = omega (arith, h.number) in
    let requests : requests_from 1 (h.lines ++ line ∷ []) ≡ requests_from 1 h.lines ++ came =
    requests_push 1 h.lines line ∙ ap (λ rs. requests_from 1 h.lines ++ rs) (ap (λ n. request_at n line) place ∙ is) in
    let grouped = regroup (answers_of asked) v.held h.gone came out new more moves.all (requests_from 1 h.lines) h.all in
    let grown : (p : Placed → Bool) → count_by p (requests_from 1 h.lines) ≤ count_by p (requests_from 1 h.lines ++ came) = λ p. count_front p (requests_from 1 h.lines) came in
    let among : (p : Placed → Bool) → count_by p new ≤ count_by p (requests_from 1 h.lines ++ came) =
    λ p. count_held p (answers_of asked ++ out) new (more ++ h.gone) (requests_from 1 h.lines ++ came) grouped in
    let had_to : All (HadToGo (requests_from 1 h.lines ++ came)) (more ++ h.gone) =
    All-append (HadToGo (requests_from 1 h.lines ++ came)) more h.gone (went_still new (requests_from 1 h.lines ++ came) more among (moves.had_to h.order))
    (went_still (requests_from 1 h.lines) (requests_from 1 h.lines ++ came) h.gone grown h.had_to) in
    record {
      lines = h.lines ++ line ∷ [];
      rest = cuts.later;
      are = lines_push bytes h.lines h.rest line cuts.later h.are cuts.first cuts.whole;
      uncut = cuts.left;
      longest = longest;
      number = omega (arith, h.number, length-append h.lines (line ∷ []));
      gone = more ++ h.gone;
      all =
          subst (λ answers. IsPermutation (requests_from 1 (h.lines ++ line ∷ [])) (answers ++ (new ++ (more ++ h.gone)))) (sym same)
          (subst (λ rs. IsPermutation rs ((answers_of asked ++ out) ++ (new ++ (more ++ h.gone)))) (sym requests) grouped);
      dropped = omega (arith, h.dropped, length-append more h.gone, moves.count);
      few = moves.few h.few;
      order = moves.order h.order;
      had_to = subst (λ rs. All (HadToGo rs) (more ++ h.gone)) (sym requests) had_to;
      each = each;
      limit = refl;
      within = omega (arith, goes_on);
      end = λ is. absurd (not_both v.is_ended not_ended is);
    }

-- what was answered before stays so where a line was cut off
pub each_still : (bytes : List ℕ) (asked : List Asked) (left : Option (List ℕ)) (v : HalvesView) (h : HasRead bytes asked left v) → v.is_ended ≡ false → (line : List ℕ) (more : List Placed)
    → AreAnswered (h.lines ++ line ∷ []) v.is_ended (more ++ h.gone) [] asked
each_still bytes asked left v h not_ended line more =
    answered_still h.lines (line ∷ []) v.is_ended h.gone more [] asked (subst (λ e. AreAnswered h.lines e h.gone [] asked) not_ended h.each)

-- nothing of it was answered
pub line_stays : (bytes : List ℕ) (asked : List Asked) (left : Option (List ℕ)) (v : HalvesView) (h : HasRead bytes asked left v) → v.is_ended ≡ false → v.number < v.limit → (line : List ℕ) (ls : LinesView) → CutsLine h.rest line ls
    → ls.longest ≡ max_line → (came new more : List Placed) (is_gone : Bool) → request_at (v.number + 1) line ≡ came → Moves v came [] new more is_gone → HasRead bytes asked left (after_line v ls new is_gone v.limit)
line_stays bytes asked left v h not_ended goes_on line ls cuts longest came new more is_gone is moves =
    subst (λ limit. HasRead bytes asked left (after_line v ls new is_gone limit)) (sym h.limit)
    (line_went bytes asked left v h not_ended line ls cuts longest came [] new more is_gone is moves asked (sym (append-nil (answers_of asked))) (each_still bytes asked left v h not_ended line more) (omega (arith, goes_on, h.limit)))

-- it was answered to who asked for its id
pub line_answered : (bytes : List ℕ) (asked : List Asked) (left : Option (List ℕ)) (v : HalvesView) (h : HasRead bytes asked left v) → v.is_ended ≡ false → v.number < v.limit → (line : List ℕ) (ls : LinesView) → CutsLine h.rest line ls
    → ls.longest ≡ max_line → (came new more : List Placed) (is_gone : Bool) → request_at (v.number + 1) line ≡ came → (id : List ℕ) (p : Placed) → Moves v came (p ∷ []) new more is_gone → p.request.audit_id ≡ id
    → HasRead bytes (asked ++ record { id = id; found = Some p } ∷ []) left (after_line v ls new is_gone (limit_after v.limit (Some p)))
line_answered bytes asked left v h not_ended goes_on line ls cuts longest came new more is_gone is id p moves same =
    let a : Asked = record { id = id; found = Some p } in
    let limit : limit_by (asked ++ a ∷ []) ≡ limit_after v.limit (Some p) = limit_push reach asked a ∙ ap (λ l. limit_after l (Some p)) (sym h.limit) in
    let each =
    answered_push (h.lines ++ line ∷ []) v.is_ended (more ++ h.gone) [] asked a (each_still bytes asked left v h not_ended line more) same in
    subst (λ limit. HasRead bytes (asked ++ a ∷ []) left (after_line v ls new is_gone limit)) limit
    (line_went bytes asked left v h not_ended line ls cuts longest came (p ∷ []) new more is_gone is moves (asked ++ a ∷ []) (answers_push asked a) each (omega (arith, goes_on, limit)))

-- a line that is short has what was read of it
pub short_line : (number : ℕ) (line : List ℕ) → length line ≤ max_line → request_at number line ≡ given number (line_read line)
short_line number line short =
    let test : nat_lt max_line (length line) ≡ false = grind (arith, nat_tests) in
    rw test refl

-- one that is too long has none
pub long_line : (number : ℕ) (line : List ℕ) → max_line < length line → request_at number line ≡ []
long_line number line long =
    let test : nat_lt max_line (length line) ≡ true = grind (arith, nat_tests) in
    rw test refl

-- a line that is held was answered
pub held_went : (bytes : List ℕ) (asked : List Asked) (left : Option (List ℕ)) (v : HalvesView) → HasRead bytes asked left v → (id : List ℕ) (p : Placed) (new : List Placed) → IsPermutation v.held (p ∷ new)
    → ((top : ℕ) → AreFalling top v.held → AreFalling top new) → p.request.audit_id ≡ id
    → HasRead bytes (asked ++ record { id = id; found = Some p } ∷ []) left (record { lines = v.lines; held = new; number = v.number; dropped = v.dropped; limit = limit_after v.limit (Some p); is_ended = v.is_ended })
held_went bytes asked left v h id p new out falls same_id =
    let a : Asked = record { id = id; found = Some p } in
    let told = answers_of asked in
    let same : told ++ ((p ∷ new) ++ h.gone) ≡ (told ++ p ∷ []) ++ (new ++ h.gone) = sym (append_assoc told (p ∷ []) (new ++ h.gone)) in
    record {
      lines = h.lines;
      rest = h.rest;
      are = h.are;
      uncut = h.uncut;
      longest = h.longest;
      number = h.number;
      gone = h.gone;
      all =
          subst (λ answers. IsPermutation (requests_from 1 h.lines) (answers ++ (new ++ h.gone))) (sym (answers_push asked a))
          (subst (IsPermutation (requests_from 1 h.lines)) same
          (IsPermutation-trans (requests_from 1 h.lines) (told ++ (v.held ++ h.gone)) (told ++ ((p ∷ new) ++ h.gone)) h.all
          (IsPermutation-append_right told (v.held ++ h.gone) ((p ∷ new) ++ h.gone) (IsPermutation-append_left h.gone v.held (p ∷ new) out))));
      dropped = h.dropped;
      few = omega (arith, h.few, length_permutation v.held (p ∷ new) out);
      order = falls (v.number + 1) h.order;
      had_to = h.had_to;
      each = answered_push h.lines v.is_ended h.gone [] asked a h.each same_id;
      limit = ap (λ l. limit_after l (Some p)) h.limit ∙ sym (limit_push reach asked a);
      within = omega (arith, h.within);
      end = h.end;
    }

-- no line of this id is held, and no more are read for it
pub none_went : (bytes : List ℕ) (asked : List Asked) (left : Option (List ℕ)) (v : HalvesView) → HasRead bytes asked left v → (id : List ℕ) → IsWithout id v.held → (v.limit ≤ v.number) ⊎ (v.is_ended ≡ true)
    → HasRead bytes (asked ++ record { id = id; found = None } ∷ []) left (record { lines = v.lines; held = v.held; number = v.number; dropped = v.dropped; limit = limit_after v.limit None; is_ended = v.is_ended })
none_went bytes asked left v h id without over =
    let a : Asked = record { id = id; found = None } in
    let missed : IsMissed h.lines v.is_ended h.gone asked id = record {
      count = length h.lines;
      some = omega arith;
      held = v.held;
      past = h.gone;
      later = [];
      both = refl;
      all = subst (λ ls. IsPermutation (requests_from 1 ls) (answers_of asked ++ (v.held ++ h.gone))) (sym (take_all (length h.lines) h.lines (omega arith))) h.all;
      none = without;
      far = far over;
    } in
    record {
      lines = h.lines;
      rest = h.rest;
      are = h.are;
      uncut = h.uncut;
      longest = h.longest;
      number = h.number;
      gone = h.gone;
      all =
          subst (λ answers. IsPermutation (requests_from 1 h.lines) (answers ++ (v.held ++ h.gone))) (sym (answers_push asked a ∙ append-nil (answers_of asked))) h.all;
      dropped = h.dropped;
      few = h.few;
      order = h.order;
      had_to = h.had_to;
      each = answered_push h.lines v.is_ended h.gone [] asked a h.each missed;
      limit = ap (λ l. limit_after l None) h.limit ∙ sym (limit_push reach asked a);
      within = omega (arith, h.within, h.limit, limit_few reach asked (omega arith));
      end = h.end;
    }
  where
    far : (v.limit ≤ v.number) ⊎ (v.is_ended ≡ true) → (limit_by asked ≤ length h.lines) ⊎ ((v.is_ended ≡ true) × (length h.lines ≡ length h.lines))
    far (inl low) = inl (omega (arith, low, h.limit, h.number))
    far (inr ended) = inr (ended, refl)

-- the view where other bytes are read and not yet cut off
abbrev pub at_lines : HalvesView → LinesView → HalvesView
at_lines v ls = record { lines = ls; held = v.held; number = v.number; dropped = v.dropped; limit = v.limit; is_ended = v.is_ended }

-- more was read
pub read_more : (bytes : List ℕ) (asked : List Asked) (was left : Option (List ℕ)) (v : HalvesView) → HasRead bytes asked was v → v.is_ended ≡ false → (ls : LinesView) (more : List ℕ)
    → ((rest : List ℕ) → AreUncut rest v.lines → AreUncut (rest ++ more) ls) → ls.longest ≡ v.lines.longest → HasRead (bytes ++ more) asked left (at_lines v ls)
read_more bytes asked was left v h not_ended ls more gains longest = record {
  lines = h.lines;
  rest = h.rest ++ more;
  are = record { joined = ap (λ b. b ++ more) h.are.joined ∙ append_assoc (flat_map with_lf h.lines) h.rest more; whole = h.are.whole };
  uncut = gains h.rest h.uncut;
  longest = longest ∙ h.longest;
  number = h.number;
  gone = h.gone;
  all = h.all;
  dropped = h.dropped;
  few = h.few;
  order = h.order;
  had_to = h.had_to;
  each = h.each;
  limit = h.limit;
  within = h.within;
  end = λ is. absurd (not_both v.is_ended not_ended is);
}

-- nothing was read
pub still_read : (bytes : List ℕ) (asked : List Asked) (was left : Option (List ℕ)) (v : HalvesView) → HasRead bytes asked was v → v.is_ended ≡ false → (ls : LinesView)
    → ((rest : List ℕ) → AreUncut rest v.lines → AreUncut rest ls) → ls.longest ≡ v.lines.longest → HasRead (bytes ++ []) asked left (at_lines v ls)
still_read bytes asked was left v h not_ended ls stays longest =
    read_more bytes asked was left v h not_ended ls [] (λ rest uncut. subst (λ r. AreUncut r ls) (sym (append-nil rest)) (stays rest uncut)) longest

-- the view of an input that is at its end
abbrev pub at_end : HalvesView → HalvesView
at_end v = record { lines = v.lines; held = v.held; number = v.number; dropped = v.dropped; limit = v.limit; is_ended = true }

-- the input is at its end
pub ended : (bytes : List ℕ) (asked : List Asked) (left : Option (List ℕ)) (v : HalvesView) → HasRead bytes asked left v → v.is_ended ≡ false → IsAtEnd left → HasRead bytes asked left (at_end v)
ended bytes asked left v h not_ended end = record {
  lines = h.lines;
  rest = h.rest;
  are = h.are;
  uncut = h.uncut;
  longest = h.longest;
  number = h.number;
  gone = h.gone;
  all = h.all;
  dropped = h.dropped;
  few = h.few;
  order = h.order;
  had_to = h.had_to;
  each =
      subst (λ ls. AreAnswered ls true h.gone [] asked) (append-nil h.lines)
      (answered_still h.lines [] true h.gone [] [] asked (subst (λ e. AreAnswered h.lines e h.gone [] asked) not_ended h.each));
  limit = h.limit;
  within = h.within;
  end = λ is. end;
}

-- a line without a request was cut off
pub passed : (bytes : List ℕ) (asked : List Asked) (left : Option (List ℕ)) (v : HalvesView) (h : HasRead bytes asked left v) → v.is_ended ≡ false → v.number < v.limit → (line : List ℕ) (ls : LinesView) → CutsLine h.rest line ls
    → ls.longest ≡ max_line → request_at (v.number + 1) line ≡ []
    → HasRead bytes asked left (record { lines = ls; held = v.held; number = v.number + 1; dropped = v.dropped; limit = v.limit; is_ended = v.is_ended })
passed bytes asked left v h not_ended goes_on line ls cuts longest none =
    let dropped : v.dropped + 0 ≡ v.dropped = omega arith in
    let moves : Moves v [] [] v.held [] false = record {
      all = subst (IsPermutation v.held) (sym (append-nil v.held)) (IsPermutation-refl v.held);
      count = refl;
      few = λ few. few;
      order = λ falls. falling_up (v.number + 1 + 1) (v.number + 1) v.held (omega arith) falls;
      had_to = λ falls. All-nil (HadToGo v.held);
    } in
    subst (λ d. HasRead bytes asked left (record { lines = ls; held = v.held; number = v.number + 1; dropped = d; limit = v.limit; is_ended = v.is_ended })) dropped
    (line_stays bytes asked left v h not_ended goes_on line ls cuts longest [] v.held [] false none moves)
