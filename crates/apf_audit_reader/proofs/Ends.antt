-- What is handed out at the end of the input, and a reader that read nothing.
use Rattle.std.proofs.Common.{◌≡◌, ◌≢◌, ℕ, ◌+◌, ◌<◌, ◌≤◌, lit≤, List, [], ◌∷◌, ◌++◌, length, map, false, Option, Some, None, Ok, IsPermutation, refl, sym, ap, ◌∙◌, subst, append-nil, arith}
use Rattle.std.specs.Option.{option_to_list}
use Rattle.std.specs.Io.KnownBytes.{IsAtEnd}
use Rattle.std.proofs.lemmas.List.{length-append, length-map, map-append}
use Rattle.std.proofs.lemmas.List.Elements.{All-nil}
use Rattle.std.proofs.lemmas.List.Sorted.{length_permutation}
use Rattle.apf_lines.specs.Lines.{AreUncut, LinesView}
use Rattle.apf_times.specs.declared.window.Arrival.{Arrival}
use Rattle.apf_times.specs.Windows.{IsPopped, WindowView}
use Rattle.apf_times.specs.WindowRuns.{AreInPlace, Call, HaveOwnLines, IsWindowRun, all_came, all_out}
use Rattle.apf_traces.specs.TraceFile.{lines_of}
use Rattle.apf_audit.specs.AuditEvent.{Event, event, IsTakenInRange}
use Rattle.apf_audit.specs.AuditLog.{max_line}
use Rattle.apf_audit.specs.Estimates.{AreEstimates, EstimatesView}
use Rattle.apf_audit.specs.declared.choice.Choice.{Choice}
use Rattle.apf_audit.specs.declared.event.Taken.{Taken}
use Rattle.apf_audit_reader.specs.declared.stage.Stage.TheVariants.{Reading, Ended}
use Rattle.apf_audit_reader.specs.Giving.{AreHanded, Hands}
use Rattle.apf_audit_reader.specs.Log.{handed, handed_from, read_from, requests_of}
use Rattle.apf_audit_reader.specs.Places.{placed}
use Rattle.apf_audit_reader.specs.Reading.{AreAll, AreCut, Answers, HasRead, HasTaken, events_out}
use Rattle.apf_audit_reader.specs.Views.{ReaderView}
use Rattle.apf_audit_reader.proofs.Handing.{handed_append, handed_whole}
use Rattle.apf_audit_reader.proofs.Steps.{HandsAll, HoldsFew}

abbrev pub HandsInOrder : Type 0
HandsInOrder = (size : ℕ) (calls : List (Call Taken)) (v : WindowView Taken) → IsWindowRun size calls v → AreInPlace (all_out calls)

abbrev pub HasOneOrder : Type 0
HasOneOrder = (size : ℕ) (calls : List (Call Taken)) (v : WindowView Taken) (ordered : List (Arrival Taken)) → IsWindowRun size calls v → v.held ≡ []
    → HaveOwnLines (all_came calls) → AreInPlace ordered → IsPermutation (all_came calls) ordered → all_out calls ≡ ordered

-- ---- nothing was read yet

pub nothing_read : (choice : Choice) (left : Option (List ℕ)) (ls : LinesView) (w : WindowView Taken) (known : EstimatesView) → ls ≡ record { longest = max_line; line = []; kept = []; is_skipped = false } → w.held ≡ [] → w.last ≡ None
    → AreEstimates [] known → HasRead choice [] [] left (record { lines = ls; window = w; estimates = known; number = 0; unnamed = 0; is_cut = false; stage = Reading })
nothing_read choice left ls w known is held last empty = record {
  lines = [];
  cut = ([], subst (AreUncut []) (sym is) (record { dropped = []; are = refl; both = refl }), λ later. refl);
  has_taken = record {
    taken = [];
    judged = λ later. refl;
    ranges = All-nil IsTakenInRange;
    few = lit≤ tt;
    below = All-nil (λ t. t.line ≤ 0);
    own = λ line. lit≤ tt;
    calls = [];
    run = (held, last, refl);
    came = refl;
    out = refl;
    known = empty;
    ahead = λ other some. absurd (omega (arith, some));
    number = refl;
    unnamed = refl;
    is_cut = refl;
    pushed = λ other. tt;
  };
  end = λ e. absurd cc;
}

-- ---- what is held is handed out

module _ (all : HandsAll) (few : HoldsFew) (order : HandsInOrder) (one : HasOneOrder) (choice : Choice) (bytes : List ℕ) (told : List Event) (left : Option (List ℕ)) (v : ReaderView) (h : HasRead choice bytes told left v) (ended : v.stage ≡ Ended) where
  abbrev t : HasTaken choice h.lines told v
  t = h.has_taken

  -- all was handed out
  all_handed : v.window.held ≡ [] → AreAll choice v.window.size bytes told
  unfolding requests_of
  all_handed none =
      let are : lines_of bytes ≡ h.lines = subst (λ s. AreCut s bytes h.lines v.lines) ended h.cut in
      let same = all v.window.size t.calls v.window t.run in
      record {
        taken = t.taken;
        are =
            ap (read_from choice v.window.size [] 1) (are ∙ sym (append-nil h.lines)) ∙ t.judged [];
        ranges = t.ranges;
        ordered = all_out t.calls;
        same =
            subst (λ (came : List (Arrival Taken)). IsPermutation came (all_out t.calls)) t.came
            (subst (IsPermutation (all_came t.calls)) (ap (λ (hs : List (Arrival Taken)). all_out t.calls ++ hs) none ∙ append-nil (all_out t.calls)) same);
        order = order v.window.size t.calls v.window t.run;
        one = λ others placed_too like.
            one v.window.size t.calls v.window others t.run none (subst HaveOwnLines (sym t.came) t.own) placed_too
            (subst (λ (came : List (Arrival Taken)). IsPermutation came others) (sym t.came) like);
        out = t.out;
      }

  abbrev es : List Event
  es = map event t.taken

  sums : length (all_out t.calls) + length v.window.held ≡ length t.taken
  sums =
      let same = length_permutation (all_came t.calls) (all_out t.calls ++ v.window.held) (all v.window.size t.calls v.window t.run) in
      let came = ap length t.came in
      omega (arith, same, came, length-map t.taken placed, length-append (all_out t.calls) v.window.held)

  popped_more : (x : Arrival Taken) (first : Taken) → AreHanded es (Some x) (Some first) → told ++ event first ∷ [] ≡ handed_from v.window.size es 0 (events_out (all_out t.calls ++ x ∷ []))
  popped_more x first are =
      let outs : List Event = events_out (all_out t.calls) in
      let low = few v.window.size t.calls v.window t.run in
      let whole : length es ≤ v.window.size + 1 + (0 + length outs) = omega (arith, length-map t.taken event, length-map (all_out t.calls) (λ y. event y.item), sums, low) in
      ap (λ (l : List Event). l ++ event first ∷ []) t.out
      ∙ ap (λ (e : Event). handed_from v.window.size es 0 outs ++ e ∷ []) (are ∙ sym (handed_whole v.window.size es (0 + length outs) (event x.item) whole))
      ∙ sym (handed_append v.window.size es 0 outs (event x.item))
      ∙ ap (handed_from v.window.size es 0) (sym (map-append (λ y. event y.item) (all_out t.calls) (x ∷ [])))

  -- the first of what is held was handed out, or nothing was held
  pub popped : (w : WindowView Taken) (known : EstimatesView) (out : Option (Arrival Taken)) (first : Option Taken) → IsPopped v.window out w → w.size ≡ v.window.size → Hands out v.estimates first known
      → Answers choice bytes told left (Ok first) (record { lines = v.lines; window = w; estimates = known; number = v.number; unnamed = v.unnamed; is_cut = v.is_cut; stage = v.stage })
  popped w known None None pop size hands =
      let both = hands es t.known in
      let kept : HasRead choice bytes told left (record { lines = v.lines; window = v.window; estimates = known; number = v.number; unnamed = v.unnamed; is_cut = v.is_cut; stage = v.stage }) = record {
        lines = h.lines;
        cut = h.cut;
        has_taken = record {
          taken = t.taken;
          judged = t.judged;
          ranges = t.ranges;
          few = t.few;
          below = t.below;
          own = t.own;
          calls = t.calls;
          run = t.run;
          came = t.came;
          out = t.out;
          known = both.1;
          ahead = t.ahead;
          number = t.number;
          unnamed = t.unnamed;
          is_cut = t.is_cut;
          pushed = t.pushed;
        };
        end = h.end;
      } in
      subst (λ u. Answers choice bytes told left (Ok None) (record { lines = v.lines; window = u; estimates = known; number = v.number; unnamed = v.unnamed; is_cut = v.is_cut; stage = v.stage })) (sym pop.1)
      (kept, all_handed pop.0, h.end ended)
  popped w known None (Some first) pop size hands = absurd (hands es t.known).0
  popped w known (Some x) None pop size hands = absurd (hands es t.known).0
  popped w known (Some x) (Some first) pop size hands =
      let both = hands es t.known in
      record {
        lines = h.lines;
        cut = h.cut;
        has_taken = record {
          taken = t.taken;
          judged = subst (λ n. (later : List _) → read_from choice n [] 1 (h.lines ++ later) ≡ read_from choice n es (v.number + 1) later) (sym size) t.judged;
          ranges = t.ranges;
          few = t.few;
          below = t.below;
          own = t.own;
          calls = record { came = None; out = Some x } ∷ t.calls;
          run = (v.window, subst (λ n. IsWindowRun n t.calls v.window) (sym size) t.run, pop, size);
          came = append-nil (all_came t.calls) ∙ t.came;
          out = subst (λ n. told ++ event first ∷ [] ≡ handed_from n es 0 (events_out (all_out t.calls ++ x ∷ []))) (sym size) (popped_more x first both.0);
          known = both.1;
          ahead = λ other. absurd (other ended);
          number = t.number;
          unnamed = t.unnamed;
          is_cut = t.is_cut;
          pushed = λ other. absurd (other ended);
        };
        end = h.end;
      }
