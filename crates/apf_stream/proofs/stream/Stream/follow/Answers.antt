-- One event more.
use Rattle.std.proofs.Common.{◌≡◌, ◌≤◌, List, [], Vec, Global, sym, subst, ◌∙◌, arith}
use Rattle.apf_stream.specs.declared.ended.Ended.{Ended}
use Rattle.apf_stream.specs.declared.stream.Stream.{Stream}
use Rattle.apf_stream.specs.Measures.{left}
use Rattle.apf_stream.specs.Runs.{HasRun}
use Rattle.apf_stream.specs.States.{state_of}
use Rattle.apf_stream.specs.Ties.{AreTied}
use Rattle.apf_stream.proofs.Chains.{ran_then}
use Rattle.apf_stream.proofs.stream.Stream.follow.Goals.{then-place-len+in_ok-hear, else-place-len}
use Rattle.apf_stream.proofs.stream.Stream.follow.Goals as goal

-- what stays by each event
record Kept (old : Stream) (before : List Ended) (new : Stream) (after : Vec Ended Global) : Type 0 where
  tied : AreTied (state_of new)
  run : HasRun [] (state_of old) before (state_of new) after.items
  no_more : left new.calendar.slots ≤ left old.calendar.slots
  time : new.calendar.time ≡ old.calendar.time

pub loop-place-preserved : goal.loop-place-preserved
loop-place-preserved c =
    let old = c.args.self.now in
    let before = c.args.ends.now.items in
    let s = c.loop-place.self in
    let i = c.loop-place.invariant in
    let kept : Kept old before c.if-place-len.self c.if-place-len.ends = elim c.if-place-len.branch [
      | then-place-len+in_ok-hear w ↦
          let h = w.in_ok-hear.ensures in
          let few = h.no_more in
          let fewer = i.no_more in
          subst (λ (x : Stream). Kept old before x c.if-place-len.ends) (sym w.self-is) (subst (λ (e : Vec Ended Global). Kept old before w.hear.new.self e) (sym w.ends-is) (record {
            tied = h.tied;
            run = ran_then [] [] (state_of old) (state_of s) (state_of w.hear.new.self) before c.loop-place.ends.items w.hear.new.ends.items i.run h.run;
            no_more = omega arith;
            time = h.time ∙ i.time;
          }))
      | else-place-len w ↦
          subst (λ (x : Stream). Kept old before x c.if-place-len.ends) (sym w.self-is) (subst (λ (e : Vec Ended Global). Kept old before s e) (sym w.ends-is) (record {
            tied = i.tied;
            run = i.run;
            no_more = i.no_more;
            time = i.time;
          }))
    ] in
    record { tied = kept.tied; run = kept.run; no_more = kept.no_more; time = kept.time }
