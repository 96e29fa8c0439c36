-- A window as its contracts see it.
use Rattle.std.proofs.Common.{◌≡◌, ◌≢◌, ℕ, ◌<◌, ◌≤◌, List, [], ◌∷◌, length, Option, Some, None, IsPermutation, refl, sym, ap, ◌∙◌, subst, arith}
use Rattle.apf_times.specs.declared.window.Arrival.{Arrival}
use Rattle.apf_times.specs.Windows.{HandsOut, NoneBefore, WindowView}
use Rattle.apf_times.specs.WindowRuns.{AllPushed, Call, IsCallOf, IsWindowRun}

-- what calls lead to that each brought something is told of what it holds, of what it handed out last, and of its size
module _ {T : Type 0} where
  call_kept : (came out : Option (Arrival T)) (w u v : WindowView T) → came ≢ None → v.held ≡ u.held → v.last ≡ u.last → IsCallOf came w out u → IsCallOf came w out v
  call_kept None out w u v some held last call = absurd (some refl)
  call_kept (Some x) None w u v some held last call =
      (call.0, (call.1.0, subst (IsPermutation (x ∷ w.held)) (sym held) call.1.1, last ∙ call.1.2))
  call_kept (Some x) (Some first) w u v some held last call = (
    call.0,
    (
      call.1.0,
      record {
        same = subst (λ hs. IsPermutation (x ∷ w.held) (first ∷ hs)) (sym held) call.1.1.same;
        is_first = subst (NoneBefore first) (sym held) call.1.1.is_first;
        last = last ∙ call.1.1.last;
      },
    ),
  )

  pub run_kept : (size : ℕ) (calls : List (Call T)) (u v : WindowView T) → AllPushed calls → v.held ≡ u.held → v.last ≡ u.last → v.size ≡ u.size → IsWindowRun size calls u → IsWindowRun size calls v
  run_kept size [] u v pushed held last same run = (held ∙ run.0, last ∙ run.1, same ∙ run.2)
  run_kept size (call ∷ calls) u v pushed held last same run =
      (run.0, run.1, call_kept call.came call.out run.0 u v pushed.0 held last run.2, same ∙ run.3)
