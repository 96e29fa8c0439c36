-- One request more, with its wait if it was executed.
use Rattle.std.proofs.Common.{◌≡◌, ℕ, ◌+◌, ◌<◌, List, [], ◌∷◌, ◌++◌, length, sym, ap, ◌∙◌, subst, arith}
use Rattle.apf_times.specs.Waits.{AreKept, WaitsView, number}
use Rattle.apf_rows.specs.declared.sums.Sums.{Sums}
use Rattle.apf_rows.specs.Accounts.{AccountView, AreSums, IsAccount, before, executed_wait, waits_of, with_one}
use Rattle.apf_stream.specs.Waits.{wait_of}
use Rattle.apf_rows.proofs.Keeping.{before_number, kept_number, waits_then}
use Rattle.apf_rows.proofs.Summing.{more_sums}
use Rattle.apf_rows.proofs.account.Account.add.Goals as goal

pub note-requires-clause-room : goal.note-requires-clause-room
note-requires-clause-room c =
    let i = c.self.invariant in
    let n = kept_number i.waits c.self.inside.waits i.kept in
    let m = i.many in
    let b = i.bounded.executed in
    let r = c.requires.room in
    let e = ap (λ (v : AccountView). v.sums.requests) c.self.view_is in
    omega arith

pub invariant_of-self-2 : goal.invariant_of-self-2
invariant_of-self-2 c =
    let i = c.self.invariant in
    let e = c.args.ended.now in
    let b = before_number e.decision c.wait.result i.waits in
    let m = i.many in
    let x = ap (λ (s : Sums). s.executed) c.with-self-inside.ensures.is in
    record {
      bounded = c.with-self-inside.ensures.bounded;
      waits = before (executed_wait e.decision c.wait.result) i.waits;
      kept = c.in_ok-note.ensures.kept i.waits i.kept;
      many = omega arith;
    }

pub returns-clause-added : goal.returns-clause-added
returns-clause-added c told is =
    let e = c.args.ended.now in
    let was = subst (IsAccount told) (sym c.self.view_is) is in
    record {
      sums = subst (AreSums (told ++ e ∷ [])) (sym c.with-self-inside.ensures.is) (more_sums told e c.self.inside.sums was.sums);
      waits = subst (λ (ws : List ℕ). AreKept ws c.note.new.waits) (ap (λ (w : ℕ). before (executed_wait e.decision w) (waits_of told)) c.wait.ensures.is ∙ sym (waits_then told e))
          (c.in_ok-note.ensures.kept (waits_of told) was.waits);
    }
