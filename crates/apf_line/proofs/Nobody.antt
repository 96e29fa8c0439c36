-- Nobody waits on a level whose slots all came back.
use Rattle.std.proofs.Common.{◌≡◌, ◌≢◌, ℕ, zero, suc, ◌<◌, ◌⊎◌, inl, inr, true, false, List, [], ◌∷◌, length, Option, Some, None, sym, ap, ◌∙◌, subst, arith}
use Rattle.std.specs.Prelude.{All, slice_index_or}
use Rattle.std.proofs.lemmas.Bool.{cases_eq}
use Rattle.apf_words.specs.declared.decision.Decision.{Decision}
use Rattle.apf_words.specs.declared.decision.Decision.TheVariants.{Execute, Cancelled}
use Rattle.apf_model.specs.World.{World}
use Rattle.apf_model.specs.declared.moves.Stage.{Stage}
use Rattle.apf_model.specs.declared.moves.Stage.TheVariants.{Away, Waits, Gone}
use Rattle.apf_gate.specs.declared.record.Shape.{Shape}
use Rattle.apf_gate.specs.declared.record.State.{State}
use Rattle.apf_gate.specs.declared.record.State.TheVariants.{Fresh}
use Rattle.apf_gate.specs.declared.record.PassRecord.{PassRecord}
use Rattle.apf_gate.specs.declared.record.DeskRecord.{DeskRecord}
use Rattle.apf_gate.specs.declared.record.Service.{Service}
use Rattle.apf_gate.specs.declared.record.Service.TheVariants as service_is
use Rattle.apf_gate.specs.declared.record.Record.{Record}
use Rattle.apf_gate.specs.declared.record.Record.TheVariants.{Pass, Desk}
use Rattle.apf_gate.specs.Records.{told_of, told_own, service}
use Rattle.apf_gate.specs.Requests.{IsRequest, IsState, IsHanded, MayHold}
use Rattle.apf_gate.specs.PassSteps.{MayRenew}
use Rattle.apf_gate.specs.Slots.{slot_of}
use Rattle.apf_gate.specs.Traces.{world_of}
use Rattle.apf_gate.specs.Account.{Account}
use Rattle.apf_gate.specs.Rule.{Every, IsRecord}
use Rattle.apf_gate.specs.Ends.{passes_before, stations_before}
use Rattle.apf_gate.specs.Tokens.{GateId, PassToken, StationToken}
use Rattle.apf_gate.specs.LifeEnds.{LifeView as WordsView, LifeEndsWith, LifeAgrees}
use Rattle.apf_line.specs.Tokens.{IsDone}

every_stations : (P : Record → Type 0) (ts : List StationToken) (rest : List Record) → Every P (stations_before ts rest) → Every P rest
every_stations P [] rest k = k
every_stations P (t ∷ ts) rest k = every_stations P ts rest k.1

every_passes : (P : Record → Type 0) (ps : List PassToken) (rest : List Record) → Every P (passes_before ps rest) → Every P rest
every_passes P [] rest k = k
every_passes P (t ∷ ts) rest k = every_passes P ts rest k.1

pass_at : (P : Record → Type 0) (ps : List PassToken) (rest : List Record) (i : ℕ) (t : PassToken) → Every P (passes_before ps rest) → i < length ps → slice_index_or ps i t ≡ t → P (Pass t.pass)
pass_at P [] rest i t k low is = absurd (omega arith)
pass_at P (p ∷ ps) rest zero t k low is = subst (λ (u : PassToken). P (Pass u.pass)) is k.0
pass_at P (p ∷ ps) rest (suc i) t k low is = pass_at P ps rest i t k.1 (omega arith) is

never_holds : (found : Option Decision) → MayHold None found → found ≡ Some Execute → ⊥
never_holds found (inl none) is = let bad : ◌≡◌ {A = Option Decision} None (Some Execute) = sym none ∙ is in cc
never_holds found (inr cancelled) is = let bad : ◌≡◌ {A = Option Decision} (Some Cancelled) (Some Execute) = sym cancelled ∙ is in cc

-- a request that may be left does not wait
module _ (shape : Shape) (r : ℕ) (p : PassRecord) (w : World) (q : IsRequest shape r p service_is.Waiting w) where
  handed : IsHanded p
  handed = q.own.handed q.tied.handed

  pub not_left : (told_own p ≡ Some Execute → w.decision r ≡ Some Execute) → MayRenew p → ⊥
  not_left told (inl fresh) =
      let own : IsState Fresh p = subst (λ (s : State). IsState s p) fresh q.own.state in
      let bad : true ≡ false = sym handed.asked ∙ own.1 in cc
  not_left told (inr (some, inl over)) = never_holds (w.decision r) q.word (told (handed.over over))
  not_left told (inr (some, inr (in_line, inl out))) = let bad : true ≡ false = sym q.tied.entered ∙ out in cc
  not_left told (inr (some, inr (in_line, inr left))) = let bad : service_is.Waiting ≡ service_is.Left = q.tied.left left in cc

not_idle : (s : Stage) → (s ≡ Away) ⊎ (s ≡ Gone) → s ≡ Waits → ⊥
not_idle s (inl away) waits = let bad : Away ≡ Waits = sym away ∙ waits in cc
not_idle s (inr gone) waits = let bad : Gone ≡ Waits = sym gone ∙ waits in cc

module _ (g : GateId) (d : DeskRecord) (ps : List PassToken) (ss : List StationToken) (w : WordsView) (e : LifeEndsWith g d ps ss w) (a : LifeAgrees g d ps ss w) (done : All IsDone ps) where
  abbrev account : Account
  account = e.ended.account

  standing : Every (IsRecord g.shape account) (passes_before ps (Desk d ∷ []))
  standing = every_stations (IsRecord g.shape account) ss (passes_before ps (Desk d ∷ [])) e.ended.stand

  desk_here : account.desk ≡ d
  desk_here = (every_passes (IsRecord g.shape account) ps (Desk d ∷ []) standing).0

  module _ (r : ℕ) (low : r < length g.shape.widths) (waits : service d r ≡ service_is.Waiting) where
    request : IsRequest g.shape r (account.pass r) service_is.Waiting (world_of g.shape account.trace)
    request = subst (λ (s : Service). IsRequest g.shape r (account.pass r) s (world_of g.shape account.trace)) (ap (λ (x : DeskRecord). service x r) desk_here ∙ waits) (e.ended.sound.request r low)

    told_is : told_own (account.pass r) ≡ Some Execute → (world_of g.shape account.trace).decision r ≡ Some Execute
    told_is told =
        let known = e.ended.sound.pass_knows r low in
        let here : told_of (account.pass r).knows.told r ≡ Some Execute = ap (told_of (account.pass r).knows.told) (sym request.tied.number) ∙ told in
        known.told r (λ none. let bad : ◌≡◌ {A = Option Decision} None (Some Execute) = sym none ∙ here in cc) ∙ here

    holding : account.current (slot_of r) ≡ r → ⊥
    holding holds =
        let any = a.each_slot (slot_of r) (e.ended.slots.inside r low holds) in
        let t : PassToken = any.1 in
        let here = pass_at (IsRecord g.shape account) ps (Desk d ∷ []) any.0 t standing any.2 any.3 in
        let number : t.pass.number ≡ r = sym here.2 ∙ (ap account.current any.4 ∙ holds) in
        let back : IsDone t = subst IsDone any.3 (done any.0 t any.2) in
        let same : t.pass ≡ account.pass r = sym here.1 ∙ ap account.pass number in
        not_left g.shape r (account.pass r) (world_of g.shape account.trace) request told_is (subst MayRenew same back.may)

    never : ⊥
    never = elim (cases_eq (account.current (slot_of r)) r) [
      | inl holds ↦ holding holds
      | inr other ↦ not_idle ((world_of g.shape account.trace).stage r) (e.ended.slots.idle r low other) request.stage
    ]

  pub nobody : (r : ℕ) → r < length g.shape.widths → service d r ≢ service_is.Waiting
  nobody r low waits = never r low waits
