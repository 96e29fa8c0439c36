-- What the workers gave back, with what one more gave back.
use Rattle.std.proofs.Common.{◌≡◌, true, List, [], ◌∷◌, ◌++◌}
use Rattle.std.proofs.lemmas.List.Elements.{All-append, All-push}
use Rattle.std.proofs.lemmas.List.Quantifiers.{Any-push}
use Rattle.apf_files.specs.declared.requests.Request.{Request}
use Rattle.apf_gate.specs.Tokens.{GateId, PassToken, StationToken, pass_gate}
use Rattle.apf_run.specs.Plans.{IsFaithful, closes_at}
use Rattle.apf_run.specs.Workers.{Load, IsLoadOf}
use Rattle.apf_run.specs.Runs.{Returned, AreFinished, SeenClosed}
use Rattle.apf_run.proofs.Gathered.{all_as, any_more}

pub one_more : (gate : GateId) (requests : List Request) (r : Returned) (w : Load) → AreFinished gate requests r → IsLoadOf gate requests w
    → AreFinished gate requests (record { dones = r.dones ++ w.dones; stations = r.stations ++ w.station ∷ [] })
one_more gate requests r w had is =
    let Closed : List StationToken → PassToken → Type 0 = λ stations t. closes_at requests t.pass.number ≡ true → SeenClosed stations in
    let stations : List StationToken = r.stations ++ w.station ∷ [] in record {
      own = All-append (λ (t : PassToken). pass_gate t ≡ gate) r.dones w.dones had.own is.dones;
      faithful = All-push (IsFaithful gate requests) r.stations w.station had.faithful is.faithful;
      closed = All-append (Closed stations) r.dones w.dones
          (all_as (Closed r.stations) (Closed stations) r.dones (λ t seen closes. any_more (λ (s : StationToken). s.station.knows.saw_closed ≡ true) r.stations w.station (seen closes)) had.closed)
          (all_as (λ (t : PassToken). closes_at requests t.pass.number ≡ true → w.station.station.knows.saw_closed ≡ true) (Closed stations) w.dones
          (λ t saw closes. Any-push (λ (s : StationToken). s.station.knows.saw_closed ≡ true) r.stations w.station (saw closes)) is.closed);
    }
