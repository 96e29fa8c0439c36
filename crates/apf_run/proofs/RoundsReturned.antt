-- What the workers gave back, with what one more gave back.
use Rattle.std.proofs.Common.{◌≡◌, ◌≢◌, ℕ, true, None, List, [], ◌∷◌, ◌++◌, All}
use Rattle.std.proofs.lemmas.List.Elements.{All-append, All-push}
use Rattle.std.proofs.lemmas.List.Quantifiers.{Any-push}
use Rattle.apf_files.specs.declared.requests.Request.{Request}
use Rattle.apf_gate.specs.Records.{told_of}
use Rattle.apf_gate.specs.Slots.{slot_of}
use Rattle.apf_gate.specs.Tokens.{GateId, PassToken, StationToken, pass_gate}
use Rattle.apf_run.specs.RoundsPlans.{number_in, IsFaithful}
use Rattle.apf_run.specs.RoundsWorkers.{Load, IsInRound, IsKnown, HasAsked, IsLoadOf}
use Rattle.apf_run.specs.Runs.{Returned}
use Rattle.apf_run.specs.RoundsRuns.{IsKnownTo, AreFinished}
use Rattle.apf_run.proofs.Gathered.{all_as, any_more}

known_more : (requests : List Request) (stations : List StationToken) (s : StationToken) (t : PassToken) → IsKnownTo requests stations t → IsKnownTo requests (stations ++ s ∷ []) t
known_more requests stations s t known = record {
  closed = λ came closes. any_more (λ (o : StationToken). o.station.knows.saw_closed ≡ true) stations s (known.closed came closes);
  told = λ round came below. any_more (λ (o : StationToken). told_of o.station.knows.told (number_in requests (slot_of t.pass.number) round) ≢ None) stations s (known.told round came below);
}

known_by : (requests : List Request) (stations : List StationToken) (s : StationToken) (t : PassToken) → IsKnown requests s t → IsKnownTo requests (stations ++ s ∷ []) t
known_by requests stations s t known = record {
  closed = λ came closes. Any-push (λ (o : StationToken). o.station.knows.saw_closed ≡ true) stations s (known.closed came closes);
  told = λ round came below. Any-push (λ (o : StationToken). told_of o.station.knows.told (number_in requests (slot_of t.pass.number) round) ≢ None) stations s (known.told round came below);
}

pub one_more : (gate : GateId) (requests : List Request) (rounds : ℕ) (r : Returned) (w : Load) → AreFinished gate requests rounds r → IsLoadOf gate requests rounds w → All (IsInRound rounds) w.slots
    → AreFinished gate requests rounds (record { dones = r.dones ++ w.slots; stations = r.stations ++ w.station ∷ [] })
one_more gate requests rounds r w had is through =
    let stations : List StationToken = r.stations ++ w.station ∷ [] in record {
      own = All-append (λ (t : PassToken). pass_gate t ≡ gate) r.dones w.slots had.own is.own;
      through = All-append (IsInRound rounds) r.dones w.slots had.through through;
      faithful = All-push (IsFaithful gate requests rounds) r.stations w.station had.faithful is.faithful;
      known = All-append (IsKnownTo requests stations) r.dones w.slots
          (all_as (IsKnownTo requests r.stations) (IsKnownTo requests stations) r.dones (known_more requests r.stations w.station) had.known)
          (all_as (IsKnown requests w.station) (IsKnownTo requests stations) w.slots (known_by requests r.stations w.station) is.known);
      asked = All-append (HasAsked requests) r.dones w.slots had.asked is.asked;
    }
