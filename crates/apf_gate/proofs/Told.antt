-- What a step told, read off the step.
use Rattle.std.proofs.Common.{◌≡◌, ◌≢◌, ℕ, Bool, List, sym, ap, ◌∙◌, subst, eq-eqb, ne_eqb}
use Rattle.std.specs.Prelude.{◌==◌, MatchBool}
use Rattle.apf_words.specs.Level.{Level, packed}
use Rattle.apf_gate.specs.declared.record.PassRecord.{PassRecord}
use Rattle.apf_gate.specs.declared.record.Record.{Record}
use Rattle.apf_gate.specs.declared.record.StationRecord.{StationRecord}
use Rattle.apf_gate.specs.Rule.{pass_of, station_of}
use Rattle.apf_gate.specs.Steps.{IsInRange, ByPass, ByStation, OfLevel}
use Rattle.apf_gate.proofs.WordNumbers.{packed_same}
use Rattle.apf_gate.proofs.Packing.{is_small}
use Rattle.atomic_table.specs.Table.{Me}

pub by_pass : (Tells : PassRecord → ℕ → PassRecord → Type 0) (me : Me (Unit {0}) (List Record)) (n : ℕ) (now : Me (Unit {0}) (List Record)) → ByPass Tells me n now → Tells (pass_of me.0) n (pass_of now.0)
by_pass Tells me n now h = subst (Tells (pass_of me.0) n) (sym (ap pass_of h.1.1)) h.1.2

pub by_station : (Tells : StationRecord → ℕ → StationRecord → Type 0) (me : Me (Unit {0}) (List Record)) (n : ℕ) (now : Me (Unit {0}) (List Record)) → ByStation Tells me n now → Tells (station_of me.0) n (station_of now.0)
by_station Tells me n now h = subst (Tells (station_of me.0) n) (sym (ap station_of h.1.1)) h.1.2

-- an exchange that found the word of this level
pub hit_level : (P Q : Level → Type 0) (n expected : ℕ) (l : Level) → ((k : Level) → P k → IsInRange k) → n ≡ expected → expected ≡ packed l → IsInRange l → OfLevel (λ k. MatchBool (n == expected) (P k) (Q k)) n → P l
hit_level P Q n expected l range is said small h =
    let p = subst (λ (b : Bool). MatchBool b (P h.0) (Q h.0)) (eq-eqb n expected is) h.2 in
    subst P (packed_same h.0 l (is_small h.0 (range h.0 p)) (is_small l small) (sym h.1 ∙ (is ∙ said))) p

-- an exchange that found another word
pub missed_level : (P Q : Level → Type 0) (n expected : ℕ) (l : Level) → n ≢ expected → expected ≡ packed l → OfLevel (λ k. MatchBool (n == expected) (P k) (Q k)) n → (k : Level) × (k ≢ l) × Q k
missed_level P Q n expected l ne said h = (h.0, (λ e. ne (h.1 ∙ (ap packed e ∙ sym said))), subst (λ (b : Bool). MatchBool b (P h.0) (Q h.0)) (ne_eqb n expected ne) h.2)
