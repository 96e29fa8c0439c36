-- Which requests the words of a command line choose, what those of a level are charged, and which stretch of a run is drawn.
use Rattle.std.specs.Prelude.{◌≡◌, ◌≤◌, ⊤, ℕ, List, Option, Some, None, IfSome, unwrap_or}
use Rattle.std.specs.Borrow.{Bor}
use Rattle.apf_audit.specs.Choice.{by_named}
use Rattle.apf_audit.specs.Times.{instant_of}
use Rattle.apf_audit.specs.declared.choice.By.{By}
use Rattle.apf_audit.specs.declared.choice.By.TheVariants.{User}
use Rattle.apf_audit.specs.declared.choice.Choice.{Choice}
use Rattle.apf_charges.specs.Charging.{named}
use Rattle.apf_charges.specs.declared.charges.ChargedBy.{ChargedBy}
use Rattle.apf_charges.specs.declared.charges.ChargedBy.TheVariants.{Time}
use Rattle.apf_commands.specs.Patience.{IsNoTime, IsTime, most_time}
use Rattle.apf_commands.specs.declared.words.Chosen.{Chosen}
use Rattle.apf_simulator.specs.declared.held.TimeWindow.{TimeWindow}

-- what makes a flow: what the word says, and users where there is none
abbrev pub IsByFor : Option (Bor (List ℕ)) → By → Type 0
IsByFor None by = by ≡ User
IsByFor (Some word) by = by_named word.now ≡ Some by

-- the word says nothing that makes a flow
abbrev pub IsNoByFor : Option (Bor (List ℕ)) → Type 0
IsNoByFor None = ⊥
IsNoByFor (Some word) = by_named word.now ≡ None

-- the instant that the word says, and none where there is none
abbrev pub IsInstantFor : Option (Bor (List ℕ)) → Option ℕ → Type 0
IsInstantFor None instant = instant ≡ None
IsInstantFor (Some word) None = ⊥
IsInstantFor (Some word) (Some instant) = instant_of word.now ≡ Some instant

-- the word says no instant
abbrev pub IsNoInstantFor : Option (Bor (List ℕ)) → Type 0
IsNoInstantFor None = ⊥
IsNoInstantFor (Some word) = instant_of word.now ≡ None

-- the choice that the words say
pub record IsChoiceFor (chosen : Chosen) (choice : Choice) : Type 0 where
  pub by : IsByFor chosen.by choice.by
  pub user : choice.user ≡ chosen.user
  pub since : IsInstantFor chosen.since choice.since
  pub until : IsInstantFor chosen.until choice.until

-- what requests are charged: what the word says, and time where there is none
abbrev pub IsChargeFor : Option (Bor (List ℕ)) → ChargedBy → Type 0
IsChargeFor None charged = charged ≡ Time
IsChargeFor (Some word) charged = named word.now ≡ Some charged

-- what the word says that requests are charged, and nothing where there is none
abbrev pub IsChargeNamed : Option (Bor (List ℕ)) → Option ChargedBy → Type 0
IsChargeNamed None charged = charged ≡ None
IsChargeNamed (Some word) None = ⊥
IsChargeNamed (Some word) (Some charged) = named word.now ≡ Some charged

-- the word says nothing that requests are charged
abbrev pub IsNoChargeFor : Option (Bor (List ℕ)) → Type 0
IsNoChargeFor None = ⊥
IsNoChargeFor (Some word) = named word.now ≡ None

-- the time that the word says, and none where there is none
abbrev pub IsTimeFor : Option (Bor (List ℕ)) → Option ℕ → Type 0
IsTimeFor None time = time ≡ None
IsTimeFor (Some word) None = ⊥
IsTimeFor (Some word) (Some time) = IsTime most_time word.now time

-- from when on requests are counted: from the time that the word says, and from the first one on where there is none
abbrev pub IsSinceFor : Option (Bor (List ℕ)) → ℕ → Type 0
IsSinceFor word since = (time : Option ℕ) × IsTimeFor word time × (since ≡ unwrap_or time 0)

-- the word says no time
abbrev pub IsNoTimeFor : Option (Bor (List ℕ)) → Type 0
IsNoTimeFor None = ⊥
IsNoTimeFor (Some word) = IsNoTime most_time word.now

-- the stretch of a run that the words say: from the time of the one on, and from the run's beginning where there is none, up to that of the other, and up to the run's end where there is none
pub record IsWindowFor (from to : Option (Bor (List ℕ))) (window : TimeWindow) : Type 0 where
  pub first : Option ℕ
  pub from_is : IsTimeFor from first
  pub begins : window.from ≡ unwrap_or first 0
  pub to_is : IsTimeFor to window.to
  pub ends : IfSome window.to (λ last. window.from ≤ last)
